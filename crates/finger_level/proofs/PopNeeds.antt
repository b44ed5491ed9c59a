-- What a pop needs, from the records that it reads.
use Rattle.std.proofs.Common.{◌≡◌, ℕ, ◌≤◌, eqb, refl, sym, ap, ◌∙◌, arith, Bool, true, false, Some, None, List, [], ◌∷◌, length}
use Rattle.std.specs.Prelude.{cond}
use Rattle.std.proofs.lemmas.Bool.{true≢false, ne_eqb}
use Rattle.lazy_rec.specs.declared.places.Ref.{Ref}
use Rattle.lazy_rec.specs.declared.places.Item.{Item}
use Rattle.lazy_rec.specs.declared.records.Rec.{Rec}
use Rattle.lazy_rec.specs.declared.records.Rec.TheVariants.{TEmpty, Single, Deep}
use Rattle.heap_store.specs.World.{World, recs, holds}
use Rattle.heap_store.specs.Growth.{Grows}
use Rattle.heap_store.specs.Values.{value_place}
use Rattle.heap_store.specs.Lawful.{IsLawful}
use Rattle.heap_store.specs.Completion as top
use Rattle.heap_store.specs.Completion.{Made, elements, of_digit}
use Rattle.heap_store.proofs.GrowthLaws.{at_true}
use Rattle.heap_store.proofs.ShowLaws.{one_value}
use Rattle.finger_level.specs.declared.few.Few.{Few}
use Rattle.finger_level.specs.declared.few.Few.TheVariants as few
use Rattle.finger_level.specs.declared.level.Side.{Side}
use Rattle.finger_level.specs.declared.level.Side.TheVariants as sides
use Rattle.finger_level.specs.Few.{few_list}
use Rattle.finger_level.specs.Level.{made_places, drawn_kept}
use Rattle.finger_level.specs.Reads.{is_digit_rec, is_tree_value}
use Rattle.finger_level.specs.Pops.{both_ends, from_middle, is_single, drawn_places, drawn_middle, pop_places, shown_at, PopReady, IsToDraw}
use Rattle.finger_level.proofs.Draws.{deep_digits}
use Rattle.finger_level.proofs.Found.{IsValueAt, digit_elements}
use Rattle.finger_level.proofs.Popping.{deep_middle, few_there}

-- a value shows a level
pub level_shown : {w : World} → IsLawful w → (q : ℕ) (r : Rec) → recs w q ≡ Some r → is_tree_value r ≡ true → (m : Made) × (shown_at w q ≡ Some m)
level_shown law q TEmpty e h = (top.empty, rw e refl)
level_shown law q (Single x z k) e h = (top.one x.0, rw e refl)
level_shown {w} law q (Deep l m r z k) e h = (top.deep (elements w l.0) (top.tree (Some m.0)) (elements w r.0), rw e refl)
level_shown law q _ e h = absurd (true≢false (sym h))

pub digit_up : {a b : World} → Grows a b → (p : ℕ) → holds (recs a) p is_digit_rec ≡ true → holds (recs b) p is_digit_rec ≡ true
digit_up {a} g p h = let t = at_true is_digit_rec (recs a p) h in rw (g.records p t.0 t.1) t.2

pub single_up : {a b : World} → Grows a b → (p : ℕ) → holds (recs a) p is_digit_rec ≡ true → (one : Bool) → one ≡ is_single (elements a p) → one ≡ is_single (elements b p)
single_up {a} g p h one is = let t = at_true is_digit_rec (recs a p) h in rw (g.records p t.0 t.1) (rw t.1 at is)

-- whether a list has one element, by its length
pub one_element : (es : List ℕ) (count : ℕ) → count ≡ length es → eqb count 1 ≡ is_single es
one_element [] count n = rw n refl
one_element (a ∷ []) count n = rw n refl
one_element (a ∷ b ∷ es) count n = ne_eqb count 1 (λ q. omega (arith, q, n))

-- ---- the places of what is drawn

-- the digit of the side that a level shows, and the other
pub ends_shown : (w : World) (side : Side) (left right near far : Ref) → (near, far) ≡ both_ends side left right → both_ends side (elements w left.0) (elements w right.0) ≡ (elements w near.0, elements w far.0)
ends_shown w sides.Left left right near far ends = sym (ap (λ (x : Ref × Ref). (elements w x.0.0, elements w x.1.0)) ends)
ends_shown w sides.Right left right near far ends = sym (ap (λ (x : Ref × Ref). (elements w x.0.0, elements w x.1.0)) ends)

pub count_of_empty : {w : World} → IsLawful w → (side : Side) (q p : ℕ) → recs w q ≡ Some TEmpty → holds (recs w) p is_digit_rec ≡ true → (one : Bool) → one ≡ is_single (elements w p) → (shown : Made) → shown_at w q ≡ Some shown → cond one 1 3 ≡ drawn_places side (elements w p) shown
count_of_empty {w} law side q p e digit one is shown h =
    let same : top.empty ≡ shown = one_value _ _ (rw e at h) in
    let f = few_there law p digit in
    rw (← same, is, digit_elements w p f.0 f.1) (by f.0)
  where
    by : (f : Few) → cond (is_single (few_list f)) 1 3 ≡ made_places 1 (of_digit (few_list f))
    by (few.One a) = refl
    by (few.Two a b) = refl
    by (few.Three a b c) = refl
    by (few.Four a b c d) = refl

pub count_of_single : (w : World) (side : Side) (q p : ℕ) (x : Ref) (z : ℕ) (k : Item) → recs w q ≡ Some (Single x z k) → (shown : Made) → shown_at w q ≡ Some shown → 2 ≡ drawn_places side (elements w p) shown
count_of_single w side q p x z k e shown h = let same : top.one x.0 ≡ shown = one_value _ _ (rw e at h) in rw (← same) refl

pub count_of_deep : (w : World) (side : Side) (q p : ℕ) (left middle right near far : Ref) (z : ℕ) (k : Item) → recs w q ≡ Some (Deep left middle right z k) → (near, far) ≡ both_ends side left right → (one : Bool) → one ≡ is_single (elements w near.0) → (shown : Made) → shown_at w q ≡ Some shown → cond one 3 4 ≡ drawn_places side (elements w p) shown
count_of_deep w side q p left middle right near far z k e ends one is shown h =
    let same : top.deep (elements w left.0) (top.tree (Some middle.0)) (elements w right.0) ≡ shown = one_value _ _ (rw e at h) in
    rw (← same, is, ends_shown w side left right near far ends) refl

-- what is made of a middle's value and a digit, and its places
pub record IsDrawnUp (w : World) (side : Side) (r : Rec) (digit : List ℕ) (shown : Made) : Type 0 where
  pub made : Made
  pub makes : from_middle side w r digit ≡ Some made
  pub places : drawn_places side digit shown ≡ made_places (drawn_kept shown) made

of_deep : (w : World) (side : Side) (left middle right : Ref) (z : ℕ) (k : Item) (digit : List ℕ) (f : Few) → (both_ends side (elements w left.0) (elements w right.0)).0 ≡ few_list f → IsDrawnUp w side (Deep left middle right z k) digit (top.deep (elements w left.0) (top.tree (Some middle.0)) (elements w right.0))
of_deep w sides.Left left middle right z k digit (few.One a) e = record { made = top.deep (elements w a.0) (top.without_left middle.0 (elements w right.0)) digit; makes = rw e refl; places = rw e refl }
of_deep w sides.Left left middle right z k digit (few.Two a b) e = record { made = top.deep (elements w a.0) (top.shorter_left (b.0 ∷ []) middle.0 (elements w right.0)) digit; makes = rw e refl; places = rw e refl }
of_deep w sides.Left left middle right z k digit (few.Three a b c) e = record { made = top.deep (elements w a.0) (top.shorter_left (b.0 ∷ c.0 ∷ []) middle.0 (elements w right.0)) digit; makes = rw e refl; places = rw e refl }
of_deep w sides.Left left middle right z k digit (few.Four a b c d) e = record { made = top.deep (elements w a.0) (top.shorter_left (b.0 ∷ c.0 ∷ d.0 ∷ []) middle.0 (elements w right.0)) digit; makes = rw e refl; places = rw e refl }
of_deep w sides.Right left middle right z k digit (few.One a) e = record { made = top.deep digit (top.without_right middle.0 (elements w left.0)) (elements w a.0); makes = rw e refl; places = rw e refl }
of_deep w sides.Right left middle right z k digit (few.Two a b) e = record { made = top.deep digit (top.shorter_right (elements w left.0) middle.0 (a.0 ∷ [])) (elements w b.0); makes = rw e refl; places = rw e refl }
of_deep w sides.Right left middle right z k digit (few.Three a b c) e = record { made = top.deep digit (top.shorter_right (elements w left.0) middle.0 (a.0 ∷ b.0 ∷ [])) (elements w c.0); makes = rw e refl; places = rw e refl }
of_deep w sides.Right left middle right z k digit (few.Four a b c d) e = record { made = top.deep digit (top.shorter_right (elements w left.0) middle.0 (a.0 ∷ b.0 ∷ c.0 ∷ [])) (elements w d.0); makes = rw e refl; places = rw e refl }

pub drawn_up : {w : World} → IsLawful w → (side : Side) (q : ℕ) (r : Rec) → recs w q ≡ Some r → (shown : Made) → top.top_of_record w r ≡ Some shown → (digit : List ℕ) → IsDrawnUp w side r digit shown
drawn_up {w} law side q TEmpty here shown shows digit = let same : top.empty ≡ shown = one_value _ _ shows in rw (← same) (by side)
  where
    by : (side : Side) → IsDrawnUp w side TEmpty digit top.empty
    by sides.Left = record { made = of_digit digit; makes = refl; places = refl }
    by sides.Right = record { made = of_digit digit; makes = refl; places = refl }
drawn_up {w} law side q (Single x z k) here shown shows digit = let same : top.one x.0 ≡ shown = one_value _ _ shows in rw (← same) (by side)
  where
    by : (side : Side) → IsDrawnUp w side (Single x z k) digit (top.one x.0)
    by sides.Left = record { made = top.deep (elements w x.0) (top.tree None) digit; makes = refl; places = refl }
    by sides.Right = record { made = top.deep digit (top.tree None) (elements w x.0); makes = refl; places = refl }
drawn_up {w} law side q (Deep left middle right z k) here shown shows digit =
    let same : top.deep (elements w left.0) (top.tree (Some middle.0)) (elements w right.0) ≡ shown = one_value _ _ shows in
    let ends = both_ends side left right in
    let f = few_there law ends.0.0 (deep_digits law q left middle right z k here side ends.0 ends.1 refl).0 in
    rw (← same) (of_deep w side left middle right z k digit f.0 (ap (λ (x : List ℕ × List ℕ). x.0) (ends_shown w side left right ends.0 ends.1 refl) ∙ digit_elements w ends.0.0 f.0 f.1))
drawn_up law side q _ here shown shows digit = absurd (let z : None ≡ Some shown = shows in cc)

-- ---- what a pop needs

pub none_ready : {w : World} (side : Side) (root : ℕ) (r : Rec) → recs w root ≡ Some r → (shown : Made) → top.top_of_record w r ≡ Some shown → ((below : Made) → pop_places side shown below ≡ 0) → drawn_middle side shown ≡ None → PopReady w side root 0
none_ready side root r e shown here none h0 = record {
  shown = shown;
  here = rw e here;
  from = 0;
  below = top.empty;
  drawn = λ m h. absurd (let y : None ≡ Some m = sym h0 ∙ h in cc);
  places = sym (none top.empty);
  most = omega arith;
}

module _ {w : World} (law : IsLawful w) (side : Side) (root : ℕ) (left middle right near far : Ref) (z : ℕ) (k : Item) (here : recs w root ≡ Some (Deep left middle right z k)) (ends : (near, far) ≡ both_ends side left right) (one : Bool) (is : one ≡ is_single (elements w near.0)) where
  abbrev shown_here : Made
  shown_here = top.deep (elements w left.0) (top.tree (Some middle.0)) (elements w right.0)

  single_here : is_single (both_ends side (elements w left.0) (elements w right.0)).0 ≡ one
  single_here = rw (ends_shown w side left right near far ends) (sym is)

  drawn_here : drawn_middle side shown_here ≡ cond one (Some middle.0) None
  drawn_here = ap (λ x. cond x (Some middle.0) None) single_here

  pub some_ready : one ≡ false → PopReady w side root 2
  some_ready h0 = record {
    shown = shown_here;
    here = rw here refl;
    from = 0;
    below = top.empty;
    drawn = λ m h. absurd (let y : cond false (Some middle.0) None ≡ Some m = rw h0 at (sym drawn_here ∙ h) in cc);
    places = sym (ap (λ x. cond x (drawn_places side (both_ends side (elements w left.0) (elements w right.0)).1 top.empty) 2) (single_here ∙ h0));
    most = omega arith;
  }

  pub drawn_ready : one ≡ true → (q : ℕ) → value_place w middle.0 ≡ Some q → IsValueAt w middle.0 q → (nodes : ℕ) → ((shown : Made) → shown_at w q ≡ Some shown → nodes ≡ drawn_places side (elements w far.0) shown) → nodes ≤ 4 → PopReady w side root nodes
  drawn_ready h1 q at v nodes count most =
      let t = at_true is_tree_value (recs w q) v.there in
      let below = level_shown law q t.0 t.1 t.2 in
      record {
        shown = shown_here;
        here = rw here refl;
        from = q;
        below = below.0;
        drawn = λ m h. (let same : middle.0 ≡ m = one_value _ _ (rw h1 at (sym drawn_here ∙ h)) in rw (← same) (record { place = at; shows = rw v.value below.1 }));
        places = count below.0 below.1 ∙ (ap (λ es. drawn_places side es below.0) (sym (ap (λ (x : List ℕ × List ℕ). x.1) (ends_shown w side left right near far ends))) ∙ sym (ap (λ x. cond x (drawn_places side (both_ends side (elements w left.0) (elements w right.0)).1 below.0) 2) (single_here ∙ h1)));
        most = most;
      }

  pub draw_waits : one ≡ true → value_place w middle.0 ≡ None → IsToDraw w side root middle.0
  draw_waits h1 none = record {
    shown = shown_here;
    shows = rw here refl;
    middle = drawn_here ∙ ap (λ x. cond x (Some middle.0) None) h1;
    sort = deep_middle law root left middle right z k here;
    waits = none;
  }
