-- What a pop leaves of a tree.
use Rattle.std.proofs.Common.{◌≡◌, ℕ, suc, ◌<◌, ◌≤◌, refl, sym, ap, ◌∙◌, arith, Bool, true, false, ◌&&◌, Option, Some, None, List, [], ◌∷◌, length}
use Rattle.std.specs.Prelude.{flat_map, cond, option_and_then}
use Rattle.std.specs.Option.{is_none}
use Rattle.std.specs.List.{AllByRecursion}
use Rattle.std.proofs.lemmas.Bool.{true≢false, and_parts}
use Rattle.std.proofs.lemmas.List.{append-nil}
use Rattle.lazy_rec.specs.declared.places.Ref.{Ref}
use Rattle.lazy_rec.specs.declared.places.Item.{Item}
use Rattle.lazy_rec.specs.declared.records.Rec.{Rec}
use Rattle.lazy_rec.specs.declared.records.Rec.TheVariants.{Digit, Single, Deep}
use Rattle.lazy_rec.specs.declared.records.Sort.TheVariants as sorts
use Rattle.lazy_rec.specs.Named.{same_sort, is_pending}
use Rattle.lazy_rec.specs.Meaning.{means}
use Rattle.heap_store.specs.World.{World, recs, holds, done_at}
use Rattle.heap_store.specs.Growth.{Grows}
use Rattle.heap_store.specs.Values.{value_place, value_place_of}
use Rattle.heap_store.specs.Lawful.{IsLawful, is_of_level}
use Rattle.heap_store.specs.Completion as top
use Rattle.heap_store.specs.Completion.{Made, elements, top_at}
use Rattle.heap_store.proofs.GrowthLaws.{at_true, done_grows}
use Rattle.heap_store.proofs.LawfulLaws.{lawful_names}
use Rattle.heap_store.proofs.MeaningLaws.{means_is}
use Rattle.heap_store.proofs.RecordLaws.{level_kept}
use Rattle.heap_store.proofs.ShowLaws.{one_value}
use Rattle.finger_level.specs.declared.few.Few.{Few}
use Rattle.finger_level.specs.declared.level.Digit.TheVariants as digits
use Rattle.finger_level.specs.declared.level.Middle.TheVariants as middles
use Rattle.finger_level.specs.declared.level.Level.{Level}
use Rattle.finger_level.specs.declared.level.Level.TheVariants as levels
use Rattle.finger_level.specs.declared.level.Side.{Side}
use Rattle.finger_level.specs.declared.level.Side.TheVariants as sides
use Rattle.finger_level.specs.Few.{few_list, few_at, rest_list}
use Rattle.finger_level.specs.Level.{made_of, places_of, items_of_made}
use Rattle.finger_level.specs.Reads.{is_digit_rec, is_tree_rec, is_tree_value, IsDigitAt}
use Rattle.finger_level.specs.Keyed.{HasKeys, AreKeyed}
use Rattle.finger_level.specs.Pushes.{beside}
use Rattle.finger_level.specs.Puts.{IsElement}
use Rattle.finger_level.specs.Pops.{both_ends, is_single, level_by, drawn_places, drawn_middle, AreParts, IsUpper, IsDrawn, IsWhole, IsRootAt, IsRest, IsToDraw}
use Rattle.finger_level.proofs.Families.{tree_size}
use Rattle.finger_level.proofs.Found.{digit_at, digit_elements, IsValueAt}
use Rattle.finger_level.proofs.Keying.{keyed_of, digit_keys, value_keyed}
use Rattle.finger_level.proofs.Pushing.{both_length}
use Rattle.finger_level.proofs.Values.{level_is}
use Rattle.finger_level.proofs.Tops.{top_well}
use Rattle.finger_level.proofs.Draws.{Middles, middles_at, digit_parts, turned, both_flat, all_near, all_far, all_both, by_elements, by_trees, by_nodes, by_inner, by_items, by_there, by_under, by_keyed, rest_count, shown_near, end_lows, end_keys}

-- ---- what is read

pub whole_up : {a b : World} → IsLawful a → Grows a b → (q : ℕ) → IsWhole a q → IsWhole b q
whole_up {a} {b} law g q k =
    let t = at_true is_tree_value (recs a q) k.value in
    record { depth = k.depth; value = rw (g.records q t.0 t.1) t.2; of_level = rw (← level_kept (recs a) (recs b) (lawful_names law) g.records q (t.0, t.1)) k.of_level }

-- the middle of a deep tree
pub deep_middle : {w : World} → IsLawful w → (q : ℕ) (left middle right : Ref) (z : ℕ) (k : Item) → recs w q ≡ Some (Deep left middle right z k) → holds (recs w) middle.0 is_tree_rec ≡ true
deep_middle {w} law q left middle right z k e = let n = lawful_names law q _ e in rw n.1.0.2 (ap (λ s. same_sort s sorts.Finger) n.1.0.3)

-- and its value
pub middle_upper : {w : World} → IsLawful w → (root : ℕ) → IsWhole w root → (left middle right : Ref) (z : ℕ) (k : Item) → recs w root ≡ Some (Deep left middle right z k) → (q : ℕ) → IsValueAt w middle.0 q → IsUpper w q
middle_upper {w} law root u left middle right z k e q v =
    let t = top_well law u.depth (suc root) root (Deep left middle right z k) (top.deep (elements w left.0) (top.tree (Some middle.0)) (elements w right.0)) e refl (omega arith) u.of_level in
    record { depth = u.depth; value = v.there; of_level = v.of_level (suc u.depth) t.trees.0.of_level }

-- the level of the digits
pub end_level : {w : World} → IsLawful w → (q : ℕ) (left middle right : Ref) (z : ℕ) (k : Item) → recs w q ≡ Some (Deep left middle right z k) → (d : ℕ) → is_of_level (recs w) q d ≡ true → (side : Side) (near far : Ref) → (near, far) ≡ both_ends side left right → is_of_level (recs w) far.0 d ≡ true
end_level {w} law q left middle right z k e d h side near far ends = by side (ap (λ (x : Ref × Ref). x.1) ends)
  where
    parts : (is_of_level (recs w) left.0 d && is_of_level (recs w) middle.0 (suc d) && is_of_level (recs w) right.0 d) ≡ true
    parts = sym (level_is law q _ e d) ∙ h

    by : (side : Side) → far ≡ (both_ends side left right).1 → is_of_level (recs w) far.0 d ≡ true
    by sides.Left c = rw c (and_parts (is_of_level (recs w) left.0 d && is_of_level (recs w) middle.0 (suc d)) (is_of_level (recs w) right.0 d) parts).1
    by sides.Right c = rw c (and_parts (is_of_level (recs w) left.0 d) (is_of_level (recs w) middle.0 (suc d)) (and_parts (is_of_level (recs w) left.0 d && is_of_level (recs w) middle.0 (suc d)) (is_of_level (recs w) right.0 d) parts).0).0

-- the place of a value stays
pub found_up : {a b : World} → IsLawful a → Grows a b → (p q : ℕ) → value_place a p ≡ Some q → value_place b p ≡ Some q
found_up {a} {b} law g p q h = by (recs a p) refl h
  where
    pend : (r : Rec) (c : Bool) (o : Option (ℕ × ℕ)) → recs a p ≡ Some r → is_pending r ≡ c → done_at a p ≡ o → value_place_of a p r ≡ Some q → value_place_of b p r ≡ Some q
    pend r false o e i d k = rw i (rw i at k)
    pend r true None e i d k = absurd (let z : None ≡ Some q = rw (i, d) at k in cc)
    pend r true (Some d) e i f k = rw (i, done_grows g p d f) (rw (i, f) at k)

    by : (o : Option Rec) → recs a p ≡ o → option_and_then (value_place_of a p) o ≡ Some q → value_place b p ≡ Some q
    by None e k = absurd (let z : None ≡ Some q = k in cc)
    by (Some r) e k = rw (g.records p r e) (pend r (is_pending r) (done_at a p) e refl refl k)

-- a digit's elements
pub few_there : {w : World} → IsLawful w → (p : ℕ) → holds (recs w) p is_digit_rec ≡ true → (f : Few) × IsDigitAt w p f
few_there {w} law p h = let t = at_true is_digit_rec (recs w p) h in by t.0 t.1 t.2
  where
    by : (r : Rec) → recs w p ≡ Some r → is_digit_rec r ≡ true → (f : Few) × IsDigitAt w p f
    by (Digit count e1 e2 e3 e4 z k) e s = (few_at count e1 e2 e3 e4, digit_at law p count e1 e2 e3 e4 z k e)
    by _ e s = absurd (true≢false (sym s))

-- ---- one element

pub rest_of_one : {w : World} → IsLawful w → (side : Side) (root : ℕ) (x : Ref) (z : ℕ) (k : Item) → recs w root ≡ Some (Single x z k) → IsRest w side root x.0 levels.Empty
rest_of_one {w} law side root x z k e = record {
  shown = top.one x.0;
  shows = rw e refl;
  from = root;
  below = top.empty;
  from_middle = λ m h. absurd (let y : None ≡ Some m = h in cc);
  from_root = λ h. refl;
  places = refl;
  most = omega arith;
  there = tt;
  under = λ limit a b. tt;
  element = λ d limit a. (top_well law d limit root (Single x z k) (top.one x.0) e refl a.root_low a.of_level).elements.0;
  items = λ d limit a. means_is (recs w) (lawful_names law) root _ e ∙ none side (means (recs w) x.0);
  parts = λ d limit a. record { elements = tt; trees = tt; nodes = tt; inner = tt; small = omega arith };
  keyed = λ j h. tt;
}
  where
    none : (side : Side) (xs : List ℕ) → xs ≡ beside side xs []
    none sides.Left xs = sym (append-nil xs)
    none sides.Right xs = refl

-- ---- a deep tree

-- an element was taken off one end of a deep tree
pub record Taking (w : World) (side : Side) (root : ℕ) (left middle right near far e : Ref) (rest : Option Few) (n : Few) : Type 0 where
  pub size : ℕ
  pub key : Item
  pub here : recs w root ≡ Some (Deep left middle right size key)
  pub ends : (near, far) ≡ both_ends side left right
  pub near_at : IsDigitAt w near.0 n
  pub taken : beside side (e.0 ∷ []) (rest_list rest) ≡ few_list n

module _ {w : World} (law : IsLawful w) (side : Side) (root : ℕ) (left middle right near far e : Ref) (rest : Option Few) (n g : Few) (k : Taking w side root left middle right near far e rest n) (far_at : IsDigitAt w far.0 g) where
  abbrev level_shown : Made
  level_shown = top.deep (elements w left.0) (top.tree (Some middle.0)) (elements w right.0)

  single : is_single (both_ends side (elements w left.0) (elements w right.0)).0 ≡ is_none rest
  single = rw ((shown_near w side left right near far k.ends n g (digit_elements w near.0 n k.near_at) (digit_elements w far.0 g far_at)).0, ← k.taken) (rest_count side e.0 rest)

  far_shown : (both_ends side (elements w left.0) (elements w right.0)).1 ≡ elements w far.0
  far_shown = (shown_near w side left right near far k.ends n g (digit_elements w near.0 n k.near_at) (digit_elements w far.0 g far_at)).1 ∙ sym (digit_elements w far.0 g far_at)

  drawn_is : drawn_middle side level_shown ≡ cond (is_none rest) (Some middle.0) None
  drawn_is = ap (λ x. cond x (Some middle.0) None) single

  module _ (d limit : ℕ) (level : is_of_level (recs w) root d ≡ true) (low : root < limit) where
    m : Middles w d limit root middle.0 side (few_list n) (few_list g)
    m = middles_at law d limit root left middle right k.size k.key k.here low level side near far k.ends n g k.near_at far_at

    near_all : AllByRecursion (IsElement w d limit) (beside side (e.0 ∷ []) (rest_list rest))
    near_all = rw k.taken m.near_each

    own_element : IsElement w d limit e.0
    own_element = (all_near (IsElement w d limit) side (e.0 ∷ []) (rest_list rest) near_all).0

    -- the element's items, those of the rest of its digit, and the others
    own_items : means (recs w) root ≡ beside side (means (recs w) e.0) (beside side (flat_map (means (recs w)) (rest_list rest)) (beside side (means (recs w) middle.0) (flat_map (means (recs w)) (few_list g))))
    own_items =
        let i = means (recs w) in
        let own : flat_map i (few_list n) ≡ beside side (i e.0) (flat_map i (rest_list rest)) = ap (flat_map i) (sym k.taken) ∙ (both_flat i side (e.0 ∷ []) (rest_list rest) ∙ ap (λ xs. beside side xs (flat_map i (rest_list rest))) (append-nil (i e.0))) in
        m.items ∙ (ap (λ xs. beside side xs (beside side (i middle.0) (flat_map i (few_list g)))) own ∙ turned side (i e.0) (flat_map i (rest_list rest)) (beside side (i middle.0) (flat_map i (few_list g))))

  all_small : length (means (recs w) root) ≤ 2147483647
  all_small = let t = tree_size law root _ k.here refl in omega (arith, t.counts, t.small)

-- elements of the digit are left
module _ {w : World} (law : IsLawful w) (side : Side) (root : ℕ) (left middle right near far e : Ref) (r n g : Few) (k : Taking w side root left middle right near far e (Some r) n) (far_at : IsDigitAt w far.0 g) where
  abbrev pub some_left : Level
  some_left = level_by side r (middles.Tree (Some middle)) (digits.Old far g)

  two_places : (side : Side) → places_of (level_by side r (middles.Tree (Some middle)) (digits.Old far g)) ≡ 2
  two_places sides.Left = refl
  two_places sides.Right = refl

  some_items : items_of_made (means (recs w)) (made_of some_left) ≡ beside side (flat_map (means (recs w)) (few_list r)) (beside side (means (recs w) middle.0) (flat_map (means (recs w)) (few_list g)))
  some_items =
      let i = means (recs w) in
      by_items i side r (middles.Tree (Some middle)) far g ∙ (ap (λ xs. beside side (beside side (flat_map i (few_list r)) xs) (flat_map i (few_list g))) (append-nil (i middle.0)) ∙ turned side (flat_map i (few_list r)) (i middle.0) (flat_map i (few_list g)))

  pub rest_of_some : IsRest w side root e.0 some_left
  rest_of_some = record {
    shown = top.deep (elements w left.0) (top.tree (Some middle.0)) (elements w right.0);
    shows = rw k.here refl;
    from = root;
    below = top.empty;
    from_middle = λ x h. absurd (let y : None ≡ Some x = sym (drawn_is law side root left middle right near far e (Some r) n g k far_at) ∙ h in cc);
    from_root = λ h. refl;
    places = two_places side ∙ sym (ap (λ x. cond x (drawn_places side (both_ends side (elements w left.0) (elements w right.0)).1 top.empty) 2) (single law side root left middle right near far e (Some r) n g k far_at));
    most = (let z = two_places side in omega (arith, z));
    there = by_there w side r (middles.Tree (Some middle)) far g far_at tt;
    under = λ limit a b. (let low = end_lows law root left middle right k.size k.key k.here side near far k.ends in by_under limit side r (middles.Tree (Some middle)) far g (omega (arith, low, a)) tt);
    element = λ d limit a. own_element law side root left middle right near far e (Some r) n g k far_at d limit a.of_level a.root_low;
    items = λ d limit a. own_items law side root left middle right near far e (Some r) n g k far_at d limit a.of_level a.root_low ∙ ap (beside side (means (recs w) e.0)) (sym some_items);
    parts = λ d limit a. (
        let x = m law side root left middle right near far e (Some r) n g k far_at d limit a.of_level a.root_low in
        let es = near_all law side root left middle right near far e (Some r) n g k far_at d limit a.of_level a.root_low in
        let own = own_items law side root left middle right near far e (Some r) n g k far_at d limit a.of_level a.root_low ∙ ap (beside side (means (recs w) e.0)) (sym some_items) in
        let small = all_small law side root left middle right near far e (Some r) n g k far_at in
        record {
          elements = rw (by_elements side r (middles.Tree (Some middle)) far g refl) (all_both (IsElement w d limit) side (few_list r) (few_list g) (all_far (IsElement w d limit) side (e.0 ∷ []) (few_list r) es) x.far_each);
          trees = rw (by_trees side r (middles.Tree (Some middle)) far g) (x.tree, tt);
          nodes = rw (by_nodes side r (middles.Tree (Some middle)) far g) tt;
          inner = rw (by_inner side r (middles.Tree (Some middle)) far g) tt;
          small = (let z = ap length own in let y = both_length side (means (recs w) e.0) (items_of_made (means (recs w)) (made_of some_left)) in omega (arith, z, y, small));
        });
    keyed = λ j h. (
        let all = (keyed_of law j root _ k.here h).all in
        let ends = end_keys w j left right side near far k.ends all.0 all.1.1.0 in
        let es : AreKeyed j w (beside side (e.0 ∷ []) (few_list r)) = rw k.taken (digit_keys law j near.0 n k.near_at ends.0) in
        by_keyed w j side r (middles.Tree (Some middle)) far g (all_far (HasKeys j w) side (e.0 ∷ []) (few_list r) es) (tt, (all.1.0, tt)) ends.1 (digit_keys law j far.0 g far_at ends.1));
  }

-- nothing of the digit is left
module _ {w : World} (law : IsLawful w) (side : Side) (root : ℕ) (left middle right near far e : Ref) (n : Few) (k : Taking w side root left middle right near far e None n) (g : Few) (far_at : IsDigitAt w far.0 g) where
  pub rest_of_none : (q : ℕ) → value_place w middle.0 ≡ Some q → IsValueAt w middle.0 q → (level : Level) → IsDrawn w side q far.0 level → IsRest w side root e.0 level
  rest_of_none q at v level dr = record {
    shown = top.deep (elements w left.0) (top.tree (Some middle.0)) (elements w right.0);
    shows = rw k.here refl;
    from = q;
    below = dr.shown;
    from_middle = λ x h. (let same : middle.0 ≡ x = one_value _ _ (sym (drawn_is law side root left middle right near far e None n g k far_at) ∙ h) in rw (← same) (record { place = at; shows = rw (v.value, dr.here) dr.top }));
    from_root = λ h. absurd (let y : Some middle.0 ≡ None = sym (drawn_is law side root left middle right near far e None n g k far_at) ∙ h in cc);
    places = dr.count ∙ (ap (λ es. drawn_places side es dr.shown) (sym (far_shown law side root left middle right near far e None n g k far_at)) ∙ sym (ap (λ x. cond x (drawn_places side (both_ends side (elements w left.0) (elements w right.0)).1 dr.shown) 2) (single law side root left middle right near far e None n g k far_at)));
    most = dr.most;
    there = dr.there;
    under = λ limit a b. (let low = end_lows law root left middle right k.size k.key k.here side near far k.ends in dr.under limit b (omega (arith, low, a)));
    element = λ d limit a. own_element law side root left middle right near far e None n g k far_at d limit a.of_level a.root_low;
    items = items;
    parts = λ d limit a. dr.parts d limit (ask d limit a);
    keyed = λ j h. (
        let all = (keyed_of law j root _ k.here h).all in
        let ends = end_keys w j left right side near far k.ends all.0 all.1.1.0 in
        let t = at_true is_tree_rec (recs w middle.0) (deep_middle law root left middle right k.size k.key k.here) in
        dr.keyed j (value_keyed law j middle.0 q t.0 t.1 t.2 v.found all.1.0) ends.1);
  }
    where
      digit_here : (d limit : ℕ) → IsRootAt w d limit root q → is_of_level (recs w) far.0 d ≡ true
      digit_here d limit a = end_level law root left middle right k.size k.key k.here d a.of_level side near far k.ends

      whole : (d limit : ℕ) → IsRootAt w d limit root q → means (recs w) root ≡ beside side (means (recs w) e.0) (beside side (means (recs w) q) (means (recs w) far.0))
      whole d limit a =
          let own = own_items law side root left middle right near far e None n g k far_at d limit a.of_level a.root_low in
          let f = digit_parts law d limit far.0 g far_at (let low = end_lows law root left middle right k.size k.key k.here side near far k.ends in omega (arith, low, a.root_low)) (digit_here d limit a) in
          own ∙ ap (beside side (means (recs w) e.0)) (none side (beside side (means (recs w) middle.0) (flat_map (means (recs w)) (few_list g))) ∙ rw (v.items, f.items) refl)
        where
          none : (side : Side) (xs : List ℕ) → beside side [] xs ≡ xs
          none sides.Left xs = refl
          none sides.Right xs = append-nil xs

      ask : (d limit : ℕ) → IsRootAt w d limit root q → AreParts w d limit q far.0
      ask d limit a =
          let x = m law side root left middle right near far e None n g k far_at d limit a.of_level a.root_low in
          let low = end_lows law root left middle right k.size k.key k.here side near far k.ends in
          let z = ap length (whole d limit a) in
          let y = both_length side (means (recs w) e.0) (beside side (means (recs w) q) (means (recs w) far.0)) in
          let u = both_length side (means (recs w) q) (means (recs w) far.0) in
          let small = all_small law side root left middle right near far e None n g k far_at in
          record { upper = v.of_level (suc d) x.tree.of_level; upper_low = a.from_low; digit = digit_here d limit a; digit_low = omega (arith, low, a.root_low); small = omega (arith, z, y, u, small) }

      items : (d limit : ℕ) → IsRootAt w d limit root q → means (recs w) root ≡ beside side (means (recs w) e.0) (items_of_made (means (recs w)) (made_of level))
      items d limit a = whole d limit a ∙ ap (beside side (means (recs w) e.0)) (sym (dr.items d limit (ask d limit a)))

-- the middle has to be a value first
pub rest_waits : {w : World} → IsLawful w → (side : Side) (root : ℕ) (left middle right near far e : Ref) (n g : Few) → Taking w side root left middle right near far e None n → IsDigitAt w far.0 g → value_place w middle.0 ≡ None → IsToDraw w side root middle.0
rest_waits {w} law side root left middle right near far e n g k far_at none = record {
  shown = top.deep (elements w left.0) (top.tree (Some middle.0)) (elements w right.0);
  shows = rw k.here refl;
  middle = drawn_is law side root left middle right near far e None n g k far_at;
  sort = deep_middle law root left middle right k.size k.key k.here;
  waits = none;
}
