-- The places of a push, from the records that it reads.
use Rattle.std.proofs.Common.{◌≡◌, ◌≤◌, ◌+◌, ℕ, ltb, eqb, refl, ap, ◌∙◌, arith, subst, cond, Option, Some, List, [], ◌∷◌, length}
use Rattle.lazy_rec.specs.declared.places.Ref.{Ref}
use Rattle.lazy_rec.specs.declared.places.Item.{Item}
use Rattle.lazy_rec.specs.declared.records.Rec.TheVariants.{TEmpty, Single, Deep}
use Rattle.heap_store.specs.World.{World, recs}
use Rattle.heap_store.specs.Completion as top
use Rattle.heap_store.specs.Completion.{Made, elements}
use Rattle.heap_store.specs.Lawful.{IsLawful}
use Rattle.heap_store.proofs.ShowLaws.{one_value}
use Rattle.finger_level.specs.declared.few.Few.{Few}
use Rattle.finger_level.specs.declared.few.Few.TheVariants as few
use Rattle.finger_level.specs.declared.level.Side.{Side}
use Rattle.finger_level.specs.declared.level.Side.TheVariants as sides
use Rattle.finger_level.specs.Few.{few_list}
use Rattle.finger_level.specs.Level.{made_places, kept_of}
use Rattle.finger_level.specs.Pushes.{push_all}
use Rattle.finger_level.specs.Pops.{both_ends, shown_at}
use Rattle.finger_level.proofs.Draws.{deep_digits}
use Rattle.finger_level.proofs.Found.{digit_elements}
use Rattle.finger_level.proofs.PopNeeds.{ends_shown}
use Rattle.finger_level.proofs.Popping.{few_there}

-- the places of a push don't depend on the element
pub same_places : (side : Side) (e k : ℕ) (m : Made) → made_places k (push_all side (e ∷ []) m) ≡ made_places k (push_all side (0 ∷ []) m)
same_places sides.Left e k top.empty = refl
same_places sides.Left e k (top.one x) = refl
same_places sides.Left e k (top.deep [] m r) = refl
same_places sides.Left e k (top.deep (a ∷ []) m r) = refl
same_places sides.Left e k (top.deep (a ∷ b ∷ []) m r) = refl
same_places sides.Left e k (top.deep (a ∷ b ∷ c ∷ []) m r) = refl
same_places sides.Left e k (top.deep (a ∷ b ∷ c ∷ d ∷ []) m r) = refl
same_places sides.Left e k (top.deep (a ∷ b ∷ c ∷ d ∷ f ∷ fs) m r) = refl
same_places sides.Right e k top.empty = refl
same_places sides.Right e k (top.one x) = refl
same_places sides.Right e k (top.deep l m []) = refl
same_places sides.Right e k (top.deep l m (a ∷ [])) = refl
same_places sides.Right e k (top.deep l m (a ∷ b ∷ [])) = refl
same_places sides.Right e k (top.deep l m (a ∷ b ∷ c ∷ [])) = refl
same_places sides.Right e k (top.deep l m (a ∷ b ∷ c ∷ d ∷ [])) = refl
same_places sides.Right e k (top.deep l m (a ∷ b ∷ c ∷ d ∷ f ∷ fs)) = refl

-- ---- one or two elements

one_or_two : (P : ℕ → List ℕ → Type 0) → ((e : ℕ) → P 1 (e ∷ [])) → ((e f : ℕ) → P 2 (e ∷ f ∷ [])) → (count : ℕ) → 1 ≤ count → count ≤ 2 → (es : List ℕ) → length es ≡ count → P count es
one_or_two P one two count least most [] n = absurd (omega (arith, n, least))
one_or_two P one two count least most (e ∷ []) n = subst (λ k. P k (e ∷ [])) n (one e)
one_or_two P one two count least most (e ∷ f ∷ []) n = subst (λ k. P k (e ∷ f ∷ [])) n (two e f)
one_or_two P one two count least most (e ∷ f ∷ g ∷ es) n = absurd (omega (arith, n, most))

pub empty_places : (w : World) (side : Side) (q : ℕ) → recs w q ≡ Some TEmpty → (count : ℕ) → 1 ≤ count → count ≤ 2 → (es : List ℕ) → length es ≡ count → (shown : Made) → shown_at w q ≡ Some shown → cond (eqb count 1) 1 3 ≡ made_places (kept_of shown) (push_all side es shown)
empty_places w side q here count least most es n shown shows =
    let same : top.empty ≡ shown = one_value _ _ (rw here at shows) in
    rw (← same) (one_or_two (λ k es. cond (eqb k 1) 1 3 ≡ made_places 1 (push_all side es top.empty)) (one side) (two side) count least most es n)
  where
    one : (side : Side) (e : ℕ) → 1 ≡ made_places 1 (push_all side (e ∷ []) top.empty)
    one sides.Left e = refl
    one sides.Right e = refl

    two : (side : Side) (e f : ℕ) → 3 ≡ made_places 1 (push_all side (e ∷ f ∷ []) top.empty)
    two sides.Left e f = refl
    two sides.Right e f = refl

pub single_places : (w : World) (side : Side) (q : ℕ) (x : Ref) (z : ℕ) (k : Item) → recs w q ≡ Some (Single x z k) → (count : ℕ) → 1 ≤ count → count ≤ 2 → (es : List ℕ) → length es ≡ count → (shown : Made) → shown_at w q ≡ Some shown → 3 ≡ made_places (kept_of shown) (push_all side es shown)
single_places w side q x z k here count least most es n shown shows =
    let same : top.one x.0 ≡ shown = one_value _ _ (rw here at shows) in
    rw (← same) (one_or_two (λ k es. 3 ≡ made_places 1 (push_all side es (top.one x.0))) (one side) (two side) count least most es n)
  where
    one : (side : Side) (e : ℕ) → 3 ≡ made_places 1 (push_all side (e ∷ []) (top.one x.0))
    one sides.Left e = refl
    one sides.Right e = refl

    two : (side : Side) (e f : ℕ) → 3 ≡ made_places 1 (push_all side (e ∷ f ∷ []) (top.one x.0))
    two sides.Left e f = refl
    two sides.Right e f = refl

-- so many elements beside those of a digit: a node and a suspended push where they are more than four
abbrev Counted : Side → List ℕ → Made → ℕ → List ℕ → Type 0
Counted side near made count es = cond (ltb 4 (length near + count)) 4 2 ≡ made_places 0 (push_all side es made)

over : (side : Side) (f : Few) (l r : List ℕ) (t : Option ℕ) → (both_ends side l r).0 ≡ few_list f → ((e : ℕ) → Counted side (few_list f) (top.deep l (top.tree t) r) 1 (e ∷ [])) × ((e g : ℕ) → Counted side (few_list f) (top.deep l (top.tree t) r) 2 (e ∷ g ∷ []))
over sides.Left (few.One a) l r t e = rw e ((λ x. refl), (λ x y. refl))
over sides.Left (few.Two a b) l r t e = rw e ((λ x. refl), (λ x y. refl))
over sides.Left (few.Three a b c) l r t e = rw e ((λ x. refl), (λ x y. refl))
over sides.Left (few.Four a b c d) l r t e = rw e ((λ x. refl), (λ x y. refl))
over sides.Right (few.One a) l r t e = rw e ((λ x. refl), (λ x y. refl))
over sides.Right (few.Two a b) l r t e = rw e ((λ x. refl), (λ x y. refl))
over sides.Right (few.Three a b c) l r t e = rw e ((λ x. refl), (λ x y. refl))
over sides.Right (few.Four a b c d) l r t e = rw e ((λ x. refl), (λ x y. refl))

pub deep_places : {w : World} → IsLawful w → (side : Side) (q : ℕ) (left middle right near far : Ref) (z : ℕ) (k : Item) → recs w q ≡ Some (Deep left middle right z k) → (near, far) ≡ both_ends side left right → (before : ℕ) → before ≡ length (elements w near.0) → (count : ℕ) → 1 ≤ count → count ≤ 2 → (es : List ℕ) → length es ≡ count → (shown : Made) → shown_at w q ≡ Some shown → cond (ltb 4 (before + count)) 4 2 ≡ made_places (kept_of shown) (push_all side es shown)
deep_places {w} law side q left middle right near far z k here ends before before_is count least most es n shown shows =
    let same : top.deep (elements w left.0) (top.tree (Some middle.0)) (elements w right.0) ≡ shown = one_value _ _ (rw here at shows) in
    let f = few_there law near.0 (deep_digits law q left middle right z k here side near far ends).0 in
    let at_near = digit_elements w near.0 f.0 f.1 in
    let o = over side f.0 (elements w left.0) (elements w right.0) (Some middle.0) (ap (λ (x : List ℕ × List ℕ). x.0) (ends_shown w side left right near far ends) ∙ at_near) in
    rw (← same, before_is, at_near) (one_or_two (Counted side (few_list f.0) (top.deep (elements w left.0) (top.tree (Some middle.0)) (elements w right.0))) o.0 o.1 count least most es n)
