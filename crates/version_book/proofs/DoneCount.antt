-- How many suspensions are done: no fewer as a world grows, one more with each force, and no more than the places.
use Rattle.std.proofs.Common.{◌≡◌, ℕ, zero, suc, ◌+◌, ◌<◌, ◌≤◌, refl, ◌∙◌, arith, Bool, true, false, cond, Option, Some, None, List, [], ◌∷◌, length}
use Rattle.std.specs.Prelude.{option_and_then, slice_index_or, sum_by, count_by}
use Rattle.std.proofs.lemmas.Grind.{common_steps}
use Rattle.lazy_rec.specs.States.{kept}
use Rattle.heap_store.specs.declared.nodes.Node.{Node}
use Rattle.heap_store.specs.World.{World, node_at, done_at, fixed_places}
use Rattle.heap_store.specs.Growth.{Grows}
use Rattle.heap_store.specs.Budget.{done_of, total_forced}
use Rattle.heap_store.specs.View.{View, IsLawfulView, is_there}
use Rattle.heap_store.proofs.GrowthLaws.{done_grows}

abbrev pub done_number : Option Node → ℕ
done_number n = length (done_of n)

one_most : (n : Option Node) → done_number n ≤ cond (is_there n) 1 0
one_most None = omega arith
one_most (Some n) = go (kept n.state)
  where
    go : (d : Option (ℕ × ℕ)) → length {A = ℕ × ℕ} (elim d [ None ↦ [] | Some d ↦ d ∷ [] ]) ≤ 1
    go None = omega arith
    go (Some d) = omega arith

sum_most : (ns : List (Option Node)) → sum_by done_number ns ≤ count_by is_there ns
sum_most [] = omega arith
sum_most (n ∷ ns) = let ih = sum_most ns in go (is_there n) refl (one_most n) ih
  where
    go : (b : Bool) → is_there n ≡ b → done_number n ≤ cond (is_there n) 1 0 → sum_by done_number ns ≤ count_by is_there ns → sum_by done_number (n ∷ ns) ≤ count_by is_there (n ∷ ns)
    go true e h ih = let k = rw e at h in grind (arith, common_steps, e, k, ih)
    go false e h ih = let k = rw e at h in grind (arith, common_steps, e, k, ih)

-- the Done states are no more than the places of the store
pub forced_most : {v : View} → IsLawfulView v → total_forced v.seen ≤ fixed_places + v.about.capacity
forced_most {v} law = omega (arith, sum_most v.seen.nodes, law.places)

-- ---- growth

at : List (Option Node) → ℕ → ℕ
at ns p = done_number (slice_index_or ns p None)

sum_rises : (xs ys : List (Option Node)) → ((p : ℕ) → at xs p ≤ at ys p) → sum_by done_number xs ≤ sum_by done_number ys
unfolding at
sum_rises [] ys h = omega arith
sum_rises (x ∷ xs) [] h = let k : done_number x ≤ 0 = h 0 in let ih = sum_rises xs [] (λ p. h (suc p)) in grind (arith, common_steps, k, ih)
sum_rises (x ∷ xs) (y ∷ ys) h = let k : done_number x ≤ done_number y = h 0 in let ih = sum_rises xs ys (λ p. h (suc p)) in grind (arith, common_steps, k, ih)

sum_rises_at : (xs ys : List (Option Node)) → ((p : ℕ) → at xs p ≤ at ys p) → (t : ℕ) → at xs t < at ys t → sum_by done_number xs < sum_by done_number ys
unfolding at
sum_rises_at [] [] h t low = absurd (let k : 0 < 0 = low in omega (arith, k))
sum_rises_at [] (y ∷ ys) h zero low = let l : 0 < done_number y = low in grind (arith, common_steps, l)
sum_rises_at [] (y ∷ ys) h (suc t) low = let ih = sum_rises_at [] ys (λ p. omega arith) t low in grind (arith, common_steps, ih)
sum_rises_at (x ∷ xs) [] h t low = absurd (let k : at (x ∷ xs) t < 0 = low in omega (arith, k))
sum_rises_at (x ∷ xs) (y ∷ ys) h zero low = let l : done_number x < done_number y = low in let ih = sum_rises xs ys (λ p. h (suc p)) in grind (arith, common_steps, l, ih)
sum_rises_at (x ∷ xs) (y ∷ ys) h (suc t) low = let k : done_number x ≤ done_number y = h 0 in let ih = sum_rises_at xs ys (λ p. h (suc p)) t low in grind (arith, common_steps, k, ih)

at_done : (w : World) (p : ℕ) → at w.nodes p ≡ elim (done_at w p) [ None ↦ 0 | Some d ↦ 1 ]
unfolding at
at_done w p = go (node_at w p)
  where
    kept_number : (d : Option (ℕ × ℕ)) → length {A = ℕ × ℕ} (elim d [ None ↦ [] | Some d ↦ d ∷ [] ]) ≡ elim d [ None ↦ 0 | Some d ↦ 1 ]
    kept_number None = refl
    kept_number (Some d) = refl

    go : (o : Option Node) → done_number o ≡ elim (option_and_then (λ (n : Node). kept n.state) o) [ None ↦ 0 | Some d ↦ 1 ]
    go None = refl
    go (Some n) = kept_number (kept n.state)

at_rises : {a b : World} → Grows a b → (p : ℕ) → at a.nodes p ≤ at b.nodes p
at_rises {a} {b} g p = go (done_at a p) refl
  where
    go : (o : Option (ℕ × ℕ)) → done_at a p ≡ o → at a.nodes p ≤ at b.nodes p
    go None e = let k = at_done a p in let z : at a.nodes p ≡ 0 = k ∙ rw e refl in omega (arith, z)
    go (Some d) e =
        let later = done_grows g p d e in
        let k : at a.nodes p ≡ 1 = at_done a p ∙ rw e refl in
        let m : at b.nodes p ≡ 1 = at_done b p ∙ rw later refl in
        omega (arith, k, m)

pub forced_rises : {a b : World} → Grows a b → total_forced a ≤ total_forced b
forced_rises {a} {b} g = sum_rises a.nodes b.nodes (at_rises g)

-- a suspension that has come to be done is one more
pub forced_more : {a b : World} → Grows a b → (t : ℕ) → done_at a t ≡ None → (d : ℕ × ℕ) → done_at b t ≡ Some d → total_forced a < total_forced b
forced_more {a} {b} g t none d done =
    let k : at a.nodes t ≡ 0 = at_done a t ∙ rw none refl in
    let m : at b.nodes t ≡ 1 = at_done b t ∙ rw done refl in
    sum_rises_at a.nodes b.nodes (at_rises g) t (omega (arith, k, m))
