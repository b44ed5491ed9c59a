-- Walks over the cells of a stream.
use Rattle.std.proofs.Common.{◌≡◌, ℕ, zero, suc, ◌+◌, ◌<◌, ◌≤◌, eqb, refl, sym, ap, arith, ⊎_elim, Bool, true, false, Option, Some, None, List, [], ◌∷◌, length}
use Rattle.std.specs.Prelude.{option_and_then}
use Rattle.std.specs.List.{list_all, list_any}
use Rattle.std.proofs.lemmas.Bool.{true≢false, and_parts, and_from, or_cases, or_left, or_right, eqb-true, eq-eqb}
use Rattle.lazy_rec.specs.declared.places.Ref.{Ref}
use Rattle.lazy_rec.specs.declared.records.Rec.{Rec}
use Rattle.lazy_rec.specs.declared.records.Rec.TheVariants.{Cons}
use Rattle.lazy_rec.specs.Meaning.{cells}
use Rattle.heap_store.specs.World.{World, recs, is_value, value_at}
use Rattle.heap_store.specs.Lawful.{IsLawful, is_stream, has_items, walk, rest_of, cell_places, height}
use Rattle.heap_store.proofs.ValueLaws.{value_stands}
use Rattle.heap_store.proofs.CellLaws.{item_cell}
use Rattle.lazy_stream.proofs.Streams.{stream_cell}

-- ---- what a walk reaches

-- the stream so many cells on from the one at p
pub record Reached (w : World) (p k q : ℕ) : Type 0 where
  pub stream : is_stream (recs w) q ≡ true
  pub items : has_items (recs w) q ≡ true
  pub low : height (recs w) q ≤ height (recs w) p
  pub count : length (cells (recs w) p) ≡ k + length (cells (recs w) q)

pub walk_next : (w : World) (p k q : ℕ) (v : ℕ) (rest : Ref) → walk w k p ≡ Some q → value_at w q ≡ Some (Cons false v rest) → walk w (suc k) p ≡ Some rest.0
walk_next w p k q v rest h e = rw (h, e) refl

reached_next : {w : World} → IsLawful w → (p k m q : ℕ) → Reached w p k m → (o : Option Rec) → value_at w m ≡ o → option_and_then rest_of o ≡ Some q → Reached w p (suc k) q
reached_next {w} law p k m q r (Some (Cons c v rest)) f g =
    let same : rest.0 ≡ q = cc in
    let t = stream_cell law m v rest r.stream r.items (item_cell law m c v rest r.items f) in
    let n : length (cells (recs w) m) ≡ suc (length (cells (recs w) rest.0)) = ap length t.cell.cells_are in
    rw (← same) (record { stream = t.stream; items = t.items; low = omega (arith, t.cell.low, r.low); count = omega (arith, r.count, n) })
reached_next law p k m q r None f g = absurd (let z : None ≡ Some q = g in cc)
reached_next law p k m q r (Some _) f g = absurd (let z : None ≡ Some q = g in cc)

pub reached : {w : World} → IsLawful w → (p : ℕ) → is_stream (recs w) p ≡ true → has_items (recs w) p ≡ true → (k q : ℕ) → walk w k p ≡ Some q → Reached w p k q
reached {w} law p h items zero q e = let same : p ≡ q = cc in rw (← same) (record { stream = h; items = items; low = omega arith; count = omega arith })
reached {w} law p h items (suc k) q e = go (walk w k p) (λ m f. reached law p h items k m f) e
  where
    go : (x : Option ℕ) → ((m : ℕ) → x ≡ Some m → Reached w p k m) → option_and_then (λ m. option_and_then rest_of (value_at w m)) x ≡ Some q → Reached w p (suc k) q
    go None ih g = absurd (let z : None ≡ Some q = g in cc)
    go (Some m) ih g = reached_next law p k m q (ih m refl) (value_at w m) refl g

-- ---- the cells that a walk passes

-- the place after the first cell of a place, as far as it is known
abbrev after : World → ℕ → Option ℕ
after w p = option_and_then rest_of (value_at w p)

after_known : {w : World} → IsLawful w → (p m : ℕ) → after w p ≡ Some m → is_value w p ≡ true
after_known {w} law p m h = go (value_at w p) refl h
  where
    go : (o : Option Rec) → value_at w p ≡ o → option_and_then rest_of o ≡ Some m → is_value w p ≡ true
    go None e k = absurd (let z : None ≡ Some m = k in cc)
    go (Some r) e k = (value_stands law p r e).1.known

-- a walk begins with its first cell
record Split (w : World) (k p q : ℕ) : Type 0 where
  mid : ℕ
  first : after w p ≡ Some mid
  others : walk w k mid ≡ Some q

walk_split : (w : World) (k p q : ℕ) → walk w (suc k) p ≡ Some q → Split w k p q
walk_split w zero p q h = record { mid = q; first = h; others = refl }
walk_split w (suc k) p q h = go (walk w (suc k) p) (λ m e. walk_split w k p m e) h
  where
    go : (x : Option ℕ) → ((m : ℕ) → x ≡ Some m → Split w k p m) → option_and_then (after w) x ≡ Some q → Split w (suc k) p q
    go None ih e = absurd (let z : None ≡ Some q = e in cc)
    go (Some m) ih e = let s = ih m refl in record { mid = s.mid; first = s.first; others = rw s.others e }

-- where a walk over cells comes to, all of them are known
pub cells_known : {w : World} → IsLawful w → (k p q : ℕ) → walk w k p ≡ Some q → list_all (is_value w) (cell_places w k p) ≡ true
cells_known law zero p q h = refl
cells_known {w} law (suc k) p q h =
    let s = walk_split w k p q h in
    rw s.first (and_from (is_value w p) (list_all (is_value w) (cell_places w k s.mid)) (after_known law p s.mid s.first) (cells_known law k s.mid q s.others))

-- and the next one is among those that are needed
pub cell_needed : (w : World) (k n p q : ℕ) → walk w k p ≡ Some q → k < n → list_any (λ x. eqb x q) (cell_places w n p) ≡ true
cell_needed w zero zero p q h low = absurd (omega (arith, low))
cell_needed w zero (suc n) p q h low = let same : p ≡ q = cc in or_left (eqb p q) _ (eq-eqb p q same)
cell_needed w (suc k) zero p q h low = absurd (omega (arith, low))
cell_needed w (suc k) (suc n) p q h low =
    let s = walk_split w k p q h in
    rw s.first (or_right (eqb p q) (list_any (λ x. eqb x q) (cell_places w n s.mid)) (cell_needed w k n s.mid q s.others (omega (arith, low))))

-- one of a list of which each passes a test
pub one_of : (f : ℕ → Bool) (xs : List ℕ) (q : ℕ) → list_all f xs ≡ true → list_any (λ x. eqb x q) xs ≡ true → f q ≡ true
one_of f [] q h k = absurd (true≢false (sym k))
one_of f (x ∷ xs) q h k =
    let a = and_parts (f x) (list_all f xs) h in
    ⊎_elim (λ e. let same = eqb-true x q e in rw same at a.0) (λ e. one_of f xs q a.1 e) (or_cases (eqb x q) (list_any (λ x. eqb x q) xs) k)
