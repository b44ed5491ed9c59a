-- Walks over cells that are known.
use Rattle.std.proofs.Common.{◌≡◌, ℕ, zero, suc, ◌+◌, refl, sym, ap, arith, Bool, true, Option, Some, None, length}
use Rattle.std.specs.Prelude.{option_and_then, is_some}
use Rattle.std.proofs.lemmas.Bool.{true≢false}
use Rattle.lazy_rec.specs.declared.places.Ref.{Ref}
use Rattle.lazy_rec.specs.declared.records.Rec.{Rec}
use Rattle.lazy_rec.specs.declared.records.Rec.TheVariants.{Cons}
use Rattle.lazy_rec.specs.Meaning.{cells}
use Rattle.heap_store.specs.World.{World, recs, value_at}
use Rattle.heap_store.specs.Lawful.{IsLawful, rest_of, walk}
use Rattle.heap_store.proofs.ShowLaws.{one_value}
use Rattle.heap_store.proofs.CellLaws.{first_cell}

-- one cell on from the end of a walk
pub walk_end : (w : World) (n p q : ℕ) → walk w n p ≡ Some q → walk w (suc n) p ≡ option_and_then rest_of (value_at w q)
walk_end w n p q h = rw h refl

-- a walk that begins one cell on
pub walk_rest : (w : World) (n p : ℕ) (c : Bool) (v : ℕ) (rest : Ref) → value_at w p ≡ Some (Cons c v rest) → walk w (suc n) p ≡ walk w n rest.0
walk_rest w zero p c v rest h = rw h refl
walk_rest w (suc n) p c v rest h = ap (option_and_then (λ q. option_and_then rest_of (value_at w q))) (walk_rest w n p c v rest h)

-- the cell that a step of a walk passes
pub record Passed (w : World) (q next : ℕ) : Type 0 where
  pub child : Bool
  pub value : ℕ
  pub rest : Ref
  pub cell : value_at w q ≡ Some (Cons child value rest)
  pub same : rest.0 ≡ next

pub passed : (w : World) (q next : ℕ) → option_and_then rest_of (value_at w q) ≡ Some next → Passed w q next
passed w q next h = go (value_at w q) refl h
  where
    of_record : (r : Rec) → value_at w q ≡ Some r → rest_of r ≡ Some next → Passed w q next
    of_record (Cons c v rest) e k = record { child = c; value = v; rest = rest; cell = e; same = one_value rest.0 next k }
    of_record _ e k = absurd (let z : None ≡ Some next = k in cc)

    go : (o : Option Rec) → value_at w q ≡ o → option_and_then rest_of o ≡ Some next → Passed w q next
    go None e k = absurd (let z : None ≡ Some next = k in cc)
    go (Some r) e k = of_record r e k

-- where a walk came from
pub record Before (w : World) (n p q : ℕ) : Type 0 where
  pub place : ℕ
  pub walked : walk w n p ≡ Some place
  pub step : option_and_then rest_of (value_at w place) ≡ Some q

pub before : (w : World) (n p q : ℕ) → walk w (suc n) p ≡ Some q → Before w n p q
before w n p q h = go (walk w n p) refl h
  where
    go : (o : Option ℕ) → walk w n p ≡ o → option_and_then (λ k. option_and_then rest_of (value_at w k)) o ≡ Some q → Before w n p q
    go None e k = absurd (let z : None ≡ Some q = k in cc)
    go (Some m) e k = record { place = m; walked = e; step = k }

-- a walk that passes a cell begins at one
pub walk_first : (w : World) (n p q : ℕ) → walk w (suc n) p ≡ Some q → (r : Rec) × (value_at w p ≡ Some r)
walk_first w zero p q h = let k = passed w p q h in (Cons k.child k.value k.rest, k.cell)
walk_first w (suc n) p q h = let k = before w (suc n) p q h in walk_first w n p k.place k.walked

-- how many cells a walk passes
pub walk_length : {w : World} → IsLawful w → (n p q : ℕ) → walk w n p ≡ Some q → length (cells (recs w) p) ≡ n + length (cells (recs w) q)
walk_length {w} law zero p q h = let e : p ≡ q = one_value p q h in let l : length (cells (recs w) p) ≡ length (cells (recs w) q) = ap (λ t. length (cells (recs w) t)) e in omega (arith, l)
walk_length {w} law (suc n) p q h =
    let k = before w n p q h in
    let s = passed w k.place q k.step in
    let ih = walk_length law n p k.place k.walked in
    let l : length (cells (recs w) k.place) ≡ suc (length (cells (recs w) s.rest.0)) = ap length (first_cell law k.place s.child s.value s.rest s.cell).cells_are in
    let e = s.same in
    let m : length (cells (recs w) s.rest.0) ≡ length (cells (recs w) q) = ap (λ t. length (cells (recs w) t)) e in
    omega (arith, ih, l, m)

pub some_walk : (w : World) (n p q : ℕ) → walk w n p ≡ Some q → is_some (walk w n p) ≡ true
some_walk w n p q h = rw h refl

pub walk_some : (w : World) (n p : ℕ) → is_some (walk w n p) ≡ true → (q : ℕ) × (walk w n p ≡ Some q)
walk_some w n p h = go (walk w n p) refl h
  where
    go : (o : Option ℕ) → walk w n p ≡ o → is_some o ≡ true → (q : ℕ) × (walk w n p ≡ Some q)
    go None e k = absurd (true≢false (sym k))
    go (Some q) e k = (q, e)
