-- Cells of any entries: what a put of one asks, and how high it stands.
use Rattle.std.proofs.Common.{◌≡◌, ℕ, ◌+◌, ◌^◌, ◌<◌, ◌≤◌, eqb, ltb, max, refl, sym, ◌∙◌, arith, Bool, true, false, cond, ◌&&◌, Some, length}
use Rattle.std.specs.List.{AllByRecursion, list_all}
use Rattle.std.proofs.lemmas.Bool.{true≢false, and_parts, eq-eqb}
use Rattle.lazy_rec.specs.declared.places.Ref.{Ref}
use Rattle.lazy_rec.specs.declared.records.Rec.{Rec}
use Rattle.lazy_rec.specs.declared.records.Rec.TheVariants.{Nil, Cons, LCons}
use Rattle.lazy_rec.specs.declared.records.Sort.TheVariants as sorts
use Rattle.lazy_rec.specs.Tests.{implies}
use Rattle.lazy_rec.specs.Named.{child_named}
use Rattle.lazy_rec.specs.Meaning.{cells}
use Rattle.lazy_rec.specs.Packed.{fields, fits_field, has_unused_zero}
use Rattle.heap_store.specs.World.{World, recs, is_value, value_at}
use Rattle.heap_store.specs.Growth.{Grows}
use Rattle.heap_store.specs.Completion.{is_plain, same_bool}
use Rattle.heap_store.specs.Lawful.{IsLawful, height}
use Rattle.heap_store.specs.Hand.{contains, brings}
use Rattle.heap_store.specs.View.{View, IsLawfulView, Fits}
use Rattle.lazy_rec.proofs.ByPlaceLaws.{from_lower}
use Rattle.heap_store.proofs.NameLaws.{IsNamedWell}
use Rattle.heap_store.proofs.LawfulLaws.{lawful_names}
use Rattle.heap_store.proofs.MeaningLaws.{cells_is}
use Rattle.heap_store.proofs.UnitLaws.{free}
use Rattle.heap_store.proofs.RangeLaws.{range_fields, range_from}
use Rattle.heap_store.proofs.HeightLaws.{height_is}
use Rattle.heap_store.proofs.CellLaws.{plain_is, plain_there, first_cell}
use Rattle.heap_store.proofs.ValueLaws.{value_stands, value_down}
use Rattle.heap_store.proofs.PutLaws.{place_fits, put_names, fits_value}

-- ---- entries

-- an entry that a cell at p may hold
pub record EntryWell (w : World) (p : ℕ) (c : Bool) (v : ℕ) : Type 0 where
  pub flag : cond c 1 0 < 2 ^ 1
  pub value : v < 2 ^ 64
  pub unused : implies c (ltb v 4194304) ≡ true
  pub named : AllByRecursion (IsNamedWell (recs w) p) (child_named c v)

raise_child : (w : World) (q p : ℕ) (c : Bool) (v : ℕ) → q ≤ p → AllByRecursion (IsNamedWell (recs w) q) (child_named c v) → AllByRecursion (IsNamedWell (recs w) p) (child_named c v)
raise_child w q p true v low n = ((omega (arith, n.0.0, low), n.0.1, n.0.2, n.0.3), tt)
raise_child w q p false v low n = tt

-- a higher cell may hold it too
pub raise_entry : {w : World} {q p : ℕ} (c : Bool) (v : ℕ) → q ≤ p → EntryWell w q c v → EntryWell w p c v
raise_entry {w} {q} {p} c v low k = record { flag = k.flag; value = k.value; unused = k.unused; named = raise_child w q p c v low k.named }

pub cons_entry : {w : World} → IsLawful w → (p : ℕ) (c : Bool) (v : ℕ) (rest : Ref) → recs w p ≡ Some (Cons c v rest) → EntryWell w p c v
cons_entry {w} law p c v rest e =
    let h = (law.each p _ e).range in
    let k = range_fields (Cons c v rest) h in
    record { flag = k.1.0; value = k.1.1.0; unused = (and_parts (list_all fits_field (fields (Cons c v rest))) (has_unused_zero (Cons c v rest)) h).1; named = (lawful_names law p _ e).1 }

pub list_entry : {w : World} → IsLawful w → (p : ℕ) (c : Bool) (v : ℕ) (rest : Ref) → recs w p ≡ Some (LCons c v rest) → EntryWell w p c v
list_entry {w} law p c v rest e =
    let h = (law.each p _ e).range in
    let k = range_fields (LCons c v rest) h in
    record { flag = k.1.0; value = k.1.1.0; unused = (and_parts (list_all fits_field (fields (LCons c v rest))) (has_unused_zero (LCons c v rest)) h).1; named = (lawful_names law p _ e).1 }

-- what a put of a stream's cell asks
pub fits_cell : {v : View} → IsLawfulView v → (p : ℕ) → contains v.hand.reserved p ≡ true → (c : Bool) (x : ℕ) (rest : Ref) → EntryWell v.seen p c x → IsNamedWell (recs v.seen) p (rest.0, sorts.Stream) → Fits v p (Cons c x rest)
fits_cell {v} law p held c x rest k n = fits_value p (Cons c x rest) refl (record {
  range = range_from (Cons c x rest) (omega arith, (k.flag, (k.value, (omega (arith, n.0, place_fits law p held), tt)))) k.unused;
  names = put_names law p held (Cons c x rest) (n, k.named);
  sizes = refl;
  unmixed = refl;
  bank_queue = refl;
  rt_queue = refl;
  heap = refl;
  cat = refl;
  finger = refl;
  heights = refl;
}) (free v.seen p (Cons c x rest) (v.hand.credits + brings (recs v.seen) v.hand.claims) refl)

-- ---- heights

-- what a cell holds is no higher than a number
pub record EntryLow (w : World) (c : Bool) (v next most : ℕ) : Type 0 where
  pub rest : height (recs w) next ≤ most
  pub child : c ≡ true → height (recs w) v ≤ most

pub cell_low : {w : World} → IsLawful w → (p : ℕ) (c : Bool) (v : ℕ) (rest : Ref) → recs w p ≡ Some (Cons c v rest) → EntryLow w c v rest.0 (height (recs w) p)
cell_low {w} law p true v rest e = let k : height (recs w) p ≡ max (max 0 (height (recs w) rest.0)) (height (recs w) v) = height_is law p _ e in record { rest = omega (arith, k); child = λ _. omega (arith, k) }
cell_low {w} law p false v rest e = let k : height (recs w) p ≡ max 0 (height (recs w) rest.0) = height_is law p _ e in record { rest = omega (arith, k); child = λ z. absurd (true≢false (sym z)) }

pub list_cell_low : {w : World} → IsLawful w → (p : ℕ) (c : Bool) (v : ℕ) (rest : Ref) → recs w p ≡ Some (LCons c v rest) → EntryLow w c v rest.0 (height (recs w) p)
list_cell_low {w} law p true v rest e = let k : height (recs w) p ≡ max (max 0 (height (recs w) rest.0)) (height (recs w) v) = height_is law p _ e in record { rest = omega (arith, k); child = λ _. omega (arith, k) }
list_cell_low {w} law p false v rest e = let k : height (recs w) p ≡ max 0 (height (recs w) rest.0) = height_is law p _ e in record { rest = omega (arith, k); child = λ z. absurd (true≢false (sym z)) }

-- nor is the cell
pub cell_most : {w : World} → IsLawful w → (p : ℕ) (c : Bool) (v : ℕ) (rest : Ref) (most : ℕ) → recs w p ≡ Some (Cons c v rest) → EntryLow w c v rest.0 most → height (recs w) p ≤ most
cell_most {w} law p true v rest most e k = let h : height (recs w) p ≡ max (max 0 (height (recs w) rest.0)) (height (recs w) v) = height_is law p _ e in omega (arith, h, k.rest, k.child refl)
cell_most {w} law p false v rest most e k = let h : height (recs w) p ≡ max 0 (height (recs w) rest.0) = height_is law p _ e in omega (arith, h, k.rest)

-- ---- plain cells

-- plain cells are no longer than their place
pub plain_length : {w : World} → IsLawful w → (p : ℕ) → is_plain (recs w) p ≡ true → length (cells (recs w) p) ≤ p
plain_length {w} law = from_lower (λ p. is_plain (recs w) p ≡ true → length (cells (recs w) p) ≤ p) (λ p ih h. let k = plain_there (recs w) p h in step p ih k.0 k.1 h)
  where
    step : (p : ℕ) → ((q : ℕ) → q < p → is_plain (recs w) q ≡ true → length (cells (recs w) q) ≤ q) → (r : Rec) → recs w p ≡ Some r → is_plain (recs w) p ≡ true → length (cells (recs w) p) ≤ p
    step p ih Nil e h = rw (cells_is (recs w) (lawful_names law) p Nil e) (omega arith)
    step p ih (Cons c v rest) e h =
        let n = (lawful_names law p (Cons c v rest) e).0 in
        let k = ih rest.0 n.0 (sym (plain_is law p (Cons c v rest) e) ∙ h) in
        rw (cells_is (recs w) (lawful_names law) p (Cons c v rest) e) (omega (arith, k, n.0))
    step p ih r e h = absurd (true≢false (sym (sym (plain_is law p r e) ∙ h)))

-- an entry's cell is the cell of that entry
pub same_cell : (c : Bool) (v : ℕ) → (same_bool c c && eqb v v) ≡ true
same_cell true v = eq-eqb v v refl
same_cell false v = eq-eqb v v refl

-- ---- the first cell of a stream

-- the first cell of a stream is no higher than it
pub first_low : {w : World} → IsLawful w → (p : ℕ) (c : Bool) (v : ℕ) (rest : Ref) → value_at w p ≡ Some (Cons c v rest) → EntryLow w c v rest.0 (height (recs w) p)
first_low {w} law p c v rest h =
    let k = value_stands law p (Cons c v rest) h in
    let l = cell_low law k.0 c v rest k.2 in
    record { rest = omega (arith, l.rest, k.1.low); child = λ z. (let q = l.child z in omega (arith, q, k.1.low)) }

-- a cell that stands below a place
pub record CellBelow (w : World) (p : ℕ) (c : Bool) (v : ℕ) (rest : Ref) : Type 0 where
  pub place : ℕ
  pub here : recs w place ≡ Some (Cons c v rest)
  pub low : place < p
  pub rest_low : rest.0 < place

-- the first cell of a stream that was known when a run was reserved stands below the run
pub cell_below : {a b : World} → IsLawful a → Grows a b → (next : ℕ) → ((q : ℕ) (r : Rec) → recs a q ≡ Some r → q < next) → (p : ℕ) → is_value a p ≡ true → (c : Bool) (v : ℕ) (rest : Ref) → value_at b p ≡ Some (Cons c v rest) → CellBelow b next c v rest
cell_below {a} {b} law g next above p known c v rest h =
    let k = first_cell law p c v rest (value_down law g p known _ h) in
    record { place = k.place; here = g.records k.place _ k.here; low = above k.place _ k.here; rest_low = k.rest_named.0 }
