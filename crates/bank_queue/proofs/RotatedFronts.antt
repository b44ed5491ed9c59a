-- What is left of a rotation after some tails, and that fronts reach only cells and rotations.
use Rattle.std.proofs.Common.{◌≡◌, ℕ, zero, suc, ◌+◌, ◌-◌, ◌*◌, ◌<◌, eqb, leb, refl, sym, ap, ◌∙◌, arith, ⊎_elim, Bool, true, false, cond, ◌&&◌, Some, List, [], ◌∷◌, length, drop}
use Rattle.std.proofs.lemmas.Bool.{true≢false, and_parts, and_from, or_left, eqb-true, eq-eqb, le-leb, lt-leb, cond-true, cond-false, cases_eq, cases_lt}
use Rattle.lazy_rec.specs.declared.places.Ref.{Ref}
use Rattle.lazy_rec.specs.declared.records.Rec.{Rec}
use Rattle.lazy_rec.specs.declared.records.Rec.TheVariants.{Nil, Cons, BankRot}
use Rattle.lazy_rec.specs.Named.{Records}
use Rattle.lazy_rec.specs.Meaning.{Entry, an_item, cells}
use Rattle.heap_store.specs.World.{World, recs, holds}
use Rattle.heap_store.specs.Completion.{is_plain}
use Rattle.heap_store.specs.Lawful.{IsLawful, is_any_bank_rotation, bank_front_of, is_bank_front, is_bank_origin, is_bank_rotation_of, same_entries, is_rotated}
use Rattle.heap_store.proofs.NameLaws.{IsPublished}
use Rattle.heap_store.proofs.GrowthLaws.{at_true}
use Rattle.lazy_rec.proofs.ByPlaceLaws.{from_lower}
use Rattle.heap_store.proofs.RecordLaws.{bank_look}
use Rattle.heap_store.proofs.LawfulLaws.{lawful_names}
use Rattle.heap_store.proofs.MeaningLaws.{by_record_is}
use Rattle.heap_store.proofs.CellLaws.{plain_is, plain_value, cons_cells}
use Rattle.heap_store.proofs.EntryLaws.{entries_agree, entries_same}
use Rattle.bank_queue.specs.Front.{is_front}
use Rattle.bank_queue.proofs.Fronts.{plain_front, rotation_front, front_there, front_plain, FrontCell}
use Rattle.bank_queue.proofs.RotationLaws.{rotation_well, rotation_most, rotation_length}

-- ---- entries dropped

drop_none : (k : ℕ) (xs : List Entry) → xs ≡ [] → drop k xs ≡ []
drop_none zero xs e = e
drop_none (suc k) xs e = rw e refl

-- one more entry dropped
drop_next : (n : ℕ) (x : Entry) (xs ys : List Entry) → drop n ys ≡ x ∷ xs → drop (n + 1) ys ≡ xs
drop_next n x xs [] h = absurd (let z : [] ≡ x ∷ xs = sym (drop_none n [] refl) ∙ h in cc)
drop_next zero x xs (y ∷ ys) h = let z : y ∷ ys ≡ x ∷ xs = h in cc
drop_next (suc n) x xs (y ∷ ys) h = let e : suc n + 1 ≡ suc (n + 1) = omega arith in rw e (drop_next n x xs ys h)

-- ---- fronts reach only cells and rotations

bank_is : {w : World} → IsLawful w → (p : ℕ) (r : Rec) → recs w p ≡ Some r → is_bank_front (recs w) p ≡ bank_front_of (is_bank_front (recs w)) r
unfolding is_bank_front
bank_is {w} law = by_record_is false bank_front_of bank_look (recs w) (lawful_names law)

pub front_bank : {w : World} → IsLawful w → (p : ℕ) → is_front (recs w) p ≡ true → is_bank_front (recs w) p ≡ true
front_bank {w} law = from_lower (λ p. is_front (recs w) p ≡ true → is_bank_front (recs w) p ≡ true) (λ p ih h. let is = front_there (recs w) p h in step p is.0 is.1 h ih)
  where
    step : (p : ℕ) (r : Rec) → recs w p ≡ Some r → is_front (recs w) p ≡ true → ((q : ℕ) → q < p → is_front (recs w) q ≡ true → is_bank_front (recs w) q ≡ true) → is_bank_front (recs w) p ≡ true
    step p (BankRot xs rear left o off) e h ih = let k = rotation_well law p xs rear left o off e in bank_is law p _ e ∙ ih xs.0 k.xs_named.0 k.front
    step p Nil e h ih = bank_is law p _ e
    step p (Cons c v rest) e h ih =
        let n = (lawful_names law p (Cons c v rest) e).0 in
        let q : is_plain (recs w) rest.0 ≡ true = sym (plain_is law p (Cons c v rest) e) ∙ front_plain (recs w) p (Cons c v rest) e h refl in
        bank_is law p _ e ∙ ih rest.0 n.0 (plain_front (recs w) rest.0 q)
    step p r e h ih = absurd (true≢false (sym (plain_value law p r e (front_plain (recs w) p r e h refl))))

-- and what reaches only those, without cells, is a front
pub bank_front : {w : World} → IsLawful w → (p : ℕ) → is_bank_front (recs w) p ≡ true → IsPublished (recs w) p → length (cells (recs w) p) ≡ 0 → is_front (recs w) p ≡ true
bank_front {w} law p h is none = go is.0 is.1
  where
    go : (r : Rec) → recs w p ≡ Some r → is_front (recs w) p ≡ true
    go Nil e = plain_front (recs w) p (plain_is law p Nil e)
    go (BankRot xs rear left o off) e = or_left (holds (recs w) p is_any_bank_rotation) (is_plain (recs w) p) (rw e refl)
    go (Cons c v rest) e = absurd (let k = ap length (cons_cells law p c v rest e) in omega (arith, k, none))
    go r e = absurd (true≢false (sym (sym (bank_is law p r e) ∙ h)))

-- ---- what is left of a rotation

pub record Rotated (w : World) (front lenf origin n tails : ℕ) : Type 0 where
  pub origin_is : holds (recs w) origin (is_bank_origin n) ≡ true
  pub count : lenf + tails ≡ 2 * n + 1
  pub cells_are : cells (recs w) front ≡ drop tails (cells (recs w) origin)
  pub there : cond (leb tails n) (holds (recs w) front (is_bank_rotation_of origin tails)) (is_plain (recs w) front) ≡ true

pub rotated_of : {w : World} → IsLawful w → (front lenf origin n tails : ℕ) → is_rotated (recs w) front lenf origin n tails ≡ true → Rotated w front lenf origin n tails
rotated_of {w} law front lenf origin n tails h =
    let rs = recs w in
    let a = and_parts (holds rs origin (is_bank_origin n) && eqb (lenf + tails) (2 * n + 1) && same_entries (cells rs front) (drop tails (cells rs origin))) (cond (leb tails n) (holds rs front (is_bank_rotation_of origin tails)) (is_plain rs front)) h in
    let b = and_parts (holds rs origin (is_bank_origin n) && eqb (lenf + tails) (2 * n + 1)) (same_entries (cells rs front) (drop tails (cells rs origin))) a.0 in
    let c = and_parts (holds rs origin (is_bank_origin n)) (eqb (lenf + tails) (2 * n + 1)) b.0 in
    record { origin_is = c.0; count = eqb-true (lenf + tails) (2 * n + 1) c.1; cells_are = entries_agree _ _ b.1; there = a.1 }

pub rotated_from : (rs : Records) (front lenf origin n tails : ℕ) → holds rs origin (is_bank_origin n) ≡ true → lenf + tails ≡ 2 * n + 1 → cells rs front ≡ drop tails (cells rs origin)
    → cond (leb tails n) (holds rs front (is_bank_rotation_of origin tails)) (is_plain rs front) ≡ true → is_rotated rs front lenf origin n tails ≡ true
rotated_from rs front lenf origin n tails a b c d =
    and_from (holds rs origin (is_bank_origin n) && eqb (lenf + tails) (2 * n + 1) && same_entries (cells rs front) (drop tails (cells rs origin))) (cond (leb tails n) (holds rs front (is_bank_rotation_of origin tails)) (is_plain rs front))
    (and_from (holds rs origin (is_bank_origin n) && eqb (lenf + tails) (2 * n + 1)) (same_entries (cells rs front) (drop tails (cells rs origin)))
    (and_from (holds rs origin (is_bank_origin n)) (eqb (lenf + tails) (2 * n + 1)) a (eq-eqb (lenf + tails) (2 * n + 1) b))
    (rw c (entries_same (drop tails (cells rs origin))))) d

pub rotated_front : {w : World} → IsLawful w → (front lenf origin n tails : ℕ) → Rotated w front lenf origin n tails → is_front (recs w) front ≡ true
rotated_front {w} law front lenf origin n tails k = go (leb tails n) k.there
  where
    go : (c : Bool) → cond c (holds (recs w) front (is_bank_rotation_of origin tails)) (is_plain (recs w) front) ≡ true → is_front (recs w) front ≡ true
    go true z = rotation_front (recs w) front origin tails z
    go false z = plain_front (recs w) front z

-- the numbers of a rotation are small
pub record RotatedFits (lenf n tails : ℕ) : Type 0 where
  pub lenf_fits : lenf < 2147483648
  pub n_fits : n < 2147483648
  pub tails_fits : tails < 2147483648

pub rotated_fits : {w : World} → IsLawful w → (front lenf origin n tails : ℕ) → Rotated w front lenf origin n tails → RotatedFits lenf n tails
rotated_fits {w} law front lenf origin n tails k = let t = at_true (is_bank_origin n) (recs w origin) k.origin_is in go t.0 t.1 t.2
  where
    go : (r : Rec) → recs w origin ≡ Some r → is_bank_origin n r ≡ true → RotatedFits lenf n tails
    go (BankRot xs rear left o off) e h =
        let well = rotation_well law origin xs rear left o off e in
        let m = rotation_most law origin xs rear left o off well in
        let z = eqb-true left n (and_parts (eqb left n) (eqb off 0) h).0 in
        record { lenf_fits = omega (arith, k.count, m, z, well.rear_fits); n_fits = omega (arith, m, z, well.rear_fits); tails_fits = omega (arith, k.count, m, z, well.rear_fits) }
    go _ e h = absurd (true≢false (sym h))

-- what is left after one more tail
pub rotated_after : {w : World} → IsLawful w → (front lenf origin n tails v : ℕ) (rest : Ref) → Rotated w front lenf origin n tails → length (cells (recs w) front) ≡ lenf → FrontCell w front v rest → is_rotated (recs w) rest.0 (lenf - 1) origin n (tails + 1) ≡ true
rotated_after {w} law front lenf origin n tails v rest k len c =
    let l : length (cells (recs w) front) ≡ suc (length (cells (recs w) rest.0)) = ap length c.cell.cells_are in
    rotated_from (recs w) rest.0 (lenf - 1) origin n (tails + 1) k.origin_is (omega (arith, k.count, l, len)) (sym (drop_next tails (an_item v) (cells (recs w) rest.0) (cells (recs w) origin) (sym k.cells_are ∙ c.cell.cells_are)))
    (⊎_elim
    (λ below. cond-true (leb (tails + 1) n) _ _ (le-leb (tails + 1) n (omega (arith, below))) ∙ next below (sym (cond-true (leb tails n) _ _ (le-leb tails n (omega (arith, below)))) ∙ k.there))
    (λ above. cond-false (leb (tails + 1) n) _ _ (lt-leb (tails + 1) n (omega (arith, above))) ∙ ⊎_elim
    (λ at_end. last at_end (sym (cond-true (leb tails n) _ _ (le-leb tails n (omega (arith, at_end)))) ∙ k.there))
    (λ past. c.plain (sym (cond-false (leb tails n) _ _ (lt-leb tails n (omega (arith, above, past)))) ∙ k.there))
    (cases_eq tails n))
    (cases_lt tails n))
  where
    -- a rotation at an offset has n less the offset left
    left_is : (xs rear : Ref) (left : ℕ) (o : Ref) (off : ℕ) → recs w front ≡ Some (BankRot xs rear left o off) → off ≡ tails → left + tails ≡ n
    left_is xs rear left o off e z = omega (arith, rotation_length law front xs rear left o off e, z, k.count, len)

    next_of : (r : Rec) → recs w front ≡ Some r → is_bank_rotation_of origin tails r ≡ true → tails < n → holds (recs w) rest.0 (is_bank_rotation_of origin (tails + 1)) ≡ true
    next_of (BankRot xs rear left o off) e h below =
        let z = and_parts (eqb o.0 origin) (eqb off tails) h in
        let zo = eqb-true o.0 origin z.0 in
        let zt = eqb-true off tails z.1 in
        let l = left_is xs rear left o off e zt in
        let s : suc off ≡ tails + 1 = omega (arith, zt) in
        rw (zo, s) at (c.next xs rear left o off e (omega (arith, l, below)))
    next_of _ e h below = absurd (true≢false (sym h))

    next : tails < n → holds (recs w) front (is_bank_rotation_of origin tails) ≡ true → holds (recs w) rest.0 (is_bank_rotation_of origin (tails + 1)) ≡ true
    next below h = let t = at_true (is_bank_rotation_of origin tails) (recs w front) h in next_of t.0 t.1 t.2 below

    last_of : (r : Rec) → recs w front ≡ Some r → is_bank_rotation_of origin tails r ≡ true → tails ≡ n → is_plain (recs w) rest.0 ≡ true
    last_of (BankRot xs rear left o off) e h at_end =
        let z = and_parts (eqb o.0 origin) (eqb off tails) h in
        let l = left_is xs rear left o off e (eqb-true off tails z.1) in
        let zero_left : left ≡ 0 = omega (arith, l, at_end) in
        c.last xs rear o off (rw zero_left at e)
    last_of _ e h at_end = absurd (true≢false (sym h))

    last : tails ≡ n → holds (recs w) front (is_bank_rotation_of origin tails) ≡ true → is_plain (recs w) rest.0 ≡ true
    last at_end h = let t = at_true (is_bank_rotation_of origin tails) (recs w front) h in last_of t.0 t.1 t.2 at_end
