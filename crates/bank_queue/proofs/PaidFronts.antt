-- Fronts whose family is paid, and rotations that are funded.
use Rattle.std.proofs.Common.{◌≡◌, ℕ, suc, ◌+◌, ◌*◌, ◌<◌, ◌≤◌, eqb, refl, ap, ◌∙◌, arith, ⊎_elim, Bool, true, false, cond, ◌⊎◌, ◌&&◌, Some, [], length}
use Rattle.std.specs.Set.{is_member}
use Rattle.std.proofs.lemmas.Bool.{true≢false, and_parts, or_cases, eqb-true, ne_eqb, cases_eq, cases_Bool}
use Rattle.lazy_rec.specs.declared.places.Ref.{Ref}
use Rattle.lazy_rec.specs.declared.records.Rec.{Rec}
use Rattle.lazy_rec.specs.declared.records.Rec.TheVariants.{Cons, BankRot}
use Rattle.lazy_rec.specs.Meaning.{cells}
use Rattle.lazy_rec.specs.Units.{same_unit, units_below, cost}
use Rattle.heap_store.specs.World.{World, recs, holds, value_at}
use Rattle.heap_store.specs.Completion.{is_plain}
use Rattle.heap_store.specs.Lawful.{IsLawful, EachRecord, is_any_bank_rotation, is_bank_rotation_of}
use Rattle.heap_store.specs.Budget.{all_discharged, are_discharged, is_funded, bank_family, other_family, is_settled}
use Rattle.heap_store.proofs.GrowthLaws.{at_true}
use Rattle.heap_store.proofs.UnitLaws.{run_in, run_at}
use Rattle.bank_queue.specs.Front.{is_front, is_paid_front}
use Rattle.bank_queue.proofs.Fronts.{rotation_fields, no_plain_rotation, FrontCell, front_cell}
use Rattle.bank_queue.proofs.RotationLaws.{rotation_well, rotation_height, rotation_length}

no_family : (r : Rec) → is_any_bank_rotation r ≡ false → bank_family r ≡ []
no_family (BankRot _ _ _ _ _) h = absurd (true≢false h)
no_family _ h = refl

-- a record that isn't a rotation is paid
pub paid_value : (w : World) (p : ℕ) (r : Rec) → recs w p ≡ Some r → is_any_bank_rotation r ≡ false → is_paid_front w p ≡ true
paid_value w p r e h = let n = no_family r h in rw (e, n) refl

paid_family : (w : World) (p : ℕ) (r : Rec) → recs w p ≡ Some r → is_paid_front w p ≡ true → are_discharged w (bank_family r) ≡ true
paid_family w p r e h = rw e at h

pub family_paid : (w : World) (p : ℕ) (r : Rec) → recs w p ≡ Some r → are_discharged w (bank_family r) ≡ true → is_paid_front w p ≡ true
family_paid w p r e h = rw e h

-- what a rotation stands on is paid: it is of another family
pub xs_paid : {w : World} → IsLawful w → EachRecord w (is_settled w) → (s : ℕ) (xs rear : Ref) (left : ℕ) (o : Ref) (off : ℕ) → recs w s ≡ Some (BankRot xs rear left o off) → is_paid_front w xs.0 ≡ true
xs_paid {w} law settled s xs rear left o off e =
    let k = rotation_well law s xs rear left o off e in
    go k.xs_named.1 k.xs_named.2 (cases_Bool (is_any_bank_rotation k.xs_named.1))
  where
    go : (r : Rec) → recs w xs.0 ≡ Some r → (is_any_bank_rotation r ≡ true) ⊎ (is_any_bank_rotation r ≡ false) → is_paid_front w xs.0 ≡ true
    go r here h = ⊎_elim
        (λ rotation. (
        let f = rotation_fields r rotation in
        let z : recs w xs.0 ≡ Some (BankRot f.xs f.rear f.left f.origin f.off) = here ∙ ap Some f.is in
        let other : eqb f.origin.0 o.0 ≡ false = ne_eqb f.origin.0 o.0 (λ same. omega (arith, same, (rotation_well law s xs rear left o off e).xs_low, rotation_height law xs.0 f.xs f.rear f.left f.origin f.off z)) in
        let asked : are_discharged w (other_family o.0 (BankRot f.xs f.rear f.left f.origin f.off)) ≡ true = rw z at (settled s _ e) in
        let all : are_discharged w (bank_family (BankRot f.xs f.rear f.left f.origin f.off)) ≡ true = rw other at asked in
        family_paid w xs.0 _ z all))
        (λ value. paid_value w xs.0 r here value)
        h

-- what comes after the first cell of a paid front is paid
pub rest_paid : {w : World} → IsLawful w → (p v : ℕ) (rest : Ref) → is_front (recs w) p ≡ true → is_paid_front w p ≡ true → FrontCell w p v rest → is_paid_front w rest.0 ≡ true
rest_paid {w} law p v rest front whole c = go c.cell.rest_named.1 c.cell.rest_named.2 (cases_Bool (is_any_bank_rotation c.cell.rest_named.1))
  where
    -- two rotations, one after the other
    both : (xs rear : Ref) (left : ℕ) (o : Ref) (off : ℕ) → recs w p ≡ Some (BankRot xs rear left o off) → 0 < left → (xs' rear' : Ref) (left' : ℕ) (o' : Ref) (off' : ℕ) → recs w rest.0 ≡ Some (BankRot xs' rear' left' o' off') → is_paid_front w rest.0 ≡ true
    both xs rear left o off e pos xs' rear' left' o' off' e' =
        let t = at_true (is_bank_rotation_of o.0 (suc off)) (recs w rest.0) (c.next xs rear left o off e pos) in
        let test : (eqb o'.0 o.0 && eqb off' (suc off)) ≡ true = rw e' at (c.next xs rear left o off e pos) in
        let same = and_parts (eqb o'.0 o.0) (eqb off' (suc off)) test in
        let origin : o'.0 ≡ o.0 = eqb-true o'.0 o.0 same.0 in
        let next : off' ≡ suc off = eqb-true off' (suc off) same.1 in
        let l : length (cells (recs w) p) ≡ suc (length (cells (recs w) rest.0)) = ap length c.cell.cells_are in
        let count : left' + off' ≡ left + off = omega (arith, l, next, rotation_length law p xs rear left o off e, rotation_length law rest.0 xs' rear' left' o' off' e') in
        let all : are_discharged w (units_below o.0 (2 * (left + off) + 1)) ≡ true = paid_family w p _ e whole in
        family_paid w rest.0 _ e' (rw (origin, count) all)

    after : (r : Rec) → recs w rest.0 ≡ Some r → is_any_bank_rotation r ≡ true → is_paid_front w rest.0 ≡ true
    after r e h = ⊎_elim
        (λ rotation. (
        let t = at_true is_any_bank_rotation (recs w p) rotation in
        let f = rotation_fields t.0 t.2 in
        let g = rotation_fields r h in
        let here : recs w p ≡ Some (BankRot f.xs f.rear f.left f.origin f.off) = t.1 ∙ ap Some f.is in
        ⊎_elim
        (λ (none : f.left ≡ 0). absurd (no_plain_rotation law rest.0 r e h (c.last f.xs f.rear f.origin f.off (rw none at here))))
        (λ some. both f.xs f.rear f.left f.origin f.off here (omega (arith, some)) g.xs g.rear g.left g.origin g.off (e ∙ ap Some g.is))
        (cases_eq f.left 0)))
        (λ plain. absurd (no_plain_rotation law rest.0 r e h (c.plain plain)))
        (or_cases (holds (recs w) p is_any_bank_rotation) (is_plain (recs w) p) front)

    go : (r : Rec) → recs w rest.0 ≡ Some r → (is_any_bank_rotation r ≡ true) ⊎ (is_any_bank_rotation r ≡ false) → is_paid_front w rest.0 ≡ true
    go r e h = ⊎_elim (after r e) (paid_value w rest.0 r e) h

-- what the next rotation stands on is paid
pub next_paid : {w : World} → IsLawful w → EachRecord w (is_settled w) → (s : ℕ) (xs rear : Ref) (left : ℕ) (o : Ref) (off : ℕ) → recs w s ≡ Some (BankRot xs rear left o off) → (v : ℕ) (rest : Ref) → value_at w xs.0 ≡ Some (Cons false v rest) → is_paid_front w rest.0 ≡ true
next_paid {w} law settled s xs rear left o off e v rest h =
    let k = rotation_well law s xs rear left o off e in
    rest_paid law xs.0 v rest k.front (xs_paid law settled s xs rear left o off e) (front_cell law xs.0 v rest k.front k.xs_items h)

-- ---- funded rotations

-- how far a rotation's units reach in its family
cost_most : (xs rear : Ref) (left : ℕ) (o : Ref) (off : ℕ) → off + cost (BankRot xs rear left o off) ≤ 2 * (left + off) + 1
cost_most xs rear left o off = go (eqb left 0) refl
  where
    go : (b : Bool) → eqb left 0 ≡ b → off + (cond b (off + 1) 1 + 0) ≤ 2 * (left + off) + 1
    go true e = omega arith
    go false e = omega arith

-- a rotation whose units are all discharged, from a number that they don't reach
pub funded_below : (w : World) (p : ℕ) (xs rear : Ref) (left : ℕ) (o : Ref) (off k : ℕ) → ((j : ℕ) → j < k → is_member same_unit (all_discharged w) (o.0, j) ≡ true) → off + cost (BankRot xs rear left o off) ≤ k → is_funded w p (BankRot xs rear left o off) ≡ true
funded_below w p xs rear left o off k h le = run_in (all_discharged w) o.0 off (cost (BankRot xs rear left o off)) (λ j low high. h j (omega (arith, high, le)))

pub paid_funded : (w : World) (p : ℕ) (r : Rec) → recs w p ≡ Some r → is_any_bank_rotation r ≡ true → is_paid_front w p ≡ true → is_funded w p r ≡ true
paid_funded w p r e h whole =
    let f = rotation_fields r h in
    let z : recs w p ≡ Some (BankRot f.xs f.rear f.left f.origin f.off) = e ∙ ap Some f.is in
    rw f.is (funded_below w p f.xs f.rear f.left f.origin f.off (2 * (f.left + f.off) + 1) (λ j low. run_at (all_discharged w) f.origin.0 0 (2 * (f.left + f.off) + 1) (paid_family w p _ z whole) j (omega arith) (omega (arith, low))) (cost_most f.xs f.rear f.left f.origin f.off))
