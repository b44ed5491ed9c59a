-- What a top shows as discharged.
use Rattle.std.proofs.Common.{◌≡◌, ℕ, ◌+◌, ◌-◌, ◌*◌, ◌<◌, ◌≤◌, min, arith, true, Some, [], length}
use Rattle.std.specs.Set.{is_member}
use Rattle.std.proofs.lemmas.Bool.{cond-true}
use Rattle.lazy_rec.specs.Units.{same_unit, units_below, paid}
use Rattle.heap_store.specs.World.{World, recs}
use Rattle.heap_store.specs.Budget.{all_discharged, gain_at, unit_count, units_beyond}
use Rattle.heap_store.proofs.LawfulLaws.{within}
use Rattle.heap_store.proofs.UnitLaws.{discharged_has, member_from, beyond_below}
use Rattle.bank_queue.specs.declared.queue.Top.{Top}
use Rattle.bank_queue.specs.Queue.{top_record}

-- how many units of its rotation a top shows
abbrev pub shown_by : Top → ℕ
shown_by t = min (2 * t.n + 1) (1 + t.lenr + 2 * t.tails)

-- a top that is published
pub shown : (w : World) (root : ℕ) (t : Top) → recs w root ≡ Some (top_record t) → t.rotated ≡ true → (j : ℕ) → j < shown_by t → is_member same_unit (all_discharged w) (t.origin.0, j) ≡ true
shown w root t e z j low =
    let us : paid (recs w) root (top_record t) ≡ units_below t.origin.0 (shown_by t) = cond-true t.rotated (units_below t.origin.0 (shown_by t)) [] z in
    discharged_has (recs w) (length w.nodes) root _ e (within w root _ e) (t.origin.0, j) (rw us (member_from t.origin.0 0 (shown_by t) j (omega arith) (omega (arith, low))))

-- what a top of the same rotation shows first
pub top_gains : (w : World) (root place : ℕ) (t t' : Top) → recs w root ≡ Some (top_record t) → t.rotated ≡ true → t'.rotated ≡ true → t'.origin ≡ t.origin → gain_at w place (top_record t') ≤ shown_by t' - shown_by t
top_gains w root place t t' e z z' same =
    let us : paid (recs w) place (top_record t') ≡ units_below t'.origin.0 (shown_by t') = cond-true t'.rotated (units_below t'.origin.0 (shown_by t')) [] z' in
    let k = beyond_below (all_discharged w) t.origin.0 (shown_by t) (shown_by t') (shown w root t e z) in
    let all : unit_count (units_beyond (all_discharged w) (units_below t'.origin.0 (shown_by t'))) ≤ shown_by t' - shown_by t = rw same k in
    rw us all

-- the first top of a rotation shows one unit
pub first_gain : (w : World) (place : ℕ) (t : Top) → t.rotated ≡ true → t.lenr ≡ 0 → t.tails ≡ 0 → gain_at w place (top_record t) ≤ 1
first_gain w place t z none first =
    let us : paid (recs w) place (top_record t) ≡ units_below t.origin.0 (shown_by t) = cond-true t.rotated (units_below t.origin.0 (shown_by t)) [] z in
    let k = beyond_below (all_discharged w) t.origin.0 0 (shown_by t) (λ j low. absurd (omega (arith, low))) in
    let all : gain_at w place (top_record t) ≤ shown_by t - 0 = rw us k in
    omega (arith, all, none, first)
