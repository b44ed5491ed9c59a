-- What tops show as discharged: of each schedule its unit and those before it.
use Rattle.std.proofs.Common.{◌≡◌, ℕ, suc, ◌+◌, ◌-◌, ◌≤◌, refl, sym, ◌∙◌, arith, ⊎_elim, Bool, true, Some, List, [], ◌∷◌}
use Rattle.std.specs.List.{list_all}
use Rattle.std.specs.Set.{is_member}
use Rattle.std.proofs.lemmas.Bool.{true≢false, and_from, or_left, or_right, eq-eqb, cases_eq}
use Rattle.lazy_rec.specs.declared.places.Ref.{Ref}
use Rattle.lazy_rec.specs.declared.records.Rec.{Rec}
use Rattle.lazy_rec.specs.declared.records.Rec.TheVariants.{Nil, Cons, RtTop, RtRot}
use Rattle.lazy_rec.specs.Units.{WorkUnit, same_unit, units_below, schedule_units, paid}
use Rattle.heap_store.specs.World.{World, recs, value_at}
use Rattle.heap_store.specs.Growth.{Grows}
use Rattle.heap_store.specs.Completion.{is_plain}
use Rattle.heap_store.specs.Lawful.{IsLawful}
use Rattle.heap_store.specs.Budget.{all_discharged, are_discharged, gain_at, is_funded}
use Rattle.heap_store.proofs.LawfulLaws.{within, lawful_names}
use Rattle.heap_store.proofs.NameLaws.{IsPublished}
use Rattle.heap_store.proofs.GrowthLaws.{value_up}
use Rattle.heap_store.proofs.MadeLaws.{plain_kept}
use Rattle.heap_store.proofs.UnitLaws.{discharged_has, are_discharged_up, run_in, run_at, beyond_below, free}
use Rattle.heap_store.proofs.CellLaws.{is_cell_or_end, plain_there, plain_value, plain_rest}
use Rattle.rt_queue.specs.declared.queue.Top.{Top}
use Rattle.rt_queue.specs.Queue.{top_record, is_schedule}
use Rattle.rt_queue.proofs.Fronts.{schedule_cases, plain_schedule, rotation_schedule, schedule_front, front_there, rest_plain, NextRotation, rest_next}

-- ---- what is discharged

same_self : (u : WorkUnit) → same_unit u u ≡ true
same_self u = and_from _ _ (eq-eqb u.0 u.0 refl) (eq-eqb u.1 u.1 refl)

-- a list of units each of which is in another
each_member : (seen us : List WorkUnit) → ((u : WorkUnit) → is_member same_unit us u ≡ true → is_member same_unit seen u ≡ true) → list_all (λ u. is_member same_unit seen u) us ≡ true
each_member seen [] h = refl
each_member seen (u ∷ us) h = and_from (is_member same_unit seen u) _ (h u (or_left (same_unit u u) (is_member same_unit us u) (same_self u))) (each_member seen us (λ x k. h x (or_right (same_unit x u) (is_member same_unit us x) k)))

-- what a published record shows is discharged
pub shown : (w : World) (p : ℕ) (r : Rec) → recs w p ≡ Some r → are_discharged w (paid (recs w) p r) ≡ true
shown w p r e = each_member (all_discharged w) (paid (recs w) p r) (λ u k. discharged_has (recs w) _ p r e (within w p r e) u k)

-- a top's schedule is paid for
pub sched_paid : (w : World) (p : ℕ) (t : Top) → recs w p ≡ Some (top_record t) → are_discharged w (schedule_units (recs w t.sched.0)) ≡ true
sched_paid w p t e = shown w p (top_record t) e

pub paid_funded : (w : World) (p : ℕ) (xs rear acc : Ref) (left : ℕ) (o : Ref) (off : ℕ) → recs w p ≡ Some (RtRot xs rear acc left o off) → are_discharged w (schedule_units (recs w p)) ≡ true → is_funded w p (RtRot xs rear acc left o off) ≡ true
paid_funded w p xs rear acc left o off e h =
    let k : are_discharged w (units_below o.0 (off + 1)) ≡ true = rw e at h in
    run_in (all_discharged w) o.0 off 1 (λ j low high. run_at (all_discharged w) o.0 0 (off + 1) k j (omega arith) (omega (arith, high)))

-- ---- what a put discharges

-- plain cells have no units
plain_units : {w : World} → IsLawful w → (p : ℕ) → is_plain (recs w) p ≡ true → schedule_units (recs w p) ≡ []
plain_units {w} law p h = let k = plain_there (recs w) p h in by k.0 k.1 (plain_value law p k.0 k.1 h)
  where
    by : (r : Rec) → recs w p ≡ Some r → is_cell_or_end r ≡ true → schedule_units (recs w p) ≡ []
    by Nil e k = rw e refl
    by (Cons _ _ _) e k = rw e refl
    by _ e k = absurd (true≢false (sym k))

-- a schedule that stands one cell on shows at most one unit more
pub moved_gain : {w : World} → IsLawful w → (place : ℕ) (t : Top) → is_schedule (recs w) t.sched.0 ≡ true → are_discharged w (schedule_units (recs w t.sched.0)) ≡ true → (c : Bool) (v : ℕ) (rest : Ref) → value_at w t.sched.0 ≡ Some (Cons c v rest) → gain_at w place (top_record (record t { sched = rest })) ≤ 1
moved_gain {w} law place t sched before c v rest h = schedule_cases w t.sched.0 sched
    (λ k. (let f = k.fields in rotation f.xs f.rear f.acc f.left f.origin f.off k.here))
    (λ k. none (plain_rest law t.sched.0 c v rest h k))
  where
    none : is_plain (recs w) rest.0 ≡ true → gain_at w place (top_record (record t { sched = rest })) ≤ 1
    none k = free w place (top_record (record t { sched = rest })) 1 (plain_units law rest.0 k)

    next : (o : Ref) (left off : ℕ) → are_discharged w (units_below o.0 (off + 1)) ≡ true → NextRotation w rest.0 left o.0 (suc off) → gain_at w place (top_record (record t { sched = rest })) ≤ 1
    next o left off seen n =
        let there = n.here in
        let same = n.same in
        let us : paid (recs w) place (top_record (record t { sched = rest })) ≡ units_below o.0 (suc off + 1) = rw (there, same) refl in
        let k = beyond_below (all_discharged w) o.0 (off + 1) (suc off + 1) (λ j low. run_at (all_discharged w) o.0 0 (off + 1) seen j (omega arith) (omega (arith, low))) in
        rw us (omega (arith, k))

    rotation : (xs rear acc : Ref) (left : ℕ) (o : Ref) (off : ℕ) → recs w t.sched.0 ≡ Some (RtRot xs rear acc left o off) → gain_at w place (top_record (record t { sched = rest })) ≤ 1
    rotation xs rear acc left o off e = ⊎_elim
        (λ z. none (rest_plain w law t.sched.0 xs rear acc left o off e c v rest h z))
        (λ z. next o (left - 1) off (rw e at before) (rest_next w law t.sched.0 xs rear acc left o off e c v rest h (omega (arith, z))))
        (cases_eq left 0)

-- growth keeps a schedule and what is paid for it
pub schedule_up : {a b : World} → IsLawful a → Grows a b → (p : ℕ) → is_schedule (recs a) p ≡ true → is_schedule (recs b) p ≡ true
schedule_up {a} {b} law g p h = schedule_cases a p h
    (λ k. (let f = k.fields in rotation_schedule (recs b) p f.xs f.rear f.acc f.left f.origin f.off (g.records p _ k.here)))
    (λ k. plain_schedule (recs b) p (sym (plain_kept (recs a) (recs b) (lawful_names law) g.records p (plain_there (recs a) p k)) ∙ k))

paid_up : {a b : World} → IsLawful a → Grows a b → (p : ℕ) → IsPublished (recs a) p → are_discharged a (schedule_units (recs a p)) ≡ true → are_discharged b (schedule_units (recs b p)) ≡ true
paid_up {a} {b} law g p is h =
    let e = is.1 in
    let f = g.records p is.0 e in
    let k : are_discharged a (schedule_units (Some is.0)) ≡ true = rw e at h in
    rw f (are_discharged_up a b (lawful_names law) g.records (schedule_units (Some is.0)) k)

-- the same in a later world
pub later_gain : {a b : World} → IsLawful a → IsLawful b → Grows a b → (place : ℕ) (t : Top) → is_schedule (recs a) t.sched.0 ≡ true → are_discharged a (schedule_units (recs a t.sched.0)) ≡ true → (c : Bool) (v : ℕ) (rest : Ref) → value_at a t.sched.0 ≡ Some (Cons c v rest) → gain_at b place (top_record (record t { sched = rest })) ≤ 1
later_gain {a} {b} law law2 g place t sched before c v rest h =
    let is = front_there (recs a) t.sched.0 (schedule_front law t.sched.0 sched) in
    moved_gain law2 place t (schedule_up law g t.sched.0 sched) (paid_up law g t.sched.0 is before) c v rest (value_up a b g t.sched.0 _ h)

-- the top of a new rotation shows one
pub rotated_gain : (w : World) (place : ℕ) (rotation : Ref) (lenf : ℕ) (nil : Ref) (xs rear acc : Ref) (left : ℕ) (o : Ref) → recs w rotation.0 ≡ Some (RtRot xs rear acc left o 0) → gain_at w place (RtTop rotation lenf nil 0 rotation) ≤ 1
rotated_gain w place rotation lenf nil xs rear acc left o e =
    let us : paid (recs w) place (RtTop rotation lenf nil 0 rotation) ≡ units_below o.0 1 = rw e refl in
    let k = beyond_below (all_discharged w) o.0 0 1 (λ j low. absurd (omega (arith, low))) in
    rw us (omega (arith, k))

-- the top of the empty queue shows nothing
pub empty_free : {w : World} → IsLawful w → (place : ℕ) (t : Top) → is_plain (recs w) t.sched.0 ≡ true → paid (recs w) place (top_record t) ≡ []
empty_free law place t h = plain_units law t.sched.0 h
