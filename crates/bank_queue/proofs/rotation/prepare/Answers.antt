use Rattle.std.proofs.Common.{◌≡◌, arith, ap, ◌∙◌, Some}
use Rattle.lazy_rec.specs.declared.records.Rec.TheVariants.{BankRot}
use Rattle.heap_store.specs.World.{recs}
use Rattle.heap_store.proofs.ReadLaws.{is_there}
use Rattle.heap_store.proofs.ValueLaws.{value_place_is, place_waits}
use Rattle.bank_queue.proofs.Fronts.{front_there}
use Rattle.bank_queue.proofs.RotationLaws.{RotationWell, rotation_well}
use Rattle.bank_queue.proofs.RotationWork.{ready_next, need_next}
use Rattle.bank_queue.proofs.rotation.prepare.Goals as goal
use Rattle.bank_queue.proofs.rotation.prepare.Goals.{In-BankRot}

here : (g : _) (c : In-BankRot g) → recs (g.H.Heap.view c.args.h.now).seen c.args.s.0 ≡ Some (BankRot c.in-BankRot.xs c.in-BankRot.rear c.in-BankRot.left c.in-BankRot.origin c.in-BankRot.off)
here g c = c.requires.rec ∙ ap Some c.in-BankRot.is

parts : (g : _) (c : In-BankRot g) → RotationWell (g.H.Heap.view c.args.h.now).seen c.args.s.0 c.in-BankRot.xs c.in-BankRot.rear c.in-BankRot.left c.in-BankRot.origin c.in-BankRot.off
parts g c = rotation_well (g.met.H.Heap.lawful c.args.h.now).world c.args.s.0 _ _ _ _ _ (here g c)

pub overflow_add-result : goal.overflow_add-result
overflow_add-result g c = omega (arith, (parts g (goal.at.overflow_add-result g c).In-BankRot).off_fits)

pub value_place-requires : goal.value_place-requires
value_place-requires g c =
    let rs = recs (g.H.Heap.view c.args.h.now).seen in
    is_there rs c.in-BankRot.xs.0 (front_there rs c.in-BankRot.xs.0 (parts g (goal.at.value_place-requires g c).In-BankRot).front)

pub returns-in-Some-clause-answer : goal.returns-in-Some-clause-answer
returns-in-Some-clause-answer g c =
    let r = c.in-BankRot in
    let law = (g.met.H.Heap.lawful c.value_place.new.h).world in
    let e = c.value_place.ensures.quiet.grows.records _ _ (here g (goal.at.returns-in-Some-clause-answer g c).In-BankRot) in
    ready_next law c.args.s.0 r.xs r.rear r.left r.origin r.off (omega arith) e (value_place_is law r.xs.0 c.in-Some.field-0.0 c.in-Some.ensures.place).known

pub returns-in-None-clause-answer : goal.returns-in-None-clause-answer
returns-in-None-clause-answer g c =
    let r = c.in-BankRot in
    let law = g.met.H.Heap.lawful c.value_place.new.h in
    let e = c.value_place.ensures.quiet.grows.records _ _ (here g (goal.at.returns-in-None-clause-answer g c).In-BankRot) in
    let rs = recs (g.H.Heap.view c.value_place.new.h).seen in
    let there = front_there rs r.xs.0 (rotation_well law.world c.args.s.0 r.xs r.rear r.left r.origin r.off e).front in
    need_next law.world c.args.s.0 r.xs r.rear r.left r.origin r.off (omega arith) e (place_waits (g.H.Heap.view c.value_place.new.h).seen r.xs.0 there c.in-None.ensures.place) law.funded.settled
