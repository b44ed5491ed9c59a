use Rattle.std.proofs.Common.{refl, ap}
use Rattle.heap_store.proofs.Steps.{Quiet_refl}
use Rattle.finger_level.specs.declared.level.Side.TheVariants as sides
use Rattle.finger_apps.specs.Sequence.{pops_at, pushes_at}
use Rattle.finger_apps.proofs.Bases.{base_root, base_up, starts}
use Rattle.finger_apps.proofs.PopEnds.{pop_answer}
use Rattle.finger_apps.proofs.Readiness.{push_ready, none_ready, others}
use Rattle.finger_apps.proofs.events.prepare_event.Goals as goal

pub popped_need-requires : goal.popped_need-requires
popped_need-requires g c = let b = base_root (g.met.H.Heap.lawful c.args.h.now).world c.args.job.now.base c.requires.job.base c.requires.kind in record { depth = 0; value = b.value; of_level = b.of_level }

pub popped_need-requires-in-Popr : goal.popped_need-requires-in-Popr
popped_need-requires-in-Popr g c = let b = base_root (g.met.H.Heap.lawful c.args.h.now).world c.args.job.now.base c.requires.job.base c.requires.kind in record { depth = 0; value = b.value; of_level = b.of_level }

pub returns-in-Popl-clause-answer : goal.returns-in-Popl-clause-answer
returns-in-Popl-clause-answer g c =
    let law = (g.met.H.Heap.lawful c.args.h.now).world in
    let p = c.popped_need.ensures in
    pop_answer (g.met.H.Heap.lawful c.popped_need.new.h).world c.args.job.now sides.Left c.requires.kind (ap (λ o. pops_at o sides.Left) c.in-Popl.is) (starts c.args.job.now c.requires.kind c.requires.op c.requires.job) (base_up law p.quiet.grows c.args.job.now.base (base_root law c.args.job.now.base c.requires.job.base c.requires.kind)) c.popped_need.result p.answer

pub returns-in-Popr-clause-answer : goal.returns-in-Popr-clause-answer
returns-in-Popr-clause-answer g c =
    let law = (g.met.H.Heap.lawful c.args.h.now).world in
    let p = c.popped_need-in-Popr.ensures in
    pop_answer (g.met.H.Heap.lawful c.popped_need-in-Popr.new.h).world c.args.job.now sides.Right c.requires.kind (ap (λ o. pops_at o sides.Right) c.in-Popr.is) (starts c.args.job.now c.requires.kind c.requires.op c.requires.job) (base_up law p.quiet.grows c.args.job.now.base (base_root law c.args.job.now.base c.requires.job.base c.requires.kind)) c.popped_need-in-Popr.result p.answer

pub returns-in-Pushl-clause-answer : goal.returns-in-Pushl-clause-answer
returns-in-Pushl-clause-answer g c =
    let law = (g.met.H.Heap.lawful c.args.h.now).world in
    let p = c.places_of_push.ensures in
    push_ready (g.met.H.Heap.lawful c.places_of_push.new.h).world c.args.job.now sides.Left c.requires.kind (ap (λ o. pushes_at o sides.Left) c.in-Pushl.is) (starts c.args.job.now c.requires.kind c.requires.op c.requires.job) (base_up law p.quiet.grows c.args.job.now.base (base_root law c.args.job.now.base c.requires.job.base c.requires.kind)) c.places_of_push.result p.places p.most

pub returns-in-Pushr-clause-answer : goal.returns-in-Pushr-clause-answer
returns-in-Pushr-clause-answer g c =
    let law = (g.met.H.Heap.lawful c.args.h.now).world in
    let p = c.places_of_push-in-Pushr.ensures in
    push_ready (g.met.H.Heap.lawful c.places_of_push-in-Pushr.new.h).world c.args.job.now sides.Right c.requires.kind (ap (λ o. pushes_at o sides.Right) c.in-Pushr.is) (starts c.args.job.now c.requires.kind c.requires.op c.requires.job) (base_up law p.quiet.grows c.args.job.now.base (base_root law c.args.job.now.base c.requires.job.base c.requires.kind)) c.places_of_push-in-Pushr.result p.places p.most

pub returns-in_default : goal.returns-in_default
returns-in_default g c =
    let law = (g.met.H.Heap.lawful c.args.h.now).world in
    let d = c.in_default in
    let k = others c.args.job.now.op c.requires.op d.not-Popl d.not-Popr d.not-Pushl d.not-Pushr in
    record {
      quiet = Quiet_refl (g.H.Heap.view c.args.h.now);
      cursor = refl;
      answer = none_ready law c.args.job.now (base_root law c.args.job.now.base c.requires.job.base c.requires.kind) k.0 (k.1 c.args.job.now.base.size);
      ready = λ _. refl;
    }
