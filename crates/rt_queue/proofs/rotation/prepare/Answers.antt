use Rattle.std.proofs.Common.{arith, sym, ap, ◌∙◌, Some}
use Rattle.rt_queue.proofs.RotationWork.{three, ready_rotation}
use Rattle.rt_queue.proofs.rotation.prepare.Goals as goal

pub returns-else-left-eq0-clause-answer : goal.returns-else-left-eq0-clause-answer
returns-else-left-eq0-clause-answer g c =
    let r = c.in-RtRot in
    ready_rotation (g.met.H.Heap.lawful c.args.h.now).world c.args.s.0 r.xs r.rear r.acc r.left r.origin r.off (c.requires.rec ∙ ap Some r.is) 3 (sym (three r.left (omega arith)))
