use Rattle.std.proofs.Common.{arith}
use Rattle.finger_level.proofs.Levels.{empty_put, single_fits, single_put}
use Rattle.finger_level.proofs.Keying.{keyed_up, single_keyed, empty_keyed}
use Rattle.finger_level.specs.Keyed.{HasKeys}
use Rattle.finger_level.proofs.puts.put_level.Goals as goal

pub put-requires-clause-fits : goal.put-requires-clause-fits
put-requires-clause-fits g c = single_fits (g.met.H.Heap.lawful c.args.h.now) c.args.family.now c.args.whole c.args.level c.in-One.elem c.in-One.is c.requires (omega arith)

pub returns-in-Empty-clause-put : goal.returns-in-Empty-clause-put
returns-in-Empty-clause-put g c = empty_put (g.met.H.Heap.lawful c.args.h.now).world c.args.family.now c.args.whole c.args.level c.in-Empty.is c.requires

pub returns-in-One-clause-put : goal.returns-in-One-clause-put
returns-in-One-clause-put g c =
    let p = c.put.ensures in
    single_put (g.met.H.Heap.lawful c.args.h.now).world (g.met.H.Heap.lawful c.put.new.self).world c.args.family.now c.args.whole c.args.level c.in-One.elem c.in-One.is c.requires p.put p.run p.place

pub returns-in-Empty-clause-keys : goal.returns-in-Empty-clause-keys
returns-in-Empty-clause-keys g c = λ h k. empty_keyed (g.met.H.Heap.lawful c.args.h.now).world c.args.keyed

pub returns-in-One-clause-keys : goal.returns-in-One-clause-keys
returns-in-One-clause-keys g c =
    let p = c.put.ensures in
    let law = (g.met.H.Heap.lawful c.args.h.now).world in
    let law2 = (g.met.H.Heap.lawful c.put.new.self).world in
    let l = single_put law law2 c.args.family.now c.args.whole c.args.level c.in-One.elem c.in-One.is c.requires p.put p.run p.place in
    λ h k. (let e : HasKeys c.args.keyed (g.H.Heap.view c.args.h.now).seen c.in-One.elem.0 = rw c.in-One.is at h in
    single_keyed law2 c.args.keyed c.put.result.0 c.in-One.elem c.args.whole.size c.args.whole.key _ (rw p.place p.put.here) l.items k (keyed_up law p.put.grows c.args.keyed c.in-One.elem.0 e))
