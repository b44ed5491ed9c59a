use Rattle.std.proofs.Common.{arith, ap, ◌∙◌, Some}
use Rattle.heap_store.proofs.GrowthLaws.{grows_refl}
use Rattle.finger_level.proofs.Laying.{digit_fits, new_put}
use Rattle.finger_level.proofs.Keying.{few_keyed}
use Rattle.finger_level.proofs.puts.put_few.Goals as goal

pub put-requires-clause-left : goal.put-requires-clause-left
put-requires-clause-left g c = omega (arith, c.requires.part.room)

pub put-requires-clause-fits : goal.put-requires-clause-fits
put-requires-clause-fits g c =
    let k = c.requires.part in
    let law = g.met.H.Heap.lawful c.args.h.now in
    rw c.digit.ensures (digit_fits law.world (grows_refl _) law k.depth c.args.run.now.next (k.held.each c.args.run.now.next (omega arith) (omega (arith, k.room))) c.args.few c.args.weight k.elements c.requires.counts (omega arith))

pub returns-clause-put : goal.returns-clause-put
returns-clause-put g c =
    let p = c.put.ensures in
    new_put c.args.few c.args.weight c.digit.result c.put.result.0 c.digit.ensures c.requires.part.held p.put p.run p.place

pub returns-clause-keys : goal.returns-clause-keys
returns-clause-keys g c =
    let p = c.put.ensures in
    λ keyed h key. rw p.place (few_keyed (g.met.H.Heap.lawful c.args.h.now).world (g.met.H.Heap.lawful c.put.new.self).world p.put.grows keyed c.args.few c.args.weight c.args.run.now.next (p.put.here ∙ ap Some c.digit.ensures) key h)
