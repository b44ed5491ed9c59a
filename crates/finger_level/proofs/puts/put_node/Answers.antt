use Rattle.std.proofs.Common.{arith, ap, ◌∙◌, Some}
use Rattle.finger_level.proofs.Weighing.{sorts_of_elements}
use Rattle.finger_level.proofs.Laying.{laid_put, node_later, node_free, node_fits}
use Rattle.heap_store.specs.World.{recs}
use Rattle.finger_level.proofs.Keying.{node_keyed}
use Rattle.heap_store.proofs.GrowthLaws.{grows_trans}
use Rattle.finger_level.proofs.puts.put_node.Goals as goal

pub weigh_group-weight-requires : goal.weigh_group-weight-requires
weigh_group-weight-requires g c = record { elements = sorts_of_elements (g.met.H.Heap.lawful c.args.h.now).world c.requires.depth c.args.run.now.next _ c.requires.elements.each; small = c.requires.elements.small }

pub put-requires-clause-fits : goal.put-requires-clause-fits
put-requires-clause-fits g c =
    let q = c.weigh_group-weight.ensures.quiet in
    rw c.node.ensures (node_fits (g.met.H.Heap.lawful c.args.h.now).world q.grows (g.met.H.Heap.lawful c.weigh_group-weight.new.h) c.requires.depth c.args.run.now.next (rw q.hand (c.requires.held.each c.args.run.now.next (omega arith) (omega (arith, c.requires.room)))) c.args.group c.weigh_group-weight.result c.requires.elements c.weigh_group-weight.ensures.size (omega arith))

pub returns-clause-put : goal.returns-clause-put
returns-clause-put g c =
    let p = c.put.ensures in
    record {
      laid = laid_put c.requires.held c.weigh_group-weight.ensures.quiet p.put p.run (rw c.node.ensures (node_later c.args.run.now.next c.args.group c.weigh_group-weight.result)) (rw c.node.ensures (node_free (recs (g.H.Heap.view c.weigh_group-weight.new.h).seen) c.args.run.now.next c.args.group c.weigh_group-weight.result));
      at_next = p.place;
      weight = c.weigh_group-weight.result;
      here = rw p.place (p.put.here ∙ ap Some c.node.ensures);
    }

pub returns-clause-keys : goal.returns-clause-keys
returns-clause-keys g c =
    let p = c.put.ensures in
    λ h. rw p.place (node_keyed (g.met.H.Heap.lawful c.args.h.now).world (g.met.H.Heap.lawful c.put.new.self).world (grows_trans c.weigh_group-weight.ensures.quiet.grows p.put.grows) c.args.keyed c.args.group c.weigh_group-weight.result c.args.run.now.next (p.put.here ∙ ap Some c.node.ensures) (c.weigh_group-weight.ensures.key h) h)
