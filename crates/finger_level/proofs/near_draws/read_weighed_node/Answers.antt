use Rattle.std.proofs.Common.{refl}
use Rattle.finger_level.proofs.Found.{node_at, node_weight}
use Rattle.finger_level.proofs.near_draws.read_weighed_node.Goals as goal

pub returns-clause-node : goal.returns-clause-node
returns-clause-node g c =
    let r = c.in-Node in
    let law = (g.met.H.Heap.lawful c.args.h.now).world in
    record {
      group = c.group_elements-group.result;
      few = c.few_of_group.ensures;
      shown = rw c.group_elements-group.ensures (node_at law c.args.e.0 r.count r.e1 r.e2 r.e3 r.size r.key r.ensures.rec);
      size = (node_weight law c.args.e.0 r.count r.e1 r.e2 r.e3 r.size r.key r.ensures.rec).size;
      bare = refl;
    }
