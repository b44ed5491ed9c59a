use Rattle.finger_level.proofs.Found.{leaf_weight, node_weight}
use Rattle.finger_level.proofs.reads.weigh.Goals as goal

pub returns-in-Leaf-clause-weight : goal.returns-in-Leaf-clause-weight
returns-in-Leaf-clause-weight g c = leaf_weight (g.met.H.Heap.lawful c.args.h.now).world c.args.e.0 c.in-Leaf.item c.in-Leaf.ensures.rec

pub returns-in-Node-clause-weight : goal.returns-in-Node-clause-weight
returns-in-Node-clause-weight g c = let r = c.in-Node in node_weight (g.met.H.Heap.lawful c.args.h.now).world c.args.e.0 _ _ _ _ r.size r.key r.ensures.rec
