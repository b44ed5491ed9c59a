use Rattle.std.proofs.Common.{sym, subst}
use Rattle.finger_level.specs.Reads.{IsNodeAt}
use Rattle.finger_level.proofs.Found.{node_at}
use Rattle.finger_level.proofs.reads.read_node.Goals as goal

pub returns-clause-shown : goal.returns-clause-shown
returns-clause-shown g c =
    let r = c.in-Node in
    subst (λ b. IsNodeAt (g.H.Heap.view c.args.h.now).seen b c.args.e.0) (sym c.group_elements.ensures) (node_at (g.met.H.Heap.lawful c.args.h.now).world c.args.e.0 r.count r.e1 r.e2 r.e3 r.size r.key r.ensures.rec)
