use Rattle.finger_level.proofs.Pushing.{tree_put}
use Rattle.finger_level.proofs.Keying.{middle_keyed}
use Rattle.finger_level.proofs.puts.put_middle.Goals as goal

pub returns-in-Tree-clause-put : goal.returns-in-Tree-clause-put
returns-in-Tree-clause-put g c = tree_put c.args.middle c.in-Tree.tree c.args.family.now c.in-Tree.is (g.met.H.Heap.lawful c.args.h.now).world c.requires c.tree_or_empty.result c.tree_or_empty.ensures

pub returns-in-Tree-clause-keys : goal.returns-in-Tree-clause-keys
returns-in-Tree-clause-keys g c = λ h. middle_keyed (g.met.H.Heap.lawful c.args.h.now).world c.args.keyed c.args.middle c.in-Tree.tree c.in-Tree.is h c.tree_or_empty.result c.tree_or_empty.ensures
