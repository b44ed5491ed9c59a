use Rattle.finger_level.proofs.NodePuts.{only_ask, first_ask, second_ask, one_put, two_put}
use Rattle.finger_level.proofs.Keying.{one_keyed, two_keyed}
use Rattle.finger_level.proofs.puts.put_nodes.Goals as goal

pub put_node-requires : goal.put_node-requires
put_node-requires g c = only_ask (g.met.H.Heap.lawful c.args.h.now).world c.in-One.a c.args.nodes c.in-One.is c.requires

pub put_node-first-requires : goal.put_node-first-requires
put_node-first-requires g c = first_ask (g.met.H.Heap.lawful c.args.h.now).world c.in-Two.a c.in-Two.b c.args.nodes c.in-Two.is c.requires

pub put_node-second-requires : goal.put_node-second-requires
put_node-second-requires g c = second_ask (g.met.H.Heap.lawful c.args.h.now).world c.in-Two.a c.in-Two.b c.args.nodes c.in-Two.is c.requires c.put_node-first.ensures.put.laid

pub returns-in-One-clause-put : goal.returns-in-One-clause-put
returns-in-One-clause-put g c = one_put c.in-One.a c.args.nodes c.put_node.result c.in-One.is c.put_node.ensures.put

pub returns-in-Two-clause-put : goal.returns-in-Two-clause-put
returns-in-Two-clause-put g c = two_put c.in-Two.a c.in-Two.b c.args.nodes c.put_node-first.result c.put_node-second.result c.in-Two.is c.put_node-first.ensures.put c.put_node-second.ensures.put

pub returns-in-One-clause-keys : goal.returns-in-One-clause-keys
returns-in-One-clause-keys g c = λ h. one_keyed (g.H.Heap.view c.args.h.now).seen (g.H.Heap.view c.put_node.new.h).seen c.args.keyed c.in-One.a c.args.nodes c.in-One.is h c.put_node.result c.put_node.ensures.keys

pub returns-in-Two-clause-keys : goal.returns-in-Two-clause-keys
returns-in-Two-clause-keys g c = λ h. two_keyed (g.met.H.Heap.lawful c.args.h.now).world (g.met.H.Heap.lawful c.put_node-first.new.h).world c.put_node-first.ensures.put.laid.filled.grows c.put_node-second.ensures.put.laid.filled.grows c.args.keyed c.in-Two.a c.in-Two.b c.args.nodes c.in-Two.is h c.put_node-first.result c.put_node-second.result c.put_node-first.ensures.keys c.put_node-second.ensures.keys
