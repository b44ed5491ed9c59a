use Rattle.finger_level.proofs.NodeRows.{near_ask, far_ask, near_put, both_put, near_keyed, both_keyed}
use Rattle.finger_level.proofs.puts.put_row.Goals as goal

pub put_nodes-near-requires : goal.put_nodes-near-requires
put_nodes-near-requires g c = near_ask (g.met.H.Heap.lawful c.args.h.now).world c.args.row c.requires

pub put_nodes-far-requires : goal.put_nodes-far-requires
put_nodes-far-requires g c = far_ask (g.met.H.Heap.lawful c.args.h.now).world c.args.row c.in-Some.nodes c.in-Some.is c.requires c.put_nodes-near.ensures.put

pub returns-in-None-clause-put : goal.returns-in-None-clause-put
returns-in-None-clause-put g c = near_put c.args.row c.in-None.is c.put_nodes-near.ensures.put c.few_of_pushed.result c.few_of_pushed.ensures

pub returns-in-Some-clause-put : goal.returns-in-Some-clause-put
returns-in-Some-clause-put g c = both_put c.args.row c.in-Some.nodes c.in-Some.is c.put_nodes-near.ensures.put c.put_nodes-far.ensures.put c.few_of_both.result c.few_of_both.ensures

pub returns-in-None-clause-keys : goal.returns-in-None-clause-keys
returns-in-None-clause-keys g c = λ h. near_keyed (g.H.Heap.view c.args.h.now).seen (g.H.Heap.view c.put_nodes-near.new.h).seen c.args.keyed c.args.row c.put_nodes-near.result c.few_of_pushed.result c.few_of_pushed.ensures c.put_nodes-near.ensures.keys h

pub returns-in-Some-clause-keys : goal.returns-in-Some-clause-keys
returns-in-Some-clause-keys g c = λ h. both_keyed (g.met.H.Heap.lawful c.args.h.now).world (g.met.H.Heap.lawful c.put_nodes-near.new.h).world c.put_nodes-near.ensures.put.laid.filled.grows c.put_nodes-far.ensures.put.laid.filled.grows c.args.keyed c.args.row c.in-Some.nodes c.in-Some.is c.put_nodes-near.result c.put_nodes-far.result c.few_of_both.result c.few_of_both.ensures c.put_nodes-near.ensures.keys c.put_nodes-far.ensures.keys h
