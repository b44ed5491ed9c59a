use Rattle.std.proofs.Common.{sym, ◌∙◌}
use Rattle.heap_store.proofs.PlainReads.{node_shown}
use Rattle.heap_store.proofs.plain.PlainHeap.node.Goals as goal

pub returns : goal.returns
returns c = let h = c.args.self.now in c.get.ensures ∙ sym (node_shown h.capacity h.row_capacity h.nodes.shown h.rows.items c.args.place.0)
