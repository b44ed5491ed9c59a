use Rattle.std.proofs.Common.{arith}
use Rattle.heap_store.proofs.PlainCounts.{counts_told, fixed_published}
use Rattle.heap_store.proofs.plain.PlainHeap.counts.Goals as goal

pub overflow_sub-result : goal.overflow_sub-result
overflow_sub-result c = let h = c.args.self.now in omega (arith, c.published.ensures, fixed_published h.capacity h.row_capacity h.nodes.shown h.notes.claims h.rows.items h.plain)

pub returns : goal.returns
returns c = let h = c.args.self.now in counts_told h.capacity h.row_capacity h.nodes.shown h.rows.items h.work c.published.result h.counted c.published.ensures
