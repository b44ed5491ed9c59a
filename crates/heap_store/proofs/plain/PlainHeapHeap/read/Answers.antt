use Rattle.std.proofs.Common.{true}
use Rattle.heap_store.proofs.PlainReads.{shown_read, rec_read}
use Rattle.heap_store.proofs.plain.PlainHeapHeap.read.Goals as goal

pub rec-requires : goal.rec-requires
rec-requires c = let h = c.args.self.now in shown_read h.capacity h.row_capacity h.nodes.shown h.rows.items c.args.r.0 (λ _. true) c.requires

pub returns-clause-rec : goal.returns-clause-rec
returns-clause-rec c = let h = c.args.self.now in rec_read h.capacity h.row_capacity h.nodes.shown h.rows.items c.args.r.0 (λ _. true) c.rec.result c.requires c.rec.ensures
