use Rattle.std.proofs.Common.{arith, ◌∙◌}
use Rattle.heap_store.proofs.PlainRows.{loaded, loaded_zero}
use Rattle.heap_store.proofs.plain.PlainHeapRows.load_row.Goals as goal

pub returns-then-at-len-clause-value : goal.returns-then-at-len-clause-value
returns-then-at-len-clause-value c = let h = c.args.self.now in c.word_of.ensures ∙ loaded h.capacity h.row_capacity h.nodes.shown h.notes.claims h.rows.items h.plain h.notes.open_rows h.refused h.last c.args.name c.args.word c.index.result.now c.requires.low (omega (arith, c.if-at-len.true, c.len.ensures, h.rows.ok.0)) c.index.ensures

pub returns-else-at-len-clause-value : goal.returns-else-at-len-clause-value
returns-else-at-len-clause-value c = let h = c.args.self.now in loaded_zero h.capacity h.row_capacity h.nodes.shown h.notes.claims h.rows.items h.plain h.notes.open_rows h.refused h.last c.args.name c.args.word c.requires.low (omega (arith, c.if-at-len.false, c.len.ensures, h.rows.ok.0))
