use Rattle.heap_store.proofs.CellLaws.{some_first}
use Rattle.heap_store.proofs.cells.first_cell.Goals as goal

pub unreachable-requires : goal.unreachable-requires
unreachable-requires g c = some_first (g.met.H.Heap.lawful c.args.h.now).world c.args.p.0 c.value_of.result c.requires.stream c.value_of.ensures.value c.requires.some c.in_default.not-Cons
