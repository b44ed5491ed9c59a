use Rattle.version_book.proofs.Endings.{memory_may, memory_done}
use Rattle.version_book.proofs.row_steps.end_for_memory.Goals as goal

pub end_row-requires : goal.end_row-requires
end_row-requires g c = memory_may c.requires.working (g.met.R.Heap.lawful c.args.heap.now) c.requires.cause

pub returns : goal.returns
returns g c = memory_done c.requires.working (g.met.R.Heap.lawful c.args.heap.now) c.end_row.ensures
