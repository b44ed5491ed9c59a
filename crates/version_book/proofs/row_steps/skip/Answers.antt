use Rattle.version_book.proofs.Skips.{skip_may, skip_done}
use Rattle.version_book.proofs.row_steps.skip.Goals as goal

pub end_row-requires : goal.end_row-requires
end_row-requires g c = skip_may c.requires.drawn c.start_row.ensures (g.met.R.Heap.lawful c.start_row.new.heap) c.requires.event c.requires.lost

pub returns : goal.returns
returns g c = skip_done c.requires.drawn c.start_row.ensures (g.met.R.Heap.lawful c.start_row.new.heap) c.end_row.ensures
