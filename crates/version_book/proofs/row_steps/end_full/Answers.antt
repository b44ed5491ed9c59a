use Rattle.version_book.proofs.Endings.{full_may, full_done}
use Rattle.version_book.proofs.row_steps.end_full.Goals as goal

pub end_row-requires : goal.end_row-requires
end_row-requires g c = full_may c.args.refusal c.requires.working c.put_word.ensures c.full_word.ensures.drawn c.full_word.ensures.wanted (g.met.R.Heap.lawful c.put_word.new.heap) (g.met.R.Heap.lawful c.args.heap.now) c.requires.last c.requires.drawn c.requires.cause

pub returns : goal.returns
returns g c = full_done c.args.refusal c.requires.working c.put_word.ensures c.full_word.ensures.drawn c.full_word.ensures.wanted (g.met.R.Heap.lawful c.put_word.new.heap) c.end_row.ensures
