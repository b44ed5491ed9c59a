use Rattle.version_book.proofs.Puts.{may_put, word_put}
use Rattle.version_book.proofs.row_steps.put_word.Goals as goal

pub store_row-requires : goal.store_row-requires
store_row-requires g c = may_put _ _ _ _ (g.met.R.Heap.lawful c.args.heap.now) c.requires

pub returns : goal.returns
returns g c = word_put _ _ _ _ _ c.requires c.store_row.ensures
