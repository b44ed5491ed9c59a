use Rattle.std.proofs.lemmas.Bool.{ltb-true}
use Rattle.version_book.proofs.Endings.{reply_may, reply_done}
use Rattle.version_book.proofs.row_steps.end_with_reply.Goals as goal

pub version_word-requires-clause-size : goal.version_word-requires-clause-size
version_word-requires-clause-size g c = ltb-true _ _ (c.requires.answers _ c.requires.working.here).in_range

pub end_row-requires : goal.end_row-requires
end_row-requires g c = reply_may c.requires.working c.put_word.ensures c.put_reply.ensures.put c.version_word.ensures (g.met.R.Heap.lawful c.put_reply.new.heap) (g.met.R.Heap.lawful c.args.heap.now) c.put_reply.ensures.range c.requires.answers

pub returns : goal.returns
returns g c = reply_done c.requires.working c.put_word.ensures c.put_reply.ensures.put c.version_word.ensures (g.met.R.Heap.lawful c.put_reply.new.heap) c.end_row.ensures
