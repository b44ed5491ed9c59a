use Rattle.version_book.proofs.Begins.{ready, start_may, started}
use Rattle.version_book.proofs.row_steps.start_row.Goals as goal

pub store_row-requires : goal.store_row-requires
store_row-requires g c = start_may (ready c.requires.caller c.requires.drawn c.requires.event c.bases_word.ensures c.put_word.ensures c.put_word-2.ensures) c.first_word.ensures (g.met.R.Heap.lawful c.put_word-2.new.heap) (g.met.R.Heap.lawful c.args.heap.now) c.requires.bases

pub returns : goal.returns
returns g c =
    let k = ready c.requires.caller c.requires.drawn c.requires.event c.bases_word.ensures c.put_word.ensures c.put_word-2.ensures in
    let law = g.met.R.Heap.lawful c.put_word-2.new.heap in
    started k c.first_word.ensures law (start_may k c.first_word.ensures law (g.met.R.Heap.lawful c.args.heap.now) c.requires.bases) c.store_row.ensures (g.met.R.Heap.lawful c.store_row.new.self)
