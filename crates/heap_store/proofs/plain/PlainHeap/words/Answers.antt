use Rattle.std.proofs.Common.{refl}
use Rattle.heap_store.specs.Plain.{plain_world}
use Rattle.heap_store.proofs.PlainReads.{words_read}
use Rattle.heap_store.proofs.plain.PlainHeap.words.Goals as goal

pub returns : goal.returns
returns c = words_read (plain_world c.args.self.now.capacity c.args.self.now.row_capacity c.args.self.now.nodes.shown c.args.self.now.rows.items) c.args.self.now.row_capacity c.args.self.now.rows.items c.args.name c.index.result.now refl c.requires.low c.requires.high c.index.ensures
