use Rattle.std.proofs.Common.{arith}
use Rattle.version_book.proofs.Tables.{version_word_is}
use Rattle.version_book.proofs.words.version_word.Goals as goal

pub returns : goal.returns
returns c = version_word_is _ c.kind_number.result c.args.root c.args.kind c.args.size c.requires.place c.requires.size c.kind_number.ensures.small c.kind_number.ensures.number (omega (arith, c.from.ensures, c.from-2.ensures))
