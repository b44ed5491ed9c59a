use Rattle.version_book.proofs.Tables.{version_kind, version_at_word}
use Rattle.version_book.proofs.words.version_of.Goals as goal

pub kind_of-requires : goal.kind_of-requires
kind_of-requires c = version_kind c.args.name c.args.word c.requires

pub returns : goal.returns
returns c = version_at_word c.args.name c.args.word _ c.kind_of.ensures
