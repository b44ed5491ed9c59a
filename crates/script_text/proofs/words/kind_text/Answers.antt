use Rattle.std.proofs.Common.{Some, sym, ap}
use Rattle.lazy_rec.specs.Kinds.{kind_number}
use Rattle.script_text.specs.Words.{kinds, word_in}
use Rattle.script_text.proofs.Tables.{row_found}
use Rattle.script_text.proofs.words.kind_text.Goals as goal

pub returns-in-Some : goal.returns-in-Some
returns-in-Some c = sym (ap word_in (row_found kinds c.row_at.result (Some (c.in-Some.word, c.in-Some.field-0-1)) c.number.result (kind_number c.args.kind) c.number.ensures.number c.row_at.ensures c.in-Some.is))
