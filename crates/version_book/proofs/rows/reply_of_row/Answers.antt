use Rattle.std.proofs.Common.{Some, ap, ◌∙◌}
use Rattle.version_book.proofs.RowReplies.{reply_there, no_reply_there}
use Rattle.version_book.proofs.rows.reply_of_row.Goals as goal

pub returns-then-words-eq-REPLIED : goal.returns-then-words-eq-REPLIED
returns-then-words-eq-REPLIED c = ap Some c.reply_of.ensures ∙ reply_there c.args.name c.args.words.now c.requires c.if-words-eq-REPLIED.true

pub returns : goal.returns
returns c = no_reply_there c.args.name c.args.words.now c.requires c.if-words-eq-REPLIED.false
