use Rattle.std.proofs.Common.{refl}
use Rattle.version_book.proofs.Puts.{reply_put, no_number, number_put}
use Rattle.version_book.proofs.row_steps.put_reply.Goals as goal

pub returns-in_default : goal.returns-in_default
returns-in_default g c = record {
  put = reply_put c.put_word.ensures c.reply_word.ensures.words (no_number c.args.reply c.in_default.not-Number);
  range = c.reply_word.ensures.range;
}

pub returns-clause-put : goal.returns-clause-put
returns-clause-put g c = number_put c.put_word.ensures c.reply_word.ensures.words (rw c.in-Number.is refl) c.put_word-2.ensures
