use Rattle.std.proofs.Common.{Some, sym, ap}
use Rattle.script_text.specs.Words.{operations, row_of, word_in, syntax_in}
use Rattle.script_text.proofs.Tables.{row_found}
use Rattle.script_text.proofs.words.op_row.Goals as goal

pub returns-in-Some-clause-word : goal.returns-in-Some-clause-word
returns-in-Some-clause-word c = sym (ap word_in (row_found operations c.row_at.result (Some c.in-Some.row) c.row_of.result (row_of c.args.op) c.row_of.ensures c.row_at.ensures c.in-Some.is))

pub returns-in-Some-clause-syntax : goal.returns-in-Some-clause-syntax
returns-in-Some-clause-syntax c = sym (ap syntax_in (row_found operations c.row_at.result (Some c.in-Some.row) c.row_of.result (row_of c.args.op) c.row_of.ensures c.row_at.ensures c.in-Some.is))
