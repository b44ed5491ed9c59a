use Rattle.std.proofs.Common.{arith}
use Rattle.word_store.proofs.PassViews.{looked_quiet}
use Rattle.word_store.proofs.PassRows.{row_read}
use Rattle.word_store.proofs.rows.PassRows.load_row.Goals as goal

pub row_word-at-requires-clause-high : goal.row_word-at-requires-clause-high
row_word-at-requires-clause-high c = let p = c.args.self.now in omega (arith, c.requires.high, p.sized.1)

pub returns-clause-quiet : goal.returns-clause-quiet
returns-clause-quiet c = looked_quiet c.args.self.now c.look.new.self _ c.look.result c.look.ensures.play c.look.ensures.stays

pub returns-clause-value : goal.returns-clause-value
returns-clause-value c =
    let p = c.args.self.now in let q = c.look.new.self in
    row_read p q c.args.name c.args.word c.row_word-at.result c.look.result (looked_quiet p q _ c.look.result c.look.ensures.play c.look.ensures.stays) c.requires.low (omega (arith, c.requires.high, p.sized.1)) c.requires.word c.row_word-at.ensures.at c.look.ensures.play.found
