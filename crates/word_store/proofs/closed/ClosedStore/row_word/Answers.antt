use Rattle.std.proofs.Common.{◌≤◌, length, sym, ap, ◌∙◌, arith}
use Rattle.std.specs.Prelude.{slice_index}
use Rattle.heap_store.specs.Rows.{word_at}
use Rattle.word_world.specs.Words.{row_words}
use Rattle.word_world.proofs.Tables.{length-tabulate}
use Rattle.word_store.proofs.PassSteps.{name_row}
use Rattle.word_store.proofs.ClosedWords.{read_at, row_word}
use Rattle.word_store.proofs.closed.ClosedStore.row_word.Goals as goal

pub row_word-requires-clause-high : goal.row_word-requires-clause-high
row_word-requires-clause-high c = let s = c.self.inside in omega (arith, c.requires.high, ap (λ l. length l.world.rows) c.self.view_is, length-tabulate (row_words s.layout.nodes s.words.items) 0 s.layout.rows)

pub returns : goal.returns
returns c = let s = c.self.inside in let i = name_row c.args.name c.requires.low in
    let high : c.args.name ≤ s.layout.rows = omega (arith, c.requires.high, ap (λ l. length l.world.rows) c.self.view_is, length-tabulate (row_words s.layout.nodes s.words.items) 0 s.layout.rows) in
    read_at s.words.items c.row_word.result c.index.result.now (omega (arith, c.row_word.ensures.inside, c.self.invariant.0)) c.index.ensures
    ∙ (ap (slice_index s.words.items) (c.row_word.ensures.at i.0 (omega (arith, i.1)))
    ∙ (sym (row_word s.layout.nodes s.layout.rows s.words.items c.args.name i.0 c.args.word i.1 high c.requires.word) ∙ ap (λ l. word_at l.world c.args.name c.args.word) c.self.view_is))
