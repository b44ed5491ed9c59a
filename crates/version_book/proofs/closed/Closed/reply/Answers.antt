use Rattle.std.proofs.Common.{ℕ, ◌≤◌, List, length, arith, subst, sym}
use Rattle.heap_store.specs.Opened.{view_of}
use Rattle.version_book.specs.Closed.{IsReadable}
use Rattle.version_book.proofs.closed.Closed.reply.Goals as goal

pub words-requires : goal.words-requires
words-requires c =
    let high : c.args.name ≤ length (view_of c.self.inside.heap).seen.rows = rw (← c.self.view_is) at c.requires.high in
    record { low = c.requires.low; high = omega (arith, high, c.self.invariant.whole.named) }

pub reply_of_row-requires : goal.reply_of_row-requires
reply_of_row-requires c =
    let high : c.args.name ≤ length (view_of c.self.inside.heap).seen.rows = rw (← c.self.view_is) at c.requires.high in
    let P : List ℕ → Type 0 = IsReadable c.args.name in
    subst P (sym c.words.ensures) (c.self.invariant.whole.closed.readable c.args.name c.requires.low high)
