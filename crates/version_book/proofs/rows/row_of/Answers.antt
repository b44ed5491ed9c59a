use Rattle.std.proofs.Common.{true, subst, sym, ◌≡◌}
use Rattle.std.proofs.lemmas.Bool.{and_parts}
use Rattle.heap_store.specs.Rows.{Ending}
use Rattle.heap_store.specs.Legal.{ending_in_range}
use Rattle.version_book.proofs.WordLaws.{row_ending}
use Rattle.version_book.proofs.rows.row_of.Goals as goal

pub ended_of-requires-clause-range : goal.ended_of-requires-clause-range
ended_of-requires-clause-range c =
    let P : Ending → Type 0 = λ e. ending_in_range e ≡ true in
    subst P (sym (row_ending c.args.name c.args.words.now c.requires.row c.requires.here)) (and_parts _ (ending_in_range c.requires.row.ending) c.requires.range).1
