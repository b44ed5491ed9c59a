use Rattle.version_book.proofs.Begins.{begun}
use Rattle.version_book.proofs.row_steps.begin.Goals as goal

pub returns : goal.returns
returns g c = begun c.start_row.ensures
