use Rattle.version_book.proofs.Ends.{row_ended}
use Rattle.version_book.proofs.row_steps.end_row.Goals as goal

pub returns : goal.returns
returns g c r e = row_ended _ _ _ _ c.requires c.store_row.ensures r e
