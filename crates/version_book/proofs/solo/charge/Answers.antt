use Rattle.std.proofs.Common.{arith}
use Rattle.dues.proofs.RoomLaws.{due_fits}
use Rattle.version_book.proofs.solo.charge.Goals as goal

pub returns-clause-small : goal.returns-clause-small
returns-clause-small c = omega (arith, due_fits c.args.kind c.args.op c.size.result c.size-2.result, c.due.ensures)
