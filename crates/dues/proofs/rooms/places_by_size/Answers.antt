use Rattle.std.proofs.Common.{arith}
use Rattle.dues.proofs.RoomLaws.{due_fits, direct_fits}
use Rattle.dues.proofs.rooms.places_by_size.Goals as goal

pub overflow_mul-result : goal.overflow_mul-result
overflow_mul-result c = omega (arith, c.due.ensures, due_fits c.args.kind c.args.op c.args.n1 c.args.n2)

pub overflow_add-result : goal.overflow_add-result
overflow_add-result c =
    omega (arith, c.due.ensures, due_fits c.args.kind c.args.op c.args.n1 c.args.n2, c.direct.ensures, direct_fits c.args.kind c.args.op c.args.n1 c.args.n2)
