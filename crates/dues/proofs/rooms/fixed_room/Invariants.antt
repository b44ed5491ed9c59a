use Rattle.std.proofs.Common.{◌≡◌}
use Rattle.dues.proofs.RoomLaws.{places_to}
use Rattle.dues.proofs.rooms.fixed_room.Given as goal

abbrev pub invariant-loop-i : goal.invariant-loop-i
invariant-loop-i l = l.total ≡ places_to l.events l.i
