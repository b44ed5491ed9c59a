use Rattle.std.proofs.Common.{◌≡◌, ◌+◌, ◌<◌, length, vec_capacity}
use Rattle.dues.proofs.RoomLaws.{places_to}
use Rattle.dues.proofs.VersionLaws.{IsPassed}
use Rattle.dues.proofs.rooms.room.Given as goal

abbrev pub invariant-loop-i : goal.invariant-loop-i
invariant-loop-i l =
    record {
      passed : IsPassed l.events (places_to l.events) l.kept.items l.i (places_to l.events l.i);
      counted : places_to l.events l.i + l.left ≡ l.most;
      room : length l.events < vec_capacity l.kept;
    }
