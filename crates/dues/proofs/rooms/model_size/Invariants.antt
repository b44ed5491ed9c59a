use Rattle.std.proofs.Common.{◌<◌, length, vec_capacity}
use Rattle.lazy_rec.specs.History.{event_of}
use Rattle.dues.specs.Rooms.{sum_to, both_bounds}
use Rattle.dues.proofs.VersionLaws.{IsPassed}
use Rattle.dues.proofs.rooms.model_size.Given as goal

abbrev pub invariant-loop-event : goal.invariant-loop-event
invariant-loop-event l =
    record {
      passed : IsPassed l.events (sum_to (both_bounds (event_of l.events))) l.kept.items l.event-index l.total;
      room : length l.events < vec_capacity l.kept;
    }
