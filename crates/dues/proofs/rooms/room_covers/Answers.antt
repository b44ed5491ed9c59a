use Rattle.std.proofs.Common.{length}
use Rattle.lazy_rec.specs.History.{event_of, kind_of}
use Rattle.dues.specs.Rooms.{places_of, places_at_size}
use Rattle.dues.proofs.GrowthLaws.{covered, sums_grow}
use Rattle.dues.proofs.rooms.room_covers.Goals as goal

pub returns-clause-each : goal.returns-clause-each
returns-clause-each c events i = covered (event_of events) (kind_of (event_of events) i) (event_of events i)

pub returns-clause-all : goal.returns-clause-all
returns-clause-all c events = sums_grow
    (λ i. places_at_size (event_of events) (kind_of (event_of events) i) (event_of events i))
    (λ i. places_of (event_of events) (kind_of (event_of events) i) (event_of events i))
    (λ i. covered (event_of events) (kind_of (event_of events) i) (event_of events i)) (length events)
