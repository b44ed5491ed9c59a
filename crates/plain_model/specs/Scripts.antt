-- The kinds that are known while the events of a list are gone through.
use Rattle.std.specs.Prelude.{◌≡◌, ℕ, suc, ◌<◌, ◌≤◌, cond, ◌&&◌, Option, Some, None, List, length, slice_get}
use Rattle.lazy_rec.specs.declared.events.Kind.{Kind}
use Rattle.lazy_rec.specs.declared.events.Event.{Event}
use Rattle.lazy_rec.specs.History.{Events, event_of, event_name, kind_of, kind_made, is_smaller, is_named_well, is_event_at}

-- the kinds of the first events, in order
pub record AreKinds (events : List Event) (kinds : List Kind) : Type 0 where
  pub few : length kinds ≤ length events
  pub each : (i : ℕ) → i < length kinds → slice_get kinds i ≡ kind_of (event_of events) (suc i)

-- the kind of a version, where an event of this name may use it
abbrev pub kind_used : Events → ℕ → ℕ → Option Kind
kind_used events i v = cond (is_smaller i v && is_named_well events v) (kind_of events (event_name v)) None

-- the kind of an event, where it may stand under the name
abbrev pub kind_standing : Events → ℕ → Event → Option Kind
kind_standing events i e = cond (is_event_at events i e) (kind_made (kind_of events) (Some e)) None
