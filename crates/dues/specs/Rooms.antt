-- The room of a script: the places that are enough for all its events, whoever runs them and however versions are shared.
use Rattle.std.specs.Prelude.{ℕ, zero, suc, ◌+◌, ◌*◌, Option, Some, List, length}
use Rattle.lazy_rec.specs.declared.events.Kind.{Kind}
use Rattle.lazy_rec.specs.declared.events.Op.{Op}
use Rattle.lazy_rec.specs.declared.events.Event.{Event}
use Rattle.lazy_rec.specs.Due.{due, direct}
use Rattle.lazy_rec.specs.History.{Events, event_of, kind_of, plain}
use Rattle.dues.specs.Sizes.{bounds, bound_of}

-- the places of an event: those that it may reserve itself, and eight for each step that its due pays
abbrev pub places : Kind → Op → ℕ → ℕ → ℕ
places k op n m = direct k op n m + 8 * due k op n m

-- the same of an event of a kind; a name without a kind stands for no event of a script
abbrev pub places_of : Events → Option Kind → Option Event → ℕ
places_of events (Some k) (Some e) = places k e.op (bound_of events e.base) (bound_of events e.other)
places_of events _ _ = 0

-- the places of such an event at the true sizes of its bases
abbrev pub places_at_size : Events → Option Kind → Option Event → ℕ
places_at_size events (Some k) (Some e) = places k e.op (length (plain events e.base)) (length (plain events e.other))
places_at_size events _ _ = 0

-- the sum over the names from 1 to a last one
abbrev pub sum_to : (ℕ → ℕ) → ℕ → ℕ
sum_to f zero = 0
sum_to f (suc last) = sum_to f last + f (suc last)

-- the sum of the places of the events, at the size bounds of their bases
abbrev pub room : List Event → ℕ
room events = sum_to (λ i. places_of (event_of events) (kind_of (event_of events) i) (event_of events i)) (length events)

-- the same at the true sizes: the node bounds of the events, and eight places for each step of their dues
abbrev pub room_at_sizes : List Event → ℕ
room_at_sizes events = sum_to (λ i. places_at_size (event_of events) (kind_of (event_of events) i) (event_of events i)) (length events)

-- the size bounds of both versions of a name
abbrev pub both_bounds : Events → ℕ → ℕ
both_bounds events i = (bounds events i).0 + (bounds events i).1

-- the sum of the size bounds of all versions
abbrev pub model_size : List Event → ℕ
model_size events = sum_to (both_bounds (event_of events)) (length events)
