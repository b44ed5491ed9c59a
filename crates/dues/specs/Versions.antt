-- What one pass over the events keeps of the versions so far: of each name the size bounds, from name 0 on, which no event has.
use Rattle.std.specs.Prelude.{◌≡◌, ℕ, ◌<◌, Option, Some, None, List, length, slice_get}
use Rattle.lazy_rec.specs.declared.events.Kind.{Kind}
use Rattle.lazy_rec.specs.declared.events.Event.{Event}
use Rattle.lazy_rec.specs.History.{Events}
use Rattle.dues.specs.declared.rooms.SizeBounds.{SizeBounds}
use Rattle.dues.specs.Sizes.{picked_bound, bounds_made, bounds}
use Rattle.dues.specs.Rooms.{places}

-- where there is no version
abbrev pub no_bounds : SizeBounds
no_bounds = record { first = 0; second = 0 }

abbrev pub bounds_if : Option SizeBounds → ℕ × ℕ
bounds_if None = (0, 0)
bounds_if (Some b) = (b.first, b.second)

-- the size bounds of a name, and the size bound of a version
abbrev pub bounds_at : List SizeBounds → ℕ → ℕ × ℕ
bounds_at kept name = bounds_if (slice_get kept name)

abbrev pub bound_at : List SizeBounds → ℕ → ℕ
bound_at kept = picked_bound (bounds_at kept)

-- the size bounds of the versions that an event makes, from what is kept
abbrev pub next_bounds : List SizeBounds → Event → ℕ × ℕ
next_bounds kept e = bounds_made (bound_at kept) (Some e)

-- the places of an event of a kind, at the size bounds that are kept
abbrev pub next_places : List SizeBounds → Kind → Event → ℕ
next_places kept k e = places k e.op (bound_at kept e.base) (bound_at kept e.other)

-- what is kept are the size bounds of each name so far
abbrev pub AreKept : Events → List SizeBounds → Type 0
AreKept events kept = (name : ℕ) → name < length kept → bounds_at kept name ≡ bounds events name
