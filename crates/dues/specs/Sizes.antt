-- Bounds on the sizes of versions, read off the events alone.
use Rattle.std.specs.Prelude.{ℕ, ◌+◌, ◌-◌, min, cond, Option, Some, None}
use Rattle.lazy_rec.specs.declared.events.Op.{Op}
use Rattle.lazy_rec.specs.declared.events.Op.TheVariants as ops
use Rattle.lazy_rec.specs.declared.events.Event.{Event}
use Rattle.lazy_rec.specs.ByPlace.{by_place}
use Rattle.lazy_rec.specs.Kinds.{is_split}
use Rattle.lazy_rec.specs.Plain.{most_items}
use Rattle.lazy_rec.specs.History.{Events, event_name, is_second}

-- a size bound stops at the most items of one version
abbrev pub at_most_all : ℕ → ℕ
at_most_all n = min n most_items

-- the bound on the size that an operation leaves, from the bounds of the base and of the other and from the argument
abbrev pub size_bound : Op → ℕ → ℕ → ℕ → ℕ
size_bound (ops.New _) n m x = 0
size_bound ops.Cons n m x = at_most_all (n + 1)
size_bound ops.Snoc n m x = at_most_all (n + 1)
size_bound ops.Insert n m x = at_most_all (n + 1)
size_bound ops.Pushl n m x = at_most_all (n + 1)
size_bound ops.Pushr n m x = at_most_all (n + 1)
size_bound ops.Append n m x = at_most_all (n + m)
size_bound ops.Meld n m x = at_most_all (n + m)
size_bound ops.Concat n m x = at_most_all (n + m)
size_bound ops.Tail n m x = n - 1
size_bound ops.Delmin n m x = n - 1
size_bound ops.Delmax n m x = n - 1
size_bound ops.Popl n m x = n - 1
size_bound ops.Popr n m x = n - 1
size_bound ops.Take n m x = min n x
size_bound ops.Drop n m x = n - x
size_bound ops.Split n m x = min n x
size_bound _ n m x = n

-- the bound on the size of the second version of a split, from the bound of the base and from the argument
abbrev pub second_bound : ℕ → ℕ → ℕ
second_bound n x = n - x

-- what a version takes from the two bounds of each name
abbrev pub picked_bound : (ℕ → ℕ × ℕ) → ℕ → ℕ
picked_bound pairs v = cond (is_second v) (pairs (event_name v)).1 (pairs (event_name v)).0

-- the two bounds of an event, from the bounds of the versions that it uses
abbrev pub bounds_made : (ℕ → ℕ) → Option Event → ℕ × ℕ
bounds_made lower None = (0, 0)
bounds_made lower (Some e) = (size_bound e.op (lower e.base) (lower e.other) e.arg, cond (is_split e.op) (second_bound (lower e.base) e.arg) 0)

-- the size bounds of a name: its first version's, and its second's where it is a split
unfoldable pub bounds : Events → ℕ → ℕ × ℕ
bounds events = by_place (0, 0) (λ lower i. bounds_made (picked_bound lower) (events i))

-- the size bound of a version
unfoldable pub bound_of : Events → ℕ → ℕ
bound_of events = picked_bound (bounds events)
