-- The versions that numbers stand for, by the events alone, and which lists of events are scripts. Events are named from 1.
-- A version has the name of its event, and the second one of a split has that name and 2,147,483,648.
use Rattle.std.specs.Prelude.{◌≡◌, ℕ, zero, suc, ◌-◌, ◌≤◌, ◌^◌, leb, ltb, cond, Bool, true, ◌&&◌, Option, Some, None, List, [], length, slice_get}
use Rattle.std.specs.List.{list_all}
use Rattle.lazy_rec.specs.declared.events.Kind.{Kind}
use Rattle.lazy_rec.specs.declared.events.Op.{Op}
use Rattle.lazy_rec.specs.declared.events.Op.TheVariants as ops
use Rattle.lazy_rec.specs.declared.events.Event.{Event}
use Rattle.lazy_rec.specs.declared.events.Reply.{Reply}
use Rattle.lazy_rec.specs.declared.limits.TheConstants.{MOST_EVENTS}
use Rattle.lazy_rec.specs.Tests.{is_some_and, implies}
use Rattle.lazy_rec.specs.ByPlace.{by_place}
use Rattle.lazy_rec.specs.Kinds.{bases, belongs, same_kind, is_split, is_trim}
use Rattle.lazy_rec.specs.Plain.{effect, second_list}

-- ---- names and versions

-- the event of each name, none where no event has the name
abbrev pub Events : Type 0
Events = ℕ → Option Event

-- the events of a list, by their names
abbrev pub event_of : List Event → Events
event_of events zero = None
event_of events (suc i) = slice_get events i

-- what the second version of a split has more than its name
abbrev pub second_mark : ℕ
second_mark = 2147483648

abbrev pub is_second : ℕ → Bool
is_second v = leb second_mark v

-- the name of a version's event
abbrev pub event_name : ℕ → ℕ
event_name v = cond (is_second v) (v - second_mark) v

-- ---- plain lists

-- what a version takes from the two lists of each name
abbrev pub picked : (ℕ → List ℕ × List ℕ) → ℕ → List ℕ
picked pairs v = cond (is_second v) (pairs (event_name v)).1 (pairs (event_name v)).0

-- the two lists of an event, from the lists of the versions that it uses
abbrev pub lists_made : (ℕ → List ℕ) → Option Event → List ℕ × List ℕ
lists_made lower None = ([], [])
lists_made lower (Some e) = ((effect e.op (lower e.base) (lower e.other) e.arg).0, second_list e.op (lower e.base) e.arg)

-- the plain lists of a name: its first version's, and its second's where it is a split
unfoldable pub lists : Events → ℕ → List ℕ × List ℕ
lists events = by_place ([], []) (λ lower i. lists_made (picked lower) (events i))

-- the plain list of a version
unfoldable pub plain : Events → ℕ → List ℕ
plain events = picked (lists events)

-- the reply to an event by the plain lists of the versions that it uses
abbrev pub reply_to : Events → Event → Reply
reply_to events e = (effect e.op (plain events e.base) (plain events e.other) e.arg).1

-- ---- kinds

abbrev pub new_kind : Op → Option Kind → Option Kind
new_kind (ops.New k) of_base = Some k
new_kind _ of_base = of_base

abbrev pub kind_made : (ℕ → Option Kind) → Option Event → Option Kind
kind_made lower None = None
kind_made lower (Some e) = new_kind e.op (lower (event_name e.base))

-- the kind that a name stands for, in both versions: that of `new`, else that of the event's base
unfoldable pub kind_of : Events → ℕ → Option Kind
kind_of events = by_place None (λ lower i. kind_made lower (events i))

-- ---- scripts

-- a version of a smaller name
abbrev pub is_smaller : ℕ → ℕ → Bool
is_smaller i v = ltb 0 (event_name v) && ltb (event_name v) i

-- the versions that an event uses are of smaller names than its own
abbrev pub has_smaller_bases : ℕ → Event → Bool
has_smaller_bases i e = list_all (is_smaller i) (bases e)

-- a version's kind has the operation, and is the kind of the base
abbrev pub has_kind_of_base : Events → Event → ℕ → Bool
has_kind_of_base events e v = is_some_and (λ k. belongs k e.op && is_some_and (same_kind k) (kind_of events (event_name e.base))) (kind_of events (event_name v))

-- the operation is one of the kind of its bases, which have one kind
abbrev pub is_of_its_kind : Events → Event → Bool
is_of_its_kind events e = list_all (has_kind_of_base events e) (bases e)

-- where it is a second version, it is one of a split
abbrev pub is_named_well : Events → ℕ → Bool
is_named_well events v = implies (is_second v) (is_some_and (λ (e : Event). is_split e.op) (events (event_name v)))

-- a second version is only of a split
abbrev pub names_seconds_well : Events → Event → Bool
names_seconds_well events e = list_all (is_named_well events) (bases e)

-- the event may stand under the name
abbrev pub is_event_at : Events → ℕ → Event → Bool
is_event_at events i e = is_trim e && has_smaller_bases i e && is_of_its_kind events e && names_seconds_well events e && ltb e.arg (2 ^ 64)

pub record IsScript (events : List Event) : Type 0 where
  pub few : length events ≤ MOST_EVENTS
  pub each : (i : ℕ) (e : Event) → event_of events i ≡ Some e → is_event_at (event_of events) i e ≡ true
