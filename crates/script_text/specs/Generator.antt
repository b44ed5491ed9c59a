-- Scripts that are made from a number, the seed. The kinds take turns: an event has the kind of the event eight before it.
use Rattle.std.specs.Prelude.{ℕ, zero, suc, ◌+◌, ◌-◌, ◌*◌, ◌/◌, ◌%◌, ◌^◌, min, List, [], ◌∷◌, ◌++◌, length, slice_get, unwrap_or, nat_lt, nat_le, if◌then◌else◌}
use Rattle.lazy_rec.specs.declared.events.Kind.{Kind}
use Rattle.lazy_rec.specs.declared.events.Kind.TheVariants as kinds
use Rattle.lazy_rec.specs.declared.events.Op.{Op}
use Rattle.lazy_rec.specs.declared.events.Op.TheVariants as ops
use Rattle.lazy_rec.specs.declared.events.Event.{Event}
use Rattle.lazy_rec.specs.Kinds.{uses_other, uses_argument}
use Rattle.lazy_rec.specs.Numbering.{kind_of_number}
use Rattle.dues.specs.Sizes.{size_bound}
use Rattle.script_text.specs.declared.model.Form.TheVariants as forms
use Rattle.script_text.specs.Events.{ScriptView, event}

-- ---- draws

-- a draw leaves a new state, and shows a number
abbrev pub next_state : ℕ → ℕ
next_state s = (s * 6364136223846793005 + 1442695040888963407) % 2 ^ 64

abbrev pub shown : ℕ → ℕ
shown s = s / 2 ^ 33

-- ---- what an event is chosen from

-- the kind in turn after so many events
abbrev pub kind_in_turn : ℕ → Kind
kind_in_turn made = unwrap_or (kind_of_number (made % 8)) kinds.Stream

abbrev pub choices : Kind → List Op
choices kinds.Stream = ops.Cons ∷ ops.Append ∷ ops.Reverse ∷ ops.Head ∷ ops.Tail ∷ ops.Size ∷ []
choices kinds.Bankq = ops.Snoc ∷ ops.Snoc ∷ ops.Snoc ∷ ops.Head ∷ ops.Tail ∷ ops.Size ∷ []
choices kinds.Rtq = ops.Snoc ∷ ops.Snoc ∷ ops.Snoc ∷ ops.Head ∷ ops.Tail ∷ ops.Size ∷ []
choices kinds.Heap = ops.Insert ∷ ops.Insert ∷ ops.Min ∷ ops.Delmin ∷ ops.Meld ∷ ops.Size ∷ []
choices kinds.Seq = ops.Pushl ∷ ops.Pushr ∷ ops.Popl ∷ ops.Popr ∷ ops.First ∷ ops.Last ∷ ops.Nth ∷ ops.Take ∷ ops.Drop ∷ ops.Concat ∷ []
choices kinds.Prio = ops.Insert ∷ ops.Insert ∷ ops.Max ∷ ops.Delmax ∷ ops.Meld ∷ ops.Size ∷ []
choices kinds.Ord = ops.Insert ∷ ops.Insert ∷ ops.Min ∷ ops.Has ∷ ops.Remove ∷ ops.Upto ∷ []
choices kinds.Cat = ops.Cons ∷ ops.Snoc ∷ ops.Append ∷ ops.Head ∷ ops.Tail ∷ ops.Size ∷ []

abbrev pub choice : Kind → ℕ → Op
choice kind r = unwrap_or (slice_get (choices kind) (r % length (choices kind))) ops.Size

-- the name of the earlier event of the kind in turn with so many newer ones of this kind
abbrev pub earlier : ℕ → ℕ → ℕ
earlier made newer = made + 1 - 8 * (newer + 1)

-- one of the eight newest events of the kind in turn, or of all of them where there are fewer
abbrev pub chosen : ℕ → ℕ → ℕ
chosen made r = earlier made (r % min 8 (made / 8))

-- an event with only the fields that its operation uses
abbrev pub trimmed : Op → ℕ → ℕ → ℕ → Event
trimmed o b c x = event o b (if uses_other o then c else 0) (if uses_argument o then x else 0)

-- the event that three numbers choose after so many events
abbrev pub chosen_event : ℕ → ℕ → ℕ → ℕ → Event
chosen_event made r1 r2 r3 = trimmed (choice (kind_in_turn made) r2) (chosen made r1) (chosen made r3) (r3 % 100)

-- ---- the events so far

-- the state, the events, and the size bound of each
pub record Made : Type 0 where
  pub state : ℕ
  pub events : List Event
  pub bounds : List ℕ

-- the size bound of a name, of those so far
abbrev pub bound_at : List ℕ → ℕ → ℕ
bound_at bounds zero = 0
bound_at bounds (suc i) = unwrap_or (slice_get bounds i) 0

abbrev pub bound_of_event : List ℕ → Event → ℕ
bound_of_event bounds e = size_bound e.op (bound_at bounds e.base) (bound_at bounds e.other) e.arg

-- the event, or `new` of the kind in turn where the size bound would pass 15
abbrev pub small_event : ℕ → List ℕ → Event → Event
small_event made bounds e = if nat_le (bound_of_event bounds e) 15 then e else event (ops.New (kind_in_turn made)) 0 0 0

-- the first eight events are `new` and draw nothing, every other one draws three numbers
abbrev pub next_event : ℕ → ℕ → List ℕ → Event
next_event made state bounds =
    let first = next_state state in
    let second = next_state first in
    let third = next_state second in
    if nat_lt made 8 then event (ops.New (kind_in_turn made)) 0 0 0 else small_event made bounds (chosen_event made (shown first) (shown second) (shown third))

abbrev pub state_after : ℕ → ℕ → ℕ
state_after made state = if nat_lt made 8 then state else next_state (next_state (next_state state))

abbrev pub add_event : ℕ → Made → Event → Made
add_event made m e = record { state = state_after made m.state; events = m.events ++ e ∷ []; bounds = m.bounds ++ bound_of_event m.bounds e ∷ [] }

abbrev pub one_more : ℕ → Made → Made
one_more made m = add_event made m (next_event made m.state m.bounds)

-- the events that a seed makes, so many
unfoldable pub made_from : ℕ → ℕ → Made
made_from seed zero = record { state = seed; events = []; bounds = [] }
made_from seed (suc n) = one_more n (made_from seed n)

-- the script of a seed with so many events
abbrev pub generated : ℕ → ℕ → ScriptView
generated seed n = record { form = forms.One; events = (made_from seed n).events }
