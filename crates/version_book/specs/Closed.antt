-- Closed books, and what their rows and nodes tell.
use Rattle.std.specs.Prelude.{◌≡◌, ℕ, cond, ◌+◌, ◌*◌, ◌<◌, ◌≤◌, true, false, Option, Some, None, List, length, option_map}
use Rattle.lazy_rec.specs.declared.records.Rec.{Rec}
use Rattle.lazy_rec.specs.declared.states.SuspState.{SuspState}
use Rattle.lazy_rec.specs.declared.events.Event.{Event}
use Rattle.lazy_rec.specs.History.{second_mark, is_second, event_of}
use Rattle.dues.specs.Rooms as script
use Rattle.heap_store.specs.declared.nodes.Node.{Node}
use Rattle.heap_store.specs.declared.versions.Version.{Version}
use Rattle.heap_store.specs.World.{World, is_claimed_at, fixed_places}
use Rattle.heap_store.specs.Rows.{Row, Ending, not_ended, answered, full, memory, no_base, words_at, row_of, row_at, is_full, is_ended}
use Rattle.heap_store.specs.Legal.{IsLegal, row_in_range}
use Rattle.heap_store.specs.Lawful.{IsLawful}
use Rattle.heap_store.specs.LookedAt.{HasRoots}
use Rattle.heap_store.specs.Budget.{direct_at, direct_places, room_of}
use Rattle.heap_store.specs.Causes.{HasCause}
use Rattle.heap_store.specs.View.{View, published_count}
use Rattle.version_book.specs.declared.rows.Ended.{Ended}
use Rattle.version_book.specs.declared.rows.Ended.TheVariants as ends
use Rattle.version_book.specs.declared.rows.Row.{Row as ToldRow}
use Rattle.version_book.specs.declared.totals.Totals.{Totals}
use Rattle.version_book.specs.Totals.{totals_of}

-- how the row of a closed book ended
abbrev pub ended_told : Ending → Option Ended
ended_told not_ended = None
ended_told (answered told v w) = Some (ends.Reply told v w)
ended_told (full drawn wanted) = Some (ends.Full drawn wanted)
ended_told memory = Some ends.Memory
ended_told no_base = Some ends.NoBase

-- the versions of such a row: the first, the second, and the one that a version's number tells
abbrev pub first_in : Ended → Option Version
first_in (ends.Reply _ v _) = Some v
first_in _ = None

abbrev pub second_in : Ended → Option Version
second_in (ends.Reply _ _ w) = w
second_in _ = None

abbrev pub version_in : ℕ → Ended → Option Version
version_in n e = cond (is_second n) (second_in e) (first_in e)

abbrev pub told_with : ℕ → Row → Ended → ToldRow
told_with name r ended = record { name = name; caller = r.caller; event = r.event; begun = r.begun; ended = ended }

abbrev pub told_of : ℕ → Option Row → Option ToldRow
told_of name None = None
told_of name (Some r) = option_map (told_with name r) (ended_told r.ending)

-- the row of a name
abbrev pub row_told : World → ℕ → Option ToldRow
row_told w name = told_of name (row_at w name)

-- words that show an ended row, whose numbers are in their ranges
pub record IsReadable (name : ℕ) (words : List ℕ) : Type 0 where
  pub row : Row
  pub here : row_of name words ≡ Some row
  pub ended : is_ended row.ending ≡ true
  pub range : row_in_range row ≡ true
  -- a row's name is the number of its first version
  pub low : name < second_mark

-- the record and the state of a place that is published
abbrev pub node_told : Option Node → Option (Rec × SuspState)
node_told None = None
node_told (Some n) = Some (n.rec, n.state)

-- the world of a closed book
pub record IsClosed (w : World) : Type 0 where
  pub lawful : IsLawful w
  pub legal : IsLegal w
  pub roots : HasRoots w
  -- nobody works on a suspension
  pub unclaimed : (s : ℕ) → is_claimed_at w s ≡ false
  pub readable : (i : ℕ) → 1 ≤ i → i ≤ length w.rows → IsReadable i (words_at w i)

-- all work together took no more steps than the events were charged, and no more places than theirs and eight for each step
pub record IsPaid (w : World) : Type 0 where
  pub steps : (totals_of w).steps ≤ (totals_of w).dues
  pub places : (totals_of w).nodes ≤ direct_places w + 8 * (totals_of w).steps

-- a store whose rows are all drawn and have ended, and whose work is paid
pub record IsWhole (v : View) : Type 0 where
  pub closed : IsClosed v.seen
  pub named : length v.seen.rows ≤ v.named
  pub paid : IsPaid v.seen

-- such a store, and the totals of its world
pub record IsCounted (v : View) (t : Totals) : Type 0 where
  pub whole : IsWhole v
  pub totals : t ≡ totals_of v.seen

-- the numbers of a refused reserve: no more places were drawn than are published in the end, the wanted ones weren't left,
-- and together they are within what the events may take
pub record IsRefusal (w : World) (capacity drawn wanted : ℕ) : Type 0 where
  pub there : drawn ≤ (totals_of w).nodes
  pub no_room : capacity < drawn + wanted
  pub within : drawn + wanted ≤ room_of w

-- the bound: how much work and how many places a book takes whose events were run in a store of so many places, however
-- the versions are shared
pub record IsBounded (w : World) (capacity : ℕ) (events : List Event) : Type 0 where
  -- all work together took no more steps than the events were charged
  pub steps : (totals_of w).steps ≤ (totals_of w).dues
  -- no more places were taken than those of the events, and eight for each step
  pub places : (totals_of w).nodes ≤ direct_places w + 8 * (totals_of w).steps
  -- what the events may take by their dues is within the room that is read off the script
  pub room : direct_places w + 8 * (totals_of w).dues ≤ script.room events
  -- and in a store with that room no row is full
  pub never_full : script.room events ≤ capacity → (i : ℕ) (r : Row) → row_at w i ≡ Some r → is_full r.ending ≡ false

-- a closed book in which these events were run in order by one caller, in a store of so many places
pub record IsBook (w : World) (capacity : ℕ) (events : List Event) : Type 0 where
  pub closed : IsClosed w
  pub count : length w.rows ≡ length events
  -- row i has event i
  pub events_are : (i : ℕ) (r : Row) → row_at w i ≡ Some r → event_of events i ≡ Some r.event
  pub callers : (i : ℕ) (r : Row) → row_at w i ≡ Some r → r.caller ≡ 0
  -- a full row has the numbers of a refusal
  pub full_where : (i : ℕ) (r : Row) (drawn wanted : ℕ) → row_at w i ≡ Some r → r.ending ≡ full drawn wanted → IsRefusal w capacity drawn wanted
  -- a full row and a memory row have their causes
  pub causes : (i : ℕ) (r : Row) → row_at w i ≡ Some r → HasCause w (direct_at w i) r.ending
  -- no more places are published than the store has
  pub within : published_count w ≤ fixed_places + capacity
  pub bounded : IsBounded w capacity events
