-- How a call begins, skips and ends the row of its name. What these steps say rests on growth: where others work on the store
-- too, rows of theirs may come meanwhile.
use Rattle.std.specs.Prelude.{◌≡◌, ◌≢◌, ℕ, ◌^◌, ◌<◌, Bool, true, false, not, ltb, Option, Some, List, [], ◌∷◌, length}
use Rattle.std.specs.List.{list_all, list_any}
use Rattle.lazy_rec.specs.declared.events.Event.{Event}
use Rattle.lazy_rec.specs.declared.events.Reply.{Reply}
use Rattle.lazy_rec.specs.Tests.{is_some_and}
use Rattle.lazy_rec.specs.Kinds.{bases, is_trim, is_split, same_kind}
use Rattle.lazy_rec.specs.History.{event_of, has_smaller_bases, is_of_its_kind, kind_made, kind_of, lists_made, plain, reply_to}
use Rattle.lazy_rec.specs.Named.{is_pending}
use Rattle.lazy_rec.specs.Meaning.{means}
use Rattle.heap_store.specs.declared.versions.Version.{Version}
use Rattle.heap_store.specs.World.{World, recs, holds}
use Rattle.heap_store.specs.Rows.{Row, Ending, not_ended, no_base, row_at, words_at, word_at, version_at, is_answered, is_given_up, events_of}
use Rattle.heap_store.specs.Growth.{Grows}
use Rattle.heap_store.specs.Legal.{in_order}
use Rattle.heap_store.specs.Lawful.{is_root}
use Rattle.heap_store.specs.LookedAt.{row_has_looked}
use Rattle.heap_store.specs.Hand.{contains, hand_begun, hand_ended, hand_mine}
use Rattle.heap_store.specs.Budget.{due_at, direct_at}
use Rattle.heap_store.specs.RowCalls.{vain_after}
use Rattle.heap_store.specs.View.{View}

-- ---- rows

-- the row of an event that this caller has begun, and that hasn't ended
abbrev pub begun_row : ℕ → Event → Row
begun_row caller e = record { caller = caller; event = e; begun = true; ending = not_ended }

abbrev pub ended_row : ℕ → Event → Ending → Row
ended_row caller e ending = record { caller = caller; event = e; begun = true; ending = ending }

-- the row of an event that was skipped
abbrev pub skipped_row : ℕ → Event → Row
skipped_row caller e = record { caller = caller; event = e; begun = false; ending = no_base }

-- the number with which the heap's rows are stored: its own, where it is bound to a caller
pub record IsCaller (v : View) (caller : ℕ) : Type 0 where
  pub small : caller < 64
  pub own : (c : ℕ) → v.about.caller ≡ Some c → caller ≡ c

-- ---- what a step asks

-- a name that is drawn and of which no word is stored, while no claim is in hand and no row is worked on
pub record IsDrawn (v : View) (name : ℕ) : Type 0 where
  pub claims : v.hand.claims ≡ []
  pub open_rows : v.hand.open_rows ≡ []
  pub drawn : contains v.hand.names name ≡ true
  pub empty : (j : ℕ) → word_at v.seen name j ≡ 0

-- where there is a plan, the name's event is the plan's
abbrev pub IsPlanned : Option (List Event) → ℕ → Event → Type 0
IsPlanned plan name e = (events : List Event) → plan ≡ Some events → event_of events name ≡ Some e

-- an event that may be begun or skipped under the name
pub record IsNextEvent (v : View) (name : ℕ) (e : Event) : Type 0 where
  pub trim : is_trim e ≡ true
  pub smaller : has_smaller_bases name e ≡ true
  pub argument : ltb e.arg (2 ^ 64) ≡ true
  pub planned : IsPlanned v.about.plan name e

-- all versions that it uses are there, and of one kind, which has the operation
pub record MayBegin (v : View) (name : ℕ) (e : Event) : Type 0 where
  pub next : IsNextEvent v name e
  pub answered : list_all (is_answered (row_at v.seen)) (bases e) ≡ true
  pub kinds : is_of_its_kind (events_of (row_at v.seen)) e ≡ true

-- the row of one of its bases is given up
abbrev pub HasLostBase : View → Event → Type 0
HasLostBase v e = list_any (is_given_up (row_at v.seen)) (bases e) ≡ true

-- the row of the name is the one that is worked on: begun and not ended, and a reserve was refused since it began, or not
pub record IsWorking (v : View) (name : ℕ) (refused : Bool) : Type 0 where
  pub claims : v.hand.claims ≡ []
  pub open_rows : v.hand.open_rows ≡ record { name = name; refused = refused } ∷ []
  pub drawn : contains v.hand.names name ≡ true
  pub caller : ℕ
  pub event : Event
  pub here : row_at v.seen name ≡ Some (begun_row caller event)
  pub end_word : word_at v.seen name 5 ≡ 0
  pub second_word : word_at v.seen name 6 ≡ 0

-- the reply and the version are those of the event, no split, on the plain lists of its bases, and the base was looked at
pub record Answers (w : World) (e : Event) (reply : Reply) (v : Version) : Type 0 where
  pub unsplit : is_split e.op ≡ false
  pub in_range : ltb v.size 2147483648 ≡ true
  pub kind : is_some_and (same_kind v.kind) (kind_made (kind_of (events_of (row_at w))) (Some e)) ≡ true
  pub size : v.size ≡ length (lists_made (plain (events_of (row_at w))) (Some e)).0
  pub value : holds (recs w) v.root.0 (λ r. not (is_pending r)) ≡ true
  pub reply_is : reply ≡ reply_to (events_of (row_at w)) e
  pub meaning : in_order v.kind (means (recs w) v.root.0) ≡ (lists_made (plain (events_of (row_at w))) (Some e)).0
  pub root : holds (recs w) v.root.0 (is_root (recs w) v.kind v.root.0) ≡ true
  pub looked : row_has_looked w (row_at w) e reply (version_at (row_at w) e.base) ≡ true

-- ---- what a step leaves

-- no place, and no other row, has changed
pub record SameBut (old new : View) (name : ℕ) : Type 0 where
  pub nodes : new.seen.nodes ≡ old.seen.nodes
  pub others : (i : ℕ) → i ≢ name → row_at new.seen i ≡ row_at old.seen i
  pub drawn : new.drawn ≡ old.drawn
  pub named : new.named ≡ old.named

-- a step on the row of a name leaves all else as it was, but for what others do meanwhile
pub record OnRow (old new : View) (name : ℕ) : Type 0 where
  pub grows : Grows old.seen new.seen
  pub others : (i : ℕ) → i ≢ name → contains old.hand.names i ≡ true → words_at new.seen i ≡ words_at old.seen i
  pub about : new.about ≡ old.about
  pub refusals : new.refusals ≡ old.refusals
  pub alone : old.about.alone ≡ true → SameBut old new name

-- the event has begun, and brought its due and its places
pub record Begun (old new : View) (caller name : ℕ) (e : Event) : Type 0 where
  pub on : OnRow old new name
  pub here : row_at new.seen name ≡ Some (begun_row caller e)
  pub end_word : word_at new.seen name 5 ≡ 0
  pub second_word : word_at new.seen name 6 ≡ 0
  pub hand : new.hand ≡ hand_mine old.about.caller name 0 (hand_begun old.hand name (due_at new.seen name) (direct_at new.seen name))

-- the row has ended. One that ends full with the numbers of an add in vain takes them from the hand
pub record RowEnded (old new : View) (name : ℕ) (r : Row) : Type 0 where
  pub on : OnRow old new name
  pub here : row_at new.seen name ≡ Some r
  pub hand : new.hand ≡ record (hand_ended old.hand name) { vain = vain_after true (Some r) old.hand.vain }

-- the row has ended without its event being begun
pub record Skipped (old new : View) (caller name : ℕ) (e : Event) : Type 0 where
  pub on : OnRow old new name
  pub here : row_at new.seen name ≡ Some (skipped_row caller e)
  pub hand : new.hand ≡ hand_mine old.about.caller name 0 (hand_ended old.hand name)
