-- What the calls on a pass ask and do. One call begins and ends one event; between two calls nothing is in hand but the names of
-- tickets.
use Rattle.std.specs.Prelude.{◌≡◌, ◌≢◌, ℕ, ◌+◌, ◌<◌, eqb, ◌&&◌, Bool, true, false, cond, Some, None, [], length, Result, Ok, Err}
use Rattle.lazy_rec.specs.declared.events.Kind.{Kind}
use Rattle.lazy_rec.specs.declared.events.Op.{Op}
use Rattle.lazy_rec.specs.declared.events.Op.TheVariants.{New}
use Rattle.lazy_rec.specs.declared.events.Event.{Event}
use Rattle.lazy_rec.specs.Kinds.{uses_base, uses_other, uses_argument, same_kind}
use Rattle.lazy_rec.specs.Plain.{effect}
use Rattle.lazy_rec.specs.History.{event_name, is_second}
use Rattle.heap_store.specs.declared.versions.Version.{Version}
use Rattle.heap_store.specs.World.{World}
use Rattle.heap_store.specs.Rows.{Row, Ending, not_ended, answered, full, memory, is_full, row_at, word_at, version_at, is_ended_at, is_given_up}
use Rattle.heap_store.specs.Growth.{Grows}
use Rattle.heap_store.specs.Hand.{contains, without, hand_mine}
use Rattle.heap_store.specs.Budget.{direct_at}
use Rattle.heap_store.specs.Causes.{HasCause}
use Rattle.heap_store.specs.RowCalls.{NoName}
use Rattle.heap_store.specs.View.{View}
use Rattle.heap_store.specs.Jobs.{list_at}
use Rattle.kind_table.specs.Kinds.{is_built}
use Rattle.version_book.specs.declared.answers.Entry.{Entry}
use Rattle.version_book.specs.declared.answers.Refuse.{Refuse}
use Rattle.version_book.specs.declared.answers.Refuse.TheVariants as refusals
use Rattle.version_book.specs.declared.answers.Look.{Look}
use Rattle.version_book.specs.declared.answers.Look.TheVariants.{Found, NotYet, GivenUp}
use Rattle.version_book.specs.Pass.{Pass}
use Rattle.version_book.specs.RowSteps.{IsPlanned, ended_row}
use Rattle.version_book.specs.Closed.{IsRefusal}

-- between two calls: no claim, no place and no row is in hand, no number of an add in vain, and of the names in hand no word is
-- stored
pub record IsIdle (v : View) : Type 0 where
  pub claims : v.hand.claims ≡ []
  pub open_rows : v.hand.open_rows ≡ []
  pub reserved : v.hand.reserved ≡ []
  pub vain : v.hand.vain ≡ None
  pub unused : (i j : ℕ) → contains v.hand.names i ≡ true → word_at v.seen i j ≡ 0

-- the pass has drawn the ticket's name, and hasn't spent it
abbrev pub HasDrawn : Pass → ℕ → Type 0
HasDrawn p name = contains p.view.hand.names name ≡ true

-- no name was left to draw
abbrev pub IsOutOfNames : View → View → Refuse → Type 0
IsOutOfNames old new (refusals.NamesFull none) = NoName old new none
IsOutOfNames old new _ = ⊥

-- ---- versions

-- the pass has seen the version answered
abbrev pub HasSeen : Pass → Version → Type 0
HasSeen p v = version_at (row_at p.view.seen) v.name ≡ Some v

-- the event of a call: 0 stands in the fields that the operation doesn't use
abbrev pub event_of_call : Op → Version → Version → ℕ → Event
event_of_call op base other arg = record { op = op; base = base.name; other = cond (uses_other op) other.name 0; arg = arg }

abbrev pub new_event : Kind → Event
new_event kind = record { op = New kind; base = 0; other = 0; arg = 0 }

-- what a call on versions asks
pub record MayExtend (p : Pass) (name : ℕ) (op : Op) (base other : Version) (arg : ℕ) : Type 0 where
  pub drawn : HasDrawn p name
  -- the operation is one of the base's kind that is built, and starts from a version
  pub built : is_built base.kind op ≡ true
  pub based : uses_base op ≡ true
  pub kinds : same_kind base.kind other.kind ≡ true
  -- both versions are known, and older than the event
  pub base_seen : HasSeen p base
  pub other_seen : HasSeen p other
  pub base_older : event_name base.name < name
  pub other_older : event_name other.name < name
  -- what the operation doesn't use is the base again, and 0
  pub alone : uses_other op ≡ false → other ≡ base
  pub no_argument : uses_argument op ≡ false → arg ≡ 0
  pub planned : IsPlanned p.view.about.plan name (event_of_call op base other arg)

-- ---- what a call leaves

-- where no other works on the store: no other row has changed, and a full row's numbers are those of a refusal
pub record CalledAlone (old new : View) (name : ℕ) (r : Row) : Type 0 where
  pub others : (i : ℕ) → i ≢ name → row_at new.seen i ≡ row_at old.seen i
  pub named : new.named ≡ old.named
  pub numbers : (drawn wanted : ℕ) → r.ending ≡ full drawn wanted → IsRefusal new.seen old.about.capacity drawn wanted

-- the ticket's name is spent: its row has come, ended so, and no other row of this caller. All that was seen still stands
pub record Called (old new : Pass) (name : ℕ) (r : Row) : Type 0 where
  pub grows : Grows old.view.seen new.view.seen
  pub here : row_at new.view.seen name ≡ Some r
  pub names : new.view.hand.names ≡ without name (name + 1) old.view.hand.names
  pub mine : new.view.hand.mine ≡ (hand_mine old.view.about.caller name 0 old.view.hand).mine
  pub about : new.view.about ≡ old.view.about
  pub caller : new.caller ≡ old.caller
  -- a row without a reply has its cause, and the last refusal is that of a full one
  pub cause : HasCause new.view.seen (direct_at new.view.seen name) r.ending
  pub unrefused : is_full r.ending ≡ false → new.view.refusals ≡ old.view.refusals
  pub refused : (drawn wanted : ℕ) → r.ending ≡ full drawn wanted → (new.view.refusals.last.drawn ≡ drawn) × (new.view.refusals.last.wanted ≡ wanted)
  pub alone : old.view.about.alone ≡ true → CalledAlone old.view new.view name r

-- the row's ending that a call's answer tells
abbrev pub ending_told : Result Entry Refuse → Ending
ending_told (Ok entry) = answered entry.reply entry.version entry.second
ending_told (Err (refusals.StoreFull refusal)) = full refusal.drawn refusal.wanted
ending_told (Err refusals.NoMemory) = memory
ending_told (Err (refusals.NamesFull _)) = not_ended

-- an entry has the ticket's name, and so has its first version; no call runs out of names
abbrev pub is_named : ℕ → Result Entry Refuse → Bool
is_named name (Ok entry) = eqb entry.name name && eqb entry.version.name name
is_named name (Err (refusals.NamesFull _)) = false
is_named name (Err _) = true

-- the call ended this event under the ticket's name, and its answer is the row's
pub record Ended (old new : Pass) (name : ℕ) (e : Event) (answer : Result Entry Refuse) : Type 0 where
  pub called : Called old new name (ended_row old.caller e (ending_told answer))
  pub named : is_named name answer ≡ true

-- ---- what an entry means

-- the entry's version is known from now on, and can be extended
abbrev pub IsKnown : Pass → Entry → Type 0
IsKnown p entry = HasSeen p entry.version

-- the entry's reply and list are those of the operation on the lists of the versions
pub record IsOutcome (old new : Pass) (op : Op) (base other : Version) (arg : ℕ) (entry : Entry) : Type 0 where
  pub kind : entry.version.kind ≡ base.kind
  pub reply : entry.reply ≡ (effect op (list_at old.view.seen base) (list_at old.view.seen other) arg).1
  pub list : list_at new.view.seen entry.version ≡ (effect op (list_at old.view.seen base) (list_at old.view.seen other) arg).0
  pub size : entry.version.size ≡ length (list_at new.view.seen entry.version)

-- the entry of a new structure
pub record IsNew (new : Pass) (kind : Kind) (entry : Entry) : Type 0 where
  pub kind_is : entry.version.kind ≡ kind
  pub list : list_at new.view.seen entry.version ≡ []
  pub size : entry.version.size ≡ 0

-- ---- looking up

-- the row of the version's name has ended without such a version. One that ended with a reply lacks only the second version, of
-- an event that is no split
pub record IsLost (w : World) (n : ℕ) : Type 0 where
  pub ended : is_ended_at (row_at w) (event_name n) ≡ true
  pub none : version_at (row_at w) n ≡ None
  pub given_up : is_second n ≡ false → is_given_up (row_at w) n ≡ true

-- the row has the version with that number
pub record IsFound (w : World) (n : ℕ) (v : Version) : Type 0 where
  pub here : version_at (row_at w) n ≡ Some v
  pub number : v.name ≡ n

-- what the row of a version's name shows
abbrev pub Shown : World → ℕ → Look → Type 0
Shown w n (Found v) = IsFound w n v
Shown w n NotYet = word_at w (event_name n) 5 ≡ 0
Shown w n GivenUp = IsLost w n
