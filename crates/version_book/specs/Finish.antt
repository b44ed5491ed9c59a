-- How the row of a begun event is ended, as its work came out.
use Rattle.std.specs.Prelude.{◌≡◌, ℕ, ◌<◌, ◌≤◌, true, false, Some, None, Result, Ok, Err}
use Rattle.lazy_rec.specs.declared.events.Kind.{Kind}
use Rattle.lazy_rec.specs.declared.limits.TheConstants.{MOST_DRAWN, MOST_PLACES}
use Rattle.heap_store.specs.declared.claims.Full.{Full}
use Rattle.heap_store.specs.declared.versions.Version.{Version}
use Rattle.heap_store.specs.Rows.{Row, Ending, answered, full, memory, row_at}
use Rattle.heap_store.specs.Budget.{direct_at}
use Rattle.heap_store.specs.Causes.{given_back_count, IsFullCause}
use Rattle.heap_store.specs.View.{View}
use Rattle.force_engine.specs.declared.solo.GiveUp.{GiveUp}
use Rattle.force_engine.specs.declared.solo.GiveUp.TheVariants as causes
use Rattle.version_book.specs.declared.answers.Entry.{Entry}
use Rattle.version_book.specs.declared.answers.Refuse.{Refuse}
use Rattle.version_book.specs.declared.answers.Refuse.TheVariants as refusals
use Rattle.version_book.specs.declared.event_work.Outcome.{Outcome}
use Rattle.version_book.specs.RowSteps.{IsWorking, Answers}

-- the version that an outcome makes under a name
abbrev pub version_made : ℕ → Kind → Outcome → Version
version_made name kind o = record { name = name; kind = kind; size = o.size; root = o.root }

-- how the row ends, and what the call answers
abbrev pub ending_refused : GiveUp → Ending
ending_refused (causes.Full refusal) = full refusal.drawn refusal.wanted
ending_refused causes.NoMemory = memory

abbrev pub refusal_made : GiveUp → Refuse
refusal_made (causes.Full refusal) = refusals.StoreFull refusal
refusal_made causes.NoMemory = refusals.NoMemory

abbrev pub ending_made : ℕ → Kind → Result Outcome GiveUp → Ending
ending_made name kind (Ok o) = answered o.reply (version_made name kind o) None
ending_made name kind (Err cause) = ending_refused cause

abbrev pub answer_made : ℕ → Kind → Result Outcome GiveUp → Result Entry Refuse
answer_made name kind (Ok o) = Ok (record { name = name; reply = o.reply; version = version_made name kind o; second = None })
answer_made name kind (Err cause) = Err (refusal_made cause)

-- the outcome is that of the event of the row
pub record MayAnswer (v : View) (name : ℕ) (kind : Kind) (o : Outcome) : Type 0 where
  pub working : IsWorking v name false
  pub answers : (r : Row) → row_at v.seen name ≡ Some r → Answers v.seen r.event o.reply (version_made name kind o)
  pub place : o.root.0 < MOST_PLACES

-- the last reserve was refused since the event was begun
pub record MayRefuse (v : View) (name : ℕ) (refusal : Full) : Type 0 where
  pub working : IsWorking v name true
  pub last : refusal ≡ v.refusals.last
  pub drawn : refusal.drawn ≤ MOST_DRAWN
  pub cause : IsFullCause v.seen (direct_at v.seen name) refusal.wanted

-- a force wanted memory
pub record MayLackMemory (v : View) (name : ℕ) : Type 0 where
  pub working : IsWorking v name false
  pub cause : 64 ≤ given_back_count v.seen

-- what ending the row asks
abbrev pub MayEndRefused : View → ℕ → GiveUp → Type 0
MayEndRefused v name (causes.Full refusal) = MayRefuse v name refusal
MayEndRefused v name causes.NoMemory = MayLackMemory v name

abbrev pub MayEnd : View → ℕ → Kind → Result Outcome GiveUp → Type 0
MayEnd v name kind (Ok o) = MayAnswer v name kind o
MayEnd v name kind (Err cause) = MayEndRefused v name cause
