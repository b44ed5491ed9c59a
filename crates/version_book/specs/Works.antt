-- The work of one event, and of the forces that it needs, on a heap that others may work on too. What it says rests on growth;
-- what needs that no other works on the heap stands behind `alone`.
use Rattle.std.specs.Prelude.{◌≡◌, ℕ, ◌+◌, ◌-◌, ◌<◌, ◌≤◌, Bool, true, false, Some, List, [], ◌⊎◌}
use Rattle.lazy_rec.specs.declared.events.Kind.{Kind}
use Rattle.lazy_rec.specs.declared.events.Reply.TheVariants as replies
use Rattle.lazy_rec.specs.declared.limits.TheConstants.{MOST_DRAWN}
use Rattle.lazy_rec.specs.Meaning.{means}
use Rattle.lazy_rec.specs.Named.{is_pending}
use Rattle.heap_store.specs.declared.claims.Full.{Full}
use Rattle.heap_store.specs.declared.jobs.EventJob.{EventJob}
use Rattle.heap_store.specs.World.{recs, holds, done_at, fixed_places}
use Rattle.heap_store.specs.Growth.{Grows}
use Rattle.heap_store.specs.Lawful.{is_root}
use Rattle.heap_store.specs.Hand.{Hand, KeepsWords, hand_refused}
use Rattle.heap_store.specs.Stages.{name_of, position, due_left, places_left}
use Rattle.heap_store.specs.Budget.{room_of, total_forced}
use Rattle.heap_store.specs.Causes.{given_back_count, IsFullCause}
use Rattle.heap_store.specs.View.{View, SameRows}
use Rattle.heap_store.specs.Jobs.{IsEnd}
use Rattle.force_engine.specs.declared.stack.Frame.{Frame}
use Rattle.force_engine.specs.declared.solo.GiveUp.{GiveUp}
use Rattle.force_engine.specs.declared.solo.GiveUp.TheVariants as causes
use Rattle.version_book.specs.declared.event_work.Outcome.{Outcome}

-- the hand, but for the credits and the places that may still be reserved
abbrev pub hand_spent : Hand → Hand → Hand
hand_spent h now = record h { credits = now.credits; allowance = now.allowance }

-- places were published and suspensions completed, and all else is as it was
pub record Worked (old new : View) : Type 0 where
  pub grows : Grows old.seen new.seen
  pub words : KeepsWords old.hand old.seen new.seen
  pub hand : new.hand ≡ hand_spent old.hand new.hand
  pub refusals : new.refusals ≡ old.refusals
  pub about : new.about ≡ old.about
  pub rows : old.about.alone ≡ true → SameRows old new

-- the last reserve was refused, with these numbers: one of an event that may take `direct` places itself, or of a force
pub record Balked (old new : View) (direct : ℕ) (refusal : Full) : Type 0 where
  pub grows : Grows old.seen new.seen
  pub words : KeepsWords old.hand old.seen new.seen
  pub hand : new.hand ≡ record (hand_spent (hand_refused old.hand) new.hand) { vain = new.hand.vain }
  -- an add in vain may have left its numbers in the hand
  pub vain : (new.hand.vain ≡ old.hand.vain) ⊎ (new.hand.vain ≡ Some refusal)
  pub last : new.refusals.last ≡ refusal
  pub about : new.about ≡ old.about
  pub low : refusal.drawn ≤ MOST_DRAWN
  pub no_room : new.about.capacity < refusal.drawn + refusal.wanted
  pub cause : IsFullCause new.seen direct refusal.wanted
  pub rows : old.about.alone ≡ true → SameRows old new
  pub drawn : old.about.alone ≡ true → refusal.drawn ≡ new.drawn
  -- no more was wanted than the events and their dues allow
  pub within : old.about.alone ≡ true → refusal.drawn + refusal.wanted ≤ room_of new.seen

-- a force of the work wanted memory: it held 64 claims, and gave them back
pub record LackedMemory (old new : View) : Type 0 where
  pub worked : Worked old new
  pub cause : 64 ≤ given_back_count new.seen

abbrev pub Stopped : View → View → ℕ → GiveUp → Type 0
Stopped old new direct (causes.Full refusal) = Balked old new direct refusal
Stopped old new direct causes.NoMemory = LackedMemory old new

-- the suspension is done, and what may be spent and reserved is no less
pub record ForcedOn (old new : View) (s place : ℕ) : Type 0 where
  pub worked : Worked old new
  pub credits : old.hand.credits ≤ new.hand.credits
  pub allowance : old.hand.allowance ≤ new.hand.allowance
  pub done : holds (recs old.seen) s is_pending ≡ true → (steps : ℕ) × (done_at new.seen s ≡ Some (place, steps))

-- the hand has what the job's stage, and those after it, may spend and reserve
pub record HasMeans (v : View) (job : EventJob) : Type 0 where
  pub credits : due_left job ≤ v.hand.credits
  pub places : places_left job ≤ v.hand.allowance

-- the outcome is that of the job
pub record MadeOutcome (old new : View) (job : EventJob) (o : Outcome) : Type 0 where
  pub worked : Worked old new
  pub end : IsEnd new.seen job o.root.0 o.size o.reply

-- the outcome is an empty structure of the kind
pub record MadeEmpty (old new : View) (kind : Kind) (o : Outcome) : Type 0 where
  pub worked : Worked old new
  pub root : holds (recs new.seen) o.root.0 (is_root (recs new.seen) kind o.root.0) ≡ true
  pub value : holds (recs new.seen) o.root.0 is_pending ≡ false
  pub empty : means (recs new.seen) o.root.0 ≡ []
  pub size : o.size ≡ 0
  pub reply : o.reply ≡ replies.Ok

-- what falls with each turn of the work: a force leaves one more suspension done, and a stage comes before the next
abbrev pub turns_left : View → EventJob → ℕ
turns_left v job = (fixed_places + v.about.capacity - total_forced v.seen) + (3 - position (name_of job.stage))

-- a stack on which no claim waits
abbrev pub is_empty : List Frame → Bool
is_empty [] = true
is_empty _ = false
