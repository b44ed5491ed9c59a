-- What a force asks, and what it leaves.
use Rattle.std.specs.Prelude.{◌≡◌, ℕ, ◌+◌, ◌<◌, ◌≤◌, min, Bool, true, false, not, ◌&&◌, ◌||◌, Some, None, List, [], length}
use Rattle.std.specs.List.{list_any}
use Rattle.lazy_rec.specs.declared.records.Rec.{Rec}
use Rattle.lazy_rec.specs.declared.limits.TheConstants.{MOST_DRAWN, MOST_GIVEN_UP, ROOM_FOR_CLAIMS}
use Rattle.lazy_rec.specs.Named.{is_pending}
use Rattle.heap_store.specs.Budget.{room_of, is_funded}
use Rattle.heap_store.specs.declared.claims.Full.{Full}
use Rattle.heap_store.specs.World.{World, recs, holds, done_at, attempts_at, SameAttempts}
use Rattle.heap_store.specs.Growth.{Grows}
use Rattle.heap_store.specs.Hand.{Hand, contains, all_distinct, hand_refused}
use Rattle.heap_store.specs.View.{View, SameRows, risen}
use Rattle.heap_store.specs.Causes.{given_back_count, may_have_wanted}
use Rattle.force_engine.specs.Stacked.{KeepsMeans, hand_with}
use Rattle.force_engine.specs.declared.solo.GiveUp.{GiveUp}
use Rattle.force_engine.specs.declared.solo.GiveUp.TheVariants as causes

-- a value, or a suspension that somebody can do and that is paid for
abbrev pub IsForcible : (Rec → Bool) → World → ℕ → Type 0
IsForcible does w s = holds (recs w) s (λ r. not (is_pending r) || (does r && is_funded w s r)) ≡ true

-- a suspension that isn't done
pub record IsUndone (w : World) (s : ℕ) : Type 0 where
  pub pending : holds (recs w) s is_pending ≡ true
  pub not_done : done_at w s ≡ None

-- the suspension is done, and keeps this place
pub record IsKept (w : World) (s place : ℕ) : Type 0 where
  pub steps : ℕ
  pub done : done_at w s ≡ Some (place, steps)

-- a force that ended well leaves all but the world as it was, and no fewer credits and places that may still be reserved. On a
-- heap that no other works on the rows are as before, and no attempt was given back
pub record Forced (old new : View) : Type 0 where
  pub grows : Grows old.seen new.seen
  pub hand : new.hand ≡ hand_with old.hand new.hand
  pub claims : new.hand.claims ≡ old.hand.claims
  pub credits : old.hand.credits ≤ new.hand.credits
  pub allowance : old.hand.allowance ≤ new.hand.allowance
  pub refusals : new.refusals ≡ old.refusals
  pub about : new.about ≡ old.about
  pub rows : old.about.alone ≡ true → SameRows old new
  pub attempts : old.about.alone ≡ true → SameAttempts old.seen new.seen

-- ---- giving up

-- an attempt at the suspension was given back. Its count stands still at its end
abbrev pub Rose : World → World → ℕ → Type 0
Rose old new p = min (attempts_at old p + 1) MOST_GIVEN_UP ≤ attempts_at new p

-- one attempt was, and no more
abbrev pub RoseByOne : World → World → ℕ → Type 0
RoseByOne old new p = attempts_at new p ≡ min (attempts_at old p + 1) MOST_GIVEN_UP

-- one attempt at each of these suspensions was given back, none at any other, and the rows are as before
pub record NoMoreGiven (old new : View) (given : List ℕ) : Type 0 where
  pub rows : SameRows old new
  pub by_one : (p : ℕ) → contains given p ≡ true → RoseByOne old.seen new.seen p
  pub others : (p : ℕ) → contains given p ≡ false → attempts_at new.seen p ≡ attempts_at old.seen p

-- the hand without a claim, and with these credits and places that may still be reserved
abbrev pub hand_idle : Hand → Hand → Hand
hand_idle h now = record h { claims = []; credits = now.credits; allowance = now.allowance }

-- all claims in hand, of these places, were given back, and nothing else happened
pub record GivenBack (old new : View) (given : List ℕ) : Type 0 where
  pub grows : Grows old.seen new.seen
  pub hand : new.hand ≡ hand_idle old.hand new.hand
  pub refusals : new.refusals ≡ old.refusals
  pub about : new.about ≡ old.about
  pub means : KeepsMeans old new
  pub once : all_distinct given ≡ true
  pub rose : (p : ℕ) → contains given p ≡ true → Rose old.seen new.seen p
  pub no_more : old.about.alone ≡ true → NoMoreGiven old new given
  pub drawn : old.about.alone ≡ true → new.drawn ≡ old.drawn

-- one reserve was refused, with these numbers, for a suspension that was then given back
pub record WasRefused (old new : View) (given : List ℕ) (full : Full) : Type 0 where
  -- an add in vain may have left its numbers in the hand
  pub hand : new.hand ≡ record (hand_idle (hand_refused old.hand) new.hand) { vain = new.hand.vain }
  pub refusals : new.refusals ≡ record { count = risen old.refusals.count; last = full }
  pub low : full.drawn ≤ MOST_DRAWN
  pub asked : 1 ≤ full.wanted
  pub wanted_by : list_any (λ p. holds (recs new.seen) p (may_have_wanted new.seen full.wanted p)) given ≡ true
  pub no_room : old.about.capacity < full.drawn + full.wanted
  pub drawn : old.about.alone ≡ true → full.drawn ≡ new.drawn
  -- no more was wanted than the events and their dues allow
  pub within : old.about.alone ≡ true → full.drawn + full.wanted ≤ room_of new.seen

-- no reserve was refused; at least as many claims as there is room for were in hand at once, so as many suspensions show
-- attempts that were given back
pub record WantedMemory (old new : View) (given : List ℕ) : Type 0 where
  pub hand : new.hand ≡ hand_idle old.hand new.hand
  pub refusals : new.refusals ≡ old.refusals
  pub held : ROOM_FOR_CLAIMS ≤ length given
  pub shown : ROOM_FOR_CLAIMS ≤ given_back_count new.seen

abbrev pub CauseIs : View → View → List ℕ → GiveUp → Type 0
CauseIs old new given (causes.Full full) = WasRefused old new given full
CauseIs old new given causes.NoMemory = WantedMemory old new given

-- a force gave up, and gave back the claims of these places
pub record GaveUp (old new : View) (given : List ℕ) (cause : GiveUp) : Type 0 where
  pub grows : Grows old.seen new.seen
  pub about : new.about ≡ old.about
  pub means : KeepsMeans old new
  pub once : all_distinct given ≡ true
  pub rose : (p : ℕ) → contains given p ≡ true → Rose old.seen new.seen p
  pub no_more : old.about.alone ≡ true → NoMoreGiven old new given
  pub cause_is : CauseIs old new given cause

-- the claim of s was among those
pub record IsGivenUp (old new : View) (s : ℕ) (cause : GiveUp) : Type 0 where
  pub given : List ℕ
  pub own : contains given s ≡ true
  pub gave_up : GaveUp old new given cause
