-- Forces that never wait.
use Rattle.std.specs.Prelude.{◌≡◌, ℕ, ◌+◌, ◌<◌, ◌≤◌, ◌⊎◌, min, Bool, true, false, List, [], ◌∷◌, Some, None}
use Rattle.lazy_rec.specs.declared.records.Rec.{Rec}
use Rattle.heap_store.specs.World.{World, is_claimed_at, is_done, done_at}
use Rattle.heap_store.specs.Growth.{Grows}
use Rattle.heap_store.specs.Hand.{contains, all_distinct}
use Rattle.heap_store.specs.Budget.{is_funded_at}
use Rattle.heap_store.specs.View.{View}
use Rattle.heap_store.specs.Jobs.{IsWork}
use Rattle.force_engine.specs.Forced.{IsKept}
use Rattle.store_runs.specs.declared.tries.Share.{Share}
use Rattle.store_runs.specs.declared.tries.Turn.{Turn}
use Rattle.store_runs.specs.declared.tries.Turn.TheVariants.{Need, Done, Busy, Full}

-- What the turns leave: more of the world may be seen; of the hand all is as it was, or more may be discharged and reserved. A row that is
-- worked on may have taken note of a refusal
pub record LeavesHand (old new : View) : Type 0 where
  pub grows : Grows old.seen new.seen
  pub about : new.about ≡ old.about
  pub claims : new.hand.claims ≡ []
  pub reserved : new.hand.reserved ≡ old.hand.reserved
  pub names : new.hand.names ≡ old.hand.names
  pub idle : old.hand.open_rows ≡ [] → new.hand.open_rows ≡ []
  pub credits : old.hand.credits ≤ new.hand.credits
  pub allowance : old.hand.allowance ≤ new.hand.allowance

-- What a turn at a suspension told: a need that somebody can do and that is paid for, the place that the suspension keeps, that another
-- works on it, or the numbers of the last refusal
abbrev pub Told : (Rec → Bool) → View → ℕ → Turn → Type 0
Told does v s (Need t) = IsWork does v.seen t.0 × (is_funded_at v.seen t.0 ≡ true)
Told does v s (Done place) = IsKept v.seen s place.0
Told does v s Busy = is_claimed_at v.seen s ≡ true
Told does v s (Full full) = (v.refusals.last ≡ full) × (v.about.capacity < full.drawn + full.wanted)

-- ---- what a caller has completed

-- a share with one suspension more, which took so many steps. Its numbers stand still at their types' ends
abbrev pub with_one : Share → ℕ → Share
with_one a steps = record { forced = min (a.forced + 1) 4294967295; steps = min (a.steps + steps) 18446744073709551615 }

-- the steps that a done suspension took
abbrev pub steps_at : World → ℕ → ℕ
steps_at w s = elim (done_at w s) [ None ↦ 0 | Some d ↦ d.1 ]

-- a share with these suspensions more, the last one first
abbrev pub with_all : World → Share → List ℕ → Share
with_all w a [] = a
with_all w a (s ∷ ss) = with_one (with_all w a ss) (steps_at w s)

-- the turn has completed the suspension, which wasn't done, and the share has counted it
pub record HasCompleted (v w : World) (s : ℕ) (a b : Share) : Type 0 where
  pub before : is_done v s ≡ false
  pub done : is_done w s ≡ true
  pub share : b ≡ with_one a (steps_at w s)

-- a turn has completed the suspension, or left the share as it was
abbrev pub CountsOne : World → World → ℕ → Share → Share → Type 0
CountsOne v w s a b = (b ≡ a) ⊎ HasCompleted v w s a b

-- what a share has counted since it was `a` and the world `v`: suspensions that became done since, each once. Who completed them
-- the world doesn't keep
pub record IsShare (v w : World) (a b : Share) : Type 0 where
  pub places : List ℕ
  pub once : all_distinct places ≡ true
  pub before : (s : ℕ) → contains places s ≡ true → is_done v s ≡ false
  pub done : (s : ℕ) → contains places s ≡ true → is_done w s ≡ true
  pub share : b ≡ with_all w a places
