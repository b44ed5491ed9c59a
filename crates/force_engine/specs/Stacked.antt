-- The claims of a force that is at work.
use Rattle.std.specs.Prelude.{◌≡◌, ℕ, ◌+◌, ◌-◌, ◌*◌, ◌<◌, ◌≤◌, true, List, [], ◌∷◌, length, map, sum_by}
use Rattle.lazy_rec.specs.Named.{Records}
use Rattle.heap_store.specs.declared.claims.HeldClaim.{HeldClaim}
use Rattle.heap_store.specs.World.{World, recs, is_published, SameAttempts}
use Rattle.heap_store.specs.Growth.{Grows}
use Rattle.heap_store.specs.Lawful.{height}
use Rattle.heap_store.specs.Hand.{Hand, fresh_claim, claim_places, places_of_steps}
use Rattle.heap_store.specs.View.{View, SameRows, unforced}
use Rattle.force_engine.specs.declared.stack.Frame.{Frame}

-- the claims of frames, in their order, none of which has published anything
abbrev pub claims_of : List Frame → List HeldClaim
claims_of frames = map (λ (f : Frame). fresh_claim f.place) frames

abbrev pub places_of : List Frame → List ℕ
places_of frames = map (λ (f : Frame). f.place.0) frames

-- the places that these suspensions may take when they are completed
abbrev pub places_for : Records → List ℕ → ℕ
places_for rs ps = sum_by (places_of_steps rs) ps

-- of the claims in hand
abbrev pub claimed_places : View → ℕ
claimed_places v = places_for (recs v.seen) (claim_places v.hand.claims)

-- no credits were lost, and no places that may still be reserved but those of the claims in hand
pub record KeepsMeans (old new : View) : Type 0 where
  pub credits : old.hand.credits ≤ new.hand.credits
  pub allowance : old.hand.allowance + claimed_places new ≤ new.hand.allowance + claimed_places old

-- a hand with other claims, credits and places that may still be reserved
abbrev pub hand_with : Hand → Hand → Hand
hand_with h now = record h { claims = now.claims; credits = now.credits; allowance = now.allowance }

-- a place of a lower height than the newest of the frames
abbrev pub IsBelow : World → ℕ → List Frame → Type 0
IsBelow w p [] = Unit {0}
IsBelow w p (f ∷ fs) = height (recs w) p < height (recs w) f.place.0

-- published places, each of a lower height than the next
abbrev pub HeightsRise : World → List Frame → Type 0
HeightsRise w [] = Unit {0}
HeightsRise w (f ∷ fs) = (is_published (recs w) f.place.0 ≡ true) × IsBelow w f.place.0 fs × HeightsRise w fs

-- the frames, from the newest on, are the claims in hand of a heap that no other works on. What they may take may still be
-- reserved
pub record IsStacked (v : View) (frames : List Frame) : Type 0 where
  pub alone : v.about.alone ≡ true
  pub claims : v.hand.claims ≡ claims_of frames
  pub rises : HeightsRise v.seen frames
  pub room : claimed_places v ≤ v.hand.allowance

-- what a force leaves as it was while it is at work: all but the claims in hand and what comes with them
pub record Passed (old new : View) : Type 0 where
  pub grows : Grows old.seen new.seen
  pub hand : new.hand ≡ hand_with old.hand new.hand
  pub means : KeepsMeans old new
  pub refusals : new.refusals ≡ old.refusals
  pub about : new.about ≡ old.about
  pub rows : SameRows old new
  pub attempts : SameAttempts old.seen new.seen

-- what falls with each turn of a force: a need that is claimed leaves one suspension fewer unforced, and a completion takes as
-- many places as it may publish suspensions, and ends a claim
abbrev pub work : View → ℕ
work v = 2 * (v.about.capacity - v.drawn + unforced v.seen) + length v.hand.claims
