-- What a heap tells: the world that it has seen, what it has in hand, and what never changes; and what each call does to that.
use Rattle.std.specs.Prelude.{◌≡◌, ℕ, suc, ◌+◌, ◌<◌, ◌≤◌, min, Bool, true, false, ◌&&◌, Option, Some, None, List, [], ◌∷◌, length, count_by, is_some, ◌⊎◌}
use Rattle.std.specs.List.{list_all}
use Rattle.lazy_rec.specs.declared.places.Ref.{Ref}
use Rattle.lazy_rec.specs.declared.records.Rec.{Rec}
use Rattle.lazy_rec.specs.declared.states.SuspState.TheVariants.{Unforced, Claimed, Done}
use Rattle.lazy_rec.specs.declared.events.Event.{Event}
use Rattle.lazy_rec.specs.declared.limits.TheConstants.{MOST_DRAWN, MOST_EVENTS, MOST_GIVEN_UP, MOST_PLACES}
use Rattle.lazy_rec.specs.Named.{is_pending}
use Rattle.lazy_rec.specs.States.{is_unforced}
use Rattle.heap_store.specs.declared.nodes.Node.{Node}
use Rattle.heap_store.specs.declared.claims.Claim.{Claim}
use Rattle.heap_store.specs.declared.claims.Claim.TheVariants as answers
use Rattle.heap_store.specs.declared.claims.Full.{Full}
use Rattle.heap_store.specs.declared.claims.OpenRow.{OpenRow}
use Rattle.heap_store.specs.Span.{Span}
use Rattle.heap_store.specs.World.{World, recs, is_published, state_at, done_at, is_claimed_at, show, fixed_places}
use Rattle.heap_store.specs.Rows.{Row, row_at, words_at, word_at, is_ended_at}
use Rattle.heap_store.specs.Growth.{Grows}
use Rattle.heap_store.specs.Legal.{IsLegal, FollowsPlan}
use Rattle.heap_store.specs.Lawful.{HasLaws, IsLawful, IsDoneWell, has_origin}
use Rattle.heap_store.specs.LookedAt.{HasRoots}
use Rattle.heap_store.specs.Hand.{Hand, IsLawfulHand, KeepsWords, holds_claim, contains, newest_makes, brings, hand_reserved, hand_refused, hand_put, hand_won, hand_given_up, hand_completed}
use Rattle.heap_store.specs.Budget.{gain_at, is_settled, IsFunded, Running, IsInBudget}
use Rattle.lazy_rec.specs.Units.{family_of}

-- how many reserves were refused, and the numbers of the last one
pub record Refusals : Type 0 where
  pub count : ℕ
  pub last : Full

-- a count of 64 bits that stands still at its end
abbrev pub risen : ℕ → ℕ
risen n = min (n + 1) 18446744073709551615

-- a reserve that was refused: with the places that it wanted the store would have been too full
pub record IsRefusal (capacity : ℕ) (full : Full) : Type 0 where
  pub asked : 1 ≤ full.wanted
  pub no_room : capacity < full.drawn + full.wanted
  pub low : full.drawn ≤ MOST_DRAWN

-- what never changes: how many places and rows the store has, whether no other hand works on it, the plan if there is one,
-- and the caller's number if the heap is bound to one
pub record About : Type 0 where
  pub capacity : ℕ
  pub rows : ℕ
  pub alone : Bool
  pub plan : Option (List Event)
  pub caller : Option ℕ

-- the world that was seen, what is in hand, and the numbers of drawn places and of drawn names, as they were read last
pub record View : Type 0 where
  pub seen : World
  pub hand : Hand
  pub refusals : Refusals
  pub drawn : ℕ
  pub named : ℕ
  pub about : About

-- ---- what is always true of a heap

-- a published place beside the fixed ones
abbrev pub is_there : Option Node → Bool
is_there None = false
is_there (Some n) = true

abbrev pub published_count : World → ℕ
published_count w = count_by is_there w.nodes

-- the world of a heap that no other hand works on
abbrev pub alone_world : View → Running
alone_world v = record { world = v.seen; hands = v.hand ∷ []; plan = v.about.plan }

-- what holds of a heap's view at every moment
pub record IsLawfulView (v : View) : Type 0 where
  -- the world is lawful, its rows are a legal history of eight words a row, and follow the plan
  pub world : IsLawful v.seen
  pub legal : IsLegal v.seen
  pub roots : HasRoots v.seen
  pub plan : FollowsPlan v.about.plan (row_at v.seen)
  pub words : (i : ℕ) → 1 ≤ i → i ≤ v.about.rows → length (words_at v.seen i) ≡ 8
  -- there are so few rows that each row's name is the number of its first version
  pub rows_few : v.about.rows ≤ MOST_EVENTS
  pub rows_low : (i : ℕ) (r : Row) → row_at v.seen i ≡ Some r → i ≤ v.about.rows
  -- the end word of a row is 0 until the row has ended
  pub unended : (i : ℕ) → is_ended_at (row_at v.seen) i ≡ false → word_at v.seen i 5 ≡ 0
  -- the hand agrees with it. Each name in hand is one of the store's, and the rows that are worked on are among them
  pub hand : IsLawfulHand v.seen v.hand
  pub names_low : (i : ℕ) → contains v.hand.names i ≡ true → i ≤ v.about.rows
  pub open_in : list_all (λ (o : OpenRow). contains v.hand.names o.name) v.hand.open_rows ≡ true
  -- a heap that is bound to a caller knows all rows of its number
  pub mine : (c : ℕ) → v.about.caller ≡ Some c → (i : ℕ) (r : Row) → row_at v.seen i ≡ Some r → r.caller ≡ c → contains v.hand.mine i ≡ true
  -- no more places are published and in hand than the store has, and each fits a record's field of a place
  pub places : published_count v.seen + length v.hand.reserved ≤ fixed_places + v.about.capacity
  pub sized : length v.seen.nodes ≤ MOST_PLACES
  pub published_low : (p : ℕ) → is_published (recs v.seen) p ≡ true → p < MOST_PLACES
  pub reserved_low : (p : ℕ) → contains v.hand.reserved p ≡ true → p < length v.seen.nodes
  -- the numbers of the last refusal, if there was one
  pub refused : 1 ≤ v.refusals.count → IsRefusal v.about.capacity v.refusals.last
  -- what is claimed or done is paid for, and so is each family that a rotation of another stands on
  pub funded : IsFunded v.seen
  -- where no other hand works on the store, the view has all that is drawn, claimed and named, and nothing was added in vain
  pub drawn : v.about.alone ≡ true → published_count v.seen + length v.hand.reserved ≡ fixed_places + v.drawn
  pub room : v.about.alone ≡ true → v.drawn ≤ v.about.capacity
  pub claimed : v.about.alone ≡ true → (s : ℕ) → is_claimed_at v.seen s ≡ true → holds_claim v.hand s ≡ true
  pub rows : v.about.alone ≡ true → v.named ≤ v.about.rows
  pub unnamed : v.about.alone ≡ true → (i : ℕ) → v.named < i → row_at v.seen i ≡ None
  pub names : v.about.alone ≡ true → (i : ℕ) → 1 ≤ i → i ≤ v.named → is_ended_at (row_at v.seen) i ≡ false → contains v.hand.names i ≡ true
  pub vain : v.about.alone ≡ true → is_some v.hand.vain ≡ false
  pub budget : v.about.alone ≡ true → IsInBudget (alone_world v)

-- ---- what the calls do

-- an unforced suspension
abbrev pub is_unforced_node : Option Node → Bool
is_unforced_node None = false
is_unforced_node (Some n) = is_pending n.rec && is_unforced n.state

-- how many suspensions are unforced
unfoldable pub unforced : World → ℕ
unforced w = count_by is_unforced_node w.nodes

-- the rows and the drawn numbers are as before
pub record SameRows (old new : View) : Type 0 where
  pub rows : new.seen.rows ≡ old.seen.rows
  pub named : new.named ≡ old.named

-- a call that changes nothing, but may show more of the world
pub record Quiet (old new : View) : Type 0 where
  pub grows : Grows old.seen new.seen
  pub words : KeepsWords old.hand old.seen new.seen
  pub hand : new.hand ≡ old.hand
  pub refusals : new.refusals ≡ old.refusals
  pub about : new.about ≡ old.about
  pub alone : old.about.alone ≡ true → new ≡ old

-- so many places came into the hand, one after another, above all that were published or in hand
pub record Reserved (old new : View) (k : ℕ) (run : Span) : Type 0 where
  pub grows : Grows old.seen new.seen
  pub words : KeepsWords old.hand old.seen new.seen
  pub size : run.next + k ≡ run.end
  pub hand : new.hand ≡ hand_reserved old.hand run.next k
  pub refusals : new.refusals ≡ old.refusals
  pub about : new.about ≡ old.about
  pub unheld : (p : ℕ) → contains old.hand.reserved p ≡ true → p < run.next
  pub fresh : (p : ℕ) (r : Rec) → recs new.seen p ≡ Some r → p < run.next
  pub alone : old.about.alone ≡ true → (new.seen ≡ old.seen) × (new.drawn ≡ old.drawn + k) × (new.named ≡ old.named)

-- the store hasn't so many places left. Each row that is worked on takes note of it
pub record Refused (old new : View) (k : ℕ) (full : Full) : Type 0 where
  pub grows : Grows old.seen new.seen
  pub words : KeepsWords old.hand old.seen new.seen
  pub hand : new.hand ≡ record (hand_refused old.hand) { vain = new.hand.vain }
  -- an add in vain leaves its numbers in the hand
  pub vain : (new.hand.vain ≡ old.hand.vain) ⊎ ((old.hand.vain ≡ None) × (new.hand.vain ≡ Some full))
  pub refusals : new.refusals ≡ record { count = risen old.refusals.count; last = full }
  pub about : new.about ≡ old.about
  pub wanted : full.wanted ≡ k
  pub asked : 1 ≤ k
  pub no_room : old.about.capacity < full.drawn + k
  pub low : full.drawn ≤ MOST_DRAWN
  pub alone : old.about.alone ≡ true → (new.seen ≡ old.seen) × (new.drawn ≡ old.drawn) × (new.named ≡ old.named) × (full.drawn ≡ old.drawn) × (new.hand ≡ hand_refused old.hand)

-- how many units a hand may discharge with its next put: the credits in hand, and what the newest claim brings
abbrev pub purse : View → ℕ
purse v = v.hand.credits + brings (recs v.seen) v.hand.claims

-- what a put asks: with the record the world has the laws of what it names, a later suspension of a family is what the newest
-- claim makes next, a rotation stands on no family of another that isn't paid, and the credits in hand suffice for the units
-- that the record shows first
pub record Fits (v : View) (p : ℕ) (r : Rec) : Type 0 where
  pub laws : HasLaws (show v.seen p r (Unforced 0)) p r
  pub origin : has_origin p r ≡ true
  pub follows : (i : ℕ) → (family_of p r).1 ≡ suc i → newest_makes v.seen v.hand.claims (family_of p r).0 (suc i) r ≡ true
  pub settled : is_settled v.seen p r ≡ true
  pub paid : gain_at v.seen p r ≤ purse v

-- the record stands at the place. The units that it shows first, by what was seen, are paid from the hand
pub record Put (old new : View) (p : ℕ) (r : Rec) : Type 0 where
  pub grows : Grows old.seen new.seen
  pub words : KeepsWords old.hand old.seen new.seen
  pub here : recs new.seen p ≡ Some r
  pub hand : new.hand ≡ hand_put (recs old.seen) old.hand p r (gain_at old.seen p r)
  pub refusals : new.refusals ≡ old.refusals
  pub about : new.about ≡ old.about
  pub alone : old.about.alone ≡ true → (new.seen ≡ show old.seen p r (Unforced 0)) × (new.drawn ≡ old.drawn) × (new.named ≡ old.named)

-- ---- claims

-- the claim came into the hand. Where alone, nothing but the suspension's state has changed
pub record IsWon (old new : View) (s : Ref) : Type 0 where
  pub grows : Grows old.seen new.seen
  pub words : KeepsWords old.hand old.seen new.seen
  pub hand : new.hand ≡ hand_won (recs old.seen) old.hand s
  pub refusals : new.refusals ≡ old.refusals
  pub about : new.about ≡ old.about
  pub alone : old.about.alone ≡ true → SameRows old new × (new.drawn ≡ old.drawn) × (unforced new.seen + 1 ≡ unforced old.seen)
  pub shown : old.about.alone ≡ true → (r : Rec) × (g : ℕ) × (state_at old.seen s.0 ≡ Some (Unforced g)) × (new.seen ≡ show old.seen s.0 r (Claimed g))

-- the suspension is done already, with this place
pub record IsFoundDone (old new : View) (s place : ℕ) : Type 0 where
  pub quiet : Quiet old new
  pub steps : ℕ
  pub done : done_at new.seen s ≡ Some (place, steps)

-- another has the claim
pub record IsFoundClaimed (old new : View) (s : ℕ) : Type 0 where
  pub quiet : Quiet old new
  pub claimed : is_claimed_at new.seen s ≡ true

abbrev pub ClaimAnswer : View → View → Ref → Claim → Type 0
ClaimAnswer old new s answers.Won = IsWon old new s
ClaimAnswer old new s (answers.Done place) = IsFoundDone old new s.0 place.0
ClaimAnswer old new s answers.Busy = IsFoundClaimed old new s.0

-- what a completion asks of the place and the steps
abbrev pub MayComplete : World → ℕ → ℕ → ℕ → Type 0
MayComplete w s place steps = (r : Rec) → recs w s ≡ Some r → IsDoneWell w s r (place, steps)

-- the suspension is done with this place, and its claim left the hand
pub record Completed (old new : View) (s place steps : ℕ) : Type 0 where
  pub grows : Grows old.seen new.seen
  pub words : KeepsWords old.hand old.seen new.seen
  pub done : done_at new.seen s ≡ Some (place, steps)
  pub hand : new.hand ≡ hand_completed (recs old.seen) old.hand s
  pub refusals : new.refusals ≡ old.refusals
  pub about : new.about ≡ old.about
  pub alone : old.about.alone ≡ true → SameRows old new × (new.drawn ≡ old.drawn) × (unforced new.seen ≡ unforced old.seen)
  pub shown : old.about.alone ≡ true → (r : Rec) × (g : ℕ) × (state_at old.seen s ≡ Some (Claimed g)) × (new.seen ≡ show old.seen s r (Done (record { 0 = place }) steps g))

-- the claim left the hand, and the suspension's count of attempts given back rose by one, as far as it goes
pub record GivenUp (old new : View) (s : ℕ) : Type 0 where
  pub grows : Grows old.seen new.seen
  pub words : KeepsWords old.hand old.seen new.seen
  pub state : (g : ℕ) → state_at old.seen s ≡ Some (Claimed g) → state_at new.seen s ≡ Some (Unforced (min (g + 1) MOST_GIVEN_UP))
  pub hand : new.hand ≡ hand_given_up (recs old.seen) old.hand s
  pub refusals : new.refusals ≡ old.refusals
  pub about : new.about ≡ old.about
  pub alone : old.about.alone ≡ true → SameRows old new × (new.drawn ≡ old.drawn)
  pub shown : old.about.alone ≡ true → (r : Rec) × (g : ℕ) × (state_at old.seen s ≡ Some (Claimed g)) × (new.seen ≡ show old.seen s r (Unforced (min (g + 1) MOST_GIVEN_UP)))
