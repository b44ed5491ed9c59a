-- A running world and all the hands that work on it: each thing in hand is in exactly one hand, and two counters say how many
-- places and names were drawn. What one heap has seen lacks the other hands, so this is said of the actual world alone. It is
-- proved of a store in which nothing is drawn; no contract names it before a store is shared.
use Rattle.std.specs.Prelude.{◌≡◌, ◌≢◌, ℕ, ◌+◌, ◌*◌, ◌<◌, ◌≤◌, leb, ltb, min, Bool, true, cond, ◌&&◌, Option, Some, None, List, [], ◌∷◌, ◌++◌, length, map, sum_by, is_some, option_and_then}
use Rattle.std.specs.List.{AllByRecursion, list_all}
use Rattle.lazy_rec.specs.declared.events.Event.{Event}
use Rattle.lazy_rec.specs.declared.limits.TheConstants.{MOST_CALLERS, MOST_NODES}
use Rattle.lazy_rec.specs.Tests.{is_some_and}
use Rattle.lazy_rec.specs.History.{event_of}
use Rattle.heap_store.specs.declared.claims.Full.{Full}
use Rattle.heap_store.specs.World.{World, is_claimed_at, recs, is_published, fixed_places}
use Rattle.heap_store.specs.Rows.{Row, Ending, full, row_at, word_at, is_ended_at}
use Rattle.heap_store.specs.Legal.{FollowsPlan}
use Rattle.heap_store.specs.Hand.{Hand, IsLawfulHand, holds_claim, contains, all_distinct}
use Rattle.heap_store.specs.Budget.{Running}

abbrev pub one_if : Bool → ℕ
one_if b = cond b 1 0

-- how many hands pass a test
abbrev pub hand_count : (Hand → Bool) → Running → ℕ
hand_count test g = sum_by (λ (h : Hand). one_if (test h)) g.hands

-- ---- what was drawn

-- the numbers of the counters of places and of names; how many places reserves have given; and the names of the full rows that
-- tell of an add to the first counter in vain
pub record Counters : Type 0 where
  pub places : ℕ
  pub names : ℕ
  pub given : ℕ
  pub vain_rows : List ℕ

-- one of the fixed places, or one that a reserve has given
abbrev pub is_given : Counters → ℕ → Bool
is_given c p = ltb p (fixed_places + c.given)

-- a drawn name that has a row. The counter of names may stand above the number of rows
abbrev pub is_drawn : Counters → World → ℕ → Bool
is_drawn c w name = leb 1 name && leb name (min c.names (length w.rows))

-- ---- adds in vain

-- the refusal that a row tells of
abbrev pub refusal_of : Ending → Option Full
refusal_of (full drawn wanted) = Some (record { drawn = drawn; wanted = wanted })
refusal_of _ = None

abbrev pub refusal_at : World → ℕ → Option Full
refusal_at w name = option_and_then (λ (r : Row). refusal_of r.ending) (row_at w name)

-- the number that was added in vain, 0 where none was
abbrev pub added : Option Full → ℕ
added None = 0
added (Some f) = f.wanted

-- all numbers that were added in vain: those that stand in hands yet, and those that rows tell of
abbrev pub added_in_vain : Counters → Running → ℕ
added_in_vain c g = sum_by (λ (h : Hand). added h.vain) g.hands + sum_by (λ name. added (refusal_at g.world name)) c.vain_rows

-- an add in vain is in the counter's number, and wanted no more places than the store has
abbrev pub is_counted : ℕ → Counters → Full → Bool
is_counted capacity c f = leb (f.drawn + f.wanted) c.places && leb f.wanted capacity

-- ---- the plan

-- words 1 and 2 of a row are those of an event, as far as they are stored
pub record HasWords (w : World) (name : ℕ) (e : Event) : Type 0 where
  pub bases : word_at w name 1 ≢ 0 → word_at w name 1 ≡ e.base + 4294967296 * e.other
  pub arg : word_at w name 2 ≢ 0 → word_at w name 2 ≡ e.arg

-- ---- callers

abbrev pub is_caller : ℕ → Bool
is_caller i = ltb i MOST_CALLERS

-- a hand knows all rows of its caller's number, and the rows of its names have this number
pub record KnowsItsRows (w : World) (caller : ℕ) (h : Hand) : Type 0 where
  pub all : (i : ℕ) (r : Row) → row_at w i ≡ Some r → r.caller ≡ caller → contains h.mine i ≡ true
  pub own : (i : ℕ) (r : Row) → row_at w i ≡ Some r → contains h.names i ≡ true → r.caller ≡ caller

-- each hand, in order, has a caller's number
abbrev pub KnowTheirRows : World → List ℕ → List Hand → Type 0
KnowTheirRows w [] [] = Unit {0}
KnowTheirRows w (caller ∷ callers) (h ∷ hs) = KnowsItsRows w caller h × KnowTheirRows w callers hs
KnowTheirRows w _ _ = ⊥

abbrev pub caller_at : World → ℕ → ℕ
caller_at w name = elim (row_at w name) [ None ↦ 0 | Some r ↦ r.caller ]

-- the callers whose hands have numbers of an add in vain
abbrev pub vain_callers : List ℕ → List Hand → List ℕ
vain_callers (caller ∷ callers) (h ∷ hs) = cond (is_some h.vain) (caller ∷ vain_callers callers hs) (vain_callers callers hs)
vain_callers _ _ = []

-- all callers that added in vain: those, and the callers of the rows that tell of it
abbrev pub adders : List ℕ → Counters → Running → List ℕ
adders callers c g = vain_callers callers g.hands ++ map (caller_at g.world) c.vain_rows

-- ---- a shared store

-- a store of so many places, with the callers' numbers of its hands
pub record IsShared (capacity : ℕ) (callers : List ℕ) (c : Counters) (g : Running) : Type 0 where
  -- each hand agrees with the world, and has a caller's number of its own
  pub hands : AllByRecursion (IsLawfulHand g.world) g.hands
  pub mine : KnowTheirRows g.world callers g.hands
  pub callers_once : all_distinct callers ≡ true
  pub callers_few : list_all is_caller callers ≡ true
  -- a claimed suspension, a given place that isn't published, and a drawn name that isn't ended are in exactly one hand
  pub claims : (s : ℕ) → hand_count (λ h. holds_claim h s) g ≡ one_if (is_claimed_at g.world s)
  pub places : (p : ℕ) → hand_count (λ h. contains h.reserved p) g + one_if (is_published (recs g.world) p) ≡ one_if (is_given c p)
  pub names : (i : ℕ) → hand_count (λ h. contains h.names i) g + one_if (is_ended_at (row_at g.world) i) ≡ one_if (is_drawn c g.world i)
  -- a row that has a word has a drawn name
  pub rows : (i j : ℕ) → word_at g.world i j ≢ 0 → is_drawn c g.world i ≡ true
  -- the rows follow the plan, and so do those that aren't begun yet
  pub plan : FollowsPlan g.plan (row_at g.world)
  pub plan_words : (events : List Event) → g.plan ≡ Some events → (i : ℕ) (e : Event) → event_of events i ≡ Some e → HasWords g.world i e
  -- the counter of places has what was given and what was added in vain. An add in vain leaves it above the capacity, so that
  -- from then on each reserve is refused
  pub small : capacity ≤ MOST_NODES
  pub room : c.given ≤ capacity
  pub counted : c.places ≡ c.given + added_in_vain c g
  pub refused : 1 ≤ added_in_vain c g → capacity < c.places
  -- what stands in hands and in rows of adds in vain. No row tells of a number that the counter hasn't reached
  pub vain_hands : AllByRecursion (λ (h : Hand). (f : Full) → h.vain ≡ Some f → is_counted capacity c f ≡ true) g.hands
  pub vain_rows : (i : ℕ) → contains c.vain_rows i ≡ true → is_some_and (is_counted capacity c) (refusal_at g.world i) ≡ true
  pub full_rows : (i : ℕ) (f : Full) → refusal_at g.world i ≡ Some f → f.drawn ≤ c.places
  -- each caller has added in vain at most once, so the counter never passes `MOST_DRAWN`
  pub adders_once : all_distinct (adders callers c g) ≡ true
  pub adders_few : list_all is_caller (adders callers c g) ≡ true
