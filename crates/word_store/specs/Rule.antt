-- The rule of a store: what is true of its words and of all its seats between any two steps.
use Rattle.std.specs.Prelude.{◌≡◌, ℕ, suc, ◌+◌, ◌*◌, ◌<◌, ◌≤◌, ltb, Bool, true, false, cond, min, List, [], Option, Some, None, length, map, sum_by, is_some, slice_index, ◌&&◌}
use Rattle.std.specs.List.{list_all}
use mathlib.Core.Option.{some}
use lib.ListN.{get_elem?}
use Rattle.atomic_table.specs.Table.{State}
use Rattle.lazy_rec.specs.declared.events.Event.{Event}
use Rattle.lazy_rec.specs.declared.limits.TheConstants.{MOST_CALLERS, MOST_EVENTS, MOST_NODES}
use Rattle.heap_store.specs.declared.claims.OpenRow.{OpenRow}
use Rattle.heap_store.specs.World.{World, recs, is_published, is_claimed_at, fixed_places}
use Rattle.heap_store.specs.Rows.{Row, row_at, is_ended_at}
use Rattle.heap_store.specs.Growth.{Grows}
use Rattle.heap_store.specs.Hand.{Hand, IsLawfulHand, contains, all_distinct, holds_claim, places_from}
use Rattle.heap_store.specs.Shared.{one_if, added, refusal_at}
use Rattle.heap_store.specs.Budget.{Running, IsBalanced, room_of}
use Rattle.word_world.specs.Words.{world_of, word_count, first_words, state_word_at, record_word_at, row_word_at}
use Rattle.word_world.specs.LawfulWords.{IsLawfulWords}
use Rattle.word_store.specs.declared.sight.Sight.{Sight}
use Rattle.word_store.specs.declared.sight.Size.{Size}

-- the plan that the rows of a store follow. (Today a store is opened without one.)
abbrev pub plan_of : Size → Option (List Event)
plan_of k = None

-- the world that words show, and the one that a seat has seen
abbrev pub shows : Size → List ℕ → World
shows k ws = world_of k.nodes k.rows ws

abbrev pub seen_by : Sight → World
seen_by v = world_of v.nodes v.rows v.words

abbrev pub is_none_told : List (ℕ × ℕ × List ℕ) → Bool
is_none_told [] = true
is_none_told _ = false

-- ---- a seat

-- nothing in hand
abbrev pub empty_hand : Hand
empty_hand = record { claims = []; reserved = []; names = []; open_rows = []; mine = []; vain = None; credits = 0; allowance = 0 }

-- all rows of its callers' numbers are known to a hand
abbrev pub KnowsRows : World → List ℕ → Hand → Type 0
KnowsRows w numbers h = (i : ℕ) (r : Row) → row_at w i ≡ Some r → contains numbers r.caller ≡ true → contains h.mine i ≡ true

-- the rows that a hand works on have names in it
abbrev pub works_on_names : Hand → Bool
works_on_names h = list_all (λ (o : OpenRow). contains h.names o.name) h.open_rows

-- what a seat has seen and has in hand, beside the words as they are
pub record IsSeat (k : Size) (ws : List ℕ) (v : Sight) : Type 0 where
  pub size : 0 < length v.numbers → (v.nodes ≡ k.nodes) × (v.rows ≡ k.rows) × (v.callers ≡ k.callers) × (v.plan ≡ (plan_of k))
  pub numbers_once : all_distinct v.numbers ≡ true
  pub wide : 0 < length v.numbers → length v.words ≡ word_count k.nodes k.rows
  -- the world extends what it has seen
  pub seen : Grows (shows k v.words) (shows k ws)
  pub told : (j : ℕ) (t : ℕ × ℕ × List ℕ) → get_elem? v.told j ≡ some t → Grows (world_of t.0 t.1 t.2) (shows k ws)
  pub places_up : slice_index v.words 0 ≤ slice_index ws 0
  pub names_up : slice_index v.words 1 ≤ slice_index ws 1
  -- a seat of all callers sees each step, and one of none has nothing in hand
  pub exact : length v.numbers ≡ k.callers → v.told ≡ [] → v.words ≡ ws
  pub idle : v.numbers ≡ [] → v.hand ≡ empty_hand
  -- its hand agrees with the world
  pub hand : IsLawfulHand (shows k ws) v.hand
  pub works : works_on_names v.hand ≡ true
  pub mine : KnowsRows (shows k ws) v.numbers v.hand
  -- what is in hand stands as it was seen
  pub records : v.told ≡ [] → (p j : ℕ) → contains v.hand.reserved p ≡ true → j < 4 → slice_index v.words (record_word_at p j) ≡ slice_index ws (record_word_at p j)
  pub states : v.told ≡ [] → (p : ℕ) → holds_claim v.hand p ≡ true → slice_index v.words (state_word_at p) ≡ slice_index ws (state_word_at p)
  pub row_words : v.told ≡ [] → (i j : ℕ) → contains v.hand.names (suc i) ≡ true → j < 8 → slice_index v.words (row_word_at k.nodes i j) ≡ slice_index ws (row_word_at k.nodes i j)
  -- each of its callers adds in vain once, and sees afterwards that the store is full
  pub seen_full : v.told ≡ [] → 0 < v.wasted → k.nodes < slice_index v.words 0
  pub wasted_most : v.wasted ≤ MOST_NODES * length v.numbers
  pub vain : is_some v.hand.vain ≡ true → 0 < v.wasted

-- ---- the store

-- how often the callers of a seat may yet draw a name in vain: no more once they have seen that none is left
abbrev pub may_draw : ℕ → Sight → ℕ
may_draw rows v = cond (is_none_told v.told && ltb (slice_index v.words 1) rows) (length v.numbers) 0

-- how many seats pass a test
abbrev pub seat_count : (Sight → Bool) → List Sight → ℕ
seat_count test views = sum_by (λ v. one_if (test v)) views

abbrev pub hands_of : List Sight → List Hand
hands_of views = map (λ (v : Sight). v.hand) views

-- so much was added in vain, of which so much stands in hands. The rest is what some full rows wanted, each row taken once
pub record AreTold (w : World) (vain held : ℕ) (rows : List ℕ) : Type 0 where
  pub once : all_distinct rows ≡ true
  pub full : (i : ℕ) → contains rows i ≡ true → is_some (refusal_at w i) ≡ true
  pub sum : vain ≡ held + sum_by (λ i. added (refusal_at w i)) rows

-- the world with all hands
abbrev pub running : Size → List ℕ → List Sight → Running
running k ws views = record { world = shows k ws; hands = hands_of views; plan = (plan_of k) }

abbrev pub IsSmall : Size → Type 0
IsSmall k = (k.nodes ≤ MOST_NODES) × (k.rows ≤ MOST_EVENTS) × (1 ≤ k.callers) × (k.callers ≤ MOST_CALLERS)

-- The words show a lawful world that extends what each seat has seen, each thing in hand is in exactly one hand, and the budget
-- is balanced over all hands.
pub record IsKept (k : Size) (s : State ℕ Sight) : Type 0 where
  pub small : IsSmall k
  pub wide : length s.words ≡ word_count k.nodes k.rows
  pub well : IsLawfulWords k.nodes k.rows (plan_of k) s.words
  pub seats : (j : ℕ) (v : Sight) → get_elem? s.views j ≡ some v → IsSeat k s.words v
  -- each caller's rights are in one seat
  pub callers : sum_by (λ (v : Sight). length v.numbers) s.views ≡ k.callers
  pub callers_once : (c : ℕ) → seat_count (λ v. contains v.numbers c) s.views ≤ 1
  -- a claimed suspension, a given place that isn't published, and a drawn name that isn't ended are in exactly one hand
  pub given : ℕ
  pub claims : (p : ℕ) → seat_count (λ v. holds_claim v.hand p) s.views ≡ one_if (is_claimed_at (shows k s.words) p)
  pub places : (p : ℕ) → seat_count (λ v. contains v.hand.reserved p) s.views + one_if (is_published (recs (shows k s.words)) p) ≡ one_if (ltb p (fixed_places + given))
  pub names : (i : ℕ) → seat_count (λ v. contains v.hand.names (suc i)) s.views + one_if (is_ended_at (row_at (shows k s.words)) (suc i)) ≡ one_if (ltb i (min (slice_index s.words 1) k.rows))
  -- the number of drawn places has what was given and what was added in vain. After an add in vain no reserve succeeds
  pub room : given ≤ k.nodes
  pub drawn : slice_index s.words 0 ≡ given + sum_by (λ (v : Sight). v.wasted) s.views
  pub full : 0 < sum_by (λ (v : Sight). v.wasted) s.views → k.nodes < slice_index s.words 0
  -- something was added in vain only where the store is smaller than what its begun events may take
  pub short : 0 < sum_by (λ (v : Sight). v.wasted) s.views → k.nodes < room_of (shows k s.words)
  -- what was added in vain is what hands have of it, and what some full rows wanted
  pub vain_rows : List ℕ
  pub told : AreTold (shows k s.words) (sum_by (λ (v : Sight). v.wasted) s.views) (sum_by (λ (v : Sight). added v.hand.vain) s.views) vain_rows
  -- each caller draws a name in vain at most once
  pub few : k.rows < slice_index s.words 1 → slice_index s.words 1 + sum_by (may_draw k.rows) s.views ≤ k.rows + k.callers
  -- a single caller draws nothing in vain
  pub calm : k.callers ≡ 1 → (sum_by (λ (v : Sight). v.wasted) s.views ≡ 0) × (slice_index s.words 1 ≤ k.rows)
  -- what the dues and the completions brought is discharged, in a hand, or was lost
  pub lost : ℕ
  pub balance : IsBalanced (running k s.words s.views) lost

-- ---- the first seat

-- it has seen a store in which nothing is drawn, and has the rights of all callers
abbrev pub first_sight : Size → Sight
first_sight k = record {
  nodes = k.nodes;
  rows = k.rows;
  callers = k.callers;
  plan = (plan_of k);
  numbers = places_from 0 k.callers;
  words = first_words k.nodes k.rows;
  told = [];
  hand = empty_hand;
  wasted = 0;
}
