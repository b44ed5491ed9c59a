-- What a seat may rely on: what it has seen is lawful, and agrees with what it has in hand.
use Rattle.std.specs.Prelude.{◌≡◌, ℕ, suc, ◌+◌, ◌<◌, ◌≤◌, min, true, false, List, [], ◌∷◌, length, is_some, slice_index}
use Rattle.lazy_rec.specs.declared.limits.TheConstants.{MOST_DRAWN, MOST_EVENTS, MOST_NODES}
use Rattle.heap_store.specs.World.{is_claimed_at, fixed_places}
use Rattle.heap_store.specs.Rows.{row_at, is_ended_at}
use Rattle.heap_store.specs.Hand.{IsLawfulHand, contains, holds_claim}
use Rattle.heap_store.specs.Shared.{added}
use Rattle.heap_store.specs.Budget.{IsInBudget, room_of}
use Rattle.heap_store.specs.View.{published_count}
use Rattle.word_world.specs.Words.{places_of, word_count}
use Rattle.word_world.specs.LawfulWords.{IsLawfulWords}
use Rattle.word_store.specs.declared.sight.Sight.{Sight}
use Rattle.word_store.specs.Rule.{AreTold, seen_by, works_on_names, KnowsRows}

-- the seat of a store with one caller has all that is drawn, claimed and named, and nothing was added in vain
pub record IsAlone (v : Sight) : Type 0 where
  pub drawn : published_count (seen_by v) + length v.hand.reserved ≡ fixed_places + slice_index v.words 0
  pub room : slice_index v.words 0 ≤ v.nodes
  pub claims : (s : ℕ) → is_claimed_at (seen_by v) s ≡ true → holds_claim v.hand s ≡ true
  pub rows : slice_index v.words 1 ≤ v.rows
  pub names : (i : ℕ) → i < slice_index v.words 1 → is_ended_at (row_at (seen_by v)) (suc i) ≡ false → contains v.hand.names (suc i) ≡ true
  pub vain : is_some v.hand.vain ≡ false
  pub budget : IsInBudget (record { world = seen_by v; hands = v.hand ∷ []; plan = v.plan })

-- the seat of all callers has all that is given, claimed and named, the budget is kept with its hand alone, and it has added in
-- vain only where the store is smaller than what its begun events may take. What was added in vain is what its hand has of it, and
-- what some full rows wanted
pub record IsWhole (v : Sight) : Type 0 where
  pub drawn : published_count (seen_by v) + length v.hand.reserved + v.wasted ≡ fixed_places + slice_index v.words 0
  pub claims : (s : ℕ) → is_claimed_at (seen_by v) s ≡ true → holds_claim v.hand s ≡ true
  pub names : (i : ℕ) → i < min (slice_index v.words 1) v.rows → is_ended_at (row_at (seen_by v)) (suc i) ≡ false → contains v.hand.names (suc i) ≡ true
  pub budget : IsInBudget (record { world = seen_by v; hands = v.hand ∷ []; plan = v.plan })
  pub short : 0 < v.wasted → v.nodes < room_of (seen_by v)
  pub vain_rows : List ℕ
  pub told : AreTold (seen_by v) v.wasted (added v.hand.vain) vain_rows

pub record IsSound (v : Sight) : Type 0 where
  pub small : (v.nodes ≤ MOST_NODES) × (v.rows ≤ MOST_EVENTS)
  pub wide : length v.words ≡ word_count v.nodes v.rows
  pub well : IsLawfulWords v.nodes v.rows v.plan v.words
  pub hand : IsLawfulHand (seen_by v) v.hand
  pub works : works_on_names v.hand ≡ true
  pub mine : KnowsRows (seen_by v) v.numbers v.hand
  pub reserved_low : (p : ℕ) → contains v.hand.reserved p ≡ true → (fixed_places ≤ p) × (p < places_of v.nodes)
  pub names_low : (i : ℕ) → contains v.hand.names (suc i) ≡ true → (i < v.rows) × (i < slice_index v.words 1)
  pub told : v.told ≡ []
  pub low : slice_index v.words 0 ≤ MOST_DRAWN
  pub vain : is_some v.hand.vain ≡ true → v.nodes < slice_index v.words 0
  pub alone : v.callers ≡ 1 → IsAlone v
