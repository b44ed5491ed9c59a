-- What the rule means for who uses a store.
use Rattle.std.specs.Prelude.{◌≡◌, ◌≢◌, ℕ, ◌+◌, ◌*◌, ◌<◌, ◌≤◌, List, true, false, Some, length, sum_by, is_some, slice_index}
use mathlib.Core.Option.{some}
use lib.ListN.{get_elem?}
use Rattle.atomic_table.specs.Table.{State}
use Rattle.lazy_rec.specs.declared.states.SuspState.{SuspState}
use Rattle.lazy_rec.specs.States.{kept}
use Rattle.heap_store.specs.World.{state_at, is_done}
use Rattle.heap_store.specs.Hand.{Hand, holds_claim}
use Rattle.heap_store.specs.Shared.{added}
use Rattle.heap_store.specs.Budget.{dues, direct_places, taken_steps, places_given}
use Rattle.word_store.specs.declared.sight.Sight.{Sight}
use Rattle.word_store.specs.declared.sight.Size.{Size}
use Rattle.word_store.specs.Rule.{AreTold, IsKept, shows, seen_by, running, hands_of}

-- what a seat has seen done is done
abbrev pub DoneStays : Type 0
DoneStays = (k : Size) (s : State ℕ Sight) → IsKept k s → (j : ℕ) (v : Sight) → get_elem? s.views j ≡ some v → 0 < length v.numbers
    → (p : ℕ) (state : SuspState) → state_at (seen_by v) p ≡ Some state → is_some (kept state) ≡ true → state_at (shows k s.words) p ≡ Some state

-- a claim is in one hand
abbrev pub ClaimsAreOnce : Type 0
ClaimsAreOnce = (k : Size) (s : State ℕ Sight) → IsKept k s → (i j : ℕ) (u v : Sight) → i ≢ j → get_elem? s.views i ≡ some u → get_elem? s.views j ≡ some v
    → (p : ℕ) → holds_claim u.hand p ≡ true → holds_claim v.hand p ≡ false

-- that of a done suspension in none
abbrev pub DoneIsUnclaimed : Type 0
DoneIsUnclaimed = (k : Size) (s : State ℕ Sight) → IsKept k s → (j : ℕ) (v : Sight) → get_elem? s.views j ≡ some v
    → (p : ℕ) → is_done (shows k s.words) p ≡ true → holds_claim v.hand p ≡ false

abbrev pub WorkIsDue : Type 0
WorkIsDue = (k : Size) (s : State ℕ Sight) → IsKept k s → taken_steps (shows k s.words) ≤ dues (shows k s.words)

abbrev pub PlacesAreDue : Type 0
PlacesAreDue = (k : Size) (s : State ℕ Sight) → IsKept k s
    → places_given (running k s.words s.views) + sum_by (λ (h : Hand). h.allowance) (hands_of s.views) ≤ direct_places (shows k s.words) + 8 * dues (shows k s.words)

-- after an add in vain the store has fewer nodes than its begun events may take
abbrev pub VainIsShort : Type 0
VainIsShort = (k : Size) (s : State ℕ Sight) → IsKept k s → (j : ℕ) (v : Sight) → get_elem? s.views j ≡ some v
    → 0 < v.wasted → k.nodes < direct_places (shows k s.words) + 8 * dues (shows k s.words)

-- The number of drawn places has those that are published or reserved, and what was added in vain. Of that some stands in hands, and the
-- rest is what some full rows wanted, each row taken once
abbrev pub VainIsTold : Type 0
VainIsTold = (k : Size) (s : State ℕ Sight) → IsKept k s
    → (vain : ℕ) × (rows : List ℕ) × (slice_index s.words 0 ≡ places_given (running k s.words s.views) + vain) × AreTold (shows k s.words) vain (sum_by (λ (h : Hand). added h.vain) (hands_of s.views)) rows

-- where it has as many, what is drawn and may yet be reserved is within it
abbrev pub RoomIsEnough : Type 0
RoomIsEnough = (k : Size) (s : State ℕ Sight) → IsKept k s → direct_places (shows k s.words) + 8 * dues (shows k s.words) ≤ k.nodes
    → slice_index s.words 0 + sum_by (λ (h : Hand). h.allowance) (hands_of s.views) ≤ k.nodes
