-- What the slots of drawn places show.
use Rattle.std.specs.Prelude.{◌≡◌, ℕ, min, ⊤, List, Option, Some, None, map, option_map, slice_index_or, sum_by}
use Rattle.lazy_rec.specs.declared.records.Rec.{Rec}
use Rattle.lazy_rec.specs.Units.{steps}
use Rattle.lazy_rec.specs.declared.states.SuspState.{SuspState}
use Rattle.lazy_rec.specs.declared.states.SuspState.TheVariants as states
use Rattle.heap_store.specs.declared.nodes.Node.{Node}
use Rattle.heap_store.specs.declared.slots.Slot.{Slot}
use Rattle.heap_store.specs.declared.slots.SlotState.{SlotState}
use Rattle.heap_store.specs.declared.slots.SlotState.TheVariants as kept
use Rattle.heap_store.specs.Budget.{node_count_of}
use Rattle.heap_store.specs.Plain.{filled_up}

-- what the drawn places show, in order, and how many there is room for
pub record PlacesView : Type 0 where
  pub shown : List (Option Node)
  pub room : ℕ

-- the steps of a record, as a state has them: as many as 32 bits hold. No record that a store shows takes more
abbrev pub steps_told : Rec → ℕ
steps_told rec = min (steps rec) 4294967295

-- what is done took the steps that the record tells
abbrev pub HasStepsOf : Rec → SuspState → Type 0
HasStepsOf rec (states.Done _ taken _) = taken ≡ steps_told rec
HasStepsOf _ _ = ⊤

-- the state that a slot shows
abbrev pub state_in : Slot → Option SuspState
state_in slot = go slot.state
  where
    go : SlotState → Option SuspState
    go kept.Free = None
    go (kept.Unforced given_up) = Some (states.Unforced given_up)
    go (kept.Claimed given_up) = Some (states.Claimed given_up)
    go (kept.Done given_up place) = Some (states.Done place (steps_told slot.rec) given_up)

-- what a slot shows
abbrev pub node_in : Slot → Option Node
node_in slot = option_map (λ (s : SuspState). record { rec = slot.rec; state = s }) (state_in slot)

-- what so many drawn places show: those behind the last slot show nothing
abbrev pub shown_in : List Slot → ℕ → List (Option Node)
shown_in slots drawn = filled_up None drawn (map node_in slots)

abbrev pub at_place : List (Option Node) → ℕ → Option Node
at_place shown p = slice_index_or shown p None

-- how many of the drawn places are published
abbrev pub published_in : List (Option Node) → ℕ
published_in shown = sum_by node_count_of shown
