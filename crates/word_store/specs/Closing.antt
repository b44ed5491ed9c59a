-- A closed store.
use Rattle.std.specs.Prelude.{◌≡◌, ℕ, suc, ◌+◌, ◌*◌, ◌<◌, ◌≤◌, min, true, false, List, [], Some, None, length, sum_by, slice_index, slice_get}
use Rattle.heap_store.specs.World.{World, is_claimed_at, fixed_places}
use Rattle.heap_store.specs.Rows.{row_at, is_ended_at}
use Rattle.heap_store.specs.Growth.{Grows}
use Rattle.heap_store.specs.Hand.{contains}
use Rattle.heap_store.specs.Shared.{added}
use Rattle.heap_store.specs.Lawful.{IsLawful}
use Rattle.heap_store.specs.Legal.{IsLegal}
use Rattle.heap_store.specs.LookedAt.{HasRoots}
use Rattle.heap_store.specs.Budget.{IsFunded, IsInBudget, dues, direct_places, total_steps}
use Rattle.heap_store.specs.View.{published_count}
use Rattle.word_world.specs.Words.{world_of, places_of}
use Rattle.word_store.specs.declared.pass.Pass.{Pass}
use Rattle.word_store.specs.Rule.{AreTold}
use Rattle.word_store.specs.Passes.{view_of}

-- how many places and names were drawn, and the last world
pub record Last : Type 0 where
  pub places : ℕ
  pub names : ℕ
  pub world : World

-- what the words of a store tell
abbrev pub last_of : ℕ → ℕ → List ℕ → Last
last_of nodes rows ws = record { places = slice_index ws 0; names = slice_index ws 1; world = world_of nodes rows ws }

-- The last world is lawful, its rows are a legal history, what is done is paid for, and no suspension is claimed. The work is within
-- the dues of the begun rows, and the places within their own and eight for each step.
pub record IsLast (l : Last) : Type 0 where
  pub lawful : IsLawful l.world
  pub legal : IsLegal l.world
  pub roots : HasRoots l.world
  pub funded : IsFunded l.world
  pub unclaimed : (s : ℕ) → is_claimed_at l.world s ≡ false
  pub budget : IsInBudget (record { world = l.world; hands = []; plan = None })
  pub steps : total_steps l.world ≤ dues l.world
  pub places : published_count l.world ≤ fixed_places + l.places

-- It extends what each pass had seen, and each drawn name that no pass has in hand has a row that is ended. In a store with as many
-- nodes as its begun events may take no add was in vain: each drawn place is published. In another one what was added in vain is what
-- passes still had in hand and what some full rows wanted, each row taken once. A single caller adds and draws nothing in vain.
pub record IsClosing (nodes rows callers : ℕ) (passes : List Pass) (l : Last) : Type 0 where
  pub last : IsLast l
  pub all_places : length l.world.nodes ≡ places_of nodes
  pub all_rows : length l.world.rows ≡ rows
  pub seen : (j : ℕ) (p : Pass) → slice_get passes j ≡ Some p → Grows (view_of p).seen l.world
  pub ended : (i : ℕ) → i < min l.names rows → ((j : ℕ) (p : Pass) → slice_get passes j ≡ Some p → contains (view_of p).hand.names (suc i) ≡ false) → is_ended_at (row_at l.world) (suc i) ≡ true
  pub ended_drawn : (i : ℕ) → is_ended_at (row_at l.world) (suc i) ≡ true → i < l.names
  pub enough : direct_places l.world + 8 * dues l.world ≤ nodes → published_count l.world ≡ fixed_places + l.places
  pub vain : ℕ
  pub vain_rows : List ℕ
  pub drawn : published_count l.world + vain ≡ fixed_places + l.places
  pub told : AreTold l.world vain (sum_by (λ p. added (view_of p).hand.vain) passes) vain_rows
  pub calm : callers ≡ 1 → (vain ≡ 0) × (l.names ≤ rows)
