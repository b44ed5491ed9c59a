-- The words of a store, and the world that they show: the number of drawn places, the number of drawn names, for each place a
-- state word and four record words, and eight words for each row.
use Rattle.std.specs.Prelude.{ℕ, zero, suc, ◌+◌, ◌*◌, ◌/◌, ◌%◌, eqb, cond, Option, Some, None, List, [], ◌∷◌, replicate, slice_index}
use Rattle.lazy_rec.specs.declared.states.SuspState.{SuspState}
use Rattle.lazy_rec.specs.declared.states.SuspState.TheVariants.{Unforced, Claimed, Done}
use Rattle.lazy_rec.specs.Shown.{shown}
use Rattle.heap_store.specs.declared.nodes.Node.{Node}
use Rattle.heap_store.specs.World.{World, fixed_places}

-- ---- where each word stands

-- the fixed places, and those that can be drawn
abbrev pub places_of : ℕ → ℕ
places_of nodes = fixed_places + nodes

abbrev pub state_word_at : ℕ → ℕ
state_word_at p = 2 + 5 * p

abbrev pub record_word_at : ℕ → ℕ → ℕ
record_word_at p j = 3 + 5 * p + j

-- word j of row i, which has the name i + 1. The rows stand behind all places
abbrev pub row_word_at : ℕ → ℕ → ℕ → ℕ
row_word_at nodes i j = 2 + 5 * places_of nodes + 8 * i + j

abbrev pub word_count : ℕ → ℕ → ℕ
word_count nodes rows = 2 + 5 * places_of nodes + 8 * rows

-- ---- what the words show

-- what a function makes of so many numbers, from p on
abbrev pub tabulate : {X : Type 0} → (ℕ → X) → ℕ → ℕ → List X
tabulate f p zero = []
tabulate f p (suc n) = f p ∷ tabulate f (suc p) n

abbrev pub record_words : List ℕ → ℕ → List ℕ
record_words ws p = slice_index ws (record_word_at p 0) ∷ slice_index ws (record_word_at p 1) ∷ slice_index ws (record_word_at p 2) ∷ slice_index ws (record_word_at p 3) ∷ []

-- bits 0 and 1 tell the state, bits 2 to 17 the attempts given back, bits 18 to 39 the steps, bits 40 to 61 the place
unfoldable pub state_of_word : ℕ → SuspState
state_of_word n = cond (eqb (n % 4) 0) (Unforced (n / 4 % 65536)) (cond (eqb (n % 4) 1) (Claimed (n / 4 % 65536)) (Done (record { 0 = n / 1099511627776 % 4194304 }) (n / 262144 % 4194304) (n / 4 % 65536)))

-- a place shows nothing until its first record word is stored
unfoldable pub node_of_words : List ℕ → ℕ → Option Node
node_of_words ws p = cond (eqb (slice_index ws (record_word_at p 0)) 0) None (Some (record { rec = shown (record_words ws p); state = state_of_word (slice_index ws (state_word_at p)) }))

abbrev pub row_words : ℕ → List ℕ → ℕ → List ℕ
row_words nodes ws i = tabulate (λ j. slice_index ws (row_word_at nodes i j)) 0 8

abbrev pub world_of : ℕ → ℕ → List ℕ → World
world_of nodes rows ws = record { nodes = tabulate (node_of_words ws) 0 (places_of nodes); rows = tabulate (row_words nodes ws) 0 rows }

-- ---- a store in which nothing is drawn

-- the five fixed records, and 0 in all other words
abbrev pub first_words : ℕ → ℕ → List ℕ
first_words nodes rows = 0 ∷ 0 ∷ 0 ∷ 1 ∷ 0 ∷ 0 ∷ 0 ∷ 0 ∷ 3 ∷ 0 ∷ 0 ∷ 0 ∷ 0 ∷ 9 ∷ 0 ∷ 0 ∷ 0 ∷ 0 ∷ 12 ∷ 0 ∷ 0 ∷ 0 ∷ 0 ∷ 14 ∷ 0 ∷ 0 ∷ 0 ∷ replicate (5 * nodes + 8 * rows) 0
