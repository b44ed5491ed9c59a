-- A store in which nothing is drawn, and the passes of its callers.
use Rattle.std.specs.Prelude.{ℕ, eqb, [], ◌∷◌, List, None, Some}
use Rattle.heap_store.specs.View.{View}
use Rattle.heap_store.specs.Plain.{plain_world, five_records, no_refusal}
use Rattle.word_world.specs.Words.{first_words}
use Rattle.word_store.specs.declared.sight.Sight.{Sight}
use Rattle.word_store.specs.Rule.{empty_hand}

-- what a seat with these callers' numbers has seen when the store was opened
abbrev pub opened_sight : ℕ → ℕ → ℕ → List ℕ → Sight
opened_sight nodes rows callers numbers = record {
  nodes = nodes;
  rows = rows;
  callers = callers;
  plan = None;
  numbers = numbers;
  words = first_words nodes rows;
  told = [];
  hand = empty_hand;
  wasted = 0;
}

-- the view of a caller's pass before its first step: the five fixed records stand, nothing is in hand, and it is alone exactly
-- where the store has one caller
abbrev pub opened_view : ℕ → ℕ → ℕ → ℕ → View
opened_view nodes rows callers caller = record {
  seen = plain_world nodes rows five_records [];
  hand = empty_hand;
  refusals = record { count = 0; last = no_refusal };
  drawn = 0;
  named = 0;
  about = record { capacity = nodes; rows = rows; alone = eqb callers 1; plan = None; caller = Some caller };
}

-- how a seat with the rights of several callers is cut in two: a new seat has those of the first one
abbrev pub first_number : List ℕ → List ℕ
first_number [] = []
first_number (c ∷ cs) = c ∷ []

abbrev pub other_numbers : List ℕ → List ℕ
other_numbers [] = []
other_numbers (c ∷ cs) = cs

abbrev pub without_first : Sight → Sight
without_first v = record v { numbers = other_numbers v.numbers }

abbrev pub with_first : Sight → Sight
with_first v = record v { numbers = first_number v.numbers }
