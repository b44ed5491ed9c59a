-- States of suspensions, and the word that shows one.
use Rattle.std.specs.Prelude.{ℕ, Bool, true, false, Option, Some, None, List, [], ◌∷◌}
use Rattle.std.specs.List.{list_all}
use Rattle.lazy_rec.specs.declared.states.SuspState.{SuspState}
use Rattle.lazy_rec.specs.declared.states.SuspState.TheVariants.{Unforced, Claimed, Done}
use Rattle.lazy_rec.specs.Packed.{Field, number, fits_field}

abbrev pub is_unforced : SuspState → Bool
is_unforced (Unforced _) = true
is_unforced _ = false

abbrev pub is_claimed : SuspState → Bool
is_claimed (Claimed _) = true
is_claimed _ = false

-- the place and the steps that a Done state keeps
abbrev pub kept : SuspState → Option (ℕ × ℕ)
kept (Done place steps _) = Some (place.0, steps)
kept _ = None

-- how many attempts were given back, as far as the count goes
abbrev pub given_up : SuspState → ℕ
given_up (Unforced k) = k
given_up (Claimed k) = k
given_up (Done _ _ k) = k

-- bits 0 and 1 tell the state, bits 2 to 17 the attempts given back, bits 18 to 39 the steps, bits 40 to 61 the place
abbrev pub state_fields : SuspState → List Field
state_fields (Unforced k) = (2, 0) ∷ (16, k) ∷ []
state_fields (Claimed k) = (2, 1) ∷ (16, k) ∷ []
state_fields (Done place steps k) = (2, 3) ∷ (16, k) ∷ (22, steps) ∷ (22, place.0) ∷ []

abbrev pub state_in_range : SuspState → Bool
state_in_range s = list_all fits_field (state_fields s)

abbrev pub state_word : SuspState → ℕ
state_word s = number (state_fields s)
