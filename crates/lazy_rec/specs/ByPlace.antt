-- Recursion on numbers: what is said of a number is made from what is said of the lower ones. Places of a store and names
-- of events are such numbers, since each record names lower places and each event smaller names.
use Rattle.std.specs.Prelude.{ℕ, zero, suc, true, false, eqb}

-- what the step makes of each number below the second one, and the default at the others. The cases are an `elim`, which
-- leaves the branch that isn't taken alone
abbrev pub below : {X : Type 0} → X → ((ℕ → X) → ℕ → X) → ℕ → ℕ → X
below d step zero p = d
below d step (suc n) p = elim (eqb p n) [ true ↦ step (below d step n) n | false ↦ below d step n p ]

-- what the step makes of the number, from the lower ones
unfoldable pub by_place : {X : Type 0} → X → ((ℕ → X) → ℕ → X) → ℕ → X
by_place d step p = step (below d step p) p
