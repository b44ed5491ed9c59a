-- The binary digits of a number below 2 ^ 64.
use Rattle.std.specs.Prelude.{ℕ, zero, suc, ◌-◌, ◌/◌, ◌%◌, Bool, true, false, eqb, List, [], ◌∷◌, length}

-- the digits from the lowest up, without leading zeros, at most so many
abbrev pub digits : ℕ → ℕ → List Bool
digits zero n = []
digits (suc most) zero = []
digits (suc most) (suc n) = eqb (suc n % 2) 1 ∷ digits most (suc n / 2)

-- how many digits 1 a list begins with
abbrev pub leading_true : List Bool → ℕ
leading_true [] = 0
leading_true (true ∷ ds) = suc (leading_true ds)
leading_true (false ∷ ds) = 0

-- how many digits 1 a list has
abbrev pub count_true : List Bool → ℕ
count_true [] = 0
count_true (true ∷ ds) = suc (count_true ds)
count_true (false ∷ ds) = count_true ds

unfoldable pub binary : ℕ → List Bool
binary n = digits 64 n

-- the number of binary digits, 0 for the number 0
abbrev pub bits : ℕ → ℕ
bits n = length (binary n)

-- the number of digits 1
abbrev pub ones : ℕ → ℕ
ones n = count_true (binary n)

-- the number of digits 0
abbrev pub zeros : ℕ → ℕ
zeros n = bits n - ones n

-- the number of digits 1 at the low end, before the first 0
abbrev pub trailing_ones : ℕ → ℕ
trailing_ones n = leading_true (binary n)
