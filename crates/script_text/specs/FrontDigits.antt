-- The digits that bytes begin with, and what bytes are worth as digits.
use Rattle.std.specs.Prelude.{◌≡◌, ℕ, ◌≤◌, true, List, length, take, map, bit_xor}
use Rattle.std.specs.Int.Digits.{AllBelowBase}
use Rattle.std.specs.Char.{is_ascii_digit}
use Rattle.std.specs.List.{list_all}
use Rattle.std.specs.Str.Parse.{digits_value}
use Rattle.std.specs.Simd.Lanes.{number_l}

-- the value of a byte that is a digit, and at least 10 at any other
abbrev pub worth : ℕ → ℕ
worth b = bit_xor b 48

abbrev pub AreEightDigits : List ℕ → Type 0
AreEightDigits ds = (length ds ≡ 8) × AllBelowBase 10 ds

-- a number has the worths of eight bytes, the first of them lowest
pub record AreWorths (n : ℕ) (bytes : List ℕ) : Type 0 where
  pub eight : length bytes ≡ 8
  pub are_bytes : AllBelowBase 256 bytes
  pub is : n ≡ number_l 256 (map worth bytes)

-- bytes begin with so many digits, of one to ten, that write a number
pub record IsFront (bytes : List ℕ) (n count : ℕ) : Type 0 where
  pub some : 1 ≤ count
  pub few : count ≤ 10
  pub digits : list_all is_ascii_digit (take count bytes) ≡ true
  pub value : n ≡ digits_value 10 (take count bytes)
