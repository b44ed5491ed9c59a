-- Digits that are read one after another, and tested as they are read.
use Rattle.std.proofs.Common.{◌≡◌, ℕ, ◌+◌, ◌-◌, ◌*◌, ◌^◌, ◌%◌, ◌≤◌, ◌<◌, true, lit<, List, length, get_or, take, refl, arith}
use Rattle.std.specs.List.{list_all}
use Rattle.std.specs.Char.{is_ascii_digit}
use Rattle.std.specs.Str.Parse.{digits_value}
use Rattle.std.proofs.lemmas.List.Folds.{list_all_more}
use Rattle.std.proofs.lemmas.Int.Digits.{digits_value_more, digits_value-lt}
use Rattle.std.proofs.lemmas.Bool.{le-leb}
use Rattle.std.proofs.Math.Nat.{pow-le-pow_right}
use Rattle.std.proofs.lemmas.List.{length-take}
use Rattle.script_text.proofs.Cuts.{digit_read, all_digits}

-- one more digit
pub record IsDigitMore (ds : List ℕ) (i v : ℕ) : Type 0 where
  pub low : 48 ≤ get_or ds i 0
  pub high : get_or ds i 0 ≤ 57
  pub value : v * 10 + (get_or ds i 0 - 48) ≡ digits_value 10 (take (i + 1) ds)
  pub small : v * 10 + (get_or ds i 0 - 48) < 10000000000
  pub all : list_all is_ascii_digit (take (i + 1) ds) ≡ true

pub digit_more : (ds : List ℕ) (i v : ℕ) → list_all is_ascii_digit (take i ds) ≡ true → is_ascii_digit (get_or ds i 0) ≡ true → length ds ≤ 10 → i < length ds → v ≡ digits_value 10 (take i ds) → IsDigitMore ds i v
digit_more ds i v before here short lt is =
    let read = digit_read (get_or ds i 0) here in
    let more = digits_value_more 10 ds i lt in
    let all : list_all is_ascii_digit (take (i + 1) ds) ≡ true = rw (list_all_more is_ascii_digit ds i 0 lt, before, here) refl in
    let below = digits_value-lt 10 (take (i + 1) ds) (all_digits (take (i + 1) ds) all) in
    let few : length (take (i + 1) ds) ≤ 10 = omega (arith, length-take (i + 1) ds) in
    let most : 10 ^ length (take (i + 1) ds) ≤ 10000000000 = pow-le-pow_right (lit< tt) few in
    record {
      low = read.0;
      high = read.1;
      value = omega (arith, more, read.2);
      small = omega (arith, more, read.2);
      all = all;
    }

-- a byte that is worth at most 9 is a digit
pub worth_of : (b w : ℕ) → b < 256 → w ≡ b → (w + 18446744073709551568) % 18446744073709551616 ≤ 9 → (48 ≤ b) × (b ≤ 57) × ((w + 18446744073709551568) % 18446744073709551616 ≡ b - 48)
worth_of b w small is h = (omega arith, omega arith, omega arith)

pub digit_worth : (ds : List ℕ) (i v : ℕ) → list_all is_ascii_digit (take i ds) ≡ true → 48 ≤ get_or ds i 0 → get_or ds i 0 ≤ 57 → length ds ≤ 10 → i < length ds → v ≡ digits_value 10 (take i ds) → IsDigitMore ds i v
digit_worth ds i v before low high short lt is =
    let here : is_ascii_digit (get_or ds i 0) ≡ true = rw (le-leb 48 (get_or ds i 0) low, le-leb (get_or ds i 0) 57 high) refl in
    digit_more ds i v before here short lt is
