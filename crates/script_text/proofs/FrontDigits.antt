-- The digits that bytes begin with, found by what the bytes are worth.
use Rattle.std.proofs.Common.{◌≡◌, ℕ, zero, suc, ◌+◌, ◌-◌, ◌*◌, ◌/◌, ◌%◌, ◌^◌, ◌<◌, ◌≤◌, Bool, true, false, cond, not, ◌||◌, eqb, ltb, lit<, T, w64, ⊎_elim, List, [], ◌∷◌, map, length, get_or, take, refl, sym, ap, ◌∙◌, arith}
use lib.Dec.{eqb→eq}
use lib.Lanes.{number_l, mask_l}
use Rattle.std.specs.Int.{trailing_ones}
use Rattle.std.proofs.lemmas.Nat.Bits.{bit_at-trailing_ones}
use Rattle.std.proofs.lemmas.Simd.{mask_l-lt, bit_mask_l}
use Rattle.std.specs.List.{list_all}
use Rattle.std.specs.Char.{is_ascii_digit}
use Rattle.std.specs.Str.Parse.{digits_value}
use Rattle.std.specs.Int.Digits.{number_from_digits}
use Rattle.std.proofs.Math.Nat.{pow-le-pow_right}
use Rattle.std.proofs.lemmas.Bool.{true≢false, lt-ltb, ltb-true, and_parts, cases_lt}
use Rattle.std.proofs.lemmas.Int.Digits.{digits_value_more, digits_value-lt}
use Rattle.std.proofs.lemmas.List.{length-map, get_or_past, get_or-map, get_or-take, length-take, length-take-le, take-take, take-map}
use Rattle.core.specs.Float.Numeral.{digits_len}
use Rattle.core.proofs.dec2flt.DigitsLemmas.{every_below}
use Rattle.core.proofs.dec2flt.Eight.{eight_at, shifted_is}
use Rattle.script_text.specs.FrontDigits.{worth, AreEightDigits, AreWorths, IsFront}
use Rattle.script_text.proofs.Cuts.{digit_read, all_digits}

-- ---- which are digits

implied : (s t : Bool) → s ≡ true → T (not s || t) → t ≡ true
implied true true e h = refl
implied true false e h = absurd h
implied false t e h = absurd (true≢false (sym e))

-- a byte that is worth less than ten is a digit
digit_there : (b : ℕ) → b < 256 → worth b < 10 → is_ascii_digit b ≡ true
digit_there b byte h = implied (ltb (worth b) 10) (is_ascii_digit b) (lt-ltb (worth b) 10 h) (every_below (λ x. not (ltb (worth x) 10) || is_ascii_digit x) 256 tt b byte)

module _ (bytes worths : List ℕ) (typed : (k : ℕ) → get_or bytes k 0 < 256) (long : 16 ≤ length bytes) (are : worths ≡ map worth (take 16 bytes)) where
  worth_at : (i : ℕ) → i < 16 → get_or worths i 0 ≡ worth (get_or bytes i 0)
  worth_at i few =
      ap (λ ws. get_or ws i 0) are ∙ (get_or-map worth (take 16 bytes) i 0 0 (omega (arith, length-take-le 16 bytes long)) ∙ ap worth (get_or-take 16 bytes i 0 few))

  digit_each : (count : ℕ) → count ≤ 16 → ((i : ℕ) → i < count → get_or worths i 0 < 10) → (i : ℕ) → i < count → is_ascii_digit (get_or bytes i 0) ≡ true
  digit_each count few low i l = digit_there (get_or bytes i 0) (typed i) (omega (arith, low i l, worth_at i (omega arith)))

  eight_worths : (eight : ℕ) → eight ≡ number_l 256 (take 8 worths) → AreWorths eight (take 8 bytes)
  eight_worths eight is =
      let those = eight_at bytes 0 typed (omega arith) in
      record {
        eight = those.0;
        are_bytes = those.1;
        is = is ∙ (ap (λ ws. number_l 256 (take 8 ws)) are ∙ (ap (number_l 256) (take-map worth 8 (take 16 bytes)) ∙ ap (λ xs. number_l 256 (map worth xs)) (take-take 8 16 bytes (omega arith))));
      }

one : (b : Bool) → ◌≡◌ {A = ℕ} (cond b 1 0) 1 → b ≡ true
one true h = refl
one false h = absurd (omega arith)

-- the ones that a mask of those below ten begins with
pub low_ones : (worths : List ℕ) (m t : ℕ) → length worths ≡ 16 → m ≡ mask_l (map (λ w. ltb w 10) worths) → t ≡ trailing_ones w64 m → (t ≤ 16) × ((i : ℕ) → i < t → get_or worths i 0 < 10)
low_ones worths m t long is count =
    let low = map (λ w. ltb w 10) worths in
    let as_many : length low ≡ 16 = length-map worths (λ w. ltb w 10) ∙ long in
    let small : m < 2 ^ 16 = omega (arith, is, rw as_many at (mask_l-lt low)) in
    let ones = bit_at-trailing_ones w64 m (omega (arith, small)) in
    let set : (i : ℕ) → i < trailing_ones w64 m → get_or low i false ≡ true = λ i l. one (get_or low i false) (sym (bit_mask_l low i) ∙ (ap (λ n. n / 2 ^ i % 2) (sym is) ∙ ones.2 i l)) in
    let few : trailing_ones w64 m ≤ 16 = ⊎_elim (λ more. absurd (true≢false (sym (set 16 more) ∙ get_or_past low 16 false (omega (arith, as_many))))) (λ le. le) (cases_lt 16 (trailing_ones w64 m)) in
    (omega (arith, count, few), λ i l. ltb-true (get_or worths i 0) 10 (sym (get_or-map (λ w. ltb w 10) worths i 0 false (omega (arith, long, count, few))) ∙ set i (omega (arith, count))))

all_front : (p : ℕ → Bool) (xs : List ℕ) (n : ℕ) → n ≤ length xs → ((i : ℕ) → i < n → p (get_or xs i 0) ≡ true) → list_all p (take n xs) ≡ true
all_front p xs zero h each = refl
all_front p [] (suc n) h each = absurd (omega arith)
all_front p (x ∷ xs) (suc n) h each = rw (each 0 (omega arith)) (all_front p xs n (omega arith) (λ i l. each (suc i) (omega arith)))

front_all : (bytes : List ℕ) (n : ℕ) → n ≤ 8 → 16 ≤ length bytes → ((i : ℕ) → i < n → is_ascii_digit (get_or bytes i 0) ≡ true) → list_all is_ascii_digit (take n (take 8 bytes)) ≡ true
front_all bytes n few long each = ap (list_all is_ascii_digit) (take-take n 8 bytes few) ∙ all_front is_ascii_digit bytes n (omega (arith, long)) each

-- ---- their value

-- so many digits are at most those that the bytes begin with
enough : (xs : List ℕ) (n : ℕ) → n ≤ length xs → list_all is_ascii_digit (take n xs) ≡ true → n ≤ digits_len xs
enough xs zero h all = omega arith
enough [] (suc n) h all = absurd (omega arith)
enough (x ∷ xs) (suc n) h all =
    let parts = and_parts (is_ascii_digit x) (list_all is_ascii_digit (take n xs)) all in
    let more = enough xs n (omega arith) parts.1 in
    rw parts.0 (omega arith)

moved : (count : ℕ) → count ≤ 8 → 2 ^ (64 - 8 * count) ≡ 256 ^ (8 - count)
moved count few = eqb→eq _ _ (every_below (λ k. eqb (2 ^ (64 - 8 * k)) (256 ^ (8 - k))) 9 tt count (omega arith))

-- moved to the end, the first digits are eight digits that write their number
pub first_moved : (n count : ℕ) (bytes : List ℕ) → count ≤ 8 → AreWorths n bytes → list_all is_ascii_digit (take count bytes) ≡ true
    → (ds : List ℕ) × AreEightDigits ds × (n * 2 ^ (64 - 8 * count) % 2 ^ 64 ≡ number_l 256 ds) × (number_from_digits 10 ds ≡ digits_value 10 (take count bytes))
first_moved n count bytes few are all =
    let eight = are.eight in
    shifted_is bytes count (n * 2 ^ (64 - 8 * count) % 2 ^ 64) (are.eight, are.are_bytes) (enough bytes count (omega arith) all) few
    (ap (λ m. m * 2 ^ (64 - 8 * count) % 2 ^ 64) are.is ∙ ap (λ p. number_l 256 (map worth bytes) * p % 2 ^ 64) (moved count few))

-- one more digit
pub record IsNext (bytes : List ℕ) (i v : ℕ) : Type 0 where
  pub low : 48 ≤ get_or bytes i 0
  pub high : get_or bytes i 0 ≤ 57
  pub small : v < 1000000000
  pub value : v * 10 + (get_or bytes i 0 - 48) ≡ digits_value 10 (take (i + 1) bytes)

next_digit : (bytes : List ℕ) (i v : ℕ) → i < length bytes → i ≤ 9 → ((k : ℕ) → k < i + 1 → is_ascii_digit (get_or bytes k 0) ≡ true) → v ≡ digits_value 10 (take i bytes) → IsNext bytes i v
next_digit bytes i v lt few each is =
    let read = digit_read (get_or bytes i 0) (each i (omega arith)) in
    let more = digits_value_more 10 bytes i lt in
    let all = all_front is_ascii_digit bytes i (omega arith) (λ k l. each k (omega arith)) in
    let below = digits_value-lt 10 (take i bytes) (all_digits (take i bytes) all) in
    let short : length (take i bytes) ≤ 9 = omega (arith, length-take i bytes) in
    let most : 10 ^ length (take i bytes) ≤ 1000000000 = pow-le-pow_right (lit< tt) short in
    record {
      low = read.0;
      high = read.1;
      small = omega (arith, is, below, most);
      value = omega (arith, more, read.2, is);
    }

-- ---- the digits that are found

-- bytes begin with so many digits at least, and the first eight have these worths
pub record AreFront (bytes : List ℕ) (count eight : ℕ) : Type 0 where
  pub long : 16 ≤ length bytes
  pub each : (i : ℕ) → i < count → is_ascii_digit (get_or bytes i 0) ≡ true
  pub worths : AreWorths eight (take 8 bytes)

pub are_front : (bytes worths : List ℕ) (count eight : ℕ) → ((k : ℕ) → get_or bytes k 0 < 256) → 16 ≤ length bytes → worths ≡ map worth (take 16 bytes) → count ≤ 16 → ((i : ℕ) → i < count → get_or worths i 0 < 10) → eight ≡ number_l 256 (take 8 worths) → AreFront bytes count eight
are_front bytes worths count eight typed long are few low is = record { long = long; each = digit_each bytes worths typed long are count few low; worths = eight_worths bytes worths typed long are eight is }

module _ {bytes : List ℕ} {count eight : ℕ} (front : AreFront bytes count eight) where
  -- what is read of the first eight is the value of so many bytes
  pub front_value : (n v : ℕ) → n ≤ 8 → n ≤ count → ((bs : List ℕ) → AreWorths eight bs → list_all is_ascii_digit (take n bs) ≡ true → v ≡ digits_value 10 (take n bs)) → v ≡ digits_value 10 (take n bytes)
  front_value n v few within value = value (take 8 bytes) front.worths (front_all bytes n few front.long (λ i l. front.each i (omega (arith, within, l)))) ∙ ap (digits_value 10) (take-take n 8 bytes few)

  pub front_next : (i v : ℕ) → i ≤ 9 → i < count → v ≡ digits_value 10 (take i bytes) → IsNext bytes i v
  front_next i v few within is = next_digit bytes i v (omega (arith, few, front.long)) few (λ k l. front.each k (omega (arith, within, l))) is

  pub front_is : (n v : ℕ) → 1 ≤ n → n ≤ 10 → n ≤ count → v ≡ digits_value 10 (take n bytes) → IsFront bytes v n
  front_is n v some few within is = record {
    some = some;
    few = few;
    digits = all_front is_ascii_digit bytes n (omega (arith, few, front.long)) (λ i l. front.each i (omega (arith, within, l)));
    value = is;
  }
