-- The binary digits of a number and of its half.
use Rattle.std.proofs.Common.{◌≡◌, ℕ, zero, suc, ◌+◌, ◌-◌, ◌*◌, ◌/◌, ◌%◌, ◌^◌, ◌<◌, ◌≤◌, eqb, refl, sym, ap, ◌∙◌, arith, ⊎_elim, Bool, true, false, List, [], ◌∷◌, length}
use Rattle.std.proofs.lemmas.Bool.{cases_eq}
use Rattle.std.proofs.Math.Nat.{two-pow-succ}
use Rattle.lazy_rec.specs.Numbers.{digits, leading_true, count_true, binary, bits, ones, zeros, trailing_ones}
use Rattle.lazy_rec.proofs.Digits.{length-digits, count_true-le}

-- ---- digits

digits_more : (k n : ℕ) → n < 2 ^ k → digits (suc k) n ≡ digits k n
digits_more zero n h = let e : n ≡ 0 = omega arith in rw e refl
digits_more (suc k) zero h = refl
digits_more (suc k) (suc n) h = ap (λ ds. eqb (suc n % 2) 1 ∷ ds) (digits_more k (suc n / 2) (omega (arith, two-pow-succ k)))

first_digit : (k n : ℕ) → 0 < n → digits (suc k) n ≡ eqb (n % 2) 1 ∷ digits k (n / 2)
first_digit k zero h = absurd (omega (arith, h))
first_digit k (suc n) h = refl

pub binary_half : (n : ℕ) → 0 < n → n < 2 ^ 64 → binary n ≡ eqb (n % 2) 1 ∷ binary (n / 2)
unfolding binary
binary_half n pos h = first_digit 63 n pos ∙ ap (λ ds. eqb (n % 2) 1 ∷ ds) (sym (digits_more 63 (n / 2) (omega (arith, two-pow-succ 63))))

pub binary_even : (q : ℕ) → 0 < q → q < 2 ^ 63 → binary (2 * q) ≡ false ∷ binary q
binary_even q pos h =
    let half : 2 * q / 2 ≡ q = omega arith in
    let rest : 2 * q % 2 ≡ 0 = omega arith in
    binary_half (2 * q) (omega arith) (omega (arith, two-pow-succ 63)) ∙ rw (half, rest) refl

pub binary_odd : (q : ℕ) → q < 2 ^ 63 → binary (2 * q + 1) ≡ true ∷ binary q
binary_odd q h =
    let half : (2 * q + 1) / 2 ≡ q = omega arith in
    let rest : (2 * q + 1) % 2 ≡ 1 = omega arith in
    binary_half (2 * q + 1) (omega arith) (omega (arith, two-pow-succ 63)) ∙ rw (half, rest) refl

-- ---- what is counted of them

pub ones_none : ones 0 ≡ 0
unfolding binary
ones_none = refl

pub trailing_none : trailing_ones 0 ≡ 0
unfolding binary
trailing_none = refl

pub bits_none : bits 0 ≡ 0
unfolding binary
bits_none = refl

pub ones_even : (q : ℕ) → q < 2 ^ 63 → ones (2 * q) ≡ ones q
ones_even q h = ⊎_elim (λ z. rw z refl) (λ ne. ap count_true (binary_even q (omega (arith, ne)) h)) (cases_eq q 0)

pub ones_odd : (q : ℕ) → q < 2 ^ 63 → ones (2 * q + 1) ≡ suc (ones q)
ones_odd q h = ap count_true (binary_odd q h)

pub trailing_even : (q : ℕ) → q < 2 ^ 63 → trailing_ones (2 * q) ≡ 0
trailing_even q h = ⊎_elim (λ z. rw z trailing_none) (λ ne. ap leading_true (binary_even q (omega (arith, ne)) h)) (cases_eq q 0)

pub trailing_odd : (q : ℕ) → q < 2 ^ 63 → trailing_ones (2 * q + 1) ≡ suc (trailing_ones q)
trailing_odd q h = ap leading_true (binary_odd q h)

pub ones_most : (n : ℕ) → ones n ≤ bits n
ones_most n = count_true-le (binary n)

pub bits_most : (n : ℕ) → bits n ≤ 64
unfolding binary
bits_most n = omega (arith, length-digits 64 n)

leading_most : (ds : List Bool) → leading_true ds ≤ count_true ds
leading_most [] = omega arith
leading_most (true ∷ ds) = omega (arith, leading_most ds)
leading_most (false ∷ ds) = omega arith

pub trailing_most : (n : ℕ) → trailing_ones n ≤ ones n
trailing_most n = leading_most (binary n)

pub zeros_none : zeros 0 ≡ 0
zeros_none = omega (arith, ones_none, bits_none)

pub zeros_even : (q : ℕ) → 0 < q → q < 2 ^ 63 → zeros (2 * q) ≡ suc (zeros q)
zeros_even q pos h =
    let b : bits (2 * q) ≡ suc (bits q) = ap length (binary_even q pos h) in
    omega (arith, b, ones_even q h, ones_most q)

pub zeros_odd : (q : ℕ) → q < 2 ^ 63 → zeros (2 * q + 1) ≡ zeros q
zeros_odd q h =
    let b : bits (2 * q + 1) ≡ suc (bits q) = ap length (binary_odd q h) in
    omega (arith, b, ones_odd q h, ones_most q)

-- ---- by halves

-- a number is 0, twice a positive number, or one more than twice a number
pub data Halved (n : ℕ) : Type 0 where
  none : n ≡ 0 → Halved n
  even : (q : ℕ) → n ≡ 2 * q → 0 < q → Halved n
  odd : (q : ℕ) → n ≡ 2 * q + 1 → Halved n

pub halved : (n : ℕ) → Halved n
halved n = ⊎_elim
    (λ z. none z)
    (λ ne. ⊎_elim (λ (e : n % 2 ≡ 0). even (n / 2) (omega arith) (omega (arith, ne))) (λ (e : n % 2 ≡ 0 → ⊥). odd (n / 2) (omega arith)) (cases_eq (n % 2) 0))
    (cases_eq n 0)

-- what holds of 0, and of a number where it holds of its half, holds of each number below a power of 2
pub by_halves : (P : ℕ → Type 0) → P 0 → ((q : ℕ) → 0 < q → q < 2 ^ 63 → P q → P (2 * q)) → ((q : ℕ) → q < 2 ^ 63 → P q → P (2 * q + 1)) → (n : ℕ) → n < 2 ^ 64 → P n
by_halves P none_holds even_holds odd_holds n h = go 64 n h (omega arith)
  where
    step : (n : ℕ) → n < 2 ^ 64 → ((q : ℕ) → q + q ≤ n → q < 2 ^ 64 → P q) → Halved n → P n
    step n low ih (none e) = rw e none_holds
    step n low ih (even q e pos) = rw e (even_holds q pos (omega (arith, e, low, two-pow-succ 63)) (ih q (omega (arith, e)) (omega (arith, e, low))))
    step n low ih (odd q e) = rw e (odd_holds q (omega (arith, e, low, two-pow-succ 63)) (ih q (omega (arith, e)) (omega (arith, e, low))))

    go : (k n : ℕ) → n < 2 ^ k → n < 2 ^ 64 → P n
    go zero n h low = let e : n ≡ 0 = omega arith in rw e none_holds
    go (suc k) n h low = step n low (λ q twice small. go k q (omega (arith, twice, h, two-pow-succ k)) small) (halved n)

-- ---- one more

-- one more item turns the trailing digits 1 into 0
pub ones_next : (n : ℕ) → n < 2 ^ 64 - 1 → ones (n + 1) + trailing_ones n ≡ ones n + 1
ones_next n h = by_halves (λ n. n < 2 ^ 64 - 1 → ones (n + 1) + trailing_ones n ≡ ones n + 1)
    (λ _. omega (arith, trailing_none, ones_none, ones_odd 0 (omega arith)))
    (λ q pos low ih below. omega (arith, ones_odd q low, trailing_even q low, ones_even q low))
    (λ q low ih below. (
    let e : 2 * q + 1 + 1 ≡ 2 * (q + 1) = omega arith in
    let half : q + 1 < 2 ^ 63 = omega (arith, below, two-pow-succ 63) in
    let even_next = ones_even (q + 1) half in
    let odd_here = ones_odd q low in
    let trailing = trailing_odd q low in
    rw e (omega (arith, ih (omega (arith, low, two-pow-succ 63)), even_next, odd_here, trailing))))
    n (omega arith) h

-- with one item more at most so much is owed
pub owed_next : (n owed : ℕ) → n < 2 ^ 64 - 1 → owed ≤ zeros n → owed + (trailing_ones n + 1) - 2 ≤ zeros (n + 1)
owed_next n owed h le = by_halves (λ n. (owed : ℕ) → n < 2 ^ 64 - 1 → owed ≤ zeros n → owed + (trailing_ones n + 1) - 2 ≤ zeros (n + 1))
    (λ owed _ le. omega (arith, le, zeros_none, trailing_none))
    (λ q pos low ih owed below le. omega (arith, le, zeros_even q pos low, zeros_odd q low, trailing_even q low))
    (λ q low ih owed below le. (
    let e : 2 * q + 1 + 1 ≡ 2 * (q + 1) = omega arith in
    let half : q + 1 < 2 ^ 63 = omega (arith, below, two-pow-succ 63) in
    let even_next = zeros_even (q + 1) (omega arith) half in
    let odd_here = zeros_odd q low in
    let trailing = trailing_odd q low in
    rw e (omega (arith, le, ih owed (omega (arith, low, two-pow-succ 63)) (omega (arith, le, odd_here)), even_next, trailing))))
    n (omega arith) owed h le
