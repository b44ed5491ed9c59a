-- The binary digits of a number, and std's counts of its bits.
use Rattle.std.proofs.Common.{◌≡◌, ℕ, zero, suc, ◌<◌, ◌≤◌, ◌+◌, ◌-◌, ◌*◌, ◌/◌, ◌%◌, ◌^◌, eqb, Bool, true, false, refl, sym, ap, ◌∙◌, arith, length, List, [], ◌∷◌}
use Rattle.std.specs.Int.Count.{count_leading_zeros, count_trailing_zeros, ones, under}
use Rattle.std.proofs.lemmas.Nat.{ones_cat, pow_pos}
use Rattle.std.proofs.Math.Nat.{two-pow-succ}
use Rattle.lazy_rec.specs.Numbers.{digits, leading_true, count_true}

pub length-digits : (k n : ℕ) → length (digits k n) + count_leading_zeros k n ≡ k
unfolding count_leading_zeros
length-digits zero n = omega arith
length-digits (suc k) zero = omega arith
length-digits (suc k) (suc n) = omega (arith, length-digits k (suc n / 2))

pub count_true-le : (ds : List Bool) → count_true ds ≤ length ds
count_true-le [] = omega arith
count_true-le (true ∷ ds) = omega (arith, count_true-le ds)
count_true-le (false ∷ ds) = omega (arith, count_true-le ds)

ones-halves : (n : ℕ) → ones n ≡ ones (n / 2) + ones (n % 2)
ones-halves n =
    let e : n / 2 * 2 ^ 1 + n % 2 ≡ n = omega arith in
    let h : n % 2 < 2 ^ 1 = omega arith in
    ap ones (sym e) ∙ ones_cat 1 (n / 2) (n % 2) h

one_more : (b : ℕ) (ds : List Bool) → b < 2 → count_true (eqb b 1 ∷ ds) ≡ count_true ds + ones b
unfolding ones
one_more zero ds h = omega arith
one_more (suc zero) ds h = omega arith
one_more (suc (suc b)) ds h = absurd (omega arith)

pub count_true-digits : (k n : ℕ) → n < 2 ^ k → count_true (digits k n) ≡ ones n
unfolding ones
count_true-digits zero n h = let e : n ≡ 0 = omega arith in ap ones (sym e)
count_true-digits (suc k) zero h = refl
count_true-digits (suc k) (suc n) h =
    let below : suc n / 2 < 2 ^ k = omega (arith, two-pow-succ k) in
    one_more (suc n % 2) (digits k (suc n / 2)) (omega arith) ∙ omega (arith, count_true-digits k (suc n / 2) below, ones-halves (suc n))

one_leading : (b d t : ℕ) (ds : List Bool) → b + d ≡ 1 → leading_true ds ≡ t → leading_true (eqb b 1 ∷ ds) ≡ under d t
one_leading zero zero t ds h e = absurd (omega arith)
one_leading zero (suc d) t ds h e = refl
one_leading (suc zero) zero t ds h e = ap suc e
one_leading (suc zero) (suc d) t ds h e = absurd (omega arith)
one_leading (suc (suc b)) d t ds h e = absurd (omega arith)

-- the digits 1 at the low end are the zeros there of the number that has all digits the other way round
pub leading_true-digits : (k n : ℕ) → n < 2 ^ k → leading_true (digits k n) ≡ count_trailing_zeros k (2 ^ k - 1 - n)
unfolding count_trailing_zeros
leading_true-digits zero n h = refl
leading_true-digits (suc k) zero h =
    let odd : (2 ^ suc k - 1 - 0) % 2 ≡ 1 = omega (arith, two-pow-succ k, pow_pos k) in
    sym (ap (λ d. under d (count_trailing_zeros k ((2 ^ suc k - 1 - 0) / 2))) odd)
leading_true-digits (suc k) (suc n) h =
    let below : suc n / 2 < 2 ^ k = omega (arith, two-pow-succ k) in
    let half : 2 ^ k - 1 - suc n / 2 ≡ (2 ^ suc k - 1 - suc n) / 2 = omega (arith, two-pow-succ k) in
    one_leading (suc n % 2) ((2 ^ suc k - 1 - suc n) % 2) (count_trailing_zeros k ((2 ^ suc k - 1 - suc n) / 2)) (digits k (suc n / 2)) (omega (arith, two-pow-succ k)) (leading_true-digits k (suc n / 2) below ∙ ap (count_trailing_zeros k) half)
