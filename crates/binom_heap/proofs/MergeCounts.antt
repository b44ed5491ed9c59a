-- The places of a merge, by counting the binary digits of its sizes.
use Rattle.std.proofs.Common.{◌≡◌, ℕ, zero, suc, ◌+◌, ◌-◌, ◌*◌, ◌/◌, ◌%◌, ◌^◌, ◌<◌, ◌≤◌, min, bit_and, bit_or, refl, ap, ◌∙◌, arith, length}
use Rattle.std.proofs.Math.Nat.{two-pow-succ, mod-le}
use Rattle.std.proofs.Math.Pow.{pow-lt}
use Rattle.std.proofs.lemmas.Nat.{mod-pow-add, or_shr, or_mod, or_lt, and_mask, shl_whole, pow_pos}
use Rattle.lazy_rec.specs.Numbers.{bits, ones}
use Rattle.binom_heap.specs.Work.{places_by_ranks, merge_places_of}
use Rattle.binom_heap.proofs.BinaryLaws.{Halved, none, even, odd, halved, binary_half, bits_none, ones_none, ones_even, ones_odd, ones_next}
use Rattle.binom_heap.proofs.PlacesLaws.{rank_step, step_none1, step_none2, step_even_even, step_even_odd, step_odd_even, step_odd_odd, even_half, even_rest, odd_half, odd_rest, few_ones}

-- ---- the ranks that both lists reach

-- at how many of the ranks that both reach a list has a tree
abbrev pub shared : ℕ → ℕ → ℕ
shared n m = ones (bit_or n m % 2 ^ bits (min n m))

bits_half : (n : ℕ) → 0 < n → n < 2 ^ 64 → bits n ≡ suc (bits (n / 2))
bits_half n pos h = ap length (binary_half n pos h)

-- a number has as few digits as a power of 2 above it says
pub bits_below : (k n : ℕ) → k < 64 → n < 2 ^ k → bits n ≤ k
bits_below zero n few h = let e : n ≡ 0 = omega arith in rw e (omega (arith, bits_none))
bits_below (suc k) n few h = go (bits_below k (n / 2) (omega (arith, few)) (omega (arith, h, two-pow-succ k))) (halved n)
  where
    small : n < 2 ^ 64
    small = omega (arith, h, pow-lt {i = suc k} {j = 64} few)

    go : bits (n / 2) ≤ k → Halved n → bits n ≤ suc k
    go half (none e) = rw e (omega (arith, bits_none))
    go half (even q e pos) = omega (arith, half, bits_half n (omega (arith, e, pos)) small)
    go half (odd q e) = omega (arith, half, bits_half n (omega (arith, e)) small)

min_half : (n m : ℕ) → min n m / 2 ≡ min (n / 2) (m / 2)
min_half n m = omega arith

-- the lowest rank, and the higher ones
shared_step : (n m : ℕ) → 0 < n → 0 < m → n < 2 ^ 33 → m < 2 ^ 33 → shared n m ≡ ones (bit_or (n / 2) (m / 2) % 2 ^ bits (min (n / 2) (m / 2)) * 2 + bit_or (n % 2) (m % 2))
shared_step n m p q low low' =
    let k = bits (min (n / 2) (m / 2)) in
    let half = ap bits (min_half n m) in
    let least : bits (min n m) ≡ k + 1 = omega (arith, bits_half (min n m) (omega (arith, p, q)) (omega (arith, low)), half) in
    ap (λ (j : ℕ). ones (bit_or n m % 2 ^ j)) least ∙ (ap ones (mod-pow-add (bit_or n m) k 1) ∙ rw (or_shr n m 1, or_mod n m 1) refl)

-- what is shared of the higher ranks is a small number
higher_small : (n m : ℕ) → n < 2 ^ 33 → m < 2 ^ 33 → bit_or (n / 2) (m / 2) % 2 ^ bits (min (n / 2) (m / 2)) < 2 ^ 63
higher_small n m low low' = omega (arith, mod-le (bit_or (n / 2) (m / 2)) (2 ^ bits (min (n / 2) (m / 2))), or_lt 33 (n / 2) (m / 2) (omega (arith, low)) (omega (arith, low')))

shared_none : (n m : ℕ) → 0 < n → 0 < m → n < 2 ^ 33 → m < 2 ^ 33 → bit_or (n % 2) (m % 2) ≡ 0 → shared n m ≡ shared (n / 2) (m / 2)
shared_none n m p q low low' off =
    let z = bit_or (n / 2) (m / 2) % 2 ^ bits (min (n / 2) (m / 2)) in
    let twice : z * 2 + 0 ≡ 2 * z = omega arith in
    shared_step n m p q low low' ∙ rw (off, twice) (ones_even z (higher_small n m low low'))

shared_one : (n m : ℕ) → 0 < n → 0 < m → n < 2 ^ 33 → m < 2 ^ 33 → bit_or (n % 2) (m % 2) ≡ 1 → shared n m ≡ suc (shared (n / 2) (m / 2))
shared_one n m p q low low' on =
    let z = bit_or (n / 2) (m / 2) % 2 ^ bits (min (n / 2) (m / 2)) in
    let twice : z * 2 + 1 ≡ 2 * z + 1 = omega arith in
    shared_step n m p q low low' ∙ rw (on, twice) (ones_odd z (higher_small n m low low'))

shared_end1 : (m : ℕ) → shared 0 m ≡ 0
shared_end1 m =
    let no_digit = bits_none in
    let least : min 0 m ≡ 0 = omega arith in
    let rest : bit_or 0 m % 1 ≡ 0 = omega arith in
    rw (least, no_digit, rest) ones_none

shared_end2 : (n : ℕ) → shared n 0 ≡ 0
shared_end2 n =
    let no_digit = bits_none in
    let least : min n 0 ≡ 0 = omega arith in
    let rest : bit_or n 0 % 1 ≡ 0 = omega arith in
    rw (least, no_digit, rest) ones_none

shared_even_even : (p q : ℕ) → 0 < p → 0 < q → p < 2 ^ 32 → q < 2 ^ 32 → shared (2 * p) (2 * q) ≡ shared p q
shared_even_even p q a b low low' =
    let e = even_half p in
    let f = even_half q in
    rw (e, f) at (shared_none (2 * p) (2 * q) (omega (arith, a)) (omega (arith, b)) (omega (arith, low)) (omega (arith, low')) (rw (even_rest p, even_rest q) refl))

shared_even_odd : (p q : ℕ) → 0 < p → p < 2 ^ 32 → q < 2 ^ 32 → shared (2 * p) (2 * q + 1) ≡ suc (shared p q)
shared_even_odd p q a low low' =
    let e = even_half p in
    let f = odd_half q in
    rw (e, f) at (shared_one (2 * p) (2 * q + 1) (omega (arith, a)) (omega arith) (omega (arith, low)) (omega (arith, low')) (rw (even_rest p, odd_rest q) refl))

shared_odd_even : (p q : ℕ) → 0 < q → p < 2 ^ 32 → q < 2 ^ 32 → shared (2 * p + 1) (2 * q) ≡ suc (shared p q)
shared_odd_even p q b low low' =
    let e = odd_half p in
    let f = even_half q in
    rw (e, f) at (shared_one (2 * p + 1) (2 * q) (omega arith) (omega (arith, b)) (omega (arith, low)) (omega (arith, low')) (rw (odd_rest p, even_rest q) refl))

shared_odd_odd : (p q : ℕ) → p < 2 ^ 32 → q < 2 ^ 32 → shared (2 * p + 1) (2 * q + 1) ≡ suc (shared p q)
shared_odd_odd p q low low' =
    let e = odd_half p in
    let f = odd_half q in
    rw (e, f) at (shared_one (2 * p + 1) (2 * q + 1) (omega arith) (omega arith) (omega (arith, low)) (omega (arith, low')) (rw (odd_rest p, odd_rest q) refl))

-- ---- links and cells

-- of a rank: a link takes two places and leaves a tree less
counts_step : (n m more : ℕ) → n + m < 2 ^ 33 → Halved n → Halved m → more + 2 * ones (n / 2 + m / 2) ≡ shared (n / 2) (m / 2) + 2 * (ones (n / 2) + ones (m / 2)) → rank_step n m more + 2 * ones (n + m) ≡ shared n m + 2 * (ones n + ones m)
counts_step n m more h (none e) y ih =
    let z = step_none1 n m more e in
    let s : n + m ≡ m = omega (arith, e) in
    let d : shared n m ≡ 0 = rw e (shared_end1 m) in
    let k : ones n ≡ 0 = rw e ones_none in
    rw (z, s, d, k) (omega arith)
counts_step n m more h x (none f) ih =
    let z = step_none2 n m more f in
    let s : n + m ≡ n = omega (arith, f) in
    let d : shared n m ≡ 0 = rw f (shared_end2 n) in
    let k : ones m ≡ 0 = rw f ones_none in
    rw (z, s, d, k) (omega arith)
counts_step n m more h (even p e a) (even q f b) ih =
    let s : 2 * p + 2 * q ≡ 2 * (p + q) = omega arith in
    let ih' : more + 2 * ones (p + q) ≡ shared p q + 2 * (ones p + ones q) = rw (e, f, even_half p, even_half q) at ih in
    rw (e, f, step_even_even p q more a b, s, shared_even_even p q a b (omega (arith, h, e)) (omega (arith, h, f))) (omega (arith, ih', ones_even p (omega (arith, h, e)), ones_even q (omega (arith, h, f)), ones_even (p + q) (omega (arith, h, e, f))))
counts_step n m more h (even p e a) (odd q f) ih =
    let s : 2 * p + (2 * q + 1) ≡ 2 * (p + q) + 1 = omega arith in
    let ih' : more + 2 * ones (p + q) ≡ shared p q + 2 * (ones p + ones q) = rw (e, f, even_half p, odd_half q) at ih in
    rw (e, f, step_even_odd p q more a, s, shared_even_odd p q a (omega (arith, h, e)) (omega (arith, h, f))) (omega (arith, ih', ones_even p (omega (arith, h, e)), ones_odd q (omega (arith, h, f)), ones_odd (p + q) (omega (arith, h, e, f))))
counts_step n m more h (odd p e) (even q f b) ih =
    let s : 2 * p + 1 + 2 * q ≡ 2 * (p + q) + 1 = omega arith in
    let ih' : more + 2 * ones (p + q) ≡ shared p q + 2 * (ones p + ones q) = rw (e, f, odd_half p, even_half q) at ih in
    rw (e, f, step_odd_even p q more b, s, shared_odd_even p q b (omega (arith, h, e)) (omega (arith, h, f))) (omega (arith, ih', ones_odd p (omega (arith, h, e)), ones_even q (omega (arith, h, f)), ones_odd (p + q) (omega (arith, h, e, f))))
counts_step n m more h (odd p e) (odd q f) ih =
    let s : 2 * p + 1 + (2 * q + 1) ≡ 2 * (p + q + 1) = omega arith in
    let ih' : more + 2 * ones (p + q) ≡ shared p q + 2 * (ones p + ones q) = rw (e, f, odd_half p, odd_half q) at ih in
    rw (e, f, step_odd_odd p q more, s, shared_odd_odd p q (omega (arith, h, e)) (omega (arith, h, f))) (omega (arith, ih', ones_odd p (omega (arith, h, e)), ones_odd q (omega (arith, h, f)), ones_even (p + q + 1) (omega (arith, h, e, f)), ones_next (p + q) (omega (arith, h, e, f))))

counts_by_ranks : (k n m : ℕ) → n < 2 ^ k → n + m < 2 ^ 33 → places_by_ranks k n m + 2 * ones (n + m) ≡ shared n m + 2 * (ones n + ones m)
counts_by_ranks zero n m h low =
    let e : n ≡ 0 = omega arith in
    let s : 0 + m ≡ m = omega arith in
    let d = shared_end1 m in
    let k = ones_none in
    rw (e, s, d, k) (omega arith)
counts_by_ranks (suc k) n m h low = counts_step n m (places_by_ranks k (n / 2) (m / 2)) low (halved n) (halved m) (counts_by_ranks k (n / 2) (m / 2) (omega (arith, h, two-pow-succ k)) (omega (arith, low)))

pub merge_counts : (n m : ℕ) → n < 2 ^ 32 → m < 2 ^ 32 → merge_places_of n m + 2 * ones (n + m) ≡ shared n m + 2 * (ones n + ones m)
unfolding merge_places_of
merge_counts n m low low' = counts_by_ranks 32 n m low (omega (arith, low, low'))

-- ---- as the digits are counted

pub reached_few : (n m : ℕ) → n < 2 ^ 32 → m < 2 ^ 32 → bits (min n m) ≤ 32
reached_few n m low low' = bits_below 32 (min n m) (omega arith) (omega (arith, low))

-- a number whose so many lowest digits are 1
reached_power : (k : ℕ) → k ≤ 32 → 1 * 2 ^ k % 2 ^ 64 ≡ 2 ^ k
reached_power k few =
    let one : 1 * 2 ^ k ≡ 2 ^ k = omega arith in
    shl_whole 1 1 k 64 (omega arith) (omega (arith, few)) ∙ one

pub reached_some : (k : ℕ) → k ≤ 32 → 1 ≤ 1 * 2 ^ k % 2 ^ 64
reached_some k few = omega (arith, reached_power k few, pow_pos k)

pub cells_are : (n m k : ℕ) → n < 2 ^ 32 → m < 2 ^ 32 → k ≡ bits (min n m) → ones (bit_and (bit_or n m) (1 * 2 ^ k % 2 ^ 64 - 1)) ≡ shared n m
cells_are n m k low low' e =
    let power = reached_power k (omega (arith, e, reached_few n m low low')) in
    let mask = and_mask (bit_or n m) k in
    rw (power, mask, e) refl

pub shared_few : (n m : ℕ) → shared n m ≤ 64
shared_few n m = few_ones (bit_or n m % 2 ^ bits (min n m))
