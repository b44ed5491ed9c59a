-- The places of a merge by the sizes of its lists.
use Rattle.std.proofs.Common.{◌≡◌, ℕ, zero, suc, ◌+◌, ◌*◌, ◌/◌, ◌%◌, ◌^◌, ◌<◌, ◌≤◌, eqb, refl, ◌∙◌, arith, cond, ◌||◌}
use Rattle.std.proofs.lemmas.Bool.{or_left, or_right, eq-eqb, ne_eqb, cond-true}
use Rattle.std.proofs.Math.Nat.{two-pow-succ}
use Rattle.lazy_rec.specs.Numbers.{ones, trailing_ones}
use Rattle.binom_heap.specs.Work.{rank_places, places_by_ranks, merge_places_of}
use Rattle.binom_heap.proofs.BinaryLaws.{Halved, none, even, odd, halved, ones_even, ones_odd, ones_next, ones_most, bits_most, trailing_most}

-- ---- what a rank adds

abbrev pub rank_step : ℕ → ℕ → ℕ → ℕ
rank_step n m more = cond (eqb n 0 || eqb m 0) 0 (more + rank_places (n % 2 + m % 2) (n / 2 + m / 2))

-- ---- by the digits of both sizes

pub step_none1 : (n m more : ℕ) → n ≡ 0 → rank_step n m more ≡ 0
step_none1 n m more e = cond-true (eqb n 0 || eqb m 0) 0 _ (or_left (eqb n 0) (eqb m 0) (eq-eqb n 0 e))

pub step_none2 : (n m more : ℕ) → m ≡ 0 → rank_step n m more ≡ 0
step_none2 n m more e = cond-true (eqb n 0 || eqb m 0) 0 _ (or_right (eqb n 0) (eqb m 0) (eq-eqb m 0 e))

pub step_some : (n m more : ℕ) → 0 < n → 0 < m → rank_step n m more ≡ more + rank_places (n % 2 + m % 2) (n / 2 + m / 2)
step_some n m more p q =
    let a = ne_eqb n 0 (λ e. omega (arith, e, p)) in
    let b = ne_eqb m 0 (λ e. omega (arith, e, q)) in
    rw (a, b) refl

pub even_half : (q : ℕ) → 2 * q / 2 ≡ q
even_half q = omega arith

pub even_rest : (q : ℕ) → 2 * q % 2 ≡ 0
even_rest q = omega arith

pub odd_half : (q : ℕ) → (2 * q + 1) / 2 ≡ q
odd_half q = omega arith

pub odd_rest : (q : ℕ) → (2 * q + 1) % 2 ≡ 1
odd_rest q = omega arith

pub step_even_even : (p q more : ℕ) → 0 < p → 0 < q → rank_step (2 * p) (2 * q) more ≡ more
step_even_even p q more a b = step_some (2 * p) (2 * q) more (omega (arith, a)) (omega (arith, b)) ∙ rw (even_rest p, even_rest q) (omega arith)

pub step_even_odd : (p q more : ℕ) → 0 < p → rank_step (2 * p) (2 * q + 1) more ≡ more + 1
step_even_odd p q more a = step_some (2 * p) (2 * q + 1) more (omega (arith, a)) (omega arith) ∙ rw (even_rest p, odd_rest q) refl

pub step_odd_even : (p q more : ℕ) → 0 < q → rank_step (2 * p + 1) (2 * q) more ≡ more + 1
step_odd_even p q more b = step_some (2 * p + 1) (2 * q) more (omega arith) (omega (arith, b)) ∙ rw (odd_rest p, even_rest q) refl

pub step_odd_odd : (p q more : ℕ) → rank_step (2 * p + 1) (2 * q + 1) more ≡ more + (2 * trailing_ones (p + q) + 3)
step_odd_odd p q more = step_some (2 * p + 1) (2 * q + 1) more (omega arith) (omega arith) ∙ rw (odd_rest p, odd_rest q, odd_half p, odd_half q) refl

-- ---- how few they are

-- each carry leaves a tree less
few_step : (n m more : ℕ) → n + m < 2 ^ 33 → Halved n → Halved m → more + 2 * ones (n / 2 + m / 2) ≤ 3 * (ones (n / 2) + ones (m / 2)) → rank_step n m more + 2 * ones (n + m) ≤ 3 * (ones n + ones m)
few_step n m more h (none e) y ih = let z = step_none1 n m more e in let s : n + m ≡ m = omega (arith, e) in rw (z, s) (omega arith)
few_step n m more h x (none f) ih = let z = step_none2 n m more f in let s : n + m ≡ n = omega (arith, f) in rw (z, s) (omega arith)
few_step n m more h (even p e a) (even q f b) ih =
    let s : 2 * p + 2 * q ≡ 2 * (p + q) = omega arith in
    let ih' : more + 2 * ones (p + q) ≤ 3 * (ones p + ones q) = rw (e, f, even_half p, even_half q) at ih in
    rw (e, f, step_even_even p q more a b, s) (omega (arith, ih', ones_even p (omega (arith, h, e)), ones_even q (omega (arith, h, f)), ones_even (p + q) (omega (arith, h, e, f))))
few_step n m more h (even p e a) (odd q f) ih =
    let s : 2 * p + (2 * q + 1) ≡ 2 * (p + q) + 1 = omega arith in
    let ih' : more + 2 * ones (p + q) ≤ 3 * (ones p + ones q) = rw (e, f, even_half p, odd_half q) at ih in
    rw (e, f, step_even_odd p q more a, s) (omega (arith, ih', ones_even p (omega (arith, h, e)), ones_odd q (omega (arith, h, f)), ones_odd (p + q) (omega (arith, h, e, f))))
few_step n m more h (odd p e) (even q f b) ih =
    let s : 2 * p + 1 + 2 * q ≡ 2 * (p + q) + 1 = omega arith in
    let ih' : more + 2 * ones (p + q) ≤ 3 * (ones p + ones q) = rw (e, f, odd_half p, even_half q) at ih in
    rw (e, f, step_odd_even p q more b, s) (omega (arith, ih', ones_odd p (omega (arith, h, e)), ones_even q (omega (arith, h, f)), ones_odd (p + q) (omega (arith, h, e, f))))
few_step n m more h (odd p e) (odd q f) ih =
    let s : 2 * p + 1 + (2 * q + 1) ≡ 2 * (p + q + 1) = omega arith in
    let ih' : more + 2 * ones (p + q) ≤ 3 * (ones p + ones q) = rw (e, f, odd_half p, odd_half q) at ih in
    rw (e, f, step_odd_odd p q more, s) (omega (arith, ih', ones_odd p (omega (arith, h, e)), ones_odd q (omega (arith, h, f)), ones_even (p + q + 1) (omega (arith, h, e, f)), ones_next (p + q) (omega (arith, h, e, f))))

few_by_ranks : (k n m : ℕ) → n < 2 ^ k → n + m < 2 ^ 33 → places_by_ranks k n m + 2 * ones (n + m) ≤ 3 * (ones n + ones m)
few_by_ranks zero n m h low = let e : n ≡ 0 = omega arith in let s : 0 + m ≡ m = omega arith in rw (e, s) (omega arith)
few_by_ranks (suc k) n m h low = few_step n m (places_by_ranks k (n / 2) (m / 2)) low (halved n) (halved m) (few_by_ranks k (n / 2) (m / 2) (omega (arith, h, two-pow-succ k)) (omega (arith, low)))

pub places_few : (n m : ℕ) → n < 2 ^ 32 → n + m < 2 ^ 33 → merge_places_of n m ≤ 3 * (ones n + ones m)
unfolding merge_places_of
places_few n m h low = omega (arith, few_by_ranks 32 n m h low)

pub trailing_few : (n : ℕ) → trailing_ones n ≤ 64
trailing_few n = omega (arith, trailing_most n, ones_most n, bits_most n)

pub few_ones : (n : ℕ) → ones n ≤ 64
few_ones n = omega (arith, ones_most n, bits_most n)
