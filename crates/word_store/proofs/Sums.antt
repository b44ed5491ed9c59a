-- Sums over the views of all seats, where one of them changes, is added, or is the only one that counts.
use Rattle.std.proofs.Common.{◌≡◌, ℕ, zero, suc, ◌+◌, ◌*◌, ◌<◌, ◌≤◌, ◌≢◌, ◌⊎◌, Bool, true, false, List, [], ◌∷◌, length, set, sym, refl, ap, inl, inr, ⊎_elim, arith}
use Rattle.std.specs.Prelude.{sum_by}
use Rattle.std.proofs.lemmas.List.Sums.{sum_by-cons}
use mathlib.Core.Option.{some, some-injective, some-ne-none}
use lib.ListN.{get_elem?}
use Rattle.heap_store.specs.Shared.{one_if}

-- ---- tests

pub one_true : (b : Bool) → b ≡ true → one_if b ≡ 1
one_true b e = ap one_if e

pub one_most : (b : Bool) → one_if b ≤ 1
one_most true = omega arith
one_most false = omega arith

pub zero_false : (b : Bool) → one_if b ≡ 0 → b ≡ false
zero_false true e = absurd (omega arith)
zero_false false e = refl

pub pos_true : (b : Bool) → 0 < one_if b → b ≡ true
pos_true true e = refl
pos_true false e = absurd (omega arith)

pub false_by : (b : Bool) → (b ≡ true → ⊥) → b ≡ false
false_by true f = absurd (f refl)
false_by false f = refl

-- ---- sums

module _ {A : Type 0} where
  pub at_set : (l : List A) (i j : ℕ) (a b : A) → get_elem? (set l i a) j ≡ some b → ((j ≡ i) × (a ≡ b)) ⊎ ((j ≢ i) × (get_elem? l j ≡ some b))
  at_set [] i j a b e = absurd (some-ne-none b (sym e))
  at_set (x ∷ xs) zero zero a b e = inl (refl, some-injective a b e)
  at_set (x ∷ xs) zero (suc j) a b e = inr ((λ h. omega arith), e)
  at_set (x ∷ xs) (suc i) zero a b e = inr ((λ h. omega arith), e)
  at_set (x ∷ xs) (suc i) (suc j) a b e = ⊎_elim (λ t. inl (ap suc t.0, t.1)) (λ t. let n = t.0 in inr ((λ h. n (omega arith)), t.1)) (at_set xs i j a b e)

  pub there : (l : List A) (i : ℕ) (a : A) → get_elem? l i ≡ some a → i < length l
  there [] i a e = absurd (some-ne-none a (sym e))
  there (x ∷ xs) zero a e = omega arith
  there (x ∷ xs) (suc i) a e = let k = there xs i a e in omega (arith, k)

  module _ (g : A → ℕ) where
    pub sum-changed : (l : List A) (j : ℕ) (v w : A) → get_elem? l j ≡ some v → sum_by g (set l j w) + g v ≡ sum_by g l + g w
    sum-changed [] j v w e = absurd (some-ne-none v (sym e))
    sum-changed (x ∷ xs) zero v w e = omega (arith, sum_by-cons g x xs, sum_by-cons g w xs, ap g (some-injective x v e))
    sum-changed (x ∷ xs) (suc j) v w e = omega (arith, sum_by-cons g x xs, sum_by-cons g x (set xs j w), sum-changed xs j v w e)

    pub term_le : (l : List A) (j : ℕ) (v : A) → get_elem? l j ≡ some v → g v ≤ sum_by g l
    term_le [] j v e = absurd (some-ne-none v (sym e))
    term_le (x ∷ xs) zero v e = omega (arith, sum_by-cons g x xs, ap g (some-injective x v e))
    term_le (x ∷ xs) (suc j) v e = omega (arith, sum_by-cons g x xs, term_le xs j v e)

    pub terms_le : (l : List A) (j k : ℕ) (v u : A) → k ≢ j → get_elem? l j ≡ some v → get_elem? l k ≡ some u → g v + g u ≤ sum_by g l
    terms_le [] j k v u n e d = absurd (some-ne-none v (sym e))
    terms_le (x ∷ xs) zero zero v u n e d = absurd (n refl)
    terms_le (x ∷ xs) zero (suc k) v u n e d = omega (arith, sum_by-cons g x xs, ap g (some-injective x v e), term_le xs k u d)
    terms_le (x ∷ xs) (suc j) zero v u n e d = omega (arith, sum_by-cons g x xs, ap g (some-injective x u d), term_le xs j v e)
    terms_le (x ∷ xs) (suc j) (suc k) v u n e d = omega (arith, sum_by-cons g x xs, terms_le xs j k v u (λ h. n (ap suc h)) e d)

    -- where the others count nothing
    pub none_else : (l : List A) → ((i : ℕ) (a : A) → get_elem? l i ≡ some a → g a ≡ 0) → sum_by g l ≡ 0
    none_else [] h = refl
    none_else (x ∷ xs) h = omega (arith, sum_by-cons g x xs, h 0 x refl, none_else xs (λ i a e. h (suc i) a e))

    pub only_one : (l : List A) (j : ℕ) (v : A) → get_elem? l j ≡ some v → ((i : ℕ) (a : A) → i ≢ j → get_elem? l i ≡ some a → g a ≡ 0) → sum_by g l ≡ g v
    only_one [] j v e h = absurd (some-ne-none v (sym e))
    only_one (x ∷ xs) zero v e h = omega (arith, sum_by-cons g x xs, ap g (some-injective x v e), none_else xs (λ i a f. h (suc i) a (λ z. omega (arith, z)) f))
    only_one (x ∷ xs) (suc j) v e h = omega (arith, sum_by-cons g x xs, h 0 x (λ z. omega (arith, z)) refl, only_one xs j v e (λ i a ne f. h (suc i) a (λ z. ne (omega (arith, z))) f))

  pub sum_below : (f g : A → ℕ) (l : List A) → ((a : A) → f a ≤ g a) → sum_by f l ≤ sum_by g l
  sum_below f g [] h = omega arith
  sum_below f g (x ∷ xs) h = omega (arith, sum_by-cons f x xs, sum_by-cons g x xs, h x, sum_below f g xs h)

  -- where each term is at most so many times another
  pub sum_times : (f g : A → ℕ) (l : List A) → ((j : ℕ) (a : A) → get_elem? l j ≡ some a → f a ≤ 4000000 * g a) → sum_by f l ≤ 4000000 * sum_by g l
  sum_times f g [] h = omega arith
  sum_times f g (x ∷ xs) h = omega (arith, sum_by-cons f x xs, sum_by-cons g x xs, h 0 x refl, sum_times f g xs (λ j a e. h (suc j) a e))
