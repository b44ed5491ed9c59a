-- Recursion on numbers: what it is at each number, by what it is at lower ones.
use Rattle.std.proofs.Common.{◌≡◌, ℕ, zero, suc, ◌<◌, ◌≤◌, eqb, refl, sym, ap, ◌∙◌, arith, Bool, true, false, ⊎_elim}
use Rattle.std.proofs.lemmas.Bool.{true≢false, eqb-true, eq-eqb, cases_eq}
use Rattle.lazy_rec.specs.ByPlace.{below, by_place}

-- the first where the test passes, else the second
abbrev pub pick : {X : Type 0} → Bool → X → X → X
pick b x y = elim b [ true ↦ x | false ↦ y ]

-- strong induction
pub from_lower : (P : ℕ → Type 0) → ((p : ℕ) → ((q : ℕ) → q < p → P q) → P p) → (p : ℕ) → P p
from_lower P step p = go (suc p) p (omega arith)
  where
    go : (n q : ℕ) → q < n → P q
    go zero q h = absurd (omega arith)
    go (suc n) q h = step q (λ k l. go n k (omega arith))

-- ---- one recursion

module _ {X : Type 0} (d : X) (step : (ℕ → X) → ℕ → X) where
  -- below the bound it is the recursion
  pub below_low : (n p : ℕ) → p < n → below d step n p ≡ by_place d step p
  unfolding by_place
  below_low zero p h = absurd (omega arith)
  below_low (suc n) p h = by (eqb p n) refl (below_low n p)
    where
      by : (b : Bool) → eqb p n ≡ b → (p < n → below d step n p ≡ by_place d step p) → pick b (step (below d step n) n) (below d step n p) ≡ by_place d step p
      by true e ih = ap (λ k. step (below d step k) k) (sym (eqb-true p n e))
      by false e ih = ih (⊎_elim (λ q. absurd (true≢false (sym (eq-eqb p n q) ∙ e))) (λ ne. omega arith) (cases_eq p n))

  -- from the bound on it is the default
  pub below_high : (n p : ℕ) → n ≤ p → below d step n p ≡ d
  below_high zero p h = refl
  below_high (suc n) p h = by (eqb p n) refl (below_high n p)
    where
      by : (b : Bool) → eqb p n ≡ b → (n ≤ p → below d step n p ≡ d) → pick b (step (below d step n) n) (below d step n p) ≡ d
      by true e ih = let same = eqb-true p n e in absurd (omega arith)
      by false e ih = ih (omega arith)

  -- where the step looks at lower numbers alone, the recursion is the step of itself
  pub by_place_unfolds : (p : ℕ) → ((f g : ℕ → X) → ((q : ℕ) → q < p → f q ≡ g q) → step f p ≡ step g p) → by_place d step p ≡ step (by_place d step) p
  unfolding by_place
  by_place_unfolds p looks = looks (below d step p) (λ q. by_place d step q) (below_low p)

-- ---- two recursions

-- what holds between the defaults, and is kept by the steps up to a number
module _ {X Y : Type 0} (R : X → Y → Type 0) (d : X) (s : (ℕ → X) → ℕ → X) (e : Y) (t : (ℕ → Y) → ℕ → Y) (start : R d e) where
  pub below_related : (n : ℕ) → ((p : ℕ) (f : ℕ → X) (g : ℕ → Y) → p < n → ((q : ℕ) → R (f q) (g q)) → R (s f p) (t g p)) → (q : ℕ) → R (below d s n q) (below e t n q)
  below_related zero steps q = start
  below_related (suc n) steps q = by (eqb q n) (below_related n (λ p f g l. steps p f g (omega arith)))
    where
      by : (b : Bool) → ((k : ℕ) → R (below d s n k) (below e t n k)) → R (pick b (s (below d s n) n) (below d s n q)) (pick b (t (below e t n) n) (below e t n q))
      by true lower = steps n (below d s n) (below e t n) (omega arith) lower
      by false lower = lower q

  pub by_place_related : (n : ℕ) → ((p : ℕ) (f : ℕ → X) (g : ℕ → Y) → p ≤ n → ((q : ℕ) → R (f q) (g q)) → R (s f p) (t g p)) → R (by_place d s n) (by_place e t n)
  unfolding by_place
  by_place_related n steps = steps n (below d s n) (below e t n) (omega arith) (below_related n (λ p f g l. steps p f g (omega arith)))

-- what holds of the default, and is kept by each step
pub by_place_holds : {X : Type 0} (P : X → Type 0) (d : X) (step : (ℕ → X) → ℕ → X) → P d → ((p : ℕ) (f : ℕ → X) → ((q : ℕ) → P (f q)) → P (step f p)) → (n : ℕ) → P (by_place d step n)
by_place_holds P d step start steps n = by_place_related (λ x y. P x) d step d step start n (λ p f g l h. steps p f h)

-- two steps that agree on a set of places, of which each needs only lower ones of the set
pub by_place_agree : {X : Type 0} (d : X) (s t : (ℕ → X) → ℕ → X) (In : ℕ → Type 0)
    → ((p : ℕ) (f g : ℕ → X) → In p → ((q : ℕ) → q < p → In q → f q ≡ g q) → s f p ≡ t g p)
    → (p : ℕ) → In p → by_place d s p ≡ by_place d t p
unfolding by_place
by_place_agree d s t In agree = from_lower (λ p. In p → by_place d s p ≡ by_place d t p)
    (λ p ih i. agree p (below d s p) (below d t p) i (λ q l j. below_low d s p q l ∙ ih q l j ∙ sym (below_low d t p q l)))
