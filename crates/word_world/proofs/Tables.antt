-- Lists that a function makes.
use Rattle.std.proofs.Common.{◌≡◌, ℕ, zero, suc, ◌+◌, ◌<◌, ◌≤◌, List, ◌∷◌, length, refl, sym, ap, ◌∙◌, arith}
use Rattle.std.specs.Prelude.{slice_index_or, slice_set}
use Rattle.word_world.specs.Words.{tabulate}

module _ {X : Type 0} where
  pub length-tabulate : (f : ℕ → X) (p n : ℕ) → length (tabulate f p n) ≡ n
  length-tabulate f p zero = refl
  length-tabulate f p (suc n) = ap suc (length-tabulate f (suc p) n)

  pub tabulate-at : (f : ℕ → X) (p n i : ℕ) (d : X) → i < n → slice_index_or (tabulate f p n) i d ≡ f (p + i)
  tabulate-at f p zero i d l = absurd (omega arith)
  tabulate-at f p (suc n) zero d l = ap f (omega arith)
  tabulate-at f p (suc n) (suc i) d l = tabulate-at f (suc p) n i d (omega arith) ∙ ap f (omega arith)

  pub tabulate-past : (f : ℕ → X) (p n i : ℕ) (d : X) → n ≤ i → slice_index_or (tabulate f p n) i d ≡ d
  tabulate-past f p zero i d l = refl
  tabulate-past f p (suc n) zero d l = absurd (omega arith)
  tabulate-past f p (suc n) (suc i) d l = tabulate-past f (suc p) n i d (omega arith)

  -- the function may be another one there
  pub tabulate-same : (f g : ℕ → X) (p n : ℕ) → ((q : ℕ) → p ≤ q → q < p + n → f q ≡ g q) → tabulate f p n ≡ tabulate g p n
  tabulate-same f g p zero h = refl
  tabulate-same f g p (suc n) h = both (h p (omega arith) (omega arith)) (tabulate-same f g (suc p) n (λ q low high. h q (omega arith) (omega arith)))
    where
      both : {x y : X} {xs ys : List X} → x ≡ y → xs ≡ ys → x ∷ xs ≡ y ∷ ys
      both e k = rw (e, k) refl

  -- one element is set
  pub tabulate-set : (f g : ℕ → X) (p n i : ℕ) (x : X) → i < n → g (p + i) ≡ x → ((q : ℕ) → (q ≡ p + i → ⊥) → g q ≡ f q) → slice_set (tabulate f p n) i x ≡ tabulate g p n
  tabulate-set f g p zero i x l here there = absurd (omega arith)
  tabulate-set f g p (suc n) zero x l here there = both (sym here ∙ ap g (omega arith)) (tabulate-same f g (suc p) n (λ q low high. sym (there q (λ z. omega arith))))
    where
      both : {y z : X} {ys zs : List X} → y ≡ z → ys ≡ zs → y ∷ ys ≡ z ∷ zs
      both e k = rw (e, k) refl
  tabulate-set f g p (suc n) (suc i) x l here there = both (sym (there p (λ z. omega arith))) (tabulate-set f g (suc p) n i x (omega arith) (ap g (omega arith) ∙ here) (λ q ne. there q (λ z. ne (omega arith))))
    where
      both : {y z : X} {ys zs : List X} → y ≡ z → ys ≡ zs → y ∷ ys ≡ z ∷ zs
      both e k = rw (e, k) refl
