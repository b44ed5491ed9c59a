-- Sums over records and over lists of places.
use Rattle.std.proofs.Common.{◌≡◌, ℕ, zero, suc, ◌<◌, ◌≤◌, ◌+◌, refl, sym, ap, ◌∙◌, arith, ⊎_elim, Option, Some, None, List, [], ◌∷◌, ◌++◌, length, replicate}
use Rattle.std.specs.Prelude.{sum_by, slice_set, slice_index_or}
use Rattle.std.proofs.lemmas.Bool.{cases_eq}
use Rattle.std.proofs.lemmas.List.Sums.{sum_by-cons, sum_by-append, sum_by-set}
use Rattle.lazy_rec.specs.declared.records.Rec.{Rec}
use Rattle.lazy_rec.specs.Named.{Records, at_record}
use Rattle.heap_store.specs.declared.nodes.Node.{Node}
use Rattle.heap_store.specs.World.{World, recs, node_at}
use Rattle.heap_store.specs.Budget.{sum_below, sum_records}

-- what a sum adds for a place
abbrev pub term : Records → (ℕ → Rec → ℕ) → ℕ → ℕ
term rs f p = at_record 0 (f p) (rs p)

pub term-le : (rs : Records) (f g : ℕ → Rec → ℕ) (p : ℕ) → ((r : Rec) → rs p ≡ Some r → f p r ≤ g p r) → term rs f p ≤ term rs g p
term-le rs f g p h = by (rs p) refl
  where
    by : (o : Option Rec) → rs p ≡ o → at_record 0 (f p) o ≤ at_record 0 (g p) o
    by None e = omega arith
    by (Some r) e = h r e

module _ (a b : Records) (f g : ℕ → Rec → ℕ) where
  pub sum-same : (n : ℕ) → ((q : ℕ) → q < n → term a f q ≡ term b g q) → sum_below n a f ≡ sum_below n b g
  sum-same zero h = refl
  sum-same (suc n) h = omega (arith, h n (omega arith), sum-same n (λ q l. h q (omega arith)))

  pub sum-le : (n : ℕ) → ((q : ℕ) → q < n → term a f q ≤ term b g q) → sum_below n a f ≤ sum_below n b g
  sum-le zero h = omega arith
  sum-le (suc n) h = omega (arith, h n (omega arith), sum-le n (λ q l. h q (omega arith)))

  -- a sum of which one term changes
  pub sum-changed : (p n : ℕ) → p < n → ((q : ℕ) → (q ≡ p → ⊥) → term a f q ≡ term b g q) → sum_below n b g + term a f p ≡ sum_below n a f + term b g p
  sum-changed p zero l h = absurd (omega arith)
  sum-changed p (suc n) l h = ⊎_elim
      (λ e. omega (arith, sum-same n (λ q low. h q (λ z. absurd (omega (arith, z, e, low)))), ap (term a f) e, ap (term b g) e))
      (λ ne. omega (arith, sum-changed p n (omega arith) h, h n ne))
      (cases_eq n p)

pub sum-both : (rs : Records) (f g : ℕ → Rec → ℕ) (n : ℕ) → sum_below n rs (λ p r. f p r + g p r) ≡ sum_below n rs f + sum_below n rs g
sum-both rs f g zero = refl
sum-both rs f g (suc n) = omega (arith, sum-both rs f g n, both (rs n))
  where
    both : (o : Option Rec) → at_record 0 (λ r. f n r + g n r) o ≡ at_record 0 (f n) o + at_record 0 (g n) o
    both None = refl
    both (Some r) = refl

-- ---- lists

-- what a function of the places of a list adds up to
below_sum : ℕ → (ℕ → ℕ) → ℕ
below_sum zero h = 0
below_sum (suc n) h = h n + below_sum n h

from_first : (n : ℕ) (h : ℕ → ℕ) → below_sum (suc n) h ≡ h 0 + below_sum n (λ k. h (suc k))
unfolding below_sum
from_first zero h = refl
from_first (suc n) h = let ih = from_first n h in omega (arith, ih)

list_sum : {X : Type 0} (f : X → ℕ) (d : X) (xs : List X) → below_sum (length xs) (λ k. f (slice_index_or xs k d)) ≡ sum_by f xs
unfolding below_sum
list_sum f d [] = refl
list_sum f d (x ∷ xs) = from_first (length xs) (λ k. f (slice_index_or (x ∷ xs) k d)) ∙ ap (λ z. f x + z) (list_sum f d xs) ∙ sym (sum_by-cons f x xs)

below_le : (rs : Records) (f : ℕ → Rec → ℕ) (h : ℕ → ℕ) (n : ℕ) → ((q : ℕ) → h q ≤ term rs f q) → below_sum n h ≤ sum_below n rs f
unfolding below_sum
below_le rs f h zero le = omega arith
below_le rs f h (suc n) le = omega (arith, le n, below_le rs f h n le)

below_ge : (rs : Records) (f : ℕ → Rec → ℕ) (h : ℕ → ℕ) (n : ℕ) → ((q : ℕ) → term rs f q ≤ h q) → sum_below n rs f ≤ below_sum n h
unfolding below_sum
below_ge rs f h zero le = omega arith
below_ge rs f h (suc n) le = omega (arith, le n, below_ge rs f h n le)

-- a sum that is no greater place by place, where what is past the lists adds nothing
pub sum_more : {X : Type 0} (f : X → ℕ) (d : X) → f d ≡ 0 → (xs ys : List X) → ((k : ℕ) → f (slice_index_or xs k d) ≤ f (slice_index_or ys k d)) → sum_by f xs ≤ sum_by f ys
sum_more f d none [] ys h = omega arith
sum_more f d none (x ∷ xs) [] h = omega (arith, sum_by-cons f x xs, none, h 0, sum_more f d none xs [] (λ k. h (suc k)))
sum_more f d none (x ∷ xs) (y ∷ ys) h = omega (arith, sum_by-cons f x xs, sum_by-cons f y ys, h 0, sum_more f d none xs ys (λ k. h (suc k)))

module _ (w : World) (f : Option Node → ℕ) (g : ℕ → Rec → ℕ) where
  -- a sum over the places of a world, by what each place shows
  pub nodes_le : ((q : ℕ) → f (node_at w q) ≤ term (recs w) g q) → sum_by f w.nodes ≤ sum_records w g
  nodes_le le = omega (arith, list_sum f None w.nodes, below_le (recs w) g (λ k. f (node_at w k)) (length w.nodes) le)

  pub nodes_ge : ((q : ℕ) → term (recs w) g q ≤ f (node_at w q)) → sum_records w g ≤ sum_by f w.nodes
  nodes_ge le = omega (arith, list_sum f None w.nodes, below_ge (recs w) g (λ k. f (node_at w k)) (length w.nodes) le)

-- ---- places of a store

-- places that show nothing add nothing
sum-free : (f : Option Node → ℕ) → f None ≡ 0 → (k : ℕ) → sum_by f (replicate k None) ≡ 0
sum-free f none zero = refl
sum-free f none (suc k) = omega (arith, sum_by-cons f None (replicate k None), none, sum-free f none k)

pub sum-drawn : (f : Option Node → ℕ) → f None ≡ 0 → (places : List (Option Node)) (k : ℕ) → sum_by f (places ++ replicate k None) ≡ sum_by f places
sum-drawn f none places k = omega (arith, sum_by-append f places (replicate k None), sum-free f none k)

-- a place shows another node
pub sum-shown : (f : Option Node → ℕ) (places : List (Option Node)) (p : ℕ) (old new : Option Node) → p < length places → slice_index_or places p None ≡ old → sum_by f (slice_set places p new) + f old ≡ sum_by f places + f new
sum-shown f places p old new l e = omega (arith, sum_by-set f places p new None l, ap f e)
