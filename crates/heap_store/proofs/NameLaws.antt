-- Facts on named places, and functions that look at named places alone.
use Rattle.std.specs.Prelude.{◌≡◌, ℕ, ◌<◌, Some, None}
use Rattle.std.specs.List.{AllByRecursion}
use Rattle.lazy_rec.specs.declared.records.Rec.{Rec}
use Rattle.lazy_rec.specs.Named.{Records, NamedPlace, named, sort_of}

abbrev pub IsPublished : Records → ℕ → Type 0
IsPublished recs p = (r : Rec) × (recs p ≡ Some r)

-- a place that a record at p names is published, lower and of its sort
abbrev pub IsNamedWell : Records → ℕ → NamedPlace → Type 0
IsNamedWell recs p q = (q.0 < p) × (r : Rec) × (recs q.0 ≡ Some r) × (sort_of r ≡ q.1)

abbrev pub NamesWell : Records → Type 0
NamesWell recs = (p : ℕ) (r : Rec) → recs p ≡ Some r → AllByRecursion (IsNamedWell recs p) (named r)

-- one more record, at a place that wasn't published
pub record Adds (a b : Records) (p : ℕ) (r : Rec) : Type 0 where
  pub fresh : a p ≡ None
  pub there : b p ≡ Some r
  pub others : (q : ℕ) → (q ≡ p → ⊥) → b q ≡ a q

-- a function that looks at lower places only where the record names them
abbrev pub LooksAtNamed : {X : Type 0} → ((ℕ → X) → Rec → X) → Type 0
LooksAtNamed {X} f = (r : Rec) (g h : ℕ → X) → AllByRecursion (λ (q : NamedPlace). g q.0 ≡ h q.0) (named r) → f g r ≡ f h r
