-- The places that a record names, as facts and as tests.
use Rattle.std.proofs.Common.{◌≡◌, ℕ, refl, ap, ◌∙◌, ltb, true, List, [], ◌∷◌}
use Rattle.std.specs.List.{AllByRecursion, list_all}
use Rattle.std.proofs.lemmas.Bool.{and_from, eq-eqb, lt-ltb}
use Rattle.lazy_rec.specs.declared.records.Sort.{Sort}
use Rattle.lazy_rec.specs.Named.{Records, NamedPlace, sort_of, sort_number, same_sort}
use Rattle.heap_store.specs.World.{holds, Keeps}
use Rattle.heap_store.specs.Lawful.{is_named_well}
use Rattle.heap_store.proofs.NameLaws.{IsNamedWell}

pub sort_self : (s : Sort) → same_sort s s ≡ true
sort_self s = eq-eqb (sort_number s) (sort_number s) refl

-- a named place has its sort
pub named_sort : (rs : Records) (p : ℕ) (q : NamedPlace) → IsNamedWell rs p q → holds rs q.0 (λ s. same_sort (sort_of s) q.1) ≡ true
named_sort rs p q n = rw n.2 (ap (λ s. same_sort s q.1) n.3 ∙ sort_self q.1)

-- a larger world names it well
pub name_well : (a b : Records) → Keeps a b → (p : ℕ) (q : NamedPlace) → IsNamedWell a p q → is_named_well b p q ≡ true
name_well a b keeps p q n = and_from (ltb q.0 p) (holds b q.0 (λ s. same_sort (sort_of s) q.1)) (lt-ltb q.0 p n.0) (rw (keeps q.0 n.1 n.2, n.3) (sort_self q.1))

pub names_well_all : (a b : Records) → Keeps a b → (p : ℕ) (qs : List NamedPlace) → AllByRecursion (IsNamedWell a p) qs → list_all (is_named_well b p) qs ≡ true
names_well_all a b keeps p [] n = refl
names_well_all a b keeps p (q ∷ qs) n = and_from (is_named_well b p q) (list_all (is_named_well b p) qs) (name_well a b keeps p q n.0) (names_well_all a b keeps p qs n.1)
