-- What a done suspension keeps: a value of its meaning, made of its needs, and its steps.
use Rattle.std.specs.Prelude.{◌≡◌, ℕ, leb, Bool, true, not, ◌&&◌, [], ◌∷◌}
use Rattle.std.specs.List.{list_all}
use Rattle.lazy_rec.specs.declared.records.Rec.{Rec}
use Rattle.lazy_rec.specs.declared.records.Sort.TheVariants as sorts
use Rattle.lazy_rec.specs.declared.events.Kind.TheVariants as kinds
use Rattle.lazy_rec.specs.Tests.{implies}
use Rattle.lazy_rec.specs.Named.{Records, sort_of, same_sort, is_pending}
use Rattle.lazy_rec.specs.Meaning.{cells, means}
use Rattle.lazy_rec.specs.Units.{steps}
use Rattle.heap_store.specs.World.{World, recs, holds, is_value}
use Rattle.heap_store.specs.Forest.{is_tree_list}
use Rattle.heap_store.specs.Keys.{keeps_keys}
use Rattle.heap_store.specs.Levels.{level, is_of_level}
use Rattle.heap_store.specs.Completion.{is_made}
use Rattle.heap_store.specs.Heights.{needs, height}

abbrev pub keeps_each_kind : Records → ℕ → ℕ → Bool
keeps_each_kind rs p q = list_all (λ k. implies (keeps_keys k rs p) (keeps_keys k rs q)) (kinds.Seq ∷ kinds.Prio ∷ kinds.Ord ∷ [])

-- what the suspension r at p keeps when it is done: the place of its value, made of its needs, and its steps
pub record IsDoneWell (w : World) (p : ℕ) (r : Rec) (d : ℕ × ℕ) : Type 0 where
  pub pending : is_pending r ≡ true
  pub value : holds (recs w) d.0 (λ s. not (is_pending s) && same_sort (sort_of s) (sort_of r)) ≡ true
  pub needs : list_all (is_value w) (needs w r) ≡ true
  pub made : is_made w p r d.0 ≡ true
  pub steps : d.1 ≡ steps r
  pub height : leb (height (recs w) d.0) (height (recs w) p) ≡ true
  pub trees : implies (same_sort (sort_of r) sorts.TreeList) (is_tree_list (recs w) d.0) ≡ true
  pub keys : implies (same_sort (sort_of r) sorts.Finger) (keeps_each_kind (recs w) p d.0) ≡ true
  pub levels : implies (same_sort (sort_of r) sorts.Finger) (is_of_level (recs w) d.0 (level (recs w) p)) ≡ true
  pub means : means (recs w) d.0 ≡ means (recs w) p
  pub cells : cells (recs w) d.0 ≡ cells (recs w) p
