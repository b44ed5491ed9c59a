-- Lists of trees alone, as the sides of a merge.
use Rattle.std.proofs.Common.{◌≡◌, ℕ, ◌≤◌, refl, sym, ◌∙◌, arith, true, []}
use Rattle.std.proofs.lemmas.Bool.{and_from, or_right}
use Rattle.lazy_rec.specs.Named.{is_pending}
use Rattle.lazy_rec.specs.Units.{list_units}
use Rattle.heap_store.specs.World.{World, recs, holds}
use Rattle.heap_store.specs.Forest.{forest, is_trees_only, is_tree_list, ranks_rise}
use Rattle.heap_store.specs.Lawful.{IsLawful}
use Rattle.heap_store.proofs.LawfulLaws.{lawful_names}
use Rattle.binom_heap.specs.declared.heap.Top.{Top}
use Rattle.binom_heap.specs.Trees.{weight}
use Rattle.binom_heap.specs.Laying.{IsList}
use Rattle.binom_heap.specs.Heap.{IsShownTop}
use Rattle.binom_heap.proofs.TreeLaws.{TreesCase, nil, cell, trees_case}
use Rattle.binom_heap.proofs.TreePuts.{trees_named}
use Rattle.binom_heap.proofs.ShapeLaws.{list_weight}
use Rattle.binom_heap.proofs.ListUnits.{list_units_is}
use Rattle.binom_heap.proofs.ListValues.{ListAt}
use Rattle.binom_heap.proofs.Tops.{new_top}

-- it has no units
side_units : {w : World} → IsLawful w → (list : ℕ) → is_trees_only (recs w) list ≡ true → list_units (recs w) list ≡ []
side_units {w} law list only = go (trees_case law list only)
  where
    go : TreesCase (recs w) list → list_units (recs w) list ≡ []
    go (nil e) = list_units_is (recs w) (lawful_names law) list _ e
    go (cell tree rest e more) = list_units_is (recs w) (lawful_names law) list _ e

-- the top of such a list owes nothing, and shows nothing
pub side_top : {w : World} → IsLawful w → (t : Top) (place : ℕ) → IsList w t.list.0 place → ranks_rise 0 (forest (recs w) t.list.0) ≡ true → weight (forest (recs w) t.list.0) ≡ t.size → t.size ≤ 2147483647 → t.owed ≡ 0 → IsShownTop w t place
side_top {w} law t place k rise weight_is fits none =
    let list : ListAt w place t.list.0 t.size = record {
      named = trees_named law place t.list.0 k.trees k.low;
      list_is = or_right (holds (recs w) t.list.0 is_pending) (is_tree_list (recs w) t.list.0) (and_from (is_trees_only (recs w) t.list.0) (ranks_rise 0 (forest (recs w) t.list.0)) k.trees rise);
      size_is = sym (list_weight law t.list.0 k.trees ∙ weight_is);
      fits = omega (arith, fits);
    } in
    let u = side_units law t.list.0 k.trees in
    record { top = new_top list (omega (arith, none)) (omega (arith, none)); shown = rw (none, u) refl }
