-- What a suspension of a heap is completed with: a list of the trees that it stands for.
use Rattle.std.proofs.Common.{◌≡◌, ℕ, refl, sym, ap, ◌∙◌, arith, true, not, ◌&&◌, Some, []}
use Rattle.std.specs.List.{list_all}
use Rattle.std.proofs.lemmas.Bool.{true≢false, and_from, le-leb}
use Rattle.lazy_rec.specs.declared.records.Rec.{Rec}
use Rattle.lazy_rec.specs.declared.records.Rec.TheVariants.{TNil, TCons, HeapInsert, HeapMerge}
use Rattle.lazy_rec.specs.Named.{sort_of, same_sort, is_pending}
use Rattle.lazy_rec.specs.Meaning.{cells, means}
use Rattle.lazy_rec.specs.Plain.{rising}
use Rattle.lazy_rec.specs.Units.{steps}
use Rattle.heap_store.specs.World.{World, recs, holds, is_value}
use Rattle.heap_store.specs.Forest.{forest, is_trees_only, ranks_rise}
use Rattle.heap_store.specs.Lawful.{IsLawful, IsDoneWell, needs, height}
use Rattle.heap_store.specs.View.{MayComplete}
use Rattle.heap_store.proofs.ShowLaws.{one_value}
use Rattle.heap_store.proofs.LawfulLaws.{lawful_names}
use Rattle.heap_store.proofs.MeaningLaws.{cells_is}
use Rattle.binom_heap.specs.Work.{is_heap_work}
use Rattle.binom_heap.proofs.ForestItems.{items}
use Rattle.binom_heap.proofs.TreeLaws.{TreesCase, nil, cell, trees_case, means_forest, trees_height}
use Rattle.binom_heap.proofs.ListValues.{forest_self}

module _ {w : World} (law : IsLawful w) (s place : ℕ) (only : is_trees_only (recs w) place ≡ true) (rise : ranks_rise 0 (forest (recs w) place) ≡ true) (same : forest (recs w) place ≡ forest (recs w) s) where
  no_cells : TreesCase (recs w) place → cells (recs w) place ≡ []
  no_cells (nil z) = cells_is (recs w) (lawful_names law) place _ z
  no_cells (cell tree rest z more) = cells_is (recs w) (lawful_names law) place _ z

  place_means : TreesCase (recs w) place → means (recs w) place ≡ rising (items (forest (recs w) place))
  place_means (nil z) = means_forest law place TNil z refl
  place_means (cell tree rest z more) = means_forest law place (TCons tree rest) z refl

  by_insert : (item : _) (list : _) (size : ℕ) → recs w s ≡ Some (HeapInsert item list size) → list_all (is_value w) (needs w (HeapInsert item list size)) ≡ true → IsDoneWell w s (HeapInsert item list size) (place, steps (HeapInsert item list size))
  by_insert item list size e need = record {
    pending = refl;
    value = value_of (trees_case law place only);
    needs = need;
    made = rw same (forest_self (forest (recs w) s));
    steps = refl;
    height = le-leb (height (recs w) place) (height (recs w) s) (omega (arith, trees_height law place only));
    trees = and_from (is_trees_only (recs w) place) (ranks_rise 0 (forest (recs w) place)) only rise;
    keys = refl;
    levels = refl;
    means = place_means (trees_case law place only) ∙ ap (λ f. rising (items f)) same ∙ sym (means_forest law s _ e refl);
    cells = no_cells (trees_case law place only) ∙ sym (cells_is (recs w) (lawful_names law) s _ e);
  }
    where
      value_of : TreesCase (recs w) place → holds (recs w) place (λ t. not (is_pending t) && same_sort (sort_of t) (sort_of (HeapInsert item list size))) ≡ true
      value_of (nil z) = rw z refl
      value_of (cell tree rest z more) = rw z refl

  by_merge : (list1 list2 : _) (n1 n2 : ℕ) → recs w s ≡ Some (HeapMerge list1 list2 n1 n2) → list_all (is_value w) (needs w (HeapMerge list1 list2 n1 n2)) ≡ true → IsDoneWell w s (HeapMerge list1 list2 n1 n2) (place, steps (HeapMerge list1 list2 n1 n2))
  by_merge list1 list2 n1 n2 e need = record {
    pending = refl;
    value = value_of (trees_case law place only);
    needs = need;
    made = rw same (forest_self (forest (recs w) s));
    steps = refl;
    height = le-leb (height (recs w) place) (height (recs w) s) (omega (arith, trees_height law place only));
    trees = and_from (is_trees_only (recs w) place) (ranks_rise 0 (forest (recs w) place)) only rise;
    keys = refl;
    levels = refl;
    means = place_means (trees_case law place only) ∙ ap (λ f. rising (items f)) same ∙ sym (means_forest law s _ e refl);
    cells = no_cells (trees_case law place only) ∙ sym (cells_is (recs w) (lawful_names law) s _ e);
  }
    where
      value_of : TreesCase (recs w) place → holds (recs w) place (λ t. not (is_pending t) && same_sort (sort_of t) (sort_of (HeapMerge list1 list2 n1 n2))) ≡ true
      value_of (nil z) = rw z refl
      value_of (cell tree rest z more) = rw z refl

  pub done_work : (r : Rec) → recs w s ≡ Some r → is_heap_work r ≡ true → list_all (is_value w) (needs w r) ≡ true → MayComplete w s place (steps r)
  done_work r e work need q h = let z = one_value r q (sym e ∙ h) in rw (← z) (by r e work need)
    where
      by : (r : Rec) → recs w s ≡ Some r → is_heap_work r ≡ true → list_all (is_value w) (needs w r) ≡ true → IsDoneWell w s r (place, steps r)
      by (HeapInsert item list size) e work need = by_insert item list size e need
      by (HeapMerge list1 list2 n1 n2) e work need = by_merge list1 list2 n1 n2 e need
      by _ e work need = absurd (true≢false (sym work))
