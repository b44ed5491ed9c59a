-- What the builds of inserts and merges ask and make.
use Rattle.std.proofs.Common.{◌≡◌, ℕ, ◌+◌, ◌*◌, ◌^◌, ◌<◌, refl, sym, ap, ◌∙◌, arith, true, ◌&&◌, Some}
use Rattle.std.proofs.lemmas.Bool.{and_parts}
use Rattle.lazy_rec.specs.declared.places.Ref.{Ref}
use Rattle.lazy_rec.specs.declared.places.Item.{Item}
use Rattle.lazy_rec.specs.declared.records.Rec.{Rec}
use Rattle.lazy_rec.specs.declared.records.Rec.TheVariants.{TNil, HeapInsert, HeapMerge}
use Rattle.lazy_rec.specs.Numbers.{ones, trailing_ones}
use Rattle.lazy_rec.specs.Units.{steps}
use Rattle.heap_store.specs.Span.{Span}
use Rattle.heap_store.specs.World.{World, recs, is_value}
use Rattle.heap_store.specs.Values.{value_place}
use Rattle.heap_store.specs.Forest.{Forest, no_trees, add_tree, merge, forest, ranks_rise}
use Rattle.heap_store.specs.Lawful.{IsLawful}
use Rattle.heap_store.specs.Hand.{contains}
use Rattle.heap_store.specs.View.{View, IsLawfulView, Put, Fits}
use Rattle.heap_store.specs.Jobs.{IsBuildable, IsBuilt}
use Rattle.heap_store.proofs.NameLaws.{IsPublished}
use Rattle.heap_store.proofs.GrowthLaws.{grows_trans, is_value_up}
use Rattle.heap_store.proofs.ShowLaws.{one_value}
use Rattle.heap_store.proofs.LawfulLaws.{lawful_names, done_there}
use Rattle.heap_store.proofs.MadeLaws.{forest_kept}
use Rattle.heap_store.proofs.MeaningLaws.{means_is}
use Rattle.heap_store.proofs.RecordLaws.{needs_up}
use Rattle.heap_store.proofs.FixedPlaces.{fixed_records, above_fixed}
use Rattle.binom_heap.specs.declared.trees.BinomialTree.{BinomialTree}
use Rattle.binom_heap.specs.Trees.{tree_record, trees_met, merge_places}
use Rattle.binom_heap.specs.Laying.{Puts, MayInsert, MayMerge, Laid}
use Rattle.binom_heap.specs.Work.{is_heap_work, work_places, heap_told}
use Rattle.binom_heap.proofs.BinaryLaws.{ones_most, bits_most, trailing_most}
use Rattle.binom_heap.proofs.TreeLaws.{forest_is, trees_only_is}
use Rattle.binom_heap.proofs.ForestLaws.{add_rises, merge_rises, rank_fits}
use Rattle.binom_heap.proofs.ShapeLaws.{insert_met, merge_takes}
use Rattle.binom_heap.proofs.RunLaws.{puts_none, puts_put, puts_trans, next_held}
use Rattle.binom_heap.proofs.TreePuts.{IsFull, fits_tree}
use Rattle.binom_heap.proofs.Linking.{forest_up, list_up}
use Rattle.binom_heap.proofs.ListValues.{ListAt, DoneList, insert_list, item_fits, merge_list1, merge_list2, list_there, value_trees, known_place, value_place_up}
use Rattle.binom_heap.proofs.DoneWork.{done_work}
use Rattle.binom_heap.proofs.WorkLaws.{WorkBase, work_base}

-- ---- a list whose needs were done when the run was reserved

-- the place of its value lies below the run
value_low : {v : View} {s : Ref} {run : Span} (b : IsBuildable heap_told v s run) → (list place : ℕ) → IsPublished (recs b.base) list → is_value b.base list ≡ true → value_place v.seen list ≡ Some place → place < run.next
value_low {v} {s} {run} b list place is known at =
    let k = known_place b.base_lawful list is known in
    let same : k.0 ≡ place = one_value k.0 place (sym (value_place_up b.base_grows list k.0 is k.1) ∙ at) in
    omega (arith, same, b.above k.0 k.2.0 k.2.1)

-- what a build laid is a value of its suspension
laid_built : {v new : View} {s : Ref} {run run' : Span} (r : Rec) → IsLawfulView new → (b : IsBuildable heap_told v s run) → recs v.seen s.0 ≡ Some r → is_heap_work r ≡ true → {place : ℕ} {f : Forest} → Laid v new run run' (work_places r) place f → ranks_rise 0 f ≡ true → f ≡ forest (recs new.seen) s.0 → steps r < 2 ^ 22 → IsBuilt v new s.0 run run' place (steps r)
laid_built {v} {new} {s} {run} {run'} r law b e work {place} {f} d rise same small =
    let k = work_base b r e work in
    let grows = grows_trans b.base_grows d.puts.filled.grows in
    let at_end : run'.next ≡ run.end = omega (arith, d.puts.next, k.room) in
    let filled = d.puts.filled in
    let fe = d.forest_is in
    record {
      filled = rw at_end at filled;
      spent = omega (arith, at_end, d.puts.same_end);
      value = done_work law.world s.0 place d.list.trees (rw fe rise) (fe ∙ same) r (grows.records s.0 r k.here) work (needs_up b.base new.seen (lawful_names b.base_lawful) grows (done_there b.base_lawful) s.0 r k.here k.needs);
      small = small;
      credits = d.puts.credits;
    }

few_trailing : (n : ℕ) → trailing_ones n + 1 < 2 ^ 22
few_trailing n = omega (arith, trailing_most n, ones_most n, bits_most n)

-- ---- an insert

-- the tree of an item alone
abbrev pub alone : Ref → Item → BinomialTree
alone place item = record { place = place; rank = 0; item = item; kids = record { 0 = 2 } }

pub alone_full : {w : World} → IsLawful w → (place : Ref) (item : Item) → item.0 < 18446744073709551616 → IsFull w (alone place item)
alone_full {w} law place item fits =
    let names = lawful_names law in
    let nil = (fixed_records law).tree_nil in
    let f = forest_is (recs w) names 2 TNil nil in
    let m = means_is (recs w) names 2 TNil nil in
    record { rank = omega arith; item = fits; kids = trees_only_is (recs w) names 2 TNil nil; ranks = rw f refl; order = rw m refl }

module _ {v : View} (law : IsLawfulView v) (s : Ref) (run : Span) (b : IsBuildable heap_told v s run) (item : Item) (list : Ref) (size : ℕ) (e : recs v.seen s.0 ≡ Some (HeapInsert item list size)) where
  insert_base : WorkBase v b.base run s.0 (HeapInsert item list size)
  insert_base = work_base b (HeapInsert item list size) e refl

  list_base : IsPublished (recs b.base) list.0
  list_base = list_there (insert_list b.base_lawful s.0 item list size insert_base.here)

  known_base : is_value b.base list.0 ≡ true
  known_base = (and_parts (is_value b.base list.0) true insert_base.needs).0

  pub insert_known : is_value v.seen list.0 ≡ true
  insert_known = is_value_up b.base v.seen b.base_grows list.0 known_base

  pub insert_there : IsPublished (recs v.seen) list.0
  insert_there = list_there (insert_list law.world s.0 item list size e)

  insert_held : contains v.hand.reserved run.next ≡ true
  insert_held = next_held b.held (omega (arith, insert_base.room))

  pub insert_left : run.next < run.end
  insert_left = omega (arith, insert_base.room)

  pub alone_fits : (place : Ref) → Fits v run.next (tree_record (alone place item))
  alone_fits place = fits_tree law run.next insert_held (alone place item) (alone_full law.world place item (item_fits law.world s.0 item list size e)) (omega (arith, above_fixed law run.next insert_held))

  module _ (trees : Ref) (at : value_place v.seen list.0 ≡ Some trees.0) where
    insert_done : DoneList v.seen list.0 trees.0 size
    insert_done = value_trees law.world s.0 list.0 size trees.0 (insert_list law.world s.0 item list size e) at

    size_fits : size < 2147483648
    size_fits = (insert_list law.world s.0 item list size e).fits

    met : trees_met 0 (forest (recs v.seen) trees.0) ≡ trailing_ones size
    met = insert_met size (forest (recs v.seen) trees.0) (omega (arith, size_fits)) insert_done.rise insert_done.weight_is

    module _ {v1 : View} (law1 : IsLawfulView v1) (run1 : Span) (place : Ref) (p : Put v v1 run.next (tree_record (alone place item))) (at1 : run1 ≡ record run { next = run.next + 1 }) (place_is : place.0 ≡ run.next) where
      alone_puts : Puts v v1 run run1 1
      alone_puts = puts_put (puts_none v run b.held) p at1 refl

      trees_kept : forest (recs v1.seen) trees.0 ≡ forest (recs v.seen) trees.0
      trees_kept = forest_up law.world p.grows trees.0 insert_done.trees

      pub insert_asks : MayInsert v1 run1 (alone place item) trees.0
      insert_asks =
          let f = trees_kept in
          record {
            held = alone_puts.held;
            room = rw f (omega (arith, insert_base.room, met, alone_puts.next, alone_puts.same_end));
            tree_is = record { there = rw place_is p.here; low = rw (at1, place_is) (omega arith) };
            list_is = list_up {a = v.seen} {p = run.next} law.world p.grows (omega (arith, alone_puts.next)) (record { trees = insert_done.trees; low = value_low b list.0 trees.0 list_base known_base at });
            rise = rw f insert_done.rise;
            rank = rw f (rank_fits 0 (forest (recs v.seen) trees.0) (omega (arith, insert_done.weight_is, size_fits)));
          }

      pub insert_built : {v2 : View} → IsLawfulView v2 → (run2 : Span) (made : ℕ) → Laid v1 v2 run1 run2 (2 * trees_met 0 (forest (recs v1.seen) trees.0) + 1) made (add_tree 0 item.0 (forest (recs v1.seen) 2) (forest (recs v1.seen) trees.0)) → IsBuilt v v2 s.0 run run2 made (trailing_ones size + 1)
      insert_built {v2} law2 run2 made d =
          let f = trees_kept in
          let none = forest_is (recs v1.seen) (lawful_names law1.world) 2 TNil (fixed_records law1.world).tree_nil in
          let grows = grows_trans p.grows d.puts.filled.grows in
          let count : 1 + (2 * trees_met 0 (forest (recs v1.seen) trees.0) + 1) ≡ 2 * (trailing_ones size + 1) = rw f (omega (arith, met)) in
          let puts = puts_trans alone_puts d.puts in
          let forest_same : add_tree 0 item.0 (forest (recs v1.seen) 2) (forest (recs v1.seen) trees.0) ≡ add_tree 0 item.0 no_trees (forest (recs v.seen) trees.0) = rw (none, f) refl in
          let laid : Laid v v2 run run2 (2 * (trailing_ones size + 1)) made (add_tree 0 item.0 no_trees (forest (recs v.seen) trees.0)) = record { puts = rw count at puts; list = d.list; forest_is = d.forest_is ∙ forest_same } in
          let kept = forest_kept (recs v.seen) (recs v2.seen) (lawful_names law.world) grows.records list.0 insert_there in
          let same : add_tree 0 item.0 no_trees (forest (recs v.seen) trees.0) ≡ forest (recs v2.seen) s.0 = ap (add_tree 0 item.0 no_trees) (insert_done.same ∙ kept) ∙ sym (forest_is (recs v2.seen) (lawful_names law2.world) s.0 _ (grows.records s.0 _ e)) in
          laid_built (HeapInsert item list size) law2 b e refl laid (add_rises 0 item.0 no_trees (forest (recs v.seen) trees.0) insert_done.rise) same (few_trailing size)

-- ---- a merge

module _ {v : View} (law : IsLawfulView v) (s : Ref) (run : Span) (b : IsBuildable heap_told v s run) (list1 list2 : Ref) (n1 n2 : ℕ) (e : recs v.seen s.0 ≡ Some (HeapMerge list1 list2 n1 n2)) where
  merge_base : WorkBase v b.base run s.0 (HeapMerge list1 list2 n1 n2)
  merge_base = work_base b (HeapMerge list1 list2 n1 n2) e refl

  at1 : ListAt v.seen s.0 list1.0 n1
  at1 = merge_list1 law.world s.0 list1 list2 n1 n2 e

  at2 : ListAt v.seen s.0 list2.0 n2
  at2 = merge_list2 law.world s.0 list1 list2 n1 n2 e

  known_both : (is_value b.base list1.0 ≡ true) × (is_value b.base list2.0 ≡ true)
  known_both =
      let k = and_parts (is_value b.base list1.0) (is_value b.base list2.0 && true) merge_base.needs in
      (k.0, (and_parts (is_value b.base list2.0) true k.1).0)

  pub merge_known1 : is_value v.seen list1.0 ≡ true
  merge_known1 = is_value_up b.base v.seen b.base_grows list1.0 known_both.0

  pub merge_known2 : is_value v.seen list2.0 ≡ true
  merge_known2 = is_value_up b.base v.seen b.base_grows list2.0 known_both.1

  pub merge_there1 : IsPublished (recs v.seen) list1.0
  merge_there1 = list_there at1

  pub merge_there2 : IsPublished (recs v.seen) list2.0
  merge_there2 = list_there at2

  module _ (trees1 trees2 : Ref) (is1 : value_place v.seen list1.0 ≡ Some trees1.0) (is2 : value_place v.seen list2.0 ≡ Some trees2.0) where
    done1 : DoneList v.seen list1.0 trees1.0 n1
    done1 = value_trees law.world s.0 list1.0 n1 trees1.0 at1 is1

    done2 : DoneList v.seen list2.0 trees2.0 n2
    done2 = value_trees law.world s.0 list2.0 n2 trees2.0 at2 is2

    takes : merge_places (forest (recs v.seen) trees1.0) (forest (recs v.seen) trees2.0) ≡ work_places (HeapMerge list1 list2 n1 n2)
    takes = merge_takes n1 n2 (forest (recs v.seen) trees1.0) (forest (recs v.seen) trees2.0) (omega (arith, at1.fits)) (omega (arith, at2.fits)) done1.rise done1.weight_is done2.rise done2.weight_is

    pub merge_asks : MayMerge v run trees1.0 trees2.0
    merge_asks = record {
      held = b.held;
      room = omega (arith, merge_base.room, takes);
      first_is = record { trees = done1.trees; low = value_low b list1.0 trees1.0 (list_there (merge_list1 b.base_lawful s.0 list1 list2 n1 n2 merge_base.here)) known_both.0 is1 };
      second_is = record { trees = done2.trees; low = value_low b list2.0 trees2.0 (list_there (merge_list2 b.base_lawful s.0 list1 list2 n1 n2 merge_base.here)) known_both.1 is2 };
      rise1 = done1.rise;
      rise2 = done2.rise;
      small = omega (arith, done1.weight_is, done2.weight_is, at1.fits, at2.fits);
    }

    pub merge_built : {v1 : View} → IsLawfulView v1 → (run1 : Span) (made : ℕ) → Laid v v1 run run1 (merge_places (forest (recs v.seen) trees1.0) (forest (recs v.seen) trees2.0)) made (merge (forest (recs v.seen) trees1.0) (forest (recs v.seen) trees2.0)) → IsBuilt v v1 s.0 run run1 made (1 + ones n1 + ones n2)
    merge_built {v1} law1 run1 made d =
        let grows = d.puts.filled.grows in
        let kept1 = forest_kept (recs v.seen) (recs v1.seen) (lawful_names law.world) grows.records list1.0 merge_there1 in
        let kept2 = forest_kept (recs v.seen) (recs v1.seen) (lawful_names law.world) grows.records list2.0 merge_there2 in
        let f1 = done1.same ∙ kept1 in
        let f2 = done2.same ∙ kept2 in
        let same : merge (forest (recs v.seen) trees1.0) (forest (recs v.seen) trees2.0) ≡ forest (recs v1.seen) s.0 = rw (f1, f2) (sym (forest_is (recs v1.seen) (lawful_names law1.world) s.0 _ (grows.records s.0 _ e))) in
        laid_built (HeapMerge list1 list2 n1 n2) law1 b e refl (rw takes at d) (merge_rises (forest (recs v.seen) trees1.0) 0 (forest (recs v.seen) trees2.0) done1.rise done2.rise) same (omega (arith, ones_most n1, bits_most n1, ones_most n2, bits_most n2))
