-- Lists that are merged.
use Rattle.std.proofs.Common.{◌≡◌, ℕ, suc, ◌+◌, ◌*◌, ◌^◌, ◌<◌, ◌≤◌, leb, ltb, min, refl, sym, ap, ◌∙◌, arith, true, false, ◌&&◌}
use Rattle.std.proofs.lemmas.Grind.{common_steps}
use Rattle.std.proofs.lemmas.Bool.{and_parts, lt-ltb}
use Rattle.heap_store.specs.Span.{Span}
use Rattle.heap_store.specs.World.{recs}
use Rattle.heap_store.specs.Forest.{Forest, no_trees, a_tree, in_front, add_tree, merge_first, merge, forest, ranks_rise}
use Rattle.heap_store.specs.Lawful.{IsLawful}
use Rattle.heap_store.specs.View.{View, Quiet}
use Rattle.binom_heap.specs.declared.trees.BinomialTree.{BinomialTree}
use Rattle.binom_heap.specs.declared.trees.FirstTree.{FirstTree}
use Rattle.binom_heap.specs.Trees.{IsFirst, linked_kids, weight, trees_met, first_places, merge_places}
use Rattle.binom_heap.specs.Laying.{IsTree, IsList, MayPutCell, MayInsert, MayMerge, MayLink, Linked, Laid}
use Rattle.binom_heap.proofs.ForestLaws.{twice, rise_lower, merge_weight, merge_rises, rank_fits}
use Rattle.binom_heap.proofs.FirstTrees.{FirstIs, tree_before, tree_forest, first_is}
use Rattle.binom_heap.proofs.RunLaws.{puts_none, puts_trans}
use Rattle.binom_heap.proofs.Linking.{forest_up, kids_up, tree_up, list_up, tree_there_up, tree_kept, tree_shown}
use Rattle.binom_heap.proofs.Inserting.{laid_same, quiet_laid}

-- ---- merges of forests, by the ranks of their first trees

merge_lower : (r x : ℕ) (k after : Forest) (r' x' : ℕ) (k' more : Forest) → r < r' → merge (a_tree r x k after) (a_tree r' x' k' more) ≡ a_tree r x k (merge after (a_tree r' x' k' more))
merge_lower r x k after r' x' k' more lt = let h = lt-ltb r r' lt in rw (h, merge_first) refl

pub places_lower : (r x : ℕ) (k after : Forest) (r' x' : ℕ) (k' more : Forest) → r < r' → merge_places (a_tree r x k after) (a_tree r' x' k' more) ≡ merge_places after (a_tree r' x' k' more) + 1
places_lower r x k after r' x' k' more lt = let h = lt-ltb r r' lt in rw (h, first_places) refl

not_lower : (r r' : ℕ) → r' ≤ r → ltb r r' ≡ false
not_lower r r' le = grind (arith, common_steps, le)

merge_higher : (r x : ℕ) (k after : Forest) (r' x' : ℕ) (k' more : Forest) → r' < r → merge (a_tree r x k after) (a_tree r' x' k' more) ≡ a_tree r' x' k' (merge (a_tree r x k after) more)
merge_higher r x k after r' x' k' more lt = let h = not_lower r r' (omega (arith, lt)) in let h' = lt-ltb r' r lt in rw (h, merge_first) (rw h' refl)

pub places_higher : (r x : ℕ) (k after : Forest) (r' x' : ℕ) (k' more : Forest) → r' < r → merge_places (a_tree r x k after) (a_tree r' x' k' more) ≡ merge_places (a_tree r x k after) more + 1
places_higher r x k after r' x' k' more lt = let h = not_lower r r' (omega (arith, lt)) in let h' = lt-ltb r' r lt in rw (h, first_places) (rw h' refl)

merge_equal : (r x : ℕ) (k after : Forest) (x' : ℕ) (k' more : Forest) → merge (a_tree r x k after) (a_tree r x' k' more) ≡ add_tree (suc r) (min x x') (linked_kids r x k r x' k') (merge after more)
merge_equal r x k after x' k' more = let h = not_lower r r (omega arith) in rw (h, merge_first) (rw h refl)

pub places_equal : (r x : ℕ) (k after : Forest) (x' : ℕ) (k' more : Forest) → merge_places (a_tree r x k after) (a_tree r x' k' more) ≡ merge_places after more + 2 + (2 * trees_met (suc r) (merge after more) + 1)
places_equal r x k after x' k' more = let h = not_lower r r (omega arith) in rw (h, first_places) (rw h refl)

merge_none : (f : Forest) → merge f no_trees ≡ f
merge_none no_trees = refl
merge_none (a_tree r x k more) = refl

pub places_none : (f : Forest) → merge_places f no_trees ≡ 0
places_none no_trees = refl
places_none (a_tree r x k more) = refl

-- ---- what is asked of a later view, and what was laid of an earlier one

pub merge_quiet : {a b : View} {run : Span} {list1 list2 : ℕ} → IsLawful a.seen → Quiet a b → MayMerge a run list1 list2 → MayMerge b run list1 list2
merge_quiet {a} {b} {run} {list1} {list2} law q k =
    let f1 = forest_up law q.grows list1 k.first_is.trees in
    let f2 = forest_up law q.grows list2 k.second_is.trees in
    record {
      held = (let z = q.hand in rw z k.held);
      room = rw (f1, f2) k.room;
      first_is = list_up law q.grows (omega arith) k.first_is;
      second_is = list_up law q.grows (omega arith) k.second_is;
      rise1 = rw f1 k.rise1;
      rise2 = rw f2 k.rise2;
      small = rw (f1, f2) k.small;
    }

pub merge_same : {v seen new : View} {run run' : Span} {list1 list2 place : ℕ} → IsLawful v.seen → Quiet v seen → MayMerge v run list1 list2
    → Laid seen new run run' (merge_places (forest (recs seen.seen) list1) (forest (recs seen.seen) list2)) place (merge (forest (recs seen.seen) list1) (forest (recs seen.seen) list2))
    → Laid v new run run' (merge_places (forest (recs v.seen) list1) (forest (recs v.seen) list2)) place (merge (forest (recs v.seen) list1) (forest (recs v.seen) list2))
merge_same {v} {seen} {new} {run} {run'} {list1} {list2} law q k d =
    let f1 = forest_up law q.grows list1 k.first_is.trees in
    let f2 = forest_up law q.grows list2 k.second_is.trees in
    quiet_laid q (laid_same (rw (f1, f2) refl) (rw (f1, f2) refl) d)

-- ---- an empty list

pub merge_first_empty : {v seen : View} {run : Span} {list1 list2 : ℕ} → IsLawful v.seen → Quiet v seen → MayMerge v run list1 list2 → forest (recs v.seen) list1 ≡ no_trees → Laid v seen run run (merge_places (forest (recs v.seen) list1) (forest (recs v.seen) list2)) list2 (merge (forest (recs v.seen) list1) (forest (recs v.seen) list2))
merge_first_empty {v} {seen} {run} {list1} {list2} law q k none =
    let f2 = forest_up law q.grows list2 k.second_is.trees in
    rw none (quiet_laid q (record { puts = puts_none seen run (let z = q.hand in rw z k.held); list = list_up law q.grows (omega arith) k.second_is; forest_is = f2 }))

pub merge_second_empty : {v seen : View} {run : Span} {list1 list2 : ℕ} → IsLawful v.seen → Quiet v seen → MayMerge v run list1 list2 → forest (recs v.seen) list2 ≡ no_trees → Laid v seen run run (merge_places (forest (recs v.seen) list1) (forest (recs v.seen) list2)) list1 (merge (forest (recs v.seen) list1) (forest (recs v.seen) list2))
merge_second_empty {v} {seen} {run} {list1} {list2} law q k none =
    let f1 = forest_up law q.grows list1 k.first_is.trees in
    let n = places_none (forest (recs v.seen) list1) in
    let m = merge_none (forest (recs v.seen) list1) in
    rw (none, n, m) (quiet_laid q (record { puts = puts_none seen run (let z = q.hand in rw z k.held); list = list_up law q.grows (omega arith) k.first_is; forest_is = f1 }))

-- ---- a tree in front of what the rests make

pub front_ask : {v v1 : View} {run run1 : Span} {n rest : ℕ} {f : Forest} {t : BinomialTree} → Laid v v1 run run1 n rest f → IsTree v.seen t run.next → run.next + (n + 1) ≤ run.end → MayPutCell v1 run1 t.place.0 rest
front_ask {v} {v1} {run} {run1} {t = t'} d t room = record { held = d.puts.held; room = omega (arith, room, d.puts.next, d.puts.same_end); there = tree_there_up d.puts.filled.grows t'.place.0 (tree_shown t); low = omega (arith, t.low, d.puts.next); list_is = d.list }

pub front_laid : {v v1 v2 : View} {run run1 run2 : Span} {n rest place : ℕ} {f : Forest} {t : BinomialTree} → IsLawful v.seen → Laid v v1 run run1 n rest f → IsTree v.seen t run.next → Laid v1 v2 run1 run2 1 place (in_front (forest (recs v1.seen) t.place.0) (forest (recs v1.seen) rest)) → Laid v v2 run run2 (n + 1) place (tree_before (forest (recs v.seen)) t f)
front_laid {v} {v1} {v2} {run} {run1} {run2} {n} {rest} {place} {f} {t} law d tree e =
    let first = tree_kept law d.puts.filled.grows t.place.0 (tree_shown tree) ∙ tree_forest law t tree.there in
    let more = d.forest_is in
    record { puts = puts_trans d.puts e.puts; list = e.list; forest_is = e.forest_is ∙ rw (first, more) refl }

-- ---- the first trees of both lists

module _ {v : View} (law : IsLawful v.seen) (run : Span) (list1 list2 : ℕ) (k : MayMerge v run list1 list2) (a b : FirstTree) (i : IsFirst v.seen list1 a) (j : IsFirst v.seen list2 b) where
  abbrev of : ℕ → Forest
  of = forest (recs v.seen)

  fa : FirstIs v.seen list1 a
  fa = first_is law list1 a k.first_is.trees i

  fb : FirstIs v.seen list2 b
  fb = first_is law list2 b k.second_is.trees j

  rest1 : IsList v.seen a.rest.0 run.next
  rest1 = record { trees = fa.rest_only; low = omega (arith, fa.rest_low, k.first_is.low) }

  rest2 : IsList v.seen b.rest.0 run.next
  rest2 = record { trees = fb.rest_only; low = omega (arith, fb.rest_low, k.second_is.low) }

  pub tree1 : IsTree v.seen a.tree run.next
  tree1 = record { there = i.tree; low = omega (arith, fa.tree_low, k.first_is.low) }

  pub tree2 : IsTree v.seen b.tree run.next
  tree2 = record { there = j.tree; low = omega (arith, fb.tree_low, k.second_is.low) }

  after1 : ranks_rise (suc a.tree.rank) (of a.rest.0) ≡ true
  after1 = let e = fa.trees in let up : (leb 0 a.tree.rank && ranks_rise (suc a.tree.rank) (of a.rest.0)) ≡ true = rw e at k.rise1 in (and_parts (leb 0 a.tree.rank) (ranks_rise (suc a.tree.rank) (of a.rest.0)) up).1

  after2 : ranks_rise (suc b.tree.rank) (of b.rest.0) ≡ true
  after2 = let e = fb.trees in let up : (leb 0 b.tree.rank && ranks_rise (suc b.tree.rank) (of b.rest.0)) ≡ true = rw e at k.rise2 in (and_parts (leb 0 b.tree.rank) (ranks_rise (suc b.tree.rank) (of b.rest.0)) up).1

  weight1 : weight (of list1) ≡ 2 ^ a.tree.rank + weight (of a.rest.0)
  weight1 = ap weight fa.trees

  weight2 : weight (of list2) ≡ 2 ^ b.tree.rank + weight (of b.rest.0)
  weight2 = ap weight fb.trees

  -- the measure of the recursion falls
  pub lower1 : a.rest.0 + list2 < list1 + list2
  lower1 = omega (arith, fa.rest_low)

  pub lower2 : list1 + b.rest.0 < list1 + list2
  lower2 = omega (arith, fb.rest_low)

  pub lower_both : a.rest.0 + b.rest.0 < list1 + list2
  lower_both = omega (arith, fa.rest_low, fb.rest_low)

  -- the first list's tree goes in front
  module _ (lt : a.tree.rank < b.tree.rank) where
    pub count1 : merge_places (of list1) (of list2) ≡ merge_places (of a.rest.0) (of list2) + 1
    count1 = let e = fa.trees in let f = fb.trees in rw (e, f) (places_lower a.tree.rank a.tree.item.0 (of a.tree.kids.0) (of a.rest.0) b.tree.rank b.tree.item.0 (of b.tree.kids.0) (of b.rest.0) lt)

    pub merged1 : merge (of list1) (of list2) ≡ tree_before of a.tree (merge (of a.rest.0) (of list2))
    merged1 = let e = fa.trees in let f = fb.trees in rw (e, f) (merge_lower a.tree.rank a.tree.item.0 (of a.tree.kids.0) (of a.rest.0) b.tree.rank b.tree.item.0 (of b.tree.kids.0) (of b.rest.0) lt)

    pub ask1 : MayMerge v run a.rest.0 list2
    ask1 = record {
      held = k.held;
      room = omega (arith, k.room, count1);
      first_is = rest1;
      second_is = k.second_is;
      rise1 = rise_lower 0 (suc a.tree.rank) (of a.rest.0) (omega arith) after1;
      rise2 = k.rise2;
      small = omega (arith, k.small, weight1);
    }

  -- the second list's
  module _ (lt : b.tree.rank < a.tree.rank) where
    pub count2 : merge_places (of list1) (of list2) ≡ merge_places (of list1) (of b.rest.0) + 1
    count2 = let e = fa.trees in let f = fb.trees in rw (e, f) (places_higher a.tree.rank a.tree.item.0 (of a.tree.kids.0) (of a.rest.0) b.tree.rank b.tree.item.0 (of b.tree.kids.0) (of b.rest.0) lt)

    pub merged2 : merge (of list1) (of list2) ≡ tree_before of b.tree (merge (of list1) (of b.rest.0))
    merged2 = let e = fa.trees in let f = fb.trees in rw (e, f) (merge_higher a.tree.rank a.tree.item.0 (of a.tree.kids.0) (of a.rest.0) b.tree.rank b.tree.item.0 (of b.tree.kids.0) (of b.rest.0) lt)

    pub ask2 : MayMerge v run list1 b.rest.0
    ask2 = record {
      held = k.held;
      room = omega (arith, k.room, count2);
      first_is = k.first_is;
      second_is = rest2;
      rise1 = k.rise1;
      rise2 = rise_lower 0 (suc b.tree.rank) (of b.rest.0) (omega arith) after2;
      small = omega (arith, k.small, weight2);
    }

  -- both are linked
  module _ (same : b.tree.rank ≡ a.tree.rank) where
    abbrev both : Forest
    both = merge (of a.rest.0) (of b.rest.0)

    pub count_both : merge_places (of list1) (of list2) ≡ merge_places (of a.rest.0) (of b.rest.0) + 2 + (2 * trees_met (suc a.tree.rank) both + 1)
    count_both = let e = fa.trees in let f = fb.trees in rw (e, f, same) (places_equal a.tree.rank a.tree.item.0 (of a.tree.kids.0) (of a.rest.0) b.tree.item.0 (of b.tree.kids.0) (of b.rest.0))

    merged_both : merge (of list1) (of list2) ≡ add_tree (suc a.tree.rank) (min a.tree.item.0 b.tree.item.0) (linked_kids a.tree.rank a.tree.item.0 (of a.tree.kids.0) b.tree.rank b.tree.item.0 (of b.tree.kids.0)) both
    merged_both = let e = fa.trees in let f = fb.trees in rw (e, f, same) (merge_equal a.tree.rank a.tree.item.0 (of a.tree.kids.0) (of a.rest.0) b.tree.item.0 (of b.tree.kids.0) (of b.rest.0))

    pub ask_both : MayMerge v run a.rest.0 b.rest.0
    ask_both = record {
      held = k.held;
      room = omega (arith, k.room, count_both);
      first_is = rest1;
      second_is = rest2;
      rise1 = rise_lower 0 (suc a.tree.rank) (of a.rest.0) (omega arith) after1;
      rise2 = rise_lower 0 (suc b.tree.rank) (of b.rest.0) (omega arith) after2;
      small = omega (arith, k.small, weight1, weight2);
    }

    both_rise : ranks_rise (suc a.tree.rank) both ≡ true
    both_rise = merge_rises (of a.rest.0) (suc a.tree.rank) (of b.rest.0) after1 (rw same at after2)

    both_fits : suc a.tree.rank + trees_met (suc a.tree.rank) both < 32
    both_fits = rank_fits (suc a.tree.rank) both (let w2 = rw same at weight2 in omega (arith, k.small, weight1, w2, merge_weight (of a.rest.0) (of b.rest.0), twice a.tree.rank))

    module _ {v1 : View} (law1 : IsLawful v1.seen) (run1 : Span) (rest : ℕ) (d : Laid v v1 run run1 (merge_places (of a.rest.0) (of b.rest.0)) rest both) where
      pub link_both : MayLink v1 run1 a.tree b.tree
      link_both = record {
        held = d.puts.held;
        room = omega (arith, k.room, count_both, d.puts.next, d.puts.same_end);
        first_is = tree_up {a = v.seen} {p = run.next} d.puts.filled.grows (omega (arith, d.puts.next)) tree1;
        second_is = tree_up {a = v.seen} {p = run.next} d.puts.filled.grows (omega (arith, d.puts.next)) tree2;
        same = same;
        rank = omega (arith, both_fits);
      }

      module _ {v2 : View} (run2 : Span) (linked : BinomialTree) (l : Linked v1 v2 run1 run2 a.tree b.tree linked) where
        rest_forest : forest (recs v2.seen) rest ≡ both
        rest_forest = forest_up law1 l.puts.filled.grows rest d.list.trees ∙ d.forest_is

        met_both : trees_met linked.rank (forest (recs v2.seen) rest) ≡ trees_met (suc a.tree.rank) both
        met_both = let r = l.rank in let f = rest_forest in rw (r, f) refl

        pub insert_both : MayInsert v2 run2 linked rest
        insert_both =
            let r = l.rank in
            let f = rest_forest in
            record {
              held = l.puts.held;
              room = omega (arith, k.room, count_both, d.puts.next, d.puts.same_end, l.puts.next, l.puts.same_end, met_both);
              tree_is = l.tree;
              list_is = list_up {a = v1.seen} {p = run1.next} law1 l.puts.filled.grows (omega (arith, l.puts.next)) d.list;
              rise = rw (r, f) both_rise;
              rank = omega (arith, both_fits, met_both, r);
            }

        pub laid_both : {v3 : View} (run3 : Span) (place : ℕ) → Laid v2 v3 run2 run3 (2 * trees_met linked.rank (forest (recs v2.seen) rest) + 1) place (add_tree linked.rank linked.item.0 (forest (recs v2.seen) linked.kids.0) (forest (recs v2.seen) rest)) → Laid v v3 run run3 (merge_places (of list1) (of list2)) place (merge (of list1) (of list2))
        laid_both run3 place e =
            let r = l.rank in
            let x = l.item in
            let kids = l.kids in
            let f = rest_forest in
            let ka = kids_up law d.puts.filled.grows a.tree.place.0 a.tree i.tree in
            let kb = kids_up law d.puts.filled.grows b.tree.place.0 b.tree j.tree in
            let added : add_tree linked.rank linked.item.0 (forest (recs v2.seen) linked.kids.0) (forest (recs v2.seen) rest) ≡ merge (of list1) (of list2) = rw (r, x, kids, f, ka, kb) (sym merged_both) in
            let puts = puts_trans (puts_trans d.puts l.puts) e.puts in
            laid_same (omega (arith, count_both, met_both)) added (record { puts = puts; list = e.list; forest_is = e.forest_is })
