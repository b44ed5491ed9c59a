-- Trees that are linked.
use Rattle.std.proofs.Common.{◌≡◌, ℕ, suc, ◌+◌, ◌<◌, ◌≤◌, eqb, leb, refl, sym, ap, ◌∙◌, arith, Bool, true, false, cond, ◌&&◌, Some, List, [], ◌∷◌, ◌++◌}
use Rattle.std.specs.List.{list_all}
use Rattle.std.proofs.lemmas.Grind.{common_steps}
use Rattle.std.proofs.lemmas.List.Folds.{list_all-append}
use Rattle.std.proofs.lemmas.Bool.{and_parts, and_from, eq-eqb, leb-true, le-leb, lt-leb, cond-true, cond-false}
use Rattle.lazy_rec.specs.declared.places.Ref.{Ref}
use Rattle.lazy_rec.specs.declared.records.Rec.TheVariants.{TCons}
use Rattle.lazy_rec.specs.declared.records.Sort.TheVariants as sorts
use Rattle.lazy_rec.specs.Named.{sort_of, same_sort}
use Rattle.lazy_rec.specs.Meaning.{means}
use Rattle.lazy_rec.specs.Plain.{insert_rising, rising}
use Rattle.heap_store.specs.Span.{Span}
use Rattle.heap_store.specs.World.{World, recs, holds}
use Rattle.heap_store.specs.Forest.{Forest, no_trees, a_tree, in_front, forest, is_trees_only, ranks_fall}
use Rattle.heap_store.specs.Growth.{Grows}
use Rattle.heap_store.specs.Lawful.{IsLawful}
use Rattle.heap_store.specs.View.{View, IsLawfulView, Put, Fits}
use Rattle.heap_store.proofs.GrowthLaws.{at_true}
use Rattle.heap_store.proofs.LawfulLaws.{lawful_names}
use Rattle.heap_store.proofs.MeaningLaws.{means_is}
use Rattle.heap_store.proofs.MadeLaws.{forest_kept, trees_only_kept}
use Rattle.binom_heap.specs.declared.trees.BinomialTree.{BinomialTree}
use Rattle.binom_heap.specs.Trees.{tree_record}
use Rattle.binom_heap.specs.Laying.{Puts, IsTree, IsList, MayLink, MayPutCell, Grown, Linked, Laid}
use Rattle.binom_heap.proofs.TreeLaws.{forest_is, trees_only_is, trees_there}
use Rattle.binom_heap.proofs.FirstTrees.{tree_before, tree_forest, cell_tree}
use Rattle.binom_heap.proofs.RunLaws.{puts_none, puts_put, next_held}
use Rattle.binom_heap.proofs.TreePuts.{IsFull, tree_full, fits_cell}

-- ---- lists in rising order

pub all_insert : (t : ℕ → Bool) (x : ℕ) (ys : List ℕ) → t x ≡ true → list_all t ys ≡ true → list_all t (insert_rising x ys) ≡ true
all_insert t x [] h k = and_from (t x) true h refl
all_insert t x (y ∷ ys) h k = go (leb y x) (all_insert t x ys h (and_parts (t y) (list_all t ys) k).1)
  where
    go : (b : Bool) → list_all t (insert_rising x ys) ≡ true → list_all t (cond b (y ∷ insert_rising x ys) (x ∷ y ∷ ys)) ≡ true
    go true ih = and_from (t y) (list_all t (insert_rising x ys)) (and_parts (t y) (list_all t ys) k).0 ih
    go false ih = and_from (t x) (t y && list_all t ys) h k

pub all_rising : (t : ℕ → Bool) (xs : List ℕ) → list_all t xs ≡ true → list_all t (rising xs) ≡ true
all_rising t [] h = refl
all_rising t (x ∷ xs) h = let k = and_parts (t x) (list_all t xs) h in all_insert t x (rising xs) k.0 (all_rising t xs k.1)

pub all_weaker : (x y : ℕ) (zs : List ℕ) → x ≤ y → list_all (leb y) zs ≡ true → list_all (leb x) zs ≡ true
all_weaker x y [] h k = refl
all_weaker x y (z ∷ zs) h k = let p = and_parts (leb y z) (list_all (leb y) zs) k in and_from (leb x z) (list_all (leb x) zs) (le-leb x z (omega (arith, h, leb-true y z p.0))) (all_weaker x y zs h p.1)

-- ---- what a larger world keeps

pub forest_up : {a b : World} → IsLawful a → Grows a b → (p : ℕ) → is_trees_only (recs a) p ≡ true → forest (recs b) p ≡ forest (recs a) p
forest_up {a} {b} law x p only = sym (forest_kept (recs a) (recs b) (lawful_names law) x.records p (trees_there (recs a) p only))

pub only_up : {a b : World} → IsLawful a → Grows a b → (p : ℕ) → is_trees_only (recs a) p ≡ true → is_trees_only (recs b) p ≡ true
only_up {a} {b} law x p only = sym (trees_only_kept (recs a) (recs b) (lawful_names law) x.records p (trees_there (recs a) p only)) ∙ only

pub kids_up : {a b : World} → IsLawful a → Grows a b → (p : ℕ) (t : BinomialTree) → recs a p ≡ Some (tree_record t) → forest (recs b) t.kids.0 ≡ forest (recs a) t.kids.0
kids_up law x p t e = forest_up law x t.kids.0 (tree_full law p t e).kids

pub tree_up : {a b : World} {t : BinomialTree} {p q : ℕ} → Grows a b → p ≤ q → IsTree a t p → IsTree b t q
tree_up x le k = record { there = x.records _ _ k.there; low = omega (arith, k.low, le) }

pub list_up : {a b : World} {l p q : ℕ} → IsLawful a → Grows a b → p ≤ q → IsList a l p → IsList b l q
list_up {a} {b} {l} law x le k = record { trees = only_up law x l k.trees; low = omega (arith, k.low, le) }

-- ---- a cell, by the place of its tree

-- the tree of a list's first cell, and the list behind it
pub record CellIs (w : World) (list : ℕ) (tree rest : Ref) : Type 0 where
  pub rank : ℕ
  pub item : ℕ
  pub kids : Forest
  pub tree_is : forest (recs w) tree.0 ≡ a_tree rank item kids no_trees
  pub there : holds (recs w) tree.0 (λ r. same_sort (sort_of r) sorts.Tree) ≡ true
  pub tree_low : tree.0 < list
  pub rest_low : rest.0 < list
  pub rest_only : is_trees_only (recs w) rest.0 ≡ true
  pub trees : forest (recs w) list ≡ a_tree rank item kids (forest (recs w) rest.0)

pub cell_is : {w : World} → IsLawful w → (list : ℕ) (tree rest : Ref) → is_trees_only (recs w) list ≡ true → recs w list ≡ Some (TCons tree rest) → CellIs w list tree rest
cell_is {w} law list tree rest only e =
    let k = cell_tree law list tree rest e in
    let there = k.there in
    record {
      rank = k.tree.rank;
      item = k.tree.item.0;
      kids = forest (recs w) k.tree.kids.0;
      tree_is = forest_is (recs w) (lawful_names law) tree.0 _ there;
      there = rw there refl;
      tree_low = k.tree_low;
      rest_low = k.rest_low;
      rest_only = sym (trees_only_is (recs w) (lawful_names law) list _ e) ∙ only;
      trees = k.trees;
    }

-- a tree's place in a larger world
pub tree_there_up : {a b : World} → Grows a b → (tree : ℕ) → holds (recs a) tree (λ r. same_sort (sort_of r) sorts.Tree) ≡ true → holds (recs b) tree (λ r. same_sort (sort_of r) sorts.Tree) ≡ true
tree_there_up {a} {b} x tree h =
    let t = at_true (λ r. same_sort (sort_of r) sorts.Tree) (recs a tree) h in
    rw (x.records tree t.0 t.1) t.2

pub tree_kept : {a b : World} → IsLawful a → Grows a b → (tree : ℕ) → holds (recs a) tree (λ r. same_sort (sort_of r) sorts.Tree) ≡ true → forest (recs b) tree ≡ forest (recs a) tree
tree_kept {a} {b} law x tree h =
    let t = at_true (λ r. same_sort (sort_of r) sorts.Tree) (recs a tree) h in
    sym (forest_kept (recs a) (recs b) (lawful_names law) x.records tree (t.0, t.1))

-- ---- a cell that is put

pub cell_fits : {v : View} → IsLawfulView v → (run : Span) (tree list : Ref) → MayPutCell v run tree.0 list.0 → Fits v run.next (TCons tree list)
cell_fits law run tree list k = fits_cell law run.next (next_held k.held (omega (arith, k.room))) tree list k.there k.low k.list_is.trees k.list_is.low

pub cell_laid : {v new : View} → IsLawfulView v → IsLawfulView new → (run run' : Span) (tree list place : Ref) → MayPutCell v run tree.0 list.0 → Put v new run.next (TCons tree list) → run' ≡ record run { next = run.next + 1 } → place.0 ≡ run.next → Laid v new run run' 1 place.0 (in_front (forest (recs v.seen) tree.0) (forest (recs v.seen) list.0))
cell_laid {v} {new} law law' run run' tree list place k p at place_is =
    let here : recs new.seen place.0 ≡ Some (TCons tree list) = rw place_is p.here in
    let first = tree_kept law.world p.grows tree.0 k.there in
    let more = forest_up law.world p.grows list.0 k.list_is.trees in
    record {
      puts = puts_put (puts_none v run k.held) p at refl;
      list = record { trees = trees_only_is (recs new.seen) (lawful_names law'.world) place.0 _ here ∙ only_up law.world p.grows list.0 k.list_is.trees; low = rw (at, place_is) (omega arith) };
      forest_is = forest_is (recs new.seen) (lawful_names law'.world) place.0 _ here ∙ rw (first, more) refl;
    }

-- of a tree with its fields
pub tree_shown : {w : World} {t : BinomialTree} {p : ℕ} → IsTree w t p → holds (recs w) t.place.0 (λ r. same_sort (sort_of r) sorts.Tree) ≡ true
tree_shown k = let e = k.there in rw e refl

pub tree_laid : {v new : View} {run run' : Span} {t : BinomialTree} {f : Forest} {p place : ℕ} → IsLawful v.seen → IsTree v.seen t p → Laid v new run run' 1 place (in_front (forest (recs v.seen) t.place.0) f) → Laid v new run run' 1 place (tree_before (forest (recs v.seen)) t f)
tree_laid {t = t} {f = f} law k d = record { puts = d.puts; list = d.list; forest_is = d.forest_is ∙ ap (λ z. in_front z f) (tree_forest law t k.there) }

-- ---- a tree that gets another one as its first child

pub under_cell : {v : View} {run : Span} {top below : BinomialTree} → IsLawful v.seen → MayLink v run top below → MayPutCell v run below.place.0 top.kids.0
under_cell {v} {run} {top} {below} law k =
    let full = tree_full law top.place.0 top k.first_is.there in
    record { held = k.held; room = omega (arith, k.room); there = tree_shown k.second_is; low = k.second_is.low; list_is = record { trees = full.kids; low = omega (arith, (lawful_names law top.place.0 _ k.first_is.there).0.0, k.first_is.low) } }

module _ {v v1 : View} (law : IsLawfulView v) (law1 : IsLawfulView v1) (run run1 : Span) (top below : BinomialTree) (kids : Ref) (k : MayLink v run top below) (le : top.item.0 ≤ below.item.0) (p : Put v v1 run.next (TCons below.place top.kids)) (at1 : run1 ≡ record run { next = run.next + 1 }) (kids_is : kids.0 ≡ run.next) where
  kids_laid : Laid v v1 run run1 1 kids.0 (tree_before (forest (recs v.seen)) below (forest (recs v.seen) top.kids.0))
  kids_laid = tree_laid law.world k.second_is (cell_laid law law1 run run1 below.place top.kids kids (under_cell law.world k) p at1 kids_is)

  pub grown_full : IsFull v1.seen (record { place = kids; rank = top.rank + 1; item = top.item; kids = kids })
  grown_full =
      let a = recs v.seen in
      let b = recs v1.seen in
      let names = lawful_names law1.world in
      let full = tree_full law.world top.place.0 top k.first_is.there in
      let full1 = tree_full law1.world top.place.0 top (p.grows.records _ _ k.first_is.there) in
      let other = tree_full law1.world below.place.0 below (p.grows.records _ _ k.second_is.there) in
      let here : b kids.0 ≡ Some (TCons below.place top.kids) = rw kids_is p.here in
      let mt : means b below.place.0 ≡ rising (below.item.0 ∷ means b below.kids.0) = means_is b names below.place.0 _ (p.grows.records _ _ k.second_is.there) in
      let mk : means b kids.0 ≡ rising (means b below.place.0 ++ means b top.kids.0) = means_is b names kids.0 _ here in
      let below_all : list_all (leb top.item.0) (rising (below.item.0 ∷ means b below.kids.0)) ≡ true = all_rising (leb top.item.0) (below.item.0 ∷ means b below.kids.0) (and_from (leb top.item.0 below.item.0) (list_all (leb top.item.0) (means b below.kids.0)) (le-leb top.item.0 below.item.0 le) (all_weaker top.item.0 below.item.0 (means b below.kids.0) le other.order)) in
      let rank_is : top.rank + 1 ≡ suc top.rank = omega arith in
      let same = k.same in
      let trees = kids_laid.forest_is in
      record {
        rank = k.rank;
        item = full.item;
        kids = kids_laid.list.trees;
        ranks = rw (rank_is, trees) (and_from (eqb below.rank top.rank) (ranks_fall top.rank (forest a top.kids.0)) (eq-eqb below.rank top.rank same) full.ranks);
        order = rw mk (all_rising (leb top.item.0) (means b below.place.0 ++ means b top.kids.0) (list_all-append (leb top.item.0) (means b below.place.0) (means b top.kids.0) ∙ and_from (list_all (leb top.item.0) (means b below.place.0)) (list_all (leb top.item.0) (means b top.kids.0)) (rw mt below_all) full1.order));
      }

  pub under_left : run1.next < run1.end
  under_left = let r = k.room in rw at1 (omega (arith, r))

  pub under_held : Puts v v1 run run1 1
  under_held = kids_laid.puts

  pub under_low : kids.0 < run1.next
  under_low = kids_laid.list.low

  pub grown : {v2 : View} → (run2 : Span) (place : Ref) (rank : ℕ) → rank ≡ top.rank + 1 → Put v1 v2 run1.next (tree_record (record { place = place; rank = rank; item = top.item; kids = kids })) → run2 ≡ record run1 { next = run1.next + 1 } → place.0 ≡ run1.next
      → Grown v v2 run run2 top below (record { place = place; rank = rank; item = top.item; kids = kids })
  grown {v2} run2 place rank rank_is q at2 place_is = record {
    puts = puts_put under_held q at2 refl;
    tree = record { there = rw place_is q.here; low = rw (at2, place_is) (omega arith) };
    rank = omega (arith, rank_is);
    item = refl;
    kids = forest_up law1.world q.grows kids.0 kids_laid.list.trees ∙ kids_laid.forest_is;
  }

-- ---- a link

pub linked_first : {v new : View} (run run' : Span) (first second result : BinomialTree) → first.item.0 ≤ second.item.0 → MayLink v run first second → Grown v new run run' first second result → Linked v new run run' first second result
linked_first {v} run run' first second result le k g =
    let same = k.same in
    let item = g.item in
    let test = le-leb first.item.0 second.item.0 le in
    record {
      puts = g.puts;
      tree = g.tree;
      rank = g.rank;
      item = rw item (grind (arith, common_steps, le));
      kids = g.kids ∙ (sym (cond-true (leb first.item.0 second.item.0) _ _ test));
    }

pub linked_second : {v new : View} (run run' : Span) (first second result : BinomialTree) → second.item.0 < first.item.0 → MayLink v run first second → Grown v new run run' second first result → Linked v new run run' first second result
linked_second {v} run run' first second result lt k g =
    let item = g.item in
    record {
      puts = g.puts;
      tree = g.tree;
      rank = omega (arith, g.rank, k.same);
      item = rw item (grind (arith, common_steps, lt));
      kids = g.kids ∙ sym (cond-false (leb first.item.0 second.item.0) _ _ (lt-leb first.item.0 second.item.0 lt));
    }

pub link_swapped : {v : View} {run : Span} {first second : BinomialTree} → MayLink v run first second → MayLink v run second first
link_swapped k = record { held = k.held; room = k.room; first_is = k.second_is; second_is = k.first_is; same = sym k.same; rank = omega (arith, k.rank, k.same) }
