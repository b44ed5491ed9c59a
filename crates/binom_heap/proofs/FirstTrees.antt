-- The first tree of a list, and the trees after it.
use Rattle.std.proofs.Common.{◌≡◌, ℕ, ◌<◌, refl, sym, ap, ◌∙◌, true, Some}
use Rattle.lazy_rec.specs.declared.places.Ref.{Ref}
use Rattle.lazy_rec.specs.declared.records.Rec.{Rec}
use Rattle.lazy_rec.specs.declared.records.Rec.TheVariants.{TCons, Tree}
use Rattle.heap_store.specs.World.{World, recs}
use Rattle.heap_store.specs.Forest.{Forest, no_trees, a_tree, in_front, forest, is_trees_only}
use Rattle.heap_store.specs.Growth.{Grows}
use Rattle.heap_store.specs.Lawful.{IsLawful}
use Rattle.heap_store.proofs.NameLaws.{IsPublished}
use Rattle.heap_store.proofs.ShowLaws.{one_value}
use Rattle.heap_store.proofs.LawfulLaws.{lawful_names}
use Rattle.heap_store.proofs.ReadLaws.{rec_back}
use Rattle.binom_heap.specs.declared.trees.BinomialTree.{BinomialTree}
use Rattle.binom_heap.specs.declared.trees.FirstTree.{FirstTree}
use Rattle.binom_heap.specs.Trees.{tree_record, IsFirst}
use Rattle.binom_heap.proofs.TreeLaws.{TreesCase, nil, cell, trees_case, forest_is, trees_only_is, tree_by_sort}

-- a tree of a forest, by the fields of its record
abbrev pub tree_before : (ℕ → Forest) → BinomialTree → Forest → Forest
tree_before lower t more = a_tree t.rank t.item.0 (lower t.kids.0) more

-- the place of a first tree shows a tree
pub first_there : {w : World} → IsLawful w → (list : ℕ) (tree rest : Ref) → recs w list ≡ Some (TCons tree rest) → IsPublished (recs w) tree.0
first_there law list tree rest e = let n = lawful_names law list _ e in (n.0.1, n.0.2)

pub first_is_tree : {w : World} → IsLawful w → (list : ℕ) (tree rest : Ref) → recs w list ≡ Some (TCons tree rest) → (r : Rec) → recs w tree.0 ≡ Some r → ((rank : ℕ) (item : _) (kids : Ref) → r ≡ Tree rank item kids → ⊥) → ⊥
first_is_tree law list tree rest e r f other =
    let n = lawful_names law list _ e in
    let t = tree_by_sort n.0.1 n.0.3 in
    other t.rank t.item t.kids (one_value r _ (sym f ∙ n.0.2 ∙ ap Some t.is))

-- what the first tree of a list says of it
pub record FirstIs (w : World) (list : ℕ) (f : FirstTree) : Type 0 where
  pub tree_low : f.tree.place.0 < list
  pub rest_low : f.rest.0 < list
  pub rest_only : is_trees_only (recs w) f.rest.0 ≡ true
  pub trees : forest (recs w) list ≡ tree_before (forest (recs w)) f.tree (forest (recs w) f.rest.0)

pub tree_forest : {w : World} → IsLawful w → (t : BinomialTree) → recs w t.place.0 ≡ Some (tree_record t) → forest (recs w) t.place.0 ≡ tree_before (forest (recs w)) t no_trees
tree_forest {w} law t e = forest_is (recs w) (lawful_names law) t.place.0 _ e

pub first_is : {w : World} → IsLawful w → (list : ℕ) (f : FirstTree) → is_trees_only (recs w) list ≡ true → IsFirst w list f → FirstIs w list f
first_is {w} law list f only i =
    let names = lawful_names law in
    let n = names list _ i.cell in
    record {
      tree_low = n.0.0;
      rest_low = n.1.0.0;
      rest_only = sym (trees_only_is (recs w) names list _ i.cell) ∙ only;
      trees = forest_is (recs w) names list _ i.cell ∙ ap (λ z. in_front z (forest (recs w) f.rest.0)) (tree_forest law f.tree i.tree);
    }

-- a list without a first tree is empty
pub no_first : {w : World} → IsLawful w → (list : ℕ) → is_trees_only (recs w) list ≡ true → (r : Rec) → recs w list ≡ Some r → ((tree rest : Ref) → r ≡ TCons tree rest → ⊥) → forest (recs w) list ≡ no_trees
no_first {w} law list only r e not_cell = go (trees_case law list only)
  where
    go : TreesCase (recs w) list → forest (recs w) list ≡ no_trees
    go (nil z) = forest_is (recs w) (lawful_names law) list _ z
    go (cell tree rest z more) = absurd (not_cell tree rest (one_value _ _ (sym e ∙ z)))

-- a first tree in a larger world, and in a smaller one that has the list
pub first_up : {a b : World} {list : ℕ} {f : FirstTree} → Grows a b → IsFirst a list f → IsFirst b list f
first_up x i = record { cell = x.records _ _ i.cell; tree = x.records _ _ i.tree }

pub first_down : {a b : World} → IsLawful a → Grows a b → (list : ℕ) (f : FirstTree) → IsPublished (recs a) list → IsFirst b list f → IsFirst a list f
first_down law x list f is i =
    let e = rec_back x.records list _ is i.cell in
    record { cell = e; tree = rec_back x.records f.tree.place.0 _ (first_there law list f.tree.place f.rest e) i.tree }

-- the tree of a list's first cell
pub record CellTree (w : World) (list : ℕ) (place rest : Ref) : Type 0 where
  pub tree : BinomialTree
  pub place_is : tree.place ≡ place
  pub there : recs w place.0 ≡ Some (tree_record tree)
  pub tree_low : place.0 < list
  pub kids_low : tree.kids.0 < place.0
  pub rest_low : rest.0 < list
  pub trees : forest (recs w) list ≡ tree_before (forest (recs w)) tree (forest (recs w) rest.0)

pub cell_tree : {w : World} → IsLawful w → (list : ℕ) (tree rest : Ref) → recs w list ≡ Some (TCons tree rest) → CellTree w list tree rest
cell_tree {w} law list tree rest e =
    let names = lawful_names law in
    let n = names list _ e in
    let t = tree_by_sort n.0.1 n.0.3 in
    let there : recs w tree.0 ≡ Some (Tree t.rank t.item t.kids) = n.0.2 ∙ ap Some t.is in
    record {
      tree = record { place = tree; rank = t.rank; item = t.item; kids = t.kids };
      place_is = refl;
      there = there;
      tree_low = n.0.0;
      kids_low = (names tree.0 _ there).0.0;
      rest_low = n.1.0.0;
      trees = forest_is (recs w) names list _ e ∙ ap (λ z. in_front z (forest (recs w) rest.0)) (forest_is (recs w) names tree.0 _ there);
    }
