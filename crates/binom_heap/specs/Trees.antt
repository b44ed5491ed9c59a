-- Binomial trees, and what linking, inserting and merging take.
use Rattle.std.specs.Prelude.{◌≡◌, ℕ, suc, ◌+◌, ◌*◌, ◌^◌, eqb, leb, ltb, true, false, cond, Some}
use Rattle.lazy_rec.specs.declared.records.Rec.{Rec}
use Rattle.lazy_rec.specs.declared.records.Rec.TheVariants.{TCons, Tree}
use Rattle.heap_store.specs.World.{World, recs}
use Rattle.heap_store.specs.Forest.{Forest, no_trees, a_tree, merge}
use Rattle.binom_heap.specs.declared.trees.BinomialTree.{BinomialTree}
use Rattle.binom_heap.specs.declared.trees.FirstTree.{FirstTree}

-- the record of a tree
abbrev pub tree_record : BinomialTree → Rec
tree_record t = Tree t.rank t.item t.kids

-- the list begins with a tree, and has the rest after it
pub record IsFirst (w : World) (list : ℕ) (f : FirstTree) : Type 0 where
  pub cell : recs w list ≡ Some (TCons f.tree.place f.rest)
  pub tree : recs w f.tree.place.0 ≡ Some (tree_record f.tree)

-- the children of two linked trees, from the rank, the root and the children of each: of equal roots the first stays above
abbrev pub linked_kids : ℕ → ℕ → Forest → ℕ → ℕ → Forest → Forest
linked_kids rank item kids rank' item' kids' = cond (leb item item') (a_tree rank' item' kids' kids) (a_tree rank item kids kids')

-- how many items full trees of these ranks have
abbrev pub weight : Forest → ℕ
weight no_trees = 0
weight (a_tree rank _ _ more) = 2 ^ rank + weight more

-- with how many trees a tree of a rank is linked that comes into the list
abbrev pub trees_met : ℕ → Forest → ℕ
trees_met rank no_trees = 0
trees_met rank (a_tree rank' _ _ more) = cond (eqb rank rank') (suc (trees_met (suc rank) more)) 0

-- the places of a merge of two lists: none where one is empty, one for a tree that goes in front of what the rests make, and for
-- two of equal rank two to link them, and what the linked tree takes that comes into what the rests make
abbrev pub first_places : ℕ → (Forest → ℕ) → (Forest → Forest) → Forest → ℕ
first_places rank places_after merge_after no_trees = 0
first_places rank places_after merge_after (a_tree rank' item' kids' more) = elim (ltb rank rank') [
  | true ↦ places_after (a_tree rank' item' kids' more) + 1
  | false ↦ elim (ltb rank' rank) [
    | true ↦ first_places rank places_after merge_after more + 1
    | false ↦ places_after more + 2 + (2 * trees_met (suc rank) (merge_after more) + 1)
  ]
]

abbrev pub merge_places : Forest → Forest → ℕ
merge_places no_trees g = 0
merge_places (a_tree rank item kids after) g = first_places rank (merge_places after) (merge after) g
