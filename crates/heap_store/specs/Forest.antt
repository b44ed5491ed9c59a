-- The trees that a heap's list is made of, as plain data: what inserts and merges make of them, and when they are in order.
use Rattle.std.specs.Prelude.{ℕ, zero, suc, eqb, leb, ltb, min, Bool, true, false, cond, ◌&&◌}
use Rattle.lazy_rec.specs.declared.records.Rec.{Rec}
use Rattle.lazy_rec.specs.declared.records.Rec.TheVariants.{HeapTop, TNil, TCons, Tree, HeapInsert, HeapMerge}
use Rattle.lazy_rec.specs.Named.{Records}
use Rattle.lazy_rec.specs.Meaning.{by_record}

-- a list of trees: the first one's rank, item and children, and the trees after it
pub data Forest : Type 0 where
  no_trees : Forest
  a_tree : ℕ → ℕ → Forest → Forest → Forest

abbrev pub in_front : Forest → Forest → Forest
in_front no_trees more = more
in_front (a_tree rank item kids _) more = a_tree rank item kids more

-- a tree that comes into a list is linked, as the first, with the tree of equal rank that it meets; the greater root goes below
abbrev pub add_tree : ℕ → ℕ → Forest → Forest → Forest
add_tree rank item kids no_trees = a_tree rank item kids no_trees
add_tree rank item kids (a_tree rank' item' kids' more) = cond (eqb rank rank')
    (add_tree (suc rank) (min item item') (cond (leb item item') (a_tree rank' item' kids' kids) (a_tree rank item kids kids')) more)
    (a_tree rank item kids (a_tree rank' item' kids' more))

-- the first list's tree merged with the second list, where it is known what the trees after it merge to
abbrev pub merge_first : ℕ → ℕ → Forest → Forest → (Forest → Forest) → Forest → Forest
merge_first rank item kids after merge_after no_trees = a_tree rank item kids after
merge_first rank item kids after merge_after (a_tree rank' item' kids' more) = elim (ltb rank rank') [
  | true ↦ a_tree rank item kids (merge_after (a_tree rank' item' kids' more))
  | false ↦ elim (ltb rank' rank) [
    | true ↦ a_tree rank' item' kids' (merge_first rank item kids after merge_after more)
    | false ↦ add_tree (suc rank) (min item item') (cond (leb item item') (a_tree rank' item' kids' kids) (a_tree rank item kids kids')) (merge_after more)
  ]
]

abbrev pub merge : Forest → Forest → Forest
merge no_trees g = g
merge (a_tree rank item kids after) g = merge_first rank item kids after (merge after) g

abbrev pub same_forest : Forest → Forest → Bool
same_forest no_trees no_trees = true
same_forest no_trees (a_tree _ _ _ _) = false
same_forest (a_tree _ _ _ _) no_trees = false
same_forest (a_tree rank item kids more) (a_tree rank' item' kids' more') = eqb rank rank' && eqb item item' && same_forest kids kids' && same_forest more more'

-- the ranks rise, from a number on
abbrev pub ranks_rise : ℕ → Forest → Bool
ranks_rise low no_trees = true
ranks_rise low (a_tree rank _ _ more) = leb low rank && ranks_rise (suc rank) more

-- the ranks are all those below a number, falling to 0
abbrev pub ranks_fall : ℕ → Forest → Bool
ranks_fall zero no_trees = true
ranks_fall zero (a_tree _ _ _ _) = false
ranks_fall (suc rank) no_trees = false
ranks_fall (suc rank) (a_tree rank' _ _ more) = eqb rank' rank && ranks_fall rank more

-- the trees of a list, or of the list that a suspension stands for
abbrev pub forest_of : (ℕ → Forest) → Rec → Forest
forest_of lower (HeapTop list _ _) = lower list.0
forest_of lower (TCons tree rest) = in_front (lower tree.0) (lower rest.0)
forest_of lower (Tree rank item kids) = a_tree rank item.0 (lower kids.0) no_trees
forest_of lower (HeapInsert item list _) = add_tree 0 item.0 no_trees (lower list.0)
forest_of lower (HeapMerge list1 list2 _ _) = merge (lower list1.0) (lower list2.0)
forest_of lower _ = no_trees

unfoldable pub forest : Records → ℕ → Forest
forest = by_record no_trees forest_of

-- TCons and TNil alone, all the way
abbrev pub trees_only_of : (ℕ → Bool) → Rec → Bool
trees_only_of lower TNil = true
trees_only_of lower (TCons _ rest) = lower rest.0
trees_only_of lower _ = false

unfoldable pub is_trees_only : Records → ℕ → Bool
is_trees_only = by_record false trees_only_of

-- a list of trees alone, whose ranks rise
abbrev pub is_tree_list : Records → ℕ → Bool
is_tree_list rs p = is_trees_only rs p && ranks_rise 0 (forest rs p)
