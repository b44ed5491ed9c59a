-- The lazy binomial heap: lists of trees in order, and what is owed (Okasaki, 6.4.1). What a merge makes is told by Forest.
use Rattle.std.specs.Prelude.{ℕ, ◌+◌, leb, Bool, true, ◌&&◌, ◌||◌}
use Rattle.std.specs.List.{list_all}
use Rattle.lazy_rec.specs.declared.records.Rec.{Rec}
use Rattle.lazy_rec.specs.declared.records.Rec.TheVariants.{HeapTop, Tree, HeapInsert, HeapMerge}
use Rattle.lazy_rec.specs.Numbers.{zeros}
use Rattle.lazy_rec.specs.Named.{Records, is_pending}
use Rattle.lazy_rec.specs.Meaning.{by_record, means}
use Rattle.lazy_rec.specs.Units.{steps}
use Rattle.heap_store.specs.World.{holds}
use Rattle.heap_store.specs.Forest.{forest, ranks_fall, is_trees_only, is_tree_list}

-- the steps of the inserts with which a list begins
abbrev pub insert_steps_of : (ℕ → ℕ) → Rec → ℕ
insert_steps_of lower (HeapInsert item list size) = steps (HeapInsert item list size) + lower list.0
insert_steps_of lower _ = 0

unfoldable pub insert_steps : Records → ℕ → ℕ
insert_steps = by_record 0 insert_steps_of

-- a list that a heap record names is a suspension, or a list of trees of rising ranks
abbrev pub is_heap_list : Records → ℕ → Bool
is_heap_list rs p = holds rs p is_pending || is_tree_list rs p

-- lists have rising ranks, trees are in heap order and full, and no more is owed than the newest inserts cost (Okasaki, 6.4.1)
abbrev pub is_heap : Records → ℕ → Rec → Bool
is_heap rs p (HeapTop list size owed) = is_heap_list rs list.0 && leb owed (zeros size) && leb owed (insert_steps rs list.0)
is_heap rs p (HeapInsert _ list _) = is_heap_list rs list.0
is_heap rs p (HeapMerge list1 list2 _ _) = is_heap_list rs list1.0 && is_heap_list rs list2.0
is_heap rs p (Tree rank item kids) = is_trees_only rs kids.0 && ranks_fall rank (forest rs kids.0) && list_all (leb item.0) (means rs kids.0)
is_heap rs p _ = true
