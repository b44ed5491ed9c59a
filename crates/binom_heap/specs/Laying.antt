-- Trees and lists of trees that are laid in a run: what each step asks and makes.
use Rattle.std.specs.Prelude.{◌≡◌, ℕ, suc, ◌+◌, ◌*◌, ◌<◌, ◌≤◌, ◌^◌, min, true, Some}
use Rattle.lazy_rec.specs.declared.records.Sort.TheVariants as sorts
use Rattle.lazy_rec.specs.Named.{sort_of, same_sort}
use Rattle.heap_store.specs.World.{World, recs, holds}
use Rattle.heap_store.specs.Span.{Span}
use Rattle.heap_store.specs.View.{View}
use Rattle.heap_store.specs.Hand.{IsInHand}
use Rattle.heap_store.specs.Jobs.{Filled}
use Rattle.heap_store.specs.Forest.{Forest, a_tree, forest, is_trees_only, ranks_rise}
use Rattle.binom_heap.specs.declared.trees.BinomialTree.{BinomialTree}
use Rattle.binom_heap.specs.Trees.{tree_record, linked_kids, trees_met, weight, merge_places}

-- so many places of a run were filled, with records that show nothing
pub record Puts (old now : View) (before run : Span) (count : ℕ) : Type 0 where
  pub filled : Filled old now before.next run.next
  pub next : run.next ≡ before.next + count
  pub same_end : run.end ≡ before.end
  pub held : IsInHand now.hand run
  pub credits : old.hand.credits ≤ now.hand.credits

-- a published tree below a place
pub record IsTree (w : World) (t : BinomialTree) (place : ℕ) : Type 0 where
  pub there : recs w t.place.0 ≡ Some (tree_record t)
  pub low : t.place.0 < place

-- what a link asks: two trees of one rank, which isn't the highest
pub record MayLink (v : View) (run : Span) (first second : BinomialTree) : Type 0 where
  pub held : IsInHand v.hand run
  pub room : run.next + 2 ≤ run.end
  pub first_is : IsTree v.seen first run.next
  pub second_is : IsTree v.seen second run.next
  pub same : second.rank ≡ first.rank
  pub rank : first.rank + 1 < 32

-- the tree with another one as its first child
pub record Grown (old new : View) (before run : Span) (top below result : BinomialTree) : Type 0 where
  pub puts : Puts old new before run 2
  pub tree : IsTree new.seen result run.next
  pub rank : result.rank ≡ suc top.rank
  pub item : result.item ≡ top.item
  pub kids : forest (recs new.seen) result.kids.0 ≡ a_tree below.rank below.item.0 (forest (recs old.seen) below.kids.0) (forest (recs old.seen) top.kids.0)

-- the tree of two linked ones
pub record Linked (old new : View) (before run : Span) (first second result : BinomialTree) : Type 0 where
  pub puts : Puts old new before run 2
  pub tree : IsTree new.seen result run.next
  pub rank : result.rank ≡ suc first.rank
  pub item : result.item.0 ≡ min first.item.0 second.item.0
  pub kids : forest (recs new.seen) result.kids.0 ≡ linked_kids first.rank first.item.0 (forest (recs old.seen) first.kids.0) second.rank second.item.0 (forest (recs old.seen) second.kids.0)

-- a published list of trees alone, below a place
pub record IsList (w : World) (list place : ℕ) : Type 0 where
  pub trees : is_trees_only (recs w) list ≡ true
  pub low : list < place

-- what asks the put of a cell, which has the place of a published tree in front of a list
pub record MayPutCell (v : View) (run : Span) (tree list : ℕ) : Type 0 where
  pub held : IsInHand v.hand run
  pub room : run.next + 1 ≤ run.end
  pub there : holds (recs v.seen) tree (λ r. same_sort (sort_of r) sorts.Tree) ≡ true
  pub low : tree < run.next
  pub list_is : IsList v.seen list run.next

-- what the insert of a tree into a list asks
pub record MayInsert (v : View) (run : Span) (tree : BinomialTree) (list : ℕ) : Type 0 where
  pub held : IsInHand v.hand run
  pub room : run.next + (2 * trees_met tree.rank (forest (recs v.seen) list) + 1) ≤ run.end
  pub tree_is : IsTree v.seen tree run.next
  pub list_is : IsList v.seen list run.next
  pub rise : ranks_rise tree.rank (forest (recs v.seen) list) ≡ true
  pub rank : tree.rank + trees_met tree.rank (forest (recs v.seen) list) < 32

-- what a merge of two lists asks
pub record MayMerge (v : View) (run : Span) (list1 list2 : ℕ) : Type 0 where
  pub held : IsInHand v.hand run
  pub room : run.next + merge_places (forest (recs v.seen) list1) (forest (recs v.seen) list2) ≤ run.end
  pub first_is : IsList v.seen list1 run.next
  pub second_is : IsList v.seen list2 run.next
  pub rise1 : ranks_rise 0 (forest (recs v.seen) list1) ≡ true
  pub rise2 : ranks_rise 0 (forest (recs v.seen) list2) ≡ true
  pub small : weight (forest (recs v.seen) list1) + weight (forest (recs v.seen) list2) < 2 ^ 32

-- a list of these trees was laid in so many places
pub record Laid (old new : View) (before run : Span) (count place : ℕ) (f : Forest) : Type 0 where
  pub puts : Puts old new before run count
  pub list : IsList new.seen place run.next
  pub forest_is : forest (recs new.seen) place ≡ f
