-- The tree with the least root of a list, where it stands, and trees that are put again and turned.
use Rattle.std.specs.Prelude.{◌≡◌, ℕ, zero, suc, ◌+◌, ◌≤◌, ltb, true, cond, Option, Some, None}
use Rattle.heap_store.specs.World.{World, recs}
use Rattle.heap_store.specs.Forest.{Forest, no_trees, a_tree, forest, is_trees_only}
use Rattle.binom_heap.specs.declared.removal.LeastTree.{LeastTree}
use Rattle.heap_store.specs.Span.{Span}
use Rattle.heap_store.specs.Hand.{IsInHand}
use Rattle.heap_store.specs.View.{View}
use Rattle.binom_heap.specs.Laying.{IsList}

-- how many trees stand before the first one with the least root, and its rank, its root and its children
pub record Least : Type 0 where
  pub before : ℕ
  pub rank : ℕ
  pub item : ℕ
  pub kids : Forest

-- of a tree and of what is found behind it, the lesser root, of equal ones the first
abbrev pub least_step : ℕ → ℕ → Forest → Option Least → Option Least
least_step rank item kids None = Some (record { before = 0; rank = rank; item = item; kids = kids })
least_step rank item kids (Some later) = cond (ltb later.item item) (Some (record later { before = suc later.before })) (Some (record { before = 0; rank = rank; item = item; kids = kids }))

abbrev pub least_of : Forest → Option Least
least_of no_trees = None
least_of (a_tree rank item kids more) = least_step rank item kids (least_of more)

-- what stands behind the first trees of a list, so many
abbrev pub behind : ℕ → Forest → Forest
behind zero f = f
behind (suc n) no_trees = no_trees
behind (suc n) (a_tree _ _ _ more) = behind n more

-- the first trees of a list, so many, in front of others
abbrev pub first_onto : ℕ → Forest → Forest → Forest
first_onto zero f onto = onto
first_onto (suc n) no_trees onto = onto
first_onto (suc n) (a_tree rank item kids more) onto = a_tree rank item kids (first_onto n more onto)

-- trees in the other order, in front of others
abbrev pub turned : Forest → Forest → Forest
turned no_trees onto = onto
turned (a_tree rank item kids more) onto = turned more (a_tree rank item kids onto)

abbrev pub tree_count : Forest → ℕ
tree_count no_trees = 0
tree_count (a_tree _ _ _ more) = suc (tree_count more)

-- the list at a place begins with the tree, has what stands behind it, and so many trees stand before it
pub record StandsAt (w : World) (f : Forest) (l : Least) (place before : ℕ) : Type 0 where
  pub before_is : before ≡ l.before
  pub trees : is_trees_only (recs w) place ≡ true
  pub forest_is : forest (recs w) place ≡ a_tree l.rank l.item l.kids (behind (suc l.before) f)

-- where the tree stands in the list, and its root
pub record IsFound (w : World) (list : ℕ) (l : Least) (t : LeastTree) : Type 0 where
  pub stands : StandsAt w (forest (recs w) list) l t.at.0 t.before
  pub item : t.item.0 ≡ l.item

-- the tree that was found is that one
abbrev pub IsLeast : World → ℕ → Option Least → Option LeastTree → Type 0
IsLeast w list None None = Unit {0}
IsLeast w list None (Some _) = ⊥
IsLeast w list (Some _) None = ⊥
IsLeast w list (Some l) (Some t) = IsFound w list l t

-- what ask the first trees of a list that are put again in front of another
pub record MayPutAgain (v : View) (run : Span) (list count onto : ℕ) : Type 0 where
  pub held : IsInHand v.hand run
  pub room : run.next + count ≤ run.end
  pub list_is : IsList v.seen list run.next
  pub some : count ≤ tree_count (forest (recs v.seen) list)
  pub onto_is : IsList v.seen onto run.next

-- what asks a list that is turned in front of another
pub record MayTurn (v : View) (run : Span) (list onto : ℕ) : Type 0 where
  pub held : IsInHand v.hand run
  pub room : run.next + tree_count (forest (recs v.seen) list) ≤ run.end
  pub list_is : IsList v.seen list run.next
  pub onto_is : IsList v.seen onto run.next
