-- What the operations of a heap need and take, and what makes a heap.
use Rattle.std.specs.Prelude.{◌≡◌, ℕ, ◌+◌, ◌-◌, ◌^◌, ◌<◌, ◌≤◌, eqb, leb, Bool, true, false, cond, ◌||◌, ◌++◌, Option, Some, None, length}
use Rattle.lazy_rec.specs.declared.records.Rec.{Rec}
use Rattle.lazy_rec.specs.declared.records.Rec.TheVariants.{HeapTop}
use Rattle.lazy_rec.specs.declared.records.Sort.TheVariants as sorts
use Rattle.lazy_rec.specs.declared.events.Kind.TheVariants as kinds
use Rattle.lazy_rec.specs.declared.events.Op.{Op}
use Rattle.lazy_rec.specs.declared.events.Op.TheVariants as ops
use Rattle.lazy_rec.specs.Named.{sort_of, same_sort}
use Rattle.lazy_rec.specs.Numbers.{ones, zeros, trailing_ones}
use Rattle.lazy_rec.specs.Meaning.{means}
use Rattle.lazy_rec.specs.Plain.{rising, most_items}
use Rattle.lazy_rec.specs.Units.{paid}
use Rattle.heap_store.specs.declared.jobs.Cursor.{Cursor}
use Rattle.heap_store.specs.declared.jobs.EventJob.{EventJob}
use Rattle.heap_store.specs.declared.jobs.Stage.{Stage}
use Rattle.heap_store.specs.declared.jobs.Stage.TheVariants.{Start, HeapPaid, Parts, Root}
use Rattle.heap_store.specs.declared.jobs.After.{After}
use Rattle.heap_store.specs.declared.jobs.After.TheVariants.{End, Next}
use Rattle.heap_store.specs.World.{World, recs, holds, is_value}
use Rattle.heap_store.specs.Forest.{Forest, forest}
use Rattle.heap_store.specs.Lawful.{is_heap_list, insert_steps, is_root}
use Rattle.heap_store.specs.Span.{Span}
use Rattle.heap_store.specs.Hand.{IsInHand}
use Rattle.heap_store.specs.Budget.{are_discharged}
use Rattle.heap_store.specs.View.{View}
use Rattle.heap_store.specs.Jobs.{Filled}
use Rattle.binom_heap.specs.declared.heap.Top.{Top}
use Rattle.binom_heap.specs.Removal.{Least, least_of, StandsAt}

-- the record of a top
abbrev pub top_record : Top → Rec
top_record t = HeapTop t.list t.size t.owed

-- what is owed with one item more: the steps of the new insert, of which two are paid
abbrev pub owed_after : ℕ → ℕ → ℕ
owed_after owed size = owed + (trailing_ones size + 1) - 2

-- a list of the items that a top says, below a place, of which no more is owed than the newest inserts cost (Okasaki, 6.4.1)
pub record IsNewTop (w : World) (t : Top) (place : ℕ) : Type 0 where
  pub there : holds (recs w) t.list.0 (λ r. same_sort (sort_of r) sorts.TreeList) ≡ true
  pub low : t.list.0 < place
  pub list_is : is_heap_list (recs w) t.list.0 ≡ true
  pub size_is : t.size ≡ length (means (recs w) t.list.0)
  pub fits : t.size ≤ most_items
  pub owed : t.owed ≤ zeros t.size
  pub newest : t.owed ≤ insert_steps (recs w) t.list.0

-- the places of a meld: a merge and its top, a top alone where a side is empty, and none where the heap would have too many items
abbrev pub meld_places : ℕ → ℕ → ℕ
meld_places n m = cond (leb (n + m) most_items) (cond (eqb n 0 || eqb m 0) 1 2) 0

-- the places of an operation's first stage at the sizes of the base and of the other: an insert and its top, and for what looks at
-- the trees a top that owes nothing
abbrev pub start_places : Op → ℕ → ℕ → ℕ
start_places ops.Insert n m = cond (eqb n most_items) 0 2
start_places ops.Meld n m = meld_places n m
start_places ops.Min n m = cond (eqb n 0) 0 1
start_places ops.Delmin n m = cond (eqb n 0) 0 1
start_places _ n m = 0

-- a top that may be published below a place, and that shows nothing there which isn't shown already
pub record IsShownTop (w : World) (t : Top) (place : ℕ) : Type 0 where
  pub top : IsNewTop w t place
  pub shown : are_discharged w (paid (recs w) place (top_record t)) ≡ true

-- what the top of two melded heaps may cost: the steps of their merge, and what both still owe
abbrev pub meld_price : Top → Top → ℕ
meld_price t u = 1 + ones t.size + ones u.size + t.owed + u.owed

-- what a meld of two heaps asks
pub record MayMeld (v : View) (run : Span) (first second : Top) : Type 0 where
  pub held : IsInHand v.hand run
  pub first_is : IsShownTop v.seen first run.next
  pub second_is : IsShownTop v.seen second run.next
  pub size : run.next + meld_places first.size second.size ≡ run.end
  pub fits : first.size + second.size ≤ most_items
  pub credits : meld_price first second ≤ v.hand.credits

-- and makes
pub record Melded (old new : View) (before after : Span) (first second : Top) (place : ℕ) : Type 0 where
  pub filled : Filled old new before.next before.end
  pub spent : after.next ≡ after.end
  pub root : holds (recs new.seen) place (is_root (recs new.seen) kinds.Heap place) ≡ true
  pub items : means (recs new.seen) place ≡ rising (means (recs old.seen) first.list.0 ++ means (recs old.seen) second.list.0)
  pub credits : old.hand.credits ≤ new.hand.credits + meld_price first second

-- the places of a removal from a list of so many items: those of the trees before the least one and of its children, and those of
-- the top of both lists
abbrev pub removal_places : ℕ → Option Least → ℕ
removal_places n None = 0
removal_places n (Some l) = l.before + l.rank + meld_places (n - 2 ^ l.rank) (2 ^ l.rank - 1)

-- the places of the second stage
abbrev pub paid_places : Op → ℕ → Forest → ℕ
paid_places ops.Delmin n f = removal_places n (least_of f)
paid_places _ n f = 0

-- the operations that look at the trees
abbrev pub looks_at_trees : Op → Bool
looks_at_trees ops.Min = true
looks_at_trees ops.Delmin = true
looks_at_trees _ = false

-- the list of a top is a value or done
abbrev pub is_known_list : World → Rec → Bool
is_known_list w (HeapTop list _ _) = is_value w list.0
is_known_list w _ = false

-- the places of each stage, and the trees where the second one looks at them
abbrev pub IsReadyAt : World → EventJob → ℕ → Stage → Type 0
IsReadyAt w job nodes Start = nodes ≡ start_places job.op job.base.size job.other.size
IsReadyAt w job nodes (HeapPaid top) = (holds (recs w) top.0 (is_known_list w) ≡ true) × (nodes ≡ paid_places job.op job.base.size (forest (recs w) top.0))
IsReadyAt w job nodes (Parts _ _ _ _) = nodes ≡ 0
IsReadyAt w job nodes (Root _ _) = nodes ≡ 0

-- what the answer that an event is ready tells its build, beside the cursor
pub record IsReadyEvent (w : World) (job : EventJob) (nodes : ℕ) : Type 0 where
  pub ready : IsReadyAt w job nodes job.stage

-- the cursor is the place of the list that begins with the tree, and how many trees stand before it, if there is a tree
abbrev pub PointsAt : World → Forest → Option Least → Cursor → Type 0
PointsAt w f None cursor = Unit {0}
PointsAt w f (Some l) cursor = StandsAt w f l cursor.place.0 cursor.passed

-- in the second stage of a delmin the cursor points at the first tree of the least root
abbrev pub TellsLeastAt : World → Cursor → Op → Stage → Type 0
TellsLeastAt w cursor ops.Delmin (HeapPaid top) = PointsAt w (forest (recs w) top.0) (least_of (forest (recs w) top.0)) cursor
TellsLeastAt w cursor _ _ = Unit {0}

abbrev pub TellsLeast : World → EventJob → Cursor → Type 0
TellsLeast w job cursor = TellsLeastAt w cursor job.op job.stage

-- what the answer that an event is ready tells its build, with the cursor that it hands on
pub record IsReadyWith (cursor : Cursor) (w : World) (job : EventJob) (nodes : ℕ) : Type 0 where
  pub ready : IsReadyEvent w job nodes
  pub least : TellsLeast w job cursor

-- the event ended at this root
abbrev pub ends_at : After → ℕ → Bool
ends_at (End root _ _) p = eqb root.0 p
ends_at (Next _) p = false
