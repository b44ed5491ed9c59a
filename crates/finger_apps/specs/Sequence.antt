-- What the operations at the ends of sequences need and take.
use Rattle.std.specs.Prelude.{◌≡◌, ℕ, suc, eqb, cond, Bool, true, false, ltb, ◌&&◌, Option, Some, None, List, [], ◌∷◌, slice_get}
use Rattle.lazy_rec.specs.declared.records.Rec.{Rec}
use Rattle.lazy_rec.specs.declared.records.Rec.TheVariants.{Leaf}
use Rattle.lazy_rec.specs.declared.events.Op.{Op}
use Rattle.lazy_rec.specs.declared.events.Op.TheVariants as ops
use Rattle.lazy_rec.specs.Plain.{last_of, most_items}
use Rattle.heap_store.specs.declared.jobs.EventJob.{EventJob}
use Rattle.heap_store.specs.declared.jobs.Prep.{Prep}
use Rattle.heap_store.specs.declared.jobs.Prep.TheVariants.{Need, Ready}
use Rattle.heap_store.specs.World.{World}
use Rattle.heap_store.specs.Completion.{Made}
use Rattle.finger_level.specs.declared.level.Side.{Side}
use Rattle.finger_level.specs.declared.level.Side.TheVariants as sides
use Rattle.finger_level.specs.Level.{made_places, kept_of}
use Rattle.finger_level.specs.Pushes.{push_all}
use Rattle.finger_level.specs.Pops.{drawn_middle, pop_places, IsFrom}
pub use Rattle.finger_level.specs.Pops.{shown_at}

-- ---- operations

-- a push onto the end of a side, and a look at it
abbrev pub pushes_at : Op → Side → Bool
pushes_at ops.Pushl sides.Left = true
pushes_at ops.Pushr sides.Right = true
pushes_at _ _ = false

abbrev pub looks_at : Op → Side → Bool
looks_at ops.First sides.Left = true
looks_at ops.Last sides.Right = true
looks_at _ _ = false

-- a pop of the end of a side
abbrev pub pops_at : Op → Side → Bool
pops_at ops.Popl sides.Left = true
pops_at ops.Popr sides.Right = true
pops_at _ _ = false

-- a pop of an end: of the operations that are built, only these force
abbrev pub is_pop : Op → Bool
is_pop ops.Popl = true
is_pop ops.Popr = true
is_pop _ = false

-- an item is taken off the base
abbrev pub drops : Op → ℕ → Bool
drops op size = is_pop op && ltb 0 size

-- those that are built: all at the ends
abbrev pub is_end_op : Op → Bool
is_end_op ops.Size = true
is_end_op ops.Popl = true
is_end_op ops.Popr = true
is_end_op ops.Pushl = true
is_end_op ops.Pushr = true
is_end_op ops.First = true
is_end_op ops.Last = true
is_end_op _ = false

-- ---- the ends of a list

abbrev pub end_of : Side → List ℕ → Option ℕ
end_of sides.Left xs = slice_get xs 0
end_of sides.Right xs = last_of xs

abbrev pub at_side : {X : Type 0} → Side → X → X → X
at_side sides.Left left right = left
at_side sides.Right left right = right

-- the record of an item
abbrev pub is_leaf : Rec → Bool
is_leaf (Leaf _) = true
is_leaf _ = false

-- ---- places

-- a push takes the places of a leaf and of the level that it makes of the one that is shown, and none where the sequence is full
abbrev pub push_places : Side → ℕ → Made → ℕ
push_places side size shown = cond (eqb size most_items) 0 (suc (made_places (kept_of shown) (push_all side (0 ∷ []) shown)))

-- the places of an operation, by the level that the base's root shows. A pop that draws up its middle takes them by the level
-- that the middle's value shows
abbrev pub places_for : Op → ℕ → Made → Made → ℕ
places_for ops.Pushl size shown below = push_places sides.Left size shown
places_for ops.Pushr size shown below = push_places sides.Right size shown
places_for ops.Popl size shown below = pop_places sides.Left shown below
places_for ops.Popr size shown below = pop_places sides.Right shown below
places_for _ size shown below = 0

-- the middle that an operation draws up
abbrev pub drawn_for : Op → Made → Option ℕ
drawn_for ops.Popl shown = drawn_middle sides.Left shown
drawn_for ops.Popr shown = drawn_middle sides.Right shown
drawn_for _ shown = None

-- what the answer that an event is ready tells its build
pub record IsReadyEvent (w : World) (job : EventJob) (nodes : ℕ) : Type 0 where
  pub shown : Made
  pub here : shown_at w job.base.root.0 ≡ Some shown
  pub from : ℕ
  pub below : Made
  pub drawn : (m : ℕ) → drawn_for job.op shown ≡ Some m → IsFrom w m from below
  pub places : nodes ≡ places_for job.op job.base.size shown below

-- nothing is needed
abbrev pub is_ready : Prep → Bool
is_ready (Need _) = false
is_ready (Ready _) = true
