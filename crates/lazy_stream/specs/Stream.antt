-- The pending work of streams, and what their operations need and take.
use Rattle.std.specs.Prelude.{◌≡◌, ℕ, ◌+◌, ◌<◌, eqb, ltb, leb, Bool, true, false, cond, ◌||◌, length}
use Rattle.lazy_rec.specs.declared.records.Rec.{Rec}
use Rattle.lazy_rec.specs.declared.records.Rec.TheVariants.{StreamTop, Append, Reverse}
use Rattle.lazy_rec.specs.declared.events.Op.{Op}
use Rattle.lazy_rec.specs.declared.events.Op.TheVariants as ops
use Rattle.lazy_rec.specs.Tests.{is_some_and}
use Rattle.lazy_rec.specs.Plain.{most_items}
use Rattle.lazy_rec.specs.Meaning.{cells}
use Rattle.heap_store.specs.declared.jobs.Cursor.{Cursor}
use Rattle.heap_store.specs.declared.jobs.Prep.{Prep}
use Rattle.heap_store.specs.declared.jobs.Prep.TheVariants.{Need, Ready}
use Rattle.heap_store.specs.declared.jobs.EventJob.{EventJob}
use Rattle.heap_store.specs.World.{World, recs, holds, is_value}
use Rattle.heap_store.specs.Lawful.{is_stream, has_items, walk}

-- appends and reversals
abbrev pub is_stream_work : Rec → Bool
is_stream_work (Append _ _ _ _ _) = true
is_stream_work (Reverse _ _) = true
is_stream_work _ = false

-- where a prepare of a reversal leaves the cursor: it has passed the cells before the one that is needed, or all of them. So the
-- next prepare goes on there
abbrev pub goes_on_at : World → Rec → Cursor → Prep → Bool
goes_on_at w (Reverse xs left) c (Need t) = is_some_and (eqb t.0) (walk w c.passed xs.0)
goes_on_at w (Reverse xs left) c (Ready _) = eqb c.passed left
goes_on_at w _ c _ = true

-- a test of the first place of a stream's top
abbrev pub on_top : (ℕ → Bool) → Rec → Bool
on_top test (StreamTop front _) = test front.0
on_top test _ = false

-- a stream of so many cells, all items, that is named below a place
pub record IsStreamOf (w : World) (front size place : ℕ) : Type 0 where
  pub stream : is_stream (recs w) front ≡ true
  pub items : has_items (recs w) front ≡ true
  pub count : length (cells (recs w) front) ≡ size
  pub most : size < 2147483648
  pub low : front < place

-- the places that an operation takes at the sizes of the base and of the other: a top, and what stands before it. An append of
-- or to an empty stream and the reverse of one suspend nothing, and what makes nothing takes none
abbrev pub places_for : Op → ℕ → ℕ → ℕ
places_for ops.Cons n m = cond (eqb n most_items) 0 2
places_for ops.Append n m = cond (leb (n + m) most_items) (cond (eqb n 0 || eqb m 0) 1 2) 0
places_for ops.Reverse n m = cond (eqb n 0) 1 2
places_for ops.Tail n m = cond (eqb n 0) 0 1
places_for _ n m = 0

-- the operations that look at the first cell of a stream that has one
abbrev pub looks_at_first : Op → ℕ → Bool
looks_at_first ops.Head n = ltb 0 n
looks_at_first ops.Tail n = ltb 0 n
looks_at_first _ n = false

-- what the answer that an event is ready tells its build: the places are those of the operation, and the first place is a value
-- or done where the operation looks at it
pub record IsReadyEvent (w : World) (job : EventJob) (nodes : ℕ) : Type 0 where
  pub places : nodes ≡ places_for job.op job.base.size job.other.size
  pub known : looks_at_first job.op job.base.size ≡ true → holds (recs w) job.base.root.0 (on_top (is_value w)) ≡ true
