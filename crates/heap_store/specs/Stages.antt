-- What each stage of an event may show first, and how many places it may take. These tables split those of the whole event.
use Rattle.std.specs.Prelude.{ℕ, ◌+◌, ◌*◌, ◌≤◌, Bool, true, false, List, [], ◌∷◌, drop, sum_by}
use Rattle.lazy_rec.specs.declared.events.Kind.{Kind}
use Rattle.lazy_rec.specs.declared.events.Kind.TheVariants as kinds
use Rattle.lazy_rec.specs.declared.events.Op.{Op}
use Rattle.lazy_rec.specs.declared.events.Op.TheVariants as ops
use Rattle.lazy_rec.specs.Numbers.{bits, ones, zeros}
use Rattle.lazy_rec.specs.Due.{due, direct}
use Rattle.heap_store.specs.declared.jobs.Stage.{Stage}
use Rattle.heap_store.specs.declared.jobs.Stage.TheVariants.{Start, HeapPaid, Parts, Root}
use Rattle.heap_store.specs.declared.jobs.EventJob.{EventJob}

-- the stages, in the order in which an event can come to them
pub data StageName : Type 0 where
  at_start : StageName
  at_heap_paid : StageName
  at_parts : StageName
  at_root : StageName

abbrev pub name_of : Stage → StageName
name_of Start = at_start
name_of (HeapPaid _) = at_heap_paid
name_of (Parts _ _ _ _) = at_parts
name_of (Root _ _) = at_root

abbrev pub all_stages : List StageName
all_stages = at_start ∷ at_heap_paid ∷ at_parts ∷ at_root ∷ []

abbrev pub position : StageName → ℕ
position at_start = 0
position at_heap_paid = 1
position at_parts = 2
position at_root = 3

-- the stages that an operation of a kind can come to
abbrev pub has_stage : Kind → Op → StageName → Bool
has_stage _ _ at_start = true
has_stage kinds.Heap ops.Min at_heap_paid = true
has_stage kinds.Heap ops.Delmin at_heap_paid = true
has_stage kinds.Prio ops.Delmax at_parts = true
has_stage kinds.Ord ops.Insert at_parts = true
has_stage kinds.Ord ops.Remove at_parts = true
has_stage kinds.Seq ops.Nth at_root = true
has_stage kinds.Seq ops.Take at_root = true
has_stage kinds.Seq ops.Drop at_root = true
has_stage kinds.Seq ops.Concat at_root = true
has_stage kinds.Seq ops.Split at_root = true
has_stage kinds.Prio _ at_root = true
has_stage kinds.Ord _ at_root = true
has_stage _ _ _ = false

-- the units that the records of a stage may show first. An operation with no line of its own does all in its first stage
abbrev pub stage_due : Kind → Op → ℕ → ℕ → StageName → ℕ
stage_due kinds.Heap ops.Min n m at_start = zeros n
stage_due kinds.Heap ops.Delmin n m at_start = zeros n
stage_due kinds.Heap ops.Delmin n m at_heap_paid = ones n + bits n
stage_due kinds.Prio ops.Delmax n m at_start = 2 * bits n * bits n
stage_due kinds.Prio ops.Delmax n m at_parts = bits n
stage_due kinds.Ord ops.Insert n m at_start = 2 * bits n * bits n
stage_due kinds.Ord ops.Insert n m at_parts = bits (n + 1)
stage_due kinds.Ord ops.Remove n m at_start = 2 * bits n * bits n
stage_due kinds.Ord ops.Remove n m at_parts = bits n
stage_due k op n m at_start = due k op n m
stage_due _ _ n m _ = 0

-- the places that a stage may take
abbrev pub stage_places : Kind → Op → ℕ → ℕ → StageName → ℕ
stage_places kinds.Heap ops.Delmin n m at_start = 1
stage_places kinds.Heap ops.Delmin n m at_heap_paid = 2 * bits n + 2
stage_places kinds.Prio ops.Delmax n m at_start = 8 * bits n + 8
stage_places kinds.Prio ops.Delmax n m at_parts = 8
stage_places kinds.Ord ops.Insert n m at_start = 8 * bits n + 8
stage_places kinds.Ord ops.Insert n m at_parts = 12
stage_places kinds.Ord ops.Remove n m at_start = 8 * bits n + 8
stage_places kinds.Ord ops.Remove n m at_parts = 8
stage_places k op n m at_start = direct k op n m
stage_places _ _ n m _ = 0

-- what is left for a stage and those after it
abbrev pub left_from : (StageName → ℕ) → StageName → ℕ
left_from f s = sum_by f (drop (position s) all_stages)

-- of a job at its present stage
abbrev pub due_now : EventJob → ℕ
due_now job = stage_due job.base.kind job.op job.base.size job.other.size (name_of job.stage)

abbrev pub places_now : EventJob → ℕ
places_now job = stage_places job.base.kind job.op job.base.size job.other.size (name_of job.stage)

-- what is left of it from that stage on
abbrev pub due_left : EventJob → ℕ
due_left job = left_from (stage_due job.base.kind job.op job.base.size job.other.size) (name_of job.stage)

abbrev pub places_left : EventJob → ℕ
places_left job = left_from (stage_places job.base.kind job.op job.base.size job.other.size) (name_of job.stage)

-- the places that the event of a job may take itself
abbrev pub direct_of : EventJob → ℕ
direct_of job = direct job.base.kind job.op job.base.size job.other.size

-- the stages of one event take no more than the event may
pub record StagesSum (k : Kind) (op : Op) (n m : ℕ) : Type 0 where
  pub dues : left_from (stage_due k op n m) at_start ≤ due k op n m
  pub places : left_from (stage_places k op n m) at_start ≤ direct k op n m

-- what is left at a stage suffices for it and for what is left at a later one
pub record LeavesEnough (k : Kind) (op : Op) (n m : ℕ) (now next : StageName) : Type 0 where
  pub dues : left_from (stage_due k op n m) next + stage_due k op n m now ≤ left_from (stage_due k op n m) now
  pub places : left_from (stage_places k op n m) next + stage_places k op n m now ≤ left_from (stage_places k op n m) now
