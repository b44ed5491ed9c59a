-- The stages of an event take no more than the event may, and a completion no more places than its steps allow.
use Rattle.std.proofs.Common.{ℕ, cond, eqb, ◌*◌, ◌+◌, ◌<◌, ◌≤◌, Bool, true, false, arith}
use Rattle.lazy_rec.specs.declared.events.Kind.{Kind}
use Rattle.lazy_rec.specs.declared.events.Kind.TheVariants as kinds
use Rattle.lazy_rec.specs.declared.events.Op.{Op}
use Rattle.lazy_rec.specs.declared.events.Op.TheVariants as ops
use Rattle.lazy_rec.proofs.Digits.{count_true-le}
use Rattle.lazy_rec.specs.Numbers.{binary, bits, ones, zeros}
use Rattle.heap_store.specs.declared.jobs.EventJob.{EventJob}
use Rattle.heap_store.specs.Stages.{StageName, at_start, at_heap_paid, at_parts, at_root, position, left_from, name_of, stage_due, stage_places, due_now, places_now, due_left, places_left, direct_of, StagesSum}
use Rattle.lazy_rec.specs.declared.records.Rec.{Rec}
use Rattle.lazy_rec.specs.declared.records.Rec.TheVariants.{Append, Reverse, BankRot, RtRot, HeapInsert, HeapMerge, LinkAll}
use Rattle.lazy_rec.specs.Units.{steps}
use Rattle.heap_store.specs.Jobs.{most_places}
use Rattle.heap_store.specs.Stages.{StageName, at_start, at_heap_paid, at_parts, at_root, position, left_from, StagesSum}

ones_zeros : (n : ℕ) → ones n + zeros n ≤ bits n
ones_zeros n = omega (arith, count_true-le (binary n))

pub stages_sum : (k : Kind) (op : Op) (n m : ℕ) → StagesSum k op n m
stages_sum kinds.Heap ops.Min n m = record { dues = omega (arith, ones_zeros n); places = omega arith }
stages_sum kinds.Heap ops.Delmin n m = record { dues = omega (arith, ones_zeros n); places = omega arith }
stages_sum kinds.Prio ops.Delmax n m = record { dues = omega arith; places = omega arith }
stages_sum kinds.Ord ops.Insert n m = record { dues = omega arith; places = omega arith }
stages_sum kinds.Ord ops.Remove n m = record { dues = omega arith; places = omega arith }
stages_sum k op n m = record { dues = omega arith; places = omega arith }

-- what is left at a stage suffices for it and for what is left at any later one
pub left_step : (f : StageName → ℕ) (a b : StageName) → position a < position b → left_from f b + f a ≤ left_from f a
left_step f at_start at_start h = absurd (omega arith)
left_step f at_start at_heap_paid h = omega arith
left_step f at_start at_parts h = omega arith
left_step f at_start at_root h = omega arith
left_step f at_heap_paid at_start h = absurd (omega arith)
left_step f at_heap_paid at_heap_paid h = absurd (omega arith)
left_step f at_heap_paid at_parts h = omega arith
left_step f at_heap_paid at_root h = omega arith
left_step f at_parts at_start h = absurd (omega arith)
left_step f at_parts at_heap_paid h = absurd (omega arith)
left_step f at_parts at_parts h = absurd (omega arith)
left_step f at_parts at_root h = omega arith
left_step f at_root at_start h = absurd (omega arith)
left_step f at_root at_heap_paid h = absurd (omega arith)
left_step f at_root at_parts h = absurd (omega arith)
left_step f at_root at_root h = absurd (omega arith)

-- what is left at a stage suffices for it
own_left : (f : StageName → ℕ) (s : StageName) → f s ≤ left_from f s
own_left f at_start = omega arith
own_left f at_heap_paid = omega arith
own_left f at_parts = omega arith
own_left f at_root = omega arith

-- and is no more than what all stages take together
left_all : (f : StageName → ℕ) (s : StageName) → left_from f s ≤ left_from f at_start
left_all f at_start = omega arith
left_all f at_heap_paid = omega arith
left_all f at_parts = omega arith
left_all f at_root = omega arith

pub own_due : (job : EventJob) → due_now job ≤ due_left job
own_due job = own_left (stage_due job.base.kind job.op job.base.size job.other.size) (name_of job.stage)

pub own_places : (job : EventJob) → places_now job ≤ places_left job
own_places job = own_left (stage_places job.base.kind job.op job.base.size job.other.size) (name_of job.stage)

pub places_direct : (job : EventJob) → places_left job ≤ direct_of job
places_direct job =
    let all : left_from (stage_places job.base.kind job.op job.base.size job.other.size) at_start ≤ direct_of job = (stages_sum job.base.kind job.op job.base.size job.other.size).places in
    omega (arith, all, left_all (stage_places job.base.kind job.op job.base.size job.other.size) (name_of job.stage))

-- a completion takes at most eight places a step
pub most_in_steps : (r : Rec) → most_places r ≤ 8 * steps r
most_in_steps (Append _ _ left _ _) = by (eqb left 1)
  where
    by : (b : Bool) → cond b 1 2 ≤ 8
    by true = omega arith
    by false = omega arith
most_in_steps (Reverse _ left) = omega arith
most_in_steps (BankRot _ _ left _ off) = by (eqb left 0)
  where
    by : (b : Bool) → cond b (off + 1) 2 ≤ 8 * cond b (off + 1) 1
    by true = omega arith
    by false = omega arith
most_in_steps (RtRot _ _ _ left _ _) = by (eqb left 0)
  where
    by : (b : Bool) → cond b 1 3 ≤ 8
    by true = omega arith
    by false = omega arith
most_in_steps (HeapInsert item list size) = omega arith
most_in_steps (HeapMerge list1 list2 n1 n2) = omega arith
most_in_steps (LinkAll _ len _ _ _) = by (eqb len 1)
  where
    by : (b : Bool) → cond b 0 8 ≤ 8
    by true = omega arith
    by false = omega arith
most_in_steps _ = omega arith
