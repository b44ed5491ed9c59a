-- The kinds that are built, their pending work, and what their prepares tell their builds. A kind joins with a line in each of
-- these tables.
use Rattle.std.specs.Prelude.{◌≡◌, ℕ, Bool, true, false, not, ◌&&◌, ◌||◌, List, Option, Some}
use Rattle.lazy_rec.specs.declared.records.Rec.{Rec}
use Rattle.lazy_rec.specs.declared.records.Rec.TheVariants.{Append, Reverse, BankRot, RtRot, HeapInsert, HeapMerge, PushL, PushR, DeepL, DeepR, Concat}
use Rattle.lazy_rec.specs.declared.events.Kind.{Kind}
use Rattle.lazy_rec.specs.declared.events.Kind.TheVariants as kinds
use Rattle.lazy_rec.specs.declared.events.Op.{Op}
use Rattle.lazy_rec.specs.declared.events.Event.{Event}
use Rattle.lazy_rec.specs.Tests.{is_some_and}
use Rattle.lazy_rec.specs.Kinds.{belongs, uses_base}
use Rattle.lazy_rec.specs.History.{event_of, kind_of}
use Rattle.heap_store.specs.declared.jobs.Cursor.{Cursor}
use Rattle.heap_store.specs.declared.jobs.EventJob.{EventJob}
use Rattle.heap_store.specs.World.{World, recs}
use Rattle.lazy_stream.specs.Stream as stream
use Rattle.bank_queue.specs.Queue as bank
use Rattle.rt_queue.specs.Queue as real_time
use Rattle.binom_heap.specs.Heap as heap
use Rattle.binom_heap.specs.Work.{heap_told}
use Rattle.finger_tree.specs.Work.{LevelTold}
use Rattle.finger_apps.specs.Sequence as sequence
use Rattle.finger_apps.specs.Sequence.{is_end_op}

-- the kinds that are built, with all their operations
abbrev pub is_kind_built : Kind → Bool
is_kind_built kinds.Stream = true
is_kind_built kinds.Bankq = true
is_kind_built kinds.Rtq = true
is_kind_built kinds.Heap = true
is_kind_built _ = false

-- whether the operation of the kind is built: `new`, and those that the kind has; of sequences those at the ends
abbrev pub is_built : Kind → Op → Bool
is_built kinds.Seq op = is_end_op op || not (uses_base op)
is_built k op = is_kind_built k && (belongs k op || not (uses_base op))

-- whether the event of this name is built, by the kind that the name stands for
abbrev pub is_built_at : List Event → ℕ → Event → Bool
is_built_at events i e = is_some_and (λ k. is_built k e.op) (kind_of (event_of events) i)

abbrev pub AreBuilt : List Event → Type 0
AreBuilt events = (i : ℕ) (e : Event) → event_of events i ≡ Some e → is_built_at events i e ≡ true

-- pending work of a kind that is built
abbrev pub is_any_work : Rec → Bool
is_any_work (Append _ _ _ _ _) = true
is_any_work (Reverse _ _) = true
is_any_work (BankRot _ _ _ _ _) = true
is_any_work (RtRot _ _ _ _ _ _) = true
is_any_work (HeapInsert _ _ _) = true
is_any_work (HeapMerge _ _ _ _) = true
is_any_work (PushL _ _ _ _ _ _ _ _) = true
is_any_work (PushR _ _ _ _ _ _ _ _) = true
is_any_work (DeepL _ _ _ _ _ _) = true
is_any_work (DeepR _ _ _ _ _ _) = true
is_any_work (Concat _ _ _ _ _ _ _) = true
is_any_work _ = false

-- what the prepare of pending work tells its build, by the work's record; what has no line tells nothing but the number of places
abbrev pub told_of : World → ℕ → ℕ → Option Rec → Type 0
told_of w s nodes (Some (HeapInsert _ _ _)) = heap_told w s nodes
told_of w s nodes (Some (HeapMerge _ _ _ _)) = heap_told w s nodes
told_of w s nodes (Some (PushL _ _ _ _ _ _ _ _)) = LevelTold w s nodes
told_of w s nodes (Some (PushR _ _ _ _ _ _ _ _)) = LevelTold w s nodes
told_of w s nodes (Some (DeepL _ _ _ _ _ _)) = LevelTold w s nodes
told_of w s nodes (Some (DeepR _ _ _ _ _ _)) = LevelTold w s nodes
told_of w s nodes (Some (Concat _ _ _ _ _ _ _)) = LevelTold w s nodes
told_of w s nodes _ = Unit {0}

abbrev pub told_by : World → ℕ → ℕ → Type 0
told_by w s nodes = told_of w s nodes (recs w s)

-- what the answer that a stage is ready tells its build with the cursor, by the base's kind: heaps alone say something of it
abbrev pub ready_of : Kind → Cursor → World → EventJob → ℕ → Type 0
ready_of kinds.Stream cursor w job nodes = stream.IsReadyEvent w job nodes
ready_of kinds.Bankq cursor w job nodes = bank.IsReadyEvent w job nodes
ready_of kinds.Rtq cursor w job nodes = real_time.IsReadyEvent w job nodes
ready_of kinds.Heap cursor w job nodes = heap.IsReadyWith cursor w job nodes
ready_of kinds.Seq cursor w job nodes = sequence.IsReadyEvent w job nodes
ready_of _ cursor w job nodes = Unit {0}

abbrev pub IsReadyEvent : Cursor → World → EventJob → ℕ → Type 0
IsReadyEvent cursor w job nodes = ready_of job.base.kind cursor w job nodes
