-- What an event with a result has looked at: these places of its base's root are values or done. A body that walks pending
-- work and forces nothing breaks it.
use Rattle.std.specs.Prelude.{◌≡◌, ℕ, ◌+◌, eqb, ltb, Bool, true, false, cond, ◌&&◌, Option, Some, None, length}
use Rattle.lazy_rec.specs.declared.records.Rec.{Rec}
use Rattle.lazy_rec.specs.declared.records.Rec.TheVariants.{StreamTop, BankTop, RtTop, HeapTop, CatNode, Deep}
use Rattle.lazy_rec.specs.declared.events.Op.{Op}
use Rattle.lazy_rec.specs.declared.events.Op.TheVariants as ops
use Rattle.lazy_rec.specs.declared.events.Event.{Event}
use Rattle.lazy_rec.specs.declared.events.Reply.{Reply}
use Rattle.lazy_rec.specs.declared.events.Reply.TheVariants as replies
use Rattle.lazy_rec.specs.Named.{at_record}
use Rattle.heap_store.specs.declared.versions.Version.{Version}
use Rattle.heap_store.specs.World.{World, recs, holds, is_value}
use Rattle.heap_store.specs.Completion.{on_rt_queue, first_cell, elements}
use Rattle.heap_store.specs.Rows.{Row, reply_of, NamedRows, row_at, version_at}
use Rattle.heap_store.specs.Lawful.{is_root}

-- of the queue of a catenable list's node
abbrev pub looked_at_kids : World → Op → Rec → Bool
looked_at_kids w ops.Snoc kids = on_rt_queue (λ _ _ _ _ sched. is_value w sched) kids
looked_at_kids w ops.Append kids = on_rt_queue (λ _ _ _ _ sched. is_value w sched) kids
looked_at_kids w ops.Tail kids = on_rt_queue (λ front lenf _ lenr sched. cond (eqb (lenf + lenr) 0) true
    (first_cell w front (λ c v _. c && is_value w v) && cond (ltb 1 (lenf + lenr)) (is_value w sched) true)) kids
looked_at_kids w _ kids = true

abbrev pub has_one : World → ℕ → Bool
has_one w digit = eqb (length (elements w digit)) 1

-- what an operation looks at in the record of its base's root. `longer` says that an append's other list isn't empty
abbrev pub looked_at : World → Op → Bool → Rec → Bool
looked_at w ops.Head longer (StreamTop front _) = is_value w front.0
looked_at w ops.Tail longer (StreamTop front _) = is_value w front.0
looked_at w ops.Head longer (BankTop _ front _ _ _ _ _ _) = is_value w front.0
looked_at w ops.Tail longer (BankTop _ front _ _ _ _ _ _) = is_value w front.0
looked_at w ops.Head longer (RtTop front _ _ _ _) = is_value w front.0
looked_at w ops.Tail longer (RtTop front _ _ _ sched) = is_value w front.0 && is_value w sched.0
looked_at w ops.Snoc longer (RtTop _ _ _ _ sched) = is_value w sched.0
looked_at w ops.Min longer (HeapTop list _ _) = is_value w list.0
looked_at w ops.Delmin longer (HeapTop list _ _) = is_value w list.0
looked_at w ops.Popl longer (Deep left middle _ _ _) = cond (has_one w left.0) (is_value w middle.0) true
looked_at w ops.Popr longer (Deep _ middle right _ _) = cond (has_one w right.0) (is_value w middle.0) true
looked_at w op longer (CatNode _ kids _) = cond longer (at_record false (looked_at_kids w op) (recs w kids.0)) true
looked_at w op longer r = true

-- a reply that is neither empty nor toolong
abbrev pub is_result : Reply → Bool
is_result replies.Ok = true
is_result (replies.Number _) = true
is_result _ = false

-- whether the other list of an append isn't empty; every other operation is looked at whatever its other
abbrev pub is_longer_by : Op → ℕ → Bool
is_longer_by ops.Append other_size = ltb 0 other_size
is_longer_by _ other_size = true

-- an event with a result has looked at its base's root
abbrev pub has_looked : World → Op → Reply → ℕ → ℕ → Bool
has_looked w (ops.New _) reply root other_size = true
has_looked w op reply root other_size = cond (is_result reply) (holds (recs w) root (looked_at w op (is_longer_by op other_size))) true

abbrev pub size_of : Option Version → ℕ
size_of None = 0
size_of (Some v) = v.size

-- the row's event has looked at the root of its base's version. (An answered row's base is answered.)
abbrev pub row_has_looked : World → NamedRows → Event → Reply → Option Version → Bool
row_has_looked w rows e reply None = true
row_has_looked w rows e reply (Some base) = has_looked w e.op reply base.root.0 (size_of (version_at rows e.other))

-- the roots of all versions, and what all answered rows have looked at
pub record RootsOf (w : World) (rows : NamedRows) : Type 0 where
  pub roots : (n : ℕ) (v : Version) → version_at rows n ≡ Some v → holds (recs w) v.root.0 (is_root (recs w) v.kind v.root.0) ≡ true
  pub looked : (i : ℕ) (r : Row) → rows i ≡ Some r → (told : Reply) → reply_of r.ending ≡ Some told → row_has_looked w rows r.event told (version_at rows r.event.base) ≡ true

abbrev pub HasRoots : World → Type 0
HasRoots w = RootsOf w (row_at w)
