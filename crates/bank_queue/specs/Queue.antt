-- What the operations of a banker's queue need and take, and what makes a queue.
use Rattle.std.specs.Prelude.{◌≡◌, ℕ, zero, suc, ◌+◌, ◌<◌, ◌≤◌, eqb, ltb, leb, Bool, true, false, cond, ◌&&◌, ◌||◌, not, length}
use Rattle.lazy_rec.specs.declared.records.Rec.{Rec}
use Rattle.lazy_rec.specs.declared.records.Rec.TheVariants.{BankTop}
use Rattle.lazy_rec.specs.declared.events.Op.{Op}
use Rattle.lazy_rec.specs.declared.events.Op.TheVariants as ops
use Rattle.lazy_rec.specs.Plain.{most_items}
use Rattle.lazy_rec.specs.Meaning.{cells}
use Rattle.heap_store.specs.declared.jobs.EventJob.{EventJob}
use Rattle.heap_store.specs.World.{World, recs, holds, is_value}
use Rattle.heap_store.specs.Values.{is_list}
use Rattle.heap_store.specs.Budget.{gain_at}
use Rattle.heap_store.specs.Lawful.{has_items, is_rotated}
use Rattle.bank_queue.specs.declared.queue.Top.{Top}
use Rattle.bank_queue.specs.Front.{is_front, is_paid_front}

-- the record of a top
abbrev pub top_record : Top → Rec
top_record t = BankTop t.rotated t.front t.lenf t.rear t.lenr t.origin t.n t.tails

-- a top takes one place, and one more for a rotation where the rear is longer than the front
abbrev pub top_places : ℕ → ℕ → ℕ
top_places lenf lenr = cond (leb lenr lenf) 1 2

-- the units that are discharged with a top at a place: those that it shows first, or the first one of a new rotation
abbrev pub top_gain : World → ℕ → Top → ℕ
top_gain w place t = cond (leb t.lenr t.lenf) (gain_at w place (top_record t)) 1

-- the places that an operation takes at the lengths of a queue: a `snoc` 2, and 3 with a rotation, a `tail` 1 and 2, and
-- what makes nothing none
abbrev pub places_for : Op → ℕ → ℕ → ℕ
places_for ops.Snoc lenf lenr = cond (eqb (lenf + lenr) most_items) 0 (suc (top_places lenf (suc lenr)))
places_for ops.Tail zero lenr = 0
places_for ops.Tail (suc lenf) lenr = top_places lenf lenr
places_for _ lenf lenr = 0

-- the operations that look at the first cell of a front that has one
abbrev pub looks_at_front : Op → ℕ → Bool
looks_at_front ops.Head lenf = ltb 0 lenf
looks_at_front ops.Tail lenf = ltb 0 lenf
looks_at_front _ lenf = false

-- the places are those of the operation, and the front is a value or done where the operation looks at it
abbrev pub is_ready_top : World → Op → ℕ → Rec → Bool
is_ready_top w op nodes (BankTop _ front lenf rear lenr _ _ _) = eqb nodes (places_for op lenf lenr) && (not (looks_at_front op lenf) || is_value w front.0)
is_ready_top w op nodes _ = false

-- what the answer that an event is ready tells its build
pub record IsReadyEvent (w : World) (job : EventJob) (nodes : ℕ) : Type 0 where
  pub top : holds (recs w) job.base.root.0 (is_ready_top w job.op nodes) ≡ true

-- a front of n cells that is paid and a rear of one more, all items, named below a place
pub record IsRotatable (w : World) (front n rear place : ℕ) : Type 0 where
  pub front_there : is_front (recs w) front ≡ true
  pub front_items : has_items (recs w) front ≡ true
  pub front_length : length (cells (recs w) front) ≡ n
  pub front_low : front < place
  pub rear_there : holds (recs w) rear is_list ≡ true
  pub rear_items : has_items (recs w) rear ≡ true
  pub rear_length : length (cells (recs w) rear) ≡ n + 1
  pub rear_low : rear < place
  pub paid : is_paid_front w front ≡ true

-- a front and a rear that make a queue, perhaps over a rotation
pub record IsNearQueue (w : World) (t : Top) (place : ℕ) : Type 0 where
  pub front_there : is_front (recs w) t.front.0 ≡ true
  pub front_items : has_items (recs w) t.front.0 ≡ true
  pub front_length : length (cells (recs w) t.front.0) ≡ t.lenf
  pub front_low : t.front.0 < place
  pub rear_there : holds (recs w) t.rear.0 is_list ≡ true
  pub rear_items : has_items (recs w) t.rear.0 ≡ true
  pub rear_length : length (cells (recs w) t.rear.0) ≡ t.lenr
  pub rear_low : t.rear.0 < place
  pub near : t.lenr ≤ t.lenf + 1
  pub paid : t.lenf < t.lenr → is_paid_front w t.front.0 ≡ true
  pub rotated : t.lenr ≤ t.lenf → (t.rotated ≡ true) × (t.origin.0 < place) × (is_rotated (recs w) t.front.0 t.lenf t.origin.0 t.n t.tails ≡ true)
