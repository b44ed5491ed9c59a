-- What the operations of a real-time queue need and take, and what makes a queue. Entries may be items or lists.
use Rattle.std.specs.Prelude.{◌≡◌, ℕ, zero, suc, ◌+◌, ◌*◌, ◌<◌, ◌≤◌, eqb, leb, ltb, Bool, true, false, cond, ◌||◌, Option, Some, None, length, is_some, option_and_then}
use Rattle.lazy_rec.specs.declared.places.Ref.{Ref}
use Rattle.lazy_rec.specs.declared.records.Rec.{Rec}
use Rattle.lazy_rec.specs.declared.records.Rec.TheVariants.{Cons, RtTop, RtRot}
use Rattle.lazy_rec.specs.declared.records.Sort.TheVariants as sorts
use Rattle.lazy_rec.specs.declared.events.Op.{Op}
use Rattle.lazy_rec.specs.declared.events.Op.TheVariants as ops
use Rattle.lazy_rec.specs.Named.{Records, sort_of, same_sort}
use Rattle.lazy_rec.specs.Plain.{most_items}
use Rattle.lazy_rec.specs.Meaning.{cells}
use Rattle.lazy_rec.specs.Units.{schedule_units}
use Rattle.heap_store.specs.declared.jobs.EventJob.{EventJob}
use Rattle.heap_store.specs.declared.jobs.Prep.{Prep}
use Rattle.heap_store.specs.declared.jobs.Prep.TheVariants.{Need, Ready}
use Rattle.heap_store.specs.Span.{Span}
use Rattle.heap_store.specs.World.{World, recs, holds, is_value, value_at, nil_place, list_nil_place}
use Rattle.heap_store.specs.Values.{is_list}
use Rattle.heap_store.specs.Completion.{is_plain, on_rt_queue}
use Rattle.heap_store.specs.Lawful.{is_any_rt_rotation, is_rt_front, rest_of, walk}
use Rattle.heap_store.specs.Hand.{IsInHand}
use Rattle.heap_store.specs.Budget.{are_discharged}
use Rattle.heap_store.specs.View.{View, purse}
use Rattle.heap_store.specs.Jobs.{Filled, IsUnpassed}
use Rattle.rt_queue.specs.declared.queue.Top.{Top}

-- ---- tops

-- the record of a top
abbrev pub top_record : Top → Rec
top_record t = RtTop t.front t.lenf t.rear t.lenr t.sched

abbrev pub is_top : Rec → Bool
is_top r = same_sort (sort_of r) sorts.RtTop

-- a rotation, or cells all the way
abbrev pub is_schedule : Records → ℕ → Bool
is_schedule rs p = holds rs p is_any_rt_rotation || is_plain rs p

-- a top takes one place, and one more for a rotation where the rear is longer than the front
abbrev pub top_places : ℕ → ℕ → ℕ
top_places lenf lenr = cond (leb lenr lenf) 1 2

-- a front of n cells, all known, and a rear of one more, named below a place
pub record IsRotatable (w : World) (front n rear place : ℕ) : Type 0 where
  pub front_there : is_rt_front (recs w) front ≡ true
  pub front_length : length (cells (recs w) front) ≡ n
  pub front_low : front < place
  pub known : is_some (walk w n front) ≡ true
  pub rear_there : holds (recs w) rear is_list ≡ true
  pub rear_length : length (cells (recs w) rear) ≡ n + 1
  pub rear_low : rear < place

-- a front, a rear and a schedule that make a queue once the schedule, which is known and paid for, stands one cell on; or,
-- where none of it is left, over a new rotation
pub record IsNearQueue (w : World) (t : Top) (place : ℕ) : Type 0 where
  pub front_there : is_rt_front (recs w) t.front.0 ≡ true
  pub front_length : length (cells (recs w) t.front.0) ≡ t.lenf
  pub front_low : t.front.0 < place
  pub rear_there : holds (recs w) t.rear.0 is_list ≡ true
  pub rear_length : length (cells (recs w) t.rear.0) ≡ t.lenr
  pub rear_low : t.rear.0 < place
  pub sched_there : is_schedule (recs w) t.sched.0 ≡ true
  pub sched_length : length (cells (recs w) t.sched.0) + t.lenr ≡ t.lenf + 1
  pub sched_known : is_value w t.sched.0 ≡ true
  pub sched_paid : are_discharged w (schedule_units (recs w t.sched.0)) ≡ true
  pub rest_low : (c : Bool) (v : ℕ) (rest : Ref) → value_at w t.sched.0 ≡ Some (Cons c v rest) → rest.0 < place
  pub behind : t.lenr ≤ t.lenf → walk w t.lenr t.front.0 ≡ option_and_then rest_of (value_at w t.sched.0)
  pub known : t.lenf < t.lenr → is_some (walk w t.lenf t.front.0) ≡ true

-- at a place stands the top with its schedule one cell on
pub record IsMoved (w : World) (t : Top) (made : ℕ) : Type 0 where
  pub child : Bool
  pub value : ℕ
  pub rest : Ref
  pub cell : value_at w t.sched.0 ≡ Some (Cons child value rest)
  pub here : recs w made ≡ Some (top_record (record t { sched = rest }))

-- at a place stands a top whose front and schedule is a first rotation of a front of n cells and a rear
pub record IsRotated (w : World) (front : Ref) (n : ℕ) (rear : Ref) (made : ℕ) : Type 0 where
  pub rotation : Ref
  pub origin : Ref
  pub same : origin.0 ≡ rotation.0
  pub there : recs w rotation.0 ≡ Some (RtRot front rear (record { 0 = nil_place }) n origin 0)
  pub here : recs w made ≡ Some (RtTop rotation (2 * n + 1) (record { 0 = list_nil_place }) 0 rotation)

-- the top that a put makes
pub record IsTopMade (w : World) (t : Top) (made : ℕ) : Type 0 where
  pub moved : t.lenr ≤ t.lenf → IsMoved w t made
  pub rotated : t.lenf < t.lenr → IsRotated w t.front t.lenf t.rear made

-- a top's put filled so many places of its run. It spent a credit at most, and published no later suspension of a family
pub record IsTopPut (old new : View) (before after : Span) (count : ℕ) : Type 0 where
  pub filled : Filled old new before.next after.next
  pub size : after.next ≡ before.next + count
  pub same_end : after.end ≡ before.end
  pub held : IsInHand new.hand after
  pub credits : purse old ≤ new.hand.credits + 1
  pub unpassed : (s : Ref) → IsUnpassed s old.hand.claims → IsUnpassed s new.hand.claims

-- ---- operations

-- the places that an operation takes at the lengths of a queue: a `snoc` 2, and 3 with a rotation, a `tail` 1 and 2, and
-- what makes nothing none
abbrev pub places_for : Op → ℕ → ℕ → ℕ
places_for ops.Snoc lenf lenr = cond (eqb (lenf + lenr) most_items) 0 (suc (top_places lenf (suc lenr)))
places_for ops.Tail zero lenr = 0
places_for ops.Tail (suc lenf) lenr = top_places lenf lenr
places_for _ lenf lenr = 0

-- the place that an operation looks at: `snoc` and `tail` the schedule, which they move one cell on, and `head` the front
abbrev pub looks_at : Op → Top → Option Ref
looks_at ops.Snoc t = cond (eqb (t.lenf + t.lenr) most_items) None (Some t.sched)
looks_at ops.Tail t = cond (ltb 0 t.lenf) (Some t.sched) None
looks_at ops.Head t = cond (ltb 0 t.lenf) (Some t.front) None
looks_at _ t = None

abbrev pub is_known : World → Option Ref → Bool
is_known w None = true
is_known w (Some p) = is_value w p.0

-- what the answer that an event is ready tells its build
pub record IsReadyEvent (w : World) (job : EventJob) (nodes : ℕ) : Type 0 where
  pub top : Top
  pub here : recs w job.base.root.0 ≡ Some (top_record top)
  pub places : nodes ≡ places_for job.op top.lenf top.lenr
  pub known : is_known w (looks_at job.op top) ≡ true

-- nothing is needed but the schedule of the queue at a root
abbrev pub needs_schedule : World → ℕ → Prep → Bool
needs_schedule w root (Need t) = holds (recs w) root (on_rt_queue (λ _ _ _ _ sched. eqb sched t.0))
needs_schedule w root (Ready _) = true

-- nothing is needed at all
abbrev pub is_ready : Prep → Bool
is_ready (Need _) = false
is_ready (Ready _) = true
