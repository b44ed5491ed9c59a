-- What a prepare and a build of an operation find, and the places and the dues that they go by.
use Rattle.std.proofs.Common.{◌≡◌, ℕ, zero, suc, ◌+◌, ◌-◌, ◌<◌, ◌≤◌, eqb, leb, refl, sym, ap, ◌∙◌, arith, Bool, true, false, cond, not, ◌||◌, Some, length}
use Rattle.std.proofs.lemmas.Bool.{true≢false, and_parts, and_from, or_left, eqb-true, ltb-true, eq-eqb, lt-ltb, ne_eqb, cond-true, cond-false}
use Rattle.lazy_rec.specs.declared.places.Ref.{Ref}
use Rattle.lazy_rec.specs.declared.records.Rec.{Rec}
use Rattle.lazy_rec.specs.declared.records.Rec.TheVariants.{Cons, BankTop}
use Rattle.lazy_rec.specs.declared.records.Sort.TheVariants as sorts
use Rattle.lazy_rec.specs.declared.events.Kind.TheVariants as kinds
use Rattle.lazy_rec.specs.declared.events.Op.{Op}
use Rattle.lazy_rec.specs.declared.events.Op.TheVariants as ops
use Rattle.lazy_rec.specs.Named.{sort_of, same_sort}
use Rattle.lazy_rec.specs.Kinds.{belongs}
use Rattle.lazy_rec.specs.Plain.{most_items}
use Rattle.lazy_rec.specs.Due.{due, direct, may_force}
use Rattle.lazy_rec.specs.Meaning.{cells, means}
use Rattle.heap_store.specs.declared.jobs.EventJob.{EventJob}
use Rattle.heap_store.specs.World.{World, recs, holds, is_value, value_at}
use Rattle.heap_store.specs.Growth.{Grows}
use Rattle.heap_store.specs.Lawful.{IsLawful, is_any_bank_rotation, is_root}
use Rattle.heap_store.specs.Stages.{StageName, at_start, at_heap_paid, at_parts, at_root, name_of, has_stage, due_now, places_now}
use Rattle.heap_store.specs.Span.{Span}
use Rattle.heap_store.specs.View.{View}
use Rattle.heap_store.specs.Jobs.{IsJob, IsEventNeed, IsEventBuildable, may_seek, other_seeks, may_stage_seek}
use Rattle.heap_store.proofs.GrowthLaws.{at_true, grows_trans, is_value_up}
use Rattle.heap_store.proofs.ReadLaws.{holds_at, rec_back}
use Rattle.heap_store.proofs.ValueLaws.{Waits, value_down}
use Rattle.bank_queue.specs.declared.queue.Top.{Top}
use Rattle.bank_queue.specs.Queue.{top_record, top_places, places_for, looks_at_front, is_ready_top, IsReadyEvent}
use Rattle.bank_queue.proofs.Fronts.{waiting_front, front_cell}
use Rattle.heap_store.proofs.QueueEntries.{queued-length}
use Rattle.bank_queue.proofs.Tops.{OldTop, old_top, top_means}
use Rattle.bank_queue.proofs.TopsPaid.{front_funded}

-- ---- operations

-- the operations of a banker's queue
pub only_size : (op : Op) → belongs kinds.Bankq op ≡ true → (op ≡ ops.Snoc → ⊥) → (op ≡ ops.Tail → ⊥) → (op ≡ ops.Head → ⊥) → op ≡ ops.Size
only_size ops.Size h a b c = refl
only_size ops.Snoc h a b c = absurd (a refl)
only_size ops.Tail h a b c = absurd (b refl)
only_size ops.Head h a b c = absurd (c refl)
only_size _ h a b c = absurd (true≢false (sym h))

-- where an operation looks at the front
record Looks (op : Op) (lenf : ℕ) (t : Top) : Type 0 where
  some : 0 < lenf
  forces : may_force kinds.Bankq op ≡ true
  seeks : (w : World) (p : ℕ) → may_seek w op p t.front.0 (top_record t) ≡ true

looks : (op : Op) (lenf : ℕ) (t : Top) → looks_at_front op lenf ≡ true → Looks op lenf t
looks ops.Head lenf t h = record { some = ltb-true 0 lenf h; forces = refl; seeks = λ w p. eq-eqb t.front.0 t.front.0 refl }
looks ops.Tail lenf t h = record { some = ltb-true 0 lenf h; forces = refl; seeks = λ w p. eq-eqb t.front.0 t.front.0 refl }
looks _ lenf t h = absurd (true≢false (sym h))

pub top_least : (lenf lenr : ℕ) → 1 ≤ top_places lenf lenr
top_least lenf lenr = go (leb lenr lenf)
  where
    go : (b : Bool) → 1 ≤ cond b 1 2
    go true = omega arith
    go false = omega arith

-- no operation takes more places than it may
top_most : (lenf lenr : ℕ) → top_places lenf lenr ≤ 2
top_most lenf lenr = go (leb lenr lenf)
  where
    go : (b : Bool) → cond b 1 2 ≤ 2
    go true = omega arith
    go false = omega arith

-- an event of a queue has one stage
at_first : (op : Op) (s : StageName) → has_stage kinds.Bankq op s ≡ true → s ≡ at_start
at_first op at_start h = refl
at_first op at_heap_paid h = absurd (true≢false (sym h))
at_first op at_parts h = absurd (true≢false (sym h))
at_first op at_root h = absurd (true≢false (sym h))

name_is : (job : EventJob) → job.base.kind ≡ kinds.Bankq → has_stage job.base.kind job.op (name_of job.stage) ≡ true → name_of job.stage ≡ at_start
name_is job kind has = at_first job.op (name_of job.stage) (rw kind at has)

places_is : (job : EventJob) → job.base.kind ≡ kinds.Bankq → has_stage job.base.kind job.op (name_of job.stage) ≡ true → places_now job ≡ direct kinds.Bankq job.op job.base.size job.other.size
places_is job kind has = let n = name_is job kind has in rw (kind, n) refl

pub due_is : (job : EventJob) → job.base.kind ≡ kinds.Bankq → has_stage job.base.kind job.op (name_of job.stage) ≡ true → (op : Op) → job.op ≡ op → due_now job ≡ due kinds.Bankq op job.base.size job.other.size
due_is job kind has op same = let n = name_is job kind has in rw (kind, n, same) refl

places_direct : (op : Op) (lenf lenr n m : ℕ) → places_for op lenf lenr ≤ direct kinds.Bankq op n m
places_direct ops.Snoc lenf lenr n m = go (eqb (lenf + lenr) most_items)
  where
    go : (b : Bool) → cond b 0 (suc (top_places lenf (suc lenr))) ≤ 3
    go true = omega arith
    go false = omega (arith, top_most lenf (suc lenr))
places_direct ops.Tail zero lenr n m = omega arith
places_direct ops.Tail (suc lenf) lenr n m = top_most lenf lenr
places_direct op lenf lenr n m = omega arith

-- an operation that looks at fronts looks at each that has a cell
pub looks_some : (op : Op) (lenf : ℕ) → looks_at_front op 1 ≡ true → 0 < lenf → looks_at_front op lenf ≡ true
looks_some ops.Head lenf h some = lt-ltb 0 lenf some
looks_some ops.Tail lenf h some = lt-ltb 0 lenf some
looks_some _ lenf h some = h

-- a snoc of a full queue takes no place
pub full_places : (lenf lenr : ℕ) → lenf + lenr ≡ 2147483647 → places_for ops.Snoc lenf lenr ≡ 0
full_places lenf lenr h = cond-true (eqb (lenf + lenr) 2147483647) 0 (suc (top_places lenf (suc lenr))) (eq-eqb (lenf + lenr) 2147483647 h)

snoc_places : (lenf lenr : ℕ) → (lenf + lenr ≡ 2147483647 → ⊥) → places_for ops.Snoc lenf lenr ≡ suc (top_places lenf (lenr + 1))
snoc_places lenf lenr h = cond-false (eqb (lenf + lenr) 2147483647) 0 (suc (top_places lenf (suc lenr))) (ne_eqb (lenf + lenr) 2147483647 h) ∙ ap (λ n. suc (top_places lenf n)) (omega arith)

tail_places : (lenf lenr : ℕ) → 0 < lenf → places_for ops.Tail lenf lenr ≡ top_places (lenf - 1) lenr
tail_places zero lenr h = absurd (omega arith)
tail_places (suc lenf) lenr h = let e : suc lenf - 1 ≡ lenf = omega arith in rw e refl

-- ---- what a job finds

pub root_there : {w : World} → IsLawful w → (job : EventJob) → IsJob w job → job.base.kind ≡ kinds.Bankq → holds (recs w) job.base.root.0 (is_root (recs w) kinds.Bankq job.base.root.0) ≡ true
root_there {w} law job j kind = rw kind at j.base.root

-- the number of items of a top
pub top_size : {w : World} → IsLawful w → (p : ℕ) (t : Top) → recs w p ≡ Some (top_record t) → length (means (recs w) p) ≡ t.lenf + t.lenr
top_size {w} law p t e =
    let k = (old_top law p t e).well in
    ap length (top_means law p t e) ∙ (queued-length (cells (recs w) t.front.0) (cells (recs w) t.rear.0) k.front_items k.rear_items ∙ omega (arith, k.front_cells, k.rear_cells))

pub record JobTop (w : World) (job : EventJob) (t : Top) : Type 0 where
  pub old : OldTop w job.base.root.0 t
  pub size : job.base.size ≡ t.lenf + t.lenr
  pub most : t.lenf + t.lenr ≤ 2147483647

pub job_top : {w : World} → IsLawful w → (job : EventJob) → IsJob w job → (t : Top) → recs w job.base.root.0 ≡ Some (top_record t) → JobTop w job t
job_top {w} law job j t e =
    let s = top_size law job.base.root.0 t e in
    record { old = old_top law job.base.root.0 t e; size = j.base.size ∙ s; most = omega (arith, s, j.base.size, j.base.most) }

-- what is ready
pub ready_event : {w : World} → IsLawful w → (job : EventJob) → job.base.kind ≡ kinds.Bankq → (t : Top) → recs w job.base.root.0 ≡ Some (top_record t) → has_stage job.base.kind job.op (name_of job.stage) ≡ true → (nodes : ℕ) → nodes ≡ places_for job.op t.lenf t.lenr → (looks_at_front job.op t.lenf ≡ true → is_value w t.front.0 ≡ true)
    → IsReadyEvent w job nodes × (nodes ≤ places_now job)
ready_event {w} law job kind t e has nodes n known = (
  record { top = rw e (and_from (eqb nodes (places_for job.op t.lenf t.lenr)) (not (looks_at_front job.op t.lenf) || is_value w t.front.0) (eq-eqb nodes (places_for job.op t.lenf t.lenr) n) (seen (looks_at_front job.op t.lenf) known)) },
  (let p = places_is job kind has in rw (p, n) (places_direct job.op t.lenf t.lenr job.base.size job.other.size)),
)
  where
    seen : (b : Bool) → (b ≡ true → is_value w t.front.0 ≡ true) → (not b || is_value w t.front.0) ≡ true
    seen true f = f refl
    seen false f = refl

-- what is needed
pub event_need : {w : World} → IsLawful w → (job : EventJob) → job.base.kind ≡ kinds.Bankq → (t : Top) → recs w job.base.root.0 ≡ Some (top_record t) → looks_at_front job.op t.lenf ≡ true → Waits w t.front.0 → IsEventNeed is_any_bank_rotation w job t.front.0
event_need {w} law job kind t e look waits =
    let k = looks job.op t.lenf t look in
    let r = waiting_front law t.front.0 (old_top law job.base.root.0 t e).well.front waits.pending in
    record {
      work = r.work;
      sought = or_left _ (may_stage_seek w t.front.0 job.stage) (or_left (holds (recs w) job.base.root.0 (may_seek w job.op job.base.root.0 t.front.0)) (other_seeks w job t.front.0) (rw e (k.seeks w job.base.root.0)));
      not_done = waits.undone;
      forces = rw kind k.forces;
      funded = rw r.here (front_funded law job.base.root.0 t e k.some r.rec r.here r.rotation);
    }

-- ---- what a build finds

-- the top of a root
pub top_there : {w : World} → IsLawful w → (p : ℕ) → holds (recs w) p (is_root (recs w) kinds.Bankq p) ≡ true → (t : Top) × (recs w p ≡ Some (top_record t))
top_there {w} law p h = let k = at_true (is_root (recs w) kinds.Bankq p) (recs w p) h in go k.0 k.1 k.2
  where
    go : (r : Rec) → recs w p ≡ Some r → same_sort (sort_of r) sorts.BankTop ≡ true → (t : Top) × (recs w p ≡ Some (top_record t))
    go (BankTop rotated front lenf rear lenr origin n tails) e s = (record { front = front; lenf = lenf; rear = rear; lenr = lenr; rotated = rotated; origin = origin; n = n; tails = tails }, e)
    go _ e s = absurd (true≢false (sym s))

-- what a build finds
pub record BuildTop (v : View) (job : EventJob) (run : Span) (t : Top) : Type 0 where
  pub there : recs v.seen job.base.root.0 ≡ Some (top_record t)
  pub top : JobTop v.seen job t
  pub places : run.next + places_for job.op t.lenf t.lenr ≡ run.end
  pub root_low : job.base.root.0 < run.next
  pub known : looks_at_front job.op t.lenf ≡ true → is_value v.seen t.front.0 ≡ true
  pub rest_low : looks_at_front job.op t.lenf ≡ true → (value : ℕ) (rest : Ref) → value_at v.seen t.front.0 ≡ Some (Cons false value rest) → rest.0 < run.next

pub build_root : {v : View} {job : EventJob} {run : Span} → IsEventBuildable IsReadyEvent v job run → job.base.kind ≡ kinds.Bankq → holds (recs v.seen) job.base.root.0 (is_root (recs v.seen) kinds.Bankq job.base.root.0) ≡ true
build_root {v} {job} {run} b kind =
    let k = root_there b.base_lawful job b.base_job kind in
    let t = at_true (is_root (recs b.base) kinds.Bankq job.base.root.0) (recs b.base job.base.root.0) k in
    rw (b.base_grows.records job.base.root.0 t.0 t.1) t.2

pub build_top : {v : View} → IsLawful v.seen → {job : EventJob} {run : Span} → (b : IsEventBuildable IsReadyEvent v job run) → job.base.kind ≡ kinds.Bankq → (t : Top) → recs v.seen job.base.root.0 ≡ Some (top_record t) → BuildTop v job run t
build_top {v} law {job} {run} b kind t e =
    let k = root_there b.base_lawful job b.base_job kind in
    let is = at_true (is_root (recs b.base) kinds.Bankq job.base.root.0) (recs b.base job.base.root.0) k in
    let here = rec_back b.base_grows.records job.base.root.0 (top_record t) (is.0, is.1) e in
    let base = job_top b.base_lawful job b.base_job t here in
    let ready = holds_at (recs b.base) job.base.root.0 (is_ready_top b.base job.op b.nodes) (top_record t) b.base_ready.top here in
    let parts = and_parts (eqb b.nodes (places_for job.op t.lenf t.lenr)) (not (looks_at_front job.op t.lenf) || is_value b.base t.front.0) ready in
    let known : looks_at_front job.op t.lenf ≡ true → is_value b.base t.front.0 ≡ true = seen (looks_at_front job.op t.lenf) parts.1 in
    record {
      there = e;
      top = record { old = old_top law job.base.root.0 t e; size = base.size; most = base.most };
      places = omega (arith, b.size, eqb-true b.nodes (places_for job.op t.lenf t.lenr) parts.0);
      root_low = b.above job.base.root.0 (top_record t) here;
      known = λ look. is_value_up b.base v.seen b.base_grows t.front.0 (known look);
      rest_low = λ look value rest h. (
          let c = front_cell b.base_lawful t.front.0 value rest base.old.well.front base.old.well.front_items (value_down b.base_lawful b.base_grows t.front.0 (known look) _ h) in
          omega (arith, c.cell.rest_named.0, b.above c.cell.place _ c.cell.here));
    }
  where
    seen : {x : Bool} (b : Bool) → (not b || x) ≡ true → b ≡ true → x ≡ true
    seen true h e = h
    seen false h e = absurd (true≢false (sym e))

-- the same facts in a later view, with the same hand
pub build_later : {a v : View} → Grows a.seen v.seen → IsLawful v.seen → {job : EventJob} {run : Span} → IsEventBuildable IsReadyEvent a job run → job.base.kind ≡ kinds.Bankq → (t : Top) → recs a.seen job.base.root.0 ≡ Some (top_record t) → BuildTop v job run t
build_later {a} {v} g law {job} {run} b kind t e =
    let base : IsEventBuildable IsReadyEvent (record v { hand = a.hand }) job run = record { base = b.base; base_lawful = b.base_lawful; base_grows = grows_trans b.base_grows g; base_job = b.base_job; nodes = b.nodes; base_ready = b.base_ready; above = b.above; size = b.size; held = b.held; credits = b.credits } in
    let k = build_top {v = record v { hand = a.hand }} law base kind t (g.records job.base.root.0 _ e) in
    record { there = k.there; top = k.top; places = k.places; root_low = k.root_low; known = k.known; rest_low = k.rest_low }

-- the places that a snoc and a tail have
pub snoc_room : {v : View} {job : EventJob} {run : Span} {t : Top} → BuildTop v job run t → job.op ≡ ops.Snoc → (job.base.size ≡ 2147483647 → ⊥) → run.next + suc (top_places t.lenf (t.lenr + 1)) ≡ run.end
snoc_room {v} {job} {run} {t} k op few =
    let n = ap (λ o. places_for o t.lenf t.lenr) op ∙ snoc_places t.lenf t.lenr (λ z. few (omega (arith, z, k.top.size))) in
    omega (arith, k.places, n)

pub tail_room : {v : View} {job : EventJob} {run : Span} {t : Top} → BuildTop v job run t → job.op ≡ ops.Tail → 0 < t.lenf → run.next + top_places (t.lenf - 1) t.lenr ≡ run.end
tail_room {v} {job} {run} {t} k op some =
    let n = ap (λ o. places_for o t.lenf t.lenr) op ∙ tail_places t.lenf t.lenr some in
    omega (arith, k.places, n)
