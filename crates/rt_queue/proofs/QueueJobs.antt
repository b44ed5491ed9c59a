-- What a prepare and a build of an operation find, and the places and the dues that they go by.
use Rattle.std.proofs.Common.{◌≡◌, ℕ, zero, suc, ◌+◌, ◌-◌, ◌<◌, ◌≤◌, eqb, ltb, refl, sym, ap, ◌∙◌, arith, subst, ⊎_elim, Bool, true, false, cond, ◌⊎◌, inl, inr, ◌&&◌, Option, Some, None, length}
use Rattle.std.proofs.lemmas.Bool.{true≢false, and_parts, or_left, or_right, eq-eqb, ne_eqb, lt-ltb, cond-true, cond-false}
use Rattle.lazy_rec.specs.declared.places.Ref.{Ref}
use Rattle.lazy_rec.specs.declared.records.Rec.{Rec}
use Rattle.lazy_rec.specs.declared.records.Rec.TheVariants.{RtTop, RtRot}
use Rattle.lazy_rec.specs.declared.events.Kind.TheVariants as kinds
use Rattle.lazy_rec.specs.declared.events.Op.{Op}
use Rattle.lazy_rec.specs.declared.events.Op.TheVariants as ops
use Rattle.lazy_rec.specs.Kinds.{belongs}
use Rattle.lazy_rec.specs.Plain.{most_items}
use Rattle.lazy_rec.specs.Due.{due, direct, may_force}
use Rattle.lazy_rec.specs.Meaning.{cells, means}
use Rattle.heap_store.specs.declared.jobs.EventJob.{EventJob}
use Rattle.heap_store.specs.declared.jobs.Prep.TheVariants.{Need}
use Rattle.heap_store.specs.World.{World, recs, holds, is_published, is_value}
use Rattle.heap_store.specs.Completion.{on_rt_queue}
use Rattle.heap_store.specs.Growth.{Grows}
use Rattle.heap_store.specs.Lawful.{IsLawful, has_items, is_any_rt_rotation, is_root}
use Rattle.heap_store.specs.Budget.{is_funded}
use Rattle.heap_store.specs.Stages.{StageName, at_start, at_heap_paid, at_parts, at_root, name_of, has_stage, due_now, places_now}
use Rattle.heap_store.specs.Span.{Span}
use Rattle.heap_store.specs.View.{View}
use Rattle.heap_store.specs.Jobs.{IsJob, IsEventNeed, IsEventBuildable, may_seek, may_stage_seek, other_seeks}
use Rattle.heap_store.proofs.NameLaws.{IsPublished}
use Rattle.heap_store.proofs.GrowthLaws.{at_true, grows_trans, is_value_up}
use Rattle.heap_store.proofs.RowLaws.{has_root_up}
use Rattle.heap_store.proofs.LawfulLaws.{lawful_names}
use Rattle.heap_store.proofs.ShowLaws.{one_value}
use Rattle.heap_store.proofs.ReadLaws.{is_there}
use Rattle.heap_store.proofs.ValueLaws.{Waits}
use Rattle.rt_queue.specs.declared.queue.Top.{Top}
use Rattle.rt_queue.specs.Queue.{top_record, is_top, top_places, places_for, looks_at, is_known, needs_schedule, IsReadyEvent}
use Rattle.heap_store.proofs.QueueEntries.{queued-length}
use Rattle.heap_store.proofs.AnyCells.{cell_below}
use Rattle.rt_queue.proofs.Fronts.{waiting_schedule}
use Rattle.rt_queue.proofs.Tops.{top_well, front_is_sched, front_is_known}
use Rattle.rt_queue.proofs.NewTops.{HasItems, top_means}
use Rattle.rt_queue.proofs.Schedules.{sched_paid, paid_funded}
use Rattle.rt_queue.proofs.TopPuts.{most_places}
use Rattle.rt_queue.proofs.NearQueues.{SeenBelow}

-- ---- operations

-- the operations of a real-time queue
pub only_size : (op : Op) → belongs kinds.Rtq op ≡ true → (op ≡ ops.Snoc → ⊥) → (op ≡ ops.Tail → ⊥) → (op ≡ ops.Head → ⊥) → op ≡ ops.Size
only_size ops.Size h a b c = refl
only_size ops.Snoc h a b c = absurd (a refl)
only_size ops.Tail h a b c = absurd (b refl)
only_size ops.Head h a b c = absurd (c refl)
only_size _ h a b c = absurd (true≢false (sym h))

-- where an operation looks at a place of a queue, which is the schedule, or of `head` the front
record Looks (op : Op) (t : Top) (p : Ref) : Type 0 where
  forces : may_force kinds.Rtq op ≡ true
  seeks : (w : World) (root : ℕ) → may_seek w op root p.0 (top_record t) ≡ true
  which : (p ≡ t.sched) ⊎ (p ≡ t.front)

one_of : (b : Bool) (q p : Ref) → cond b None (Some q) ≡ Some p → p ≡ q
one_of true q p h = absurd (let z : None ≡ Some p = h in cc)
one_of false q p h = sym (one_value q p h)

one_if : (b : Bool) (q p : Ref) → cond b (Some q) None ≡ Some p → p ≡ q
one_if true q p h = sym (one_value q p h)
one_if false q p h = absurd (let z : None ≡ Some p = h in cc)

looks : (op : Op) (t : Top) (p : Ref) → looks_at op t ≡ Some p → Looks op t p
looks ops.Snoc t p h = let e = one_of (eqb (t.lenf + t.lenr) most_items) t.sched p h in record { forces = refl; seeks = λ w root. rw e (eq-eqb t.sched.0 t.sched.0 refl); which = inl e }
looks ops.Tail t p h = let e = one_if (ltb 0 t.lenf) t.sched p h in record { forces = refl; seeks = λ w root. rw e (or_right (eqb t.front.0 t.sched.0) (eqb t.sched.0 t.sched.0) (eq-eqb t.sched.0 t.sched.0 refl)); which = inl e }
looks ops.Head t p h = let e = one_if (ltb 0 t.lenf) t.front p h in record { forces = refl; seeks = λ w root. rw e (eq-eqb t.front.0 t.front.0 refl); which = inr e }
looks _ t p h = absurd (let z : None ≡ Some p = h in cc)

-- an event of a queue has one stage
at_first : (op : Op) (s : StageName) → has_stage kinds.Rtq op s ≡ true → s ≡ at_start
at_first op at_start h = refl
at_first op at_heap_paid h = absurd (true≢false (sym h))
at_first op at_parts h = absurd (true≢false (sym h))
at_first op at_root h = absurd (true≢false (sym h))

name_is : (job : EventJob) → job.base.kind ≡ kinds.Rtq → has_stage job.base.kind job.op (name_of job.stage) ≡ true → name_of job.stage ≡ at_start
name_is job kind has = at_first job.op (name_of job.stage) (rw kind at has)

places_is : (job : EventJob) → job.base.kind ≡ kinds.Rtq → has_stage job.base.kind job.op (name_of job.stage) ≡ true → places_now job ≡ direct kinds.Rtq job.op job.base.size job.other.size
places_is job kind has = let n = name_is job kind has in rw (kind, n) refl

pub due_is : (job : EventJob) → job.base.kind ≡ kinds.Rtq → has_stage job.base.kind job.op (name_of job.stage) ≡ true → (op : Op) → job.op ≡ op → due_now job ≡ due kinds.Rtq op job.base.size job.other.size
due_is job kind has op same = let n = name_is job kind has in rw (kind, n, same) refl

places_direct : (op : Op) (lenf lenr n m : ℕ) → places_for op lenf lenr ≤ direct kinds.Rtq op n m
places_direct ops.Snoc lenf lenr n m = go (eqb (lenf + lenr) most_items)
  where
    go : (b : Bool) → cond b 0 (suc (top_places lenf (suc lenr))) ≤ 3
    go true = omega arith
    go false = omega (arith, most_places lenf (suc lenr))
places_direct ops.Tail zero lenr n m = omega arith
places_direct ops.Tail (suc lenf) lenr n m = most_places lenf lenr
places_direct op lenf lenr n m = omega arith

-- a snoc of a full queue takes no place
pub full_places : (lenf lenr : ℕ) → lenf + lenr ≡ 2147483647 → places_for ops.Snoc lenf lenr ≡ 0
full_places lenf lenr h = cond-true (eqb (lenf + lenr) 2147483647) 0 (suc (top_places lenf (suc lenr))) (eq-eqb (lenf + lenr) 2147483647 h)

snoc_places : (lenf lenr : ℕ) → (lenf + lenr ≡ 2147483647 → ⊥) → places_for ops.Snoc lenf lenr ≡ suc (top_places lenf (lenr + 1))
snoc_places lenf lenr h = cond-false (eqb (lenf + lenr) 2147483647) 0 (suc (top_places lenf (suc lenr))) (ne_eqb (lenf + lenr) 2147483647 h) ∙ ap (λ n. suc (top_places lenf n)) (omega arith)

tail_places : (lenf lenr : ℕ) → 0 < lenf → places_for ops.Tail lenf lenr ≡ top_places (lenf - 1) lenr
tail_places zero lenr h = absurd (omega arith)
tail_places (suc lenf) lenr h = let e : suc lenf - 1 ≡ lenf = omega arith in rw e refl

-- ---- what a job finds

pub root_there : {w : World} → IsLawful w → (job : EventJob) → IsJob w job → job.base.kind ≡ kinds.Rtq → holds (recs w) job.base.root.0 (is_root (recs w) kinds.Rtq job.base.root.0) ≡ true
root_there {w} law job j kind = rw kind at j.base.root

-- the top of a root
pub record RootTop (w : World) (p : ℕ) : Type 0 where
  pub top : Top
  pub here : recs w p ≡ Some (top_record top)
  pub items : HasItems w top

pub root_top : (w : World) (p : ℕ) → holds (recs w) p (is_root (recs w) kinds.Rtq p) ≡ true → RootTop w p
root_top w p h = let k = at_true (is_root (recs w) kinds.Rtq p) (recs w p) h in go k.0 k.1 k.2
  where
    go : (r : Rec) → recs w p ≡ Some r → on_rt_queue (λ front _ rear _ _. has_items (recs w) front && has_items (recs w) rear) r ≡ true → RootTop w p
    go (RtTop front lenf rear lenr sched) e s =
        let k = and_parts (has_items (recs w) front.0) (has_items (recs w) rear.0) s in
        record { top = record { front = front; lenf = lenf; rear = rear; lenr = lenr; sched = sched }; here = e; items = record { front_items = k.0; rear_items = k.1 } }
    go _ e s = absurd (true≢false (sym s))

pub root_is_top : (w : World) (p : ℕ) → holds (recs w) p (is_root (recs w) kinds.Rtq p) ≡ true → holds (recs w) p is_top ≡ true
root_is_top w p h = let k = root_top w p h in let e = k.here in rw e refl

-- the items of the top that was read
pub top_items : (w : World) (p : ℕ) → holds (recs w) p (is_root (recs w) kinds.Rtq p) ≡ true → (t : Top) → recs w p ≡ Some (top_record t) → HasItems w t
top_items w p h t e =
    let k : (has_items (recs w) t.front.0 && has_items (recs w) t.rear.0) ≡ true = rw e at h in
    let m = and_parts (has_items (recs w) t.front.0) (has_items (recs w) t.rear.0) k in
    record { front_items = m.0; rear_items = m.1 }

-- the number of items of a top
pub top_size : {w : World} → IsLawful w → (p : ℕ) (t : Top) → recs w p ≡ Some (top_record t) → HasItems w t → length (means (recs w) p) ≡ t.lenf + t.lenr
top_size {w} law p t e items =
    let k = top_well law p t e in
    ap length (top_means law p t e items) ∙ (queued-length (cells (recs w) t.front.0) (cells (recs w) t.rear.0) items.front_items items.rear_items ∙ omega (arith, k.front_cells, k.rear_cells))

pub record JobTop (w : World) (job : EventJob) (t : Top) : Type 0 where
  pub items : HasItems w t
  pub size : job.base.size ≡ t.lenf + t.lenr
  pub most : t.lenf + t.lenr ≤ 2147483647

pub job_top : {w : World} → IsLawful w → (job : EventJob) → IsJob w job → job.base.kind ≡ kinds.Rtq → (t : Top) → recs w job.base.root.0 ≡ Some (top_record t) → JobTop w job t
job_top {w} law job j kind t e =
    let items = top_items w job.base.root.0 (root_there law job j kind) t e in
    let s = top_size law job.base.root.0 t e items in
    record { items = items; size = j.base.size ∙ s; most = omega (arith, s, j.base.size, j.base.most) }

-- what is ready
pub ready_event : {w : World} → (job : EventJob) → job.base.kind ≡ kinds.Rtq → (t : Top) → recs w job.base.root.0 ≡ Some (top_record t) → has_stage job.base.kind job.op (name_of job.stage) ≡ true → (nodes : ℕ) → nodes ≡ places_for job.op t.lenf t.lenr → is_known w (looks_at job.op t) ≡ true
    → IsReadyEvent w job nodes × (nodes ≤ places_now job)
ready_event {w} job kind t e has nodes n known = (
  record { top = t; here = e; places = n; known = known },
  (let p = places_is job kind has in rw (p, n) (places_direct job.op t.lenf t.lenr job.base.size job.other.size)),
)

-- what waits is the schedule
pub waiting_place : {w : World} → IsLawful w → (root : ℕ) (t : Top) → recs w root ≡ Some (top_record t) → (op : Op) (p : Ref) → looks_at op t ≡ Some p → Waits w p.0 → p.0 ≡ t.sched.0
waiting_place {w} law root t e op p look waits = ⊎_elim
    (λ (h : p ≡ t.sched). ap (λ (r : Ref). r.0) h)
    (λ (h : p ≡ t.front). ap (λ (r : Ref). r.0) h ∙ front_is_sched law root t e (subst (λ (r : Ref). Waits w r.0) h waits))
    (looks op t p look).which

-- what is needed
pub event_need : {w : World} → IsLawful w → (job : EventJob) → job.base.kind ≡ kinds.Rtq → (t : Top) → recs w job.base.root.0 ≡ Some (top_record t) → (p : Ref) → looks_at job.op t ≡ Some p → Waits w p.0 → IsEventNeed is_any_rt_rotation w job p.0
event_need {w} law job kind t e p look waits =
    let k = looks job.op t p look in
    let same = waiting_place law job.base.root.0 t e job.op p look waits in
    let pend = at_true _ (recs w p.0) waits.pending in
    let there : recs w t.sched.0 ≡ Some pend.0 = subst (λ q. recs w q ≡ Some pend.0) same pend.1 in
    let r = waiting_schedule law t.sched.0 (top_well law job.base.root.0 t e).sched pend.0 there pend.2 in
    let f = r.fields in
    let here = subst (λ q. recs w q ≡ Some (RtRot f.xs f.rear f.acc f.left f.origin f.off)) (sym same) r.here in
    record {
      work = rw here refl;
      sought = or_left _ (may_stage_seek w p.0 job.stage) (or_left (holds (recs w) job.base.root.0 (may_seek w job.op job.base.root.0 p.0)) (other_seeks w job p.0) (rw e (k.seeks w job.base.root.0)));
      not_done = waits.undone;
      forces = rw kind k.forces;
      funded = rw here (subst (λ q. is_funded w q (RtRot f.xs f.rear f.acc f.left f.origin f.off) ≡ true) (sym same) (paid_funded w t.sched.0 f.xs f.rear f.acc f.left f.origin f.off r.here (sched_paid w job.base.root.0 t e)));
    }

-- ---- what a build finds

pub record BuildTop (v : View) (job : EventJob) (run : Span) (t : Top) : Type 0 where
  pub there : recs v.seen job.base.root.0 ≡ Some (top_record t)
  pub top : JobTop v.seen job t
  pub places : run.next + places_for job.op t.lenf t.lenr ≡ run.end
  pub root_low : job.base.root.0 < run.next
  pub looked : (p : Ref) → looks_at job.op t ≡ Some p → SeenBelow v.seen p.0 run.next
  -- where the schedule was known, the front was too
  pub front : looks_at job.op t ≡ Some t.sched → SeenBelow v.seen t.front.0 run.next

pub build_root : {v : View} {job : EventJob} {run : Span} → IsEventBuildable IsReadyEvent v job run → job.base.kind ≡ kinds.Rtq → holds (recs v.seen) job.base.root.0 (is_root (recs v.seen) kinds.Rtq job.base.root.0) ≡ true
build_root {v} {job} {run} b kind = has_root_up b.base v.seen (lawful_names b.base_lawful) b.base_grows kinds.Rtq job.base.root.0 (root_there b.base_lawful job b.base_job kind)

same_top : (t u : Top) → Some (top_record t) ≡ Some (top_record u) → t ≡ u
same_top t u h = ap top_of (one_value (top_record t) (top_record u) h)
  where
    top_of : Rec → Top
    top_of (RtTop front lenf rear lenr sched) = record { front = front; lenf = lenf; rear = rear; lenr = lenr; sched = sched }
    top_of _ = t

pub build_top : {v : View} → IsLawful v.seen → {job : EventJob} {run : Span} → (b : IsEventBuildable IsReadyEvent v job run) → job.base.kind ≡ kinds.Rtq → (t : Top) → recs v.seen job.base.root.0 ≡ Some (top_record t) → BuildTop v job run t
build_top {v} law {job} {run} b kind t e =
    let r = b.base_ready in
    let same = same_top r.top t (sym (b.base_grows.records job.base.root.0 _ r.here) ∙ e) in
    let here : recs b.base job.base.root.0 ≡ Some (top_record t) = rw same at r.here in
    let base = job_top b.base_lawful job b.base_job kind t here in
    let items = top_items v.seen job.base.root.0 (build_root b kind) t e in
    let known : is_known b.base (looks_at job.op t) ≡ true = rw same at r.known in
    record {
      there = e;
      top = record { items = items; size = base.size; most = base.most };
      places = omega (arith, b.size, (let n : b.nodes ≡ places_for job.op t.lenf t.lenr = rw same at r.places in n));
      root_low = b.above job.base.root.0 (top_record t) here;
      looked = λ p look. seen p.0 (let k : is_known b.base (Some p) ≡ true = rw look at known in k);
      front = λ look. seen t.front.0 (front_is_known b.base_lawful job.base.root.0 t here (let k : is_known b.base (Some t.sched) ≡ true = rw look at known in k));
    }
  where
    seen : (p : ℕ) → is_value b.base p ≡ true → SeenBelow v.seen p run.next
    seen p h = record {
      known = is_value_up b.base v.seen b.base_grows p h;
      rest_low = λ c x rest k. (let z = cell_below b.base_lawful b.base_grows run.next b.above p h c x rest k in omega (arith, z.rest_low, z.low));
    }

-- the same facts in a later view, with the same hand
pub build_later : {a v : View} → Grows a.seen v.seen → IsLawful v.seen → {job : EventJob} {run : Span} → IsEventBuildable IsReadyEvent a job run → job.base.kind ≡ kinds.Rtq → (t : Top) → recs a.seen job.base.root.0 ≡ Some (top_record t) → BuildTop v job run t
build_later {a} {v} g law {job} {run} b kind t e =
    let base : IsEventBuildable IsReadyEvent (record v { hand = a.hand }) job run = record { base = b.base; base_lawful = b.base_lawful; base_grows = grows_trans b.base_grows g; base_job = b.base_job; nodes = b.nodes; base_ready = b.base_ready; above = b.above; size = b.size; held = b.held; credits = b.credits } in
    let k = build_top {v = record v { hand = a.hand }} law base kind t (g.records job.base.root.0 _ e) in
    record { there = k.there; top = k.top; places = k.places; root_low = k.root_low; looked = k.looked; front = k.front }

-- the places that a snoc and a tail have
pub snoc_room : {v : View} {job : EventJob} {run : Span} {t : Top} → BuildTop v job run t → job.op ≡ ops.Snoc → (job.base.size ≡ 2147483647 → ⊥) → run.next + suc (top_places t.lenf (t.lenr + 1)) ≡ run.end
snoc_room {v} {job} {run} {t} k op few =
    let n = ap (λ o. places_for o t.lenf t.lenr) op ∙ snoc_places t.lenf t.lenr (λ z. few (omega (arith, z, k.top.size))) in
    omega (arith, k.places, n)

pub tail_room : {v : View} {job : EventJob} {run : Span} {t : Top} → BuildTop v job run t → job.op ≡ ops.Tail → 0 < t.lenf → run.next + top_places (t.lenf - 1) t.lenr ≡ run.end
tail_room {v} {job} {run} {t} k op some =
    let n = ap (λ o. places_for o t.lenf t.lenr) op ∙ tail_places t.lenf t.lenr some in
    omega (arith, k.places, n)

-- the schedule of a snoc and of a tail, and the fronts of a tail and of a head
pub snoc_looks : (t : Top) → (t.lenf + t.lenr ≡ 2147483647 → ⊥) → looks_at ops.Snoc t ≡ Some t.sched
snoc_looks t few = cond-false (eqb (t.lenf + t.lenr) 2147483647) None (Some t.sched) (ne_eqb (t.lenf + t.lenr) 2147483647 few)

pub tail_looks : (t : Top) → 0 < t.lenf → looks_at ops.Tail t ≡ Some t.sched
tail_looks t some = cond-true (ltb 0 t.lenf) (Some t.sched) None (lt-ltb 0 t.lenf some)

pub head_looks : (t : Top) → 0 < t.lenf → looks_at ops.Head t ≡ Some t.front
head_looks t some = cond-true (ltb 0 t.lenf) (Some t.front) None (lt-ltb 0 t.lenf some)

-- ---- what a prepare answers

pub is_known_none : (w : World) (o : Option Ref) → ((p : Ref) → o ≡ Some p → ⊥) → is_known w o ≡ true
is_known_none w None h = refl
is_known_none w (Some p) h = absurd (h p refl)

pub is_known_some : (w : World) (o : Option Ref) (p : Ref) → o ≡ Some p → is_value w p.0 ≡ true → is_known w o ≡ true
is_known_some w o p e h = rw e h

-- the place that is looked at is there
pub place_there : {w : World} → IsLawful w → (root : ℕ) (t : Top) → recs w root ≡ Some (top_record t) → (op : Op) (p : Ref) → looks_at op t ≡ Some p → IsPublished (recs w) p.0
place_there {w} law root t e op p look =
    let k = top_well law root t e in
    ⊎_elim
    (λ (h : p ≡ t.sched). rw h (k.sched_named.1, k.sched_named.2))
    (λ (h : p ≡ t.front). rw h (k.front_named.1, k.front_named.2))
    (looks op t p look).which

pub looked_there : {w : World} → IsLawful w → (root : ℕ) (t : Top) → recs w root ≡ Some (top_record t) → (op : Op) (p : Ref) → looks_at op t ≡ Some p → is_published (recs w) p.0 ≡ true
looked_there {w} law root t e op p look = is_there (recs w) p.0 (place_there law root t e op p look)

-- the need is the schedule
pub needed_schedule : {w : World} → IsLawful w → (root : ℕ) (t : Top) → recs w root ≡ Some (top_record t) → (op : Op) (p : Ref) → looks_at op t ≡ Some p → Waits w p.0 → needs_schedule w root (Need p) ≡ true
needed_schedule {w} law root t e op p look waits = rw e (eq-eqb t.sched.0 p.0 (sym (waiting_place law root t e op p look waits)))
