-- The operations that make nothing, and what a snoc and a tail put.
use Rattle.std.proofs.Common.{◌≡◌, ℕ, ◌<◌, ap, ◌∙◌, arith, true, false, Some}
use Rattle.lazy_rec.specs.declared.places.Ref.{Ref}
use Rattle.lazy_rec.specs.declared.records.Rec.TheVariants.{Cons, LCons}
use Rattle.lazy_rec.specs.declared.events.Kind.TheVariants as kinds
use Rattle.lazy_rec.specs.declared.events.Op.TheVariants as ops
use Rattle.lazy_rec.specs.declared.events.Reply.TheVariants as replies
use Rattle.heap_store.specs.declared.jobs.EventJob.{EventJob}
use Rattle.heap_store.specs.declared.jobs.After.{After}
use Rattle.heap_store.specs.declared.jobs.After.TheVariants.{End}
use Rattle.heap_store.specs.World.{recs, is_value, value_at}
use Rattle.heap_store.specs.Lawful.{IsLawful}
use Rattle.heap_store.specs.Span.{Span}
use Rattle.heap_store.specs.Hand.{contains}
use Rattle.heap_store.specs.View.{View, IsLawfulView, Fits, Quiet}
use Rattle.heap_store.specs.Jobs.{IsEventBuildable, IsEventBuilt}
use Rattle.heap_store.proofs.Steps.{Quiet_refl}
use Rattle.heap_store.proofs.EventEnds.{built_same}
use Rattle.heap_store.proofs.PutLaws.{fits_list_cons}
use Rattle.rt_queue.specs.declared.queue.Top.{Top}
use Rattle.rt_queue.specs.Queue.{top_record, places_for, IsReadyEvent}
use Rattle.rt_queue.proofs.Tops.{top_well}
use Rattle.rt_queue.proofs.QueueJobs.{BuildTop, root_top, build_root, build_top, full_places}
use Rattle.rt_queue.proofs.QueueEnds.{AtTop, full_end, size_end, head_end, empty_head, empty_tail}

-- the base's root, as a build finds it
pub at_top : {v : View} {job : EventJob} {run : Span} {t : Top} → BuildTop v job run t → job.base.kind ≡ kinds.Rtq → AtTop v.seen job t
at_top k kind = record { kind = kind; here = k.there; items = k.top.items; size = k.top.size }

-- a full queue stays
pub full_built : {v : View} → IsLawful v.seen → {job : EventJob} {run : Span} → IsEventBuildable IsReadyEvent v job run → job.base.kind ≡ kinds.Rtq → job.op ≡ ops.Snoc → job.base.size ≡ 2147483647 → (result : After) → result ≡ End job.base.root job.base.size replies.TooLong → IsEventBuilt v v job run run result
full_built {v} law {job} {run} b kind op full result same =
    let r = root_top v.seen job.base.root.0 (build_root b kind) in
    let k = build_top law b kind r.top r.here in
    let none : places_for job.op r.top.lenf r.top.lenr ≡ 0 = ap (λ o. places_for o r.top.lenf r.top.lenr) op ∙ full_places r.top.lenf r.top.lenr (omega (arith, k.top.size, full)) in
    built_same (Quiet_refl v) (omega (arith, k.places, none)) job.base.size replies.TooLong (full_end law job r.top (at_top k kind) op full) result same

pub size_built : {v : View} → IsLawful v.seen → {job : EventJob} {run : Span} → (b : IsEventBuildable IsReadyEvent v job run) → job.base.kind ≡ kinds.Rtq → job.op ≡ ops.Size → (result : After) → result ≡ End job.base.root job.base.size (replies.Number job.base.size) → IsEventBuilt v v job run run result
size_built {v} law {job} {run} b kind op result same =
    let r = root_top v.seen job.base.root.0 (build_root b kind) in
    let k = build_top law b kind r.top r.here in
    let none : places_for job.op r.top.lenf r.top.lenr ≡ 0 = ap (λ o. places_for o r.top.lenf r.top.lenr) op in
    built_same (Quiet_refl v) (omega (arith, k.places, none)) job.base.size (replies.Number job.base.size) (size_end law job r.top (at_top k kind) op) result same

-- a head or a tail of an empty queue
pub head_none : {a v : View} → Quiet a v → IsLawful v.seen → {job : EventJob} {run : Span} {t : Top} → BuildTop v job run t → job.base.kind ≡ kinds.Rtq → job.op ≡ ops.Head → t.lenf ≡ 0 → (result : After) → result ≡ End job.base.root job.base.size replies.Empty → IsEventBuilt a v job run run result
head_none {a} {v} q law {job} {run} {t} k kind op z result same =
    let none : places_for job.op t.lenf t.lenr ≡ 0 = ap (λ o. places_for o t.lenf t.lenr) op in
    built_same q (omega (arith, k.places, none)) job.base.size replies.Empty (empty_head law job t (at_top k kind) z op) result same

pub tail_none : {a v : View} → Quiet a v → IsLawful v.seen → {job : EventJob} {run : Span} {t : Top} → BuildTop v job run t → job.base.kind ≡ kinds.Rtq → job.op ≡ ops.Tail → t.lenf ≡ 0 → (result : After) → result ≡ End job.base.root job.base.size replies.Empty → IsEventBuilt a v job run run result
tail_none {a} {v} q law {job} {run} {t} k kind op z result same =
    let none : places_for job.op t.lenf t.lenr ≡ 0 = ap (λ o. places_for o t.lenf t.lenr) op ∙ ap (λ n. places_for ops.Tail n t.lenr) z in
    built_same q (omega (arith, k.places, none)) job.base.size replies.Empty (empty_tail law job t (at_top k kind) z op) result same

-- a head of a queue with items
pub head_built : {a v : View} → Quiet a v → IsLawful v.seen → {job : EventJob} {run : Span} {t : Top} → BuildTop v job run t → job.base.kind ≡ kinds.Rtq → job.op ≡ ops.Head → (x : ℕ) (rest : Ref) → value_at v.seen t.front.0 ≡ Some (Cons false x rest) → is_value v.seen t.front.0 ≡ true → (result : After) → result ≡ End job.base.root job.base.size (replies.Number x) → IsEventBuilt a v job run run result
head_built {a} {v} q law {job} {run} {t} k kind op x rest h known result same =
    let none : places_for job.op t.lenf t.lenr ≡ 0 = ap (λ o. places_for o t.lenf t.lenr) op in
    built_same q (omega (arith, k.places, none)) job.base.size (replies.Number x) (head_end law job t (at_top k kind) op known x rest h) result same

-- the rear's new cell
pub fits_rear : {v : View} → IsLawfulView v → (p : ℕ) → contains v.hand.reserved p ≡ true → (root : ℕ) (t : Top) → recs v.seen root ≡ Some (top_record t) → root < p → (x : ℕ) → x < 18446744073709551616 → Fits v p (LCons false x t.rear)
fits_rear {v} law p held root t e low x fits =
    let k = (top_well law.world root t e).rear_named in
    fits_list_cons law p held x t.rear fits (omega (arith, k.0, low), k.1, k.2, k.3)
