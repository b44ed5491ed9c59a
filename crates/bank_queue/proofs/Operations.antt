-- What the operations make.
use Rattle.std.proofs.Common.{◌≡◌, ℕ, suc, ◌+◌, ◌-◌, ◌<◌, ◌≤◌, refl, sym, ap, ◌∙◌, arith, true, false, Some, ◌∷◌, length}
use Rattle.std.proofs.lemmas.Bool.{true≢false}
use Rattle.lazy_rec.specs.declared.places.Ref.{Ref}
use Rattle.lazy_rec.specs.declared.records.Rec.TheVariants.{Cons, LCons}
use Rattle.lazy_rec.specs.declared.events.Kind.TheVariants as kinds
use Rattle.lazy_rec.specs.declared.events.Op.{Op}
use Rattle.lazy_rec.specs.declared.events.Op.TheVariants as ops
use Rattle.lazy_rec.specs.declared.events.Reply.TheVariants as replies
use Rattle.lazy_rec.specs.Meaning.{an_item, cells}
use Rattle.heap_store.specs.declared.jobs.EventJob.{EventJob}
use Rattle.heap_store.specs.declared.jobs.After.{After}
use Rattle.heap_store.specs.declared.jobs.After.TheVariants.{End}
use Rattle.heap_store.specs.World.{World, recs, Keeps, is_value, value_at}
use Rattle.heap_store.specs.Values.{items_in}
use Rattle.heap_store.specs.Lawful.{IsLawful}
use Rattle.heap_store.specs.Hand.{contains}
use Rattle.heap_store.specs.Span.{Span}
use Rattle.heap_store.specs.View.{View, IsLawfulView, Fits, Quiet}
use Rattle.heap_store.specs.Jobs.{IsEventBuildable, IsEventBuilt}
use Rattle.heap_store.proofs.LawfulLaws.{lawful_names}
use Rattle.heap_store.proofs.MeaningLaws.{cells_kept}
use Rattle.heap_store.proofs.Steps.{Quiet_refl}
use Rattle.heap_store.proofs.CellLaws.{list_cells}
use Rattle.heap_store.proofs.EventEnds.{built_same}
use Rattle.heap_store.proofs.PutLaws.{fits_list_cons}
use Rattle.bank_queue.specs.declared.queue.Top.{Top}
use Rattle.bank_queue.specs.Queue.{top_record, places_for, looks_at_front, IsReadyEvent, IsNearQueue}
use Rattle.bank_queue.proofs.Fronts.{front_cell}
use Rattle.bank_queue.proofs.PaidFronts.{rest_paid}
use Rattle.heap_store.proofs.QueueEntries.{queued}
use Rattle.bank_queue.proofs.RotatedFronts.{rotated_of, rotated_after}
use Rattle.bank_queue.proofs.Tops.{old_top, kept_queue}
use Rattle.bank_queue.proofs.TopsPaid.{front_paid}
use Rattle.bank_queue.proofs.QueueJobs.{BuildTop, top_there, build_root, build_top, full_places}
use Rattle.bank_queue.proofs.QueueEnds.{full_end, size_end, head_end, empty_end}

-- ---- operations that make nothing

-- a full queue stays
pub full_built : {v : View} → IsLawful v.seen → {job : EventJob} {run : Span} → IsEventBuildable IsReadyEvent v job run → job.base.kind ≡ kinds.Bankq → job.op ≡ ops.Snoc → job.base.size ≡ 2147483647 → (result : After) → result ≡ End job.base.root job.base.size replies.TooLong → IsEventBuilt v v job run run result
full_built {v} law {job} {run} b kind op full result same =
    let t = top_there law job.base.root.0 (build_root b kind) in
    let k = build_top law b kind t.0 t.1 in
    let none : places_for job.op t.0.lenf t.0.lenr ≡ 0 = ap (λ o. places_for o t.0.lenf t.0.lenr) op ∙ full_places t.0.lenf t.0.lenr (omega (arith, k.top.size, full)) in
    built_same (Quiet_refl v) (omega (arith, k.places, none)) job.base.size replies.TooLong (full_end law job kind op t.0 t.1 k.top.size full) result same

pub size_built : {v : View} → IsLawful v.seen → {job : EventJob} {run : Span} → (b : IsEventBuildable IsReadyEvent v job run) → job.base.kind ≡ kinds.Bankq → job.op ≡ ops.Size → (result : After) → result ≡ End job.base.root job.base.size (replies.Number job.base.size) → IsEventBuilt v v job run run result
size_built {v} law {job} {run} b kind op result same =
    let t = top_there law job.base.root.0 (build_root b kind) in
    let k = build_top law b kind t.0 t.1 in
    let none : places_for job.op t.0.lenf t.0.lenr ≡ 0 = ap (λ o. places_for o t.0.lenf t.0.lenr) op in
    built_same (Quiet_refl v) (omega (arith, k.places, none)) job.base.size (replies.Number job.base.size) (size_end law job kind op t.0 t.1 k.top.size) result same

-- an operation that looks at the front of a queue without items
pub none_built : {a v : View} → Quiet a v → IsLawful v.seen → {job : EventJob} {run : Span} {t : Top} → BuildTop v job run t → job.base.kind ≡ kinds.Bankq → looks_at_front job.op 1 ≡ true → t.lenf ≡ 0 → (result : After) → result ≡ End job.base.root job.base.size replies.Empty → IsEventBuilt a v job run run result
none_built {a} {v} q law {job} {run} {t} k kind look z result same =
    built_same q (omega (arith, k.places, none job.op t.lenf look z)) job.base.size replies.Empty (empty_end law job kind job.op refl look t k.there k.top.size z) result same
  where
    none : (op : Op) (lenf : ℕ) → looks_at_front op 1 ≡ true → lenf ≡ 0 → places_for op lenf t.lenr ≡ 0
    none ops.Head lenf look z = refl
    none ops.Tail lenf look z = rw z refl
    none _ lenf look z = absurd (true≢false (sym look))

-- a head of a queue with items
pub head_built : {a v : View} → Quiet a v → IsLawful v.seen → {job : EventJob} {run : Span} {t : Top} → BuildTop v job run t → job.base.kind ≡ kinds.Bankq → job.op ≡ ops.Head → (x : ℕ) (rest : Ref) → value_at v.seen t.front.0 ≡ Some (Cons false x rest) → is_value v.seen t.front.0 ≡ true → (result : After) → result ≡ End job.base.root job.base.size (replies.Number x) → IsEventBuilt a v job run run result
head_built {a} {v} q law {job} {run} {t} k kind op x rest h known result same =
    let none : places_for job.op t.lenf t.lenr ≡ 0 = ap (λ o. places_for o t.lenf t.lenr) op in
    built_same q (omega (arith, k.places, none)) job.base.size (replies.Number x) (head_end law job kind op t k.there k.top.size x rest h known) result same

-- ---- snoc

-- the rear's new cell
pub fits_rear : {v : View} → IsLawfulView v → (p : ℕ) → contains v.hand.reserved p ≡ true → (root : ℕ) (t : Top) → recs v.seen root ≡ Some (top_record t) → root < p → (x : ℕ) → x < 18446744073709551616 → Fits v p (LCons false x t.rear)
fits_rear {v} law p held root t e low x fits =
    let k = (old_top law.world root t e).well.rear_named in
    fits_list_cons law p held x t.rear fits (omega (arith, k.0, low), k.1, k.2, k.3)

-- an item put on the rear
pub near_snoc : {w : World} → IsLawful w → (root : ℕ) (t : Top) → recs w root ≡ Some (top_record t) → (x : ℕ) (rear : Ref) → recs w rear.0 ≡ Some (LCons false x t.rear) → (place : ℕ) → root < place → rear.0 < place
    → IsNearQueue w (record t { rear = rear; lenr = t.lenr + 1 }) place
near_snoc {w} law root t e x rear h place root_low rear_low =
    let k = old_top law root t e in
    let c = list_cells law rear.0 false x t.rear h in
    record {
      front_there = k.well.front;
      front_items = k.well.front_items;
      front_length = k.well.front_cells;
      front_low = omega (arith, k.well.front_named.0, root_low);
      rear_there = rw h refl;
      rear_items = rw c k.well.rear_items;
      rear_length = rw c (omega (arith, k.well.rear_cells));
      rear_low = rear_low;
      near = omega (arith, k.near);
      paid = λ below. (let z : t.lenf < t.lenr + 1 = below in front_paid law root t e (omega (arith, z, k.near)));
      rotated = λ le. (let z : t.lenr + 1 ≤ t.lenf = le in let r = k.rotation (omega (arith, z)) in (r.0, omega (arith, r.1, root_low), r.2));
    }

-- the items after a snoc, in a later world
pub snoc_items : {a b : World} → IsLawful a → IsLawful b → Keeps (recs a) (recs b) → (root : ℕ) (t : Top) → recs a root ≡ Some (top_record t) → (x : ℕ) (rear : Ref) → recs a rear.0 ≡ Some (LCons false x t.rear)
    → items_in (queued (cells (recs a) t.front.0) (cells (recs a) rear.0)) ≡ items_in (queued (cells (recs b) t.front.0) (an_item x ∷ cells (recs b) t.rear.0))
snoc_items {a} {b} law law2 keeps root t e x rear h =
    let k = (old_top law root t e).well in
    let c = list_cells law rear.0 false x t.rear h in
    let f = cells_kept (recs a) (recs b) (lawful_names law) keeps t.front.0 (k.front_named.1, k.front_named.2) in
    let r = cells_kept (recs a) (recs b) (lawful_names law) keeps t.rear.0 (k.rear_named.1, k.rear_named.2) in
    rw (c, ← f, ← r) refl

-- ---- tail

-- an item taken off the front
pub near_tail : {w : World} → IsLawful w → (root : ℕ) (t : Top) → recs w root ≡ Some (top_record t) → (v : ℕ) (rest : Ref) → value_at w t.front.0 ≡ Some (Cons false v rest) → (place : ℕ) → root < place → rest.0 < place
    → IsNearQueue w (record t { front = rest; lenf = t.lenf - 1; tails = t.tails + 1 }) place
near_tail {w} law root t e v rest h place root_low rest_low =
    let k = old_top law root t e in
    let c = front_cell law t.front.0 v rest k.well.front k.well.front_items h in
    let l : length (cells (recs w) t.front.0) ≡ suc (length (cells (recs w) rest.0)) = ap length c.cell.cells_are in
    let r = k.rotation (omega (arith, l, k.well.front_cells)) in
    record {
      front_there = c.front;
      front_items = c.items;
      front_length = omega (arith, l, k.well.front_cells);
      front_low = rest_low;
      rear_there = k.rear_list;
      rear_items = k.well.rear_items;
      rear_length = k.well.rear_cells;
      rear_low = omega (arith, k.well.rear_named.0, root_low);
      near = omega (arith, k.near, l, k.well.front_cells);
      paid = λ below. (let z : t.lenf - 1 < t.lenr = below in rest_paid law t.front.0 v rest k.well.front (front_paid law root t e (omega (arith, z, k.near, l, k.well.front_cells))) c);
      rotated = λ le. (r.0, omega (arith, r.1, root_low), rotated_after law t.front.0 t.lenf t.origin.0 t.n t.tails v rest (rotated_of law t.front.0 t.lenf t.origin.0 t.n t.tails r.2) k.well.front_cells c);
    }

-- the items after a tail, in a later world
pub tail_items : {a b : World} → IsLawful a → IsLawful b → Keeps (recs a) (recs b) → (root : ℕ) (t : Top) → recs a root ≡ Some (top_record t) → (v : ℕ) (rest : Ref) → value_at a t.front.0 ≡ Some (Cons false v rest)
    → items_in (queued (cells (recs a) rest.0) (cells (recs a) t.rear.0)) ≡ items_in (queued (cells (recs b) rest.0) (cells (recs b) t.rear.0))
tail_items {a} {b} law law2 keeps root t e v rest h =
    let k = (old_top law root t e).well in
    let c = front_cell law t.front.0 v rest k.front k.front_items h in
    ap items_in (sym (kept_queue law law2 keeps rest.0 t.rear.0 (c.cell.rest_named.1, c.cell.rest_named.2) (k.rear_named.1, k.rear_named.2)))
