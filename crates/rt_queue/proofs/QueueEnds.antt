-- The ends of the operations: what each makes of the items of its queue.
use Rattle.std.proofs.Common.{◌≡◌, ℕ, suc, ◌+◌, ◌-◌, ◌<◌, refl, sym, ap, ◌∙◌, arith, true, false, Some, List, [], ◌∷◌, ◌++◌, length}
use Rattle.std.proofs.lemmas.List.{length-append, nil_from_length}
use Rattle.std.proofs.lemmas.Bool.{and_from, eq-eqb}
use Rattle.lazy_rec.specs.declared.places.Ref.{Ref}
use Rattle.lazy_rec.specs.declared.records.Rec.TheVariants.{Cons, LCons}
use Rattle.lazy_rec.specs.declared.events.Kind.TheVariants as kinds
use Rattle.lazy_rec.specs.declared.events.Op.{Op}
use Rattle.lazy_rec.specs.declared.events.Op.TheVariants as ops
use Rattle.lazy_rec.specs.declared.events.Reply.{Reply}
use Rattle.lazy_rec.specs.declared.events.Reply.TheVariants as replies
use Rattle.lazy_rec.specs.Plain.{effect}
use Rattle.lazy_rec.specs.Meaning.{cells, means}
use Rattle.heap_store.specs.declared.jobs.EventJob.{EventJob}
use Rattle.heap_store.specs.declared.jobs.After.{After}
use Rattle.heap_store.specs.declared.jobs.After.TheVariants.{End}
use Rattle.heap_store.specs.World.{World, recs, holds, is_value, value_at}
use Rattle.heap_store.specs.Values.{items_in}
use Rattle.heap_store.specs.Legal.{in_order}
use Rattle.heap_store.specs.Lawful.{IsLawful, is_root}
use Rattle.heap_store.specs.LookedAt.{has_looked}
use Rattle.heap_store.specs.Jobs.{IsEnd, outcome}
use Rattle.heap_store.proofs.EventEnds.{snoc_longer, snoc_full}
use Rattle.heap_store.proofs.CellLaws.{first_cell, first_item, list_cells}
use Rattle.rt_queue.specs.declared.queue.Top.{Top}
use Rattle.heap_store.specs.OneStage.{ends_at}
use Rattle.rt_queue.specs.Queue.{top_record, IsTopMade}
use Rattle.heap_store.proofs.QueueEntries.{queued, queued-snoc}
use Rattle.rt_queue.proofs.Tops.{top_well}
use Rattle.rt_queue.proofs.NewTops.{HasItems, top_root, top_means, made_top}
use Rattle.rt_queue.proofs.QueueJobs.{root_top, top_size}

-- ---- ends

-- the event ended at a root with these items, which its operation makes
record Ended (w : World) (job : EventJob) (op : Op) (root size : ℕ) (reply : Reply) (made : List ℕ) : Type 0 where
  there : holds (recs w) root (is_root (recs w) kinds.Rtq root) ≡ true
  items : means (recs w) root ≡ made
  made_by : (ws : List ℕ) → effect op (means (recs w) job.base.root.0) ws job.arg ≡ (made, reply)
  size_is : size ≡ length made
  looked : has_looked w op reply job.base.root.0 job.other.size ≡ true

end_of : {w : World} (job : EventJob) → job.base.kind ≡ kinds.Rtq → (op : Op) → job.op ≡ op → (root size : ℕ) (reply : Reply) (made : List ℕ) → Ended w job op root size reply made → IsEnd w job root size reply
end_of {w} job kind op same root size reply made k =
    let e : outcome w job ≡ (made, reply) = rw (kind, same) (k.made_by (in_order job.other.kind (means (recs w) job.other.root.0))) in
    let in_place : in_order job.base.kind (means (recs w) root) ≡ means (recs w) root = rw kind refl in
    record {
      root_is = rw kind k.there;
      value = (let t = root_top w root k.there in let h = t.here in rw h refl);
      means = in_place ∙ (k.items ∙ sym (ap (λ (o : List ℕ × Reply). o.0) e));
      size_is = k.size_is ∙ sym (ap (λ (o : List ℕ × Reply). length o.0) e);
      reply_is = sym (ap (λ (o : List ℕ × Reply). o.1) e);
      looked = rw same k.looked;
    }

pub same_root : (base : Ref) (size : ℕ) (reply : Reply) (result : After) → result ≡ End base size reply → ends_at result base.0 ≡ true
same_root base size reply result e = rw e (eq-eqb base.0 base.0 refl)

-- ---- the ends of the operations, by the top at the root of their queue

pub record AtTop (w : World) (job : EventJob) (t : Top) : Type 0 where
  pub kind : job.base.kind ≡ kinds.Rtq
  pub here : recs w job.base.root.0 ≡ Some (top_record t)
  pub items : HasItems w t
  pub size : job.base.size ≡ t.lenf + t.lenr

at_means : {w : World} → IsLawful w → (job : EventJob) (t : Top) → AtTop w job t → means (recs w) job.base.root.0 ≡ items_in (queued (cells (recs w) t.front.0) (cells (recs w) t.rear.0))
at_means law job t k = top_means law job.base.root.0 t k.here k.items

at_size : {w : World} → IsLawful w → (job : EventJob) (t : Top) → AtTop w job t → job.base.size ≡ length (means (recs w) job.base.root.0)
at_size law job t k = omega (arith, top_size law job.base.root.0 t k.here k.items, k.size)

at_root : {w : World} (job : EventJob) (t : Top) → AtTop w job t → holds (recs w) job.base.root.0 (is_root (recs w) kinds.Rtq job.base.root.0) ≡ true
at_root {w} job t k = top_root w job.base.root.0 t k.here k.items

pub snoc_end : {w : World} → IsLawful w → (job : EventJob) (t : Top) → AtTop w job t → job.op ≡ ops.Snoc → job.base.size < 2147483647 → is_value w t.sched.0 ≡ true → (rear : Ref) → recs w rear.0 ≡ Some (LCons false job.arg t.rear)
    → (made : ℕ) → IsTopMade w (record t { rear = rear; lenr = t.lenr + 1 }) made → IsEnd w job made (job.base.size + 1) replies.Ok
snoc_end {w} law job t k op few known rear h made m =
    let rs = recs w in
    let v = means rs job.base.root.0 in
    let n = at_size law job t k in
    let c = list_cells law rear.0 false job.arg t.rear h in
    let r = made_top law (record t { rear = rear; lenr = t.lenr + 1 }) (top_well law job.base.root.0 t k.here).front_cells made m in
    let items = r.items (record { front_items = k.items.front_items; rear_items = rw c k.items.rear_items }) in
    let e = k.here in
    end_of job k.kind ops.Snoc op made (job.base.size + 1) replies.Ok (v ++ job.arg ∷ []) (record {
      there = top_root w made r.top r.here items;
      items = top_means law made r.top r.here items ∙ (ap items_in (r.entries ∙ ap (queued (cells rs t.front.0)) c) ∙ (queued-snoc (cells rs t.front.0) (cells rs t.rear.0) job.arg ∙ ap (λ l. l ++ job.arg ∷ []) (sym (at_means law job t k))));
      made_by = λ ws. snoc_longer v ws job.arg (omega (arith, n, few));
      size_is = rw (length-append v (job.arg ∷ [])) (omega (arith, n));
      looked = rw e known;
    })

pub full_end : {w : World} → IsLawful w → (job : EventJob) (t : Top) → AtTop w job t → job.op ≡ ops.Snoc → job.base.size ≡ 2147483647 → IsEnd w job job.base.root.0 job.base.size replies.TooLong
full_end {w} law job t k op full =
    let v = means (recs w) job.base.root.0 in
    let n = at_size law job t k in
    end_of job k.kind ops.Snoc op job.base.root.0 job.base.size replies.TooLong v (record { there = at_root job t k; items = refl; made_by = λ ws. snoc_full v ws job.arg (omega (arith, n, full)); size_is = n; looked = refl })

-- the items of a queue whose first cell is known
first_means : {w : World} → IsLawful w → (job : EventJob) (t : Top) → AtTop w job t → (v : ℕ) (rest : Ref) → value_at w t.front.0 ≡ Some (Cons false v rest) → means (recs w) job.base.root.0 ≡ v ∷ items_in (queued (cells (recs w) rest.0) (cells (recs w) t.rear.0))
first_means {w} law job t k v rest h = at_means law job t k ∙ rw (first_cell law t.front.0 false v rest h).cells_are refl

pub tail_end : {w : World} → IsLawful w → (job : EventJob) (t : Top) → AtTop w job t → job.op ≡ ops.Tail → is_value w t.front.0 ≡ true → is_value w t.sched.0 ≡ true → (v : ℕ) (rest : Ref) → value_at w t.front.0 ≡ Some (Cons false v rest)
    → (made : ℕ) → IsTopMade w (record t { front = rest; lenf = t.lenf - 1 }) made → IsEnd w job made (job.base.size - 1) replies.Ok
tail_end {w} law job t k op known sched v rest h made m =
    let rs = recs w in
    let c = (first_cell law t.front.0 false v rest h).cells_are in
    let l : length (cells rs t.front.0) ≡ suc (length (cells rs rest.0)) = ap length c in
    let r = made_top law (record t { front = rest; lenf = t.lenf - 1 }) (omega (arith, l, (top_well law job.base.root.0 t k.here).front_cells)) made m in
    let items = r.items (record { front_items = (first_item rs t.front.0 rest.0 false v k.items.front_items c).others; rear_items = k.items.rear_items }) in
    let left = items_in (queued (cells rs rest.0) (cells rs t.rear.0)) in
    let all = first_means law job t k v rest h in
    let count : length (means rs job.base.root.0) ≡ suc (length left) = ap length all in
    let e = k.here in
    end_of job k.kind ops.Tail op made (job.base.size - 1) replies.Ok left (record {
      there = top_root w made r.top r.here items;
      items = top_means law made r.top r.here items ∙ ap items_in r.entries;
      made_by = λ ws. rw all refl;
      size_is = omega (arith, at_size law job t k, count);
      looked = rw e (and_from (is_value w t.front.0) (is_value w t.sched.0) known sched);
    })

pub head_end : {w : World} → IsLawful w → (job : EventJob) (t : Top) → AtTop w job t → job.op ≡ ops.Head → is_value w t.front.0 ≡ true → (v : ℕ) (rest : Ref) → value_at w t.front.0 ≡ Some (Cons false v rest) → IsEnd w job job.base.root.0 job.base.size (replies.Number v)
head_end {w} law job t k op known v rest h =
    let all = first_means law job t k v rest h in
    let e = k.here in
    end_of job k.kind ops.Head op job.base.root.0 job.base.size (replies.Number v) (means (recs w) job.base.root.0) (record { there = at_root job t k; items = refl; made_by = λ ws. rw all refl; size_is = at_size law job t k; looked = rw e known })

-- of an empty queue
none_means : {w : World} → IsLawful w → (job : EventJob) (t : Top) → AtTop w job t → t.lenf ≡ 0 → means (recs w) job.base.root.0 ≡ []
none_means {w} law job t k z = nil_from_length (means (recs w) job.base.root.0) (omega (arith, at_size law job t k, k.size, z, (top_well law job.base.root.0 t k.here).near))

pub empty_head : {w : World} → IsLawful w → (job : EventJob) (t : Top) → AtTop w job t → t.lenf ≡ 0 → job.op ≡ ops.Head → IsEnd w job job.base.root.0 job.base.size replies.Empty
empty_head {w} law job t k z op =
    let m = none_means law job t k z in
    end_of job k.kind ops.Head op job.base.root.0 job.base.size replies.Empty [] (record { there = at_root job t k; items = m; made_by = λ ws. rw m refl; size_is = at_size law job t k ∙ ap length m; looked = refl })

pub empty_tail : {w : World} → IsLawful w → (job : EventJob) (t : Top) → AtTop w job t → t.lenf ≡ 0 → job.op ≡ ops.Tail → IsEnd w job job.base.root.0 job.base.size replies.Empty
empty_tail {w} law job t k z op =
    let m = none_means law job t k z in
    end_of job k.kind ops.Tail op job.base.root.0 job.base.size replies.Empty [] (record { there = at_root job t k; items = m; made_by = λ ws. rw m refl; size_is = at_size law job t k ∙ ap length m; looked = refl })

pub size_end : {w : World} → IsLawful w → (job : EventJob) (t : Top) → AtTop w job t → job.op ≡ ops.Size → IsEnd w job job.base.root.0 job.base.size (replies.Number job.base.size)
size_end {w} law job t k op =
    let n = at_size law job t k in
    let e = k.here in
    end_of job k.kind ops.Size op job.base.root.0 job.base.size (replies.Number job.base.size) (means (recs w) job.base.root.0) (record { there = at_root job t k; items = refl; made_by = λ ws. rw (← n) refl; size_is = n; looked = rw e refl })
