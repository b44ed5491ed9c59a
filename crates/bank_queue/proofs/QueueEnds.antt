-- The ends of the operations: what each makes of the items of its queue.
use Rattle.std.proofs.Common.{◌≡◌, ℕ, suc, ◌+◌, ◌-◌, ◌<◌, refl, sym, ap, ◌∙◌, arith, true, false, not, Some, List, [], ◌∷◌, ◌++◌, length}
use Rattle.std.proofs.lemmas.List.{length-append, nil_from_length}
use Rattle.std.proofs.lemmas.Bool.{true≢false, eq-eqb}
use Rattle.lazy_rec.specs.declared.places.Ref.{Ref}
use Rattle.lazy_rec.specs.declared.records.Rec.{Rec}
use Rattle.lazy_rec.specs.declared.records.Rec.TheVariants.{Cons, BankTop}
use Rattle.lazy_rec.specs.declared.records.Sort.TheVariants as sorts
use Rattle.lazy_rec.specs.declared.events.Kind.TheVariants as kinds
use Rattle.lazy_rec.specs.declared.events.Op.{Op}
use Rattle.lazy_rec.specs.declared.events.Op.TheVariants as ops
use Rattle.lazy_rec.specs.declared.events.Reply.{Reply}
use Rattle.lazy_rec.specs.declared.events.Reply.TheVariants as replies
use Rattle.lazy_rec.specs.Named.{sort_of, same_sort, is_pending}
use Rattle.lazy_rec.specs.Plain.{effect}
use Rattle.lazy_rec.specs.Meaning.{an_item, cells, means}
use Rattle.heap_store.specs.declared.jobs.EventJob.{EventJob}
use Rattle.heap_store.specs.declared.jobs.After.{After}
use Rattle.heap_store.specs.declared.jobs.After.TheVariants.{End}
use Rattle.heap_store.specs.World.{World, recs, holds, is_value, value_at}
use Rattle.heap_store.specs.Values.{items_in}
use Rattle.heap_store.specs.Legal.{in_order}
use Rattle.heap_store.specs.Lawful.{IsLawful, is_root}
use Rattle.heap_store.specs.LookedAt.{has_looked}
use Rattle.heap_store.specs.Jobs.{IsEnd, outcome}
use Rattle.heap_store.proofs.GrowthLaws.{at_true}
use Rattle.heap_store.proofs.EventEnds.{snoc_longer, snoc_full}
use Rattle.bank_queue.specs.declared.queue.Top.{Top}
use Rattle.heap_store.specs.OneStage.{ends_at}
use Rattle.bank_queue.specs.Queue.{top_record, looks_at_front}
use Rattle.bank_queue.proofs.Fronts.{front_cell}
use Rattle.heap_store.proofs.QueueEntries.{queued, queued-snoc}
use Rattle.bank_queue.proofs.Tops.{old_top, top_means}
use Rattle.bank_queue.proofs.QueueJobs.{top_size}

-- ---- ends

root_value : (r : Rec) → same_sort (sort_of r) sorts.BankTop ≡ true → not (is_pending r) ≡ true
root_value (BankTop _ _ _ _ _ _ _ _) h = refl
root_value _ h = absurd (true≢false (sym h))

end_of : {w : World} → IsLawful w → (job : EventJob) → job.base.kind ≡ kinds.Bankq → (op : Op) → job.op ≡ op → (root : Ref) (size : ℕ) (reply : Reply) (made : List ℕ)
    → holds (recs w) root.0 (is_root (recs w) kinds.Bankq root.0) ≡ true → means (recs w) root.0 ≡ made → ((ws : List ℕ) → effect op (means (recs w) job.base.root.0) ws job.arg ≡ (made, reply)) → size ≡ length made → has_looked w op reply job.base.root.0 job.other.size ≡ true → IsEnd w job root.0 size reply
end_of {w} law job kind op same root size reply made there m eff len looked =
    let e : outcome w job ≡ (made, reply) = rw (kind, same) (eff (in_order job.other.kind (means (recs w) job.other.root.0))) in
    let t = at_true (is_root (recs w) kinds.Bankq root.0) (recs w root.0) there in
    let in_place : in_order job.base.kind (means (recs w) root.0) ≡ means (recs w) root.0 = rw kind refl in
    record {
      root_is = rw kind there;
      value = rw t.1 (root_value t.0 t.2);
      means = in_place ∙ (m ∙ sym (ap (λ (o : List ℕ × Reply). o.0) e));
      size_is = len ∙ sym (ap (λ (o : List ℕ × Reply). length o.0) e);
      reply_is = sym (ap (λ (o : List ℕ × Reply). o.1) e);
      looked = rw same looked;
    }

pub same_root : (base : Ref) (size : ℕ) (reply : Reply) (result : After) → result ≡ End base size reply → ends_at result base.0 ≡ true
same_root base size reply result e = rw e (eq-eqb base.0 base.0 refl)

-- ---- the ends of the operations

pub snoc_end : {w : World} → IsLawful w → (job : EventJob) → job.base.kind ≡ kinds.Bankq → job.op ≡ ops.Snoc → (t : Top) → recs w job.base.root.0 ≡ Some (top_record t) → job.base.size ≡ t.lenf + t.lenr → job.base.size < 2147483647
    → (root : Ref) → holds (recs w) root.0 (is_root (recs w) kinds.Bankq root.0) ≡ true → means (recs w) root.0 ≡ items_in (queued (cells (recs w) t.front.0) (an_item job.arg ∷ cells (recs w) t.rear.0)) → IsEnd w job root.0 (job.base.size + 1) replies.Ok
snoc_end {w} law job kind op t e size few root there m =
    let v = means (recs w) job.base.root.0 in
    let n = top_size law job.base.root.0 t e in
    end_of law job kind ops.Snoc op root (job.base.size + 1) replies.Ok (v ++ job.arg ∷ []) there
    (m ∙ (queued-snoc (cells (recs w) t.front.0) (cells (recs w) t.rear.0) job.arg ∙ ap (λ l. l ++ job.arg ∷ []) (sym (top_means law job.base.root.0 t e))))
    (λ ws. snoc_longer v ws job.arg (omega (arith, n, size, few)))
    (rw (length-append v (job.arg ∷ [])) (omega (arith, n, size)))
    (rw e refl)

pub full_end : {w : World} → IsLawful w → (job : EventJob) → job.base.kind ≡ kinds.Bankq → job.op ≡ ops.Snoc → (t : Top) → recs w job.base.root.0 ≡ Some (top_record t) → job.base.size ≡ t.lenf + t.lenr → job.base.size ≡ 2147483647 → IsEnd w job job.base.root.0 job.base.size replies.TooLong
full_end {w} law job kind op t e size full =
    let n = top_size law job.base.root.0 t e in
    end_of law job kind ops.Snoc op job.base.root job.base.size replies.TooLong (means (recs w) job.base.root.0) (rw e refl) refl (λ ws. snoc_full (means (recs w) job.base.root.0) ws job.arg (omega (arith, n, size, full))) (omega (arith, n, size)) refl

-- the items of a queue whose first cell is known
first_means : {w : World} → IsLawful w → (p : ℕ) (t : Top) → recs w p ≡ Some (top_record t) → (v : ℕ) (rest : Ref) → value_at w t.front.0 ≡ Some (Cons false v rest) → means (recs w) p ≡ v ∷ items_in (queued (cells (recs w) rest.0) (cells (recs w) t.rear.0))
first_means {w} law p t e v rest h =
    let k = old_top law p t e in
    let c = front_cell law t.front.0 v rest k.well.front k.well.front_items h in
    top_means law p t e ∙ rw c.cell.cells_are refl

pub tail_end : {w : World} → IsLawful w → (job : EventJob) → job.base.kind ≡ kinds.Bankq → job.op ≡ ops.Tail → (t : Top) → recs w job.base.root.0 ≡ Some (top_record t) → job.base.size ≡ t.lenf + t.lenr → (v : ℕ) (rest : Ref) → value_at w t.front.0 ≡ Some (Cons false v rest) → is_value w t.front.0 ≡ true
    → (root : Ref) → holds (recs w) root.0 (is_root (recs w) kinds.Bankq root.0) ≡ true → means (recs w) root.0 ≡ items_in (queued (cells (recs w) rest.0) (cells (recs w) t.rear.0)) → IsEnd w job root.0 (job.base.size - 1) replies.Ok
tail_end {w} law job kind op t e size v rest h known root there m =
    let made = items_in (queued (cells (recs w) rest.0) (cells (recs w) t.rear.0)) in
    let all = first_means law job.base.root.0 t e v rest h in
    let n = top_size law job.base.root.0 t e in
    let l : length (means (recs w) job.base.root.0) ≡ suc (length made) = ap length all in
    end_of law job kind ops.Tail op root (job.base.size - 1) replies.Ok made there m (λ ws. rw all refl) (omega (arith, n, size, l)) (rw e known)

pub head_end : {w : World} → IsLawful w → (job : EventJob) → job.base.kind ≡ kinds.Bankq → job.op ≡ ops.Head → (t : Top) → recs w job.base.root.0 ≡ Some (top_record t) → job.base.size ≡ t.lenf + t.lenr → (v : ℕ) (rest : Ref) → value_at w t.front.0 ≡ Some (Cons false v rest) → is_value w t.front.0 ≡ true → IsEnd w job job.base.root.0 job.base.size (replies.Number v)
head_end {w} law job kind op t e size v rest h known =
    let all = first_means law job.base.root.0 t e v rest h in
    let n = top_size law job.base.root.0 t e in
    end_of law job kind ops.Head op job.base.root job.base.size (replies.Number v) (means (recs w) job.base.root.0) (rw e refl) refl (λ ws. rw all refl) (omega (arith, n, size)) (rw e known)

none_means : {w : World} → IsLawful w → (p : ℕ) (t : Top) → recs w p ≡ Some (top_record t) → t.lenf ≡ 0 → means (recs w) p ≡ []
none_means {w} law p t e z = let k = old_top law p t e in nil_from_length (means (recs w) p) (omega (arith, top_size law p t e, z, k.near))

-- of an empty queue
pub empty_end : {w : World} → IsLawful w → (job : EventJob) → job.base.kind ≡ kinds.Bankq → (op : Op) → job.op ≡ op → looks_at_front op 1 ≡ true → (t : Top) → recs w job.base.root.0 ≡ Some (top_record t) → job.base.size ≡ t.lenf + t.lenr → t.lenf ≡ 0 → IsEnd w job job.base.root.0 job.base.size replies.Empty
empty_end {w} law job kind op same look t e size z = by op look same
  where
    m : means (recs w) job.base.root.0 ≡ []
    m = none_means law job.base.root.0 t e z

    none : job.base.size ≡ 0
    none = omega (arith, size, z, (old_top law job.base.root.0 t e).near)

    by : (op : Op) → looks_at_front op 1 ≡ true → job.op ≡ op → IsEnd w job job.base.root.0 job.base.size replies.Empty
    by ops.Head look same = end_of law job kind ops.Head same job.base.root job.base.size replies.Empty [] (rw e refl) m (λ ws. rw m refl) none refl
    by ops.Tail look same = end_of law job kind ops.Tail same job.base.root job.base.size replies.Empty [] (rw e refl) m (λ ws. rw m refl) none refl
    by _ look same = absurd (true≢false (sym look))

pub size_end : {w : World} → IsLawful w → (job : EventJob) → job.base.kind ≡ kinds.Bankq → job.op ≡ ops.Size → (t : Top) → recs w job.base.root.0 ≡ Some (top_record t) → job.base.size ≡ t.lenf + t.lenr → IsEnd w job job.base.root.0 job.base.size (replies.Number job.base.size)
size_end {w} law job kind op t e size =
    let n : job.base.size ≡ length (means (recs w) job.base.root.0) = omega (arith, top_size law job.base.root.0 t e, size) in
    end_of law job kind ops.Size op job.base.root job.base.size (replies.Number job.base.size) (means (recs w) job.base.root.0) (rw e refl) refl (λ ws. rw (← n) refl) n (rw e refl)
