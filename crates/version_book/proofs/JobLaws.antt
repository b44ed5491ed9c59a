-- Jobs as the world grows, and from stage to stage.
use Rattle.std.proofs.Common.{◌≡◌, ℕ, refl, sym, ap, subst, ◌∙◌, Bool, true, false, ◌&&◌, List, ◌++◌, length}
use Rattle.std.proofs.lemmas.Bool.{and_parts, and_from}
use Rattle.lazy_rec.specs.declared.records.Sort.TheVariants as sorts
use Rattle.lazy_rec.specs.declared.events.Kind.{Kind}
use Rattle.lazy_rec.specs.declared.events.Reply.{Reply}
use Rattle.lazy_rec.specs.Kinds.{belongs, same_kind}
use Rattle.lazy_rec.specs.Named.{sort_of, same_sort}
use Rattle.heap_store.specs.declared.versions.Version.{Version}
use Rattle.heap_store.specs.declared.jobs.EventJob.{EventJob}
use Rattle.heap_store.specs.declared.jobs.Stage.{Stage}
use Rattle.heap_store.specs.declared.jobs.Stage.TheVariants as stages
use Rattle.heap_store.specs.World.{World, recs, holds}
use Rattle.heap_store.specs.Growth.{Grows}
use Rattle.heap_store.specs.Legal.{in_order}
use Rattle.heap_store.specs.Lawful.{IsLawful, is_of_level, keeps_keys}
use Rattle.heap_store.specs.Stages.{name_of, has_stage}
use Rattle.heap_store.specs.Jobs.{IsVersion, IsJob, StageWell, is_part, is_list_part, list_between, outcome, IsNextStage, IsEnd}
use Rattle.heap_store.proofs.GrowthLaws.{at_true, same_up, at_up}
use Rattle.heap_store.proofs.NameLaws.{IsPublished}
use Rattle.heap_store.proofs.LawfulLaws.{lawful_names}
use Rattle.heap_store.proofs.MeaningLaws.{means_kept}
use Rattle.heap_store.proofs.RecordLaws.{keeps_keys_kept, level_kept}
use Rattle.heap_store.proofs.RowLaws.{has_root_up}

pub version_grows : {a b : World} → IsLawful a → Grows a b → (v : Version) → IsVersion a v → IsVersion b v
version_grows {a} {b} law x v h =
    let k = at_true _ (recs a v.root.0) h.root in
    record {
      value = at_up _ _ (recs a v.root.0) (recs b v.root.0) (x.records v.root.0) (λ r. same_up) h.value;
      root = has_root_up a b (lawful_names law) x v.kind v.root.0 h.root;
      size = h.size ∙ ap length (means_kept (recs a) (recs b) (lawful_names law) x.records v.root.0 (k.0, k.1));
      most = h.most;
    }

part_grows : {a b : World} → IsLawful a → Grows a b → (k : Kind) (p : ℕ) → is_part a k p ≡ true → is_part b k p ≡ true
part_grows {a} {b} law x k p h =
    let m = and_parts (holds (recs a) p (λ r. same_sort (sort_of r) sorts.Finger) && is_of_level (recs a) p 0) (keeps_keys k (recs a) p) h in
    let n = and_parts (holds (recs a) p (λ r. same_sort (sort_of r) sorts.Finger)) (is_of_level (recs a) p 0) m.0 in
    let t = at_true _ (recs a p) n.0 in
    let is : IsPublished (recs a) p = (t.0, t.1) in
    and_from (holds (recs b) p (λ r. same_sort (sort_of r) sorts.Finger) && is_of_level (recs b) p 0) (keeps_keys k (recs b) p)
    (and_from (holds (recs b) p (λ r. same_sort (sort_of r) sorts.Finger)) (is_of_level (recs b) p 0) (rw (x.records p t.0 t.1) t.2) (rw (ap (λ (f : ℕ → Bool). f 0) (level_kept (recs a) (recs b) (lawful_names law) x.records p is)) at n.1))
    (rw (keeps_keys_kept (recs a) (recs b) (lawful_names law) x.records k p is) at m.1)

part_there : (a : World) (k : Kind) (p : ℕ) → is_part a k p ≡ true → IsPublished (recs a) p
part_there a k p h =
    let m = and_parts (holds (recs a) p (λ r. same_sort (sort_of r) sorts.Finger) && is_of_level (recs a) p 0) (keeps_keys k (recs a) p) h in
    let n = and_parts (holds (recs a) p (λ r. same_sort (sort_of r) sorts.Finger)) (is_of_level (recs a) p 0) m.0 in
    let t = at_true _ (recs a p) n.0 in
    (t.0, t.1)

-- what a job's versions mean stays
outcome_grows : {a b : World} → IsLawful a → Grows a b → (job : EventJob) → IsJob a job → outcome a job ≡ outcome b job
outcome_grows {a} {b} law x job h =
    let base = at_true _ (recs a job.base.root.0) h.base.root in
    let other = at_true _ (recs a job.other.root.0) h.other.root in
    let e = means_kept (recs a) (recs b) (lawful_names law) x.records job.base.root.0 (base.0, base.1) in
    let f = means_kept (recs a) (recs b) (lawful_names law) x.records job.other.root.0 (other.0, other.1) in
    rw (e, f) refl

list_grows : {a b : World} → IsLawful a → Grows a b → (k : Kind) (listed : Bool) (p : ℕ) → is_list_part a k listed p ≡ true → (is_list_part b k listed p ≡ true) × (list_between a listed p ≡ list_between b listed p)
list_grows law x k false p h = (refl, refl)
list_grows {a} {b} law x k true p h =
    let m = and_parts (holds (recs a) p (λ r. same_sort (sort_of r) sorts.Digit) && is_of_level (recs a) p 0) (keeps_keys k (recs a) p) h in
    let n = and_parts (holds (recs a) p (λ r. same_sort (sort_of r) sorts.Digit)) (is_of_level (recs a) p 0) m.0 in
    let t = at_true _ (recs a p) n.0 in
    let is : IsPublished (recs a) p = (t.0, t.1) in (
      and_from (holds (recs b) p (λ r. same_sort (sort_of r) sorts.Digit) && is_of_level (recs b) p 0) (keeps_keys k (recs b) p)
          (and_from (holds (recs b) p (λ r. same_sort (sort_of r) sorts.Digit)) (is_of_level (recs b) p 0) (rw (x.records p t.0 t.1) t.2) (rw (ap (λ (f : ℕ → Bool). f 0) (level_kept (recs a) (recs b) (lawful_names law) x.records p is)) at n.1))
          (rw (keeps_keys_kept (recs a) (recs b) (lawful_names law) x.records k p is) at m.1),
      means_kept (recs a) (recs b) (lawful_names law) x.records p is,
    )

together : {l l' m m' r r' : List ℕ} → l ≡ l' → m ≡ m' → r ≡ r' → l ++ m ++ r ≡ l' ++ m' ++ r'
together e f g = rw (e, f, g) refl

stage_grows : {a b : World} → IsLawful a → Grows a b → (job : EventJob) → IsJob a job → StageWell b job job.stage
stage_grows {a} {b} law x job h = by job.stage h.stage
  where
    by : (s : Stage) → StageWell a job s → StageWell b job s
    by stages.Start k = tt
    by (stages.HeapPaid top) k = (let t = at_true _ (recs a job.base.root.0) k in let u = at_true _ (recs a top.0) t.2 in rw (x.records job.base.root.0 t.0 t.1, x.records top.0 u.0 u.1) u.2)
    by (stages.Parts left right list listed) k =
        let e = outcome_grows law x job h in
        let kind = job.base.kind in
        let p = and_parts (is_part a kind left.0 && is_part a kind right.0) (is_list_part a kind listed list.0) k.0 in
        let q = and_parts (is_part a kind left.0) (is_part a kind right.0) p.0 in
        let l = means_kept (recs a) (recs b) (lawful_names law) x.records left.0 (part_there a kind left.0 q.0) in
        let r = means_kept (recs a) (recs b) (lawful_names law) x.records right.0 (part_there a kind right.0 q.1) in
        let m = list_grows law x kind listed list.0 p.1 in (
          and_from (is_part b kind left.0 && is_part b kind right.0) (is_list_part b kind listed list.0) (and_from (is_part b kind left.0) (is_part b kind right.0) (part_grows law x kind left.0 q.0) (part_grows law x kind right.0 q.1)) m.0,
          ap (λ (t : List ℕ × Reply). t.1) (sym e) ∙ k.1,
          ap (λ (t : List ℕ × Reply). t.0) (sym e) ∙ (k.2 ∙ ap (in_order kind) (together l m.1 r)),
        )
    by (stages.Root root reply) k =
        let e = outcome_grows law x job h in
        let is = part_there a job.base.kind root.0 k.0 in
        let m = means_kept (recs a) (recs b) (lawful_names law) x.records root.0 is in
        (part_grows law x job.base.kind root.0 k.0, k.1 ∙ ap (λ (t : List ℕ × Reply). t.1) e, ap (in_order job.base.kind) (sym m) ∙ (k.2 ∙ ap (λ (t : List ℕ × Reply). t.0) e))

pub job_grows : {a b : World} → IsLawful a → Grows a b → (job : EventJob) → IsJob a job → IsJob b job
job_grows law x job h = record {
  op = h.op;
  kinds = h.kinds;
  base = version_grows law x job.base h.base;
  other = version_grows law x job.other h.other;
  has = h.has;
  stage = stage_grows law x job h;
}

pub next_job : {w : World} (job next : EventJob) → IsJob w job → IsNextStage w job next → IsJob w next
next_job {w} job next j n = record {
  op = ap (λ (t : EventJob). belongs t.base.kind t.op) n.same ∙ j.op;
  kinds = ap (λ (t : EventJob). same_kind t.base.kind t.other.kind) n.same ∙ j.kinds;
  base = subst (λ (t : EventJob). IsVersion w t.base) (sym n.same) j.base;
  other = subst (λ (t : EventJob). IsVersion w t.other) (sym n.same) j.other;
  has = ap (λ (t : EventJob). has_stage t.base.kind t.op (name_of next.stage)) n.same ∙ n.has;
  stage = n.facts;
}

-- the end of a later stage is that of the event
pub end_of_first : {w : World} (first job : EventJob) (root size : ℕ) (reply : Reply) → job ≡ record first { stage = job.stage } → IsEnd w job root size reply → IsEnd w first root size reply
end_of_first {w} first job root size reply same e =
    let k : IsEnd w (record first { stage = job.stage }) root size reply = subst (λ (t : EventJob). IsEnd w t root size reply) same e in
    record { root_is = k.root_is; value = k.value; means = k.means; size_is = k.size_is; reply_is = k.reply_is; looked = k.looked }
