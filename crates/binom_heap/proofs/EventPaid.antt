-- The stages of what looks at the trees: a top that owes nothing, and behind it the least item.
use Rattle.std.proofs.Common.{◌≡◌, ℕ, ◌+◌, ◌<◌, eqb, refl, sym, ap, ◌∙◌, arith, true, ◌&&◌, ◌||◌, Some, [], length}
use Rattle.std.specs.Prelude.{slice_get}
use Rattle.std.proofs.lemmas.List.{nil_from_length}
use Rattle.std.proofs.lemmas.Bool.{true≢false, and_parts, and_from, eqb-true, eq-eqb, ne_eqb, or_left, cond-true, cond-false}
use Rattle.lazy_rec.specs.declared.places.Ref.{Ref}
use Rattle.lazy_rec.specs.declared.records.Rec.{Rec}
use Rattle.lazy_rec.specs.declared.records.Rec.TheVariants.{HeapTop}
use Rattle.lazy_rec.specs.declared.events.Kind.TheVariants as kinds
use Rattle.lazy_rec.specs.declared.events.Op.{Op}
use Rattle.lazy_rec.specs.declared.events.Op.TheVariants as ops
use Rattle.lazy_rec.specs.declared.events.Reply.{Reply}
use Rattle.lazy_rec.specs.declared.events.Reply.TheVariants as replies
use Rattle.lazy_rec.specs.Numbers.{zeros}
use Rattle.lazy_rec.specs.Meaning.{means}
use Rattle.lazy_rec.specs.Plain.{told}
use Rattle.lazy_rec.specs.Named.{is_pending}
use Rattle.heap_store.specs.declared.jobs.Stage.TheVariants.{Start, HeapPaid}
use Rattle.heap_store.specs.declared.jobs.Cursor.{Cursor}
use Rattle.heap_store.specs.declared.jobs.EventJob.{EventJob}
use Rattle.heap_store.specs.Span.{Span}
use Rattle.heap_store.specs.LookedAt.{looked_at, has_looked}
use Rattle.lazy_rec.specs.Due.{may_force}
use Rattle.heap_store.specs.World.{World, recs, holds, is_value}
use Rattle.heap_store.specs.Values.{value_place}
use Rattle.heap_store.specs.Forest.{Forest, forest}
use Rattle.heap_store.proofs.LawfulLaws.{lawful_names}
use Rattle.heap_store.proofs.MadeLaws.{forest_kept}
use Rattle.binom_heap.proofs.ListValues.{list_there, known_place, value_place_up}
use Rattle.heap_store.specs.Lawful.{IsLawful, is_root}
use Rattle.heap_store.specs.View.{View}
use Rattle.heap_store.specs.Budget.{is_funded}
use Rattle.heap_store.specs.Stages.{due_now, has_stage, at_heap_paid}
use Rattle.heap_store.specs.Jobs.{IsJob, IsEventNeed, IsEventBuildable, IsNextStage, IsEnd, StageWell, is_paid_top, may_seek, may_stage_seek, other_seeks}
use Rattle.heap_store.proofs.GrowthLaws.{at_true, is_value_up}
use Rattle.heap_store.proofs.ReadLaws.{holds_at, holds_from}
use Rattle.heap_store.proofs.ShowLaws.{one_value}
use Rattle.heap_store.proofs.ValueLaws.{Waits}
use Rattle.binom_heap.specs.declared.heap.Top.{Top}
use Rattle.binom_heap.specs.Work.{is_heap_work}
use Rattle.binom_heap.specs.Heap.{top_record, start_places, paid_places, looks_at_trees, is_known_list, IsNewTop, IsReadyEvent, PointsAt, IsReadyWith}
use Rattle.binom_heap.specs.Removal.{Least, least_of, StandsAt}
use Rattle.binom_heap.proofs.TreeLaws.{trees_there}
use Rattle.binom_heap.proofs.Lesser.{stands_up}
use Rattle.binom_heap.proofs.WorkLaws.{list_work}
use Rattle.binom_heap.proofs.Tops.{old_top, new_top}
use Rattle.binom_heap.proofs.TopGains.{paid_list}
use Rattle.binom_heap.proofs.Melds.{list_raise}
use Rattle.binom_heap.proofs.EventTops.{heap_end}

-- ---- the first stage

pub paid_new : {w : World} → IsLawful w → (root : ℕ) (t : Top) → recs w root ≡ Some (top_record t) → (place : ℕ) → root < place → IsNewTop w (record { list = t.list; size = t.size; owed = 0 }) place
paid_new law root t e place low = new_top (list_raise (omega (arith, low)) (old_top law root t e).list) (omega arith) (omega arith)

pub pay_due : (job : EventJob) → job.base.kind ≡ kinds.Heap → job.stage ≡ Start → looks_at_trees job.op ≡ true → due_now job ≡ zeros job.base.size
pay_due job kind stage look = by job.op refl look
  where
    by : (op : Op) → job.op ≡ op → looks_at_trees op ≡ true → due_now job ≡ zeros job.base.size
    by ops.Min e h = rw (kind, stage, e) refl
    by ops.Delmin e h = rw (kind, stage, e) refl
    by _ e h = absurd (true≢false (sym h))

pub pay_nodes : (job : EventJob) → looks_at_trees job.op ≡ true → (job.base.size ≡ 0 → ⊥) → start_places job.op job.base.size job.other.size ≡ 1
pay_nodes job look some = by job.op look
  where
    by : (op : Op) → looks_at_trees op ≡ true → start_places op job.base.size job.other.size ≡ 1
    by ops.Min h = cond-false (eqb job.base.size 0) 0 1 (ne_eqb job.base.size 0 some)
    by ops.Delmin h = cond-false (eqb job.base.size 0) 0 1 (ne_eqb job.base.size 0 some)
    by _ h = absurd (true≢false (sym h))

pub empty_nodes : (job : EventJob) → looks_at_trees job.op ≡ true → job.base.size ≡ 0 → start_places job.op job.base.size job.other.size ≡ 0
empty_nodes job look none = by job.op look
  where
    by : (op : Op) → looks_at_trees op ≡ true → start_places op job.base.size job.other.size ≡ 0
    by ops.Min h = cond-true (eqb job.base.size 0) 0 1 (eq-eqb job.base.size 0 none)
    by ops.Delmin h = cond-true (eqb job.base.size 0) 0 1 (eq-eqb job.base.size 0 none)
    by _ h = absurd (true≢false (sym h))

-- an empty heap replies so
pub empty_end : {w : World} → IsLawful w → (job : EventJob) → (t : Top) → recs w job.base.root.0 ≡ Some (top_record t) → job.base.size ≡ t.size → job.base.kind ≡ kinds.Heap → job.other.kind ≡ kinds.Heap → looks_at_trees job.op ≡ true → job.base.size ≡ 0 → IsEnd w job job.base.root.0 job.base.size replies.Empty
empty_end {w} law job t e size kind other look none = by job.op refl look
  where
    m : means (recs w) job.base.root.0 ≡ []
    m = let o = old_top law job.base.root.0 t e in o.means_are ∙ nil_from_length (means (recs w) t.list.0) (omega (arith, o.list.size_is, size, none))

    there : holds (recs w) job.base.root.0 (is_root (recs w) kinds.Heap job.base.root.0) ≡ true
    there = rw e refl

    by : (op : Op) → job.op ≡ op → looks_at_trees op ≡ true → IsEnd w job job.base.root.0 job.base.size replies.Empty
    by ops.Min e h = heap_end job kind other ops.Min e job.base.root there job.base.size replies.Empty [] m (rw m refl) none refl
    by ops.Delmin e h = heap_end job kind other ops.Delmin e job.base.root there job.base.size replies.Empty [] m (rw m refl) none refl
    by _ e h = absurd (true≢false (sym h))

-- the stage of a top that owes nothing
pub paid_stage : {w : World} (job : EventJob) → job.base.kind ≡ kinds.Heap → looks_at_trees job.op ≡ true → job.stage ≡ Start → (t : Top) (top : Ref) → recs w job.base.root.0 ≡ Some (top_record t) → recs w top.0 ≡ Some (HeapTop t.list t.size 0) → IsNextStage w job (record job { stage = HeapPaid top })
paid_stage {w} job kind look stage t top e f = record {
  same = refl;
  has = by job.op look;
  later = rw stage (omega arith);
  facts = rw (e, f) (and_from (eqb t.list.0 t.list.0 && eqb t.size t.size) true (and_from (eqb t.list.0 t.list.0) (eqb t.size t.size) (eq-eqb t.list.0 t.list.0 refl) (eq-eqb t.size t.size refl)) refl);
}
  where
    by : (op : Op) → looks_at_trees op ≡ true → has_stage job.base.kind op at_heap_paid ≡ true
    by ops.Min h = rw kind refl
    by ops.Delmin h = rw kind refl
    by _ h = absurd (true≢false (sym h))

-- ---- the second stage

-- the fields of a paid top
pub record PaidTop (w : World) (root top : ℕ) : Type 0 where
  pub base : Top
  pub base_here : recs w root ≡ Some (top_record base)
  pub list : Ref
  pub same : list.0 ≡ base.list.0
  pub here : recs w top ≡ Some (HeapTop list base.size 0)

pub paid_top : {w : World} (job : EventJob) (top : Ref) → StageWell w job (HeapPaid top) → PaidTop w job.base.root.0 top.0
paid_top {w} job top s =
    let b = at_true (λ r. holds (recs w) top.0 (is_paid_top r)) (recs w job.base.root.0) s in
    let k = at_true (is_paid_top b.0) (recs w top.0) b.2 in
    by b.0 k.0 b.1 k.1 k.2
  where
    by : (q r : Rec) → recs w job.base.root.0 ≡ Some q → recs w top.0 ≡ Some r → is_paid_top q r ≡ true → PaidTop w job.base.root.0 top.0
    by (HeapTop list size owed) (HeapTop list' size' owed') e f h =
        let p = and_parts (eqb list.0 list'.0 && eqb size size') (eqb owed' 0) h in
        let q = and_parts (eqb list.0 list'.0) (eqb size size') p.0 in
        let a = eqb-true size size' q.1 in
        let b = eqb-true owed' 0 p.1 in
        record { base = record { list = list; size = size; owed = owed }; base_here = e; list = list'; same = sym (eqb-true list.0 list'.0 q.0); here = f ∙ rw (a, b) refl }
    by (HeapTop list size owed) _ e f h = absurd (true≢false (sym h))
    by _ r e f h = absurd (true≢false (sym h))

-- a list of it that isn't done is a need, and paid for
pub paid_need : {w : World} → IsLawful w → (job : EventJob) → job.base.kind ≡ kinds.Heap → looks_at_trees job.op ≡ true → (top : Ref) (k : PaidTop w job.base.root.0 top.0) → Waits w k.list.0 → IsEventNeed is_heap_work w job k.list.0
paid_need {w} law job kind look top k waits =
    let o = old_top law top.0 (record { list = k.list; size = k.base.size; owed = 0 }) k.here in
    let r = o.list.named.1 in
    let f = o.list.named.2 in
    let pend = holds_at (recs w) k.list.0 is_pending r waits.pending f in
    let work = list_work r o.list.named.3 pend in
    record {
      work = holds_from (recs w) k.list.0 (λ z. is_pending z && is_heap_work z) r f (and_from (is_pending r) (is_heap_work r) pend work);
      sought = sought job.op refl look;
      not_done = waits.undone;
      forces = forces job.op look;
      funded = holds_from (recs w) k.list.0 (is_funded w k.list.0) r f (paid_list law top.0 k.list k.base.size r k.here f work);
    }
  where
    sought : (op : Op) → job.op ≡ op → looks_at_trees op ≡ true → ((holds (recs w) job.base.root.0 (may_seek w job.op job.base.root.0 k.list.0) || other_seeks w job k.list.0) || may_stage_seek w k.list.0 job.stage) ≡ true
    sought ops.Min e h = or_left _ (may_stage_seek w k.list.0 job.stage) (or_left (holds (recs w) job.base.root.0 (may_seek w job.op job.base.root.0 k.list.0)) _ (let b = k.base_here in rw (b, e) (eq-eqb k.base.list.0 k.list.0 (sym k.same))))
    sought ops.Delmin e h = or_left _ (may_stage_seek w k.list.0 job.stage) (or_left (holds (recs w) job.base.root.0 (may_seek w job.op job.base.root.0 k.list.0)) _ (let b = k.base_here in rw (b, e) (eq-eqb k.base.list.0 k.list.0 (sym k.same))))
    sought _ e h = absurd (true≢false (sym h))

    forces : (op : Op) → looks_at_trees op ≡ true → may_force job.base.kind op ≡ true
    forces ops.Min h = rw kind refl
    forces ops.Delmin h = rw kind refl
    forces _ h = absurd (true≢false (sym h))

-- what a min replies: the first of the items in rising order, if there is one
pub min_end : {w : World} → IsLawful w → (job : EventJob) → job.base.kind ≡ kinds.Heap → job.other.kind ≡ kinds.Heap → job.op ≡ ops.Min → (top : Ref) (k : PaidTop w job.base.root.0 top.0) → job.base.size ≡ k.base.size → is_value w k.list.0 ≡ true → (reply : Reply) → reply ≡ told (slice_get (means (recs w) k.list.0) 0) → IsEnd w job top.0 job.base.size reply
min_end {w} law job kind other op top k size known reply reply_is =
    let base = old_top law job.base.root.0 k.base k.base_here in
    let mine = old_top law top.0 (record { list = k.list; size = k.base.size; owed = 0 }) k.here in
    let root : means (recs w) job.base.root.0 ≡ means (recs w) k.list.0 = base.means_are ∙ ap (means (recs w)) (sym k.same) in
    let f = k.here in
    let b = k.base_here in
    let s = k.same in
    heap_end job kind other ops.Min op top (rw f refl) job.base.size reply (means (recs w) k.list.0) mine.means_are (rw (root, reply_is) refl) (size ∙ mine.list.size_is) (looked reply (rw b (rw (← s) known)))
  where
    looked : (reply : Reply) → holds (recs w) job.base.root.0 (looked_at w ops.Min true) ≡ true → has_looked w ops.Min reply job.base.root.0 job.other.size ≡ true
    looked replies.Ok h = h
    looked (replies.Number _) h = h
    looked _ h = refl

-- what a build finds at the second stage: the paid top with its list done, in a place below the run, and the run's places
pub record PaidBase (v : View) (job : EventJob) (run : Span) (top : Ref) : Type 0 where
  pub paid : PaidTop v.seen job.base.root.0 top.0
  pub known : is_value v.seen paid.list.0 ≡ true
  pub size : job.base.size ≡ paid.base.size
  pub room : run.next + paid_places job.op job.base.size (forest (recs v.seen) top.0) ≡ run.end
  pub low : (place : ℕ) → value_place v.seen paid.list.0 ≡ Some place → place < run.next

pub paid_base : {v : View} {job : EventJob} {run : Span} → (b : IsEventBuildable IsReadyEvent v job run) → job.base.kind ≡ kinds.Heap → (top : Ref) → job.stage ≡ HeapPaid top → PaidBase v job run top
paid_base {v} {job} {run} b kind top stage =
    let well : StageWell b.base job (HeapPaid top) = rw stage at b.base_job.stage in
    let ready : (holds (recs b.base) top.0 (is_known_list b.base) ≡ true) × (b.nodes ≡ paid_places job.op job.base.size (forest (recs b.base) top.0)) = rw stage at b.base_ready.ready in
    let k = paid_top {w = b.base} job top well in
    let x = b.base_grows in
    let known = holds_at (recs b.base) top.0 (is_known_list b.base) (HeapTop k.list k.base.size 0) ready.0 k.here in
    let o = old_top b.base_lawful job.base.root.0 k.base k.base_here in
    let mine = old_top b.base_lawful top.0 (record { list = k.list; size = k.base.size; owed = 0 }) k.here in
    let there = list_there mine.list in
    let kept = forest_kept (recs b.base) (recs v.seen) (lawful_names b.base_lawful) x.records top.0 (HeapTop k.list k.base.size 0, k.here) in
    let nodes : b.nodes ≡ paid_places job.op job.base.size (forest (recs v.seen) top.0) = ready.1 ∙ ap (paid_places job.op job.base.size) kept in
    record {
      paid = record { base = k.base; base_here = x.records _ _ k.base_here; list = k.list; same = k.same; here = x.records _ _ k.here };
      known = is_value_up b.base v.seen x k.list.0 known;
      size = b.base_job.base.size ∙ (ap length o.means_are ∙ sym o.list.size_is);
      room = omega (arith, b.size, nodes);
      low = λ place at. (
          let q = known_place b.base_lawful k.list.0 there known in
          let same : q.0 ≡ place = one_value q.0 place (sym (value_place_up x k.list.0 q.0 there q.1) ∙ at) in
          omega (arith, same, b.above q.0 q.2.0 q.2.1));
    }

-- the tree at which the cursor points, in a place below the run
pub record IsTold (v : View) (run : Span) (f : Forest) (l : Least) (cursor : Cursor) : Type 0 where
  pub stands : StandsAt v.seen f l cursor.place.0 cursor.passed
  pub low : cursor.place.0 < run.next

pub told_least : {v : View} {job : EventJob} {run : Span} {cursor : Cursor} → (b : IsEventBuildable (IsReadyWith cursor) v job run) → job.op ≡ ops.Delmin → (top : Ref) → job.stage ≡ HeapPaid top → (l : Least) → least_of (forest (recs v.seen) top.0) ≡ Some l → IsTold v run (forest (recs v.seen) top.0) l cursor
told_least {v} {job} {run} {cursor} b op top stage l is =
    let well : StageWell b.base job (HeapPaid top) = rw stage at b.base_job.stage in
    let told : PointsAt b.base (forest (recs b.base) top.0) (least_of (forest (recs b.base) top.0)) cursor = rw (op, stage) at b.base_ready.least in
    let k = paid_top {w = b.base} job top well in
    let x = b.base_grows in
    let kept = forest_kept (recs b.base) (recs v.seen) (lawful_names b.base_lawful) x.records top.0 (HeapTop k.list k.base.size 0, k.here) in
    let here : least_of (forest (recs b.base) top.0) ≡ Some l = ap least_of kept ∙ is in
    let s : StandsAt b.base (forest (recs b.base) top.0) l cursor.place.0 cursor.passed = rw here at told in
    let there = trees_there (recs b.base) cursor.place.0 s.trees in
    record { stands = stands_up b.base_lawful x kept s; low = b.above cursor.place.0 there.0 there.1 }

-- a min makes nothing more
pub no_removal : {v : View} {job : EventJob} {run : Span} {top : Ref} → PaidBase v job run top → job.op ≡ ops.Min → run.next ≡ run.end
no_removal {v} {job} {run} {top} k op = let r : run.next + 0 ≡ run.end = rw op at k.room in omega (arith, r)

-- of a base as many items as its paid top says
pub paid_size : {w : World} → IsLawful w → (job : EventJob) → IsJob w job → (top : ℕ) (k : PaidTop w job.base.root.0 top) → job.base.size ≡ k.base.size
paid_size law job j top k = let o = old_top law job.base.root.0 k.base k.base_here in j.base.size ∙ (ap length o.means_are ∙ sym o.list.size_is)

-- the same of a job that a prepare looks at
pub paid_job : {w : World} (job : EventJob) → IsJob w job → (top : Ref) → job.stage ≡ HeapPaid top → PaidTop w job.base.root.0 top.0
paid_job {w} job j top stage = paid_top {w = w} job top (rw stage at j.stage)

-- one that is at its second stage looks at the trees
pub paid_looks : {w : World} (job : EventJob) → IsJob w job → job.base.kind ≡ kinds.Heap → (top : Ref) → job.stage ≡ HeapPaid top → looks_at_trees job.op ≡ true
paid_looks {w} job j kind top stage = by job.op (rw (kind, stage) at j.has)
  where
    by : (op : Op) → has_stage kinds.Heap op at_heap_paid ≡ true → looks_at_trees op ≡ true
    by ops.Min h = refl
    by ops.Delmin h = refl
    by _ h = absurd (true≢false (sym h))

-- the list of a top that was read
pub read_list : (w : World) (top : ℕ) (t : Top) (list : Ref) (size : ℕ) → recs w top ≡ Some (top_record t) → recs w top ≡ Some (HeapTop list size 0) → t.list ≡ list
read_list w top t list size e f = ap back (one_value _ _ (sym e ∙ f))
  where
    back : Rec → Ref
    back (HeapTop l _ _) = l
    back _ = list

pub read_size : (w : World) (top : ℕ) (t : Top) (list : Ref) (size : ℕ) → recs w top ≡ Some (top_record t) → recs w top ≡ Some (HeapTop list size 0) → t.size ≡ size
read_size w top t list size e f = ap back (one_value _ _ (sym e ∙ f))
  where
    back : Rec → ℕ
    back (HeapTop _ n _) = n
    back _ = size
