-- What a stage of an operation finds: its tops, its due and its places.
use Rattle.std.proofs.Common.{◌≡◌, ℕ, ◌+◌, ◌<◌, ◌≤◌, eqb, leb, refl, sym, ap, ◌∙◌, arith, subst, Bool, true, false, cond, ◌||◌, Some, List, length}
use Rattle.std.proofs.lemmas.Bool.{true≢false, eq-eqb}
use Rattle.lazy_rec.specs.declared.places.Ref.{Ref}
use Rattle.lazy_rec.specs.declared.events.Kind.TheVariants as kinds
use Rattle.lazy_rec.specs.declared.events.Op.{Op}
use Rattle.lazy_rec.specs.declared.events.Op.TheVariants as ops
use Rattle.lazy_rec.specs.declared.events.Reply.{Reply}
use Rattle.lazy_rec.specs.Kinds.{belongs}
use Rattle.lazy_rec.specs.Meaning.{means}
use Rattle.lazy_rec.specs.Plain.{effect}
use Rattle.lazy_rec.proofs.NumberLaws.{same_kind-eq}
use Rattle.heap_store.specs.declared.versions.Version.{Version}
use Rattle.heap_store.specs.declared.jobs.Stage.{Stage}
use Rattle.heap_store.specs.declared.jobs.Stage.TheVariants.{Start, HeapPaid, Parts, Root}
use Rattle.heap_store.specs.declared.jobs.Cursor.{Cursor}
use Rattle.heap_store.specs.declared.jobs.EventJob.{EventJob}
use Rattle.heap_store.specs.declared.jobs.After.{After}
use Rattle.heap_store.specs.declared.jobs.After.TheVariants.{End}
use Rattle.heap_store.specs.Span.{Span}
use Rattle.heap_store.specs.World.{World, recs, holds}
use Rattle.heap_store.specs.Legal.{in_order}
use Rattle.heap_store.specs.Forest.{forest}
use Rattle.heap_store.specs.Lawful.{is_root}
use Rattle.heap_store.specs.LookedAt.{has_looked}
use Rattle.heap_store.specs.Stages.{at_start, name_of, has_stage, stage_places, places_now}
use Rattle.heap_store.specs.View.{View, Quiet}
use Rattle.heap_store.specs.Jobs.{IsJob, IsVersion, IsEnd, IsEventBuildable, IsEventBuilt, Filled, outcome}
use Rattle.heap_store.proofs.GrowthLaws.{at_true}
use Rattle.heap_store.proofs.ReadLaws.{rec_back}
use Rattle.heap_store.proofs.Steps.{Filled-none, Filled-quiet}
use Rattle.binom_heap.specs.declared.heap.Top.{Top}
use Rattle.binom_heap.specs.Heap.{top_record, start_places, paid_places, looks_at_trees, is_known_list, ends_at, IsReadyEvent, PointsAt, TellsLeastAt, IsReadyWith}
use Rattle.binom_heap.specs.Removal.{least_of}
use Rattle.binom_heap.proofs.Tops.{old_top, top_of_root}

-- ---- operations and stages

-- the operations of a heap
pub only_size : (op : Op) → belongs kinds.Heap op ≡ true → (op ≡ ops.Insert → ⊥) → (op ≡ ops.Meld → ⊥) → (op ≡ ops.Min → ⊥) → (op ≡ ops.Delmin → ⊥) → op ≡ ops.Size
only_size ops.Size h a b c d = refl
only_size ops.Insert h a b c d = absurd (a refl)
only_size ops.Meld h a b c d = absurd (b refl)
only_size ops.Min h a b c d = absurd (c refl)
only_size ops.Delmin h a b c d = absurd (d refl)
only_size _ h a b c d = absurd (true≢false (sym h))

-- what has no second stage is at the start
pub at_first : (op : Op) (s : Stage) → has_stage kinds.Heap op (name_of s) ≡ true → looks_at_trees op ≡ false → s ≡ Start
at_first op Start h other = refl
at_first ops.Min (HeapPaid top) h other = absurd (true≢false other)
at_first ops.Delmin (HeapPaid top) h other = absurd (true≢false other)
at_first _ (HeapPaid top) h other = absurd (true≢false (sym h))
at_first op (Parts _ _ _ _) h other = absurd (true≢false (sym h))
at_first op (Root _ _) h other = absurd (true≢false (sym h))

-- a stage that isn't the second one is the first
pub start_is : (op : Op) (s : Stage) → has_stage kinds.Heap op (name_of s) ≡ true → ((top : Ref) → s ≡ HeapPaid top → ⊥) → s ≡ Start
start_is op Start h other = refl
start_is op (HeapPaid top) h other = absurd (other top refl)
start_is op (Parts _ _ _ _) h other = absurd (true≢false (sym h))
start_is op (Root _ _) h other = absurd (true≢false (sym h))

-- no first stage takes more places than it may
within_one : (n : ℕ) → cond (eqb n 0) 0 1 ≤ 1
within_one n = go (eqb n 0)
  where
    go : (b : Bool) → cond b 0 1 ≤ 1
    go true = omega arith
    go false = omega arith

pub start_most : (job : EventJob) → job.base.kind ≡ kinds.Heap → job.stage ≡ Start → start_places job.op job.base.size job.other.size ≤ places_now job
start_most job kind stage = rw (kind, stage) (by job.op)
  where
    by : (op : Op) → start_places op job.base.size job.other.size ≤ stage_places kinds.Heap op job.base.size job.other.size at_start
    by ops.Insert = go (eqb job.base.size 2147483647)
      where
        go : (b : Bool) → cond b 0 2 ≤ 2
        go true = omega arith
        go false = omega arith
    by ops.Meld = go (leb (job.base.size + job.other.size) 2147483647) (eqb job.base.size 0 || eqb job.other.size 0)
      where
        go : (b c : Bool) → cond b (cond c 1 2) 0 ≤ 2
        go true true = omega arith
        go true false = omega arith
        go false c = omega arith
    by ops.Min = within_one job.base.size
    by ops.Delmin = within_one job.base.size
    by _ = omega arith

-- ---- tops of versions

pub other_kind : {w : World} (job : EventJob) → IsJob w job → job.base.kind ≡ kinds.Heap → job.other.kind ≡ kinds.Heap
other_kind job j kind = sym (same_kind-eq job.base.kind job.other.kind j.kinds) ∙ kind

pub version_root : {w : World} (v : Version) → IsVersion w v → v.kind ≡ kinds.Heap → holds (recs w) v.root.0 (is_root (recs w) kinds.Heap v.root.0) ≡ true
version_root {w} v is kind = rw kind at is.root

-- what a build finds of one of its versions
pub record BuildTop (w : World) (v : Version) (run : Span) (t : Top) : Type 0 where
  pub there : recs w v.root.0 ≡ Some (top_record t)
  pub size : v.size ≡ t.size
  pub low : v.root.0 < run.next
  pub most : t.size ≤ 2147483647

pub build_root : {v : View} {job : EventJob} {run : Span} → (b : IsEventBuildable IsReadyEvent v job run) → (ver : Version) → IsVersion b.base ver → ver.kind ≡ kinds.Heap → holds (recs v.seen) ver.root.0 (is_root (recs v.seen) kinds.Heap ver.root.0) ≡ true
build_root {v} {job} {run} b ver is kind =
    let t = at_true (is_root (recs b.base) kinds.Heap ver.root.0) (recs b.base ver.root.0) (version_root ver is kind) in
    rw (b.base_grows.records ver.root.0 t.0 t.1) t.2

pub build_top : {v : View} {job : EventJob} {run : Span} → (b : IsEventBuildable IsReadyEvent v job run) → (ver : Version) → IsVersion b.base ver → ver.kind ≡ kinds.Heap → (t : Top) → recs v.seen ver.root.0 ≡ Some (top_record t) → BuildTop v.seen ver run t
build_top {v} {job} {run} b ver is kind t e =
    let r = at_true (is_root (recs b.base) kinds.Heap ver.root.0) (recs b.base ver.root.0) (version_root ver is kind) in
    let here = rec_back b.base_grows.records ver.root.0 (top_record t) (r.0, r.1) e in
    let o = old_top b.base_lawful ver.root.0 t here in
    let size : ver.size ≡ t.size = is.size ∙ (ap length o.means_are ∙ sym o.list.size_is) in
    record { there = e; size = size; low = b.above ver.root.0 (top_record t) here; most = omega (arith, o.list.fits) }

-- the places of the first stage
pub start_nodes : {v : View} {job : EventJob} {run : Span} → (b : IsEventBuildable IsReadyEvent v job run) → job.stage ≡ Start → b.nodes ≡ start_places job.op job.base.size job.other.size
start_nodes {v} {job} b stage = rw stage at b.base_ready.ready

-- ---- ends

pub heap_end : {w : World} (job : EventJob) → job.base.kind ≡ kinds.Heap → job.other.kind ≡ kinds.Heap → (op : Op) → job.op ≡ op → (root : Ref) → holds (recs w) root.0 (is_root (recs w) kinds.Heap root.0) ≡ true → (size : ℕ) (reply : Reply) (made : List ℕ)
    → means (recs w) root.0 ≡ made → effect op (means (recs w) job.base.root.0) (means (recs w) job.other.root.0) job.arg ≡ (made, reply) → size ≡ length made → has_looked w op reply job.base.root.0 job.other.size ≡ true → IsEnd w job root.0 size reply
heap_end {w} job kind other op same root there size reply made m eff len looked =
    let e : outcome w job ≡ (made, reply) = rw (kind, other, same) eff in
    let t = top_of_root w root.0 there in
    let in_place : in_order job.base.kind (means (recs w) root.0) ≡ means (recs w) root.0 = rw kind refl in
    record {
      root_is = rw kind there;
      value = rw t.1 refl;
      means = in_place ∙ (m ∙ sym (ap (λ (o : List ℕ × Reply). o.0) e));
      size_is = len ∙ sym (ap (λ (o : List ℕ × Reply). length o.0) e);
      reply_is = sym (ap (λ (o : List ℕ × Reply). o.1) e);
      looked = rw same looked;
    }

-- an event that makes nothing ends at its base's root
pub built_same : {a b : View} {job : EventJob} {run : Span} → Quiet a b → run.next ≡ run.end → (root : Ref) (size : ℕ) (reply : Reply) → IsEnd b.seen job root.0 size reply → (result : After) → result ≡ End root size reply → IsEventBuilt a b job run run result
built_same {a} {b} {job} {run} q done root size reply e result same =
    let f = Filled-quiet (Filled-none a run.next) q in
    rw same (record { filled = subst (λ n. Filled a b run.next n) done f; spent = done; made = e; credits = rw q.hand (omega arith) })

-- ---- jobs of one stage

pub first_stage : {w : World} (job : EventJob) → IsJob w job → job.base.kind ≡ kinds.Heap → (op : Op) → job.op ≡ op → looks_at_trees op ≡ false → job.stage ≡ Start
first_stage job j kind op same once = at_first op job.stage (rw (kind, same) at j.has) once

-- where nothing is to be made, the run is empty
pub no_nodes : {v : View} {job : EventJob} {run : Span} → (b : IsEventBuildable IsReadyEvent v job run) → job.stage ≡ Start → start_places job.op job.base.size job.other.size ≡ 0 → run.next ≡ run.end
no_nodes b stage none = omega (arith, b.size, start_nodes b stage, none)

-- ---- what a prepare answers

pub ready_start : (w : World) (job : EventJob) (nodes : ℕ) → job.stage ≡ Start → nodes ≡ start_places job.op job.base.size job.other.size → (cursor : Cursor) → IsReadyWith cursor w job nodes
ready_start w job nodes stage n cursor = record { ready = record { ready = rw stage n }; least = start_tells job.op }
  where
    start_tells : (op : Op) → TellsLeastAt w cursor op job.stage
    start_tells ops.Delmin = rw stage tt
    start_tells _ = tt

pub ready_paid : (w : World) (job : EventJob) (top : Ref) (nodes : ℕ) → job.stage ≡ HeapPaid top → holds (recs w) top.0 (is_known_list w) ≡ true → nodes ≡ paid_places job.op job.base.size (forest (recs w) top.0) → (cursor : Cursor) → (job.op ≡ ops.Delmin → PointsAt w (forest (recs w) top.0) (least_of (forest (recs w) top.0)) cursor) → IsReadyWith cursor w job nodes
ready_paid w job top nodes stage known n cursor least = record { ready = record { ready = rw stage (known, n) }; least = paid_tells job.op least }
  where
    paid_tells : (op : Op) → (op ≡ ops.Delmin → PointsAt w (forest (recs w) top.0) (least_of (forest (recs w) top.0)) cursor) → TellsLeastAt w cursor op job.stage
    paid_tells ops.Delmin least = rw stage (least refl)
    paid_tells _ least = tt

-- what is ready with the cursor is ready
pub plain_build : {cursor : Cursor} {v : View} {job : EventJob} {run : Span} → IsEventBuildable (IsReadyWith cursor) v job run → IsEventBuildable IsReadyEvent v job run
plain_build b = record { base = b.base; base_lawful = b.base_lawful; base_grows = b.base_grows; base_job = b.base_job; nodes = b.nodes; base_ready = b.base_ready.ready; above = b.above; size = b.size; held = b.held; credits = b.credits }

pub size_nodes : (job : EventJob) → job.op ≡ ops.Size → start_places job.op job.base.size job.other.size ≡ 0
size_nodes job op = rw op refl

pub same_root : (base : Ref) (size : ℕ) (reply : Reply) (result : After) → result ≡ End base size reply → ends_at result base.0 ≡ true
same_root base size reply result e = rw e (eq-eqb base.0 base.0 refl)
