-- What a prepare and a build of an operation find, and the places and the dues that they go by.
use Rattle.std.proofs.Common.{◌≡◌, ℕ, ◌+◌, ◌<◌, ◌≤◌, eqb, leb, refl, sym, ap, ◌∙◌, arith, Bool, true, false, cond, ◌||◌, Some}
use Rattle.std.proofs.lemmas.Bool.{true≢false, or_left, eq-eqb, ne_eqb, le-leb, lt-leb, cond-true, cond-false}
use Rattle.lazy_rec.specs.declared.places.Ref.{Ref}
use Rattle.lazy_rec.specs.declared.records.Rec.{Rec}
use Rattle.lazy_rec.specs.declared.records.Rec.TheVariants.{Cons, StreamTop}
use Rattle.lazy_rec.specs.declared.records.Sort.TheVariants as sorts
use Rattle.lazy_rec.specs.declared.events.Kind.{Kind}
use Rattle.lazy_rec.specs.declared.events.Kind.TheVariants as kinds
use Rattle.lazy_rec.specs.declared.events.Op.{Op}
use Rattle.lazy_rec.specs.declared.events.Op.TheVariants as ops
use Rattle.lazy_rec.specs.Named.{sort_of, same_sort}
use Rattle.lazy_rec.specs.Kinds.{belongs, same_kind}
use Rattle.lazy_rec.specs.Due.{due, direct, may_force}
use Rattle.heap_store.specs.declared.versions.Version.{Version}
use Rattle.heap_store.specs.declared.jobs.EventJob.{EventJob}
use Rattle.heap_store.specs.World.{World, recs, holds, Keeps, is_value, value_at}
use Rattle.heap_store.specs.Growth.{Grows}
use Rattle.heap_store.specs.Lawful.{IsLawful, is_root}
use Rattle.heap_store.specs.Stages.{StageName, at_start, at_heap_paid, at_parts, at_root, name_of, has_stage, due_now, places_now}
use Rattle.heap_store.specs.Span.{Span}
use Rattle.heap_store.specs.View.{View}
use Rattle.heap_store.specs.Jobs.{IsVersion, IsJob, IsEventNeed, IsEventBuildable, may_seek, may_stage_seek, other_seeks}
use Rattle.heap_store.proofs.GrowthLaws.{at_true, grows_trans, is_value_up}
use Rattle.heap_store.proofs.ReadLaws.{holds_at, holds_kept, rec_back}
use Rattle.heap_store.proofs.ValueLaws.{Waits, value_down}
use Rattle.lazy_stream.specs.Stream.{is_stream_work, on_top, places_for, looks_at_first, IsReadyEvent, IsStreamOf}
use Rattle.lazy_stream.proofs.Streams.{waiting_stream, stream_cell}
use Rattle.lazy_stream.proofs.AppendWork.{work_funded}
use Rattle.lazy_stream.proofs.Tops.{stream_of_top, below, top_length}

-- ---- operations

-- the operations of a stream
pub only_size : (op : Op) → belongs kinds.Stream op ≡ true → (op ≡ ops.Cons → ⊥) → (op ≡ ops.Append → ⊥) → (op ≡ ops.Reverse → ⊥) → (op ≡ ops.Tail → ⊥) → (op ≡ ops.Head → ⊥) → op ≡ ops.Size
only_size ops.Size h a b c d e = refl
only_size ops.Cons h a b c d e = absurd (a refl)
only_size ops.Append h a b c d e = absurd (b refl)
only_size ops.Reverse h a b c d e = absurd (c refl)
only_size ops.Tail h a b c d e = absurd (d refl)
only_size ops.Head h a b c d e = absurd (e refl)
only_size _ h a b c d e = absurd (true≢false (sym h))

-- where an operation looks at the first cell
record Looks (op : Op) (front : Ref) (n : ℕ) : Type 0 where
  forces : may_force kinds.Stream op ≡ true
  seeks : (w : World) (p : ℕ) → may_seek w op p front.0 (StreamTop front n) ≡ true

looks : (op : Op) (front : Ref) (n m : ℕ) → looks_at_first op m ≡ true → Looks op front n
looks ops.Head front n m h = record { forces = refl; seeks = λ w p. eq-eqb front.0 front.0 refl }
looks ops.Tail front n m h = record { forces = refl; seeks = λ w p. eq-eqb front.0 front.0 refl }
looks _ front n m h = absurd (true≢false (sym h))

-- an event of a stream has one stage
at_first : (op : Op) (s : StageName) → has_stage kinds.Stream op s ≡ true → s ≡ at_start
at_first op at_start h = refl
at_first op at_heap_paid h = absurd (true≢false (sym h))
at_first op at_parts h = absurd (true≢false (sym h))
at_first op at_root h = absurd (true≢false (sym h))

name_is : (job : EventJob) → job.base.kind ≡ kinds.Stream → has_stage job.base.kind job.op (name_of job.stage) ≡ true → name_of job.stage ≡ at_start
name_is job kind has = at_first job.op (name_of job.stage) (rw kind at has)

places_is : (job : EventJob) → job.base.kind ≡ kinds.Stream → has_stage job.base.kind job.op (name_of job.stage) ≡ true → places_now job ≡ direct kinds.Stream job.op job.base.size job.other.size
places_is job kind has = let n = name_is job kind has in rw (kind, n) refl

pub due_is : (job : EventJob) → job.base.kind ≡ kinds.Stream → has_stage job.base.kind job.op (name_of job.stage) ≡ true → (op : Op) → job.op ≡ op → due_now job ≡ due kinds.Stream op job.base.size job.other.size
due_is job kind has op same = let n = name_is job kind has in rw (kind, n, same) refl

-- no operation takes more places than it may
choice_most : (b : Bool) (x y k : ℕ) → x ≤ k → y ≤ k → cond b x y ≤ k
choice_most true x y k f g = f
choice_most false x y k f g = g

places_direct : (op : Op) (n m : ℕ) → places_for op n m ≤ direct kinds.Stream op n m
places_direct ops.Cons n m = choice_most (eqb n 2147483647) 0 2 2 (omega arith) (omega arith)
places_direct ops.Append n m = choice_most (leb (n + m) 2147483647) (cond (eqb n 0 || eqb m 0) 1 2) 0 2 (choice_most (eqb n 0 || eqb m 0) 1 2 2 (omega arith) (omega arith)) (omega arith)
places_direct ops.Reverse n m = choice_most (eqb n 0) 1 2 2 (omega arith) (omega arith)
places_direct ops.Tail n m = choice_most (eqb n 0) 0 1 1 (omega arith) (omega arith)
places_direct op n m = omega arith

-- ---- what a job finds

same_stream : (k : Kind) → same_kind kinds.Stream k ≡ true → k ≡ kinds.Stream
same_stream kinds.Stream h = refl
same_stream _ h = absurd (true≢false (sym h))

-- both versions of a job are streams
pub other_kind : {w : World} → (job : EventJob) → IsJob w job → job.base.kind ≡ kinds.Stream → job.other.kind ≡ kinds.Stream
other_kind job j kind = same_stream job.other.kind (ap (λ k. same_kind k job.other.kind) (sym kind) ∙ j.kinds)

pub version_root : (a b : World) → Keeps (recs a) (recs b) → (of : Version) → IsVersion a of → of.kind ≡ kinds.Stream → holds (recs b) of.root.0 (is_root (recs b) kinds.Stream of.root.0) ≡ true
version_root a b keeps of v kind =
    let here : holds (recs a) of.root.0 (is_root (recs a) kinds.Stream of.root.0) ≡ true = rw kind at v.root in
    holds_kept keeps of.root.0 (λ r. same_sort (sort_of r) sorts.StreamTop) here

-- the top of a version says its size
pub version_size : {w : World} → IsLawful w → (of : Version) → IsVersion w of → (front : Ref) (n : ℕ) → recs w of.root.0 ≡ Some (StreamTop front n) → n ≡ of.size
version_size law of v front n e = sym (v.size ∙ top_length law of.root.0 front n e)

-- what is ready
pub ready_event : (w : World) (job : EventJob) → job.base.kind ≡ kinds.Stream → has_stage job.base.kind job.op (name_of job.stage) ≡ true → (nodes : ℕ) → nodes ≡ places_for job.op job.base.size job.other.size
    → (looks_at_first job.op job.base.size ≡ true → holds (recs w) job.base.root.0 (on_top (is_value w)) ≡ true) → IsReadyEvent w job nodes × (nodes ≤ places_now job)
ready_event w job kind has nodes n known = (
  record { places = n; known = known },
  (let p = places_is job kind has in rw (p, n) (places_direct job.op job.base.size job.other.size)),
)

-- what is needed
pub event_need : {w : World} → IsLawful w → (job : EventJob) → job.base.kind ≡ kinds.Stream → (front : Ref) (n : ℕ) → recs w job.base.root.0 ≡ Some (StreamTop front n) → looks_at_first job.op job.base.size ≡ true → Waits w front.0 → IsEventNeed is_stream_work w job front.0
event_need {w} law job kind front n e look waits =
    let k = looks job.op front n job.base.size look in
    let r = waiting_stream law front.0 (stream_of_top law job.base.root.0 front n e).stream waits.pending in
    record {
      work = r.work;
      sought = or_left _ (may_stage_seek w front.0 job.stage) (or_left (holds (recs w) job.base.root.0 (may_seek w job.op job.base.root.0 front.0)) (other_seeks w job front.0) (rw e (k.seeks w job.base.root.0)));
      not_done = waits.undone;
      forces = rw kind k.forces;
      funded = rw r.here (work_funded law front.0 r.rec r.here r.is_work);
    }

-- ---- what a build finds

-- the stream of a version of its job
pub record Found (w : World) (run : Span) (of : Version) (front : Ref) : Type 0 where
  pub top : recs w of.root.0 ≡ Some (StreamTop front of.size)
  pub stream : IsStreamOf w front.0 of.size run.next

-- the version in the world in which the run was reserved, the world in which its top was read, and a later one
pub found : {a b c : World} → IsLawful a → IsLawful c → Grows a b → Grows b c → (run : Span) → ((q : ℕ) (r : Rec) → recs a q ≡ Some r → q < run.next) → (of : Version) → IsVersion a of → (front : Ref) → (n : ℕ) × (recs b of.root.0 ≡ Some (StreamTop front n)) → Found c run of front
found {a} {b} {c} law law2 g h run above of v front t =
    let is = at_true (λ r. is_root (recs a) of.kind of.root.0 r) (recs a of.root.0) v.root in
    let here = rec_back g.records of.root.0 (StreamTop front t.0) (is.0, is.1) t.1 in
    let same = version_size law of v front t.0 here in
    let now : recs c of.root.0 ≡ Some (StreamTop front of.size) = rw (← same) (h.records of.root.0 _ t.1) in
    let low = above of.root.0 _ here in
    record { top = now; stream = below (stream_of_top law2 of.root.0 front of.size now) (omega (arith, low)) }

pub found_base : {v : View} {job : EventJob} {run : Span} → IsEventBuildable IsReadyEvent v job run → {u w : World} → IsLawful w → Grows v.seen u → Grows u w → (front : Ref) → (n : ℕ) × (recs u job.base.root.0 ≡ Some (StreamTop front n)) → Found w run job.base front
found_base {v} {job} {run} b law g h front t = found b.base_lawful law (grows_trans b.base_grows g) h run b.above job.base b.base_job.base front t

pub found_other : {v : View} {job : EventJob} {run : Span} → IsEventBuildable IsReadyEvent v job run → {u w : World} → IsLawful w → Grows v.seen u → Grows u w → (front : Ref) → (n : ℕ) × (recs u job.other.root.0 ≡ Some (StreamTop front n)) → Found w run job.other front
found_other {v} {job} {run} b law g h front t = found b.base_lawful law (grows_trans b.base_grows g) h run b.above job.other b.base_job.other front t

-- of an operation that looks at it, the first cell
pub record FoundFirst (w : World) (run : Span) (front : Ref) : Type 0 where
  pub known : is_value w front.0 ≡ true
  pub rest_low : (v : ℕ) (rest : Ref) → value_at w front.0 ≡ Some (Cons false v rest) → rest.0 < run.next

pub found_first : {v : View} {job : EventJob} {run : Span} → IsEventBuildable IsReadyEvent v job run → {w : World} → Grows v.seen w → (front : Ref) (n : ℕ) → recs v.seen job.base.root.0 ≡ Some (StreamTop front n) → looks_at_first job.op job.base.size ≡ true → FoundFirst w run front
found_first {v} {job} {run} b {w} g front n e look =
    let is = at_true (λ r. is_root (recs b.base) job.base.kind job.base.root.0 r) (recs b.base job.base.root.0) b.base_job.base.root in
    let here = rec_back b.base_grows.records job.base.root.0 (StreamTop front n) (is.0, is.1) e in
    let known : is_value b.base front.0 ≡ true = holds_at (recs b.base) job.base.root.0 (on_top (is_value b.base)) (StreamTop front n) (b.base_ready.known look) here in
    let all = grows_trans b.base_grows g in
    let s = stream_of_top b.base_lawful job.base.root.0 front n here in
    record {
      known = is_value_up b.base w all front.0 known;
      rest_low = λ v rest h. (
          let c = stream_cell b.base_lawful front.0 v rest s.stream s.items (value_down b.base_lawful all front.0 known _ h) in
          omega (arith, c.cell.rest_named.0, b.above c.cell.place _ c.cell.here));
    }

-- ---- the places that an operation has

pub room : {v : View} {job : EventJob} {run : Span} → IsEventBuildable IsReadyEvent v job run → (op : Op) → job.op ≡ op → run.next + places_for op job.base.size job.other.size ≡ run.end
room {v} {job} {run} b op same =
    let n = b.base_ready.places ∙ ap (λ o. places_for o job.base.size job.other.size) same in
    omega (arith, b.size, n)

pub cons_places : (n m : ℕ) → (n ≡ 2147483647 → ⊥) → places_for ops.Cons n m ≡ 2
cons_places n m few = cond-false (eqb n 2147483647) 0 2 (ne_eqb n 2147483647 few)

pub full_places : (n m : ℕ) → n ≡ 2147483647 → places_for ops.Cons n m ≡ 0
full_places n m full = cond-true (eqb n 2147483647) 0 2 (eq-eqb n 2147483647 full)

pub long_places : (n m : ℕ) → 2147483647 < n + m → places_for ops.Append n m ≡ 0
long_places n m long = cond-false (leb (n + m) 2147483647) (cond (eqb n 0 || eqb m 0) 1 2) 0 (lt-leb (n + m) 2147483647 long)

short_places : (n m : ℕ) → n + m ≤ 2147483647 → places_for ops.Append n m ≡ cond (eqb n 0 || eqb m 0) 1 2
short_places n m short = cond-true (leb (n + m) 2147483647) (cond (eqb n 0 || eqb m 0) 1 2) 0 (le-leb (n + m) 2147483647 short)

pub one_side_places : (n m : ℕ) → n + m ≤ 2147483647 → (eqb n 0 || eqb m 0) ≡ true → places_for ops.Append n m ≡ 1
one_side_places n m short one = short_places n m short ∙ cond-true (eqb n 0 || eqb m 0) 1 2 one

pub both_places : (n m : ℕ) → n + m ≤ 2147483647 → (eqb n 0 || eqb m 0) ≡ false → places_for ops.Append n m ≡ 2
both_places n m short both = short_places n m short ∙ cond-false (eqb n 0 || eqb m 0) 1 2 both

pub empty_reversed : (n m : ℕ) → n ≡ 0 → places_for ops.Reverse n m ≡ 1
empty_reversed n m none = cond-true (eqb n 0) 1 2 (eq-eqb n 0 none)

pub some_reversed : (n m : ℕ) → (n ≡ 0 → ⊥) → places_for ops.Reverse n m ≡ 2
some_reversed n m some = cond-false (eqb n 0) 1 2 (ne_eqb n 0 some)

pub no_tail : (n m : ℕ) → n ≡ 0 → places_for ops.Tail n m ≡ 0
no_tail n m none = cond-true (eqb n 0) 0 1 (eq-eqb n 0 none)

pub tail_places : (n m : ℕ) → (n ≡ 0 → ⊥) → places_for ops.Tail n m ≡ 1
tail_places n m some = cond-false (eqb n 0) 0 1 (ne_eqb n 0 some)
