-- What operations find before they read, what those make that make nothing, and the suspensions that others put.
use Rattle.std.proofs.Common.{◌≡◌, ℕ, ◌+◌, ◌<◌, ◌≤◌, refl, sym, arith, true, false, Some, length}
use Rattle.std.proofs.lemmas.Bool.{true≢false}
use Rattle.lazy_rec.specs.declared.places.Ref.{Ref}
use Rattle.lazy_rec.specs.declared.records.Rec.{Rec}
use Rattle.lazy_rec.specs.declared.records.Rec.TheVariants.{Cons, StreamTop, Append, Reverse}
use Rattle.lazy_rec.specs.declared.records.Sort.TheVariants as sorts
use Rattle.lazy_rec.specs.declared.events.Kind.TheVariants as kinds
use Rattle.lazy_rec.specs.declared.events.Op.{Op}
use Rattle.lazy_rec.specs.declared.events.Op.TheVariants as ops
use Rattle.lazy_rec.specs.declared.events.Reply.TheVariants as replies
use Rattle.lazy_rec.specs.Named.{sort_of, same_sort}
use Rattle.heap_store.specs.declared.jobs.EventJob.{EventJob}
use Rattle.heap_store.specs.declared.jobs.After.{After}
use Rattle.heap_store.specs.declared.jobs.After.TheVariants.{End}
use Rattle.heap_store.specs.World.{World, recs, holds, is_value, value_at}
use Rattle.heap_store.specs.Lawful.{IsLawful, is_root}
use Rattle.heap_store.specs.Span.{Span}
use Rattle.heap_store.specs.View.{View, IsLawfulView, Quiet, Fits}
use Rattle.heap_store.specs.Jobs.{IsEventBuildable, IsEventBuilt, list_at}
use Rattle.heap_store.proofs.GrowthLaws.{at_true, grows_refl}
use Rattle.heap_store.proofs.Steps.{Quiet_refl, filling_start, filling_quiet}
use Rattle.lazy_stream.specs.Stream.{places_for, looks_at_first, IsReadyEvent}
use Rattle.lazy_stream.proofs.Tops.{top_length}
use Rattle.lazy_stream.proofs.JobStreams.{due_is, other_kind, version_root, Found, found_base, found_other, room, full_places, long_places, some_reversed, no_tail}
use Rattle.lazy_stream.proofs.Appends.{fits_first}
use Rattle.lazy_stream.proofs.Reversals.{fits_reversal}
use Rattle.lazy_stream.proofs.StreamEnds.{built_same, full_end, long_end, size_end, empty_end, head_end}

-- ---- what makes nothing

-- the top of a root
pub top_there : (w : World) (p : ℕ) → holds (recs w) p (is_root (recs w) kinds.Stream p) ≡ true → (front : Ref) × (n : ℕ) × (recs w p ≡ Some (StreamTop front n))
top_there w p h = let k = at_true (is_root (recs w) kinds.Stream p) (recs w p) h in go k.0 k.1 k.2
  where
    go : (r : Rec) → recs w p ≡ Some r → same_sort (sort_of r) sorts.StreamTop ≡ true → (front : Ref) × (n : ℕ) × (recs w p ≡ Some (StreamTop front n))
    go (StreamTop front n) e s = (front, n, e)
    go _ e s = absurd (true≢false (sym s))

module _ {v : View} (law : IsLawful v.seen) {job : EventJob} {run : Span} (b : IsEventBuildable IsReadyEvent v job run) (kind : job.base.kind ≡ kinds.Stream) where
  pub base_root : holds (recs v.seen) job.base.root.0 (is_root (recs v.seen) kinds.Stream job.base.root.0) ≡ true
  base_root = version_root b.base v.seen b.base_grows.records job.base b.base_job.base kind

  pub other_is : job.other.kind ≡ kinds.Stream
  other_is = other_kind job b.base_job kind

  pub other_root : holds (recs v.seen) job.other.root.0 (is_root (recs v.seen) kinds.Stream job.other.root.0) ≡ true
  other_root = version_root b.base v.seen b.base_grows.records job.other b.base_job.other other_is

  own : (front : Ref) × Found v.seen run job.base front
  own = let t = top_there v.seen job.base.root.0 base_root in (t.0, found_base b law (grows_refl v.seen) (grows_refl v.seen) t.0 (t.1, t.2))

  -- a full stream stays
  pub full_built : job.op ≡ ops.Cons → job.base.size ≡ 2147483647 → (result : After) → result ≡ End job.base.root job.base.size replies.TooLong → IsEventBuilt v v job run run result
  full_built op full result same =
      let k = own in
      let size = room b ops.Cons op in
      built_same (Quiet_refl v) (omega (arith, size, full_places job.base.size job.other.size full)) job.base.size replies.TooLong (full_end law job kind k.0 k.1.top op full) result same

  -- and one to which another would make it too long
  pub long_built : job.op ≡ ops.Append → 2147483647 < job.base.size + job.other.size → (result : After) → result ≡ End job.base.root job.base.size replies.TooLong → IsEventBuilt v v job run run result
  long_built op long result same =
      let k = own in
      let t = top_there v.seen job.other.root.0 other_root in
      let f = found_other b law (grows_refl v.seen) (grows_refl v.seen) t.0 (t.1, t.2) in
      let m : length (list_at v.seen job.other) ≡ job.other.size = rw other_is (top_length law job.other.root.0 t.0 job.other.size f.top) in
      let size = room b ops.Append op in
      built_same (Quiet_refl v) (omega (arith, size, long_places job.base.size job.other.size long)) job.base.size replies.TooLong (long_end law job kind k.0 k.1.top op m long) result same

  pub size_built : job.op ≡ ops.Size → (result : After) → result ≡ End job.base.root job.base.size (replies.Number job.base.size) → IsEventBuilt v v job run run result
  size_built op result same =
      let k = own in
      let size = room b ops.Size op in
      built_same (Quiet_refl v) (omega (arith, size)) job.base.size (replies.Number job.base.size) (size_end law job kind k.0 k.1.top op) result same

  -- an operation that looks at the first cell of an empty stream
  pub none_built : (op : Op) → job.op ≡ op → looks_at_first op 1 ≡ true → job.base.size ≡ 0 → (result : After) → result ≡ End job.base.root job.base.size replies.Empty → IsEventBuilt v v job run run result
  none_built op same look none result e =
      let k = own in
      let size = room b op same in
      built_same (Quiet_refl v) (omega (arith, size, no_places op look)) job.base.size replies.Empty (empty_end law job kind k.0 k.1.top op same look none) result e
    where
      no_places : (op : Op) → looks_at_first op 1 ≡ true → places_for op job.base.size job.other.size ≡ 0
      no_places ops.Head look = refl
      no_places ops.Tail look = no_tail job.base.size job.other.size none
      no_places _ look = absurd (true≢false (sym look))

  -- a head of a stream that isn't, after its reads
  pub head_built : {u : View} → Quiet v u → IsLawful u.seen → (xs : Ref) → Found u.seen run job.base xs → job.op ≡ ops.Head → (x : ℕ) (rest : Ref) → value_at u.seen xs.0 ≡ Some (Cons false x rest) → is_value u.seen xs.0 ≡ true → (result : After) → result ≡ End job.base.root job.base.size (replies.Number x) → IsEventBuilt v u job run run result
  head_built {u} q law2 xs f op x rest h known result same =
      let size = room b ops.Head op in
      built_same q (omega (arith, size)) job.base.size (replies.Number x) (head_end law2 job kind xs f.top op x rest h known) result same

-- ---- the suspensions that operations put

-- the reversal of a stream that isn't empty
pub reversal_fits : {v u : View} → IsLawfulView u → {job : EventJob} {run : Span} → IsEventBuildable IsReadyEvent v job run → job.base.kind ≡ kinds.Stream → job.op ≡ ops.Reverse → Quiet v u → (xs : Ref) → Found u.seen run job.base xs → (job.base.size ≡ 0 → ⊥) → Fits u run.next (Reverse xs job.base.size)
reversal_fits {v} {u} law {job} {run} b kind op q xs f some =
    let due = due_is job kind b.base_job.has ops.Reverse op in
    let size = room b ops.Reverse op in
    let two = some_reversed job.base.size job.other.size some in
    let held = (filling_quiet (filling_start v run b.held) q).held in
    let enough : job.base.size ≤ u.hand.credits = rw q.hand (omega (arith, due, b.credits)) in
    fits_reversal law run.next (held.each run.next (omega arith) (omega (arith, size, two))) xs job.base.size f.stream (omega (arith, some)) enough

-- the append of two streams that aren't
pub append_fits : {v u : View} → IsLawfulView u → {job : EventJob} {run : Span} → IsEventBuildable IsReadyEvent v job run → job.base.kind ≡ kinds.Stream → job.op ≡ ops.Append → Quiet v u → (xs ys o : Ref) → Found u.seen run job.base xs → Found u.seen run job.other ys → o.0 ≡ run.next → run.next < run.end → (job.base.size ≡ 0 → ⊥) → Fits u run.next (Append xs ys job.base.size o 0)
append_fits {v} {u} law {job} {run} b kind op q xs ys o f f2 at left some =
    let due = due_is job kind b.base_job.has ops.Append op in
    let held = (filling_quiet (filling_start v run b.held) q).held in
    let enough : job.base.size ≤ u.hand.credits = rw q.hand (omega (arith, due, b.credits)) in
    fits_first law run.next (held.each run.next (omega arith) left) xs ys job.base.size job.other.size o f.stream f2.stream (omega (arith, some)) at enough
