-- The bases of sequence events, what their roots show, and events that end at them.
use Rattle.std.proofs.Common.{◌≡◌, ℕ, ◌+◌, ◌<◌, ◌≤◌, refl, sym, ap, ◌∙◌, arith, Bool, true, false, cond, not, ◌&&◌, Some, None, List, length}
use Rattle.std.proofs.lemmas.Bool.{true≢false, and_parts, and_from, eq-eqb}
use Rattle.lazy_rec.specs.declared.places.Ref.{Ref}
use Rattle.lazy_rec.specs.declared.places.Item.{Item}
use Rattle.lazy_rec.specs.declared.records.Rec.{Rec}
use Rattle.lazy_rec.specs.declared.records.Rec.TheVariants.{TEmpty, Single, Deep}
use Rattle.lazy_rec.specs.declared.records.Sort.TheVariants as sorts
use Rattle.lazy_rec.specs.declared.events.Kind.TheVariants as kinds
use Rattle.lazy_rec.specs.declared.events.Op.{Op}
use Rattle.lazy_rec.specs.declared.events.Op.TheVariants as ops
use Rattle.lazy_rec.specs.declared.events.Reply.{Reply}
use Rattle.lazy_rec.specs.Named.{sort_of, same_sort, is_pending}
use Rattle.lazy_rec.specs.Meaning.{means}
use Rattle.lazy_rec.specs.Plain.{effect}
use Rattle.heap_store.specs.declared.versions.Version.{Version}
use Rattle.heap_store.specs.declared.jobs.EventJob.{EventJob}
use Rattle.heap_store.specs.declared.jobs.Stage.{Stage}
use Rattle.heap_store.specs.declared.jobs.Stage.TheVariants.{Start, HeapPaid, Parts, Root}
use Rattle.heap_store.specs.declared.jobs.After.{After}
use Rattle.heap_store.specs.declared.jobs.After.TheVariants.{End}
use Rattle.heap_store.specs.Span.{Span}
use Rattle.heap_store.specs.World.{World, recs, holds}
use Rattle.heap_store.specs.Completion as top
use Rattle.heap_store.specs.Completion.{Made, top_of_record, elements}
use Rattle.heap_store.specs.Growth.{Grows}
use Rattle.heap_store.specs.Legal.{in_order}
use Rattle.heap_store.specs.Lawful.{IsLawful, is_root, is_of_level, keeps_keys}
use Rattle.heap_store.specs.LookedAt.{has_looked, looked_at, is_result}
use Rattle.heap_store.specs.Hand.{IsInHand}
use Rattle.heap_store.specs.Stages.{due_now, name_of, has_stage}
use Rattle.heap_store.specs.View.{View, Quiet}
use Rattle.heap_store.specs.OneStage.{ends_at}
use Rattle.heap_store.specs.Jobs.{IsVersion, IsJob, IsEventBuildable, IsEventBuilt, IsEnd, outcome}
use Rattle.heap_store.proofs.GrowthLaws.{at_true, grows_trans}
use Rattle.heap_store.proofs.LawfulLaws.{lawful_names}
use Rattle.heap_store.proofs.MadeLaws.{level_up, top_at_up}
use Rattle.heap_store.proofs.MeaningLaws.{means_kept}
use Rattle.heap_store.proofs.NameLaws.{NamesWell}
use Rattle.heap_store.proofs.ReadLaws.{holds_at}
use Rattle.heap_store.proofs.RecordLaws.{level_kept}
use Rattle.heap_store.proofs.ShowLaws.{one_value}
use Rattle.heap_store.proofs.RowLaws.{has_root_up}
use Rattle.heap_store.proofs.EventEnds.{built_same}
use Rattle.finger_level.specs.Reads.{is_tree_rec, is_tree_value}
use Rattle.finger_level.specs.Keyed.{HasKeys}
use Rattle.finger_level.specs.declared.level.Side.{Side}
use Rattle.finger_level.specs.declared.level.Side.TheVariants as sides
use Rattle.finger_level.specs.Pops.{both_ends, is_single, drawn_middle, IsFrom}
use Rattle.finger_level.proofs.Found.{value_tree}
use Rattle.finger_level.proofs.Popping.{deep_middle, found_up}
use Rattle.finger_level.proofs.Keying.{keyed_up}
use Rattle.finger_apps.specs.Sequence.{is_end_op, places_for, drawn_for, shown_at, IsReadyEvent}

-- ---- the base

pub record BaseRoot (w : World) (v : Version) : Type 0 where
  pub value : holds (recs w) v.root.0 is_tree_value ≡ true
  pub of_level : is_of_level (recs w) v.root.0 0 ≡ true
  pub keys : HasKeys false w v.root.0
  pub size : v.size ≡ length (means (recs w) v.root.0)
  pub most : v.size ≤ 2147483647

pub base_root : {w : World} → IsLawful w → (v : Version) → IsVersion w v → v.kind ≡ kinds.Seq → BaseRoot w v
base_root {w} law v k kind =
    let root : holds (recs w) v.root.0 (is_root (recs w) kinds.Seq v.root.0) ≡ true = rw kind at k.root in
    let t = at_true (is_root (recs w) kinds.Seq v.root.0) (recs w v.root.0) root in
    let a = and_parts (same_sort (sort_of t.0) sorts.Finger && is_of_level (recs w) v.root.0 0) (keeps_keys kinds.Seq (recs w) v.root.0) t.2 in
    let b = and_parts (same_sort (sort_of t.0) sorts.Finger) (is_of_level (recs w) v.root.0 0) a.0 in
    record {
      value = rw t.1 (and_from (not (is_pending t.0)) (is_tree_rec t.0) (holds_at (recs w) v.root.0 (λ r. not (is_pending r)) t.0 k.value t.1) b.0);
      of_level = b.1;
      keys = a.1;
      size = k.size;
      most = k.most;
    }

pub base_up : {a b : World} → IsLawful a → Grows a b → (v : Version) → BaseRoot a v → BaseRoot b v
base_up {a} {b} law g v k =
    let t = at_true is_tree_value (recs a v.root.0) k.value in
    let names = lawful_names law in
    record {
      value = rw (g.records v.root.0 t.0 t.1) t.2;
      keys = keyed_up law g false v.root.0 k.keys;
      of_level = rw (← level_kept (recs a) (recs b) names g.records v.root.0 (t.0, t.1)) k.of_level;
      size = rw (← means_kept (recs a) (recs b) names g.records v.root.0 (t.0, t.1)) k.size;
      most = k.most;
    }

pub shown_up : {a c : World} → NamesWell (recs a) → Grows a c → (q : ℕ) (m : Made) (r : Rec) → recs a q ≡ Some r → shown_at a q ≡ Some m → shown_at c q ≡ Some m
shown_up {a} {c} names g q m r e h = rw (g.records q r e) (sym (level_up a c names g q r e) ∙ (rw e at h))

-- ---- a middle that is drawn up

-- a root of whose digit on the side one element is left, with its middle
pub record DrawnRoot (w : World) (side : Side) (q m : ℕ) : Type 0 where
  pub left : Ref
  pub middle : Ref
  pub right : Ref
  pub size : ℕ
  pub key : Item
  pub here : recs w q ≡ Some (Deep left middle right size key)
  pub is : middle.0 ≡ m

pub drawn_root : {w : World} → (side : Side) (q : ℕ) (shown : Made) (m : ℕ) (r : Rec) → recs w q ≡ Some r → top_of_record w r ≡ Some shown → drawn_middle side shown ≡ Some m → DrawnRoot w side q m
drawn_root {w} side q shown m TEmpty e t h = absurd (let same : top.empty ≡ shown = one_value _ _ t in let z : None ≡ Some m = rw (← same) at h in cc)
drawn_root {w} side q shown m (Single x z k) e t h = absurd (let same : top.one x.0 ≡ shown = one_value _ _ t in let y : None ≡ Some m = rw (← same) at h in cc)
drawn_root {w} side q shown m (Deep left middle right z k) e t h =
    let same : top.deep (elements w left.0) (top.tree (Some middle.0)) (elements w right.0) ≡ shown = one_value _ _ t in
    record { left = left; middle = middle; right = right; size = z; key = k; here = e; is = some_of (is_single (both_ends side (elements w left.0) (elements w right.0)).0) middle.0 m (rw (← same) at h) }
  where
    some_of : (b : Bool) (x y : ℕ) → cond b (Some x) None ≡ Some y → x ≡ y
    some_of true x y k = one_value x y k
    some_of false x y k = cc
drawn_root side q shown m _ e t h = cc

pub drawn_op : {w : World} → (op : Op) (q : ℕ) (shown : Made) (m : ℕ) (r : Rec) → recs w q ≡ Some r → top_of_record w r ≡ Some shown → drawn_for op shown ≡ Some m → (side : Side) × DrawnRoot w side q m
drawn_op ops.Popl q shown m r e t h = (sides.Left, drawn_root sides.Left q shown m r e t h)
drawn_op ops.Popr q shown m r e t h = (sides.Right, drawn_root sides.Right q shown m r e t h)
drawn_op _ q shown m r e t h = cc

middle_sort : {w : World} → IsLawful w → {q m : ℕ} → (side : Side) × DrawnRoot w side q m → holds (recs w) m is_tree_rec ≡ true
middle_sort {w} law {q} k = let d = k.1 in rw (← d.is) (deep_middle law q d.left d.middle d.right d.size d.key d.here)

-- ---- what a build is given

-- the value of a middle that was known in time
pub record FromGiven (w : World) (m from : ℕ) (below : Made) (limit : ℕ) : Type 0 where
  pub at : (c : World) → Grows w c → IsFrom c m from below
  pub low : from < limit

pub from_given : {a w : World} → IsLawful a → Grows a w → (limit : ℕ) → ((q : ℕ) (r : Rec) → recs a q ≡ Some r → q < limit) → (m from : ℕ) (below : Made) → holds (recs a) m is_tree_rec ≡ true → IsFrom a m from below → FromGiven w m from below limit
from_given {a} {w} law g limit above m from below tree k =
    let v = value_tree law m from tree k.place in
    let t = at_true is_tree_value (recs a from) v.there in
    record {
      at = λ c h. record { place = found_up law (grows_trans g h) m from k.place; shows = top_at_up a c (lawful_names law) (grows_trans g h) m below k.shows };
      low = above from t.0 t.1;
    }

pub record Given (v : View) (job : EventJob) (run : Span) : Type 0 where
  pub base : BaseRoot v.seen job.base
  pub root : holds (recs v.seen) job.base.root.0 (is_root (recs v.seen) job.base.kind job.base.root.0) ≡ true
  pub root_low : job.base.root.0 < run.next
  pub held : IsInHand v.hand run
  pub shown : Made
  pub shows : (c : World) → Grows v.seen c → shown_at c job.base.root.0 ≡ Some shown
  pub from : ℕ
  pub below : Made
  pub drawn : (m : ℕ) → drawn_for job.op shown ≡ Some m → FromGiven v.seen m from below run.next
  pub places : run.next + places_for job.op job.base.size shown below ≡ run.end
  pub credits : due_now job ≤ v.hand.credits

pub given : {v : View} {job : EventJob} {run : Span} → IsLawful v.seen → job.base.kind ≡ kinds.Seq → IsEventBuildable IsReadyEvent v job run → Given v job run
given {v} {job} {run} law kind b =
    let base = base_root b.base_lawful job.base b.base_job.base kind in
    let t = at_true is_tree_value (recs b.base job.base.root.0) base.value in
    let names = lawful_names b.base_lawful in
    record {
      base = base_up b.base_lawful b.base_grows job.base base;
      root = has_root_up b.base v.seen names b.base_grows job.base.kind job.base.root.0 b.base_job.base.root;
      root_low = b.above job.base.root.0 t.0 t.1;
      held = b.held;
      shown = b.base_ready.shown;
      shows = λ c g. shown_up names (grows_trans b.base_grows g) job.base.root.0 b.base_ready.shown t.0 t.1 b.base_ready.here;
      from = b.base_ready.from;
      below = b.base_ready.below;
      drawn = λ m h. from_given b.base_lawful b.base_grows run.next b.above m b.base_ready.from b.base_ready.below (middle_sort b.base_lawful (drawn_op job.op job.base.root.0 b.base_ready.shown m t.0 t.1 (rw t.1 at b.base_ready.here) h)) (b.base_ready.drawn m h);
      places = (let z = b.base_ready.places in omega (arith, z, b.size));
      credits = b.credits;
    }

pub given_later : {a b : View} {job : EventJob} {run : Span} → Quiet a b → IsLawful a.seen → Given a job run → Given b job run
given_later {a} {b} {job} {run} q law k = record {
  base = base_up law q.grows job.base k.base;
  root = has_root_up a.seen b.seen (lawful_names law) q.grows job.base.kind job.base.root.0 k.root;
  root_low = k.root_low;
  held = rw q.hand k.held;
  shown = k.shown;
  shows = λ c g. k.shows c (grows_trans q.grows g);
  from = k.from;
  below = k.below;
  drawn = λ m h. (let f = k.drawn m h in record { at = λ c g. f.at c (grows_trans q.grows g); low = f.low });
  places = k.places;
  credits = rw q.hand k.credits;
}

-- ---- ends at the base

-- the operations that draw up no middle
abbrev pub stays : Op → Bool
stays ops.Size = true
stays ops.Pushl = true
stays ops.Pushr = true
stays ops.First = true
stays ops.Last = true
stays _ = false

looked_end : (w : World) (op : Op) (g : Bool) (r : Rec) → stays op ≡ true → is_tree_value r ≡ true → looked_at w op g r ≡ true
looked_end w ops.Size g TEmpty h v = refl
looked_end w ops.Size g (Single _ _ _) h v = refl
looked_end w ops.Size g (Deep _ _ _ _ _) h v = refl
looked_end w ops.Pushl g TEmpty h v = refl
looked_end w ops.Pushl g (Single _ _ _) h v = refl
looked_end w ops.Pushl g (Deep _ _ _ _ _) h v = refl
looked_end w ops.Pushr g TEmpty h v = refl
looked_end w ops.Pushr g (Single _ _ _) h v = refl
looked_end w ops.Pushr g (Deep _ _ _ _ _) h v = refl
looked_end w ops.First g TEmpty h v = refl
looked_end w ops.First g (Single _ _ _) h v = refl
looked_end w ops.First g (Deep _ _ _ _ _) h v = refl
looked_end w ops.Last g TEmpty h v = refl
looked_end w ops.Last g (Single _ _ _) h v = refl
looked_end w ops.Last g (Deep _ _ _ _ _) h v = refl
looked_end w ops.Size g _ h v = absurd (true≢false (sym v))
looked_end w ops.Pushl g _ h v = absurd (true≢false (sym v))
looked_end w ops.Pushr g _ h v = absurd (true≢false (sym v))
looked_end w ops.First g _ h v = absurd (true≢false (sym v))
looked_end w ops.Last g _ h v = absurd (true≢false (sym v))
looked_end w _ g r h v = absurd (true≢false (sym h))

-- such an operation looks at nothing that may be pending
pub end_looked : {w : World} → IsLawful w → (op : Op) (reply : Reply) (root other : ℕ) → stays op ≡ true → holds (recs w) root is_tree_value ≡ true → has_looked w op reply root other ≡ true
end_looked {w} law op reply root other h v = let t = at_true is_tree_value (recs w root) v in by op h t.0 t.1 t.2
  where
    either : {x : Bool} (b : Bool) → x ≡ true → cond b x true ≡ true
    either true k = k
    either false k = refl

    by : (op : Op) → stays op ≡ true → (r : Rec) → recs w root ≡ Some r → is_tree_value r ≡ true → has_looked w op reply root other ≡ true
    by ops.Size h r e t = either (is_result reply) (rw e (looked_end w ops.Size true r refl t))
    by ops.Pushl h r e t = either (is_result reply) (rw e (looked_end w ops.Pushl true r refl t))
    by ops.Pushr h r e t = either (is_result reply) (rw e (looked_end w ops.Pushr true r refl t))
    by ops.First h r e t = either (is_result reply) (rw e (looked_end w ops.First true r refl t))
    by ops.Last h r e t = either (is_result reply) (rw e (looked_end w ops.Last true r refl t))
    by _ h r e t = absurd (true≢false (sym h))

-- an event that leaves its base as it is
pub same_end : {w : World} → IsLawful w → (job : EventJob) → job.base.kind ≡ kinds.Seq → stays job.op ≡ true → BaseRoot w job.base → holds (recs w) job.base.root.0 (is_root (recs w) job.base.kind job.base.root.0) ≡ true → (reply : Reply) → effect job.op (means (recs w) job.base.root.0) (in_order job.other.kind (means (recs w) job.other.root.0)) job.arg ≡ (means (recs w) job.base.root.0, reply) → IsEnd w job job.base.root.0 job.base.size reply
same_end {w} law job kind op b root reply makes =
    let v = means (recs w) job.base.root.0 in
    let e : outcome w job ≡ (v, reply) = rw kind makes in
    let base = at_true is_tree_value (recs w job.base.root.0) b.value in
    let in_place : in_order job.base.kind v ≡ v = rw kind refl in
    record {
      root_is = root;
      value = rw base.1 (and_parts (not (is_pending base.0)) (is_tree_rec base.0) base.2).0;
      means = in_place ∙ sym (ap (λ (o : List ℕ × Reply). o.0) e);
      size_is = (let z = ap (λ (o : List ℕ × Reply). length o.0) e in omega (arith, z, b.size));
      reply_is = sym (ap (λ (o : List ℕ × Reply). o.1) e);
      looked = end_looked law job.op reply job.base.root.0 job.other.size op b.value;
    }

pub same_built : {a b : View} {job : EventJob} {run : Span} → Quiet a b → IsLawful b.seen → job.base.kind ≡ kinds.Seq → stays job.op ≡ true → Given b job run → ((m b : Made) → places_for job.op job.base.size m b ≡ 0) → (reply : Reply) → effect job.op (means (recs b.seen) job.base.root.0) (in_order job.other.kind (means (recs b.seen) job.other.root.0)) job.arg ≡ (means (recs b.seen) job.base.root.0, reply) → (result : After) → result ≡ End job.base.root job.base.size reply → IsEventBuilt a b job run run result
same_built q law kind op k none reply makes result is =
    built_same q (let z = none k.shown k.below in omega (arith, k.places, z)) _ reply (same_end law _ kind op k.base k.root reply makes) result is

pub same_root : (job : EventJob) (size : ℕ) (reply : Reply) (result : After) → result ≡ End job.base.root size reply → ends_at result job.base.root.0 ≡ true
same_root job size reply result e = rw e (eq-eqb job.base.root.0 job.base.root.0 refl)

-- ---- the stage

-- an operation at an end has one stage
at_first : (op : Op) (s : Stage) → is_end_op op ≡ true → has_stage kinds.Seq op (name_of s) ≡ true → s ≡ Start
at_first op Start e h = refl
at_first op (HeapPaid _) e h = absurd (true≢false (sym h))
at_first op (Parts _ _ _ _) e h = absurd (true≢false (sym h))
at_first ops.Nth (Root _ _) e h = absurd (true≢false (sym e))
at_first ops.Take (Root _ _) e h = absurd (true≢false (sym e))
at_first ops.Drop (Root _ _) e h = absurd (true≢false (sym e))
at_first ops.Concat (Root _ _) e h = absurd (true≢false (sym e))
at_first ops.Split (Root _ _) e h = absurd (true≢false (sym e))
at_first _ (Root _ _) e h = absurd (true≢false (sym h))

pub starts : {w : World} (job : EventJob) → job.base.kind ≡ kinds.Seq → is_end_op job.op ≡ true → IsJob w job → job.stage ≡ Start
starts job kind op k = at_first job.op job.stage op (rw kind at k.has)
