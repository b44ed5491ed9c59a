-- The ends of the operations: what each makes of the items of its streams.
use Rattle.std.proofs.Common.{◌≡◌, ℕ, suc, ◌+◌, ◌-◌, ◌<◌, ◌≤◌, leb, refl, sym, ap, ◌∙◌, arith, subst, true, false, not, Some, List, [], ◌∷◌, ◌++◌, length, reverse}
use Rattle.std.proofs.lemmas.List.{length-append, length-reverse, reverse-append, nil_from_length, append-nil}
use Rattle.std.proofs.lemmas.Bool.{true≢false, eq-eqb, le-leb, lt-leb, cond-true, cond-false}
use Rattle.lazy_rec.specs.declared.places.Ref.{Ref}
use Rattle.lazy_rec.specs.declared.records.Rec.{Rec}
use Rattle.lazy_rec.specs.declared.records.Rec.TheVariants.{Cons, StreamTop}
use Rattle.lazy_rec.specs.declared.records.Sort.TheVariants as sorts
use Rattle.lazy_rec.specs.declared.events.Kind.TheVariants as kinds
use Rattle.lazy_rec.specs.declared.events.Op.{Op}
use Rattle.lazy_rec.specs.declared.events.Op.TheVariants as ops
use Rattle.lazy_rec.specs.declared.events.Reply.{Reply}
use Rattle.lazy_rec.specs.declared.events.Reply.TheVariants as replies
use Rattle.lazy_rec.specs.Named.{sort_of, same_sort, is_pending}
use Rattle.lazy_rec.specs.Plain.{grown, effect}
use Rattle.lazy_rec.specs.Meaning.{Entry, an_item, a_child, cells, means}
use Rattle.heap_store.specs.declared.jobs.EventJob.{EventJob}
use Rattle.heap_store.specs.declared.jobs.After.{After}
use Rattle.heap_store.specs.declared.jobs.After.TheVariants.{End}
use Rattle.heap_store.specs.World.{World, recs, holds, Keeps, is_value, value_at}
use Rattle.heap_store.specs.Values.{items_in}
use Rattle.heap_store.specs.Lawful.{IsLawful, is_root}
use Rattle.heap_store.specs.LookedAt.{has_looked}
use Rattle.heap_store.specs.Span.{Span}
use Rattle.heap_store.specs.View.{View, Quiet}
use Rattle.heap_store.specs.Jobs.{IsEventBuilt, IsEnd, Filled, outcome, list_at}
use Rattle.heap_store.proofs.GrowthLaws.{at_true}
use Rattle.heap_store.proofs.LawfulLaws.{lawful_names}
use Rattle.heap_store.proofs.MeaningLaws.{means_kept}
use Rattle.heap_store.proofs.EntryLaws.{items_in-append, items_in-length}
use Rattle.heap_store.proofs.Steps.{Filled-none, Filled-quiet}
use Rattle.heap_store.specs.OneStage.{ends_at}
use Rattle.lazy_stream.specs.Stream.{looks_at_first}
use Rattle.lazy_stream.proofs.Streams.{stream_cell}
use Rattle.lazy_stream.proofs.Tops.{stream_of_top, top_means, top_length}

-- ---- items

pub items_in-reverse : (es : List Entry) → items_in (reverse es) ≡ reverse (items_in es)
items_in-reverse [] = refl
items_in-reverse (an_item v ∷ es) =
    ap items_in (reverse-append (an_item v ∷ []) es)
    ∙ (items_in-append (reverse es) (an_item v ∷ [])
    ∙ (ap (λ t. t ++ v ∷ []) (items_in-reverse es) ∙ sym (reverse-append (v ∷ []) (items_in es))))
items_in-reverse (a_child p ∷ es) =
    ap items_in (reverse-append (a_child p ∷ []) es)
    ∙ (items_in-append (reverse es) (a_child p ∷ [])
    ∙ (append-nil (items_in (reverse es)) ∙ items_in-reverse es))

-- ---- effects

grown_short : (v longer : List ℕ) → length longer ≤ 2147483647 → grown v longer ≡ (longer, replies.Ok)
grown_short v longer h = cond-true (leb (length longer) 2147483647) (longer, replies.Ok) (v, replies.TooLong) (le-leb (length longer) 2147483647 h)

grown_long : (v longer : List ℕ) → 2147483647 < length longer → grown v longer ≡ (v, replies.TooLong)
grown_long v longer h = cond-false (leb (length longer) 2147483647) (longer, replies.Ok) (v, replies.TooLong) (lt-leb (length longer) 2147483647 h)

-- ---- ends

root_value : (r : Rec) → same_sort (sort_of r) sorts.StreamTop ≡ true → not (is_pending r) ≡ true
root_value (StreamTop _ _) h = refl
root_value _ h = absurd (true≢false (sym h))

-- an operation that ends at a root of these items
end_of : {w : World} → (job : EventJob) → job.base.kind ≡ kinds.Stream → (op : Op) → job.op ≡ op → (root : Ref) (size : ℕ) (reply : Reply) (made : List ℕ)
    → holds (recs w) root.0 (is_root (recs w) kinds.Stream root.0) ≡ true → means (recs w) root.0 ≡ made → effect op (means (recs w) job.base.root.0) (list_at w job.other) job.arg ≡ (made, reply) → size ≡ length made → has_looked w op reply job.base.root.0 job.other.size ≡ true → IsEnd w job root.0 size reply
end_of {w} job kind op same root size reply made there m eff len looked =
    let e : outcome w job ≡ (made, reply) = rw (kind, same) eff in
    let t = at_true (is_root (recs w) kinds.Stream root.0) (recs w root.0) there in
    let in_place : list_at w (record job.base { root = root }) ≡ means (recs w) root.0 = rw kind refl in
    record {
      root_is = rw kind there;
      value = rw t.1 (root_value t.0 t.2);
      means = in_place ∙ (m ∙ sym (ap (λ (o : List ℕ × Reply). o.0) e));
      size_is = len ∙ sym (ap (λ (o : List ℕ × Reply). length o.0) e);
      reply_is = sym (ap (λ (o : List ℕ × Reply). o.1) e);
      looked = rw same looked;
    }

pub same_root : (base : Ref) (size : ℕ) (reply : Reply) (result : After) → result ≡ End base size reply → ends_at result base.0 ≡ true
same_root base size reply result e = rw e (eq-eqb base.0 base.0 refl)

-- an event that makes nothing
pub built_same : {a b : View} {job : EventJob} {run : Span} → Quiet a b → run.next ≡ run.end → (size : ℕ) (reply : Reply) → IsEnd b.seen job job.base.root.0 size reply → (result : After) → result ≡ End job.base.root size reply → IsEventBuilt a b job run run result
built_same {a} {b} {job} {run} q done size reply e result same =
    let f = Filled-quiet (Filled-none a run.next) q in
    rw same (record { filled = subst (λ n. Filled a b run.next n) done f; spent = done; made = e; credits = rw q.hand (omega arith) })

-- ---- what was made

-- in a later world, the items of a top that was read
later_means : {a : World} (b : World) → IsLawful a → Keeps (recs a) (recs b) → (p : ℕ) (front : Ref) (n : ℕ) → recs a p ≡ Some (StreamTop front n) → means (recs b) p ≡ items_in (cells (recs a) front.0)
later_means {a} b law keeps p front n e = sym (means_kept (recs a) (recs b) (lawful_names law) keeps p (StreamTop front n, e)) ∙ top_means law p front n e

-- a new top over such cells, in a later world
pub record MadeTop (a b : World) (front root : Ref) : Type 0 where
  pub there : holds (recs b) root.0 (is_root (recs b) kinds.Stream root.0) ≡ true
  pub items : means (recs b) root.0 ≡ items_in (cells (recs a) front.0)

-- the world before the new top was put and the one after it, the base's top, and the new one
module _ {a b : World} (law : IsLawful a) (keeps : Keeps (recs a) (recs b)) (job : EventJob) (kind : job.base.kind ≡ kinds.Stream) (xs : Ref) (here : recs a job.base.root.0 ≡ Some (StreamTop xs job.base.size)) {front root : Ref} (made : MadeTop a b front root) where
  base_means : means (recs b) job.base.root.0 ≡ items_in (cells (recs a) xs.0)
  base_means = later_means b law keeps job.base.root.0 xs job.base.size here

  base_length : length (items_in (cells (recs a) xs.0)) ≡ job.base.size
  base_length = let s = stream_of_top law job.base.root.0 xs job.base.size here in items_in-length (cells (recs a) xs.0) s.items ∙ s.count

  there : recs b job.base.root.0 ≡ Some (StreamTop xs job.base.size)
  there = keeps job.base.root.0 _ here

  pub cons_end : job.op ≡ ops.Cons → job.base.size < 2147483647 → cells (recs a) front.0 ≡ an_item job.arg ∷ cells (recs a) xs.0 → IsEnd b job root.0 (job.base.size + 1) replies.Ok
  cons_end op few c =
      let v = items_in (cells (recs a) xs.0) in
      end_of job kind ops.Cons op root (job.base.size + 1) replies.Ok (job.arg ∷ v) made.there (made.items ∙ ap items_in c)
      (ap (λ t. effect ops.Cons t (list_at b job.other) job.arg) base_means ∙ grown_short v (job.arg ∷ v) (omega (arith, base_length, few)))
      (omega (arith, base_length)) (rw there refl)

  pub append_end : job.op ≡ ops.Append → job.other.kind ≡ kinds.Stream → (ys : Ref) → recs a job.other.root.0 ≡ Some (StreamTop ys job.other.size) → job.base.size + job.other.size ≤ 2147483647 → cells (recs a) front.0 ≡ cells (recs a) xs.0 ++ cells (recs a) ys.0 → IsEnd b job root.0 (job.base.size + job.other.size) replies.Ok
  append_end op kind2 ys here2 few c =
      let v = items_in (cells (recs a) xs.0) in
      let u = items_in (cells (recs a) ys.0) in
      let other : list_at b job.other ≡ u = rw kind2 (later_means b law keeps job.other.root.0 ys job.other.size here2) in
      let s = stream_of_top law job.other.root.0 ys job.other.size here2 in
      let m : length u ≡ job.other.size = items_in-length (cells (recs a) ys.0) s.items ∙ s.count in
      let l : length (v ++ u) ≡ job.base.size + job.other.size = length-append v u ∙ (omega (arith, base_length, m)) in
      end_of job kind ops.Append op root (job.base.size + job.other.size) replies.Ok (v ++ u) made.there (made.items ∙ (ap items_in c ∙ items_in-append (cells (recs a) xs.0) (cells (recs a) ys.0)))
      (ap (λ t. effect ops.Append t (list_at b job.other) job.arg) base_means ∙ (ap (λ t. grown v (v ++ t)) other ∙ grown_short v (v ++ u) (omega (arith, l, few))))
      (sym l) (rw there refl)

  pub reverse_end : job.op ≡ ops.Reverse → cells (recs a) front.0 ≡ reverse (cells (recs a) xs.0) → IsEnd b job root.0 job.base.size replies.Ok
  reverse_end op c =
      let v = items_in (cells (recs a) xs.0) in
      end_of job kind ops.Reverse op root job.base.size replies.Ok (reverse v) made.there (made.items ∙ (ap items_in c ∙ items_in-reverse (cells (recs a) xs.0)))
      (ap (λ t. effect ops.Reverse t (list_at b job.other) job.arg) base_means)
      (sym (length-reverse v ∙ base_length)) (rw there refl)

  pub tail_end : job.op ≡ ops.Tail → (x : ℕ) → cells (recs a) xs.0 ≡ an_item x ∷ cells (recs a) front.0 → is_value b xs.0 ≡ true → IsEnd b job root.0 (job.base.size - 1) replies.Ok
  tail_end op x c known =
      let v = items_in (cells (recs a) front.0) in
      let all : items_in (cells (recs a) xs.0) ≡ x ∷ v = ap items_in c in
      let l : suc (length v) ≡ job.base.size = sym (ap length all) ∙ base_length in
      end_of job kind ops.Tail op root (job.base.size - 1) replies.Ok v made.there made.items
      (ap (λ t. effect ops.Tail t (list_at b job.other) job.arg) (base_means ∙ all))
      (omega (arith, l)) (rw there known)

-- ---- ends at the base's root

module _ {w : World} (law : IsLawful w) (job : EventJob) (kind : job.base.kind ≡ kinds.Stream) (xs : Ref) (here : recs w job.base.root.0 ≡ Some (StreamTop xs job.base.size)) where
  own_length : length (means (recs w) job.base.root.0) ≡ job.base.size
  own_length = top_length law job.base.root.0 xs job.base.size here

  own_root : holds (recs w) job.base.root.0 (is_root (recs w) kinds.Stream job.base.root.0) ≡ true
  own_root = rw here refl

  pub full_end : job.op ≡ ops.Cons → job.base.size ≡ 2147483647 → IsEnd w job job.base.root.0 job.base.size replies.TooLong
  full_end op full =
      let v = means (recs w) job.base.root.0 in
      end_of job kind ops.Cons op job.base.root job.base.size replies.TooLong v own_root refl (grown_long v (job.arg ∷ v) (omega (arith, own_length, full))) (sym own_length) refl

  pub long_end : job.op ≡ ops.Append → length (list_at w job.other) ≡ job.other.size → 2147483647 < job.base.size + job.other.size → IsEnd w job job.base.root.0 job.base.size replies.TooLong
  long_end op m long =
      let v = means (recs w) job.base.root.0 in
      let u = list_at w job.other in
      end_of job kind ops.Append op job.base.root job.base.size replies.TooLong v own_root refl (grown_long v (v ++ u) (let l = length-append v u in omega (arith, own_length, m, long, l))) (sym own_length) refl

  pub size_end : job.op ≡ ops.Size → IsEnd w job job.base.root.0 job.base.size (replies.Number job.base.size)
  size_end op = end_of job kind ops.Size op job.base.root job.base.size (replies.Number job.base.size) (means (recs w) job.base.root.0) own_root refl (rw own_length refl) (sym own_length) (rw here refl)

  -- of an empty stream
  pub empty_end : (op : Op) → job.op ≡ op → looks_at_first op 1 ≡ true → job.base.size ≡ 0 → IsEnd w job job.base.root.0 job.base.size replies.Empty
  empty_end op same look none = by op look same
    where
      m : means (recs w) job.base.root.0 ≡ []
      m = nil_from_length _ (own_length ∙ none)

      by : (op : Op) → looks_at_first op 1 ≡ true → job.op ≡ op → IsEnd w job job.base.root.0 job.base.size replies.Empty
      by ops.Head look same = end_of job kind ops.Head same job.base.root job.base.size replies.Empty [] own_root m (rw m refl) none refl
      by ops.Tail look same = end_of job kind ops.Tail same job.base.root job.base.size replies.Empty [] own_root m (rw m refl) none refl
      by _ look same = absurd (true≢false (sym look))

  pub head_end : job.op ≡ ops.Head → (x : ℕ) (rest : Ref) → value_at w xs.0 ≡ Some (Cons false x rest) → is_value w xs.0 ≡ true → IsEnd w job job.base.root.0 job.base.size (replies.Number x)
  head_end op x rest h known =
      let s = stream_of_top law job.base.root.0 xs job.base.size here in
      let c = stream_cell law xs.0 x rest s.stream s.items h in
      let all : means (recs w) job.base.root.0 ≡ x ∷ items_in (cells (recs w) rest.0) = top_means law job.base.root.0 xs job.base.size here ∙ ap items_in c.cell.cells_are in
      end_of job kind ops.Head op job.base.root job.base.size (replies.Number x) (means (recs w) job.base.root.0) own_root refl (rw all refl) (sym own_length) (rw here known)
