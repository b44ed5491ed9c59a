-- One kind's pending work as work of any kind.
use Rattle.std.proofs.Common.{◌≡◌, ℕ, refl, sym, ◌∙◌, Bool, true, Some}
use Rattle.std.proofs.Math.Path.{subst, subst⁻¹}
use Rattle.std.proofs.lemmas.Bool.{true≢false, and_parts, and_from}
use Rattle.lazy_rec.specs.declared.places.Ref.{Ref}
use Rattle.lazy_rec.specs.declared.records.Rec.{Rec}
use Rattle.lazy_rec.specs.declared.records.Rec.TheVariants.{Append, Reverse, BankRot, RtRot, HeapInsert, HeapMerge, PushL, PushR, DeepL, DeepR, Concat}
use Rattle.lazy_rec.specs.Named.{is_pending}
use Rattle.heap_store.specs.declared.jobs.Prep.{Prep}
use Rattle.heap_store.specs.declared.jobs.Prep.TheVariants.{Need, Ready}
use Rattle.heap_store.specs.Span.{Span}
use Rattle.heap_store.specs.World.{World, recs}
use Rattle.heap_store.specs.Lawful.{is_any_bank_rotation, is_any_rt_rotation}
use Rattle.heap_store.specs.View.{View, Quiet}
use Rattle.heap_store.specs.OneStage.{nothing_told}
use Rattle.heap_store.specs.Jobs.{Readiness, IsWork, Prepared, IsBuildable}
use Rattle.heap_store.proofs.ShowLaws.{one_value}
use Rattle.heap_store.proofs.FillLaws.{buildable_quiet}
use Rattle.lazy_stream.specs.Stream.{is_stream_work}
use Rattle.binom_heap.specs.Work.{is_heap_work, heap_told}
use Rattle.finger_tree.specs.Work.{is_finger_work, LevelTold}
use Rattle.kind_table.specs.Kinds.{is_any_work, told_of, told_by}

-- the kind's work is some kind's, and what is told of it is what the kind tells
pub record IsKind (mine : Rec → Bool) (told : Readiness) : Type 1 where
  pub work : (r : Rec) → mine r ≡ true → is_any_work r ≡ true
  pub tells : (w : World) (s nodes : ℕ) (r : Rec) → mine r ≡ true → told_of w s nodes (Some r) ≡ told w s nodes

-- a suspension whose record was read, and is of the kind
module _ {mine : Rec → Bool} {told : Readiness} (kind : IsKind mine told) {a b : View} (quiet : Quiet a b) (s : Ref) {r : Rec} (here : recs a.seen s.0 ≡ Some r) (is : mine r ≡ true) where
  stays : recs b.seen s.0 ≡ Some r
  stays = quiet.grows.records s.0 r here

  -- it is the kind's work
  pub own_work : IsWork is_any_work a.seen s.0 → IsWork mine b.seen s.0
  own_work work = rw stays (and_from (is_pending r) (mine r) (and_parts (is_pending r) (is_any_work r) (rw here at work)).0 is)

  -- what the kind's prepare answers is what any kind's would
  pub any_prepared : (p : Prep) → Prepared mine told b.seen s.0 p → Prepared is_any_work told_by b.seen s.0 p
  any_prepared (Need t) k =
      let there = k.there in
      let both = and_parts (is_pending k.other) (mine k.other) (rw there at k.work) in
      record {
        rec = k.rec;
        here = k.here;
        need = k.need;
        other = k.other;
        there = there;
        work = rw there (and_from (is_pending k.other) (is_any_work k.other) both.0 (kind.work k.other both.1));
        lower = k.lower;
        not_done = k.not_done;
        funded = k.funded;
      }
  any_prepared (Ready nodes) k = record {
    rec = k.rec;
    here = k.here;
    needs = k.needs;
    told = rw stays (subst⁻¹ (λ t. t) (kind.tells b.seen s.0 nodes r is) k.told);
    most = k.most;
    exact = k.exact;
  }

  -- what is told of any kind is what the kind's build asks
  pub own_buildable : {run : Span} → IsBuildable told_by a s run → IsBuildable told b s run
  own_buildable {run} k =
      let same : k.ready.rec ≡ r = one_value _ _ (sym (k.base_grows.records _ _ k.ready.here) ∙ here) in
      let base_here : recs k.base s.0 ≡ Some r = rw same at k.ready.here in
      let own : IsBuildable told a s run = record {
        base = k.base;
        base_lawful = k.base_lawful;
        base_grows = k.base_grows;
        nodes = k.nodes;
        ready = record {
          rec = k.ready.rec;
          here = k.ready.here;
          needs = k.ready.needs;
          told = subst (λ t. t) (kind.tells k.base s.0 k.nodes r is) (rw base_here at k.ready.told);
          most = k.ready.most;
          exact = k.ready.exact;
        };
        above = k.above;
        size = k.size;
        held = k.held;
        newest = k.newest;
      } in
      buildable_quiet own quiet

-- ---- the kinds that tell nothing

pub streams : IsKind is_stream_work nothing_told
streams = record { work = works; tells = tells }
  where
    works : (r : Rec) → is_stream_work r ≡ true → is_any_work r ≡ true
    works (Append _ _ _ _ _) h = refl
    works (Reverse _ _) h = refl
    works _ h = absurd (true≢false (sym h))

    tells : (w : World) (s nodes : ℕ) (r : Rec) → is_stream_work r ≡ true → told_of w s nodes (Some r) ≡ nothing_told w s nodes
    tells w s nodes (Append _ _ _ _ _) h = refl
    tells w s nodes (Reverse _ _) h = refl
    tells w s nodes _ h = absurd (true≢false (sym h))

pub bank_queues : IsKind is_any_bank_rotation nothing_told
bank_queues = record { work = works; tells = tells }
  where
    works : (r : Rec) → is_any_bank_rotation r ≡ true → is_any_work r ≡ true
    works (BankRot _ _ _ _ _) h = refl
    works _ h = absurd (true≢false (sym h))

    tells : (w : World) (s nodes : ℕ) (r : Rec) → is_any_bank_rotation r ≡ true → told_of w s nodes (Some r) ≡ nothing_told w s nodes
    tells w s nodes (BankRot _ _ _ _ _) h = refl
    tells w s nodes _ h = absurd (true≢false (sym h))

pub rt_queues : IsKind is_any_rt_rotation nothing_told
rt_queues = record { work = works; tells = tells }
  where
    works : (r : Rec) → is_any_rt_rotation r ≡ true → is_any_work r ≡ true
    works (RtRot _ _ _ _ _ _) h = refl
    works _ h = absurd (true≢false (sym h))

    tells : (w : World) (s nodes : ℕ) (r : Rec) → is_any_rt_rotation r ≡ true → told_of w s nodes (Some r) ≡ nothing_told w s nodes
    tells w s nodes (RtRot _ _ _ _ _ _) h = refl
    tells w s nodes _ h = absurd (true≢false (sym h))

-- ---- the kinds that tell more

pub heaps : IsKind is_heap_work heap_told
heaps = record { work = works; tells = tells }
  where
    works : (r : Rec) → is_heap_work r ≡ true → is_any_work r ≡ true
    works (HeapInsert _ _ _) h = refl
    works (HeapMerge _ _ _ _) h = refl
    works _ h = absurd (true≢false (sym h))

    tells : (w : World) (s nodes : ℕ) (r : Rec) → is_heap_work r ≡ true → told_of w s nodes (Some r) ≡ heap_told w s nodes
    tells w s nodes (HeapInsert _ _ _) h = refl
    tells w s nodes (HeapMerge _ _ _ _) h = refl
    tells w s nodes _ h = absurd (true≢false (sym h))

pub finger_trees : IsKind is_finger_work LevelTold
finger_trees = record { work = works; tells = tells }
  where
    works : (r : Rec) → is_finger_work r ≡ true → is_any_work r ≡ true
    works (PushL _ _ _ _ _ _ _ _) h = refl
    works (PushR _ _ _ _ _ _ _ _) h = refl
    works (DeepL _ _ _ _ _ _) h = refl
    works (DeepR _ _ _ _ _ _) h = refl
    works (Concat _ _ _ _ _ _ _) h = refl
    works _ h = absurd (true≢false (sym h))

    tells : (w : World) (s nodes : ℕ) (r : Rec) → is_finger_work r ≡ true → told_of w s nodes (Some r) ≡ LevelTold w s nodes
    tells w s nodes (PushL _ _ _ _ _ _ _ _) h = refl
    tells w s nodes (PushR _ _ _ _ _ _ _ _) h = refl
    tells w s nodes (DeepL _ _ _ _ _ _) h = refl
    tells w s nodes (DeepR _ _ _ _ _ _) h = refl
    tells w s nodes (Concat _ _ _ _ _ _ _) h = refl
    tells w s nodes _ h = absurd (true≢false (sym h))
