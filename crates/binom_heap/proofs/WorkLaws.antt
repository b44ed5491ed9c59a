-- Pending inserts and merges: what they need, and what their builds ask.
use Rattle.std.proofs.Common.{◌≡◌, ℕ, ◌+◌, eqb, refl, sym, ap, ◌∙◌, arith, ⊎_elim, true, false, ◌&&◌, ◌||◌, Some}
use Rattle.std.specs.List.{list_all, list_any}
use Rattle.std.proofs.lemmas.Bool.{true≢false, and_from, eq-eqb, or_left, or_right}
use Rattle.lazy_rec.specs.declared.places.Ref.{Ref}
use Rattle.lazy_rec.specs.declared.places.Item.{Item}
use Rattle.lazy_rec.specs.declared.records.Rec.{Rec}
use Rattle.lazy_rec.specs.declared.records.Rec.TheVariants.{TNil, TCons, HeapInsert, HeapMerge}
use Rattle.lazy_rec.specs.Named.{sort_of, same_sort, is_pending}
use Rattle.lazy_rec.specs.declared.records.Sort.TheVariants as sorts
use Rattle.heap_store.specs.Span.{Span}
use Rattle.heap_store.specs.World.{World, recs, is_value}
use Rattle.heap_store.specs.Lawful.{IsLawful, needs, height}
use Rattle.heap_store.specs.View.{View}
use Rattle.heap_store.specs.Jobs.{IsNeed, IsReady, IsBuildable}
use Rattle.heap_store.proofs.ShowLaws.{one_value}
use Rattle.heap_store.proofs.HeightLaws.{height_is, height_most}
use Rattle.heap_store.proofs.ReadLaws.{holds_at, holds_from}
use Rattle.heap_store.proofs.ValueLaws.{Waits}
use Rattle.heap_store.proofs.Steps.{ready_is}
use Rattle.binom_heap.specs.Work.{is_heap_work, insert_places, merge_places_of, work_places, heap_told}
use Rattle.binom_heap.proofs.ListUnits.{StandsOn}
use Rattle.binom_heap.proofs.PaidWork.{need_funded}
use Rattle.binom_heap.proofs.PlacesLaws.{places_few}
use Rattle.binom_heap.proofs.ListValues.{ListAt, merge_list1, merge_list2}

-- ---- needs

work_waits : (r : Rec) → is_heap_work r ≡ true → is_pending r ≡ true
work_waits (HeapInsert _ _ _) h = refl
work_waits (HeapMerge _ _ _ _) h = refl
work_waits _ h = absurd (true≢false (sym h))

-- a suspended list is an insert or a merge
pub list_work : (r : Rec) → sort_of r ≡ sorts.TreeList → is_pending r ≡ true → is_heap_work r ≡ true
list_work r e pend = by r (ap (λ s. same_sort s sorts.TreeList) e) pend
  where
    by : (r : Rec) → same_sort (sort_of r) sorts.TreeList ≡ true → is_pending r ≡ true → is_heap_work r ≡ true
    by (HeapInsert _ _ _) s p = refl
    by (HeapMerge _ _ _ _) s p = refl
    by TNil s p = absurd (true≢false (sym p))
    by (TCons _ _) s p = absurd (true≢false (sym p))
    by _ s p = absurd (true≢false (sym s))

own_height : {w : World} → IsLawful w → (s : ℕ) (r : Rec) → recs w s ≡ Some r → is_heap_work r ≡ true → height (recs w) s ≡ s
own_height law s (HeapInsert item list size) e h = height_is law s _ e
own_height law s (HeapMerge list1 list2 n1 n2) e h = height_is law s _ e
own_height law s _ e h = absurd (true≢false (sym h))

stands_need : (w : World) (r : Rec) (q : ℕ) → StandsOn r q → list_any (λ t. eqb t q) (needs w r) ≡ true
stands_need w (HeapInsert item list size) q on = or_left (eqb list.0 q) false (eq-eqb list.0 q (sym on))
stands_need w (HeapMerge list1 list2 n1 n2) q on = ⊎_elim (λ k. or_left (eqb list1.0 q) (eqb list2.0 q || false) (eq-eqb list1.0 q (sym k))) (λ k. or_right (eqb list1.0 q) (eqb list2.0 q || false) (or_left (eqb list2.0 q) false (eq-eqb list2.0 q (sym k)))) on
stands_need w _ q on = absurd on

-- a list that work stands on and that isn't done is its need, and paid for where it is
pub need_of : {w : World} → IsLawful w → (s : ℕ) (r : Rec) → recs w s ≡ Some r → is_heap_work r ≡ true → (q size : ℕ) → StandsOn r q → ListAt w s q size → Waits w q → IsNeed is_heap_work w s q
need_of {w} law s r e work q size on k waits =
    let t = k.named.1 in
    let f = k.named.2 in
    let pend = holds_at (recs w) q is_pending t waits.pending f in
    let work' = list_work t k.named.3 pend in
    record {
      rec = r;
      here = e;
      need = stands_need w r q on;
      other = t;
      there = f;
      work = holds_from (recs w) q (λ z. is_pending z && is_heap_work z) t f (and_from (is_pending t) (is_heap_work t) pend work');
      lower = omega (arith, own_height law s r e work, height_most law q (t, f), k.named.0);
      not_done = waits.undone;
      funded = λ paid. need_funded law s r e work paid q t f work' on;
    }

-- ---- ready

told_of : (w : World) (s nodes : ℕ) (r : Rec) → recs w s ≡ Some r → nodes ≡ work_places r → heap_told w s nodes
told_of w s nodes r e n q f work = n ∙ ap work_places (one_value r q (sym e ∙ f))

none_exact : (P : Type 0) → false ≡ true → P
none_exact P h = absurd (true≢false (sym h))

pub insert_ready : {w : World} → IsLawful w → (s : ℕ) (item : Item) (list : Ref) (size : ℕ) → recs w s ≡ Some (HeapInsert item list size) → is_value w list.0 ≡ true → IsReady heap_told w s (insert_places size)
insert_ready {w} law s item list size e known = record {
  rec = HeapInsert item list size;
  here = e;
  needs = and_from (is_value w list.0) true known refl;
  told = told_of w s (insert_places size) _ e refl;
  most = omega arith;
  exact = none_exact _;
}

pub merge_ready : {w : World} → IsLawful w → (s : ℕ) (list1 list2 : Ref) (n1 n2 : ℕ) → recs w s ≡ Some (HeapMerge list1 list2 n1 n2) → is_value w list1.0 ≡ true → is_value w list2.0 ≡ true → IsReady heap_told w s (merge_places_of n1 n2)
merge_ready {w} law s list1 list2 n1 n2 e known1 known2 =
    let k1 = merge_list1 law s list1 list2 n1 n2 e in
    let k2 = merge_list2 law s list1 list2 n1 n2 e in
    record {
      rec = HeapMerge list1 list2 n1 n2;
      here = e;
      needs = and_from (is_value w list1.0) (is_value w list2.0 && true) known1 (and_from (is_value w list2.0) true known2 refl);
      told = told_of w s (merge_places_of n1 n2) _ e refl;
      most = omega (arith, places_few n1 n2 (omega (arith, k1.fits)) (omega (arith, k1.fits, k2.fits)));
      exact = none_exact _;
    }

-- ---- what a build finds

-- the base of a build shows the record with its needs done, and has the values of its lists below the run
pub record WorkBase (v : View) (base : World) (run : Span) (s : ℕ) (r : Rec) : Type 0 where
  pub here : recs base s ≡ Some r
  pub needs : list_all (is_value base) (needs base r) ≡ true
  pub room : run.next + work_places r ≡ run.end

pub work_base : {v : View} {s : Ref} {run : Span} (b : IsBuildable heap_told v s run) (r : Rec) → recs v.seen s.0 ≡ Some r → is_heap_work r ≡ true → WorkBase v b.base run s.0 r
work_base {v} {s} {run} b r e work =
    let same : b.ready.rec ≡ r = ready_is b r e in
    let here : recs b.base s.0 ≡ Some r = b.ready.here ∙ ap Some same in
    let n = b.ready.told r here work in
    record { here = here; needs = (let k = b.ready.needs in rw same at k); room = (let z = b.size in rw (← n) z) }
