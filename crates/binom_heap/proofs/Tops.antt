-- Tops of heaps: what they say, what their puts ask, and what they mean.
use Rattle.std.proofs.Common.{◌≡◌, ℕ, zero, suc, ◌+◌, ◌^◌, ◌<◌, ◌≤◌, eqb, leb, ltb, refl, sym, ap, ◌∙◌, arith, true, ◌&&◌, Some, [], ◌∷◌, length}
use Rattle.std.proofs.lemmas.List.{append-nil}
use Rattle.std.proofs.lemmas.Bool.{true≢false, and_parts, and_from, eqb-true, eq-eqb, lt-ltb, leb-true, le-leb, or_right}
use Rattle.lazy_rec.specs.declared.places.Ref.{Ref}
use Rattle.lazy_rec.specs.declared.places.Item.{Item}
use Rattle.lazy_rec.specs.declared.records.Rec.{Rec}
use Rattle.lazy_rec.specs.declared.records.Rec.TheVariants.{HeapTop, TNil, HeapInsert, HeapMerge}
use Rattle.lazy_rec.specs.declared.records.Sort.TheVariants as sorts
use Rattle.lazy_rec.specs.declared.events.Kind.TheVariants as kinds
use Rattle.lazy_rec.specs.Named.{Records, sort_of, same_sort, is_pending}
use Rattle.lazy_rec.specs.Numbers.{ones, zeros}
use Rattle.lazy_rec.specs.Meaning.{means}
use Rattle.lazy_rec.specs.Plain.{rising}
use Rattle.heap_store.specs.World.{World, recs, holds}
use Rattle.heap_store.specs.Forest.{forest, is_tree_list}
use Rattle.heap_store.specs.Lawful.{IsLawful, is_heap_list, insert_steps_of, insert_steps, is_root, height}
use Rattle.heap_store.specs.Hand.{contains, brings}
use Rattle.heap_store.specs.Budget.{gain_at}
use Rattle.heap_store.specs.View.{View, IsLawfulView, Fits}
use Rattle.heap_store.proofs.NameLaws.{NamesWell}
use Rattle.heap_store.proofs.GrowthLaws.{at_true, sorts_agree}
use Rattle.heap_store.proofs.LawfulLaws.{lawful_names}
use Rattle.heap_store.proofs.MeaningLaws.{by_record_is, means_is}
use Rattle.heap_store.proofs.RecordLaws.{insert_look}
use Rattle.heap_store.proofs.HeightLaws.{height_most}
use Rattle.heap_store.proofs.UnitLaws.{free}
use Rattle.heap_store.proofs.RangeLaws.{range_fields, range_from}
use Rattle.heap_store.proofs.WellNamed.{names_well_all}
use Rattle.heap_store.proofs.ToldLaws.{laws_told}
use Rattle.heap_store.proofs.PutLaws.{published_fits, fits_value}
use Rattle.heap_store.proofs.FixedPlaces.{fixed_records}
use Rattle.binom_heap.specs.declared.heap.Top.{Top}
use Rattle.binom_heap.specs.Heap.{top_record, IsNewTop}
use Rattle.binom_heap.proofs.BinaryLaws.{by_halves, ones_even, ones_odd, ones_most, bits_most, zeros_none}
use Rattle.binom_heap.proofs.ForestItems.{items, rising_left}
use Rattle.binom_heap.proofs.TreeLaws.{means_forest, list_by_sort, forest_is, trees_only_is}
use Rattle.binom_heap.proofs.ListValues.{ListAt, list_there}

-- ---- numbers

some_ones : (n : ℕ) → n < 2 ^ 64 → 0 < n → 0 < ones n
some_ones n h = by_halves (λ n. 0 < n → 0 < ones n)
    (λ pos. absurd (omega (arith, pos)))
    (λ q pos low ih _. omega (arith, ih pos, ones_even q low))
    (λ q low ih _. omega (arith, ones_odd q low))
    n h

pub zeros_small : (n : ℕ) → n < 2 ^ 64 → zeros n < 64
zeros_small zero h = omega (arith, zeros_none)
zeros_small (suc n) h = omega (arith, some_ones (suc n) h (omega arith), ones_most (suc n), bits_most (suc n))

-- ---- what a top says

pub insert_steps_is : (a : Records) → NamesWell a → (p : ℕ) (r : Rec) → a p ≡ Some r → insert_steps a p ≡ insert_steps_of (insert_steps a) r
unfolding insert_steps
insert_steps_is = by_record_is 0 insert_steps_of insert_look

-- the top at the root of a heap
pub top_of_root : (w : World) (root : ℕ) → holds (recs w) root (is_root (recs w) kinds.Heap root) ≡ true → (t : Top) × (recs w root ≡ Some (top_record t))
top_of_root w root h = let k = at_true (is_root (recs w) kinds.Heap root) (recs w root) h in by k.0 k.1 k.2
  where
    by : (r : Rec) → recs w root ≡ Some r → same_sort (sort_of r) sorts.HeapTop ≡ true → (t : Top) × (recs w root ≡ Some (top_record t))
    by (HeapTop list size owed) e s = (record { list = list; size = size; owed = owed }, e)
    by _ e s = absurd (true≢false (sym s))

pub record OldTop (w : World) (p : ℕ) (t : Top) : Type 0 where
  pub list : ListAt w p t.list.0 t.size
  pub owed : t.owed ≤ zeros t.size
  pub newest : t.owed ≤ insert_steps (recs w) t.list.0
  pub means_are : means (recs w) p ≡ means (recs w) t.list.0

pub old_top : {w : World} → IsLawful w → (p : ℕ) (t : Top) → recs w p ≡ Some (top_record t) → OldTop w p t
old_top {w} law p t e =
    let h = law.each p _ e in
    let heap = and_parts (is_heap_list (recs w) t.list.0 && leb t.owed (zeros t.size)) (leb t.owed (insert_steps (recs w) t.list.0)) h.heap in
    let two = and_parts (is_heap_list (recs w) t.list.0) (leb t.owed (zeros t.size)) heap.0 in
    record {
      list = record { named = (lawful_names law p _ e).0; list_is = two.0; size_is = eqb-true t.size (length (means (recs w) t.list.0)) h.sizes; fits = (range_fields (top_record t) h.range).1.1.0 };
      owed = leb-true t.owed (zeros t.size) two.1;
      newest = leb-true t.owed (insert_steps (recs w) t.list.0) heap.1;
      means_are = means_is (recs w) (lawful_names law) p _ e;
    }

-- a list of a heap is in rising order
pub list_order : {w : World} → IsLawful w → (list : ℕ) (r : Rec) → recs w list ≡ Some r → sort_of r ≡ sorts.TreeList → rising (means (recs w) list) ≡ means (recs w) list
list_order {w} law list r e sort =
    let xs = items (forest (recs w) list) in
    let m = means_forest law list r e (list_by_sort r sort) in
    let twice : rising (rising xs) ≡ rising xs = ap rising (sym (append-nil (rising xs))) ∙ (rising_left xs [] ∙ ap rising (append-nil xs)) in
    rw m twice

pub at_order : {w : World} {p list size : ℕ} → IsLawful w → ListAt w p list size → rising (means (recs w) list) ≡ means (recs w) list
at_order {w} {p} {list} law k = list_order law list k.named.1 k.named.2 k.named.3

-- ---- suspended inserts and merges that are put

own_origin : (p : ℕ) → eqb p p ≡ true
own_origin p = eq-eqb p p refl

pub fits_insert : {v : View} → IsLawfulView v → (p : ℕ) → contains v.hand.reserved p ≡ true → (item : Item) (list : Ref) (size : ℕ) → item.0 < 18446744073709551616 → ListAt v.seen p list.0 size → Fits v p (HeapInsert item list size)
fits_insert {v} law p held item list size fits k =
    let rs = recs v.seen in
    let is = list_there k in
    record {
      laws = laws_told law p held (HeapInsert item list size) (record {
        range = range_from (HeapInsert item list size) (omega arith, (fits, (published_fits law list.0 is, (k.fits, tt)))) refl;
        names = names_well_all rs rs (λ q r e. e) p ((list.0, sorts.TreeList) ∷ []) (k.named, tt);
        sizes = eq-eqb size (length (means rs list.0)) k.size_is;
        unmixed = refl;
        bank_queue = refl;
        rt_queue = refl;
        heap = k.list_is;
        cat = refl;
        finger = refl;
        heights = and_from (ltb (height rs list.0) p) true (lt-ltb (height rs list.0) p (omega (arith, height_most law.world list.0 is, k.named.0))) refl;
      });
      origin = own_origin p;
      follows = λ i e. absurd (let z : 0 ≡ suc i = e in omega (arith, z));
      settled = refl;
      paid = free v.seen p (HeapInsert item list size) (v.hand.credits + brings rs v.hand.claims) refl;
    }

pub fits_merge : {v : View} → IsLawfulView v → (p : ℕ) → contains v.hand.reserved p ≡ true → (list1 list2 : Ref) (n1 n2 : ℕ) → ListAt v.seen p list1.0 n1 → ListAt v.seen p list2.0 n2 → Fits v p (HeapMerge list1 list2 n1 n2)
fits_merge {v} law p held list1 list2 n1 n2 k1 k2 =
    let rs = recs v.seen in
    let is1 = list_there k1 in
    let is2 = list_there k2 in
    record {
      laws = laws_told law p held (HeapMerge list1 list2 n1 n2) (record {
        range = range_from (HeapMerge list1 list2 n1 n2) (omega arith, (published_fits law list1.0 is1, (published_fits law list2.0 is2, (k1.fits, (k2.fits, tt))))) refl;
        names = names_well_all rs rs (λ q r e. e) p ((list1.0, sorts.TreeList) ∷ (list2.0, sorts.TreeList) ∷ []) (k1.named, (k2.named, tt));
        sizes = and_from (eqb n1 (length (means rs list1.0))) (eqb n2 (length (means rs list2.0))) (eq-eqb n1 (length (means rs list1.0)) k1.size_is) (eq-eqb n2 (length (means rs list2.0)) k2.size_is);
        unmixed = refl;
        bank_queue = refl;
        rt_queue = refl;
        heap = and_from (is_heap_list rs list1.0) (is_heap_list rs list2.0) k1.list_is k2.list_is;
        cat = refl;
        finger = refl;
        heights = and_from (ltb (height rs list1.0) p) (ltb (height rs list2.0) p && true) (lt-ltb (height rs list1.0) p (omega (arith, height_most law.world list1.0 is1, k1.named.0)))
            (and_from (ltb (height rs list2.0) p) true (lt-ltb (height rs list2.0) p (omega (arith, height_most law.world list2.0 is2, k2.named.0))) refl);
      });
      origin = own_origin p;
      follows = λ i e. absurd (let z : 0 ≡ suc i = e in omega (arith, z));
      settled = refl;
      paid = free v.seen p (HeapMerge list1 list2 n1 n2) (v.hand.credits + brings rs v.hand.claims) refl;
    }

-- ---- tops that are put

pub new_list : {w : World} {t : Top} {place : ℕ} → IsNewTop w t place → ListAt w place t.list.0 t.size
new_list {w} {t} {place} k =
    let n = at_true (λ r. same_sort (sort_of r) sorts.TreeList) (recs w t.list.0) k.there in
    record { named = (k.low, n.0, n.1, sorts_agree (sort_of n.0) sorts.TreeList n.2); list_is = k.list_is; size_is = k.size_is; fits = omega (arith, k.fits) }

pub new_top : {w : World} {t : Top} {place : ℕ} → ListAt w place t.list.0 t.size → t.owed ≤ zeros t.size → t.owed ≤ insert_steps (recs w) t.list.0 → IsNewTop w t place
new_top {w} {t} {place} k owed newest = record {
  there = (let e = k.named.2 in let s = k.named.3 in rw (e, s) refl);
  low = k.named.0;
  list_is = k.list_is;
  size_is = k.size_is;
  fits = omega (arith, k.fits);
  owed = owed;
  newest = newest;
}

pub fits_top : {v : View} → IsLawfulView v → (p : ℕ) → contains v.hand.reserved p ≡ true → (t : Top) → IsNewTop v.seen t p → gain_at v.seen p (top_record t) ≤ v.hand.credits → Fits v p (top_record t)
fits_top {v} law p held t n gain =
    let rs = recs v.seen in
    let k = new_list n in
    fits_value p (top_record t) refl (laws_told law p held (top_record t) (record {
      range = range_from (top_record t) (omega arith, (published_fits law t.list.0 (list_there k), (k.fits, (omega (arith, n.owed, zeros_small t.size (omega (arith, k.fits))), tt)))) refl;
      names = names_well_all rs rs (λ q r e. e) p ((t.list.0, sorts.TreeList) ∷ []) (k.named, tt);
      sizes = eq-eqb t.size (length (means rs t.list.0)) k.size_is;
      unmixed = refl;
      bank_queue = refl;
      rt_queue = refl;
      heap = and_from (is_heap_list rs t.list.0 && leb t.owed (zeros t.size)) (leb t.owed (insert_steps rs t.list.0)) (and_from (is_heap_list rs t.list.0) (leb t.owed (zeros t.size)) k.list_is (le-leb t.owed (zeros t.size) n.owed)) (le-leb t.owed (insert_steps rs t.list.0) n.newest);
      cat = refl;
      finger = refl;
      heights = refl;
    })) (omega (arith, gain))

-- the list without trees
pub empty_list : {w : World} → IsLawful w → (p : ℕ) → 2 < p → ListAt w p 2 0
empty_list {w} law p low =
    let names = lawful_names law in
    let nil = (fixed_records law).tree_nil in
    let only = trees_only_is (recs w) names 2 TNil nil in
    let f = forest_is (recs w) names 2 TNil nil in
    let m = means_is (recs w) names 2 TNil nil in
    record {
      named = (low, TNil, nil, refl);
      list_is = or_right (holds (recs w) 2 is_pending) (is_tree_list (recs w) 2) (rw (only, f) refl);
      size_is = rw m refl;
      fits = omega arith;
    }
