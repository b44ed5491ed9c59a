-- Heaps that are melded, and the empty heap.
use Rattle.std.proofs.Common.{◌≡◌, ℕ, ◌+◌, ◌<◌, ◌≤◌, refl, sym, ap, ◌∙◌, arith, eqb, leb, Bool, true, false, cond, ◌||◌, Some, [], ◌++◌, length}
use Rattle.std.proofs.lemmas.List.{append-nil, length-append, nil_from_length}
use Rattle.std.proofs.lemmas.Bool.{or_left, or_right, cond-true, cond-false, eq-eqb, ne_eqb, le-leb, lt-leb}
use Rattle.lazy_rec.specs.declared.places.Ref.{Ref}
use Rattle.lazy_rec.specs.declared.records.Rec.TheVariants.{TNil, HeapMerge}
use Rattle.lazy_rec.specs.Named.{is_pending}
use Rattle.lazy_rec.specs.Meaning.{means}
use Rattle.lazy_rec.specs.Plain.{rising}
use Rattle.lazy_rec.specs.Units.{paid}
use Rattle.lazy_rec.proofs.PlainLaws.{length-rising}
use Rattle.heap_store.specs.Span.{Span}
use Rattle.heap_store.specs.World.{World, recs, holds}
use Rattle.heap_store.specs.Growth.{Grows}
use Rattle.heap_store.specs.Forest.{is_tree_list}
use Rattle.heap_store.specs.Lawful.{IsLawful}
use Rattle.heap_store.specs.Hand.{contains}
use Rattle.heap_store.specs.Budget.{gain_at}
use Rattle.heap_store.specs.View.{View, IsLawfulView, Put, Fits}
use Rattle.heap_store.specs.Jobs.{Filled}
use Rattle.heap_store.proofs.LawfulLaws.{lawful_names}
use Rattle.heap_store.proofs.MeaningLaws.{means_is, means_kept}
use Rattle.heap_store.proofs.FixedPlaces.{fixed_records, above_fixed}
use Rattle.heap_store.proofs.FillLaws.{Filled_trans}
use Rattle.binom_heap.specs.declared.heap.Top.{Top}
use Rattle.binom_heap.specs.Laying.{Puts}
use Rattle.binom_heap.specs.Heap.{top_record, IsNewTop, IsShownTop, meld_places, meld_price, MayMeld, Melded}
use Rattle.binom_heap.proofs.ListUnits.{list_units_is}
use Rattle.binom_heap.proofs.ListValues.{ListAt, list_there}
use Rattle.binom_heap.proofs.RunLaws.{puts_none, puts_put, next_held}
use Rattle.binom_heap.proofs.Tops.{old_top, at_order, new_list, new_top, empty_list, fits_merge}
use Rattle.binom_heap.proofs.TopGains.{top_shown, shown_up, shown_gain, meld_gain}

-- ---- the empty heap

abbrev pub empty_top : Top
empty_top = record { list = record { 0 = 2 }; size = 0; owed = 0 }

pub empty_paid : {w : World} → IsLawful w → (p : ℕ) → paid (recs w) p (top_record empty_top) ≡ []
empty_paid {w} law p = let e = list_units_is (recs w) (lawful_names law) 2 TNil (fixed_records law).tree_nil in rw e refl

pub empty_new : {v : View} → IsLawfulView v → (p : ℕ) → contains v.hand.reserved p ≡ true → IsNewTop v.seen empty_top p
empty_new law p held = new_top (empty_list law.world p (omega (arith, above_fixed law p held))) (omega arith) (omega arith)

pub empty_means : {w : World} → IsLawful w → (p : ℕ) → recs w p ≡ Some (top_record empty_top) → means (recs w) p ≡ []
empty_means {w} law p e = means_is (recs w) (lawful_names law) p _ e ∙ means_is (recs w) (lawful_names law) 2 TNil (fixed_records law).tree_nil

-- ---- lists of tops, and of a larger world

pub list_raise : {w : World} {p q list size : ℕ} → p ≤ q → ListAt w p list size → ListAt w q list size
list_raise le k = record { named = (omega (arith, k.named.0, le), k.named.1, k.named.2, k.named.3); list_is = k.list_is; size_is = k.size_is; fits = k.fits }

pub means_up : {a b : World} {p list size : ℕ} → IsLawful a → Grows a b → ListAt a p list size → means (recs b) list ≡ means (recs a) list
means_up {a} {b} {p} {list} law x k = sym (means_kept (recs a) (recs b) (lawful_names law) x.records list (list_there k))

-- a published top may be published again, and shows nothing new
pub again_top : {w : World} → IsLawful w → (root : ℕ) (t : Top) → recs w root ≡ Some (top_record t) → (place : ℕ) → root < place → IsShownTop w t place
again_top {w} law root t e place low =
    let o = old_top law root t e in
    record { top = new_top (list_raise (omega (arith, low)) o.list) o.owed o.newest; shown = top_shown w place root t e }

pub no_items : {w : World} {p list : ℕ} → ListAt w p list 0 → means (recs w) list ≡ []
no_items {w} {p} {list} k = nil_from_length (means (recs w) list) (sym k.size_is)

-- what a meld with an empty side makes
module _ {v new : View} (law : IsLawfulView v) (law' : IsLawfulView new) (run run' : Span) (first second : Top) (k : MayMeld v run first second) (place : ℕ) (filled : Filled v new run.next run.end) (spent : run'.next ≡ run'.end) where
  first_list : ListAt v.seen run.next first.list.0 first.size
  first_list = new_list k.first_is.top

  second_list : ListAt v.seen run.next second.list.0 second.size
  second_list = new_list k.second_is.top

  again_melded : (t : Top) → recs new.seen place ≡ Some (top_record t) → means (recs new.seen) t.list.0 ≡ rising (means (recs v.seen) first.list.0 ++ means (recs v.seen) second.list.0) → v.hand.credits ≤ new.hand.credits + gain_at v.seen run.next (top_record t) → gain_at v.seen run.next (top_record t) ≤ 0 → Melded v new run run' first second place
  again_melded t e m credits gain = record {
    filled = filled;
    spent = spent;
    root = rw e refl;
    items = (old_top law'.world place t e).means_are ∙ m;
    credits = omega (arith, credits, gain);
  }

  pub first_empty : first.size ≡ 0 → recs new.seen place ≡ Some (top_record second) → v.hand.credits ≤ new.hand.credits + gain_at v.seen run.next (top_record second) → Melded v new run run' first second place
  first_empty z e credits =
      let none = no_items (rw z at first_list) in
      let all : rising (means (recs v.seen) first.list.0 ++ means (recs v.seen) second.list.0) ≡ means (recs v.seen) second.list.0 = rw none (at_order law.world second_list) in
      again_melded second e (means_up law.world filled.grows second_list ∙ sym all) credits (shown_gain v.seen run.next second k.second_is.shown)

  pub second_empty : second.size ≡ 0 → recs new.seen place ≡ Some (top_record first) → v.hand.credits ≤ new.hand.credits + gain_at v.seen run.next (top_record first) → Melded v new run run' first second place
  second_empty z e credits =
      let none = no_items (rw z at second_list) in
      let all : rising (means (recs v.seen) first.list.0 ++ means (recs v.seen) second.list.0) ≡ means (recs v.seen) first.list.0 = rw (none, append-nil (means (recs v.seen) first.list.0)) (at_order law.world first_list) in
      again_melded first e (means_up law.world filled.grows first_list ∙ sym all) credits (shown_gain v.seen run.next first k.first_is.shown)

-- ---- a suspended merge

module _ {v : View} (law : IsLawfulView v) (run : Span) (first second : Top) (k : MayMeld v run first second) where
  list1 : ListAt v.seen run.next first.list.0 first.size
  list1 = new_list k.first_is.top

  list2 : ListAt v.seen run.next second.list.0 second.size
  list2 = new_list k.second_is.top

  pub merge_fits : run.next < run.end → Fits v run.next (HeapMerge first.list second.list first.size second.size)
  merge_fits left = fits_merge law run.next (next_held k.held left) first.list second.list first.size second.size list1 list2

  module _ {v1 : View} (law1 : IsLawfulView v1) (run1 : Span) (list : Ref) (p : Put v v1 run.next (HeapMerge first.list second.list first.size second.size)) (at1 : run1 ≡ record run { next = run.next + 1 }) (list_is : list.0 ≡ run.next) where
    abbrev merged : Top
    merged = record { list = list; size = first.size + second.size; owed = 0 }

    pub merge_puts : Puts v v1 run run1 1
    merge_puts = puts_put (puts_none v run k.held) p at1 refl

    here : recs v1.seen list.0 ≡ Some (HeapMerge first.list second.list first.size second.size)
    here = rw list_is p.here

    merge_means : means (recs v1.seen) list.0 ≡ rising (means (recs v.seen) first.list.0 ++ means (recs v.seen) second.list.0)
    merge_means =
        let m1 = means_up law.world p.grows list1 in
        let m2 = means_up law.world p.grows list2 in
        means_is (recs v1.seen) (lawful_names law1.world) list.0 _ here ∙ rw (m1, m2) refl

    merge_size : first.size + second.size ≡ length (means (recs v1.seen) list.0)
    merge_size =
        let m = ap length merge_means ∙ (length-rising (means (recs v.seen) first.list.0 ++ means (recs v.seen) second.list.0) ∙ length-append (means (recs v.seen) first.list.0) (means (recs v.seen) second.list.0)) in
        omega (arith, m, list1.size_is, list2.size_is)

    pub merge_new : IsNewTop v1.seen merged run1.next
    merge_new =
        let e = here in
        new_top (record { named = (rw (at1, list_is) (omega arith), HeapMerge first.list second.list first.size second.size, here, refl); list_is = or_left (holds (recs v1.seen) list.0 is_pending) (is_tree_list (recs v1.seen) list.0) (rw e refl); size_is = merge_size; fits = omega (arith, k.fits) }) (omega arith) (omega arith)

    pub merge_pays : gain_at v1.seen run1.next (top_record merged) ≤ meld_price first second
    merge_pays =
        let s1 = shown_up law.world p.grows run.next first (list_there list1) k.first_is.shown in
        let s2 = shown_up law.world p.grows run.next second (list_there list2) k.second_is.shown in
        meld_gain law1.world run1.next run.next first second list (first.size + second.size) s1 s2 here

    pub merge_melded : {v2 : View} → IsLawfulView v2 → (run2 : Span) (place : ℕ) → run1.next + 1 ≡ run1.end → Filled v1 v2 run1.next run1.end → run2.next ≡ run2.end → recs v2.seen place ≡ Some (top_record merged) → v1.hand.credits ≤ v2.hand.credits + gain_at v1.seen run1.next (top_record merged) → Melded v v2 run run2 first second place
    merge_melded {v2} law2 run2 place whole filled spent e credits =
        let all = Filled_trans (omega (arith, merge_puts.next)) (omega (arith, whole)) merge_puts.filled filled in
        let same = merge_puts.same_end in
        record {
          filled = rw same at all;
          spent = spent;
          root = rw e refl;
          items = (old_top law2.world place merged e).means_are ∙ (sym (means_kept (recs v1.seen) (recs v2.seen) (lawful_names law1.world) filled.grows.records list.0 (HeapMerge first.list second.list first.size second.size, here)) ∙ merge_means);
          credits = omega (arith, credits, merge_pays, merge_puts.credits);
        }

-- ---- the places of a meld

meld_fits : (n m : ℕ) → n + m ≤ 2147483647 → meld_places n m ≡ cond (eqb n 0 || eqb m 0) 1 2
meld_fits n m le = cond-true (leb (n + m) 2147483647) _ 0 (le-leb (n + m) 2147483647 le)

pub one_place1 : (n m : ℕ) → n + m ≤ 2147483647 → n ≡ 0 → meld_places n m ≡ 1
one_place1 n m le z = meld_fits n m le ∙ cond-true (eqb n 0 || eqb m 0) 1 2 (or_left (eqb n 0) (eqb m 0) (eq-eqb n 0 z))

pub one_place2 : (n m : ℕ) → n + m ≤ 2147483647 → m ≡ 0 → meld_places n m ≡ 1
one_place2 n m le z = meld_fits n m le ∙ cond-true (eqb n 0 || eqb m 0) 1 2 (or_right (eqb n 0) (eqb m 0) (eq-eqb m 0 z))

pub two_places : (n m : ℕ) → n + m ≤ 2147483647 → (n ≡ 0 → ⊥) → (m ≡ 0 → ⊥) → meld_places n m ≡ 2
two_places n m le a b = meld_fits n m le ∙ (let x = ne_eqb n 0 a in let y = ne_eqb m 0 b in rw (x, y) refl)

pub no_place : (n m : ℕ) → 2147483647 < n + m → meld_places n m ≡ 0
no_place n m lt = cond-false (leb (n + m) 2147483647) _ 0 (lt-leb (n + m) 2147483647 lt)

pub some_place : (n m : ℕ) → n + m ≤ 2147483647 → 1 ≤ meld_places n m
some_place n m le = rw (meld_fits n m le) (go (eqb n 0 || eqb m 0))
  where
    go : (b : Bool) → 1 ≤ cond b 1 2
    go true = omega arith
    go false = omega arith
