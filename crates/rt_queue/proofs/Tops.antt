-- What the top of a queue says, and what its put asks.
use Rattle.std.proofs.Common.{◌≡◌, ℕ, zero, suc, ◌+◌, ◌<◌, ◌≤◌, eqb, leb, refl, sym, ap, ◌∙◌, arith, subst, true, ◌&&◌, Option, Some, None, length}
use Rattle.std.specs.List.{AllByRecursion}
use Rattle.std.proofs.lemmas.Bool.{true≢false, and_parts, and_from, eqb-true, leb-true, eq-eqb, le-leb}
use Rattle.lazy_rec.specs.declared.records.Rec.{Rec}
use Rattle.lazy_rec.specs.declared.records.Sort.TheVariants as sorts
use Rattle.lazy_rec.specs.Tests.{is_some_and}
use Rattle.lazy_rec.specs.Named.{named, is_pending}
use Rattle.lazy_rec.specs.Meaning.{cells}
use Rattle.heap_store.specs.World.{World, recs, is_value, value_at}
use Rattle.heap_store.specs.Growth.{Grows}
use Rattle.heap_store.specs.Lawful.{IsLawful, HasLaws, is_rt_front, walk}
use Rattle.heap_store.specs.Hand.{contains}
use Rattle.heap_store.specs.Budget.{gain_at}
use Rattle.heap_store.specs.View.{View, IsLawfulView, Fits, purse}
use Rattle.heap_store.proofs.NameLaws.{IsNamedWell}
use Rattle.heap_store.proofs.GrowthLaws.{at_true}
use Rattle.heap_store.proofs.ShowLaws.{one_value}
use Rattle.heap_store.proofs.LawfulLaws.{lawful_names, laws_named}
use Rattle.heap_store.proofs.ToldLaws.{laws_told}
use Rattle.heap_store.proofs.RangeLaws.{range_fields, range_from}
use Rattle.heap_store.proofs.ValueLaws.{Waits, value_stands}
use Rattle.heap_store.proofs.WellNamed.{names_well_all}
use Rattle.heap_store.proofs.PutLaws.{place_fits, fits_value}
use Rattle.rt_queue.specs.declared.queue.Top.{Top}
use Rattle.rt_queue.specs.Queue.{top_record, is_schedule}
use Rattle.heap_store.proofs.WalkLaws.{walk_first, walk_length}
use Rattle.rt_queue.proofs.Fronts.{front_most}

-- of what it names, a top at p or one that is put there
pub record TopWell (w : World) (p : ℕ) (t : Top) : Type 0 where
  pub front_named : IsNamedWell (recs w) p (t.front.0, sorts.Stream)
  pub rear_named : IsNamedWell (recs w) p (t.rear.0, sorts.List)
  pub sched_named : IsNamedWell (recs w) p (t.sched.0, sorts.Stream)
  pub front_cells : length (cells (recs w) t.front.0) ≡ t.lenf
  pub rear_cells : length (cells (recs w) t.rear.0) ≡ t.lenr
  pub near : t.lenr ≤ t.lenf
  pub walked : walk w t.lenr t.front.0 ≡ Some t.sched.0
  pub front : is_rt_front (recs w) t.front.0 ≡ true
  pub sched : is_schedule (recs w) t.sched.0 ≡ true

pub top_well : {w : World} → IsLawful w → (p : ℕ) (t : Top) → recs w p ≡ Some (top_record t) → TopWell w p t
top_well {w} law p t e =
    let h = law.each p _ e in
    let n = lawful_names law p _ e in
    let rs = recs w in
    let sizes = and_parts (eqb t.lenf (length (cells rs t.front.0))) (eqb t.lenr (length (cells rs t.rear.0))) h.sizes in
    let q = and_parts (leb t.lenr t.lenf && is_some_and (eqb t.sched.0) (walk w t.lenr t.front.0)) (is_schedule rs t.sched.0) h.rt_queue in
    let k = and_parts (leb t.lenr t.lenf) (is_some_and (eqb t.sched.0) (walk w t.lenr t.front.0)) q.0 in
    record {
      front_named = n.0;
      rear_named = n.1.0;
      sched_named = n.1.1.0;
      front_cells = sym (eqb-true t.lenf (length (cells rs t.front.0)) sizes.0);
      rear_cells = sym (eqb-true t.lenr (length (cells rs t.rear.0)) sizes.1);
      near = leb-true t.lenr t.lenf k.0;
      walked = walk_is (walk w t.lenr t.front.0) k.1;
      front = h.unmixed;
      sched = q.1;
    }
  where
    walk_is : (o : Option ℕ) → is_some_and (eqb t.sched.0) o ≡ true → o ≡ Some t.sched.0
    walk_is None h = absurd (true≢false (sym h))
    walk_is (Some n) h = ap Some (sym (eqb-true t.sched.0 n h))

names_of : {w : World} {p : ℕ} {t : Top} → TopWell w p t → AllByRecursion (IsNamedWell (recs w) p) (named (top_record t))
names_of k = (k.front_named, (k.rear_named, (k.sched_named, tt)))

-- its lengths are numbers of 31 bits
pub lenf_fits : {w : World} → IsLawful w → (p : ℕ) (t : Top) → recs w p ≡ Some (top_record t) → t.lenf < 2147483648
lenf_fits law p t e = (range_fields (top_record t) (law.each p _ e).range).1.1.0

-- its schedule has the cells that its rear hasn't
pub sched_cells : {w : World} → IsLawful w → (p : ℕ) (t : Top) → recs w p ≡ Some (top_record t) → length (cells (recs w) t.sched.0) + t.lenr ≡ t.lenf
sched_cells {w} law p t e = let k = top_well law p t e in omega (arith, walk_length law t.lenr t.front.0 t.sched.0 k.walked, k.front_cells)

-- ---- what is known of a front

waits_unknown : (w : World) (p : ℕ) → Waits w p → (r : Rec) → value_at w p ≡ Some r → ⊥
waits_unknown w p k r h =
    let t = at_true is_pending (recs w p) k.pending in
    let undone = k.undone in
    let none : value_at w p ≡ None = rw (t.1, undone, t.2) refl in
    let z : Some r ≡ None = sym h ∙ none in cc

-- a front that waits is the schedule
pub front_is_sched : {w : World} → IsLawful w → (p : ℕ) (t : Top) → recs w p ≡ Some (top_record t) → Waits w t.front.0 → t.front.0 ≡ t.sched.0
front_is_sched {w} law p t e waits = by t.lenr (top_well law p t e).walked
  where
    by : (n : ℕ) → walk w n t.front.0 ≡ Some t.sched.0 → t.front.0 ≡ t.sched.0
    by zero h = one_value t.front.0 t.sched.0 h
    by (suc n) h = absurd (let k = walk_first w n t.front.0 t.sched.0 h in waits_unknown w t.front.0 waits k.0 k.1)

-- a front is known where the schedule is
pub front_is_known : {w : World} → IsLawful w → (p : ℕ) (t : Top) → recs w p ≡ Some (top_record t) → is_value w t.sched.0 ≡ true → is_value w t.front.0 ≡ true
front_is_known {w} law p t e known = by t.lenr (top_well law p t e).walked
  where
    by : (n : ℕ) → walk w n t.front.0 ≡ Some t.sched.0 → is_value w t.front.0 ≡ true
    by zero h = let same = one_value t.front.0 t.sched.0 h in subst (λ q. is_value w q ≡ true) (sym same) known
    by (suc n) h = let k = walk_first w n t.front.0 t.sched.0 h in (value_stands law t.front.0 k.0 k.1).1.known

-- ---- what its put asks

top_laws : {w : World} → IsLawful w → (p : ℕ) → p < 4194304 → (t : Top) → TopWell w p t → HasLaws w p (top_record t)
top_laws {w} law p low t k =
    let rs = recs w in
    let m = front_most law t.front.0 k.front in
    record {
      range = range_from (top_record t) (omega arith, (omega (arith, k.front_named.0, low), (omega (arith, m, k.front_cells, k.front_named.0, low), (omega (arith, k.rear_named.0, low), (omega (arith, m, k.front_cells, k.near, k.front_named.0, low), (omega (arith, k.sched_named.0, low), tt)))))) refl;
      names = names_well_all rs rs (λ q r e. e) p (named (top_record t)) (names_of k);
      sizes = and_from (eqb t.lenf (length (cells rs t.front.0))) (eqb t.lenr (length (cells rs t.rear.0))) (eq-eqb t.lenf (length (cells rs t.front.0)) (sym k.front_cells)) (eq-eqb t.lenr (length (cells rs t.rear.0)) (sym k.rear_cells));
      unmixed = k.front;
      bank_queue = refl;
      rt_queue = and_from (leb t.lenr t.lenf && is_some_and (eqb t.sched.0) (walk w t.lenr t.front.0)) (is_schedule rs t.sched.0)
          (and_from (leb t.lenr t.lenf) (is_some_and (eqb t.sched.0) (walk w t.lenr t.front.0)) (le-leb t.lenr t.lenf k.near) (let e = k.walked in rw e (eq-eqb t.sched.0 t.sched.0 refl))) k.sched;
      heap = refl;
      cat = refl;
      finger = refl;
      heights = refl;
    }

-- a put of a top that is told of an earlier world
pub fits_top : {a : World} {v : View} → IsLawful a → Grows a v.seen → IsLawfulView v → (p : ℕ) → contains v.hand.reserved p ≡ true → (t : Top) → TopWell a p t → gain_at v.seen p (top_record t) ≤ purse v → Fits v p (top_record t)
fits_top {a} {v} law0 grows law p held t k gain =
    let laws = laws_named a v.seen (lawful_names law0) grows p (top_record t) (names_of k) (top_laws law0 p (place_fits law p held) t k) in
    fits_value p (top_record t) refl (laws_told law p held (top_record t) laws) gain
