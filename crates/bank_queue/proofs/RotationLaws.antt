-- What a rotation says of what it names, and what its put asks.
use Rattle.std.proofs.Common.{◌≡◌, ℕ, suc, ◌+◌, ◌-◌, ◌*◌, ◌<◌, ◌≤◌, eqb, ltb, refl, sym, ap, ◌∙◌, arith, true, false, ◌&&◌, ◌||◌, Some, List, [], ◌∷◌, length, take}
use Rattle.std.proofs.lemmas.List.{take_all, length-append, length-reverse}
use Rattle.std.proofs.lemmas.Bool.{and_parts, and_from, or_left, eqb-true, ltb-true, eq-eqb, lt-ltb, ne_eqb, cond-false}
use Rattle.lazy_rec.specs.declared.places.Ref.{Ref}
use Rattle.lazy_rec.specs.declared.records.Rec.TheVariants.{Cons, BankRot}
use Rattle.lazy_rec.specs.declared.records.Sort.TheVariants as sorts
use Rattle.lazy_rec.specs.declared.states.SuspState.TheVariants.{Unforced}
use Rattle.lazy_rec.specs.Named.{sort_of, at_record}
use Rattle.lazy_rec.specs.Meaning.{cells}
use Rattle.heap_store.specs.declared.claims.HeldClaim.{HeldClaim}
use Rattle.heap_store.specs.World.{World, recs, holds, show, value_at, same_place}
use Rattle.heap_store.specs.Values.{is_list}
use Rattle.heap_store.specs.Completion.{is_plain, on_cell, is_bank_rotation, next_bank_rotation, is_next}
use Rattle.heap_store.specs.Lawful.{IsLawful, HasLaws, has_items, is_any_bank_rotation, height}
use Rattle.heap_store.specs.Hand.{contains, newest_makes, brings}
use Rattle.heap_store.specs.View.{View, IsLawfulView, Fits}
use Rattle.heap_store.specs.Jobs.{IsNewest}
use Rattle.heap_store.proofs.NameLaws.{IsPublished, IsNamedWell}
use Rattle.heap_store.proofs.GrowthLaws.{at_true, sorts_agree}
use Rattle.heap_store.proofs.LawfulLaws.{lawful_names}
use Rattle.heap_store.proofs.MeaningLaws.{cells_is, cells_kept}
use Rattle.heap_store.proofs.RecordLaws.{height_kept}
use Rattle.heap_store.proofs.UnitLaws.{free, settled_over}
use Rattle.heap_store.proofs.RangeLaws.{range_fields, range_from}
use Rattle.heap_store.proofs.WellNamed.{named_sort}
use Rattle.heap_store.proofs.HeightLaws.{height_is, height_most, origin_most}
use Rattle.heap_store.proofs.CellLaws.{list_length}
use Rattle.heap_store.proofs.PutLaws.{place_fits, put_keeps, put_names}
use Rattle.bank_queue.specs.Front.{is_front, is_paid_front}
use Rattle.bank_queue.specs.Queue.{IsRotatable}
use Rattle.bank_queue.proofs.Fronts.{front_there, front_sort, front_kept, front_cell}

-- ---- what a rotation says

-- of what it names, a rotation at p or one that is put there
pub record RotationWell (w : World) (p : ℕ) (xs rear : Ref) (left : ℕ) (o : Ref) (off : ℕ) : Type 0 where
  pub xs_named : IsNamedWell (recs w) p (xs.0, sorts.Stream)
  pub rear_named : IsNamedWell (recs w) p (rear.0, sorts.List)
  pub xs_fits : xs.0 < 4194304
  pub rear_fits : rear.0 < 4194304
  pub left_fits : left < 2147483648
  pub o_fits : o.0 < 4194304
  pub off_fits : off < 2147483648
  pub xs_cells : length (cells (recs w) xs.0) ≡ left
  pub rear_cells : length (cells (recs w) rear.0) ≡ off + left + 1
  pub xs_items : has_items (recs w) xs.0 ≡ true
  pub rear_items : has_items (recs w) rear.0 ≡ true
  pub front : is_front (recs w) xs.0 ≡ true
  pub xs_low : height (recs w) xs.0 < o.0
  pub rear_low : height (recs w) rear.0 < o.0

pub rotation_well : {w : World} → IsLawful w → (p : ℕ) (xs rear : Ref) (left : ℕ) (o : Ref) (off : ℕ) → recs w p ≡ Some (BankRot xs rear left o off) → RotationWell w p xs rear left o off
rotation_well {w} law p xs rear left o off e =
    let h = law.each p _ e in
    let n = lawful_names law p _ e in
    let range = range_fields (BankRot xs rear left o off) h.range in
    let items = and_parts (has_items (recs w) xs.0) (has_items (recs w) rear.0) h.unmixed in
    let bank = and_parts (eqb (length (cells (recs w) rear.0)) (off + left + 1)) (is_front (recs w) xs.0) h.bank_queue in
    let low = and_parts (ltb (height (recs w) xs.0) o.0) (ltb (height (recs w) rear.0) o.0 && true) h.heights in
    record {
      xs_named = n.0;
      rear_named = n.1.0;
      xs_fits = range.1.0;
      rear_fits = range.1.1.0;
      left_fits = range.1.1.1.0;
      o_fits = range.1.1.1.1.0;
      off_fits = range.1.1.1.1.1.0;
      xs_cells = sym (eqb-true left (length (cells (recs w) xs.0)) h.sizes);
      rear_cells = eqb-true (length (cells (recs w) rear.0)) (off + left + 1) bank.0;
      xs_items = items.0;
      rear_items = items.1;
      front = bank.1;
      xs_low = ltb-true (height (recs w) xs.0) o.0 low.0;
      rear_low = ltb-true (height (recs w) rear.0) o.0 (and_parts (ltb (height (recs w) rear.0) o.0) true low.1).0;
    }

-- its rear is no longer than the place of the rear
pub rotation_most : {w : World} → IsLawful w → (p : ℕ) (xs rear : Ref) (left : ℕ) (o : Ref) (off : ℕ) → RotationWell w p xs rear left o off → off + left + 1 ≤ rear.0
rotation_most {w} law p xs rear left o off k = omega (arith, list_length law rear.0 (named_sort (recs w) p (rear.0, sorts.List) k.rear_named), k.rear_cells)

pub rotation_height : {w : World} → IsLawful w → (p : ℕ) (xs rear : Ref) (left : ℕ) (o : Ref) (off : ℕ) → recs w p ≡ Some (BankRot xs rear left o off) → height (recs w) p ≡ o.0
rotation_height law p xs rear left o off e = height_is law p (BankRot xs rear left o off) e

-- how many cells it has
pub rotation_length : {w : World} → IsLawful w → (p : ℕ) (xs rear : Ref) (left : ℕ) (o : Ref) (off : ℕ) → recs w p ≡ Some (BankRot xs rear left o off) → length (cells (recs w) p) ≡ 2 * left + off + 1
rotation_length {w} law p xs rear left o off e =
    let well = rotation_well law p xs rear left o off e in
    let all = ap length (cells_is (recs w) (lawful_names law) p _ e) in
    let t : take left (cells (recs w) xs.0) ≡ cells (recs w) xs.0 = take_all left (cells (recs w) xs.0) (omega (arith, well.xs_cells)) in
    let q : length (cells (recs w) p) ≡ length (cells (recs w) xs.0) + length (cells (recs w) rear.0) = all ∙ rw (t, length-append, length-reverse) refl in
    omega (arith, q, well.xs_cells, well.rear_cells)

-- ---- what its put asks

rotation_laws : {v : View} → IsLawfulView v → (p : ℕ) → contains v.hand.reserved p ≡ true → (xs rear : Ref) (left : ℕ) (o : Ref) (off : ℕ) → RotationWell v.seen p xs rear left o off → HasLaws (show v.seen p (BankRot xs rear left o off) (Unforced 0)) p (BankRot xs rear left o off)
rotation_laws {v} law p held xs rear left o off k =
    let a = recs v.seen in
    let b = recs (show v.seen p (BankRot xs rear left o off) (Unforced 0)) in
    let keeps = put_keeps law p held (BankRot xs rear left o off) in
    let names = lawful_names law.world in
    let xs_is : IsPublished a xs.0 = (k.xs_named.1, k.xs_named.2) in
    let rear_is : IsPublished a rear.0 = (k.rear_named.1, k.rear_named.2) in
    let xs_kept = cells_kept a b names keeps xs.0 xs_is in
    let rear_kept = cells_kept a b names keeps rear.0 rear_is in
    record {
      range = range_from (BankRot xs rear left o off) (omega arith, (k.xs_fits, (k.rear_fits, (k.left_fits, (k.o_fits, (k.off_fits, tt)))))) refl;
      names = put_names law p held (BankRot xs rear left o off) (k.xs_named, (k.rear_named, tt));
      sizes = eq-eqb left (length (cells b xs.0)) (sym (sym (ap length xs_kept) ∙ k.xs_cells));
      unmixed = and_from (has_items b xs.0) (has_items b rear.0) (rw xs_kept at k.xs_items) (rw rear_kept at k.rear_items);
      bank_queue = and_from (eqb (length (cells b rear.0)) (off + left + 1)) (holds b xs.0 is_any_bank_rotation || is_plain b xs.0) (eq-eqb (length (cells b rear.0)) (off + left + 1) (sym (ap length rear_kept) ∙ k.rear_cells)) (front_kept law.world b keeps xs.0 k.front);
      rt_queue = refl;
      heap = refl;
      cat = refl;
      finger = refl;
      heights = and_from (ltb (height b xs.0) o.0) (ltb (height b rear.0) o.0 && true) (lt-ltb (height b xs.0) o.0 (rw (height_kept a b names keeps xs.0 xs_is) at k.xs_low)) (and_from (ltb (height b rear.0) o.0) true (lt-ltb (height b rear.0) o.0 (rw (height_kept a b names keeps rear.0 rear_is) at k.rear_low)) refl);
    }

-- a rotation is the next one of its arguments
pub same_rotation : (w : World) (xs rear : Ref) (left : ℕ) (o : Ref) (off : ℕ) → is_bank_rotation w xs.0 rear.0 left o.0 (suc off) (BankRot xs rear left o (off + 1)) ≡ true
same_rotation w xs rear left o off =
    and_from (same_place w xs.0 xs.0 && same_place w rear.0 rear.0 && eqb left left && eqb o.0 o.0) (eqb (suc off) (off + 1))
    (and_from (same_place w xs.0 xs.0 && same_place w rear.0 rear.0 && eqb left left) (eqb o.0 o.0)
    (and_from (same_place w xs.0 xs.0 && same_place w rear.0 rear.0) (eqb left left)
    (and_from (same_place w xs.0 xs.0) (same_place w rear.0 rear.0) (self xs.0) (self rear.0))
    (eq-eqb left left refl)) (eq-eqb o.0 o.0 refl)) (eq-eqb (suc off) (off + 1) (omega arith))
  where
    self : (p : ℕ) → same_place w p p ≡ true
    self p = or_left (eqb p p) _ (eq-eqb p p refl)

-- the next suspension of the newest claim's rotation
next_made : (w : World) (s : Ref) (claims : List HeldClaim) → IsNewest s claims → (xs rear : Ref) (left : ℕ) (o : Ref) (off : ℕ) → recs w s.0 ≡ Some (BankRot xs rear left o off) → 0 < left → (value : ℕ) (rest : Ref) → value_at w xs.0 ≡ Some (Cons false value rest)
    → newest_makes w claims o.0 (suc off) (BankRot rest rear (left - 1) o (off + 1)) ≡ true
next_made w s [] new xs rear left o off e pos value rest h = absurd new
next_made w s (c ∷ cs) new xs rear left o off e pos value rest h = rw (new, e) (
    and_from (eqb o.0 o.0 && eqb (suc off) (suc off)) (is_next w (BankRot xs rear left o off) (BankRot rest rear (left - 1) o (off + 1))) (and_from (eqb o.0 o.0) (eqb (suc off) (suc off)) (eq-eqb o.0 o.0 refl) (eq-eqb (suc off) (suc off) refl))
    (and_from (ltb 0 left) (at_record false (on_cell (λ k u tail. next_bank_rotation w tail rear.0 left o.0 off (BankRot rest rear (left - 1) o (off + 1)))) (value_at w xs.0)) (lt-ltb 0 left pos) (rw h (same_rotation w rest rear (left - 1) o off))))

-- the next rotation, over the rest of the front
pub fits_next : {v : View} → IsLawfulView v → (p : ℕ) → contains v.hand.reserved p ≡ true → (s : Ref) (xs rear : Ref) (left : ℕ) (o : Ref) (off : ℕ) → recs v.seen s.0 ≡ Some (BankRot xs rear left o off) → 0 < left
    → (value : ℕ) (rest : Ref) → value_at v.seen xs.0 ≡ Some (Cons false value rest) → s.0 < p → rest.0 < p → IsNewest s v.hand.claims → is_paid_front v.seen rest.0 ≡ true → Fits v p (BankRot rest rear (left - 1) o (off + 1))
fits_next {v} law p held s xs rear left o off e pos value rest h s_low rest_low new paid =
    let k = rotation_well law.world s.0 xs rear left o off e in
    let m = rotation_most law.world s.0 xs rear left o off k in
    let c = front_cell law.world xs.0 value rest k.front k.xs_items h in
    let there : IsNamedWell (recs v.seen) c.cell.place (rest.0, sorts.Stream) = c.cell.rest_named in
    let l : length (cells (recs v.seen) xs.0) ≡ suc (length (cells (recs v.seen) rest.0)) = ap length c.cell.cells_are in
    record {
      laws = rotation_laws law p held rest rear (left - 1) o (off + 1) (record {
        xs_named = (rest_low, there.1, there.2, there.3);
        rear_named = (omega (arith, k.rear_named.0, s_low), k.rear_named.1, k.rear_named.2, k.rear_named.3);
        xs_fits = c.cell.fits.place;
        rear_fits = k.rear_fits;
        left_fits = omega (arith, k.left_fits);
        o_fits = k.o_fits;
        off_fits = omega (arith, m, k.rear_fits);
        xs_cells = omega (arith, l, k.xs_cells);
        rear_cells = omega (arith, k.rear_cells, pos);
        xs_items = c.items;
        rear_items = k.rear_items;
        front = c.front;
        xs_low = omega (arith, c.cell.low, k.xs_low);
        rear_low = k.rear_low;
      });
      origin = cond-false (eqb (off + 1) 0) (eqb o.0 p) (ltb o.0 p) (ne_eqb (off + 1) 0 (λ z. omega (arith, z))) ∙ lt-ltb o.0 p (omega (arith, origin_most s.0 (BankRot xs rear left o off) (law.world.origins s.0 _ e), s_low));
      follows = λ i f. (let z : off + 1 ≡ suc i = f in let y : i ≡ off = omega (arith, z) in rw y (next_made v.seen s v.hand.claims new xs rear left o off e pos value rest h));
      settled = settled_over v.seen v.seen (lawful_names law.world) (λ q t e. e) p rest rear (left - 1) o (off + 1) there.1 there.2 (let z = there.2 in rw z at paid);
      paid = free v.seen p (BankRot rest rear (left - 1) o (off + 1)) (v.hand.credits + brings (recs v.seen) v.hand.claims) refl;
    }

-- the first rotation of a family
pub fits_first : {v : View} → IsLawfulView v → (p : ℕ) → contains v.hand.reserved p ≡ true → (front rear : Ref) (n : ℕ) (o : Ref) → IsRotatable v.seen front.0 n rear.0 p → o.0 ≡ p → Fits v p (BankRot front rear n o 0)
fits_first {v} law p held front rear n o k same =
    let f = front_there (recs v.seen) front.0 k.front_there in
    let r = at_true is_list (recs v.seen rear.0) k.rear_there in
    let m = list_length law.world rear.0 k.rear_there in
    let low = place_fits law p held in
    record {
      laws = rotation_laws law p held front rear n o 0 (record {
        xs_named = (k.front_low, f.0, f.1, front_sort law.world front.0 k.front_there f.0 f.1);
        rear_named = (k.rear_low, r.0, r.1, sorts_agree (sort_of r.0) sorts.List r.2);
        xs_fits = omega (arith, k.front_low, low);
        rear_fits = omega (arith, k.rear_low, low);
        left_fits = omega (arith, m, k.rear_length, k.rear_low, low);
        o_fits = omega (arith, same, low);
        off_fits = omega arith;
        xs_cells = k.front_length;
        rear_cells = omega (arith, k.rear_length);
        xs_items = k.front_items;
        rear_items = k.rear_items;
        front = k.front_there;
        xs_low = omega (arith, height_most law.world front.0 f, k.front_low, same);
        rear_low = omega (arith, height_most law.world rear.0 (r.0, r.1), k.rear_low, same);
      });
      origin = eq-eqb o.0 p same;
      follows = λ i e. absurd (let z : 0 ≡ suc i = e in omega (arith, z));
      settled = settled_over v.seen v.seen (lawful_names law.world) (λ q t e. e) p front rear n o 0 f.0 f.1 (let z = f.1 in rw z at k.paid);
      paid = free v.seen p (BankRot front rear n o 0) (v.hand.credits + brings (recs v.seen) v.hand.claims) refl;
    }
