-- What the put of a rotation asks.
use Rattle.std.proofs.Common.{◌≡◌, ℕ, suc, ◌+◌, ◌-◌, ◌<◌, ◌≤◌, eqb, ltb, refl, sym, ap, ◌∙◌, arith, subst, Bool, true, ◌&&◌, Some, [], ◌∷◌, length}
use Rattle.std.specs.Prelude.{is_some}
use Rattle.std.proofs.lemmas.Bool.{and_from, or_left, eq-eqb, lt-ltb, ne_eqb, cond-false}
use Rattle.lazy_rec.specs.declared.places.Ref.{Ref}
use Rattle.lazy_rec.specs.declared.records.Rec.TheVariants.{Nil, Cons, LCons, RtRot}
use Rattle.lazy_rec.specs.declared.records.Sort.TheVariants as sorts
use Rattle.lazy_rec.specs.Named.{sort_of}
use Rattle.lazy_rec.specs.Meaning.{cells}
use Rattle.heap_store.specs.World.{World, recs, value_at, same_place}
use Rattle.heap_store.specs.Values.{is_list}
use Rattle.heap_store.specs.Completion.{is_plain, same_bool, next_rt_rotation, is_next}
use Rattle.heap_store.specs.Growth.{Grows}
use Rattle.heap_store.specs.Lawful.{HasLaws, walk}
use Rattle.heap_store.specs.Hand.{contains, brings}
use Rattle.heap_store.specs.View.{View, IsLawfulView, Fits}
use Rattle.heap_store.specs.Jobs.{IsUnpassed}
use Rattle.heap_store.proofs.GrowthLaws.{at_true, sorts_agree, value_up}
use Rattle.heap_store.proofs.LawfulLaws.{lawful_names}
use Rattle.heap_store.proofs.MeaningLaws.{cells_is}
use Rattle.heap_store.proofs.ToldLaws.{laws_told}
use Rattle.heap_store.proofs.UnitLaws.{free}
use Rattle.heap_store.proofs.Steps.{unpassed_makes}
use Rattle.heap_store.proofs.RangeLaws.{range_from}
use Rattle.heap_store.proofs.WellNamed.{names_well_all}
use Rattle.heap_store.proofs.HeightLaws.{origin_most}
use Rattle.heap_store.proofs.FixedPlaces.{fixed_records, nil_plain, above_fixed}
use Rattle.heap_store.proofs.CellLaws.{first_cell, list_cells, plain_is}
use Rattle.heap_store.proofs.PutLaws.{place_fits}
use Rattle.rt_queue.specs.Queue.{IsRotatable}
use Rattle.heap_store.proofs.WalkLaws.{walk_rest}
use Rattle.heap_store.proofs.AnyCells.{same_cell}
use Rattle.rt_queue.proofs.Fronts.{RotationWell, rotation_well, rotation_most, front_named, front_rest}

rotation_laws : {v : View} → IsLawfulView v → (p : ℕ) → contains v.hand.reserved p ≡ true → (xs rear acc : Ref) (left : ℕ) (o : Ref) (off : ℕ) → o.0 ≤ p → RotationWell v.seen p xs rear acc left off → HasLaws v.seen p (RtRot xs rear acc left o off)
rotation_laws {v} law p held xs rear acc left o off origin k =
    let w = v.seen in
    let low = place_fits law p held in
    let m = rotation_most law.world p xs rear acc left off k in
    record {
      range = range_from (RtRot xs rear acc left o off) (omega arith, (omega (arith, k.xs_named.0, low), (omega (arith, k.rear_named.0, low), (omega (arith, k.acc_named.0, low), (omega (arith, m.rear_most, k.rear_named.0, low), (omega (arith, origin, low), (omega (arith, m.acc_most, k.acc_named.0, low), tt))))))) refl;
      names = names_well_all (recs w) (recs w) (λ q r e. e) p ((xs.0, sorts.Stream) ∷ (rear.0, sorts.List) ∷ (acc.0, sorts.Stream) ∷ []) (k.xs_named, (k.rear_named, (k.acc_named, tt)));
      sizes = eq-eqb left (length (cells (recs w) xs.0)) (sym k.xs_cells);
      unmixed = k.front;
      bank_queue = refl;
      rt_queue = and_from (is_some (walk w left xs.0) && eqb (length (cells (recs w) rear.0)) (left + 1) && eqb (length (cells (recs w) acc.0)) off) (is_plain (recs w) acc.0)
          (and_from (is_some (walk w left xs.0) && eqb (length (cells (recs w) rear.0)) (left + 1)) (eqb (length (cells (recs w) acc.0)) off)
          (and_from (is_some (walk w left xs.0)) (eqb (length (cells (recs w) rear.0)) (left + 1)) k.known (eq-eqb (length (cells (recs w) rear.0)) (left + 1) k.rear_cells))
          (eq-eqb (length (cells (recs w) acc.0)) off k.acc_cells)) k.plain;
      heap = refl;
      cat = refl;
      finger = refl;
      heights = refl;
    }

-- the first rotation of a family
pub fits_first : {v : View} → IsLawfulView v → (p : ℕ) → contains v.hand.reserved p ≡ true → (front rear : Ref) (n : ℕ) (o : Ref) → IsRotatable v.seen front.0 n rear.0 p → o.0 ≡ p → Fits v p (RtRot front rear (record { 0 = 0 }) n o 0)
fits_first {v} law p held front rear n o k same =
    let five = above_fixed law p held in
    let nil = (fixed_records law.world).nil in
    let r = at_true is_list (recs v.seen rear.0) k.rear_there in
    let none = cells_is (recs v.seen) (lawful_names law.world) 0 Nil nil in
    record {
      laws = laws_told law p held _ (rotation_laws law p held front rear (record { 0 = 0 }) n o 0 (omega (arith, same)) (record {
        xs_named = front_named law.world p front.0 k.front_there k.front_low;
        rear_named = (k.rear_low, r.0, r.1, sorts_agree (sort_of r.0) sorts.List r.2);
        acc_named = (omega (arith, five), Nil, nil, refl);
        xs_cells = k.front_length;
        rear_cells = k.rear_length;
        acc_cells = ap length none;
        known = k.known;
        front = k.front_there;
        plain = nil_plain law.world;
      }));
      origin = eq-eqb o.0 p same;
      follows = λ i e. absurd (let z : 0 ≡ suc i = e in omega (arith, z));
      settled = refl;
      paid = free v.seen p (RtRot front rear (record { 0 = 0 }) n o 0) (v.hand.credits + brings (recs v.seen) v.hand.claims) refl;
    }

-- a rotation is the next one of what it is made of
pub same_rotation : (w : World) (rest rear acc : Ref) (left : ℕ) (o : Ref) (off : ℕ) (c : Bool) (v : ℕ) (rear' acc' : Ref) → recs w rear.0 ≡ Some (LCons c v rear') → recs w acc'.0 ≡ Some (Cons c v acc) → next_rt_rotation w rest.0 rear.0 acc.0 left o.0 off (RtRot rest rear' acc' (left - 1) o (off + 1)) ≡ true
same_rotation w rest rear acc left o off c v rear' acc' e f = rw (e, f) (
    and_from (same_place w rest.0 rest.0 && same_place w rear'.0 rear'.0 && (same_bool c c && eqb v v && same_place w acc.0 acc.0) && eqb (left - 1) (left - 1) && eqb o.0 o.0) (eqb (suc off) (off + 1))
    (and_from (same_place w rest.0 rest.0 && same_place w rear'.0 rear'.0 && (same_bool c c && eqb v v && same_place w acc.0 acc.0) && eqb (left - 1) (left - 1)) (eqb o.0 o.0)
    (and_from (same_place w rest.0 rest.0 && same_place w rear'.0 rear'.0 && (same_bool c c && eqb v v && same_place w acc.0 acc.0)) (eqb (left - 1) (left - 1))
    (and_from (same_place w rest.0 rest.0 && same_place w rear'.0 rear'.0) (same_bool c c && eqb v v && same_place w acc.0 acc.0)
    (and_from (same_place w rest.0 rest.0) (same_place w rear'.0 rear'.0) (self rest.0) (self rear'.0))
    (and_from (same_bool c c && eqb v v) (same_place w acc.0 acc.0) (same_cell c v) (self acc.0)))
    (eq-eqb (left - 1) (left - 1) refl)) (eq-eqb o.0 o.0 refl)) (eq-eqb (suc off) (off + 1) (omega arith)))
  where
    self : (p : ℕ) → same_place w p p ≡ true
    self p = or_left (eqb p p) _ (eq-eqb p p refl)

-- what the next rotation is made of: the first cell of xs, and the first cell of the rear, which was put in front of acc
pub record Turned (w : World) (xs rear acc : Ref) (c : Bool) (v : ℕ) (rest rear' acc' : Ref) : Type 0 where
  pub first : value_at w xs.0 ≡ Some (Cons c v rest)
  pub child : Bool
  pub value : ℕ
  pub last : recs w rear.0 ≡ Some (LCons child value rear')
  pub put : recs w acc'.0 ≡ Some (Cons child value acc)

-- a later world shows them too
pub turned_up : {a b : World} → Grows a b → {xs rear acc : Ref} {c : Bool} {v : ℕ} {rest rear' acc' : Ref} → Turned a xs rear acc c v rest rear' acc' → Turned b xs rear acc c v rest rear' acc'
turned_up {a} {b} g {xs} {rear} {acc} {c} {v} {rest} {rear'} {acc'} t = record { first = value_up a b g xs.0 _ t.first; child = t.child; value = t.value; last = g.records rear.0 _ t.last; put = g.records acc'.0 _ t.put }

-- the next rotation of a family
pub fits_next : {v : View} → IsLawfulView v → (p : ℕ) → contains v.hand.reserved p ≡ true → (s : Ref) (xs rear acc : Ref) (left : ℕ) (o : Ref) (off : ℕ) → recs v.seen s.0 ≡ Some (RtRot xs rear acc left o off) → 0 < left → s.0 < p → IsUnpassed s v.hand.claims
    → (cx : Bool) (x : ℕ) (rest rear' acc' : Ref) → Turned v.seen xs rear acc cx x rest rear' acc' → rest.0 < p → acc'.0 < p → Fits v p (RtRot rest rear' acc' (left - 1) o (off + 1))
fits_next {v} law p held s xs rear acc left o off e pos low new cx x rest rear' acc' t rest_low acc_low =
    let w = v.seen in
    let k = rotation_well law.world s.0 xs rear acc left o off e in
    let c = first_cell law.world xs.0 cx x rest t.first in
    let n = (lawful_names law.world rear.0 _ t.last).0 in
    let lx : length (cells (recs w) xs.0) ≡ suc (length (cells (recs w) rest.0)) = ap length c.cells_are in
    let lr : length (cells (recs w) rear.0) ≡ suc (length (cells (recs w) rear'.0)) = ap length (list_cells law.world rear.0 t.child t.value rear' t.last) in
    let la : length (cells (recs w) acc'.0) ≡ suc (length (cells (recs w) acc.0)) = ap length (cells_is (recs w) (lawful_names law.world) acc'.0 _ t.put) in
    let l : left ≡ suc (left - 1) = omega (arith, pos) in
    let known : is_some (walk w (suc (left - 1)) xs.0) ≡ true = subst (λ n. is_some (walk w n xs.0) ≡ true) l k.known in
    let origin = origin_most s.0 (RtRot xs rear acc left o off) (law.world.origins s.0 _ e) in
    record {
      laws = laws_told law p held _ (rotation_laws law p held rest rear' acc' (left - 1) o (off + 1) (omega (arith, origin, low)) (record {
        xs_named = (rest_low, c.rest_named.1, c.rest_named.2, c.rest_named.3);
        rear_named = (omega (arith, n.0, k.rear_named.0, low), n.1, n.2, n.3);
        acc_named = (acc_low, Cons t.child t.value acc, t.put, refl);
        xs_cells = omega (arith, lx, k.xs_cells);
        rear_cells = omega (arith, lr, k.rear_cells, pos);
        acc_cells = omega (arith, la, k.acc_cells);
        known = ap is_some (sym (walk_rest w (left - 1) xs.0 cx x rest t.first)) ∙ known;
        front = front_rest law.world xs.0 cx x rest k.front t.first;
        plain = plain_is law.world acc'.0 _ t.put ∙ k.plain;
      }));
      origin = cond-false (eqb (off + 1) 0) (eqb o.0 p) (ltb o.0 p) (ne_eqb (off + 1) 0 (λ z. omega (arith, z))) ∙ lt-ltb o.0 p (omega (arith, origin, low));
      follows = λ i f. (let z : off + 1 ≡ suc i = f in let y : i ≡ off = omega (arith, z) in rw y (unpassed_makes w s v.hand.claims new (RtRot xs rear acc left o off) (RtRot rest rear' acc' (left - 1) o (off + 1)) e refl next));
      settled = refl;
      paid = free w p (RtRot rest rear' acc' (left - 1) o (off + 1)) (v.hand.credits + brings (recs w) v.hand.claims) refl;
    }
  where
    next : is_next v.seen (RtRot xs rear acc left o off) (RtRot rest rear' acc' (left - 1) o (off + 1)) ≡ true
    next = and_from (ltb 0 left) _ (lt-ltb 0 left pos) (let h = t.first in rw h (same_rotation v.seen rest rear acc left o off t.child t.value rear' acc' t.last t.put))
