-- Fronts and schedules: rotations and cells, what is known of a rotation, and what comes after its first cell.
use Rattle.std.proofs.Common.{◌≡◌, ℕ, suc, ◌+◌, ◌-◌, ◌*◌, ◌<◌, ◌≤◌, eqb, refl, sym, ap, ◌∙◌, arith, subst, ⊎_elim, Bool, true, false, ◌&&◌, Some, length, take}
use Rattle.std.specs.Prelude.{is_some}
use Rattle.std.proofs.lemmas.List.{take_all, length-append, length-reverse}
use Rattle.std.proofs.lemmas.Bool.{true≢false, and_parts, and_from, or_cases, or_left, or_right, eqb-true, ne_eqb, cond-true, cond-false, eq-eqb, cases_eq}
use Rattle.lazy_rec.specs.declared.places.Ref.{Ref}
use Rattle.lazy_rec.specs.declared.records.Rec.{Rec}
use Rattle.lazy_rec.specs.declared.records.Rec.TheVariants.{Nil, Cons, LCons, RtRot}
use Rattle.lazy_rec.specs.declared.records.Sort.TheVariants as sorts
use Rattle.lazy_rec.specs.ByPlace.{below, by_place}
use Rattle.lazy_rec.specs.Named.{Records, at_record, is_pending, sort_of}
use Rattle.lazy_rec.specs.Meaning.{cells}
use Rattle.heap_store.specs.World.{World, recs, holds, value_at, same_place}
use Rattle.heap_store.specs.Completion.{is_plain, is_cell, on_cell, on_list_cell, is_rt_rotation, next_rt_rotation, same_bool}
use Rattle.heap_store.specs.Lawful.{IsLawful, rt_front_of, is_rt_front, is_any_rt_rotation, walk}
use Rattle.lazy_rec.proofs.ByPlaceLaws.{from_lower}
use Rattle.heap_store.proofs.NameLaws.{IsPublished, IsNamedWell}
use Rattle.heap_store.proofs.GrowthLaws.{at_true}
use Rattle.heap_store.proofs.RecordLaws.{rt_look}
use Rattle.heap_store.proofs.LawfulLaws.{lawful_names}
use Rattle.heap_store.proofs.MeaningLaws.{by_record_is, cells_is}
use Rattle.heap_store.proofs.ReadLaws.{holds_at, holds_from, place_there}
use Rattle.heap_store.proofs.ValueLaws.{value_self, done_of_value}
use Rattle.heap_store.proofs.WellNamed.{named_sort}
use Rattle.heap_store.proofs.CellLaws.{value_waits, plain_is, plain_there, plain_value, plain_rest, list_length}
use Rattle.rt_queue.specs.Queue.{is_schedule}
use Rattle.heap_store.proofs.AnyCells.{plain_length}

-- ---- fronts

pub front_is : {w : World} → IsLawful w → (p : ℕ) (r : Rec) → recs w p ≡ Some r → is_rt_front (recs w) p ≡ rt_front_of (is_rt_front (recs w)) r
unfolding is_rt_front
front_is {w} law = by_record_is false rt_front_of rt_look (recs w) (lawful_names law)

pub front_there : (rs : Records) (p : ℕ) → is_rt_front rs p ≡ true → IsPublished rs p
unfolding is_rt_front by_place
front_there rs p h = place_there rs p (rt_front_of (below false (λ lower q. at_record false (rt_front_of lower) (rs q)) p)) h

-- cells all the way are a front
pub plain_front : {w : World} → IsLawful w → (p : ℕ) → is_plain (recs w) p ≡ true → is_rt_front (recs w) p ≡ true
plain_front {w} law = from_lower (λ p. is_plain (recs w) p ≡ true → is_rt_front (recs w) p ≡ true) (λ p ih h. let k = plain_there (recs w) p h in step p ih k.0 k.1 h)
  where
    step : (p : ℕ) → ((q : ℕ) → q < p → is_plain (recs w) q ≡ true → is_rt_front (recs w) q ≡ true) → (r : Rec) → recs w p ≡ Some r → is_plain (recs w) p ≡ true → is_rt_front (recs w) p ≡ true
    step p ih Nil e h = front_is law p Nil e
    step p ih (Cons c v rest) e h = let n = (lawful_names law p (Cons c v rest) e).0 in front_is law p (Cons c v rest) e ∙ ih rest.0 n.0 (sym (plain_is law p (Cons c v rest) e) ∙ h)
    step p ih r e h = absurd (true≢false (sym (sym (plain_is law p r e) ∙ h)))

-- ---- rotations

-- of what it names, a rotation at p or one that is put there
pub record RotationWell (w : World) (p : ℕ) (xs rear acc : Ref) (left off : ℕ) : Type 0 where
  pub xs_named : IsNamedWell (recs w) p (xs.0, sorts.Stream)
  pub rear_named : IsNamedWell (recs w) p (rear.0, sorts.List)
  pub acc_named : IsNamedWell (recs w) p (acc.0, sorts.Stream)
  pub xs_cells : length (cells (recs w) xs.0) ≡ left
  pub rear_cells : length (cells (recs w) rear.0) ≡ left + 1
  pub acc_cells : length (cells (recs w) acc.0) ≡ off
  pub known : is_some (walk w left xs.0) ≡ true
  pub front : is_rt_front (recs w) xs.0 ≡ true
  pub plain : is_plain (recs w) acc.0 ≡ true

pub rotation_well : {w : World} → IsLawful w → (p : ℕ) (xs rear acc : Ref) (left : ℕ) (o : Ref) (off : ℕ) → recs w p ≡ Some (RtRot xs rear acc left o off) → RotationWell w p xs rear acc left off
rotation_well {w} law p xs rear acc left o off e =
    let l = law.each p _ e in
    let n = lawful_names law p _ e in
    let a = and_parts (is_some (walk w left xs.0) && eqb (length (cells (recs w) rear.0)) (left + 1) && eqb (length (cells (recs w) acc.0)) off) (is_plain (recs w) acc.0) l.rt_queue in
    let b = and_parts (is_some (walk w left xs.0) && eqb (length (cells (recs w) rear.0)) (left + 1)) (eqb (length (cells (recs w) acc.0)) off) a.0 in
    let c = and_parts (is_some (walk w left xs.0)) (eqb (length (cells (recs w) rear.0)) (left + 1)) b.0 in
    record {
      xs_named = n.0;
      rear_named = n.1.0;
      acc_named = n.1.1.0;
      xs_cells = sym (eqb-true left (length (cells (recs w) xs.0)) l.sizes);
      rear_cells = eqb-true (length (cells (recs w) rear.0)) (left + 1) c.1;
      acc_cells = eqb-true (length (cells (recs w) acc.0)) off b.1;
      known = c.0;
      front = l.unmixed;
      plain = a.1;
    }

-- a rotation's rear is no longer than its place, nor is what was turned round
pub record RotationMost (rear acc : Ref) (left off : ℕ) : Type 0 where
  pub rear_most : left + 1 ≤ rear.0
  pub acc_most : off ≤ acc.0

pub rotation_most : {w : World} → IsLawful w → (p : ℕ) (xs rear acc : Ref) (left off : ℕ) → RotationWell w p xs rear acc left off → RotationMost rear acc left off
rotation_most {w} law p xs rear acc left off k = record {
  rear_most = omega (arith, list_length law rear.0 (named_sort (recs w) p (rear.0, sorts.List) k.rear_named), k.rear_cells);
  acc_most = omega (arith, plain_length law acc.0 k.plain, k.acc_cells);
}

pub rotation_length : {w : World} → IsLawful w → (p : ℕ) (xs rear acc : Ref) (left : ℕ) (o : Ref) (off : ℕ) → recs w p ≡ Some (RtRot xs rear acc left o off) → length (cells (recs w) p) ≡ 2 * left + off + 1
rotation_length {w} law p xs rear acc left o off e =
    let k = rotation_well law p xs rear acc left o off e in
    let all = ap length (cells_is (recs w) (lawful_names law) p _ e) in
    let t : take left (cells (recs w) xs.0) ≡ cells (recs w) xs.0 = take_all left (cells (recs w) xs.0) (omega (arith, k.xs_cells)) in
    let q : length (cells (recs w) p) ≡ length (cells (recs w) xs.0) + length (cells (recs w) rear.0) + length (cells (recs w) acc.0) = all ∙ rw (t, length-append, length-append, length-reverse) refl in
    omega (arith, q, k.xs_cells, k.rear_cells, k.acc_cells)

-- a rotation is a front
pub rotation_front : {w : World} → IsLawful w → (p : ℕ) (xs rear acc : Ref) (left : ℕ) (o : Ref) (off : ℕ) → recs w p ≡ Some (RtRot xs rear acc left o off) → is_rt_front (recs w) p ≡ true
rotation_front {w} law p xs rear acc left o off e =
    let k = rotation_well law p xs rear acc left o off e in
    front_is law p _ e ∙ and_from (is_rt_front (recs w) xs.0) (is_rt_front (recs w) acc.0) k.front (plain_front law acc.0 k.plain)

-- a front has at most three times as many cells as its place
pub front_most : {w : World} → IsLawful w → (p : ℕ) → is_rt_front (recs w) p ≡ true → length (cells (recs w) p) ≤ 3 * p
front_most {w} law = from_lower (λ p. is_rt_front (recs w) p ≡ true → length (cells (recs w) p) ≤ 3 * p) (λ p ih h. let k = front_there (recs w) p h in step p ih k.0 k.1 h)
  where
    step : (p : ℕ) → ((q : ℕ) → q < p → is_rt_front (recs w) q ≡ true → length (cells (recs w) q) ≤ 3 * q) → (r : Rec) → recs w p ≡ Some r → is_rt_front (recs w) p ≡ true → length (cells (recs w) p) ≤ 3 * p
    step p ih Nil e h = rw (cells_is (recs w) (lawful_names law) p Nil e) (omega arith)
    step p ih (Cons c v rest) e h =
        let n = (lawful_names law p (Cons c v rest) e).0 in
        let k = ih rest.0 n.0 (sym (front_is law p (Cons c v rest) e) ∙ h) in
        rw (cells_is (recs w) (lawful_names law) p (Cons c v rest) e) (omega (arith, k, n.0))
    step p ih (RtRot xs rear acc left o off) e h =
        let k = rotation_well law p xs rear acc left o off e in
        let m = rotation_most law p xs rear acc left off k in
        omega (arith, rotation_length law p xs rear acc left o off e, m.rear_most, m.acc_most, k.rear_named.0, k.acc_named.0)
    step p ih r e h = absurd (true≢false (sym (sym (front_is law p r e) ∙ h)))

pub front_sort : {w : World} → IsLawful w → (p : ℕ) → is_rt_front (recs w) p ≡ true → (r : Rec) → recs w p ≡ Some r → sort_of r ≡ sorts.Stream
front_sort law p h Nil e = refl
front_sort law p h (Cons _ _ _) e = refl
front_sort law p h (RtRot _ _ _ _ _ _) e = refl
front_sort law p h r e = absurd (true≢false (sym (sym (front_is law p r e) ∙ h)))

-- fronts below a place are what it may name as a stream
pub front_named : {w : World} → IsLawful w → (p q : ℕ) → is_rt_front (recs w) q ≡ true → q < p → IsNamedWell (recs w) p (q, sorts.Stream)
front_named {w} law p q h low = let k = front_there (recs w) q h in (low, k.0, k.1, front_sort law q h k.0 k.1)

-- ---- schedules

-- the fields of a rotation
pub record RotationFields (r : Rec) : Type 0 where
  pub xs : Ref
  pub rear : Ref
  pub acc : Ref
  pub left : ℕ
  pub origin : Ref
  pub off : ℕ
  pub is : r ≡ RtRot xs rear acc left origin off

pub rotation_fields : (r : Rec) → is_any_rt_rotation r ≡ true → RotationFields r
rotation_fields (RtRot xs rear acc left o off) h = record { xs = xs; rear = rear; acc = acc; left = left; origin = o; off = off; is = refl }
rotation_fields _ h = absurd (true≢false (sym h))

-- a rotation that is a place's record
pub record RotationAt (w : World) (p : ℕ) : Type 0 where
  pub rec : Rec
  pub fields : RotationFields rec
  pub here : recs w p ≡ Some (RtRot fields.xs fields.rear fields.acc fields.left fields.origin fields.off)

pub rotation_at : (w : World) (p : ℕ) → holds (recs w) p is_any_rt_rotation ≡ true → RotationAt w p
rotation_at w p h = let t = at_true is_any_rt_rotation (recs w p) h in let f = rotation_fields t.0 t.2 in record { rec = t.0; fields = f; here = t.1 ∙ ap Some f.is }

pub plain_schedule : (rs : Records) (p : ℕ) → is_plain rs p ≡ true → is_schedule rs p ≡ true
plain_schedule rs p h = or_right (holds rs p is_any_rt_rotation) (is_plain rs p) h

pub rotation_schedule : (rs : Records) (p : ℕ) (xs rear acc : Ref) (left : ℕ) (o : Ref) (off : ℕ) → rs p ≡ Some (RtRot xs rear acc left o off) → is_schedule rs p ≡ true
rotation_schedule rs p xs rear acc left o off e = or_left (holds rs p is_any_rt_rotation) (is_plain rs p) (holds_from rs p is_any_rt_rotation _ e refl)

pub schedule_cases : {A : Type 0} (w : World) (p : ℕ) → is_schedule (recs w) p ≡ true → (RotationAt w p → A) → (is_plain (recs w) p ≡ true → A) → A
schedule_cases w p h f g = ⊎_elim (λ k. f (rotation_at w p k)) g (or_cases (holds (recs w) p is_any_rt_rotation) (is_plain (recs w) p) h)

pub schedule_front : {w : World} → IsLawful w → (p : ℕ) → is_schedule (recs w) p ≡ true → is_rt_front (recs w) p ≡ true
schedule_front {w} law p h = schedule_cases w p h
    (λ k. (let f = k.fields in rotation_front law p f.xs f.rear f.acc f.left f.origin f.off k.here))
    (λ k. plain_front law p k)

-- a schedule that waits is a rotation
pub waiting_schedule : {w : World} → IsLawful w → (p : ℕ) → is_schedule (recs w) p ≡ true → (r : Rec) → recs w p ≡ Some r → is_pending r ≡ true → RotationAt w p
waiting_schedule {w} law p h r e pend = schedule_cases w p h (λ k. k) (λ k. absurd (true≢false (sym pend ∙ value_waits r (plain_value law p r e k))))

-- an empty schedule is plain
pub empty_plain : {w : World} → IsLawful w → (p : ℕ) → is_schedule (recs w) p ≡ true → length (cells (recs w) p) ≡ 0 → is_plain (recs w) p ≡ true
empty_plain {w} law p h z = schedule_cases w p h
    (λ k. absurd (let f = k.fields in omega (arith, z, rotation_length law p f.xs f.rear f.acc f.left f.origin f.off k.here)))
    (λ k. k)

-- ---- what comes after the first cell

-- a rotation with so many cells of its front left, of an origin at an offset
pub record NextRotation (w : World) (p left o off : ℕ) : Type 0 where
  pub xs : Ref
  pub rear : Ref
  pub acc : Ref
  pub origin : Ref
  pub here : recs w p ≡ Some (RtRot xs rear acc left origin off)
  pub same : origin.0 ≡ o

next_of : (w : World) (rest rear acc left o off p : ℕ) (r : Rec) → recs w p ≡ Some r → next_rt_rotation w rest rear acc left o off r ≡ true → NextRotation w p (left - 1) o (suc off)
next_of w rest rear acc left o off p r e h = let k = at_true _ (recs w rear) h in list k.0 k.2
  where
    of_cell : (c : Bool) (v rear' : ℕ) (r : Rec) → recs w p ≡ Some r → is_rt_rotation w rest (same_place w rear') (λ a. holds (recs w) a (is_cell c v (same_place w acc))) (left - 1) o (suc off) r ≡ true → NextRotation w p (left - 1) o (suc off)
    of_cell c v rear' (RtRot xs' rr' acc' left' o' off') e t =
        let a = and_parts (same_place w rest xs'.0 && same_place w rear' rr'.0 && holds (recs w) acc'.0 (is_cell c v (same_place w acc)) && eqb (left - 1) left' && eqb o o'.0) (eqb (suc off) off') t in
        let b = and_parts (same_place w rest xs'.0 && same_place w rear' rr'.0 && holds (recs w) acc'.0 (is_cell c v (same_place w acc)) && eqb (left - 1) left') (eqb o o'.0) a.0 in
        let d = and_parts (same_place w rest xs'.0 && same_place w rear' rr'.0 && holds (recs w) acc'.0 (is_cell c v (same_place w acc))) (eqb (left - 1) left') b.0 in
        rw (eqb-true (left - 1) left' d.1, eqb-true (suc off) off' a.1) (record { xs = xs'; rear = rr'; acc = acc'; origin = o'; here = e; same = sym (eqb-true o o'.0 b.1) })
    of_cell c v rear' _ e t = absurd (true≢false (sym t))

    list : (q : Rec) → on_list_cell (λ c v rear'. is_rt_rotation w rest (same_place w rear') (λ a. holds (recs w) a (is_cell c v (same_place w acc))) (left - 1) o (suc off) r) q ≡ true → NextRotation w p (left - 1) o (suc off)
    list (LCons c v rest') t = of_cell c v rest'.0 r e t
    list _ t = absurd (true≢false (sym t))

module _ (w : World) (law : IsLawful w) (p : ℕ) (xs rear acc : Ref) (left : ℕ) (o : Ref) (off : ℕ) (e : recs w p ≡ Some (RtRot xs rear acc left o off)) (c : Bool) (v : ℕ) (rest : Ref) (h : value_at w p ≡ Some (Cons c v rest)) where
  -- after the last rotation stand the cells that were turned round
  pub rest_plain : left ≡ 0 → is_plain (recs w) rest.0 ≡ true
  rest_plain z =
      let d = done_of_value w p _ _ e refl h in
      let made = sym (cond-true (eqb left 0) _ _ (eq-eqb left 0 z)) ∙ (law.done p _ e d.0 d.1).made in
      let k = at_true _ (recs w rear.0) made in
      by d.0.0 d.2 k.0 k.2
    where
      by : (q : ℕ) → recs w q ≡ Some (Cons c v rest) → (r : Rec) → on_list_cell (λ c' v' _. holds (recs w) q (is_cell c' v' (eqb acc.0))) r ≡ true → is_plain (recs w) rest.0 ≡ true
      by q here (LCons c' v' _) t =
          let m = holds_at (recs w) q (is_cell c' v' (eqb acc.0)) (Cons c v rest) t here in
          let same : acc.0 ≡ rest.0 = eqb-true acc.0 rest.0 (and_parts (same_bool c' c && eqb v' v) (eqb acc.0 rest.0) m).1 in
          subst (λ q. is_plain (recs w) q ≡ true) same (rotation_well law p xs rear acc left o off e).plain
      by q here _ t = absurd (true≢false (sym t))

  -- and after any other the next rotation
  pub rest_next : 0 < left → NextRotation w rest.0 (left - 1) o.0 (suc off)
  rest_next pos =
      let d = done_of_value w p _ _ e refl h in
      let made = sym (cond-false (eqb left 0) _ _ (ne_eqb left 0 (λ z. omega (arith, z, pos)))) ∙ (law.done p _ e d.0 d.1).made in
      let k = at_true _ (value_at w xs.0) made in
      by d.0.0 d.2 k.0 k.2
    where
      by : (q : ℕ) → recs w q ≡ Some (Cons c v rest) → (r : Rec) → on_cell (λ c' v' rest'. holds (recs w) q (is_cell c' v' (λ m. holds (recs w) m (next_rt_rotation w rest' rear.0 acc.0 left o.0 off)))) r ≡ true → NextRotation w rest.0 (left - 1) o.0 (suc off)
      by q here (Cons c' v' rest') t =
          let m = holds_at (recs w) q (is_cell c' v' (λ m. holds (recs w) m (next_rt_rotation w rest'.0 rear.0 acc.0 left o.0 off))) (Cons c v rest) t here in
          let n = (and_parts (same_bool c' c && eqb v' v) (holds (recs w) rest.0 (next_rt_rotation w rest'.0 rear.0 acc.0 left o.0 off)) m).1 in
          let z = at_true (next_rt_rotation w rest'.0 rear.0 acc.0 left o.0 off) (recs w rest.0) n in
          next_of w rest'.0 rear.0 acc.0 left o.0 off rest.0 z.0 z.1 z.2
      by q here _ t = absurd (true≢false (sym t))

  rotation_rest : is_schedule (recs w) rest.0 ≡ true
  rotation_rest = ⊎_elim
      (λ z. plain_schedule (recs w) rest.0 (rest_plain z))
      (λ z. (let k = rest_next (omega (arith, z)) in rotation_schedule (recs w) rest.0 k.xs k.rear k.acc (left - 1) k.origin (suc off) k.here))
      (cases_eq left 0)

-- after the first cell of a schedule stands a schedule
pub schedule_rest : {w : World} → IsLawful w → (p : ℕ) (c : Bool) (v : ℕ) (rest : Ref) → is_schedule (recs w) p ≡ true → value_at w p ≡ Some (Cons c v rest) → is_schedule (recs w) rest.0 ≡ true
schedule_rest {w} law p c v rest sched h = schedule_cases w p sched
    (λ k. (let f = k.fields in rotation_rest w law p f.xs f.rear f.acc f.left f.origin f.off k.here c v rest h))
    (λ k. plain_schedule (recs w) rest.0 (plain_rest law p c v rest h k))

-- after the first cell of a front stands a front
pub front_rest : {w : World} → IsLawful w → (p : ℕ) (c : Bool) (v : ℕ) (rest : Ref) → is_rt_front (recs w) p ≡ true → value_at w p ≡ Some (Cons c v rest) → is_rt_front (recs w) rest.0 ≡ true
front_rest {w} law p c v rest front h = let k = front_there (recs w) p front in by k.0 k.1
  where
    own : (r : Rec) → recs w p ≡ Some r → is_pending r ≡ false → recs w p ≡ Some (Cons c v rest)
    own r e n = e ∙ (sym (value_self w p r e n) ∙ h)

    cell : recs w p ≡ Some (Cons c v rest) → is_rt_front (recs w) rest.0 ≡ true
    cell e = sym (front_is law p (Cons c v rest) e) ∙ front

    by : (r : Rec) → recs w p ≡ Some r → is_rt_front (recs w) rest.0 ≡ true
    by (RtRot xs rear acc left o off) e = schedule_front law rest.0 (schedule_rest law p c v rest (rotation_schedule (recs w) p xs rear acc left o off e) h)
    by Nil e = cell (own Nil e refl)
    by (Cons c' v' rest') e = cell (own (Cons c' v' rest') e refl)
    by r e = absurd (true≢false (sym (sym (front_is law p r e) ∙ front)))
