-- Fronts: rotations, and cells all the way; and the first cell of a front.
use Rattle.std.proofs.Common.{◌≡◌, ℕ, suc, ◌-◌, ◌<◌, eqb, refl, sym, ap, ◌∙◌, arith, ⊎_elim, true, false, ◌&&◌, Some}
use Rattle.std.proofs.lemmas.Bool.{true≢false, and_parts, and_from, or_cases, or_left, or_right, eqb-true, eq-eqb, ne_eqb, cond-true, cond-false, cases_eq}
use Rattle.lazy_rec.specs.declared.places.Ref.{Ref}
use Rattle.lazy_rec.specs.declared.records.Rec.{Rec}
use Rattle.lazy_rec.specs.declared.records.Rec.TheVariants.{Nil, Cons, BankRot}
use Rattle.lazy_rec.specs.declared.records.Sort.TheVariants as sorts
use Rattle.lazy_rec.specs.Named.{Records, sort_of, is_pending}
use Rattle.heap_store.specs.World.{World, recs, holds, Keeps, value_at, same_place}
use Rattle.heap_store.specs.Completion.{is_plain, same_bool, is_cell, on_cell, first_cell as on_first_cell, is_bank_rotation, next_bank_rotation}
use Rattle.heap_store.specs.Lawful.{IsLawful, has_items, is_any_bank_rotation, is_bank_rotation_of}
use Rattle.heap_store.specs.Jobs.{IsWork}
use Rattle.heap_store.proofs.NameLaws.{IsPublished}
use Rattle.heap_store.proofs.GrowthLaws.{at_true}
use Rattle.heap_store.proofs.MadeLaws.{plain_kept}
use Rattle.heap_store.proofs.LawfulLaws.{lawful_names}
use Rattle.heap_store.proofs.ReadLaws.{holds_at, holds_from, place_there, holds_kept}
use Rattle.heap_store.proofs.ValueLaws.{done_of_value}
use Rattle.heap_store.proofs.CellLaws.{is_cell_or_end, value_waits, plain_is, plain_there, plain_value, first_item, FirstCell, first_cell, plain_rest}
use Rattle.bank_queue.specs.Front.{is_front}

-- ---- rotations

-- the fields of a rotation
pub record RotationFields (r : Rec) : Type 0 where
  pub xs : Ref
  pub rear : Ref
  pub left : ℕ
  pub origin : Ref
  pub off : ℕ
  pub is : r ≡ BankRot xs rear left origin off

pub rotation_fields : (r : Rec) → is_any_bank_rotation r ≡ true → RotationFields r
rotation_fields (BankRot xs rear left o off) h = record { xs = xs; rear = rear; left = left; origin = o; off = off; is = refl }
rotation_fields _ h = absurd (true≢false (sym h))

pub no_plain_rotation : {w : World} → IsLawful w → (p : ℕ) (r : Rec) → recs w p ≡ Some r → is_any_bank_rotation r ≡ true → is_plain (recs w) p ≡ true → ⊥
no_plain_rotation law p r e h plain = by r h (plain_value law p r e plain)
  where
    by : (r : Rec) → is_any_bank_rotation r ≡ true → is_cell_or_end r ≡ true → ⊥
    by (BankRot _ _ _ _ _) h k = true≢false (sym k)
    by _ h k = true≢false (sym h)

-- ---- fronts

pub plain_front : (rs : Records) (p : ℕ) → is_plain rs p ≡ true → is_front rs p ≡ true
plain_front rs p h = or_right (holds rs p is_any_bank_rotation) (is_plain rs p) h

pub rotation_front : (rs : Records) (p o off : ℕ) → holds rs p (is_bank_rotation_of o off) ≡ true → is_front rs p ≡ true
rotation_front rs p o off h =
    let k = at_true (is_bank_rotation_of o off) (rs p) h in
    or_left (holds rs p is_any_bank_rotation) (is_plain rs p) (holds_from rs p is_any_bank_rotation k.0 k.1 (by k.0 k.2))
  where
    by : (r : Rec) → is_bank_rotation_of o off r ≡ true → is_any_bank_rotation r ≡ true
    by (BankRot _ _ _ _ _) h = refl
    by _ h = absurd (true≢false (sym h))

pub front_there : (rs : Records) (p : ℕ) → is_front rs p ≡ true → IsPublished rs p
front_there rs p h = ⊎_elim (place_there rs p is_any_bank_rotation) (plain_there rs p) (or_cases (holds rs p is_any_bank_rotation) (is_plain rs p) h)

-- a front that is no rotation has cells all the way
pub front_plain : (rs : Records) (p : ℕ) (r : Rec) → rs p ≡ Some r → is_front rs p ≡ true → is_any_bank_rotation r ≡ false → is_plain rs p ≡ true
front_plain rs p r e h n = ⊎_elim
    (λ k. absurd (true≢false (sym (holds_at rs p is_any_bank_rotation r k e) ∙ n)))
    (λ k. k)
    (or_cases (holds rs p is_any_bank_rotation) (is_plain rs p) h)

pub front_sort : {w : World} → IsLawful w → (p : ℕ) → is_front (recs w) p ≡ true → (r : Rec) → recs w p ≡ Some r → sort_of r ≡ sorts.Stream
front_sort law p h (BankRot xs rear left o off) e = refl
front_sort law p h Nil e = refl
front_sort law p h (Cons c v rest) e = refl
front_sort {w} law p h r e = absurd (true≢false (sym (plain_value law p r e (front_plain (recs w) p r e h refl))))

-- a front that waits is a rotation
pub record WaitingFront (w : World) (p : ℕ) : Type 0 where
  pub rec : Rec
  pub here : recs w p ≡ Some rec
  pub rotation : is_any_bank_rotation rec ≡ true
  pub work : IsWork is_any_bank_rotation w p

pub waiting_front : {w : World} → IsLawful w → (p : ℕ) → is_front (recs w) p ≡ true → holds (recs w) p is_pending ≡ true → WaitingFront w p
waiting_front {w} law p h pend =
    let t = at_true is_pending (recs w p) pend in
    let k : is_any_bank_rotation t.0 ≡ true = ⊎_elim
    (λ k. holds_at (recs w) p is_any_bank_rotation t.0 k t.1)
    (λ plain. absurd (true≢false (sym t.2 ∙ value_waits t.0 (plain_value law p t.0 t.1 plain))))
    (or_cases (holds (recs w) p is_any_bank_rotation) (is_plain (recs w) p) h) in
    record { rec = t.0; here = t.1; rotation = k; work = rw t.1 (and_from (is_pending t.0) (is_any_bank_rotation t.0) t.2 k) }

-- growth keeps it a front
pub front_kept : {a : World} → IsLawful a → (b : Records) → Keeps (recs a) b → (p : ℕ) → is_front (recs a) p ≡ true → is_front b p ≡ true
front_kept {a} law b keeps p h = ⊎_elim
    (λ k. or_left (holds b p is_any_bank_rotation) (is_plain b p) (holds_kept keeps p is_any_bank_rotation k))
    (λ k. plain_front b p (sym (plain_kept (recs a) b (lawful_names law) keeps p (front_there (recs a) p h)) ∙ k))
    (or_cases (holds (recs a) p is_any_bank_rotation) (is_plain (recs a) p) h)

-- ---- what comes after the first cell

-- the next rotation of one's arguments has its origin, at the next offset
of_next : (w : World) (xs rear left o off : ℕ) (r : Rec) → is_bank_rotation w xs rear left o off r ≡ true → is_bank_rotation_of o off r ≡ true
of_next w xs rear left o off (BankRot xs' rear' left' o' off') h =
    let k = and_parts (same_place w xs xs'.0 && same_place w rear rear'.0 && eqb left left' && eqb o o'.0) (eqb off off') h in
    let m = and_parts (same_place w xs xs'.0 && same_place w rear rear'.0 && eqb left left') (eqb o o'.0) k.0 in
    and_from (eqb o'.0 o) (eqb off' off) (eq-eqb o'.0 o (sym (eqb-true o o'.0 m.1))) (eq-eqb off' off (sym (eqb-true off off' k.1)))
of_next w xs rear left o off _ h = absurd (true≢false (sym h))

module _ (w : World) (law : IsLawful w) (p : ℕ) (xs rear : Ref) (left : ℕ) (o : Ref) (off : ℕ) (e : recs w p ≡ Some (BankRot xs rear left o off)) (v : ℕ) (rest : Ref) (h : value_at w p ≡ Some (Cons false v rest)) where
  -- after a rotation without a front stand the reversed cells
  rest_plain : left ≡ 0 → is_plain (recs w) rest.0 ≡ true
  rest_plain z =
      let d = done_of_value w p _ _ e refl h in
      let n = cond-true (eqb left 0) (is_plain (recs w) d.0.0) (on_first_cell w xs.0 (λ k u next. holds (recs w) d.0.0 (is_cell k u (λ made. holds (recs w) made (next_bank_rotation w next rear.0 left o.0 off))))) (eq-eqb left 0 z) in
      sym (plain_is law d.0.0 (Cons false v rest) d.2) ∙ (sym n ∙ (law.done p _ e d.0 d.1).made)

  -- and after any other the next rotation
  rest_next : 0 < left → holds (recs w) rest.0 (is_bank_rotation_of o.0 (suc off)) ≡ true
  rest_next pos =
      let d = done_of_value w p _ _ e refl h in
      let n = cond-false (eqb left 0) _ (on_first_cell w xs.0 (λ k u next. holds (recs w) d.0.0 (is_cell k u (λ made. holds (recs w) made (next_bank_rotation w next rear.0 left o.0 off))))) (ne_eqb left 0 (λ z. omega (arith, z, pos))) in
      let k = at_true (on_cell (λ k u next. holds (recs w) d.0.0 (is_cell k u (λ made. holds (recs w) made (next_bank_rotation w next rear.0 left o.0 off))))) (value_at w xs.0) (sym n ∙ (law.done p _ e d.0 d.1).made) in
      by d.0.0 d.2 k.0 k.2
    where
      by : (q : ℕ) → recs w q ≡ Some (Cons false v rest) → (r : Rec) → on_cell (λ k u next. holds (recs w) q (is_cell k u (λ made. holds (recs w) made (next_bank_rotation w next rear.0 left o.0 off)))) r ≡ true → holds (recs w) rest.0 (is_bank_rotation_of o.0 (suc off)) ≡ true
      by q here (Cons k u next) f =
          let t = holds_at (recs w) q (is_cell k u (λ made. holds (recs w) made (next_bank_rotation w next.0 rear.0 left o.0 off))) (Cons false v rest) f here in
          let m = and_parts (same_bool k false && eqb u v) (holds (recs w) rest.0 (next_bank_rotation w next.0 rear.0 left o.0 off)) t in
          let z = at_true (next_bank_rotation w next.0 rear.0 left o.0 off) (recs w rest.0) m.1 in
          holds_from (recs w) rest.0 (is_bank_rotation_of o.0 (suc off)) z.0 z.1 (of_next w next.0 rear.0 (left - 1) o.0 (suc off) z.0 z.2)
      by q here _ f = absurd (true≢false (sym f))

  rest_front : is_front (recs w) rest.0 ≡ true
  rest_front = ⊎_elim (λ z. plain_front (recs w) rest.0 (rest_plain z)) (λ z. rotation_front (recs w) rest.0 o.0 (suc off) (rest_next (omega (arith, z)))) (cases_eq left 0)

-- the first cell of a front, of items, that is known
pub record FrontCell (w : World) (p v : ℕ) (rest : Ref) : Type 0 where
  pub cell : FirstCell w p false v rest
  pub front : is_front (recs w) rest.0 ≡ true
  pub items : has_items (recs w) rest.0 ≡ true
  pub plain : is_plain (recs w) p ≡ true → is_plain (recs w) rest.0 ≡ true
  pub last : (xs rear : Ref) (o : Ref) (off : ℕ) → recs w p ≡ Some (BankRot xs rear 0 o off) → is_plain (recs w) rest.0 ≡ true
  pub next : (xs rear : Ref) (left : ℕ) (o : Ref) (off : ℕ) → recs w p ≡ Some (BankRot xs rear left o off) → 0 < left → holds (recs w) rest.0 (is_bank_rotation_of o.0 (suc off)) ≡ true

pub front_cell : {w : World} → IsLawful w → (p v : ℕ) (rest : Ref) → is_front (recs w) p ≡ true → has_items (recs w) p ≡ true → value_at w p ≡ Some (Cons false v rest) → FrontCell w p v rest
front_cell {w} law p v rest front items h =
    let cell = first_cell law p false v rest h in
    record {
      cell = cell;
      front = ⊎_elim by_rotation (λ k. plain_front (recs w) rest.0 (plain_rest law p false v rest h k)) (or_cases (holds (recs w) p is_any_bank_rotation) (is_plain (recs w) p) front);
      items = (first_item (recs w) p rest.0 false v items cell.cells_are).others;
      plain = plain_rest law p false v rest h;
      last = λ xs rear o off e. rest_plain w law p xs rear 0 o off e v rest h refl;
      next = λ xs rear left o off e. rest_next w law p xs rear left o off e v rest h;
    }
  where
    by_rotation : holds (recs w) p is_any_bank_rotation ≡ true → is_front (recs w) rest.0 ≡ true
    by_rotation k =
        let t = at_true is_any_bank_rotation (recs w p) k in
        let f = rotation_fields t.0 t.2 in
        rest_front w law p f.xs f.rear f.left f.origin f.off (t.1 ∙ ap Some f.is) v rest h
