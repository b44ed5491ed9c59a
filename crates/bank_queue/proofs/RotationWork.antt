-- What a rotation needs, what its build is given, and what it makes.
use Rattle.std.proofs.Common.{◌≡◌, ℕ, zero, suc, ◌+◌, ◌-◌, ◌<◌, ◌≤◌, eqb, refl, sym, ap, ◌∙◌, arith, Bool, true, false, cond, ◌&&◌, Some, List, [], ◌∷◌, ◌++◌, take, reverse}
use Rattle.std.specs.List.{list_all}
use Rattle.std.proofs.lemmas.Bool.{and_parts, and_from, eq-eqb, le-leb, ne_eqb, cond-false, or_left}
use Rattle.lazy_rec.specs.declared.places.Ref.{Ref}
use Rattle.lazy_rec.specs.declared.records.Rec.TheVariants.{Cons, BankRot}
use Rattle.lazy_rec.specs.Meaning.{Entry, an_item, cells}
use Rattle.lazy_rec.specs.Units.{steps}
use Rattle.heap_store.specs.World.{World, recs, holds, is_value, value_at}
use Rattle.heap_store.specs.Completion.{next_bank_rotation, same_bool}
use Rattle.heap_store.specs.Lawful.{IsLawful, EachRecord, is_any_bank_rotation, needs, height}
use Rattle.heap_store.specs.Budget.{is_settled}
use Rattle.heap_store.specs.Span.{Span}
use Rattle.heap_store.specs.View.{View, MayComplete}
use Rattle.heap_store.specs.Jobs.{IsReady, IsNeed, IsBuildable, most_places}
use Rattle.heap_store.proofs.GrowthLaws.{is_value_up}
use Rattle.heap_store.proofs.Steps.{ready_is, ready_places}
use Rattle.heap_store.proofs.ShowLaws.{one_value}
use Rattle.heap_store.proofs.LawfulLaws.{lawful_names}
use Rattle.heap_store.proofs.MeaningLaws.{cells_is}
use Rattle.heap_store.proofs.ValueLaws.{Waits, value_down}
use Rattle.heap_store.proofs.HeightLaws.{item_height}
use Rattle.heap_store.proofs.CellLaws.{same_means}
use Rattle.heap_store.specs.OneStage.{nothing_told}
use Rattle.bank_queue.proofs.Fronts.{waiting_front, front_cell}
use Rattle.bank_queue.proofs.RotationLaws.{RotationWell, rotation_well, rotation_height, same_rotation}
use Rattle.bank_queue.proofs.PaidFronts.{xs_paid, paid_funded}

-- ---- what is ready

needs_first : (w : World) (xs rear : Ref) (left : ℕ) (o : Ref) (off : ℕ) → is_value w xs.0 ≡ true → list_all (is_value w) (needs w (BankRot xs rear left o off)) ≡ true
needs_first w xs rear left o off h = go (eqb left 0)
  where
    go : (b : Bool) → list_all (is_value w) (cond b [] (xs.0 ∷ [])) ≡ true
    go true = refl
    go false = and_from (is_value w xs.0) true h refl

first_needed : (w : World) (xs rear : Ref) (left : ℕ) (o : Ref) (off : ℕ) → 0 < left → list_all (is_value w) (needs w (BankRot xs rear left o off)) ≡ true → is_value w xs.0 ≡ true
first_needed w xs rear left o off pos h =
    let e = cond-false (eqb left 0) [] (xs.0 ∷ []) (ne_eqb left 0 (λ z. omega (arith, z, pos))) in
    (and_parts (is_value w xs.0) true (rw e at h)).0

exact_next : (xs rear : Ref) (left : ℕ) (o : Ref) (off : ℕ) → 0 < left → most_places (BankRot xs rear left o off) ≡ 2
exact_next xs rear left o off pos = cond-false (eqb left 0) (off + 1) 2 (ne_eqb left 0 (λ z. omega (arith, z, pos)))

steps_next : (xs rear : Ref) (left : ℕ) (o : Ref) (off : ℕ) → 0 < left → steps (BankRot xs rear left o off) ≡ 1
steps_next xs rear left o off pos = cond-false (eqb left 0) (off + 1) 1 (ne_eqb left 0 (λ z. omega (arith, z, pos)))

pub ready_next : {w : World} → IsLawful w → (s : ℕ) (xs rear : Ref) (left : ℕ) (o : Ref) (off : ℕ) → 0 < left → recs w s ≡ Some (BankRot xs rear left o off) → is_value w xs.0 ≡ true → IsReady nothing_told w s 2
ready_next {w} law s xs rear left o off pos e h = record {
  rec = BankRot xs rear left o off;
  here = e;
  needs = needs_first w xs rear left o off h;
  told = tt;
  exact = λ _. sym (exact_next xs rear left o off pos);
  most = omega (arith, exact_next xs rear left o off pos);
}

pub ready_last : {w : World} → IsLawful w → (s : ℕ) (xs rear : Ref) (left : ℕ) (o : Ref) (off : ℕ) → left ≡ 0 → recs w s ≡ Some (BankRot xs rear left o off) → IsReady nothing_told w s (off + 1)
ready_last {w} law s xs rear left o off z e = record {
  rec = BankRot xs rear left o off;
  here = e;
  needs = rw z refl;
  told = tt;
  exact = λ _. rw z refl;
  most = rw z (omega arith);
}

pub need_next : {w : World} → IsLawful w → (s : ℕ) (xs rear : Ref) (left : ℕ) (o : Ref) (off : ℕ) → 0 < left → recs w s ≡ Some (BankRot xs rear left o off) → Waits w xs.0 → EachRecord w (is_settled w) → IsNeed is_any_bank_rotation w s xs.0
need_next {w} law s xs rear left o off pos e waits settled =
    let well = rotation_well law s xs rear left o off e in
    let k = waiting_front law xs.0 well.front waits.pending in
    let n = cond-false (eqb left 0) [] (xs.0 ∷ []) (ne_eqb left 0 (λ z. omega (arith, z, pos))) in
    record {
      rec = BankRot xs rear left o off;
      here = e;
      need = rw n (or_left (eqb xs.0 xs.0) false (eq-eqb xs.0 xs.0 refl));
      other = k.rec;
      there = k.here;
      work = k.work;
      lower = omega (arith, well.xs_low, rotation_height law s xs rear left o off e);
      not_done = waits.undone;
      funded = λ _. paid_funded w xs.0 k.rec k.here k.rotation (xs_paid law settled s xs rear left o off e);
    }

-- ---- what a build is given, in the world in which its run was reserved

pub record Given (v : View) (base : World) (run : Span) (s xs : Ref) (rear : Ref) (left : ℕ) (o : Ref) (off nodes : ℕ) : Type 0 where
  pub here : recs base s.0 ≡ Some (BankRot xs rear left o off)
  pub needs : list_all (is_value base) (needs base (BankRot xs rear left o off)) ≡ true
  pub size : run.next + nodes ≡ run.end
  pub low : s.0 < run.next

given : {v : View} {s : Ref} {run : Span} (b : IsBuildable nothing_told v s run) → (xs rear : Ref) (left : ℕ) (o : Ref) (off nodes : ℕ) → most_places (BankRot xs rear left o off) ≡ nodes → recs v.seen s.0 ≡ Some (BankRot xs rear left o off) → Given v b.base run s xs rear left o off nodes
given {v} {s} {run} b xs rear left o off nodes x e =
    let same = ready_is b (BankRot xs rear left o off) e in
    let n : b.nodes ≡ nodes = ready_places b (BankRot xs rear left o off) e refl ∙ x in
    record {
      here = rw same at b.ready.here;
      needs = rw same at b.ready.needs;
      size = omega (arith, b.size, n);
      low = b.above s.0 _ b.ready.here;
    }

-- the first cell that a build of a next rotation reads
pub record GivenNext (v : View) (base : World) (run : Span) (s xs : Ref) (rear : Ref) (left : ℕ) (o : Ref) (off : ℕ) : Type 0 where
  pub given : Given v base run s xs rear left o off 2
  pub well : RotationWell v.seen s.0 xs rear left o off
  pub known : is_value v.seen xs.0 ≡ true
  pub rest_low : (value : ℕ) (rest : Ref) → value_at v.seen xs.0 ≡ Some (Cons false value rest) → rest.0 < run.next

pub given_next : {v : View} → IsLawful v.seen → {s : Ref} {run : Span} (b : IsBuildable nothing_told v s run) → (xs rear : Ref) (left : ℕ) (o : Ref) (off : ℕ) → 0 < left → recs v.seen s.0 ≡ Some (BankRot xs rear left o off) → GivenNext v b.base run s xs rear left o off
given_next {v} law {s} {run} b xs rear left o off pos e =
    let k = given b xs rear left o off 2 (exact_next xs rear left o off pos) e in
    let m = rotation_well b.base_lawful s.0 xs rear left o off k.here in
    let known = first_needed b.base xs rear left o off pos k.needs in
    record {
      given = k;
      well = rotation_well law s.0 xs rear left o off e;
      known = is_value_up b.base v.seen b.base_grows xs.0 known;
      rest_low = λ value rest h. (
          let c = front_cell b.base_lawful xs.0 value rest m.front m.xs_items (value_down b.base_lawful b.base_grows xs.0 known _ h) in
          omega (arith, c.cell.rest_named.0, b.above c.cell.place _ c.cell.here));
    }

pub given_last : {v : View} {s : Ref} {run : Span} (b : IsBuildable nothing_told v s run) → (xs rear : Ref) (left : ℕ) (o : Ref) (off : ℕ) → left ≡ 0 → recs v.seen s.0 ≡ Some (BankRot xs rear left o off) → Given v b.base run s xs rear left o off (off + 1)
given_last b xs rear left o off z e = given b xs rear left o off (off + 1) (rw z refl) e

-- ---- what is made

split : (left : ℕ) (x : Entry) (xs ys : List Entry) → 0 < left → take left (x ∷ xs) ++ ys ≡ x ∷ (take (left - 1) xs ++ ys)
split zero x xs ys pos = absurd (omega arith)
split (suc left) x xs ys pos = let e : suc left - 1 ≡ left = omega arith in rw e refl

-- the value that the puts of a next rotation and of the first cell make
pub done_next : {w : World} → IsLawful w → (s q : ℕ) (xs rear : Ref) (left : ℕ) (o : Ref) (off value : ℕ) (rest next : Ref) → 0 < left → recs w s ≡ Some (BankRot xs rear left o off) → is_value w xs.0 ≡ true → value_at w xs.0 ≡ Some (Cons false value rest)
    → recs w next.0 ≡ Some (BankRot rest rear (left - 1) o (off + 1)) → recs w q ≡ Some (Cons false value next) → MayComplete w s q 1
done_next {w} law s q xs rear left o off value rest next pos e known h e1 e2 r f =
    let same : BankRot xs rear left o off ≡ r = one_value _ _ (sym e ∙ f) in
    let k = rotation_well law s xs rear left o off e in
    let c = front_cell law xs.0 value rest k.front k.xs_items h in
    let a = cells_is (recs w) (lawful_names law) q _ e2 in
    let b = cells_is (recs w) (lawful_names law) next.0 _ e1 in
    let d = cells_is (recs w) (lawful_names law) s _ e in
    let all : cells (recs w) q ≡ cells (recs w) s = a ∙ ap (λ t. an_item value ∷ t) b ∙ sym (d ∙ rw c.cell.cells_are (split left (an_item value) (cells (recs w) rest.0) (reverse (cells (recs w) rear.0)) pos)) in
    let low : height (recs w) q ≤ height (recs w) s = omega (arith, item_height law q value next e2, rotation_height law next.0 rest rear (left - 1) o (off + 1) e1, rotation_height law s xs rear left o off e) in
    rw (← same) (record {
      pending = refl;
      value = rw e2 refl;
      needs = needs_first w xs rear left o off known;
      made = cond-false (eqb left 0) _ _ (ne_eqb left 0 (λ z. omega (arith, z, pos))) ∙ rw (h, e2) (
          and_from (same_bool false false && eqb value value) (holds (recs w) next.0 (next_bank_rotation w rest.0 rear.0 left o.0 off)) (and_from true (eqb value value) refl (eq-eqb value value refl)) (rw e1 (same_rotation w rest rear (left - 1) o off)));
      steps = sym (steps_next xs rear left o off pos);
      height = le-leb (height (recs w) q) (height (recs w) s) low;
      trees = refl;
      keys = refl;
      levels = refl;
      means = same_means law s q (BankRot xs rear left o off) (Cons false value next) e e2 refl refl all;
      cells = all;
    })
