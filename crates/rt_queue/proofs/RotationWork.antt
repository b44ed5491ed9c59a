-- What a rotation needs, what its build is given, and what it makes.
use Rattle.std.proofs.Common.{◌≡◌, ℕ, zero, suc, ◌+◌, ◌-◌, ◌<◌, ◌≤◌, eqb, max, refl, sym, ap, ◌∙◌, arith, subst, Bool, true, false, cond, ◌&&◌, Some, List, [], ◌∷◌, ◌++◌, length, take, reverse}
use Rattle.std.specs.List.{list_all}
use Rattle.std.proofs.lemmas.Bool.{true≢false, and_from, eq-eqb, le-leb, ne_eqb, cond-true, cond-false}
use Rattle.std.proofs.lemmas.List.{append_assoc, reverse-append, nil_from_length}
use Rattle.lazy_rec.specs.declared.places.Ref.{Ref}
use Rattle.lazy_rec.specs.declared.records.Rec.TheVariants.{Cons, LCons, RtRot}
use Rattle.lazy_rec.specs.Meaning.{Entry, entry, cells}
use Rattle.heap_store.specs.World.{World, recs, holds, is_value, value_at}
use Rattle.heap_store.specs.Completion.{next_rt_rotation, same_bool}
use Rattle.heap_store.specs.Lawful.{IsLawful, needs, walk, height}
use Rattle.heap_store.specs.Span.{Span}
use Rattle.heap_store.specs.View.{View, MayComplete}
use Rattle.heap_store.specs.Jobs.{IsReady, IsBuildable}
use Rattle.heap_store.proofs.Steps.{ready_is, ready_places}
use Rattle.heap_store.proofs.ShowLaws.{one_value}
use Rattle.heap_store.proofs.LawfulLaws.{lawful_names}
use Rattle.heap_store.proofs.MeaningLaws.{cells_is}
use Rattle.heap_store.proofs.ValueLaws.{value_stands}
use Rattle.heap_store.proofs.HeightLaws.{height_is}
use Rattle.heap_store.proofs.CellLaws.{first_cell, list_cells, same_means}
use Rattle.heap_store.specs.OneStage.{nothing_told}
use Rattle.heap_store.proofs.WalkLaws.{walk_some, walk_first}
use Rattle.heap_store.proofs.AnyCells.{CellBelow, cell_below, first_low, list_cell_low, cell_most, same_cell}
use Rattle.rt_queue.proofs.Fronts.{RotationWell, rotation_well}
use Rattle.rt_queue.proofs.RotationLaws.{Turned, same_rotation}

-- ---- what is ready

-- a rotation's front is known, as far as it has cells
pub front_known : {w : World} → IsLawful w → (s : ℕ) (xs rear acc : Ref) (left : ℕ) (o : Ref) (off : ℕ) → recs w s ≡ Some (RtRot xs rear acc left o off) → 0 < left → is_value w xs.0 ≡ true
front_known {w} law s xs rear acc left o off e pos =
    let l : left ≡ suc (left - 1) = omega (arith, pos) in
    let t = walk_some w left xs.0 (rotation_well law s xs rear acc left o off e).known in
    let k = walk_first w (left - 1) xs.0 t.0 (subst (λ n. walk w n xs.0 ≡ Some t.0) l t.1) in
    (value_stands law xs.0 k.0 k.1).1.known

needs_known : {w : World} → IsLawful w → (s : ℕ) (xs rear acc : Ref) (left : ℕ) (o : Ref) (off : ℕ) → recs w s ≡ Some (RtRot xs rear acc left o off) → list_all (is_value w) (needs w (RtRot xs rear acc left o off)) ≡ true
needs_known {w} law s xs rear acc left o off e = go (eqb left 0) refl
  where
    go : (b : Bool) → eqb left 0 ≡ b → list_all (is_value w) (cond b [] (xs.0 ∷ [])) ≡ true
    go true z = refl
    go false z = and_from (is_value w xs.0) true (front_known law s xs rear acc left o off e (some left z)) refl
      where
        some : (n : ℕ) → eqb n 0 ≡ false → 0 < n
        some zero z = absurd (true≢false z)
        some (suc n) z = omega arith

-- so a rotation is ready
pub ready_rotation : {w : World} → IsLawful w → (s : ℕ) (xs rear acc : Ref) (left : ℕ) (o : Ref) (off : ℕ) → recs w s ≡ Some (RtRot xs rear acc left o off) → (nodes : ℕ) → nodes ≡ cond (eqb left 0) 1 3 → IsReady nothing_told w s nodes
ready_rotation {w} law s xs rear acc left o off e nodes n = record {
  rec = RtRot xs rear acc left o off;
  here = e;
  needs = needs_known law s xs rear acc left o off e;
  told = tt;
  exact = λ _. n;
  most = omega (arith, n);
}

-- ---- what a build is given

pub record Given (v : View) (run : Span) (s xs rear acc : Ref) (left off nodes : ℕ) : Type 0 where
  pub well : RotationWell v.seen s.0 xs rear acc left off
  pub size : run.next + nodes ≡ run.end
  pub low : s.0 < run.next

pub given : {v : View} → IsLawful v.seen → {s : Ref} {run : Span} → IsBuildable nothing_told v s run → (xs rear acc : Ref) (left : ℕ) (o : Ref) (off nodes : ℕ) → cond (eqb left 0) 1 3 ≡ nodes → recs v.seen s.0 ≡ Some (RtRot xs rear acc left o off) → Given v run s xs rear acc left off nodes
given {v} law {s} {run} b xs rear acc left o off nodes x e =
    let n : b.nodes ≡ nodes = ready_places b (RtRot xs rear acc left o off) e refl ∙ x in
    record {
      well = rotation_well law s.0 xs rear acc left o off e;
      size = omega (arith, b.size, n);
      low = b.above s.0 _ b.ready.here;
    }

pub three : (left : ℕ) → 0 < left → ◌≡◌ {A = ℕ} (cond (eqb left 0) 1 3) 3
three left pos = cond-false (eqb left 0) 1 3 (ne_eqb left 0 (λ z. omega (arith, z, pos)))

-- the first cell of the front that a build of a next rotation reads
pub given_cell : {v : View} {s : Ref} {run : Span} → IsBuildable nothing_told v s run → (xs rear acc : Ref) (left : ℕ) (o : Ref) (off : ℕ) → 0 < left → recs v.seen s.0 ≡ Some (RtRot xs rear acc left o off)
    → (c : Bool) (x : ℕ) (rest : Ref) → value_at v.seen xs.0 ≡ Some (Cons c x rest) → CellBelow v.seen run.next c x rest
given_cell {v} {s} {run} b xs rear acc left o off pos e c x rest h =
    let same = ready_is b (RtRot xs rear acc left o off) e in
    let here = rw same at b.ready.here in
    cell_below b.base_lawful b.base_grows run.next b.above xs.0 (front_known b.base_lawful s.0 xs rear acc left o off here pos) c x rest h

-- ---- what is made

turned : (l : ℕ) (e r : Entry) (xs ys zs : List Entry) → take (suc l) (e ∷ xs) ++ reverse (r ∷ ys) ++ zs ≡ e ∷ (take l xs ++ reverse ys ++ (r ∷ zs))
turned l e r xs ys zs = ap (λ t. e ∷ t) (ap (λ t. take l xs ++ t ++ zs) (reverse-append (r ∷ []) ys) ∙ (ap (λ t. t ++ zs) (sym (append_assoc (take l xs) (reverse ys) (r ∷ []))) ∙ append_assoc (take l xs ++ reverse ys) (r ∷ []) zs))

pub rotation_height : {w : World} → IsLawful w → (p : ℕ) (xs rear acc : Ref) (left : ℕ) (o : Ref) (off : ℕ) → recs w p ≡ Some (RtRot xs rear acc left o off) → height (recs w) p ≡ max (max (max 0 (height (recs w) xs.0)) (height (recs w) rear.0)) (height (recs w) acc.0)
rotation_height law p xs rear acc left o off e = height_is law p _ e

-- the value that the puts of a next rotation and of the first cell make
pub done_next : {w : World} → IsLawful w → (s : ℕ) (xs rear acc : Ref) (left : ℕ) (o : Ref) (off : ℕ) → recs w s ≡ Some (RtRot xs rear acc left o off) → 0 < left → (c : Bool) (v : ℕ) (rest rear' acc' : Ref) → (t : Turned w xs rear acc c v rest rear' acc')
    → (next : Ref) (place : ℕ) → recs w next.0 ≡ Some (RtRot rest rear' acc' (left - 1) o (off + 1)) → recs w place ≡ Some (Cons c v next) → MayComplete w s place 1
done_next {w} law s xs rear acc left o off e pos c v rest rear' acc' t next place n p r z =
    let same : RtRot xs rear acc left o off ≡ r = one_value _ _ (sym e ∙ z) in
    let names = lawful_names law in
    let rs = recs w in
    let l : left ≡ suc (left - 1) = omega (arith, pos) in
    let cs = cells_is rs names s _ e in
    let ca = cells_is rs names acc'.0 _ t.put in
    let cn : cells rs next.0 ≡ take (left - 1) (cells rs rest.0) ++ reverse (cells rs rear'.0) ++ (entry t.child t.value ∷ cells rs acc.0) = cells_is rs names next.0 _ n ∙ ap (λ u. take (left - 1) (cells rs rest.0) ++ reverse (cells rs rear'.0) ++ u) ca in
    let cp = cells_is rs names place _ p in
    let cr = list_cells law rear.0 t.child t.value rear' t.last in
    let fx = (first_cell law xs.0 c v rest t.first).cells_are in
    let whole : cells rs s ≡ entry c v ∷ cells rs next.0 = cs ∙ (rw (fx, cr) (ap (λ (i : ℕ). take i (entry c v ∷ cells rs rest.0) ++ reverse (entry t.child t.value ∷ cells rs rear'.0) ++ cells rs acc.0) l
    ∙ turned (left - 1) (entry c v) (entry t.child t.value) (cells rs rest.0) (cells rs rear'.0) (cells rs acc.0)) ∙ ap (λ u. entry c v ∷ u) (sym cn)) in
    let all : cells rs place ≡ cells rs s = cp ∙ sym whole in
    let own = rotation_height law s xs rear acc left o off e in
    let f = first_low law xs.0 c v rest t.first in
    let g = list_cell_low law rear.0 t.child t.value rear' t.last in
    let high_acc = cell_most law acc'.0 t.child t.value acc (height rs s) t.put (record { rest = omega (arith, own); child = λ u. (let q = g.child u in omega (arith, q, own)) }) in
    let high_next : height rs next.0 ≤ height rs s = omega (arith, rotation_height law next.0 rest rear' acc' (left - 1) o (off + 1) n, high_acc, f.rest, g.rest, own) in
    let high = cell_most law place c v next (height rs s) p (record { rest = high_next; child = λ u. (let q = f.child u in omega (arith, q, own)) }) in
    let h = t.first in
    rw (← same) (record {
      pending = refl;
      value = rw p refl;
      needs = needs_known law s xs rear acc left o off e;
      made = cond-false (eqb left 0) _ _ (ne_eqb left 0 (λ z. omega (arith, z, pos))) ∙ rw (h, p) (
          and_from (same_bool c c && eqb v v) (holds rs next.0 (next_rt_rotation w rest.0 rear.0 acc.0 left o.0 off)) (same_cell c v) (rw n (same_rotation w rest rear acc left o off t.child t.value rear' acc' t.last t.put)));
      steps = refl;
      height = le-leb (height rs place) (height rs s) high;
      trees = refl;
      keys = refl;
      levels = refl;
      means = same_means law s place (RtRot xs rear acc left o off) (Cons c v next) e p refl refl all;
      cells = all;
    })

-- the value of the last rotation of a family
pub done_last : {w : World} → IsLawful w → (s : ℕ) (xs rear acc : Ref) (left : ℕ) (o : Ref) (off : ℕ) → recs w s ≡ Some (RtRot xs rear acc left o off) → left ≡ 0 → (c : Bool) (v : ℕ) (rest : Ref) → recs w rear.0 ≡ Some (LCons c v rest)
    → (place : ℕ) → recs w place ≡ Some (Cons c v acc) → MayComplete w s place 1
done_last {w} law s xs rear acc left o off e z c v rest h place p r f =
    let same : RtRot xs rear acc left o off ≡ r = one_value _ _ (sym e ∙ f) in
    let names = lawful_names law in
    let rs = recs w in
    let k = rotation_well law s xs rear acc left o off e in
    let cs = cells_is rs names s _ e in
    let cp = cells_is rs names place _ p in
    let cr = list_cells law rear.0 c v rest h in
    let lr : length (cells rs rear.0) ≡ suc (length (cells rs rest.0)) = ap length cr in
    let none : cells rs rest.0 ≡ [] = nil_from_length (cells rs rest.0) (omega (arith, lr, k.rear_cells, z)) in
    let whole : cells rs s ≡ entry c v ∷ cells rs acc.0 = cs ∙ rw (z, cr, none) refl in
    let all : cells rs place ≡ cells rs s = cp ∙ sym whole in
    let own = rotation_height law s xs rear acc left o off e in
    let g = list_cell_low law rear.0 c v rest h in
    let high = cell_most law place c v acc (height rs s) p (record { rest = omega (arith, own); child = λ u. (let q = g.child u in omega (arith, q, own)) }) in
    rw (← same) (record {
      pending = refl;
      value = rw p refl;
      needs = needs_known law s xs rear acc left o off e;
      made = cond-true (eqb left 0) _ _ (eq-eqb left 0 z) ∙ rw (h, p) (and_from (same_bool c c && eqb v v) (eqb acc.0 acc.0) (same_cell c v) (eq-eqb acc.0 acc.0 refl));
      steps = refl;
      height = le-leb (height rs place) (height rs s) high;
      trees = refl;
      keys = refl;
      levels = refl;
      means = same_means law s place (RtRot xs rear acc left o off) (Cons c v acc) e p refl refl all;
      cells = all;
    })
