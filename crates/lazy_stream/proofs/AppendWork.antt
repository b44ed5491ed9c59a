-- What an append needs, what its build is given, and what it makes.
use Rattle.std.proofs.Common.{◌≡◌, ℕ, zero, suc, ◌+◌, ◌-◌, ◌<◌, ◌≤◌, eqb, refl, sym, ap, ◌∙◌, arith, true, false, cond, ◌&&◌, Some, List, ◌∷◌, ◌++◌, take}
use Rattle.std.specs.List.{list_all, list_any}
use Rattle.std.proofs.lemmas.Bool.{true≢false, and_parts, and_from, eq-eqb, le-leb, ne_eqb, cond-true, cond-false, or_left}
use Rattle.lazy_rec.specs.declared.places.Ref.{Ref}
use Rattle.lazy_rec.specs.declared.records.Rec.{Rec}
use Rattle.lazy_rec.specs.declared.records.Rec.TheVariants.{Cons, Append, Reverse}
use Rattle.lazy_rec.specs.Meaning.{Entry, an_item, cells}
use Rattle.heap_store.specs.World.{World, recs, holds, is_value, value_at}
use Rattle.heap_store.specs.Completion.{next_append, same_bool}
use Rattle.heap_store.specs.Lawful.{IsLawful, is_stream, needs, height}
use Rattle.heap_store.specs.Budget.{is_funded}
use Rattle.heap_store.specs.Span.{Span}
use Rattle.heap_store.specs.View.{View, MayComplete}
use Rattle.heap_store.specs.Jobs.{IsReady, IsNeed, IsBuildable}
use Rattle.heap_store.proofs.GrowthLaws.{is_value_up}
use Rattle.heap_store.proofs.Steps.{ready_is, ready_places}
use Rattle.heap_store.proofs.ShowLaws.{one_value}
use Rattle.heap_store.proofs.LawfulLaws.{lawful_names}
use Rattle.heap_store.proofs.MeaningLaws.{cells_is}
use Rattle.heap_store.proofs.ValueLaws.{Waits, value_down}
use Rattle.heap_store.proofs.HeightLaws.{item_height}
use Rattle.heap_store.proofs.CellLaws.{same_means}
use Rattle.heap_store.specs.OneStage.{nothing_told}
use Rattle.lazy_stream.specs.Stream.{is_stream_work}
use Rattle.lazy_stream.proofs.Streams.{waiting_stream, stream_cell}
use Rattle.lazy_stream.proofs.Appends.{AppendWell, append_well, append_height, same_append}
use Rattle.lazy_stream.proofs.AppendFamilies.{append_funded, reversal_funded}

-- ---- what is needed

-- what of streams waits is paid for
pub work_funded : {w : World} → IsLawful w → (p : ℕ) (r : Rec) → recs w p ≡ Some r → is_stream_work r ≡ true → is_funded w p r ≡ true
work_funded law p (Append xs ys left o off) e h = append_funded law p xs ys left o off e
work_funded law p (Reverse xs left) e h = reversal_funded law p xs left e
work_funded law p _ e h = absurd (true≢false (sym h))

-- a stream that waits, is lower than a suspension and among what it needs
pub stream_need : {w : World} → IsLawful w → (s : ℕ) (r : Rec) → recs w s ≡ Some r → (t : ℕ) → list_any (λ q. eqb q t) (needs w r) ≡ true → height (recs w) t < height (recs w) s → is_stream (recs w) t ≡ true → Waits w t → IsNeed is_stream_work w s t
stream_need {w} law s r e t need lower stream waits =
    let k = waiting_stream law t stream waits.pending in
    record {
      rec = r;
      here = e;
      need = need;
      other = k.rec;
      there = k.here;
      work = k.work;
      lower = lower;
      not_done = waits.undone;
      funded = λ _. work_funded law t k.rec k.here k.is_work;
    }

pub append_need : {w : World} → IsLawful w → (s : ℕ) (xs ys : Ref) (left : ℕ) (o : Ref) (off : ℕ) → recs w s ≡ Some (Append xs ys left o off) → Waits w xs.0 → IsNeed is_stream_work w s xs.0
append_need {w} law s xs ys left o off e waits =
    let k = append_well law s xs ys left o off e in
    stream_need law s (Append xs ys left o off) e xs.0 (or_left (eqb xs.0 xs.0) false (eq-eqb xs.0 xs.0 refl)) (omega (arith, k.xs_low, append_height law s xs ys left o off e)) k.xs_stream waits

-- the places that an append of so many cells takes
abbrev pub places_with : ℕ → ℕ
places_with left = cond (eqb left 1) 1 2

-- an append whose first cell is known is ready
pub append_ready : (w : World) (s : ℕ) (xs ys : Ref) (left : ℕ) (o : Ref) (off nodes : ℕ) → recs w s ≡ Some (Append xs ys left o off) → is_value w xs.0 ≡ true → nodes ≡ places_with left → IsReady nothing_told w s nodes
append_ready w s xs ys left o off nodes e known n = record {
  rec = Append xs ys left o off;
  here = e;
  needs = and_from (is_value w xs.0) true known refl;
  told = tt;
  exact = λ _. n;
  most = omega (arith, n);
}

-- ---- what a build is given, in the world in which its run was reserved

pub one_place : (left : ℕ) → left ≡ 1 → places_with left ≡ 1
one_place left last = cond-true (eqb left 1) 1 2 (eq-eqb left 1 last)

pub two_places : (left : ℕ) → 1 < left → places_with left ≡ 2
two_places left more = cond-false (eqb left 1) 1 2 (ne_eqb left 1 (λ z. omega (arith, z, more)))

pub record Given (v : View) (run : Span) (s xs ys : Ref) (left : ℕ) (o : Ref) (off nodes : ℕ) : Type 0 where
  pub well : AppendWell v.seen s.0 xs ys left o off
  pub size : run.next + nodes ≡ run.end
  pub low : s.0 < run.next
  pub known : is_value v.seen xs.0 ≡ true
  pub rest_low : (value : ℕ) (rest : Ref) → value_at v.seen xs.0 ≡ Some (Cons false value rest) → rest.0 < run.next

pub given : {v : View} → IsLawful v.seen → {s : Ref} {run : Span} (b : IsBuildable nothing_told v s run) → (xs ys : Ref) (left : ℕ) (o : Ref) (off nodes : ℕ) → places_with left ≡ nodes → recs v.seen s.0 ≡ Some (Append xs ys left o off) → Given v run s xs ys left o off nodes
given {v} law {s} {run} b xs ys left o off nodes x e =
    let same = ready_is b (Append xs ys left o off) e in
    let n : b.nodes ≡ nodes = ready_places b (Append xs ys left o off) e refl ∙ x in
    let here : recs b.base s.0 ≡ Some (Append xs ys left o off) = rw same at b.ready.here in
    let need : list_all (is_value b.base) (needs b.base (Append xs ys left o off)) ≡ true = rw same at b.ready.needs in
    let known = (and_parts (is_value b.base xs.0) true need).0 in
    let m = append_well b.base_lawful s.0 xs ys left o off here in
    record {
      well = append_well law s.0 xs ys left o off e;
      size = omega (arith, b.size, n);
      low = b.above s.0 _ b.ready.here;
      known = is_value_up b.base v.seen b.base_grows xs.0 known;
      rest_low = λ value rest h. (
          let c = stream_cell b.base_lawful xs.0 value rest m.xs_stream m.xs_items (value_down b.base_lawful b.base_grows xs.0 known _ h) in
          omega (arith, c.cell.rest_named.0, b.above c.cell.place _ c.cell.here));
    }

-- ---- what is made

split : (left : ℕ) (x : Entry) (xs ys : List Entry) → 0 < left → take left (x ∷ xs) ++ ys ≡ x ∷ (take (left - 1) xs ++ ys)
split zero x xs ys pos = absurd (omega arith)
split (suc left) x xs ys pos = let e : suc left - 1 ≡ left = omega arith in rw e refl

-- the first cell before what comes after it
done_append : {w : World} → IsLawful w → (s q : ℕ) (xs ys : Ref) (left : ℕ) (o : Ref) (off value : ℕ) (rest tail : Ref) → recs w s ≡ Some (Append xs ys left o off) → is_value w xs.0 ≡ true → value_at w xs.0 ≡ Some (Cons false value rest) → recs w q ≡ Some (Cons false value tail)
    → cond (eqb left 1) (eqb ys.0 tail.0) (holds (recs w) tail.0 (next_append w rest.0 ys.0 left o.0 off)) ≡ true → height (recs w) tail.0 ≤ o.0 → cells (recs w) tail.0 ≡ take (left - 1) (cells (recs w) rest.0) ++ cells (recs w) ys.0 → MayComplete w s q 1
done_append {w} law s q xs ys left o off value rest tail e known h f made low after r g =
    let same : Append xs ys left o off ≡ r = one_value _ _ (sym e ∙ g) in
    let k = append_well law s xs ys left o off e in
    let c = stream_cell law xs.0 value rest k.xs_stream k.xs_items h in
    let a = cells_is (recs w) (lawful_names law) q _ f in
    let d = cells_is (recs w) (lawful_names law) s _ e in
    let all : cells (recs w) q ≡ cells (recs w) s = a ∙ ap (λ t. an_item value ∷ t) after ∙ sym (d ∙ rw c.cell.cells_are (split left (an_item value) (cells (recs w) rest.0) (cells (recs w) ys.0) k.some)) in
    rw (← same) (record {
      pending = refl;
      value = rw f refl;
      needs = and_from (is_value w xs.0) true known refl;
      made = rw (h, f) (and_from (same_bool false false && eqb value value) _ (and_from true (eqb value value) refl (eq-eqb value value refl)) made);
      steps = refl;
      height = le-leb (height (recs w) q) (height (recs w) s) (omega (arith, item_height law q value tail f, append_height law s xs ys left o off e, low));
      trees = refl;
      keys = refl;
      levels = refl;
      means = same_means law s q (Append xs ys left o off) (Cons false value tail) e f refl refl all;
      cells = all;
    })

-- before the next append
pub done_next : {w : World} → IsLawful w → (s q : ℕ) (xs ys : Ref) (left : ℕ) (o : Ref) (off value : ℕ) (rest next : Ref) → 1 < left → recs w s ≡ Some (Append xs ys left o off) → is_value w xs.0 ≡ true → value_at w xs.0 ≡ Some (Cons false value rest)
    → recs w next.0 ≡ Some (Append rest ys (left - 1) o (off + 1)) → recs w q ≡ Some (Cons false value next) → MayComplete w s q 1
done_next {w} law s q xs ys left o off value rest next more e known h e1 e2 =
    done_append law s q xs ys left o off value rest next e known h e2
    (cond-false (eqb left 1) _ _ (ne_eqb left 1 (λ z. omega (arith, z, more))) ∙ rw e1 (same_append w rest ys (left - 1) o off))
    (omega (arith, append_height law next.0 rest ys (left - 1) o (off + 1) e1))
    (cells_is (recs w) (lawful_names law) next.0 _ e1)

-- before the other stream
pub done_last : {w : World} → IsLawful w → (s q : ℕ) (xs ys : Ref) (left : ℕ) (o : Ref) (off value : ℕ) (rest : Ref) → left ≡ 1 → recs w s ≡ Some (Append xs ys left o off) → is_value w xs.0 ≡ true → value_at w xs.0 ≡ Some (Cons false value rest)
    → recs w q ≡ Some (Cons false value ys) → MayComplete w s q 1
done_last {w} law s q xs ys left o off value rest last e known h f =
    done_append law s q xs ys left o off value rest ys e known h f
    (cond-true (eqb left 1) _ _ (eq-eqb left 1 last) ∙ eq-eqb ys.0 ys.0 refl)
    (omega (arith, (append_well law s xs ys left o off e).ys_low))
    (rw last refl)
