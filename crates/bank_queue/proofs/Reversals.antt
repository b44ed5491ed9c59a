-- A loop that publishes a rear's cells in reverse.
use Rattle.std.proofs.Common.{◌≡◌, ℕ, suc, ◌+◌, ◌<◌, refl, sym, ap, ◌∙◌, arith, true, false, Some, List, [], ◌∷◌, ◌++◌, length, reverse}
use Rattle.std.proofs.lemmas.List.{append_assoc, reverse-append, append-nil, nil_from_length}
use Rattle.std.proofs.lemmas.Bool.{le-leb}
use Rattle.lazy_rec.specs.declared.places.Ref.{Ref}
use Rattle.lazy_rec.specs.declared.records.Rec.TheVariants.{Cons, LCons, BankRot}
use Rattle.lazy_rec.specs.declared.records.Sort.TheVariants as sorts
use Rattle.lazy_rec.specs.Meaning.{Entry, an_item, cells}
use Rattle.heap_store.specs.World.{World, recs, holds}
use Rattle.heap_store.specs.Values.{is_list}
use Rattle.heap_store.specs.Lawful.{IsLawful, has_items, height}
use Rattle.heap_store.specs.Span.{Span}
use Rattle.heap_store.specs.View.{View, IsLawfulView, Put, Quiet, Fits, MayComplete}
use Rattle.heap_store.specs.Jobs.{IsBuildable, IsBuilt}
use Rattle.heap_store.proofs.GrowthLaws.{at_true, grows_trans}
use Rattle.heap_store.proofs.ShowLaws.{one_value}
use Rattle.heap_store.proofs.LawfulLaws.{lawful_names}
use Rattle.heap_store.proofs.MeaningLaws.{cells_is, cells_kept}
use Rattle.heap_store.proofs.Steps.{IsFilling, filling_start, filling_quiet, filling_put}
use Rattle.heap_store.proofs.ReadLaws.{place_there, rec_back}
use Rattle.heap_store.proofs.WellNamed.{named_sort}
use Rattle.heap_store.proofs.CellLaws.{value_stream, value_sort, same_means, plain_there, plain_value, list_cells, list_fits, first_item}
use Rattle.heap_store.proofs.PlainCells.{PlainCells, plain_none, plain_grows, plain_cons, fits_plain}
use Rattle.heap_store.specs.OneStage.{nothing_told}
use Rattle.bank_queue.proofs.RotationLaws.{rotation_well, rotation_most}
use Rattle.bank_queue.proofs.RotationWork.{given_last}

-- ---- the loop

-- `left` cells of `rest` are still to be put before `acc`
pub record Reversing (old now : View) (before run : Span) (rear rest acc left : ℕ) : Type 0 where
  pub filling : IsFilling old now before run 0
  pub room : run.next + left ≡ run.end
  pub rest_list : holds (recs old.seen) rest is_list ≡ true
  pub rest_items : has_items (recs old.seen) rest ≡ true
  pub rest_cells : length (cells (recs old.seen) rest) ≡ left
  pub entries : List Entry
  pub put : PlainCells now.seen acc entries
  pub acc_low : acc < run.next
  pub all : reverse (cells (recs old.seen) rest) ++ entries ≡ reverse (cells (recs old.seen) rear)

pub reversing_start : {v : View} → IsLawful v.seen → (s : Ref) (run : Span) (xs rear : Ref) (left : ℕ) (o : Ref) (off : ℕ) → left ≡ 0 → (b : IsBuildable nothing_told v s run) → recs v.seen s.0 ≡ Some (BankRot xs rear left o off) → Reversing v v run run rear.0 rear.0 0 (off + 1)
reversing_start {v} law s run xs rear left o off z b e =
    let g = given_last b xs rear left o off z e in
    let k = rotation_well law s.0 xs rear left o off e in
    record {
      filling = filling_start v run b.held;
      room = g.size;
      rest_list = named_sort (recs v.seen) s.0 (rear.0, sorts.List) k.rear_named;
      rest_items = k.rear_items;
      rest_cells = omega (arith, k.rear_cells, z);
      entries = [];
      put = plain_none law;
      acc_low = omega (arith, g.low);
      all = append-nil _;
    }

-- what a turn of the loop may use
pub record Turn (now : View) (rest : ℕ) : Type 0 where
  pub list : holds (recs now.seen) rest is_list ≡ true
  pub items : has_items (recs now.seen) rest ≡ true
  pub some : 0 < length (cells (recs now.seen) rest)

pub reversing_turn : {old now : View} {before run : Span} {rear rest acc left : ℕ} → IsLawful old.seen → Reversing old now before run rear rest acc left → 0 < left → Turn now rest
reversing_turn {old} {now} {before} {run} {rear} {rest} law r pos =
    let g = r.filling.filled.grows in
    let t = at_true is_list (recs old.seen rest) r.rest_list in
    let k = cells_kept (recs old.seen) (recs now.seen) (lawful_names law) g.records rest (t.0, t.1) in
    record { list = rw (g.records rest t.0 t.1) t.2; items = rw k at r.rest_items; some = rw (← k) (omega (arith, r.rest_cells)) }

-- what the cell that a turn reads is, in the world in which the loop began
record TurnCell (old : View) (rest value : ℕ) (tail : Ref) : Type 0 where
  here : recs old.seen rest ≡ Some (LCons false value tail)
  list : holds (recs old.seen) tail.0 is_list ≡ true
  cells_are : cells (recs old.seen) rest ≡ an_item value ∷ cells (recs old.seen) tail.0
  fits : value < 18446744073709551616

turn_cell : {old now : View} {before run : Span} {rear rest acc left : ℕ} → IsLawful old.seen → Reversing old now before run rear rest acc left → (value : ℕ) (tail : Ref) → recs now.seen rest ≡ Some (LCons false value tail) → TurnCell old rest value tail
turn_cell {old} {now} {before} {run} {rear} {rest} law r value tail e =
    let g = r.filling.filled.grows in
    let here = rec_back g.records rest (LCons false value tail) (place_there (recs old.seen) rest is_list r.rest_list) e in
    record {
      here = here;
      list = named_sort (recs old.seen) rest (tail.0, sorts.List) (lawful_names law rest _ here).0;
      cells_are = list_cells law rest false value tail here;
      fits = (list_fits law rest false value tail here).value;
    }

-- the put of a turn
pub record TurnPut (now : View) (run : Span) (value : ℕ) (acc : Ref) : Type 0 where
  pub left : run.next < run.end
  pub fits : Fits now run.next (Cons false value acc)

pub reversing_fits : {old now seen : View} {before run : Span} {rear rest left : ℕ} → IsLawful old.seen → IsLawful now.seen → IsLawfulView seen → (acc tail : Ref) (value : ℕ) → Reversing old now before run rear rest acc.0 left → 0 < left → Quiet now seen → recs now.seen rest ≡ Some (LCons false value tail) → TurnPut seen run value acc
reversing_fits {old} {now} {seen} {before} {run} {rear} {rest} {left} law0 law1 law acc tail value r pos q e =
    let c = turn_cell law0 r value tail e in
    let left_run : run.next < run.end = omega (arith, r.room) in
    let f = filling_quiet r.filling q in
    record { left = left_run; fits = fits_plain law run.next (f.held.each run.next (omega arith) left_run) value acc c.fits (plain_grows law1 q.grows.records r.put) r.acc_low }

reverse_step : (x : Entry) (xs ys : List Entry) → reverse (x ∷ xs) ++ ys ≡ reverse xs ++ (x ∷ ys)
reverse_step x xs ys = ap (λ t. t ++ ys) (reverse-append (x ∷ []) xs) ∙ append_assoc (reverse xs) (x ∷ []) ys

pub reversing_put : {old now seen new : View} {before run run' : Span} {rear rest : ℕ} (acc tail place : Ref) (value left : ℕ) → IsLawful old.seen → IsLawful now.seen → IsLawfulView seen → IsLawful new.seen → Reversing old now before run rear rest acc.0 (suc left) → Quiet now seen → recs now.seen rest ≡ Some (LCons false value tail)
    → Put seen new run.next (Cons false value acc) → run' ≡ record run { next = run.next + 1 } → place.0 ≡ run.next → Reversing old new before run' rear tail.0 place.0 left
reversing_put {old} {now} {seen} {new} {before} {run} {run'} {rear} {rest} acc tail place value left law0 law1 law law2 r q e p same at_next =
    let c = turn_cell law0 r value tail e in
    let k : suc (length (cells (recs old.seen) tail.0)) ≡ suc left = ap length (sym c.cells_are) ∙ r.rest_cells in
    rw (same, at_next) (record {
      filling = filling_put (filling_quiet r.filling q) p refl refl;
      room = omega (arith, r.room);
      rest_list = c.list;
      rest_items = (first_item (recs old.seen) rest tail.0 false value r.rest_items c.cells_are).others;
      rest_cells = omega (arith, k);
      entries = an_item value ∷ r.entries;
      put = plain_cons law2 run.next value acc p.here (plain_grows law1 (grows_trans q.grows p.grows).records r.put);
      acc_low = omega arith;
      all = sym (reverse_step (an_item value) (cells (recs old.seen) tail.0) r.entries) ∙ (rw c.cells_are at r.all);
    })

-- ---- what is made

done_last : {w : World} → IsLawful w → (s q : ℕ) (xs rear : Ref) (left : ℕ) (o : Ref) (off : ℕ) → left ≡ 0 → recs w s ≡ Some (BankRot xs rear left o off) → PlainCells w q (reverse (cells (recs w) rear.0)) → MayComplete w s q (off + 1)
done_last {w} law s q xs rear left o off z e k r f =
    let same : BankRot xs rear left o off ≡ r = one_value _ _ (sym e ∙ f) in
    let is = plain_there (recs w) q k.plain in
    let v = plain_value law q is.0 is.1 k.plain in
    let all : cells (recs w) q ≡ cells (recs w) s = k.are ∙ sym (cells_is (recs w) (lawful_names law) s _ e ∙ rw z refl) in
    rw (← same) (record {
      pending = refl;
      value = rw is.1 (value_stream is.0 v);
      needs = rw z refl;
      made = rw z k.plain;
      steps = rw z refl;
      height = le-leb (height (recs w) q) (height (recs w) s) (omega (arith, k.low));
      trees = refl;
      keys = refl;
      levels = refl;
      means = same_means law s q (BankRot xs rear left o off) is.0 e is.1 refl (value_sort is.0 v) all;
      cells = all;
    })

pub reversing_end : {old now : View} {before run : Span} {rest acc : ℕ} (s xs rear : Ref) (left : ℕ) (o : Ref) (off : ℕ) → IsLawful old.seen → IsLawful now.seen → left ≡ 0 → Reversing old now before run rear.0 rest acc 0 → recs old.seen s.0 ≡ Some (BankRot xs rear left o off) → IsBuilt old now s.0 before run acc (off + 1)
reversing_end {old} {now} {before} {run} {rest} {acc} s xs rear left o off law law' z r e =
    let g = r.filling.filled.grows in
    let k = rotation_well law s.0 xs rear left o off e in
    let most = rotation_most law s.0 xs rear left o off k in
    let rear_kept = cells_kept (recs old.seen) (recs now.seen) (lawful_names law) g.records rear.0 (k.rear_named.1, k.rear_named.2) in
    let none : cells (recs old.seen) rest ≡ [] = nil_from_length _ r.rest_cells in
    let all : r.entries ≡ reverse (cells (recs old.seen) rear.0) = rw none at r.all in
    let entries : r.entries ≡ reverse (cells (recs now.seen) rear.0) = all ∙ ap reverse rear_kept in
    let at_end : run.next ≡ before.end = omega (arith, r.room, r.filling.same_end) in
    record {
      filled = rw at_end at r.filling.filled;
      spent = omega (arith, r.room);
      value = done_last law' s.0 acc xs rear left o off z (g.records s.0 _ e) (rw entries at r.put);
      small = omega (arith, most, k.rear_fits);
      credits = omega (arith, r.filling.credits);
    }
