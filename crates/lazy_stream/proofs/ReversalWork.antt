-- A loop that publishes the cells of a stream in reverse.
use Rattle.std.proofs.Common.{◌≡◌, ℕ, suc, ◌+◌, ◌-◌, ◌<◌, refl, sym, ap, ◌∙◌, arith, false, true, Some, List, [], ◌∷◌, ◌++◌, length, take, reverse}
use Rattle.std.specs.List.{list_all}
use Rattle.std.proofs.lemmas.List.{append_assoc, reverse-append, append-nil, nil_from_length, take_all}
use Rattle.std.proofs.lemmas.Bool.{le-leb}
use Rattle.lazy_rec.specs.declared.places.Ref.{Ref}
use Rattle.lazy_rec.specs.declared.records.Rec.TheVariants.{Cons, Reverse}
use Rattle.lazy_rec.specs.Meaning.{Entry, an_item, cells}
use Rattle.heap_store.specs.World.{World, recs, holds, is_value, value_at}
use Rattle.heap_store.specs.Values.{is_stream_part}
use Rattle.heap_store.specs.Lawful.{IsLawful, walk, cell_places, height}
use Rattle.heap_store.specs.Span.{Span}
use Rattle.heap_store.specs.View.{View, IsLawfulView, Put, Quiet, Fits, MayComplete}
use Rattle.heap_store.specs.Jobs.{IsBuildable, IsBuilt}
use Rattle.heap_store.proofs.GrowthLaws.{grows_trans, is_value_up}
use Rattle.heap_store.proofs.ShowLaws.{one_value}
use Rattle.heap_store.proofs.LawfulLaws.{lawful_names, done_there}
use Rattle.heap_store.proofs.MeaningLaws.{cells_is, cells_kept}
use Rattle.heap_store.proofs.RecordLaws.{needs_up}
use Rattle.heap_store.proofs.ReadLaws.{holds_kept}
use Rattle.heap_store.proofs.ValueLaws.{value_down}
use Rattle.heap_store.proofs.Steps.{IsFilling, filling_start, filling_quiet, filling_put, ready_is, ready_places}
use Rattle.heap_store.proofs.CellLaws.{value_stream, value_sort, same_means, plain_there, plain_value, item_cell}
use Rattle.heap_store.proofs.PutLaws.{place_fits}
use Rattle.heap_store.specs.OneStage.{nothing_told}
use Rattle.lazy_stream.proofs.Streams.{StreamCell, stream_there, stream_part, stream_cell}
use Rattle.lazy_stream.proofs.Walks.{reached, walk_next, cell_needed, one_of}
use Rattle.lazy_stream.proofs.Reversals.{ReversalWell, reversal_well, Standing, standing}
use Rattle.heap_store.proofs.PlainCells.{PlainCells, plain_none, plain_grows, plain_cons, fits_plain}

-- ---- what a build is given

pub record Given (v : View) (run : Span) (s xs : Ref) (left : ℕ) : Type 0 where
  pub well : ReversalWell v.seen s.0 xs left
  pub needs : list_all (is_value v.seen) (cell_places v.seen left xs.0) ≡ true
  pub size : run.next + left ≡ run.end
  pub small : left < 4194304

pub given : {v : View} → IsLawfulView v → {s : Ref} {run : Span} (b : IsBuildable nothing_told v s run) → (xs : Ref) (left : ℕ) → recs v.seen s.0 ≡ Some (Reverse xs left) → Given v run s xs left
given {v} law {s} {run} b xs left e =
    let same = ready_is b (Reverse xs left) e in
    let n : b.nodes ≡ left = ready_places b (Reverse xs left) e refl in
    let needs = needs_up b.base v.seen (lawful_names b.base_lawful) b.base_grows (done_there b.base_lawful) s.0 b.ready.rec b.ready.here b.ready.needs in
    let well = reversal_well law.world s.0 xs left e in
    let last = place_fits law (run.end - 1) (b.held.each (run.end - 1) (omega (arith, b.size, n, well.some)) (omega (arith, b.size, n, well.some))) in
    let low = b.above s.0 _ b.ready.here in
    record { well = well; needs = rw same at needs; size = omega (arith, b.size, n); small = omega (arith, last, b.size, n, low) }

-- ---- the loop

-- so many cells of xs are put in reverse, from `acc` on; `rest` comes after them
pub record Reversing (old now : View) (before run : Span) (xs rest acc i : ℕ) : Type 0 where
  pub filling : IsFilling old now before run 0
  pub room : run.next ≡ before.next + i
  pub at : walk old.seen i xs ≡ Some rest
  pub entries : List Entry
  pub put : PlainCells now.seen acc entries
  pub acc_low : acc < run.next
  pub all : reverse (cells (recs old.seen) rest) ++ entries ≡ reverse (cells (recs old.seen) xs)

pub reversing_start : {v : View} → IsLawful v.seen → (s : Ref) (run : Span) (xs : Ref) → (b : IsBuildable nothing_told v s run) → Reversing v v run run xs.0 xs.0 0 0
reversing_start {v} law s run xs b = record {
  filling = filling_start v run b.held;
  room = omega arith;
  at = refl;
  entries = [];
  put = plain_none law;
  acc_low = (let low = b.above s.0 _ b.ready.here in omega (arith, low));
  all = append-nil _;
}

-- what a turn of the loop may use, in the world in which the loop began and now
pub record Turn (old now : View) (rest : ℕ) : Type 0 where
  pub here : Standing old.seen rest
  pub known : is_value old.seen rest ≡ true
  pub stream : holds (recs now.seen) rest is_stream_part ≡ true
  pub known_now : is_value now.seen rest ≡ true
  pub some : 0 < length (cells (recs now.seen) rest)

pub reversing_turn : {old now : View} {before run : Span} {xs s : Ref} {rest acc i left : ℕ} → IsLawful old.seen → recs old.seen s.0 ≡ Some (Reverse xs left) → Given old before s xs left → Reversing old now before run xs.0 rest acc i → i < left → Turn old now rest
reversing_turn {old} {now} {before} {run} {xs} {s} {rest} {acc} {i} {left} law e k r low =
    let g = r.filling.filled.grows in
    let t = standing law s.0 xs left rest i e r.at low in
    let known = one_of (is_value old.seen) (cell_places old.seen left xs.0) rest k.needs (cell_needed old.seen i left xs.0 rest r.at low) in
    let kept = cells_kept (recs old.seen) (recs now.seen) (lawful_names law) g.records rest (stream_there (recs old.seen) rest t.stream) in
    record {
      here = t;
      known = known;
      stream = holds_kept g.records rest is_stream_part (stream_part law rest t.stream);
      known_now = is_value_up old.seen now.seen g rest known;
      some = rw (← kept) t.some;
    }

-- the cell that a turn reads, in the world in which the loop began
record TurnCell (old : View) (rest v : ℕ) (tail : Ref) : Type 0 where
  value : value_at old.seen rest ≡ Some (Cons false v tail)
  cell : StreamCell old.seen rest v tail

turn_cell : {old now : View} {before run : Span} {xs rest acc i : ℕ} → IsLawful old.seen → Reversing old now before run xs rest acc i → Turn old now rest → (child : _) (v : ℕ) (tail : Ref) → value_at now.seen rest ≡ Some (Cons child v tail) → TurnCell old rest v tail
turn_cell {old} {now} {before} {run} {xs} {rest} law r t child v tail e =
    let value = item_cell law rest child v tail t.here.items (value_down law r.filling.filled.grows rest t.known _ e) in
    record { value = value; cell = stream_cell law rest v tail t.here.stream t.here.items value }

-- the put of a turn
pub record TurnPut (now : View) (run : Span) (v : ℕ) (acc : Ref) : Type 0 where
  pub left : run.next < run.end
  pub fits : Fits now run.next (Cons false v acc)

pub reversing_fits : {old now seen : View} {before run : Span} {xs rest i left : ℕ} {s first : Ref} → IsLawful old.seen → IsLawful now.seen → IsLawfulView seen → (acc tail : Ref) (child : _) (v : ℕ) → Given old before s first left → i < left → Reversing old now before run xs rest acc.0 i → Turn old now rest → Quiet now seen → value_at now.seen rest ≡ Some (Cons child v tail) → TurnPut seen run v acc
reversing_fits {old} {now} {seen} {before} {run} law0 law1 law acc tail child v k low r t q e =
    let c = turn_cell law0 r t child v tail e in
    let left : run.next < run.end = omega (arith, k.size, r.room, r.filling.same_end, low) in
    let f = filling_quiet r.filling q in
    record { left = left; fits = fits_plain law run.next (f.held.each run.next (omega arith) left) v acc c.cell.cell.fits.value (plain_grows law1 q.grows.records r.put) r.acc_low }

reverse_step : (x : Entry) (xs ys : List Entry) → reverse (x ∷ xs) ++ ys ≡ reverse xs ++ (x ∷ ys)
reverse_step x xs ys = ap (λ t. t ++ ys) (reverse-append (x ∷ []) xs) ∙ append_assoc (reverse xs) (x ∷ []) ys

pub reversing_put : {old now seen new : View} {before run run' : Span} {xs rest i : ℕ} (acc tail place : Ref) (child : _) (v : ℕ) → IsLawful old.seen → IsLawful now.seen → IsLawful new.seen → Reversing old now before run xs rest acc.0 i → Turn old now rest → Quiet now seen → value_at now.seen rest ≡ Some (Cons child v tail)
    → Put seen new run.next (Cons false v acc) → run' ≡ record run { next = run.next + 1 } → place.0 ≡ run.next → Reversing old new before run' xs tail.0 place.0 (suc i)
reversing_put {old} {now} {seen} {new} {before} {run} {run'} {xs} {rest} {i} acc tail place child v law0 law1 law2 r t q e p same at_next =
    let c = turn_cell law0 r t child v tail e in
    rw (same, at_next) (record {
      filling = filling_put (filling_quiet r.filling q) p refl refl;
      room = omega (arith, r.room);
      at = walk_next old.seen xs i rest v tail r.at c.value;
      entries = an_item v ∷ r.entries;
      put = plain_cons law2 run.next v acc p.here (plain_grows law1 (grows_trans q.grows p.grows).records r.put);
      acc_low = omega arith;
      all = sym (reverse_step (an_item v) (cells (recs old.seen) tail.0) r.entries) ∙ (rw c.cell.cell.cells_are at r.all);
    })

-- ---- what is made

done_reversal : {w : World} → IsLawful w → (s q : ℕ) (xs : Ref) (left : ℕ) → recs w s ≡ Some (Reverse xs left) → list_all (is_value w) (cell_places w left xs.0) ≡ true → PlainCells w q (reverse (cells (recs w) xs.0)) → MayComplete w s q left
done_reversal {w} law s q xs left e needs k r f =
    let same : Reverse xs left ≡ r = one_value _ _ (sym e ∙ f) in
    let well = reversal_well law s xs left e in
    let is = plain_there (recs w) q k.plain in
    let v = plain_value law q is.0 is.1 k.plain in
    let whole : take left (cells (recs w) xs.0) ≡ cells (recs w) xs.0 = take_all left (cells (recs w) xs.0) (omega (arith, well.xs_cells)) in
    let all : cells (recs w) q ≡ cells (recs w) s = k.are ∙ sym (cells_is (recs w) (lawful_names law) s _ e ∙ ap reverse whole) in
    rw (← same) (record {
      pending = refl;
      value = rw is.1 (value_stream is.0 v);
      needs = needs;
      made = k.plain;
      steps = refl;
      height = le-leb (height (recs w) q) (height (recs w) s) (omega (arith, k.low));
      trees = refl;
      keys = refl;
      levels = refl;
      means = same_means law s q (Reverse xs left) is.0 e is.1 refl (value_sort is.0 v) all;
      cells = all;
    })

pub reversing_end : {old now : View} {before run : Span} {rest acc i : ℕ} {s xs : Ref} {left : ℕ} → IsLawful old.seen → IsLawful now.seen → recs old.seen s.0 ≡ Some (Reverse xs left) → Given old before s xs left → Reversing old now before run xs.0 rest acc i → i ≡ left → IsBuilt old now s.0 before run acc left
reversing_end {old} {now} {before} {run} {rest} {acc} {i} {s} {xs} {left} law law2 e k r at_end =
    let g = r.filling.filled.grows in
    let m = reached law xs.0 k.well.xs_stream k.well.xs_items i rest r.at in
    let xs_kept = cells_kept (recs old.seen) (recs now.seen) (lawful_names law) g.records xs.0 (k.well.xs_named.1, k.well.xs_named.2) in
    let none : cells (recs old.seen) rest ≡ [] = nil_from_length _ (omega (arith, m.count, k.well.xs_cells, at_end)) in
    let all : r.entries ≡ reverse (cells (recs old.seen) xs.0) = rw none at r.all in
    let entries : r.entries ≡ reverse (cells (recs now.seen) xs.0) = all ∙ ap reverse xs_kept in
    let full : run.next ≡ before.end = omega (arith, r.room, k.size, at_end) in
    let needs = needs_up old.seen now.seen (lawful_names law) g (done_there law) s.0 (Reverse xs left) e k.needs in
    record {
      filled = rw full at r.filling.filled;
      spent = omega (arith, full, r.filling.same_end);
      value = done_reversal law2 s.0 acc xs left (g.records s.0 _ e) needs (rw entries at r.put);
      small = omega (arith, k.small);
      credits = omega (arith, r.filling.credits);
    }
