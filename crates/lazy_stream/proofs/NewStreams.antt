-- The streams over which operations put their tops.
use Rattle.std.proofs.Common.{◌≡◌, ℕ, suc, ◌+◌, ◌-◌, ◌<◌, ◌≤◌, refl, sym, ap, ◌∙◌, arith, subst, false, Some, List, [], ◌∷◌, ◌++◌, length, take, reverse}
use Rattle.std.proofs.lemmas.List.{take_all, append-nil, length-append, length-reverse, nil_from_length}
use Rattle.std.proofs.lemmas.Bool.{and_from}
use Rattle.lazy_rec.specs.declared.places.Ref.{Ref}
use Rattle.lazy_rec.specs.declared.records.Rec.{Rec}
use Rattle.lazy_rec.specs.declared.records.Rec.TheVariants.{Cons, Append, Reverse}
use Rattle.lazy_rec.specs.Meaning.{Entry, an_item, cells}
use Rattle.heap_store.specs.declared.jobs.EventJob.{EventJob}
use Rattle.heap_store.specs.declared.jobs.After.TheVariants.{End}
use Rattle.lazy_rec.specs.declared.events.Reply.TheVariants as replies
use Rattle.heap_store.specs.World.{World, recs, value_at}
use Rattle.heap_store.specs.Lawful.{IsLawful, is_stream}
use Rattle.heap_store.specs.Span.{Span}
use Rattle.heap_store.specs.Hand.{IsInHand}
use Rattle.heap_store.specs.Budget.{gain_at}
use Rattle.heap_store.specs.Stages.{due_now}
use Rattle.heap_store.specs.View.{View, Quiet, Put, Fits}
use Rattle.heap_store.specs.Jobs.{Filled, IsEnd, IsEventBuilt}
use Rattle.heap_store.proofs.LawfulLaws.{lawful_names}
use Rattle.heap_store.proofs.MeaningLaws.{cells_is}
use Rattle.heap_store.proofs.EntryLaws.{are_items, are_items-append, are_items-reverse}
use Rattle.heap_store.proofs.Steps.{filling_start, filling_quiet, filling_paid, Filled-none, Filled-quiet}
use Rattle.heap_store.proofs.FillLaws.{Filled_trans}
use Rattle.lazy_stream.specs.Stream.{IsStreamOf}
use Rattle.lazy_stream.proofs.Streams.{stream_is, stream_cell}

-- ---- streams with these cells

pub record HasCells (w : World) (p size place : ℕ) (entries : List Entry) : Type 0 where
  pub stream : IsStreamOf w p size place
  pub are : cells (recs w) p ≡ entries

-- a cell before a stream
pub cons_cells : {w : World} {q : ℕ} → IsLawful w → (p x : ℕ) (rest : Ref) (n place : ℕ) → recs w p ≡ Some (Cons false x rest) → IsStreamOf w rest.0 n q → n + 1 < 2147483648 → p < place → HasCells w p (n + 1) place (an_item x ∷ cells (recs w) rest.0)
cons_cells {w} law p x rest n place e s few low =
    let c = cells_is (recs w) (lawful_names law) p _ e in
    record {
      stream = record { stream = stream_is law p _ e ∙ s.stream; items = ap are_items c ∙ s.items; count = ap length c ∙ omega (arith, s.count); most = few; low = low };
      are = c;
    }

-- one stream behind another
pub append_cells : {w : World} {q q' : ℕ} → IsLawful w → (p : ℕ) (xs ys : Ref) (n m : ℕ) (o : Ref) (place : ℕ) → recs w p ≡ Some (Append xs ys n o 0) → IsStreamOf w xs.0 n q → IsStreamOf w ys.0 m q' → n + m < 2147483648 → p < place → HasCells w p (n + m) place (cells (recs w) xs.0 ++ cells (recs w) ys.0)
append_cells {w} law p xs ys n m o place e a b few low =
    let rs = recs w in
    let whole : take n (cells rs xs.0) ≡ cells rs xs.0 = take_all n (cells rs xs.0) (omega (arith, a.count)) in
    let c : cells rs p ≡ cells rs xs.0 ++ cells rs ys.0 = cells_is rs (lawful_names law) p _ e ∙ ap (λ t. t ++ cells rs ys.0) whole in
    record {
      stream = record {
        stream = stream_is law p _ e ∙ and_from (is_stream rs xs.0) (is_stream rs ys.0) a.stream b.stream;
        items = ap are_items c ∙ are_items-append (cells rs xs.0) (cells rs ys.0) a.items b.items;
        count = ap length c ∙ (length-append (cells rs xs.0) (cells rs ys.0) ∙ omega (arith, a.count, b.count));
        most = few;
        low = low;
      };
      are = c;
    }

-- one reversed
pub reverse_cells : {w : World} {q : ℕ} → IsLawful w → (p : ℕ) (xs : Ref) (n place : ℕ) → recs w p ≡ Some (Reverse xs n) → IsStreamOf w xs.0 n q → p < place → HasCells w p n place (reverse (cells (recs w) xs.0))
reverse_cells {w} law p xs n place e a low =
    let rs = recs w in
    let whole : take n (cells rs xs.0) ≡ cells rs xs.0 = take_all n (cells rs xs.0) (omega (arith, a.count)) in
    let c : cells rs p ≡ reverse (cells rs xs.0) = cells_is rs (lawful_names law) p _ e ∙ ap reverse whole in
    record {
      stream = record {
        stream = stream_is law p _ e ∙ a.stream;
        items = ap are_items c ∙ are_items-reverse (cells rs xs.0) a.items;
        count = ap length c ∙ (length-reverse (cells rs xs.0) ∙ a.count);
        most = a.most;
        low = low;
      };
      are = c;
    }

-- what comes after the first cell
pub rest_cells : {w : World} {q : ℕ} → IsLawful w → (xs n x : ℕ) (rest : Ref) (place : ℕ) → IsStreamOf w xs n q → value_at w xs ≡ Some (Cons false x rest) → rest.0 < place → HasCells w rest.0 (n - 1) place (cells (recs w) rest.0)
rest_cells {w} law xs n x rest place s h low =
    let c = stream_cell law xs x rest s.stream s.items h in
    let l : length (cells (recs w) xs) ≡ suc (length (cells (recs w) rest.0)) = ap length c.cell.cells_are in
    record { stream = record { stream = c.stream; items = c.items; count = omega (arith, l, s.count); most = omega (arith, s.most); low = low }; are = refl }

-- an empty stream before another, behind another, and reversed
pub none_before : {w : World} {xs ys n m place place' : ℕ} → IsStreamOf w xs n place' → n ≡ 0 → IsStreamOf w ys m place → HasCells w ys (n + m) place (cells (recs w) xs ++ cells (recs w) ys)
none_before {w} {xs} {ys} {n} {m} a none b =
    let e : cells (recs w) xs ≡ [] = nil_from_length _ (a.count ∙ none) in
    let size : n + m ≡ m = omega (arith, none) in
    rw (e, size) (record { stream = b; are = refl })

pub none_behind : {w : World} {xs ys n m place place' : ℕ} → IsStreamOf w xs n place → IsStreamOf w ys m place' → m ≡ 0 → HasCells w xs (n + m) place (cells (recs w) xs ++ cells (recs w) ys)
none_behind {w} {xs} {ys} {n} {m} a b none =
    let e : cells (recs w) ys ≡ [] = nil_from_length _ (b.count ∙ none) in
    let size : n + m ≡ n = omega (arith, none) in
    rw (e, size) (record { stream = a; are = sym (append-nil _) })

pub none_reversed : {w : World} {xs n place : ℕ} → IsStreamOf w xs n place → n ≡ 0 → HasCells w xs n place (reverse (cells (recs w) xs))
none_reversed {w} {xs} a none = let e : cells (recs w) xs ≡ [] = nil_from_length _ (a.count ∙ none) in record { stream = a; are = rw e refl }

-- ---- before the top

-- all but the last place of a run is filled, for so many credits at most, and the last one is for the top of such a stream
pub record BeforeTop (v now : View) (before run : Span) (front size spent : ℕ) (entries : List Entry) : Type 0 where
  pub filled : Filled v now before.next run.next
  pub low : before.next ≤ run.next
  pub last : run.next + 1 ≡ run.end
  pub same_end : run.end ≡ before.end
  pub held : IsInHand now.hand run
  pub credits : v.hand.credits ≤ now.hand.credits + spent
  pub made : HasCells now.seen front size run.next entries

-- where nothing was put
pub only_top : {v now : View} {run : Span} {front size spent : ℕ} {entries : List Entry} → Quiet v now → IsInHand v.hand run → run.next + 1 ≡ run.end → HasCells now.seen front size run.next entries → BeforeTop v now run run front size spent entries
only_top {v} {now} {run} q held last made = record {
  filled = Filled-quiet (Filled-none v run.next) q;
  low = omega arith;
  last = last;
  same_end = refl;
  held = rw q.hand held;
  credits = rw q.hand (omega arith);
  made = made;
}

-- where one record was put before
pub after_put : {v mid now : View} {before run : Span} {r : Rec} {front size spent : ℕ} {entries : List Entry} → Quiet v mid → IsInHand v.hand before → before.next + 2 ≡ before.end → Fits mid before.next r → Put mid now before.next r → run ≡ record before { next = before.next + 1 } → gain_at mid.seen before.next r ≤ spent → HasCells now.seen front size run.next entries → BeforeTop v now before run front size spent entries
after_put {v} {mid} {now} {before} {run} q held room fits put same gain made =
    let f = filling_paid (filling_quiet (filling_start v before held) q) put same fits in
    let at : run.next ≡ before.next + 1 = ap (λ (t : Span). t.next) same in
    record {
      filled = f.filled;
      low = f.low;
      last = omega (arith, at, f.same_end, room);
      same_end = f.same_end;
      held = f.held;
      credits = omega (arith, f.credits, gain);
      made = made;
    }

-- the top was put, and the event has ended
pub event_built : {v now new : View} {job : EventJob} {before run after : Span} {front size spent : ℕ} {entries : List Entry} → BeforeTop v now before run front size spent entries → Filled now new run.next run.end → after.next ≡ after.end → now.hand.credits ≤ new.hand.credits → spent ≤ due_now job
    → (root : Ref) (total : ℕ) → IsEnd new.seen job root.0 total replies.Ok → IsEventBuilt v new job before after (End root total replies.Ok)
event_built {v} {now} {new} {job} {before} b filled spent_all credits due root total end = record {
  filled = subst (λ n. Filled v new before.next n) b.same_end (Filled_trans b.low (omega (arith, b.last)) b.filled filled);
  spent = spent_all;
  made = end;
  credits = omega (arith, b.credits, credits, due);
}
