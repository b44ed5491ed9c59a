-- Puts of tops: what they fill and spend.
use Rattle.std.proofs.Common.{◌≡◌, ℕ, ◌+◌, ◌<◌, ◌≤◌, leb, refl, ap, ◌∙◌, arith, Bool, true, false, [], cond}
use Rattle.std.proofs.lemmas.Bool.{le-leb, lt-leb, cond-true, cond-false}
use Rattle.lazy_rec.specs.declared.records.Rec.{Rec}
use Rattle.lazy_rec.specs.Units.{paid}
use Rattle.heap_store.specs.Span.{Span}
use Rattle.heap_store.specs.World.{recs}
use Rattle.heap_store.specs.Hand.{Hand, IsInHand, is_later, brings}
use Rattle.heap_store.specs.Budget.{gain_at}
use Rattle.heap_store.specs.View.{View, Quiet, Put, Fits, purse}
use Rattle.heap_store.proofs.Steps.{quiet_Filled, put_spends, put_free, brings_grow, filling_start, filling_put, filling_paid, unpassed_quiet, unpassed_put}
use Rattle.heap_store.proofs.FillLaws.{Filled_trans}
use Rattle.rt_queue.specs.Queue.{top_places, IsTopPut}

-- a top's own put
pub put_one : {a b : View} {run run' : Span} {r : Rec} → IsInHand a.hand run → Put a b run.next r → run' ≡ record run { next = run.next + 1 } → Fits a run.next r → gain_at a.seen run.next r ≤ 1 → is_later run.next r ≡ false → IsTopPut a b run run' 1
put_one {a} {b} {run} {run'} {r} held put same fits gain first =
    let f = filling_paid (filling_start a run held) put same fits in
    record {
      filled = f.filled;
      size = rw same refl;
      same_end = f.same_end;
      held = f.held;
      credits = omega (arith, put_spends put fits, gain);
      unpassed = unpassed_put put first;
    }

-- a look that changes nothing leaves as much at hand
pub purse_quiet : {a b : View} → Quiet a b → purse a ≤ purse b
purse_quiet {a} {b} q =
    let grown = brings_grow (recs a.seen) (recs b.seen) q.grows.records a.hand.claims in
    let same : purse b ≡ a.hand.credits + brings (recs b.seen) a.hand.claims = ap (λ (h : Hand). h.credits + brings (recs b.seen) h.claims) q.hand in
    omega (arith, grown, same)

pub quiet_put : {a b c : View} {run run' : Span} {n : ℕ} → Quiet a b → IsTopPut b c run run' n → IsTopPut a c run run' n
quiet_put q k = record {
  filled = quiet_Filled q k.filled;
  size = k.size;
  same_end = k.same_end;
  held = k.held;
  credits = omega (arith, purse_quiet q, k.credits);
  unpassed = λ s u. k.unpassed s (unpassed_quiet q s u);
}

-- after a put of a first suspension, which shows nothing
pub put_after : {a b c : View} {run mid run' : Span} {r : Rec} → IsInHand a.hand run → Put a b run.next r → mid ≡ record run { next = run.next + 1 } → paid (recs a.seen) run.next r ≡ [] → is_later run.next r ≡ false → IsTopPut b c mid run' 1 → IsTopPut a c run run' 2
put_after {a} {b} {c} {run} {mid} {run'} {r} held put same none first k =
    let f = filling_put (filling_start a run held) put same none in
    let n : mid.next ≡ run.next + 1 = rw same refl in
    record {
      filled = Filled_trans f.low (omega (arith, k.size)) f.filled k.filled;
      size = omega (arith, k.size, n);
      same_end = k.same_end ∙ f.same_end;
      held = k.held;
      credits = omega (arith, put_free put none, k.credits);
      unpassed = λ s u. k.unpassed s (unpassed_put put first s u);
    }

-- ---- places

pub one_place : (lenf lenr : ℕ) → lenr ≤ lenf → top_places lenf lenr ≡ 1
one_place lenf lenr h = cond-true (leb lenr lenf) 1 2 (le-leb lenr lenf h)

pub two_places : (lenf lenr : ℕ) → lenf < lenr → top_places lenf lenr ≡ 2
two_places lenf lenr h = cond-false (leb lenr lenf) 1 2 (lt-leb lenr lenf h)

pub least_places : (lenf lenr : ℕ) → 1 ≤ top_places lenf lenr
least_places lenf lenr = go (leb lenr lenf)
  where
    go : (b : Bool) → 1 ≤ cond b 1 2
    go true = omega arith
    go false = omega arith

pub most_places : (lenf lenr : ℕ) → top_places lenf lenr ≤ 2
most_places lenf lenr = go (leb lenr lenf)
  where
    go : (b : Bool) → cond b 1 2 ≤ 2
    go true = omega arith
    go false = omega arith
