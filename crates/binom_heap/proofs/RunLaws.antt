-- Runs that are filled with records that show nothing.
use Rattle.std.proofs.Common.{◌≡◌, ℕ, ◌+◌, ◌<◌, refl, ◌∙◌, arith, true, []}
use Rattle.lazy_rec.specs.Units.{paid}
use Rattle.heap_store.specs.Span.{Span}
use Rattle.heap_store.specs.World.{recs}
use Rattle.heap_store.specs.Hand.{Hand, IsInHand, contains}
use Rattle.heap_store.specs.View.{View, Quiet, Put}
use Rattle.heap_store.proofs.FillLaws.{Filled_trans}
use Rattle.heap_store.proofs.Steps.{Filled-none, Filled-put, Filled-quiet, quiet_Filled, IsInHand-next, put_free}
use Rattle.heap_store.specs.Budget.{gain_at}
use Rattle.binom_heap.specs.Laying.{Puts}

pub puts_none : (v : View) (run : Span) → IsInHand v.hand run → Puts v v run run 0
puts_none v run h = record { filled = Filled-none v run.next; next = omega arith; same_end = refl; held = h; credits = omega arith }

pub puts_quiet : {a b c : View} {before run : Span} {n : ℕ} → Puts a b before run n → Quiet b c → Puts a c before run n
puts_quiet f q = record { filled = Filled-quiet f.filled q; next = f.next; same_end = f.same_end; held = rw q.hand f.held; credits = rw q.hand f.credits }

pub quiet_puts : {a b c : View} {before run : Span} {n : ℕ} → Quiet a b → Puts b c before run n → Puts a c before run n
quiet_puts q f = record { filled = quiet_Filled q f.filled; next = f.next; same_end = f.same_end; held = f.held; credits = (let k = f.credits in rw q.hand at k) }

pub puts_put : {a b c : View} {before run run' : Span} {r : _} {n : ℕ} → Puts a b before run n → Put b c run.next r → run' ≡ record run { next = run.next + 1 } → paid (recs b.seen) run.next r ≡ [] → Puts a c before run' (n + 1)
puts_put {a} {b} {c} {before} {run} {run'} {r} f p e none =
    rw e (record {
      filled = Filled-put (omega (arith, f.next)) f.filled p;
      next = omega (arith, f.next);
      same_end = f.same_end;
      held = rw p.hand (IsInHand-next (recs b.seen) b.hand run r (gain_at b.seen run.next r) f.held);
      credits = omega (arith, put_free p none, f.credits);
    })

pub puts_trans : {a b c : View} {before run run' : Span} {n m : ℕ} → Puts a b before run n → Puts b c run run' m → Puts a c before run' (n + m)
puts_trans f g = record {
  filled = Filled_trans (omega (arith, f.next)) (omega (arith, g.next)) f.filled g.filled;
  next = omega (arith, f.next, g.next);
  same_end = g.same_end ∙ f.same_end;
  held = g.held;
  credits = omega (arith, f.credits, g.credits);
}

-- the next place of a run that has places left is in hand
pub next_held : {h : Hand} {run : Span} → IsInHand h run → run.next < run.end → contains h.reserved run.next ≡ true
next_held {h} {run} held left = held.each run.next (omega arith) left
