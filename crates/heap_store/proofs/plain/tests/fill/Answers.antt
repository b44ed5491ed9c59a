use Rattle.std.proofs.Common.{arith, sym, subst}
use Rattle.lazy_rec.specs.declared.records.Rec.TheVariants.{Leaf}
use Rattle.heap_store.specs.Hand.{IsInHand, hand_put}
use Rattle.heap_store.specs.Budget.{gain_at}
use Rattle.heap_store.specs.World.{recs}
use Rattle.heap_store.specs.Opened.{view_of}
use Rattle.heap_store.proofs.Steps.{IsInHand-next}
use Rattle.heap_store.proofs.PlainTests.{leaf_fits}
use Rattle.heap_store.proofs.plain.tests.fill.Goals as goal

pub put-place-requires : goal.put-place-requires
put-place-requires c = record { held = c.loop-heap.invariant; left = omega (arith, c.loop-heap-test.true, c.left.ensures); fits = leaf_fits (view_of c.loop-heap.heap) c.loop-heap.run.next }

pub loop-heap-preserved : goal.loop-heap-preserved
loop-heap-preserved c =
    let hand = (view_of c.loop-heap.heap).hand in
    subst (λ h. IsInHand h c.put-place.new.run) (sym c.put-place.ensures.put.hand)
    (subst (λ r. IsInHand (hand_put (recs (view_of c.loop-heap.heap).seen) hand c.loop-heap.run.next (Leaf (record { 0 = 5 })) (gain_at (view_of c.loop-heap.heap).seen c.loop-heap.run.next (Leaf (record { 0 = 5 })))) r) (sym c.put-place.ensures.run)
    (IsInHand-next (recs (view_of c.loop-heap.heap).seen) hand c.loop-heap.run (Leaf (record { 0 = 5 })) (gain_at (view_of c.loop-heap.heap).seen c.loop-heap.run.next (Leaf (record { 0 = 5 }))) c.loop-heap.invariant))

pub loop-heap-smaller : goal.loop-heap-smaller
loop-heap-smaller c = rw c.put-place.ensures.run (omega (arith, c.loop-heap-test.true, c.left.ensures))

pub finish-requires : goal.finish-requires
finish-requires c = omega (arith, c.loop-heap-test.false, c.left.ensures)
