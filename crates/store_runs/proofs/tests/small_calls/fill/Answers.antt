use Rattle.std.proofs.Common.{arith, sym, subst, ap, ◌∙◌}
use Rattle.lazy_rec.specs.declared.records.Rec.TheVariants.{Leaf}
use Rattle.heap_store.specs.Hand.{Hand, IsInHand, hand_put}
use Rattle.heap_store.specs.Budget.{gain_at}
use Rattle.heap_store.specs.World.{recs}
use Rattle.heap_store.proofs.Steps.{IsInHand-next}
use Rattle.heap_store.proofs.PlainTests.{leaf_fits}
use Rattle.store_runs.proofs.tests.small_calls.fill.Goals as goal

pub put-place-requires : goal.put-place-requires
put-place-requires g c = record { held = c.loop-heap.invariant.0; left = omega (arith, c.loop-heap-test.true, c.left.ensures); fits = leaf_fits (g.H.Heap.view c.loop-heap.heap) c.loop-heap.run.next }

pub loop-heap-preserved : goal.loop-heap-preserved
loop-heap-preserved g c =
    let v = g.H.Heap.view c.loop-heap.heap in
    let hand = v.hand in (
      subst (λ h. IsInHand h c.put-place.new.run) (sym c.put-place.ensures.put.hand)
          (subst (λ r. IsInHand (hand_put (recs v.seen) hand c.loop-heap.run.next (Leaf (record { 0 = 5 })) (gain_at v.seen c.loop-heap.run.next (Leaf (record { 0 = 5 })))) r) (sym c.put-place.ensures.run)
          (IsInHand-next (recs v.seen) hand c.loop-heap.run (Leaf (record { 0 = 5 })) (gain_at v.seen c.loop-heap.run.next (Leaf (record { 0 = 5 }))) c.loop-heap.invariant.0)),
      ap (λ (h : Hand). h.allowance) c.put-place.ensures.put.hand ∙ c.loop-heap.invariant.1,
    )

pub loop-heap-smaller : goal.loop-heap-smaller
loop-heap-smaller g c = rw c.put-place.ensures.run (omega (arith, c.loop-heap-test.true, c.left.ensures))

pub finish-requires : goal.finish-requires
finish-requires g c = omega (arith, c.loop-heap-test.false, c.left.ensures)
