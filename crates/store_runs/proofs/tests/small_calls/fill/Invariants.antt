use Rattle.std.proofs.Common.{◌≡◌, ◌-◌}
use Rattle.heap_store.specs.Hand.{IsInHand}
use Rattle.store_runs.proofs.tests.small_calls.fill.Given as goal

abbrev pub invariant-loop-heap : goal.invariant-loop-heap
invariant-loop-heap g l = IsInHand (g.H.Heap.view l.heap).hand l.run × ((g.H.Heap.view l.heap).hand.allowance ≡ (g.H.Heap.view l.fn.heap).hand.allowance)

abbrev pub decreases-loop-heap : goal.decreases-loop-heap
decreases-loop-heap g l = l.run.end - l.run.next
