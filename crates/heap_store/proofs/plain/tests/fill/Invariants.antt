use Rattle.heap_store.specs.Hand.{IsInHand}
use Rattle.heap_store.specs.Opened.{view_of}
use Rattle.std.proofs.Common.{◌-◌}
use Rattle.heap_store.proofs.plain.tests.fill.Given as goal

abbrev pub invariant-loop-heap : goal.invariant-loop-heap
invariant-loop-heap l = IsInHand (view_of l.heap).hand l.run

abbrev pub decreases-loop-heap : goal.decreases-loop-heap
decreases-loop-heap l = l.run.end - l.run.next
