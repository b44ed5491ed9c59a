use Rattle.heap_store.specs.View.{Quiet}
use Rattle.binom_heap.proofs.Lesser.{IsLeastSoFar}
use Rattle.binom_heap.proofs.removal.least_tree.Given as goal

abbrev pub invariant-loop-next : goal.invariant-loop-next
invariant-loop-next g l = record {
  quiet : Quiet (g.H.Heap.view l.fn.h) (g.H.Heap.view l.h);
  so_far : IsLeastSoFar (g.H.Heap.view l.fn.h).seen l.fn.list.0 l.least l.passed l.rest.0;
}

abbrev pub decreases-loop-next : goal.decreases-loop-next
decreases-loop-next g l = l.rest.0
