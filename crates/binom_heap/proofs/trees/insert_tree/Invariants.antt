use Rattle.binom_heap.proofs.Inserting.{IsInserting}
use Rattle.binom_heap.proofs.trees.insert_tree.Given as goal

abbrev pub invariant-loop-first : goal.invariant-loop-first
invariant-loop-first g l = IsInserting (g.H.Heap.view l.fn.h) (g.H.Heap.view l.h) l.fn.run l.run l.fn.tree l.sum l.fn.list.0 l.rest.0

abbrev pub decreases-loop-first : goal.decreases-loop-first
decreases-loop-first g l = l.rest.0
