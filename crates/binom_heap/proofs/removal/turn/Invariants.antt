use Rattle.binom_heap.proofs.PutAgain.{IsTurning}
use Rattle.binom_heap.proofs.removal.turn.Given as goal

abbrev pub invariant-loop-first : goal.invariant-loop-first
invariant-loop-first g l = IsTurning (g.H.Heap.view l.fn.h) (g.H.Heap.view l.h) l.fn.run l.run l.fn.list.0 l.fn.onto.0 l.rest.0 l.turned.0

abbrev pub decreases-loop-first : goal.decreases-loop-first
decreases-loop-first g l = l.rest.0
