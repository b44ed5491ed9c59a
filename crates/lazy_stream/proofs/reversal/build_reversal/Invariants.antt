use Rattle.lazy_stream.proofs.ReversalWork.{Reversing}
use Rattle.lazy_stream.proofs.reversal.build_reversal.Given as goal

abbrev pub invariant-loop-i : goal.invariant-loop-i
invariant-loop-i g l = Reversing (g.H.Heap.view l.initial.h) (g.H.Heap.view l.h) l.initial.run l.run l.fn.of.xs.0 l.rest.0 l.place.0 l.i
