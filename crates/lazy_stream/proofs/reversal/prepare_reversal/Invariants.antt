use Rattle.lazy_stream.proofs.Reversals.{Passing}
use Rattle.lazy_stream.proofs.reversal.prepare_reversal.Given as goal

abbrev pub invariant-loop-i : goal.invariant-loop-i
invariant-loop-i g l = Passing (g.H.Heap.view l.initial.h) (g.H.Heap.view l.h) l.fn.of.xs.0 l.place.0 l.i
