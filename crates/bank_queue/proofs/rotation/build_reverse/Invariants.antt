use Rattle.std.proofs.Common.{◌-◌}
use Rattle.bank_queue.proofs.Reversals.{Reversing}
use Rattle.bank_queue.proofs.rotation.build_reverse.Given as goal

abbrev pub invariant-loop-i : goal.invariant-loop-i
invariant-loop-i g l = Reversing (g.H.Heap.view l.initial.h) (g.H.Heap.view l.h) l.initial.run l.run l.fn.of.rear.0 l.rest.0 l.place.0 (l.count - l.i)
