use Rattle.std.proofs.Common.{◌∷◌, length, reverse}
use Rattle.force_engine.proofs.Giving.{Backing}
use Rattle.force_engine.proofs.solo.give_back.Given as goal

abbrev pub invariant-loop-frame : goal.invariant-loop-frame
invariant-loop-frame g l = Backing (g.C.Heap.view l.fn.heap) (g.C.Heap.view l.heap) (l.fn.newest ∷ reverse l.fn.stack) (reverse l.stack)

abbrev pub decreases-loop-frame : goal.decreases-loop-frame
decreases-loop-frame g l = length l.stack
