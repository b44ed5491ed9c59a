use Rattle.force_engine.specs.Stacked.{work}
use Rattle.force_engine.proofs.Running.{IsForcing}
use Rattle.force_engine.proofs.solo.run.Given as goal

abbrev pub invariant-loop-t : goal.invariant-loop-t
invariant-loop-t g l = IsForcing (g.J.Jobs.does l.fn.jobs) (g.C.Heap.view l.fn.heap) (g.C.Heap.view l.heap) l.fn.first.place l.stack l.newest

abbrev pub decreases-loop-t : goal.decreases-loop-t
decreases-loop-t g l = work (g.C.Heap.view l.heap)
