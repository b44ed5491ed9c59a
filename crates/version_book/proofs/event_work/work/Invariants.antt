use Rattle.std.proofs.Common.{◌≡◌}
use Rattle.heap_store.specs.View.{About}
use Rattle.version_book.specs.Works.{turns_left}
use Rattle.version_book.proofs.Works.{Working}
use Rattle.version_book.proofs.event_work.work.Given as goal

abbrev pub invariant-loop-need : goal.invariant-loop-need
invariant-loop-need g l = Working (g.R.Heap.view l.fn.heap) (g.R.Heap.view l.heap) l.fn.job l.now × ((about : About) → g.F.Forces.serves l.forces about ≡ g.F.Forces.serves l.fn.forces about)

abbrev pub decreases-loop-need : goal.decreases-loop-need
decreases-loop-need g l = turns_left (g.R.Heap.view l.heap) l.now
