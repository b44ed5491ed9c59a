use Rattle.std.proofs.lemmas.Bool.{and_parts}
use Rattle.version_book.specs.Works.{is_empty}
use Rattle.version_book.proofs.Works.{gave_up_stopped}
use Rattle.version_book.proofs.forces.StackForces.force.Goals as goal

pub returns-clause-err : goal.returns-clause-err
returns-clause-err g c =
    gave_up_stopped (g.R.Heap.view c.args.heap.now) (g.R.Heap.view c.force_solo.new.heap) c.args.s.0 c.force_solo.result
    (and_parts (g.R.Heap.view c.args.heap.now).about.alone (is_empty c.args.self.now) c.requires.serves).0 c.requires.idle
    (g.met.R.Heap.lawful c.args.heap.now) (g.met.R.Heap.lawful c.force_solo.new.heap) c.force_solo.ensures.gave_up
