use Rattle.store_runs.specs.Crews.{HasBegun}
use Rattle.store_runs.proofs.crew.begin_all.Given as goal

abbrev pub invariant-loop-count : goal.invariant-loop-count
invariant-loop-count g l = HasBegun l.fn.worker.pass.view l.worker.pass.view l.count
