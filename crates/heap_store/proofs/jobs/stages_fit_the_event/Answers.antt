use Rattle.heap_store.specs.Stages.{stage_due, stage_places}
use Rattle.heap_store.proofs.StageLaws.{stages_sum, left_step}
use Rattle.heap_store.proofs.jobs.stages_fit_the_event.Goals as goal

pub returns-clause-sums : goal.returns-clause-sums
returns-clause-sums c k op n m = stages_sum k op n m

pub returns-clause-later : goal.returns-clause-later
returns-clause-later c k op n m now next h = record {
  dues = left_step (stage_due k op n m) now next h;
  places = left_step (stage_places k op n m) now next h;
}
