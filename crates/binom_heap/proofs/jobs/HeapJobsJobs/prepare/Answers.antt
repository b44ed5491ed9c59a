use Rattle.heap_store.proofs.Steps.{Quiet_trans}
use Rattle.binom_heap.proofs.jobs.HeapJobsJobs.prepare.Goals as goal

pub prepare-requires-clause-rec : goal.prepare-requires-clause-rec
prepare-requires-clause-rec g c = c.read-rec.ensures.quiet.grows.records _ _ c.read-rec.ensures.rec

pub returns-clause-quiet : goal.returns-clause-quiet
returns-clause-quiet g c = Quiet_trans c.read-rec.ensures.quiet c.prepare.ensures.quiet
