use Rattle.heap_store.proofs.FillLaws.{buildable_quiet, quiet_built}
use Rattle.binom_heap.proofs.jobs.HeapJobsJobs.build.Goals as goal

pub build-requires-clause-rec : goal.build-requires-clause-rec
build-requires-clause-rec g c = c.read-rec.ensures.quiet.grows.records _ _ c.read-rec.ensures.rec

pub build-requires-clause-build : goal.build-requires-clause-build
build-requires-clause-build g c = buildable_quiet c.requires.build c.read-rec.ensures.quiet

pub returns : goal.returns
returns g c = quiet_built c.read-rec.ensures.quiet c.build.ensures
