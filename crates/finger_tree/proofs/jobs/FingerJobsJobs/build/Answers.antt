use Rattle.heap_store.proofs.Steps.{cursor_up}
use Rattle.heap_store.proofs.FillLaws.{buildable_quiet, quiet_built}
use Rattle.finger_tree.proofs.jobs.FingerJobsJobs.build.Goals as goal

pub build-requires-clause-rec : goal.build-requires-clause-rec
build-requires-clause-rec g c = c.read-rec.ensures.quiet.grows.records _ _ c.read-rec.ensures.rec

pub build-requires-clause-cursor : goal.build-requires-clause-cursor
build-requires-clause-cursor g c = cursor_up (g.H.Heap.view c.args.h.now).seen (g.H.Heap.view c.read-rec.new.self).seen c.read-rec.ensures.quiet.grows c.args.s.0 c.args.cursor.now c.requires.cursor

pub build-requires-clause-build : goal.build-requires-clause-build
build-requires-clause-build g c = buildable_quiet c.requires.build c.read-rec.ensures.quiet

pub returns : goal.returns
returns g c = quiet_built c.read-rec.ensures.quiet c.build.ensures
