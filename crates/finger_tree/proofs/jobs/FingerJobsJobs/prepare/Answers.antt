use Rattle.heap_store.proofs.Steps.{Quiet_trans, cursor_up}
use Rattle.finger_tree.proofs.jobs.FingerJobsJobs.prepare.Goals as goal

pub prepare-requires-clause-rec : goal.prepare-requires-clause-rec
prepare-requires-clause-rec g c = c.read-rec.ensures.quiet.grows.records _ _ c.read-rec.ensures.rec

pub prepare-requires-clause-cursor : goal.prepare-requires-clause-cursor
prepare-requires-clause-cursor g c = cursor_up (g.H.Heap.view c.args.h.now).seen (g.H.Heap.view c.read-rec.new.self).seen c.read-rec.ensures.quiet.grows c.args.s.0 c.args.cursor.now c.requires.cursor

pub returns-clause-quiet : goal.returns-clause-quiet
returns-clause-quiet g c = Quiet_trans c.read-rec.ensures.quiet c.prepare.ensures.quiet
