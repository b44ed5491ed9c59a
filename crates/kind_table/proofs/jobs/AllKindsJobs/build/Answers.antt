use Rattle.std.proofs.Common.{rules}
use Rattle.heap_store.proofs.Steps.{cursor_up}
use Rattle.heap_store.proofs.FillLaws.{quiet_built}
use Rattle.kind_table.proofs.WorkKinds.{own_work, own_buildable, streams, bank_queues, rt_queues, heaps, finger_trees}
use Rattle.kind_table.proofs.jobs.AllKindsJobs.build.Goals as goal

pub build-requires-clause-work : goal.build-requires-clause-work
build-requires-clause-work g c = own_work streams c.read.ensures.quiet c.args.s c.read.ensures.rec (search rules) c.requires.work

pub build-requires-clause-cursor : goal.build-requires-clause-cursor
build-requires-clause-cursor g c = cursor_up (g.H.Heap.view c.args.h.now).seen (g.H.Heap.view c.read.new.self).seen c.read.ensures.quiet.grows c.args.s.0 c.args.cursor.now c.requires.cursor

pub build-requires-clause-build : goal.build-requires-clause-build
build-requires-clause-build g c = own_buildable streams c.read.ensures.quiet c.args.s c.read.ensures.rec (search rules) c.requires.build

pub build-requires-in-BankRot-clause-work : goal.build-requires-in-BankRot-clause-work
build-requires-in-BankRot-clause-work g c = own_work bank_queues c.read.ensures.quiet c.args.s c.read.ensures.rec (search rules) c.requires.work

pub build-requires-in-BankRot-clause-build : goal.build-requires-in-BankRot-clause-build
build-requires-in-BankRot-clause-build g c = own_buildable bank_queues c.read.ensures.quiet c.args.s c.read.ensures.rec (search rules) c.requires.build

pub build-requires-in-RtRot-clause-work : goal.build-requires-in-RtRot-clause-work
build-requires-in-RtRot-clause-work g c = own_work rt_queues c.read.ensures.quiet c.args.s c.read.ensures.rec (search rules) c.requires.work

pub build-requires-in-RtRot-clause-build : goal.build-requires-in-RtRot-clause-build
build-requires-in-RtRot-clause-build g c = own_buildable rt_queues c.read.ensures.quiet c.args.s c.read.ensures.rec (search rules) c.requires.build

pub build-requires-in-HeapInsert-clause-work : goal.build-requires-in-HeapInsert-clause-work
build-requires-in-HeapInsert-clause-work g c = own_work heaps c.read.ensures.quiet c.args.s c.read.ensures.rec (search rules) c.requires.work

pub build-requires-in-HeapInsert-clause-build : goal.build-requires-in-HeapInsert-clause-build
build-requires-in-HeapInsert-clause-build g c = own_buildable heaps c.read.ensures.quiet c.args.s c.read.ensures.rec (search rules) c.requires.build

pub build-requires-in-PushL-clause-work : goal.build-requires-in-PushL-clause-work
build-requires-in-PushL-clause-work g c = own_work finger_trees c.read.ensures.quiet c.args.s c.read.ensures.rec (search rules) c.requires.work

pub build-requires-in-PushL-clause-build : goal.build-requires-in-PushL-clause-build
build-requires-in-PushL-clause-build g c = own_buildable finger_trees c.read.ensures.quiet c.args.s c.read.ensures.rec (search rules) c.requires.build

pub returns-in-Append : goal.returns-in-Append
returns-in-Append g c = quiet_built c.read.ensures.quiet c.build.ensures

pub returns-in-BankRot : goal.returns-in-BankRot
returns-in-BankRot g c = quiet_built c.read.ensures.quiet c.build-in-BankRot.ensures

pub returns-in-RtRot : goal.returns-in-RtRot
returns-in-RtRot g c = quiet_built c.read.ensures.quiet c.build-in-RtRot.ensures

pub returns-in-HeapInsert : goal.returns-in-HeapInsert
returns-in-HeapInsert g c = quiet_built c.read.ensures.quiet c.build-in-HeapInsert.ensures

pub returns-in-PushL : goal.returns-in-PushL
returns-in-PushL g c = quiet_built c.read.ensures.quiet c.build-in-PushL.ensures
