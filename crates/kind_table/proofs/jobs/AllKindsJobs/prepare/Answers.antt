use Rattle.std.proofs.Common.{rules}
use Rattle.heap_store.proofs.Steps.{Quiet_trans, cursor_up}
use Rattle.kind_table.proofs.WorkKinds.{own_work, any_prepared, streams, bank_queues, rt_queues, heaps, finger_trees}
use Rattle.kind_table.proofs.jobs.AllKindsJobs.prepare.Goals as goal

pub prepare-requires-clause-work : goal.prepare-requires-clause-work
prepare-requires-clause-work g c = own_work streams c.read.ensures.quiet c.args.s c.read.ensures.rec (search rules) c.requires.work

pub prepare-requires-clause-cursor : goal.prepare-requires-clause-cursor
prepare-requires-clause-cursor g c = cursor_up (g.H.Heap.view c.args.h.now).seen (g.H.Heap.view c.read.new.self).seen c.read.ensures.quiet.grows c.args.s.0 c.args.cursor.now c.requires.cursor

pub prepare-requires-in-BankRot-clause-work : goal.prepare-requires-in-BankRot-clause-work
prepare-requires-in-BankRot-clause-work g c = own_work bank_queues c.read.ensures.quiet c.args.s c.read.ensures.rec (search rules) c.requires.work

pub prepare-requires-in-RtRot-clause-work : goal.prepare-requires-in-RtRot-clause-work
prepare-requires-in-RtRot-clause-work g c = own_work rt_queues c.read.ensures.quiet c.args.s c.read.ensures.rec (search rules) c.requires.work

pub prepare-requires-in-HeapInsert-clause-work : goal.prepare-requires-in-HeapInsert-clause-work
prepare-requires-in-HeapInsert-clause-work g c = own_work heaps c.read.ensures.quiet c.args.s c.read.ensures.rec (search rules) c.requires.work

pub prepare-requires-in-PushL-clause-work : goal.prepare-requires-in-PushL-clause-work
prepare-requires-in-PushL-clause-work g c = own_work finger_trees c.read.ensures.quiet c.args.s c.read.ensures.rec (search rules) c.requires.work

pub prepare-requires-in-PushL-clause-cursor : goal.prepare-requires-in-PushL-clause-cursor
prepare-requires-in-PushL-clause-cursor g c = cursor_up (g.H.Heap.view c.args.h.now).seen (g.H.Heap.view c.read.new.self).seen c.read.ensures.quiet.grows c.args.s.0 c.args.cursor.now c.requires.cursor

pub returns-in-Append-clause-quiet : goal.returns-in-Append-clause-quiet
returns-in-Append-clause-quiet g c = Quiet_trans c.read.ensures.quiet c.prepare.ensures.quiet

pub returns-in-Append-clause-answer : goal.returns-in-Append-clause-answer
returns-in-Append-clause-answer g c = any_prepared streams (Quiet_trans c.read.ensures.quiet c.prepare.ensures.quiet) c.args.s c.read.ensures.rec (search rules) c.prepare.result c.prepare.ensures.answer

pub returns-in-BankRot-clause-quiet : goal.returns-in-BankRot-clause-quiet
returns-in-BankRot-clause-quiet g c = Quiet_trans c.read.ensures.quiet c.prepare-in-BankRot.ensures.quiet

pub returns-in-BankRot-clause-answer : goal.returns-in-BankRot-clause-answer
returns-in-BankRot-clause-answer g c = any_prepared bank_queues (Quiet_trans c.read.ensures.quiet c.prepare-in-BankRot.ensures.quiet) c.args.s c.read.ensures.rec (search rules) c.prepare-in-BankRot.result c.prepare-in-BankRot.ensures.answer

pub returns-in-RtRot-clause-quiet : goal.returns-in-RtRot-clause-quiet
returns-in-RtRot-clause-quiet g c = Quiet_trans c.read.ensures.quiet c.prepare-in-RtRot.ensures.quiet

pub returns-in-RtRot-clause-answer : goal.returns-in-RtRot-clause-answer
returns-in-RtRot-clause-answer g c = any_prepared rt_queues (Quiet_trans c.read.ensures.quiet c.prepare-in-RtRot.ensures.quiet) c.args.s c.read.ensures.rec (search rules) c.prepare-in-RtRot.result c.prepare-in-RtRot.ensures.answer

pub returns-in-HeapInsert-clause-quiet : goal.returns-in-HeapInsert-clause-quiet
returns-in-HeapInsert-clause-quiet g c = Quiet_trans c.read.ensures.quiet c.prepare-in-HeapInsert.ensures.quiet

pub returns-in-HeapInsert-clause-answer : goal.returns-in-HeapInsert-clause-answer
returns-in-HeapInsert-clause-answer g c = any_prepared heaps (Quiet_trans c.read.ensures.quiet c.prepare-in-HeapInsert.ensures.quiet) c.args.s c.read.ensures.rec (search rules) c.prepare-in-HeapInsert.result c.prepare-in-HeapInsert.ensures.answer

pub returns-in-PushL-clause-quiet : goal.returns-in-PushL-clause-quiet
returns-in-PushL-clause-quiet g c = Quiet_trans c.read.ensures.quiet c.prepare-in-PushL.ensures.quiet

pub returns-in-PushL-clause-answer : goal.returns-in-PushL-clause-answer
returns-in-PushL-clause-answer g c = any_prepared finger_trees (Quiet_trans c.read.ensures.quiet c.prepare-in-PushL.ensures.quiet) c.args.s c.read.ensures.rec (search rules) c.prepare-in-PushL.result c.prepare-in-PushL.ensures.answer
