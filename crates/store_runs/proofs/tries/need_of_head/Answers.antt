use Rattle.std.proofs.Common.{subst, sym}
use Rattle.heap_store.specs.declared.jobs.EventJob.{EventJob}
use Rattle.heap_store.specs.Jobs.{IsJob}
use Rattle.heap_store.proofs.Steps.{Quiet_trans}
use Rattle.store_runs.proofs.Heads.{head_job}
use Rattle.store_runs.proofs.tries.need_of_head.Goals as goal

pub prepare_event-requires-clause-job : goal.prepare_event-requires-clause-job
prepare_event-requires-clause-job g c =
    let v = g.R.Heap.view c.look.new.heap in
    subst (λ (j : EventJob). IsJob v.seen j) (sym c.head_of-job.ensures) (head_job v (g.met.R.Heap.lawful c.look.new.heap) c.args.version c.in-Found.base c.in-Found.ensures.look (sym c.if-not-is_built.ensures))

pub returns-in-Need-clause-quiet : goal.returns-in-Need-clause-quiet
returns-in-Need-clause-quiet g c = Quiet_trans c.look.ensures.quiet c.prepare_event.ensures.quiet

pub returns-in-Ready-clause-quiet : goal.returns-in-Ready-clause-quiet
returns-in-Ready-clause-quiet g c = Quiet_trans c.look.ensures.quiet c.prepare_event.ensures.quiet
