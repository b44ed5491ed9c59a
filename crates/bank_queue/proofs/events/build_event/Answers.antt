use Rattle.std.proofs.Common.{sym, ap, ◌∙◌}
use Rattle.lazy_rec.specs.Kinds.{belongs}
use Rattle.bank_queue.proofs.QueueJobs.{only_size}
use Rattle.bank_queue.proofs.QueueEnds.{same_root}
use Rattle.bank_queue.proofs.Operations.{size_built}
use Rattle.heap_store.specs.OneStage.{is_end}
use Rattle.bank_queue.proofs.events.build_event.Goals as goal

pub returns-in_default : goal.returns-in_default
returns-in_default g c =
    let op = only_size c.args.job.now.op (ap (λ k. belongs k c.args.job.now.op) (sym c.requires.kind) ∙ c.requires.build.base_job.op) c.in_default.not-Snoc c.in_default.not-Tail c.in_default.not-Head in
    record {
      built = size_built (g.met.H.Heap.lawful c.args.h.now).world c.requires.build c.requires.kind op c.at_base.result (rw c.from.ensures at c.at_base.ensures);
      base = λ _. same_root _ _ _ c.at_base.result c.at_base.ensures;
      ends = ap is_end c.at_base.ensures;
    }
