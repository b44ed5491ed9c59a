use Rattle.std.proofs.Common.{sym, ap, ◌∙◌}
use Rattle.lazy_rec.specs.Kinds.{belongs}
use Rattle.heap_store.specs.OneStage.{is_end}
use Rattle.lazy_stream.proofs.JobStreams.{only_size}
use Rattle.lazy_stream.proofs.StreamEnds.{same_root}
use Rattle.lazy_stream.proofs.Operations.{size_built}
use Rattle.lazy_stream.proofs.events.build_event.Goals as goal

pub returns-in_default : goal.returns-in_default
returns-in_default g c =
    let n = c.in_default in
    let op = only_size c.args.job.now.op (ap (λ k. belongs k c.args.job.now.op) (sym c.requires.kind) ∙ c.requires.build.base_job.op) n.not-Cons n.not-Append n.not-Reverse n.not-Tail n.not-Head in
    record {
      built = size_built (g.met.H.Heap.lawful c.args.h.now).world c.requires.build c.requires.kind op c.at_base.result (rw c.from.ensures at c.at_base.ensures);
      base = λ _. same_root _ _ _ c.at_base.result c.at_base.ensures;
      ends = ap is_end c.at_base.ensures;
    }
