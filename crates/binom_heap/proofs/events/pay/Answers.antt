use Rattle.std.proofs.Common.{◌≡◌, ◌+◌, ap, arith, Some}
use Rattle.lazy_rec.specs.Numbers.{zeros}
use Rattle.heap_store.specs.World.{recs}
use Rattle.binom_heap.proofs.Tops.{top_of_root}
use Rattle.heap_store.specs.Hand.{Hand}
use Rattle.heap_store.proofs.Steps.{Quiet_refl, quiet_Filled}
use Rattle.binom_heap.specs.Heap.{top_record}
use Rattle.binom_heap.proofs.TopGains.{pay_gain}
use Rattle.binom_heap.proofs.EventTops.{BuildTop, other_kind, build_root, build_top, start_nodes, no_nodes, built_same, same_root}
use Rattle.binom_heap.proofs.EventPaid.{paid_new, pay_due, pay_nodes, empty_nodes, empty_end, paid_stage}
use Rattle.binom_heap.proofs.events.pay.Goals as goal
use Rattle.binom_heap.proofs.events.pay.Goals.{After-read_top-owing}

pub returns-then-job-eq0 : goal.returns-then-job-eq0
returns-then-job-eq0 g c =
    let b = c.requires.build in
    let job = c.args.job.now in
    let t = top_of_root (g.H.Heap.view c.args.h.now).seen job.base.root.0 (build_root b job.base b.base_job.base c.requires.kind) in
    let k = build_top b job.base b.base_job.base c.requires.kind t.0 t.1 in
    record {
      base = λ _. same_root _ _ _ c.at_base.result c.at_base.ensures;
      built = built_same (Quiet_refl (g.H.Heap.view c.args.h.now)) (no_nodes b c.requires.stage (empty_nodes job c.requires.op c.if-job-eq0.true)) job.base.root job.base.size _
          (empty_end (g.met.H.Heap.lawful c.args.h.now).world job t.0 t.1 k.size c.requires.kind (other_kind job b.base_job c.requires.kind) c.requires.op c.if-job-eq0.true) c.at_base.result c.at_base.ensures;
    }

pub read_top-owing-requires : goal.read_top-owing-requires
read_top-owing-requires g c = build_root c.requires.build c.args.job.now.base c.requires.build.base_job.base c.requires.kind

top : (g : _) (c : After-read_top-owing g) → BuildTop (g.H.Heap.view c.args.h.now).seen c.args.job.now.base c.args.run.now c.read_top-owing.result
top g c = build_top c.requires.build c.args.job.now.base c.requires.build.base_job.base c.requires.kind c.read_top-owing.result c.read_top-owing.ensures.top

here : (g : _) (c : After-read_top-owing g) → recs (g.H.Heap.view c.read_top-owing.new.h).seen c.args.job.now.base.root.0 ≡ Some (top_record c.read_top-owing.result)
here g c = c.read_top-owing.ensures.quiet.grows.records _ _ c.read_top-owing.ensures.top

room : (g : _) (c : After-read_top-owing g) → c.args.run.now.next + 1 ≡ c.args.run.now.end
room g c = omega (arith, c.requires.build.size, start_nodes c.requires.build c.requires.stage, pay_nodes c.args.job.now c.requires.op c.if-job-eq0.false)

pub put_top-top-requires : goal.put_top-top-requires
put_top-top-requires g c =
    let d = (goal.at.put_top-top-requires g c).After-read_top-owing in
    let law = (g.met.H.Heap.lawful c.read_top-owing.new.h).world in
    let q = c.read_top-owing.ensures.quiet in
    let same : (g.H.Heap.view c.read_top-owing.new.h).hand.credits ≡ (g.H.Heap.view c.args.h.now).hand.credits = ap (λ (h : Hand). h.credits) q.hand in
    let due = pay_due c.args.job.now c.requires.kind c.requires.stage c.requires.op in
    let sizes : zeros c.args.job.now.base.size ≡ zeros c.read_top-owing.result.size = ap zeros (top g d).size in
    record {
      top = paid_new law c.args.job.now.base.root.0 c.read_top-owing.result (here g d) c.args.run.now.next (top g d).low;
      held = (let z = q.hand in rw z c.requires.build.held);
      size = room g d;
      credits = omega (arith, pay_gain law c.args.run.now.next c.args.job.now.base.root.0 c.read_top-owing.result (here g d), same, due, sizes, c.requires.build.credits);
    }

pub returns : goal.returns
returns g c =
    let d = (goal.at.returns g c).After-read_top-owing in
    let law = (g.met.H.Heap.lawful c.read_top-owing.new.h).world in
    let q = c.read_top-owing.ensures.quiet in
    let r = c.put_top-top.ensures in
    let same : (g.H.Heap.view c.read_top-owing.new.h).hand.credits ≡ (g.H.Heap.view c.args.h.now).hand.credits = ap (λ (h : Hand). h.credits) q.hand in
    let due = pay_due c.args.job.now c.requires.kind c.requires.stage c.requires.op in
    let sizes : zeros c.args.job.now.base.size ≡ zeros c.read_top-owing.result.size = ap zeros (top g d).size in
    record {
      base = λ e. absurd (omega (arith, e, room g d));
      built = record {
        filled = quiet_Filled q r.filled;
        spent = r.spent;
        made = paid_stage c.args.job.now c.requires.kind c.requires.op c.requires.stage c.read_top-owing.result c.put_top-top.result (r.filled.grows.records _ _ (here g d)) r.top;
        credits = omega (arith, r.credits, pay_gain law c.args.run.now.next c.args.job.now.base.root.0 c.read_top-owing.result (here g d), same, due, sizes);
      };
    }
