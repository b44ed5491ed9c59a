use Rattle.std.proofs.Common.{◌≤◌, ◌+◌, arith, ◌∙◌, subst, ap, refl}
use Rattle.lazy_rec.specs.declared.events.Op.TheVariants as ops
use Rattle.heap_store.specs.Jobs.{Filled}
use Rattle.heap_store.proofs.Steps.{IsFilling, filling_start, filling_quiet, filling_put}
use Rattle.heap_store.proofs.FillLaws.{Filled_trans}
use Rattle.bank_queue.proofs.QueueJobs.{due_is, BuildTop, build_root, build_top, snoc_room}
use Rattle.bank_queue.proofs.QueueEnds.{same_root, snoc_end}
use Rattle.bank_queue.proofs.Operations.{full_built, fits_rear, near_snoc, snoc_items}
use Rattle.bank_queue.proofs.TopsPaid.{snoc_gain}
use Rattle.heap_store.specs.OneStage.{is_end}
use Rattle.bank_queue.specs.Queue.{top_gain}
use Rattle.bank_queue.proofs.events.snoc.Goals as goal
use Rattle.bank_queue.proofs.events.snoc.Goals.{After-read_top-top, After-put-rear}

pub returns-then-job-eq-MOST_ITEMS : goal.returns-then-job-eq-MOST_ITEMS
returns-then-job-eq-MOST_ITEMS g c = record {
  built = full_built (g.met.H.Heap.lawful c.args.h.now).world c.requires.build c.requires.kind c.requires.op c.if-job-eq-MOST_ITEMS.true c.at_base.result c.at_base.ensures;
  base = λ _. same_root _ _ _ c.at_base.result c.at_base.ensures;
  ends = ap is_end c.at_base.ensures;
}

pub read_top-top-requires : goal.read_top-top-requires
read_top-top-requires g c = build_root c.requires.build c.requires.kind

top : (g : _) (c : After-read_top-top g) → BuildTop (g.H.Heap.view c.args.h.now) c.args.job.now c.args.run.now c.read_top-top.result
top g c = build_top (g.met.H.Heap.lawful c.args.h.now).world c.requires.build c.requires.kind c.read_top-top.result c.read_top-top.ensures.top

pub put-rear-requires-clause-left : goal.put-rear-requires-clause-left
put-rear-requires-clause-left g c = let k = snoc_room (top g (goal.at.put-rear-requires-clause-left g c).After-read_top-top) c.requires.op c.if-job-eq-MOST_ITEMS.false in omega (arith, k)

pub put-rear-requires-clause-fits : goal.put-rear-requires-clause-fits
put-rear-requires-clause-fits g c =
    let k = top g (goal.at.put-rear-requires-clause-fits g c).After-read_top-top in
    let room = snoc_room k c.requires.op c.if-job-eq-MOST_ITEMS.false in
    let q = c.read_top-top.ensures.quiet in
    let f = filling_quiet (filling_start _ _ c.requires.build.held) q in
    rw c.argument-item.ensures.same (fits_rear (g.met.H.Heap.lawful c.read_top-top.new.h) c.args.run.now.next (f.held.each c.args.run.now.next (omega arith) (omega (arith, room))) c.args.job.now.base.root.0 c.read_top-top.result (q.grows.records _ _ c.read_top-top.ensures.top) k.root_low c.args.job.now.arg c.argument-item.ensures.small)

pub overflow_add-longer : goal.overflow_add-longer
overflow_add-longer g c = let k = top g (goal.at.overflow_add-longer g c).After-read_top-top in omega (arith, k.top.old.lenr_fits)

filling : (g : _) (c : After-put-rear g) → IsFilling (g.H.Heap.view c.args.h.now) (g.H.Heap.view c.put-rear.new.self) c.args.run.now c.put-rear.new.run 0
filling g c = filling_put (filling_quiet (filling_start _ _ c.requires.build.held) c.read_top-top.ensures.quiet) c.put-rear.ensures.put c.put-rear.ensures.run refl

pub put_top-root-requires-clause-top : goal.put_top-root-requires-clause-top
put_top-root-requires-clause-top g c =
    let d = goal.at.put_top-root-requires-clause-top g c in
    let k = top g d.After-read_top-top in
    let f = filling g d.After-put-rear in
    let r = c.put-rear.ensures in
    near_snoc (g.met.H.Heap.lawful c.put-rear.new.self).world c.args.job.now.base.root.0 c.read_top-top.result (f.filled.grows.records _ _ c.read_top-top.ensures.top) c.args.job.now.arg c.put-rear.result (rw (r.place, ← c.argument-item.ensures.same) r.put.here)
    c.put-rear.new.run.next (rw r.run (omega (arith, k.root_low))) (rw (r.place, r.run) (omega arith))

pub put_top-root-requires-clause-held : goal.put_top-root-requires-clause-held
put_top-root-requires-clause-held g c = (filling g (goal.at.put_top-root-requires-clause-held g c).After-put-rear).held

pub put_top-root-requires-clause-size : goal.put_top-root-requires-clause-size
put_top-root-requires-clause-size g c =
    let k = snoc_room (top g (goal.at.put_top-root-requires-clause-size g c).After-read_top-top) c.requires.op c.if-job-eq-MOST_ITEMS.false in
    rw c.put-rear.ensures.run (omega (arith, k))

gain : (g : _) (c : After-put-rear g) → top_gain (g.H.Heap.view c.put-rear.new.self).seen c.put-rear.new.run.next (record c.read_top-top.result { rear = c.put-rear.result; lenr = c.read_top-top.result.lenr + 1 }) ≤ 1
gain g c = snoc_gain (g.met.H.Heap.lawful c.put-rear.new.self).world c.args.job.now.base.root.0 c.put-rear.new.run.next c.read_top-top.result ((filling g c).filled.grows.records _ _ c.read_top-top.ensures.top) c.put-rear.result

pub put_top-root-requires-clause-credits : goal.put_top-root-requires-clause-credits
put_top-root-requires-clause-credits g c =
    let d = (goal.at.put_top-root-requires-clause-credits g c).After-put-rear in
    let k = gain g d in
    let one = due_is c.args.job.now c.requires.kind c.requires.build.base_job.has ops.Snoc c.requires.op in
    omega (arith, k, (filling g d).credits, c.requires.build.credits, one)

pub returns : goal.returns
returns g c =
    let d = goal.at.returns g c in
    let k = top g d.After-read_top-top in
    let f = filling g d.After-put-rear in
    let r = c.put-rear.ensures in
    let p = c.put_top-root.ensures in
    let room = snoc_room k c.requires.op c.if-job-eq-MOST_ITEMS.false in
    let law1 = (g.met.H.Heap.lawful c.put-rear.new.self).world in
    let law2 = (g.met.H.Heap.lawful c.put_top-root.new.h).world in
    let here = f.filled.grows.records _ _ c.read_top-top.ensures.top in
    let high : c.put-rear.new.run.next ≤ c.put-rear.new.run.end = rw r.run (omega (arith, room)) in
    let all = Filled_trans f.low high f.filled p.filled in
    record {
      built = record {
        filled = subst (λ n. Filled (g.H.Heap.view c.args.h.now) (g.H.Heap.view c.put_top-root.new.h) c.args.run.now.next n) f.same_end all;
        spent = p.spent;
        made = snoc_end law2 c.args.job.now c.requires.kind c.requires.op c.read_top-top.result (p.filled.grows.records _ _ here) k.top.size (omega (arith, k.top.most, k.top.size, c.if-job-eq-MOST_ITEMS.false)) c.put_top-root.result p.root
            (p.items ∙ snoc_items law1 law2 p.filled.grows.records c.args.job.now.base.root.0 c.read_top-top.result here c.args.job.now.arg c.put-rear.result (rw (r.place, ← c.argument-item.ensures.same) r.put.here));
        credits = omega (arith, f.credits, p.credits, gain g d.After-put-rear, due_is c.args.job.now c.requires.kind c.requires.build.base_job.has ops.Snoc c.requires.op);
      };
      base = λ e. absurd (omega (arith, e, room));
      ends = refl;
    }
