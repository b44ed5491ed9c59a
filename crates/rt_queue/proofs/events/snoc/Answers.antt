use Rattle.std.proofs.Common.{◌≡◌, ◌+◌, arith, ◌∙◌, sym, ap, refl, false, Some}
use Rattle.lazy_rec.specs.declared.records.Rec.TheVariants.{LCons}
use Rattle.lazy_rec.specs.declared.events.Op.TheVariants as ops
use Rattle.heap_store.specs.World.{recs}
use Rattle.heap_store.proofs.GrowthLaws.{grows_trans}
use Rattle.heap_store.proofs.Steps.{IsFilling, filling_start, filling_quiet, filling_put}
use Rattle.heap_store.proofs.FillLaws.{filling_part}
use Rattle.heap_store.specs.OneStage.{is_end}
use Rattle.rt_queue.specs.Queue.{looks_at}
use Rattle.rt_queue.proofs.NearQueues.{raise_seen, near_snoc}
use Rattle.rt_queue.proofs.QueueJobs.{due_is, BuildTop, root_is_top, build_root, build_top, build_later, snoc_room, snoc_looks}
use Rattle.rt_queue.proofs.QueueEnds.{same_root, snoc_end}
use Rattle.rt_queue.proofs.Operations.{at_top, full_built, fits_rear}
use Rattle.rt_queue.proofs.TopPuts.{least_places}
use Rattle.rt_queue.proofs.events.snoc.Goals as goal
use Rattle.rt_queue.proofs.events.snoc.Goals.{After-read_top-top, After-put-rear}

pub returns-then-job-eq-MOST_ITEMS : goal.returns-then-job-eq-MOST_ITEMS
returns-then-job-eq-MOST_ITEMS g c = record {
  built = full_built (g.met.H.Heap.lawful c.args.h.now).world c.requires.build c.requires.kind c.requires.op c.if-job-eq-MOST_ITEMS.true c.at_base.result c.at_base.ensures;
  base = λ _. same_root _ _ _ c.at_base.result c.at_base.ensures;
  ends = ap is_end c.at_base.ensures;
}

pub read_top-top-requires : goal.read_top-top-requires
read_top-top-requires g c = root_is_top (g.H.Heap.view c.args.h.now).seen c.args.job.now.base.root.0 (build_root c.requires.build c.requires.kind)

top : (g : _) (c : After-read_top-top g) → BuildTop (g.H.Heap.view c.args.h.now) c.args.job.now c.args.run.now c.read_top-top.result
top g c = build_top (g.met.H.Heap.lawful c.args.h.now).world c.requires.build c.requires.kind c.read_top-top.result c.read_top-top.ensures.top

pub put-rear-requires-clause-left : goal.put-rear-requires-clause-left
put-rear-requires-clause-left g c = let k = snoc_room (top g (goal.at.put-rear-requires-clause-left g c).After-read_top-top) c.requires.op c.if-job-eq-MOST_ITEMS.false in omega (arith, k)

pub put-rear-requires-clause-fits : goal.put-rear-requires-clause-fits
put-rear-requires-clause-fits g c =
    let k = top g (goal.at.put-rear-requires-clause-fits g c).After-read_top-top in
    let room = snoc_room k c.requires.op c.if-job-eq-MOST_ITEMS.false in
    let q = c.read_top-top.ensures.quiet in
    let f = filling_quiet (filling_start _ _ c.requires.build.held) q in
    rw c.argument-item.ensures.same (fits_rear (g.met.H.Heap.lawful c.read_top-top.new.h) c.args.run.now.next (f.held.each c.args.run.now.next (omega arith) (omega (arith, room))) c.args.job.now.base.root.0 c.read_top-top.result (q.grows.records _ _ c.read_top-top.ensures.top) k.root_low c.args.job.now.arg c.argument-item.ensures.small)

pub overflow_add-longer : goal.overflow_add-longer
overflow_add-longer g c = let k = top g (goal.at.overflow_add-longer g c).After-read_top-top in omega (arith, k.top.most)

filling : (g : _) (c : After-put-rear g) → IsFilling (g.H.Heap.view c.args.h.now) (g.H.Heap.view c.put-rear.new.self) c.args.run.now c.put-rear.new.run 0
filling g c = filling_put (filling_quiet (filling_start _ _ c.requires.build.held) c.read_top-top.ensures.quiet) c.put-rear.ensures.put c.put-rear.ensures.run refl

-- the same top, after the rear's cell was put
later : (g : _) (c : After-put-rear g) → BuildTop (g.H.Heap.view c.put-rear.new.self) c.args.job.now c.args.run.now c.read_top-top.result
later g c = build_later (filling g c).filled.grows (g.met.H.Heap.lawful c.put-rear.new.self).world c.requires.build c.requires.kind c.read_top-top.result c.read_top-top.ensures.top

-- the schedule is looked at
looks : (g : _) (c : After-put-rear g) → looks_at c.args.job.now.op c.read_top-top.result ≡ Some c.read_top-top.result.sched
looks g c = ap (λ o. looks_at o c.read_top-top.result) c.requires.op ∙ snoc_looks c.read_top-top.result (λ z. c.if-job-eq-MOST_ITEMS.false (omega (arith, z, (later g c).top.size)))

pub put_top-root-requires : goal.put_top-root-requires
put_top-root-requires g c =
    let d = goal.at.put_top-root-requires g c in
    let k = later g d.After-put-rear in
    let f = filling g d.After-put-rear in
    let r = c.put-rear.ensures in
    let room = snoc_room k c.requires.op c.if-job-eq-MOST_ITEMS.false in
    let one = due_is c.args.job.now c.requires.kind c.requires.build.base_job.has ops.Snoc c.requires.op in
    let next : c.args.run.now.next + 1 ≡ c.put-rear.new.run.next = rw r.run refl in
    record {
      top = near_snoc (g.met.H.Heap.lawful c.put-rear.new.self).world c.args.job.now.base.root.0 c.read_top-top.result k.there c.put-rear.new.run.next
          (raise_seen (omega (arith, next)) (k.looked c.read_top-top.result.sched (looks g d.After-put-rear))) (omega (arith, next, k.root_low)) false c.argument-item.result c.put-rear.result (rw r.place r.put.here) (rw r.place (omega (arith, next)));
      held = f.held;
      room = rw r.run (omega (arith, room));
      credits = omega (arith, f.credits, c.requires.build.credits, one);
    }

pub returns : goal.returns
returns g c =
    let d = (goal.at.returns g c).After-put-rear in
    let k = later g d in
    let r = c.put-rear.ensures in
    let p = c.put_top-root.ensures in
    let grows = p.put.filled.grows in
    let room = snoc_room k c.requires.op c.if-job-eq-MOST_ITEMS.false in
    let least = least_places c.read_top-top.result.lenf (c.read_top-top.result.lenr + 1) in
    let f = filling_part 1 (filling g d) p.put.filled (omega (arith, p.put.size, least)) p.put.same_end p.put.held p.put.credits in
    let law = (g.met.H.Heap.lawful c.put_top-root.new.h).world in
    let last : BuildTop (g.H.Heap.view c.put_top-root.new.h) c.args.job.now c.args.run.now c.read_top-top.result = build_later (grows_trans (filling g d).filled.grows grows) law c.requires.build c.requires.kind c.read_top-top.result c.read_top-top.ensures.top in
    let one = due_is c.args.job.now c.requires.kind c.requires.build.base_job.has ops.Snoc c.requires.op in
    let next : c.put-rear.new.run.next ≡ c.args.run.now.next + 1 = rw r.run refl in
    let end : c.put_top-root.new.run.next ≡ c.args.run.now.end = omega (arith, p.put.size, next, room) in
    let cell : recs (g.H.Heap.view c.put_top-root.new.h).seen c.put-rear.result.0 ≡ Some (LCons false c.args.job.now.arg c.read_top-top.result.rear) = grows.records _ _ (rw (r.place, ← c.argument-item.ensures.same) r.put.here) in
    record {
      built = record {
        filled = rw end at f.filled;
        spent = end ∙ sym f.same_end;
        made = snoc_end law c.args.job.now c.read_top-top.result (at_top last c.requires.kind) c.requires.op (omega (arith, last.top.most, last.top.size, c.if-job-eq-MOST_ITEMS.false)) (last.looked c.read_top-top.result.sched (looks g d)).known c.put-rear.result cell c.put_top-root.result.0 p.made;
        credits = omega (arith, f.credits, one);
      };
      base = λ e. absurd (omega (arith, e, room));
      ends = refl;
    }
