use Rattle.std.proofs.Common.{◌≡◌, ◌<◌, ◌-◌, arith, ◌∙◌, sym, ap, refl, false, Some}
use Rattle.lazy_rec.specs.declared.records.Rec.TheVariants.{Cons}
use Rattle.lazy_rec.specs.declared.records.Sort.TheVariants as sorts
use Rattle.lazy_rec.specs.declared.events.Op.TheVariants as ops
use Rattle.heap_store.specs.World.{recs, value_at}
use Rattle.heap_store.proofs.GrowthLaws.{grows_trans, value_up}
use Rattle.heap_store.proofs.Steps.{IsFilling, filling_start, filling_quiet}
use Rattle.heap_store.proofs.FillLaws.{filling_part}
use Rattle.heap_store.proofs.CellLaws.{item_cell}
use Rattle.heap_store.proofs.WellNamed.{named_sort}
use Rattle.heap_store.specs.OneStage.{is_end}
use Rattle.rt_queue.specs.Queue.{looks_at}
use Rattle.rt_queue.proofs.NearQueues.{near_tail}
use Rattle.rt_queue.proofs.Tops.{top_well}
use Rattle.rt_queue.proofs.QueueJobs.{due_is, BuildTop, root_is_top, build_root, build_later, tail_room, tail_looks}
use Rattle.rt_queue.proofs.QueueEnds.{same_root, tail_end}
use Rattle.rt_queue.proofs.Operations.{at_top, tail_none}
use Rattle.rt_queue.proofs.TopPuts.{least_places}
use Rattle.rt_queue.proofs.events.tail.Goals as goal
use Rattle.rt_queue.proofs.events.tail.Goals.{After-read_top-top, After-first_cell-cell}

pub read_top-top-requires : goal.read_top-top-requires
read_top-top-requires g c = root_is_top (g.H.Heap.view c.args.h.now).seen c.args.job.now.base.root.0 (build_root c.requires.build c.requires.kind)

top : (g : _) (c : After-read_top-top g) → BuildTop (g.H.Heap.view c.read_top-top.new.h) c.args.job.now c.args.run.now c.read_top-top.result
top g c = build_later c.read_top-top.ensures.quiet.grows (g.met.H.Heap.lawful c.read_top-top.new.h).world c.requires.build c.requires.kind c.read_top-top.result c.read_top-top.ensures.top

pub returns-then-top-eq0 : goal.returns-then-top-eq0
returns-then-top-eq0 g c = record {
  built = tail_none c.read_top-top.ensures.quiet (g.met.H.Heap.lawful c.read_top-top.new.h).world (top g (goal.at.returns-then-top-eq0 g c).After-read_top-top) c.requires.kind c.requires.op c.if-top-eq0.true c.at_base.result c.at_base.ensures;
  base = λ _. same_root _ _ _ c.at_base.result c.at_base.ensures;
  ends = ap is_end c.at_base.ensures;
}

-- where an item is left, the schedule is looked at
looks : (g : _) (c : After-read_top-top g) → 0 < c.read_top-top.result.lenf → looks_at c.args.job.now.op c.read_top-top.result ≡ Some c.read_top-top.result.sched
looks g c some = ap (λ o. looks_at o c.read_top-top.result) c.requires.op ∙ tail_looks c.read_top-top.result some

pub first_cell-cell-requires : goal.first_cell-cell-requires
first_cell-cell-requires g c =
    let d = (goal.at.first_cell-cell-requires g c).After-read_top-top in
    let k = top g d in
    let w = top_well (g.met.H.Heap.lawful c.read_top-top.new.h).world c.args.job.now.base.root.0 c.read_top-top.result k.there in
    record { stream = named_sort (recs (g.H.Heap.view c.read_top-top.new.h).seen) c.args.job.now.base.root.0 (c.read_top-top.result.front.0, sorts.Stream) w.front_named; known = (k.front (looks g d (omega arith))).known; some = omega (arith, w.front_cells) }

later : (g : _) (c : After-first_cell-cell g) → BuildTop (g.H.Heap.view c.first_cell-cell.new.h) c.args.job.now c.args.run.now c.read_top-top.result
later g c = build_later (grows_trans c.read_top-top.ensures.quiet.grows c.first_cell-cell.ensures.quiet.grows) (g.met.H.Heap.lawful c.first_cell-cell.new.h).world c.requires.build c.requires.kind c.read_top-top.result c.read_top-top.ensures.top

-- the first cell, in the view after it was read
cell : (g : _) (c : After-first_cell-cell g) → value_at (g.H.Heap.view c.first_cell-cell.new.h).seen c.read_top-top.result.front.0 ≡ Some (Cons false c.first_cell-cell.result.value c.first_cell-cell.result.rest)
cell g c = item_cell (g.met.H.Heap.lawful c.first_cell-cell.new.h).world c.read_top-top.result.front.0 _ _ _ (later g c).top.items.front_items (value_up _ _ c.first_cell-cell.ensures.quiet.grows c.read_top-top.result.front.0 _ c.first_cell-cell.ensures.cell)

reading : (g : _) (c : After-first_cell-cell g) → IsFilling (g.H.Heap.view c.args.h.now) (g.H.Heap.view c.first_cell-cell.new.h) c.args.run.now c.args.run.now 0
reading g c = filling_quiet (filling_quiet (filling_start _ _ c.requires.build.held) c.read_top-top.ensures.quiet) c.first_cell-cell.ensures.quiet

pub put_top-root-requires : goal.put_top-root-requires
put_top-root-requires g c =
    let d = goal.at.put_top-root-requires g c in
    let k = later g d.After-first_cell-cell in
    let f = reading g d.After-first_cell-cell in
    let h = cell g d.After-first_cell-cell in
    let look = looks g d.After-read_top-top (omega arith) in
    let room = tail_room k c.requires.op (omega arith) in
    let one = due_is c.args.job.now c.requires.kind c.requires.build.base_job.has ops.Tail c.requires.op in
    record {
      top = near_tail (g.met.H.Heap.lawful c.first_cell-cell.new.h).world c.args.job.now.base.root.0 c.read_top-top.result k.there c.args.run.now.next (k.looked c.read_top-top.result.sched look) k.root_low false c.first_cell-cell.result.value c.first_cell-cell.result.rest h
          ((k.front look).rest_low false c.first_cell-cell.result.value c.first_cell-cell.result.rest h);
      held = f.held;
      room = omega (arith, room);
      credits = omega (arith, f.credits, c.requires.build.credits, one);
    }

pub overflow_sub-result : goal.overflow_sub-result
overflow_sub-result g c = let k = top g (goal.at.overflow_sub-result g c).After-read_top-top in omega (arith, k.top.size)

pub returns : goal.returns
returns g c =
    let d = goal.at.returns g c in
    let p = c.put_top-root.ensures in
    let grows = p.put.filled.grows in
    let look = looks g d.After-read_top-top (omega arith) in
    let room = tail_room (later g d.After-first_cell-cell) c.requires.op (omega arith) in
    let least = least_places (c.read_top-top.result.lenf - 1) c.read_top-top.result.lenr in
    let f = filling_part 1 (reading g d.After-first_cell-cell) p.put.filled (omega (arith, p.put.size, least)) p.put.same_end p.put.held p.put.credits in
    let law = (g.met.H.Heap.lawful c.put_top-root.new.h).world in
    let last : BuildTop (g.H.Heap.view c.put_top-root.new.h) c.args.job.now c.args.run.now c.read_top-top.result = build_later (grows_trans (reading g d.After-first_cell-cell).filled.grows grows) law c.requires.build c.requires.kind c.read_top-top.result c.read_top-top.ensures.top in
    let one = due_is c.args.job.now c.requires.kind c.requires.build.base_job.has ops.Tail c.requires.op in
    let end : c.put_top-root.new.run.next ≡ c.args.run.now.end = omega (arith, p.put.size, room) in
    record {
      built = record {
        filled = rw end at f.filled;
        spent = end ∙ sym f.same_end;
        made = tail_end law c.args.job.now c.read_top-top.result (at_top last c.requires.kind) c.requires.op (last.front look).known (last.looked c.read_top-top.result.sched look).known c.first_cell-cell.result.value c.first_cell-cell.result.rest
            (value_up _ _ grows c.read_top-top.result.front.0 _ (cell g d.After-first_cell-cell)) c.put_top-root.result.0 p.made;
        credits = omega (arith, f.credits, one);
      };
      base = λ e. absurd (omega (arith, e, room, least));
      ends = refl;
    }
