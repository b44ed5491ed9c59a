use Rattle.std.proofs.Common.{◌≡◌, ◌<◌, arith, ap, ◌∙◌, Some}
use Rattle.lazy_rec.specs.declared.records.Sort.TheVariants as sorts
use Rattle.heap_store.specs.World.{recs}
use Rattle.heap_store.proofs.GrowthLaws.{grows_trans, value_up}
use Rattle.heap_store.proofs.Steps.{Quiet_trans}
use Rattle.heap_store.proofs.CellLaws.{item_cell}
use Rattle.heap_store.proofs.WellNamed.{named_sort}
use Rattle.heap_store.specs.OneStage.{is_end}
use Rattle.rt_queue.specs.Queue.{looks_at}
use Rattle.rt_queue.proofs.Tops.{top_well}
use Rattle.rt_queue.proofs.QueueJobs.{BuildTop, root_is_top, build_root, build_later, head_looks}
use Rattle.rt_queue.proofs.QueueEnds.{same_root}
use Rattle.rt_queue.proofs.Operations.{head_none, head_built}
use Rattle.rt_queue.proofs.events.head.Goals as goal
use Rattle.rt_queue.proofs.events.head.Goals.{After-read_top-top}

pub read_top-top-requires : goal.read_top-top-requires
read_top-top-requires g c = root_is_top (g.H.Heap.view c.args.h.now).seen c.args.job.now.base.root.0 (build_root c.requires.build c.requires.kind)

top : (g : _) (c : After-read_top-top g) → BuildTop (g.H.Heap.view c.read_top-top.new.h) c.args.job.now c.args.run.now c.read_top-top.result
top g c = build_later c.read_top-top.ensures.quiet.grows (g.met.H.Heap.lawful c.read_top-top.new.h).world c.requires.build c.requires.kind c.read_top-top.result c.read_top-top.ensures.top

pub returns-then-top-eq0 : goal.returns-then-top-eq0
returns-then-top-eq0 g c = record {
  built = head_none c.read_top-top.ensures.quiet (g.met.H.Heap.lawful c.read_top-top.new.h).world (top g (goal.at.returns-then-top-eq0 g c).After-read_top-top) c.requires.kind c.requires.op c.if-top-eq0.true c.at_base.result c.at_base.ensures;
  base = λ _. same_root _ _ _ c.at_base.result c.at_base.ensures;
  ends = ap is_end c.at_base.ensures;
}

-- where an item is left, the front is looked at
front : (g : _) (c : After-read_top-top g) → 0 < c.read_top-top.result.lenf → looks_at c.args.job.now.op c.read_top-top.result ≡ Some c.read_top-top.result.front
front g c some = ap (λ o. looks_at o c.read_top-top.result) c.requires.op ∙ head_looks c.read_top-top.result some

pub first_cell-cell-requires : goal.first_cell-cell-requires
first_cell-cell-requires g c =
    let d = (goal.at.first_cell-cell-requires g c).After-read_top-top in
    let k = top g d in
    let w = top_well (g.met.H.Heap.lawful c.read_top-top.new.h).world c.args.job.now.base.root.0 c.read_top-top.result k.there in
    record { stream = named_sort (recs (g.H.Heap.view c.read_top-top.new.h).seen) c.args.job.now.base.root.0 (c.read_top-top.result.front.0, sorts.Stream) w.front_named; known = (k.looked c.read_top-top.result.front (front g d (omega arith))).known; some = omega (arith, w.front_cells) }

pub returns : goal.returns
returns g c =
    let law = (g.met.H.Heap.lawful c.first_cell-cell.new.h).world in
    let k : BuildTop (g.H.Heap.view c.first_cell-cell.new.h) c.args.job.now c.args.run.now c.read_top-top.result = build_later (grows_trans c.read_top-top.ensures.quiet.grows c.first_cell-cell.ensures.quiet.grows) law c.requires.build c.requires.kind c.read_top-top.result c.read_top-top.ensures.top in
    let h = item_cell law c.read_top-top.result.front.0 _ _ _ k.top.items.front_items (value_up _ _ c.first_cell-cell.ensures.quiet.grows c.read_top-top.result.front.0 _ c.first_cell-cell.ensures.cell) in
    let look = front g (goal.at.returns g c).After-read_top-top (omega arith) in
    record {
      built = head_built (Quiet_trans c.read_top-top.ensures.quiet c.first_cell-cell.ensures.quiet) law k c.requires.kind c.requires.op c.first_cell-cell.result.value c.first_cell-cell.result.rest h (k.looked c.read_top-top.result.front look).known c.at_base-2.result c.at_base-2.ensures;
      base = λ _. same_root _ _ _ c.at_base-2.result c.at_base-2.ensures;
      ends = ap is_end c.at_base-2.ensures;
    }
