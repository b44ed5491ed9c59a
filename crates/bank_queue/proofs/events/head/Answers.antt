use Rattle.std.proofs.Common.{arith, ap}
use Rattle.lazy_rec.specs.declared.records.Sort.TheVariants as sorts
use Rattle.heap_store.specs.World.{recs}
use Rattle.heap_store.proofs.GrowthLaws.{grows_trans, value_up}
use Rattle.heap_store.proofs.Steps.{Quiet_trans}
use Rattle.heap_store.proofs.CellLaws.{item_cell}
use Rattle.heap_store.proofs.WellNamed.{named_sort}
use Rattle.bank_queue.proofs.QueueJobs.{looks_some, BuildTop, build_root, build_later}
use Rattle.bank_queue.proofs.QueueEnds.{same_root}
use Rattle.bank_queue.proofs.Operations.{none_built, head_built}
use Rattle.heap_store.specs.OneStage.{is_end}
use Rattle.bank_queue.specs.Queue.{looks_at_front}
use Rattle.bank_queue.proofs.events.head.Goals as goal
use Rattle.bank_queue.proofs.events.head.Goals.{After-read_top-top}

pub read_top-top-requires : goal.read_top-top-requires
read_top-top-requires g c = build_root c.requires.build c.requires.kind

top : (g : _) (c : After-read_top-top g) → BuildTop (g.H.Heap.view c.read_top-top.new.h) c.args.job.now c.args.run.now c.read_top-top.result
top g c = build_later c.read_top-top.ensures.quiet.grows (g.met.H.Heap.lawful c.read_top-top.new.h).world c.requires.build c.requires.kind c.read_top-top.result c.read_top-top.ensures.top

pub returns-then-top-eq0 : goal.returns-then-top-eq0
returns-then-top-eq0 g c = record {
  built = none_built c.read_top-top.ensures.quiet (g.met.H.Heap.lawful c.read_top-top.new.h).world (top g (goal.at.returns-then-top-eq0 g c).After-read_top-top) c.requires.kind (ap (λ o. looks_at_front o 1) c.requires.op) c.if-top-eq0.true c.at_base.result c.at_base.ensures;
  base = λ _. same_root _ _ _ c.at_base.result c.at_base.ensures;
  ends = ap is_end c.at_base.ensures;
}

pub first_cell-cell-requires : goal.first_cell-cell-requires
first_cell-cell-requires g c =
    let k = top g (goal.at.first_cell-cell-requires g c).After-read_top-top in
    let w = k.top.old.well in
    record { stream = named_sort (recs (g.H.Heap.view c.read_top-top.new.h).seen) c.args.job.now.base.root.0 (c.read_top-top.result.front.0, sorts.Stream) w.front_named; known = k.known (looks_some c.args.job.now.op c.read_top-top.result.lenf (ap (λ o. looks_at_front o 1) c.requires.op) (omega arith)); some = omega (arith, w.front_cells) }

pub returns : goal.returns
returns g c =
    let k = build_later (grows_trans c.read_top-top.ensures.quiet.grows c.first_cell-cell.ensures.quiet.grows) (g.met.H.Heap.lawful c.first_cell-cell.new.h).world c.requires.build c.requires.kind c.read_top-top.result c.read_top-top.ensures.top in
    let h = item_cell (g.met.H.Heap.lawful c.first_cell-cell.new.h).world c.read_top-top.result.front.0 _ _ _ k.top.old.well.front_items (value_up _ _ c.first_cell-cell.ensures.quiet.grows c.read_top-top.result.front.0 _ c.first_cell-cell.ensures.cell) in
    record {
      built = head_built (Quiet_trans c.read_top-top.ensures.quiet c.first_cell-cell.ensures.quiet) (g.met.H.Heap.lawful c.first_cell-cell.new.h).world k c.requires.kind c.requires.op c.first_cell-cell.result.value c.first_cell-cell.result.rest h (k.known (looks_some c.args.job.now.op c.read_top-top.result.lenf (ap (λ o. looks_at_front o 1) c.requires.op) (omega arith))) c.at_base-2.result c.at_base-2.ensures;
      base = λ _. same_root _ _ _ c.at_base-2.result c.at_base-2.ensures;
      ends = ap is_end c.at_base-2.ensures;
    }
