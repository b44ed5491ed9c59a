use Rattle.std.proofs.Common.{◌≡◌, ◌+◌, ◌-◌, ◌≤◌, arith, ◌∙◌, ap, refl, false, Some}
use Rattle.lazy_rec.specs.declared.records.Rec.TheVariants.{Cons}
use Rattle.lazy_rec.specs.declared.records.Sort.TheVariants as sorts
use Rattle.heap_store.specs.World.{recs, value_at}
use Rattle.lazy_rec.specs.declared.events.Op.TheVariants as ops
use Rattle.heap_store.proofs.GrowthLaws.{grows_trans, value_up, is_value_up}
use Rattle.heap_store.proofs.Steps.{Quiet_trans, quiet_Filled}
use Rattle.heap_store.proofs.CellLaws.{item_cell}
use Rattle.heap_store.proofs.WellNamed.{named_sort}
use Rattle.bank_queue.proofs.QueueJobs.{looks_some, top_least, due_is, BuildTop, build_root, build_later, tail_room}
use Rattle.bank_queue.proofs.QueueEnds.{same_root, tail_end}
use Rattle.bank_queue.proofs.Operations.{none_built, near_tail, tail_items}
use Rattle.bank_queue.proofs.TopsPaid.{tail_gain}
use Rattle.heap_store.specs.OneStage.{is_end}
use Rattle.bank_queue.specs.Queue.{looks_at_front, top_gain}
use Rattle.bank_queue.proofs.events.tail.Goals as goal
use Rattle.bank_queue.proofs.events.tail.Goals.{After-read_top-top, After-first_cell-cell}

pub read_top-top-requires : goal.read_top-top-requires
read_top-top-requires g c = build_root c.requires.build c.requires.kind

top : (g : _) (c : After-read_top-top g) → BuildTop (g.H.Heap.view c.read_top-top.new.h) c.args.job.now c.args.run.now c.read_top-top.result
top g c = build_later c.read_top-top.ensures.quiet.grows (g.met.H.Heap.lawful c.read_top-top.new.h).world c.requires.build c.requires.kind c.read_top-top.result c.read_top-top.ensures.top

pub returns-then-top-eq0 : goal.returns-then-top-eq0
returns-then-top-eq0 g c = record {
  built = none_built c.read_top-top.ensures.quiet (g.met.H.Heap.lawful c.read_top-top.new.h).world (top g (goal.at.returns-then-top-eq0 g c).After-read_top-top) c.requires.kind (ap (λ o. looks_at_front o 1) c.requires.op) c.if-top-eq0.true c.at_base.result c.at_base.ensures;
  base = λ _. same_root _ _ _ c.at_base.result c.at_base.ensures;
  ends = ap is_end c.at_base.ensures;
}

pub first_cell-cell-requires : goal.first_cell-cell-requires
first_cell-cell-requires g c =
    let k = top g (goal.at.first_cell-cell-requires g c).After-read_top-top in
    let w = k.top.old.well in
    record { stream = named_sort (recs (g.H.Heap.view c.read_top-top.new.h).seen) c.args.job.now.base.root.0 (c.read_top-top.result.front.0, sorts.Stream) w.front_named; known = k.known (looks_some c.args.job.now.op c.read_top-top.result.lenf (ap (λ o. looks_at_front o 1) c.requires.op) (omega arith)); some = omega (arith, w.front_cells) }

later : (g : _) (c : After-first_cell-cell g) → BuildTop (g.H.Heap.view c.first_cell-cell.new.h) c.args.job.now c.args.run.now c.read_top-top.result
later g c = build_later (grows_trans c.read_top-top.ensures.quiet.grows c.first_cell-cell.ensures.quiet.grows) (g.met.H.Heap.lawful c.first_cell-cell.new.h).world c.requires.build c.requires.kind c.read_top-top.result c.read_top-top.ensures.top

-- the first cell, in the view after it was read
cell : (g : _) (c : After-first_cell-cell g) → value_at (g.H.Heap.view c.first_cell-cell.new.h).seen c.read_top-top.result.front.0 ≡ Some (Cons false c.first_cell-cell.result.value c.first_cell-cell.result.rest)
cell g c = item_cell (g.met.H.Heap.lawful c.first_cell-cell.new.h).world c.read_top-top.result.front.0 _ _ _ (later g c).top.old.well.front_items (value_up _ _ c.first_cell-cell.ensures.quiet.grows c.read_top-top.result.front.0 _ c.first_cell-cell.ensures.cell)

pub overflow_add-shorter : goal.overflow_add-shorter
overflow_add-shorter g c = let k = top g (goal.at.overflow_add-shorter g c).After-read_top-top in omega (arith, k.top.old.tails_fits)

pub put_top-root-requires-clause-top : goal.put_top-root-requires-clause-top
put_top-root-requires-clause-top g c =
    let d = goal.at.put_top-root-requires-clause-top g c in
    let k = later g d.After-first_cell-cell in
    let h = cell g d.After-first_cell-cell in
    let look = looks_some c.args.job.now.op c.read_top-top.result.lenf (ap (λ o. looks_at_front o 1) c.requires.op) (omega arith) in
    near_tail (g.met.H.Heap.lawful c.first_cell-cell.new.h).world c.args.job.now.base.root.0 c.read_top-top.result k.there c.first_cell-cell.result.value c.first_cell-cell.result.rest h c.args.run.now.next k.root_low (k.rest_low look _ _ h)

pub put_top-root-requires-clause-held : goal.put_top-root-requires-clause-held
put_top-root-requires-clause-held g c = rw (c.first_cell-cell.ensures.quiet.hand, c.read_top-top.ensures.quiet.hand) c.requires.build.held

pub put_top-root-requires-clause-size : goal.put_top-root-requires-clause-size
put_top-root-requires-clause-size g c = tail_room (top g (goal.at.put_top-root-requires-clause-size g c).After-read_top-top) c.requires.op (omega arith)

gain : (g : _) (c : After-first_cell-cell g) → top_gain (g.H.Heap.view c.first_cell-cell.new.h).seen c.args.run.now.next (record c.read_top-top.result { front = c.first_cell-cell.result.rest; lenf = c.read_top-top.result.lenf - 1; tails = c.read_top-top.result.tails + 1 }) ≤ 2
gain g c = tail_gain (g.met.H.Heap.lawful c.first_cell-cell.new.h).world c.args.job.now.base.root.0 c.args.run.now.next c.read_top-top.result (later g c).there (omega arith) c.first_cell-cell.result.rest

pub put_top-root-requires-clause-credits : goal.put_top-root-requires-clause-credits
put_top-root-requires-clause-credits g c =
    let d = (goal.at.put_top-root-requires-clause-credits g c).After-first_cell-cell in
    let two = due_is c.args.job.now c.requires.kind c.requires.build.base_job.has ops.Tail c.requires.op in
    let q = Quiet_trans c.read_top-top.ensures.quiet c.first_cell-cell.ensures.quiet in
    rw q.hand (omega (arith, gain g d, c.requires.build.credits, two))

pub overflow_sub-result : goal.overflow_sub-result
overflow_sub-result g c = let k = top g (goal.at.overflow_sub-result g c).After-read_top-top in omega (arith, k.top.size)

pub returns : goal.returns
returns g c =
    let d = goal.at.returns g c in
    let k = later g d.After-first_cell-cell in
    let p = c.put_top-root.ensures in
    let grows = p.filled.grows in
    let law1 = (g.met.H.Heap.lawful c.first_cell-cell.new.h).world in
    let law2 = (g.met.H.Heap.lawful c.put_top-root.new.h).world in
    let h = cell g d.After-first_cell-cell in
    let look = looks_some c.args.job.now.op c.read_top-top.result.lenf (ap (λ o. looks_at_front o 1) c.requires.op) (omega arith) in
    let room = tail_room k c.requires.op (omega arith) in
    record {
      built = record {
        filled = quiet_Filled (Quiet_trans c.read_top-top.ensures.quiet c.first_cell-cell.ensures.quiet) p.filled;
        spent = p.spent;
        made = tail_end law2 c.args.job.now c.requires.kind c.requires.op c.read_top-top.result (grows.records _ _ k.there) k.top.size c.first_cell-cell.result.value c.first_cell-cell.result.rest (value_up _ _ grows c.read_top-top.result.front.0 _ h) (is_value_up _ _ grows c.read_top-top.result.front.0 (k.known look)) c.put_top-root.result p.root
            (p.items ∙ tail_items law1 law2 grows.records c.args.job.now.base.root.0 c.read_top-top.result k.there c.first_cell-cell.result.value c.first_cell-cell.result.rest h);
        credits = (let q = Quiet_trans c.read_top-top.ensures.quiet c.first_cell-cell.ensures.quiet in let two = due_is c.args.job.now c.requires.kind c.requires.build.base_job.has ops.Tail c.requires.op in let m = rw q.hand at p.credits in omega (arith, m, gain g d.After-first_cell-cell, two));
      };
      base = λ e. absurd (omega (arith, e, room, top_least (c.read_top-top.result.lenf - 1) c.read_top-top.result.lenr));
      ends = refl;
    }
