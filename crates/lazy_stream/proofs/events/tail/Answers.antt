use Rattle.std.proofs.Common.{◌≡◌, ◌-◌, ◌∙◌, arith, ap, refl, false, Some}
use Rattle.std.proofs.lemmas.Bool.{lt-ltb}
use Rattle.lazy_rec.specs.declared.events.Op.TheVariants as ops
use Rattle.lazy_rec.specs.declared.records.Rec.TheVariants.{Cons}
use Rattle.lazy_rec.specs.Meaning.{cells}
use Rattle.heap_store.specs.World.{recs, value_at}
use Rattle.heap_store.proofs.GrowthLaws.{grows_refl, value_up, is_value_up}
use Rattle.heap_store.proofs.Steps.{Quiet_trans}
use Rattle.heap_store.proofs.CellLaws.{item_cell}
use Rattle.heap_store.specs.OneStage.{is_end}
use Rattle.lazy_stream.specs.Stream.{looks_at_first}
use Rattle.lazy_stream.proofs.Streams.{stream_part, stream_cell}
use Rattle.lazy_stream.proofs.JobStreams.{Found, found_base, FoundFirst, found_first, room, tail_places}
use Rattle.lazy_stream.proofs.StreamEnds.{same_root, tail_end}
use Rattle.lazy_stream.proofs.NewStreams.{BeforeTop, only_top, rest_cells, event_built}
use Rattle.lazy_stream.proofs.Operations.{base_root, none_built}
use Rattle.lazy_stream.proofs.events.tail.Goals as goal
use Rattle.lazy_stream.proofs.events.tail.Goals.{After-read_front-front, After-first_cell-cell}

pub returns-then-job-eq0 : goal.returns-then-job-eq0
returns-then-job-eq0 g c = record {
  built = none_built (g.met.H.Heap.lawful c.args.h.now).world c.requires.build c.requires.kind ops.Tail c.requires.op refl c.if-job-eq0.true c.at_base.result c.at_base.ensures;
  base = λ _. same_root _ _ _ c.at_base.result c.at_base.ensures;
  ends = ap is_end c.at_base.ensures;
}

pub read_front-front-requires : goal.read_front-front-requires
read_front-front-requires g c = base_root (g.met.H.Heap.lawful c.args.h.now).world c.requires.build c.requires.kind

pub first_cell-cell-requires : goal.first_cell-cell-requires
first_cell-cell-requires g c =
    let q = c.read_front-front.ensures.quiet in
    let law = (g.met.H.Heap.lawful c.read_front-front.new.h).world in
    let s = (found_base c.requires.build law (grows_refl (g.H.Heap.view c.args.h.now).seen) q.grows c.read_front-front.result c.read_front-front.ensures.top).stream in
    let first = found_first c.requires.build q.grows c.read_front-front.result c.read_front-front.ensures.top.0 c.read_front-front.ensures.top.1 (ap (λ o. looks_at_first o c.args.job.now.base.size) c.requires.op ∙ lt-ltb 0 c.args.job.now.base.size (omega arith)) in
    record { stream = stream_part law c.read_front-front.result.0 s.stream; known = first.known; some = omega (arith, s.count) }

-- the stream of the base and its first cell, in the view after it was read
own : (g : _) (c : After-first_cell-cell g) → Found (g.H.Heap.view c.first_cell-cell.new.h).seen c.args.run.now c.args.job.now.base c.read_front-front.result
own g c =
    let q = Quiet_trans c.read_front-front.ensures.quiet c.first_cell-cell.ensures.quiet in
    found_base c.requires.build (g.met.H.Heap.lawful c.first_cell-cell.new.h).world (grows_refl (g.H.Heap.view c.args.h.now).seen) q.grows c.read_front-front.result c.read_front-front.ensures.top

first : (g : _) (c : After-first_cell-cell g) → FoundFirst (g.H.Heap.view c.first_cell-cell.new.h).seen c.args.run.now c.read_front-front.result
first g c =
    let q = Quiet_trans c.read_front-front.ensures.quiet c.first_cell-cell.ensures.quiet in
    found_first c.requires.build q.grows c.read_front-front.result c.read_front-front.ensures.top.0 c.read_front-front.ensures.top.1 (ap (λ o. looks_at_first o c.args.job.now.base.size) c.requires.op ∙ lt-ltb 0 c.args.job.now.base.size (omega (arith, c.if-job-eq0.false)))

cell : (g : _) (c : After-first_cell-cell g) → value_at (g.H.Heap.view c.first_cell-cell.new.h).seen c.read_front-front.result.0 ≡ Some (Cons false c.first_cell-cell.result.value c.first_cell-cell.result.rest)
cell g c = item_cell (g.met.H.Heap.lawful c.first_cell-cell.new.h).world c.read_front-front.result.0 _ _ _ (own g c).stream.items (value_up _ _ c.first_cell-cell.ensures.quiet.grows c.read_front-front.result.0 _ c.first_cell-cell.ensures.cell)

before : (g : _) (c : After-first_cell-cell g) → BeforeTop (g.H.Heap.view c.args.h.now) (g.H.Heap.view c.first_cell-cell.new.h) c.args.run.now c.args.run.now c.first_cell-cell.result.rest.0 (c.args.job.now.base.size - 1) 0 (cells (recs (g.H.Heap.view c.first_cell-cell.new.h).seen) c.first_cell-cell.result.rest.0)
before g c =
    let q = Quiet_trans c.read_front-front.ensures.quiet c.first_cell-cell.ensures.quiet in
    let h = cell g c in
    let one = tail_places c.args.job.now.base.size c.args.job.now.other.size c.if-job-eq0.false in
    let size = room c.requires.build ops.Tail c.requires.op in
    only_top q c.requires.build.held (omega (arith, size, one)) (rest_cells (g.met.H.Heap.lawful c.first_cell-cell.new.h).world c.read_front-front.result.0 c.args.job.now.base.size c.first_cell-cell.result.value c.first_cell-cell.result.rest c.args.run.now.next (own g c).stream h ((first g c).rest_low _ _ h))

pub put_top-root-requires : goal.put_top-root-requires
put_top-root-requires g c =
    let b = before g (goal.at.put_top-root-requires g c).After-first_cell-cell in
    record { stream = b.made.stream; held = b.held; size = b.last }

pub returns-clause-built : goal.returns-clause-built
returns-clause-built g c =
    let d = (goal.at.returns-clause-built g c).After-first_cell-cell in
    let b = before g d in
    let f = own g d in
    let h = cell g d in
    let p = c.put_top-root.ensures in
    let law = (g.met.H.Heap.lawful c.first_cell-cell.new.h).world in
    let first_is = stream_cell law c.read_front-front.result.0 c.first_cell-cell.result.value c.first_cell-cell.result.rest f.stream.stream f.stream.items h in
    let end = tail_end law p.filled.grows.records c.args.job.now c.requires.kind c.read_front-front.result f.top (record { there = p.root; items = p.items }) c.requires.op c.first_cell-cell.result.value first_is.cell.cells_are (is_value_up _ _ p.filled.grows c.read_front-front.result.0 (first g d).known) in
    rw c.ended.ensures (event_built b p.filled p.spent p.credits (omega arith) c.put_top-root.result (c.args.job.now.base.size - 1) end)
