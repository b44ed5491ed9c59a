use Rattle.std.proofs.Common.{◌≡◌, ◌+◌, ◌<◌, ◌∷◌, arith, ap, refl, false, Some}
use Rattle.lazy_rec.specs.declared.events.Op.TheVariants as ops
use Rattle.lazy_rec.specs.declared.records.Rec.TheVariants.{Cons}
use Rattle.lazy_rec.specs.Meaning.{an_item, cells}
use Rattle.heap_store.specs.World.{recs}
use Rattle.heap_store.specs.View.{Fits}
use Rattle.heap_store.proofs.GrowthLaws.{grows_refl, grows_trans}
use Rattle.heap_store.proofs.Steps.{filling_start, filling_quiet}
use Rattle.heap_store.proofs.UnitLaws.{gain_none}
use Rattle.heap_store.proofs.PutLaws.{fits_cons}
use Rattle.heap_store.specs.OneStage.{is_end}
use Rattle.lazy_stream.proofs.Streams.{stream_named}
use Rattle.lazy_stream.proofs.JobStreams.{found_base, room, cons_places}
use Rattle.lazy_stream.proofs.StreamEnds.{same_root, cons_end}
use Rattle.lazy_stream.proofs.NewStreams.{BeforeTop, after_put, cons_cells, event_built}
use Rattle.lazy_stream.proofs.Operations.{base_root, full_built}
use Rattle.lazy_stream.proofs.events.cons.Goals as goal
use Rattle.lazy_stream.proofs.events.cons.Goals.{After-read_front-rest, After-put-front}

pub returns-then-job-eq-MOST_ITEMS : goal.returns-then-job-eq-MOST_ITEMS
returns-then-job-eq-MOST_ITEMS g c = record {
  built = full_built (g.met.H.Heap.lawful c.args.h.now).world c.requires.build c.requires.kind c.requires.op c.if-job-eq-MOST_ITEMS.true c.at_base.result c.at_base.ensures;
  base = λ _. same_root _ _ _ c.at_base.result c.at_base.ensures;
  ends = ap is_end c.at_base.ensures;
}

pub read_front-rest-requires : goal.read_front-rest-requires
read_front-rest-requires g c = base_root (g.met.H.Heap.lawful c.args.h.now).world c.requires.build c.requires.kind

-- the new cell
cell_fits : (g : _) (c : After-read_front-rest g) → c.args.run.now.next < c.args.run.now.end → Fits (g.H.Heap.view c.read_front-rest.new.h) c.args.run.now.next (Cons false c.argument-item.result c.read_front-rest.result)
cell_fits g c left =
    let q = c.read_front-rest.ensures.quiet in
    let law = g.met.H.Heap.lawful c.read_front-rest.new.h in
    let f = filling_quiet (filling_start _ _ c.requires.build.held) q in
    let s = (found_base c.requires.build law.world (grows_refl (g.H.Heap.view c.args.h.now).seen) q.grows c.read_front-rest.result c.read_front-rest.ensures.top).stream in
    rw c.argument-item.ensures.same (fits_cons law c.args.run.now.next (f.held.each c.args.run.now.next (omega arith) left) c.args.job.now.arg c.read_front-rest.result c.argument-item.ensures.small (stream_named law.world c.args.run.now.next c.read_front-rest.result.0 s.stream s.low))

pub put-front-requires-clause-fits : goal.put-front-requires-clause-fits
put-front-requires-clause-fits g c =
    let two = cons_places c.args.job.now.base.size c.args.job.now.other.size c.if-job-eq-MOST_ITEMS.false in
    cell_fits g (goal.at.put-front-requires-clause-fits g c).After-read_front-rest (omega (arith, room c.requires.build ops.Cons c.requires.op, two))

-- after the put of the cell
before : (g : _) (c : After-put-front g) → Fits (g.H.Heap.view c.read_front-rest.new.h) c.args.run.now.next (Cons false c.argument-item.result c.read_front-rest.result)
    → BeforeTop (g.H.Heap.view c.args.h.now) (g.H.Heap.view c.put-front.new.self) c.args.run.now c.put-front.new.run c.put-front.result.0 (c.args.job.now.base.size + 1) 0 (an_item c.args.job.now.arg ∷ cells (recs (g.H.Heap.view c.put-front.new.self).seen) c.read_front-rest.result.0)
before g c fits =
    let q = c.read_front-rest.ensures.quiet in
    let r = c.put-front.ensures in
    let law = (g.met.H.Heap.lawful c.put-front.new.self).world in
    let two = cons_places c.args.job.now.base.size c.args.job.now.other.size c.if-job-eq-MOST_ITEMS.false in
    let size = room c.requires.build ops.Cons c.requires.op in
    let s = (found_base c.requires.build law (grows_refl (g.H.Heap.view c.args.h.now).seen) (grows_trans q.grows r.put.grows) c.read_front-rest.result c.read_front-rest.ensures.top).stream in
    let here : recs (g.H.Heap.view c.put-front.new.self).seen c.put-front.result.0 ≡ Some (Cons false c.args.job.now.arg c.read_front-rest.result) = rw (r.place, ← c.argument-item.ensures.same) r.put.here in
    let low : c.put-front.result.0 < c.put-front.new.run.next = rw (r.place, r.run) (omega arith) in
    let most = c.requires.build.base_job.base.most in
    let made = cons_cells law c.put-front.result.0 c.args.job.now.arg c.read_front-rest.result c.args.job.now.base.size c.put-front.new.run.next here s (omega (arith, most, c.if-job-eq-MOST_ITEMS.false)) low in
    let none = gain_none (g.H.Heap.view c.read_front-rest.new.h).seen c.args.run.now.next (Cons false c.argument-item.result c.read_front-rest.result) refl in
    after_put q c.requires.build.held (omega (arith, size, two)) fits r.put r.run (omega (arith, none)) made

-- the run has room for the cell
left : (g : _) (c : After-put-front g) → c.args.run.now.next < c.args.run.now.end
left g c =
    let two = cons_places c.args.job.now.base.size c.args.job.now.other.size c.if-job-eq-MOST_ITEMS.false in
    omega (arith, room c.requires.build ops.Cons c.requires.op, two)

pub put_top-root-requires-clause-stream : goal.put_top-root-requires-clause-stream
put_top-root-requires-clause-stream g c =
    let d = goal.at.put_top-root-requires-clause-stream g c in
    (before g d.After-put-front (cell_fits g d.After-read_front-rest (left g d.After-put-front))).made.stream

pub put_top-root-requires-clause-held : goal.put_top-root-requires-clause-held
put_top-root-requires-clause-held g c =
    let d = goal.at.put_top-root-requires-clause-held g c in
    (before g d.After-put-front (cell_fits g d.After-read_front-rest (left g d.After-put-front))).held

pub returns-clause-built : goal.returns-clause-built
returns-clause-built g c =
    let d = goal.at.returns-clause-built g c in
    let b = before g d.After-put-front (cell_fits g d.After-read_front-rest (left g d.After-put-front)) in
    let p = c.put_top-root.ensures in
    let law = (g.met.H.Heap.lawful c.put-front.new.self).world in
    let f = found_base c.requires.build law (grows_refl (g.H.Heap.view c.args.h.now).seen) (grows_trans c.read_front-rest.ensures.quiet.grows c.put-front.ensures.put.grows) c.read_front-rest.result c.read_front-rest.ensures.top in
    let most = c.requires.build.base_job.base.most in
    let end = cons_end law p.filled.grows.records c.args.job.now c.requires.kind c.read_front-rest.result f.top (record { there = p.root; items = p.items }) c.requires.op (omega (arith, most, c.if-job-eq-MOST_ITEMS.false)) b.made.are in
    rw c.ended.ensures (event_built b p.filled p.spent p.credits (omega arith) c.put_top-root.result (c.args.job.now.base.size + 1) end)
