use Rattle.std.proofs.Common.{◌≡◌, refl, arith, sym, ◌∙◌, false, Some}
use Rattle.lazy_rec.specs.declared.records.Rec.TheVariants.{Cons}
use Rattle.heap_store.specs.World.{value_at}
use Rattle.heap_store.proofs.GrowthLaws.{value_up, is_value_up}
use Rattle.heap_store.proofs.Steps.{filling_start, filling_quiet, filling_put}
use Rattle.heap_store.proofs.CellLaws.{first_cell, item_cell}
use Rattle.heap_store.proofs.PutLaws.{fits_cons}
use Rattle.lazy_stream.proofs.Streams.{stream_part, stream_named}
use Rattle.lazy_stream.proofs.Appends.{append_well}
use Rattle.lazy_stream.proofs.AppendWork.{Given, given, done_last, one_place}
use Rattle.lazy_stream.proofs.append.build_last.Goals as goal
use Rattle.lazy_stream.proofs.append.build_last.Goals.{After-first_cell-cell}

pub first_cell-cell-requires : goal.first_cell-cell-requires
first_cell-cell-requires g c =
    let law = (g.met.H.Heap.lawful c.args.h.now).world in
    let k = given law c.requires.build _ _ _ _ _ 1 (one_place c.args.of.left c.requires.last) c.requires.rec in
    record { stream = stream_part law c.args.of.xs.0 k.well.xs_stream; known = k.known; some = omega (arith, k.well.xs_cells, k.well.some) }

start : (g : _) (c : After-first_cell-cell g) → Given (g.H.Heap.view c.args.h.now) c.args.run.now c.args.s c.args.of.xs c.args.of.ys c.args.of.left c.args.of.origin c.args.of.off 1
start g c = given (g.met.H.Heap.lawful c.args.h.now).world c.requires.build _ _ _ _ _ 1 (one_place c.args.of.left c.requires.last) c.requires.rec

-- the first cell, in the world in which the build began
cell : (g : _) (c : After-first_cell-cell g) → value_at (g.H.Heap.view c.args.h.now).seen c.args.of.xs.0 ≡ Some (Cons false c.first_cell-cell.result.value c.first_cell-cell.result.rest)
cell g c = item_cell (g.met.H.Heap.lawful c.args.h.now).world c.args.of.xs.0 _ _ _ (start g c).well.xs_items c.first_cell-cell.ensures.cell

pub put-place-requires : goal.put-place-requires
put-place-requires g c =
    let k = start g (goal.at.put-place-requires g c).After-first_cell-cell in
    let q = c.first_cell-cell.ensures.quiet in
    let f = filling_quiet (filling_start _ _ c.requires.build.held) q in
    let law = g.met.H.Heap.lawful c.first_cell-cell.new.h in
    let m = append_well law.world c.args.s.0 _ _ _ _ _ (q.grows.records _ _ c.requires.rec) in
    let first = first_cell (g.met.H.Heap.lawful c.args.h.now).world c.args.of.xs.0 _ _ _ c.first_cell-cell.ensures.cell in
    record {
      held = f.held;
      left = omega (arith, k.size);
      fits = fits_cons law c.args.run.now.next (f.held.each c.args.run.now.next (omega arith) (omega (arith, k.size))) c.first_cell-cell.result.value c.args.of.ys first.fits.value
          (stream_named law.world c.args.run.now.next c.args.of.ys.0 m.ys_stream (omega (arith, m.ys_named.0, k.low)));
    }

pub returns : goal.returns
returns g c =
    let d = (goal.at.returns g c).After-first_cell-cell in
    let k = start g d in
    let place = c.put-place.ensures in
    let f = filling_put (filling_quiet (filling_start _ _ c.requires.build.held) c.first_cell-cell.ensures.quiet) place.put place.run refl in
    let law = (g.met.H.Heap.lawful c.put-place.new.self).world in
    let grows = f.filled.grows in
    let e : c.put-place.new.run.next ≡ c.args.run.now.end = rw place.run (omega (arith, k.size)) in
    record {
      filled = rw e at f.filled;
      spent = e ∙ sym f.same_end;
      value = rw place.place (done_last law c.args.s.0 c.args.run.now.next c.args.of.xs c.args.of.ys c.args.of.left c.args.of.origin c.args.of.off c.first_cell-cell.result.value c.first_cell-cell.result.rest c.requires.last
          (grows.records _ _ c.requires.rec) (is_value_up _ _ grows c.args.of.xs.0 k.known) (value_up _ _ grows c.args.of.xs.0 _ (cell g d)) place.put.here);
      small = omega arith;
      credits = omega (arith, f.credits);
    }
