use Rattle.std.proofs.Common.{◌≡◌, ◌+◌, ◌-◌, ◌<◌, refl, arith, sym, ◌∙◌, false, Some}
use Rattle.lazy_rec.specs.declared.records.Rec.TheVariants.{Cons, Append}
use Rattle.heap_store.specs.World.{value_at}
use Rattle.heap_store.proofs.GrowthLaws.{value_up, is_value_up}
use Rattle.heap_store.proofs.Steps.{IsFilling, filling_start, filling_quiet, filling_put}
use Rattle.heap_store.proofs.CellLaws.{first_cell, item_cell}
use Rattle.heap_store.proofs.PutLaws.{fits_cons}
use Rattle.lazy_stream.proofs.Streams.{stream_part}
use Rattle.lazy_stream.proofs.Appends.{append_most, fits_next}
use Rattle.lazy_stream.proofs.AppendFamilies.{later_shows_none}
use Rattle.lazy_stream.proofs.AppendWork.{Given, given, done_next, two_places}
use Rattle.lazy_stream.proofs.append.build_next.Goals as goal
use Rattle.lazy_stream.proofs.append.build_next.Goals.{After-put-next, After-first_cell-cell}

pub first_cell-cell-requires : goal.first_cell-cell-requires
first_cell-cell-requires g c =
    let law = (g.met.H.Heap.lawful c.args.h.now).world in
    let k = given law c.requires.build _ _ _ _ _ 2 (two_places c.args.of.left c.requires.more) c.requires.rec in
    record { stream = stream_part law c.args.of.xs.0 k.well.xs_stream; known = k.known; some = omega (arith, k.well.xs_cells, k.well.some) }

pub overflow_add-of : goal.overflow_add-of
overflow_add-of g c = omega (arith, append_most (g.met.H.Heap.lawful c.args.h.now).world c.args.s.0 _ _ _ _ _ c.requires.rec)

start : (g : _) (c : After-first_cell-cell g) → Given (g.H.Heap.view c.args.h.now) c.args.run.now c.args.s c.args.of.xs c.args.of.ys c.args.of.left c.args.of.origin c.args.of.off 2
start g c = given (g.met.H.Heap.lawful c.args.h.now).world c.requires.build _ _ _ _ _ 2 (two_places c.args.of.left c.requires.more) c.requires.rec

-- the first cell, in the world in which the build began
cell : (g : _) (c : After-first_cell-cell g) → value_at (g.H.Heap.view c.args.h.now).seen c.args.of.xs.0 ≡ Some (Cons false c.first_cell-cell.result.value c.first_cell-cell.result.rest)
cell g c = item_cell (g.met.H.Heap.lawful c.args.h.now).world c.args.of.xs.0 _ _ _ (start g c).well.xs_items c.first_cell-cell.ensures.cell

pub put-next-requires : goal.put-next-requires
put-next-requires g c =
    let d = (goal.at.put-next-requires g c).After-first_cell-cell in
    let k = start g d in
    let q = c.first_cell-cell.ensures.quiet in
    let f = filling_quiet (filling_start _ _ c.requires.build.held) q in
    record {
      held = f.held;
      left = omega (arith, k.size);
      fits = fits_next (g.met.H.Heap.lawful c.first_cell-cell.new.h) c.args.run.now.next (f.held.each c.args.run.now.next (omega arith) (omega (arith, k.size)))
          c.args.s c.args.of.xs c.args.of.ys c.args.of.left c.args.of.origin c.args.of.off (q.grows.records _ _ c.requires.rec) c.requires.more
          c.first_cell-cell.result.value c.first_cell-cell.result.rest (value_up _ _ q.grows c.args.of.xs.0 _ (cell g d))
          k.low (k.rest_low _ _ (cell g d)) (rw q.hand c.requires.build.newest);
    }

-- after the first put
filling : (g : _) (c : After-put-next g) → IsFilling (g.H.Heap.view c.args.h.now) (g.H.Heap.view c.put-next.new.self) c.args.run.now c.put-next.new.run 0
filling g c = filling_put (filling_quiet (filling_start _ _ c.requires.build.held) c.first_cell-cell.ensures.quiet) c.put-next.ensures.put c.put-next.ensures.run
    (later_shows_none (g.H.Heap.view c.first_cell-cell.new.h).seen c.args.run.now.next c.first_cell-cell.result.rest c.args.of.ys (c.args.of.left - 1) c.args.of.origin c.args.of.off)

pub put-place-requires : goal.put-place-requires
put-place-requires g c =
    let d = goal.at.put-place-requires g c in
    let k = start g d.After-first_cell-cell in
    let f = filling g d.After-put-next in
    let next = c.put-next.ensures in
    let run = next.run in
    let law = g.met.H.Heap.lawful c.put-next.new.self in
    let first = first_cell (g.met.H.Heap.lawful c.args.h.now).world c.args.of.xs.0 _ _ _ c.first_cell-cell.ensures.cell in
    let left : c.put-next.new.run.next < c.put-next.new.run.end = rw run (omega (arith, k.size)) in
    record {
      held = f.held;
      left = left;
      fits = fits_cons law c.put-next.new.run.next (f.held.each c.put-next.new.run.next (omega arith) left) c.first_cell-cell.result.value c.put-next.result first.fits.value
          (rw (run, next.place) (omega arith, Append c.first_cell-cell.result.rest c.args.of.ys (c.args.of.left - 1) c.args.of.origin (c.args.of.off + 1), next.put.here, refl));
    }

pub returns : goal.returns
returns g c =
    let d = goal.at.returns g c in
    let k = start g d.After-first_cell-cell in
    let next = c.put-next.ensures in
    let place = c.put-place.ensures in
    let f = filling_put (filling g d.After-put-next) place.put place.run refl in
    let law = (g.met.H.Heap.lawful c.put-place.new.self).world in
    let grows = f.filled.grows in
    let e : c.put-place.new.run.next ≡ c.args.run.now.end = rw (place.run, next.run) (omega (arith, k.size)) in
    record {
      filled = rw e at f.filled;
      spent = e ∙ sym f.same_end;
      value = rw place.place (done_next law c.args.s.0 c.put-next.new.run.next c.args.of.xs c.args.of.ys c.args.of.left c.args.of.origin c.args.of.off c.first_cell-cell.result.value c.first_cell-cell.result.rest c.put-next.result c.requires.more
          (grows.records _ _ c.requires.rec) (is_value_up _ _ grows c.args.of.xs.0 k.known) (value_up _ _ grows c.args.of.xs.0 _ (cell g d.After-first_cell-cell)) (rw next.place (place.put.grows.records _ _ next.put.here)) place.put.here);
      small = omega arith;
      credits = omega (arith, f.credits);
    }
