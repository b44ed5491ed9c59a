use Rattle.std.proofs.Common.{◌≡◌, ◌+◌, ◌-◌, ◌<◌, refl, arith, sym, ◌∙◌, false, Some}
use Rattle.lazy_rec.specs.declared.records.Rec.TheVariants.{Cons, BankRot}
use Rattle.lazy_rec.specs.declared.records.Sort.TheVariants as sorts
use Rattle.heap_store.specs.World.{recs, value_at}
use Rattle.heap_store.proofs.GrowthLaws.{value_up, is_value_up}
use Rattle.heap_store.proofs.Steps.{IsFilling, filling_start, filling_quiet, filling_put}
use Rattle.heap_store.proofs.WellNamed.{named_sort}
use Rattle.heap_store.proofs.CellLaws.{first_cell, item_cell}
use Rattle.heap_store.proofs.PutLaws.{fits_cons}
use Rattle.bank_queue.proofs.RotationLaws.{fits_next}
use Rattle.bank_queue.proofs.PaidFronts.{next_paid}
use Rattle.bank_queue.proofs.RotationWork.{given_next, done_next}
use Rattle.bank_queue.proofs.rotation.build_next.Goals as goal
use Rattle.bank_queue.proofs.rotation.build_next.Goals.{After-put-next, After-first_cell-cell}

pub first_cell-cell-requires : goal.first_cell-cell-requires
first_cell-cell-requires g c =
    let k = given_next (g.met.H.Heap.lawful c.args.h.now).world c.requires.build _ _ _ _ _ c.requires.left c.requires.rec in
    record { stream = named_sort (recs (g.H.Heap.view c.args.h.now).seen) c.args.s.0 (c.args.of.xs.0, sorts.Stream) k.well.xs_named; known = k.known; some = omega (arith, k.well.xs_cells, c.requires.left) }

pub overflow_add-of : goal.overflow_add-of
overflow_add-of g c =
    let k = given_next (g.met.H.Heap.lawful c.args.h.now).world c.requires.build _ _ _ _ _ c.requires.left c.requires.rec in
    omega (arith, k.well.off_fits)

-- the first cell, in the world in which the build began
cell : (g : _) (c : After-first_cell-cell g) → value_at (g.H.Heap.view c.args.h.now).seen c.args.of.xs.0 ≡ Some (Cons false c.first_cell-cell.result.value c.first_cell-cell.result.rest)
cell g c =
    let k = given_next (g.met.H.Heap.lawful c.args.h.now).world c.requires.build _ _ _ _ _ c.requires.left c.requires.rec in
    item_cell (g.met.H.Heap.lawful c.args.h.now).world c.args.of.xs.0 _ _ _ k.well.xs_items c.first_cell-cell.ensures.cell

pub put-next-requires : goal.put-next-requires
put-next-requires g c =
    let k = given_next (g.met.H.Heap.lawful c.args.h.now).world c.requires.build _ _ _ _ _ c.requires.left c.requires.rec in
    let q = c.first_cell-cell.ensures.quiet in
    let first = cell g (goal.at.put-next-requires g c).After-first_cell-cell in
    let f = filling_quiet (filling_start _ _ c.requires.build.held) q in
    record {
      held = f.held;
      left = omega (arith, k.given.size);
      fits = fits_next (g.met.H.Heap.lawful c.first_cell-cell.new.h) c.args.run.now.next (f.held.each c.args.run.now.next (omega arith) (omega (arith, k.given.size)))
          c.args.s c.args.of.xs c.args.of.rear c.args.of.left c.args.of.origin c.args.of.off (q.grows.records _ _ c.requires.rec) c.requires.left
          c.first_cell-cell.result.value c.first_cell-cell.result.rest (value_up _ _ q.grows c.args.of.xs.0 _ first)
          k.given.low (k.rest_low _ _ first) (rw q.hand c.requires.build.newest)
          (next_paid (g.met.H.Heap.lawful c.first_cell-cell.new.h).world (g.met.H.Heap.lawful c.first_cell-cell.new.h).funded.settled c.args.s.0 c.args.of.xs c.args.of.rear c.args.of.left c.args.of.origin c.args.of.off (q.grows.records _ _ c.requires.rec) _ _ (value_up _ _ q.grows c.args.of.xs.0 _ first));
    }

-- after the first put
filling : (g : _) (c : After-put-next g) → IsFilling (g.H.Heap.view c.args.h.now) (g.H.Heap.view c.put-next.new.self) c.args.run.now c.put-next.new.run 0
filling g c = filling_put (filling_quiet (filling_start _ _ c.requires.build.held) c.first_cell-cell.ensures.quiet) c.put-next.ensures.put c.put-next.ensures.run refl

pub put-place-requires : goal.put-place-requires
put-place-requires g c =
    let d = goal.at.put-place-requires g c in
    let k = given_next (g.met.H.Heap.lawful c.args.h.now).world c.requires.build _ _ _ _ _ c.requires.left c.requires.rec in
    let f = filling g d.After-put-next in
    let next = c.put-next.ensures in
    let run = next.run in
    let law = g.met.H.Heap.lawful c.put-next.new.self in
    let first = first_cell (g.met.H.Heap.lawful c.args.h.now).world c.args.of.xs.0 _ _ _ c.first_cell-cell.ensures.cell in
    let left : c.put-next.new.run.next < c.put-next.new.run.end = rw run (omega (arith, k.given.size)) in
    record {
      held = f.held;
      left = left;
      fits = fits_cons law c.put-next.new.run.next (f.held.each c.put-next.new.run.next (omega arith) left) c.first_cell-cell.result.value c.put-next.result first.fits.value
          (rw (run, next.place) (omega arith, BankRot c.first_cell-cell.result.rest c.args.of.rear (c.args.of.left - 1) c.args.of.origin (c.args.of.off + 1), next.put.here, refl));
    }

pub returns : goal.returns
returns g c =
    let d = goal.at.returns g c in
    let k = given_next (g.met.H.Heap.lawful c.args.h.now).world c.requires.build _ _ _ _ _ c.requires.left c.requires.rec in
    let next = c.put-next.ensures in
    let place = c.put-place.ensures in
    let f = filling_put (filling g d.After-put-next) place.put place.run refl in
    let law = (g.met.H.Heap.lawful c.put-place.new.self).world in
    let grows = f.filled.grows in
    let e : c.put-place.new.run.next ≡ c.args.run.now.end = rw (place.run, next.run) (omega (arith, k.given.size)) in
    record {
      filled = rw e at f.filled;
      spent = e ∙ sym f.same_end;
      value = rw place.place (done_next law c.args.s.0 c.put-next.new.run.next c.args.of.xs c.args.of.rear c.args.of.left c.args.of.origin c.args.of.off c.first_cell-cell.result.value c.first_cell-cell.result.rest c.put-next.result c.requires.left
          (grows.records _ _ c.requires.rec) (is_value_up _ _ grows c.args.of.xs.0 k.known) (value_up _ _ grows c.args.of.xs.0 _ (cell g d.After-first_cell-cell)) (rw next.place (place.put.grows.records _ _ next.put.here)) place.put.here);
      small = omega arith;
      credits = omega (arith, f.credits);
    }
