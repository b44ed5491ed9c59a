use Rattle.std.proofs.Common.{◌≡◌, arith, sym, refl, ◌∙◌}
use Rattle.lazy_rec.specs.declared.records.Sort.TheVariants as sorts
use Rattle.heap_store.specs.World.{recs}
use Rattle.heap_store.proofs.Steps.{filling_start, filling_quiet, filling_put}
use Rattle.heap_store.proofs.WellNamed.{named_sort}
use Rattle.heap_store.proofs.AnyCells.{raise_entry, list_entry, fits_cell}
use Rattle.rt_queue.proofs.Fronts.{rotation_well}
use Rattle.rt_queue.proofs.RotationWork.{Given, given, done_last}
use Rattle.rt_queue.proofs.rotation.build_last.Goals as goal
use Rattle.rt_queue.proofs.rotation.build_last.Goals.{After-list_cell-last}

parts : (g : _) (c : After-list_cell-last g) → Given (g.H.Heap.view c.args.h.now) c.args.run.now c.args.s c.args.of.xs c.args.of.rear c.args.of.acc c.args.of.left c.args.of.off 1
parts g c = given (g.met.H.Heap.lawful c.args.h.now).world c.requires.build c.args.of.xs c.args.of.rear c.args.of.acc c.args.of.left c.args.of.origin c.args.of.off 1 (rw c.requires.none refl) c.requires.rec

pub list_cell-last-requires : goal.list_cell-last-requires
list_cell-last-requires g c =
    let k = rotation_well (g.met.H.Heap.lawful c.args.h.now).world c.args.s.0 _ _ _ _ _ _ c.requires.rec in
    record { list = named_sort (recs (g.H.Heap.view c.args.h.now).seen) c.args.s.0 (c.args.of.rear.0, sorts.List) k.rear_named; some = omega (arith, k.rear_cells) }

pub put-place-requires : goal.put-place-requires
put-place-requires g c =
    let d = goal.at.put-place-requires g c in
    let k = parts g d.After-list_cell-last in
    let q = c.list_cell-last.ensures.quiet in
    let f = filling_quiet (filling_start _ _ c.requires.build.held) q in
    let law = g.met.H.Heap.lawful c.list_cell-last.new.h in
    let well = rotation_well law.world c.args.s.0 c.args.of.xs c.args.of.rear c.args.of.acc c.args.of.left c.args.of.origin c.args.of.off (q.grows.records _ _ c.requires.rec) in
    let e = list_entry law.world c.args.of.rear.0 _ _ _ (q.grows.records _ _ c.list_cell-last.ensures.cell) in
    record {
      held = f.held;
      left = omega (arith, k.size);
      fits = fits_cell law c.args.run.now.next (f.held.each c.args.run.now.next (omega arith) (omega (arith, k.size))) c.list_cell-last.result.child c.list_cell-last.result.value c.args.of.acc
          (raise_entry c.list_cell-last.result.child c.list_cell-last.result.value (omega (arith, well.rear_named.0, k.low)) e)
          (omega (arith, well.acc_named.0, k.low), well.acc_named.1, well.acc_named.2, well.acc_named.3);
    }

pub returns-clause-built : goal.returns-clause-built
returns-clause-built g c =
    let d = goal.at.returns-clause-built g c in
    let k = parts g d.After-list_cell-last in
    let place = c.put-place.ensures in
    let f = filling_put (filling_quiet (filling_start _ _ c.requires.build.held) c.list_cell-last.ensures.quiet) place.put place.run refl in
    let grows = f.filled.grows in
    let e : c.put-place.new.run.next ≡ c.args.run.now.end = rw place.run (omega (arith, k.size)) in
    record {
      filled = rw e at f.filled;
      spent = e ∙ sym f.same_end;
      value = rw place.place (done_last (g.met.H.Heap.lawful c.put-place.new.self).world c.args.s.0 c.args.of.xs c.args.of.rear c.args.of.acc c.args.of.left c.args.of.origin c.args.of.off (grows.records _ _ c.requires.rec) c.requires.none
          c.list_cell-last.result.child c.list_cell-last.result.value c.list_cell-last.result.rest (grows.records _ _ c.list_cell-last.ensures.cell) c.args.run.now.next place.put.here);
      small = omega arith;
      credits = omega (arith, f.credits);
    }
