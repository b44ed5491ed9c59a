use Rattle.std.proofs.Common.{◌≡◌, ◌+◌, ◌-◌, ◌<◌, ◌≤◌, arith, sym, refl, ◌∙◌}
use Rattle.lazy_rec.specs.declared.records.Rec.TheVariants.{RtRot}
use Rattle.lazy_rec.specs.declared.records.Sort.TheVariants as sorts
use Rattle.heap_store.specs.World.{recs}
use Rattle.heap_store.specs.Jobs.{IsUnpassed}
use Rattle.heap_store.proofs.GrowthLaws.{grows_trans, value_up}
use Rattle.heap_store.proofs.Steps.{Quiet_trans, IsFilling, filling_start, filling_quiet, filling_put, newest_unpassed, unpassed_quiet, unpassed_put}
use Rattle.heap_store.proofs.WellNamed.{named_sort}
use Rattle.heap_store.proofs.AnyCells.{CellBelow, raise_entry, list_entry, cons_entry, fits_cell}
use Rattle.rt_queue.proofs.Fronts.{rotation_well, rotation_most}
use Rattle.rt_queue.proofs.RotationLaws.{Turned, turned_up, fits_next}
use Rattle.rt_queue.proofs.RotationWork.{three, front_known, Given, given, given_cell, done_next}
use Rattle.rt_queue.proofs.rotation.build_next.Goals as goal
use Rattle.rt_queue.proofs.rotation.build_next.Goals.{After-list_cell-last, After-put-turned, After-put-next}

pub first_cell-first-requires : goal.first_cell-first-requires
first_cell-first-requires g c =
    let law = (g.met.H.Heap.lawful c.args.h.now).world in
    let k = rotation_well law c.args.s.0 _ _ _ _ _ _ c.requires.rec in
    record {
      stream = named_sort (recs (g.H.Heap.view c.args.h.now).seen) c.args.s.0 (c.args.of.xs.0, sorts.Stream) k.xs_named;
      known = front_known law c.args.s.0 c.args.of.xs c.args.of.rear c.args.of.acc c.args.of.left c.args.of.origin c.args.of.off c.requires.rec c.requires.left;
      some = omega (arith, k.xs_cells, c.requires.left);
    }

pub list_cell-last-requires : goal.list_cell-last-requires
list_cell-last-requires g c =
    let k = rotation_well (g.met.H.Heap.lawful c.first_cell-first.new.h).world c.args.s.0 _ _ _ _ _ _ (c.first_cell-first.ensures.quiet.grows.records _ _ c.requires.rec) in
    record { list = named_sort (recs (g.H.Heap.view c.first_cell-first.new.h).seen) c.args.s.0 (c.args.of.rear.0, sorts.List) k.rear_named; some = omega (arith, k.rear_cells) }

-- what the build is given
parts : (g : _) (c : After-list_cell-last g) → Given (g.H.Heap.view c.args.h.now) c.args.run.now c.args.s c.args.of.xs c.args.of.rear c.args.of.acc c.args.of.left c.args.of.off 3
parts g c = given (g.met.H.Heap.lawful c.args.h.now).world c.requires.build c.args.of.xs c.args.of.rear c.args.of.acc c.args.of.left c.args.of.origin c.args.of.off 3 (three c.args.of.left c.requires.left) c.requires.rec

below : (g : _) (c : After-list_cell-last g) → CellBelow (g.H.Heap.view c.args.h.now).seen c.args.run.now.next c.first_cell-first.result.child c.first_cell-first.result.value c.first_cell-first.result.rest
below g c = given_cell c.requires.build c.args.of.xs c.args.of.rear c.args.of.acc c.args.of.left c.args.of.origin c.args.of.off c.requires.left c.requires.rec _ _ _ c.first_cell-first.ensures.cell

-- both cells are read
reading : (g : _) (c : After-list_cell-last g) → IsFilling (g.H.Heap.view c.args.h.now) (g.H.Heap.view c.list_cell-last.new.h) c.args.run.now c.args.run.now 0
reading g c = filling_quiet (filling_quiet (filling_start _ _ c.requires.build.held) c.first_cell-first.ensures.quiet) c.list_cell-last.ensures.quiet

pub put-turned-requires : goal.put-turned-requires
put-turned-requires g c =
    let d = (goal.at.put-turned-requires g c).After-list_cell-last in
    let k = parts g d in
    let f = reading g d in
    let law = g.met.H.Heap.lawful c.list_cell-last.new.h in
    let well = rotation_well law.world c.args.s.0 c.args.of.xs c.args.of.rear c.args.of.acc c.args.of.left c.args.of.origin c.args.of.off (f.filled.grows.records _ _ c.requires.rec) in
    let e = list_entry law.world c.args.of.rear.0 _ _ _ (c.list_cell-last.ensures.quiet.grows.records _ _ c.list_cell-last.ensures.cell) in
    record {
      held = f.held;
      left = omega (arith, k.size);
      fits = fits_cell law c.args.run.now.next (f.held.each c.args.run.now.next (omega arith) (omega (arith, k.size))) c.list_cell-last.result.child c.list_cell-last.result.value c.args.of.acc
          (raise_entry c.list_cell-last.result.child c.list_cell-last.result.value (omega (arith, well.rear_named.0, k.low)) e)
          (omega (arith, well.acc_named.0, k.low), well.acc_named.1, well.acc_named.2, well.acc_named.3);
    }

pub overflow_add-of : goal.overflow_add-of
overflow_add-of g c =
    let k = rotation_well (g.met.H.Heap.lawful c.args.h.now).world c.args.s.0 _ _ _ _ _ _ c.requires.rec in
    let m = rotation_most (g.met.H.Heap.lawful c.args.h.now).world c.args.s.0 c.args.of.xs c.args.of.rear c.args.of.acc c.args.of.left c.args.of.off k in
    omega (arith, m.acc_most)

-- the last cell of the rear is turned round
turning : (g : _) (c : After-put-turned g) → IsFilling (g.H.Heap.view c.args.h.now) (g.H.Heap.view c.put-turned.new.self) c.args.run.now c.put-turned.new.run 0
turning g c = filling_put (filling_quiet (filling_quiet (filling_start _ _ c.requires.build.held) c.first_cell-first.ensures.quiet) c.list_cell-last.ensures.quiet) c.put-turned.ensures.put c.put-turned.ensures.run refl

turned : (g : _) (c : After-put-turned g) → Turned (g.H.Heap.view c.put-turned.new.self).seen c.args.of.xs c.args.of.rear c.args.of.acc c.first_cell-first.result.child c.first_cell-first.result.value c.first_cell-first.result.rest c.list_cell-last.result.rest c.put-turned.result
turned g c =
    let q1 = c.first_cell-first.ensures.quiet in
    let q2 = c.list_cell-last.ensures.quiet in
    let put = c.put-turned.ensures in
    record {
      first = value_up _ _ put.put.grows c.args.of.xs.0 _ (value_up _ _ q2.grows c.args.of.xs.0 _ (value_up _ _ q1.grows c.args.of.xs.0 _ c.first_cell-first.ensures.cell));
      child = c.list_cell-last.result.child;
      value = c.list_cell-last.result.value;
      last = put.put.grows.records _ _ (q2.grows.records _ _ c.list_cell-last.ensures.cell);
      put = rw put.place put.put.here;
    }

unpassed : (g : _) (c : After-put-turned g) → IsUnpassed c.args.s (g.H.Heap.view c.put-turned.new.self).hand.claims
unpassed g c =
    let q = Quiet_trans c.first_cell-first.ensures.quiet c.list_cell-last.ensures.quiet in
    unpassed_put c.put-turned.ensures.put refl c.args.s (unpassed_quiet q c.args.s (newest_unpassed c.args.s _ c.requires.build.newest))

pub put-next-requires : goal.put-next-requires
put-next-requires g c =
    let d = goal.at.put-next-requires g c in
    let k = parts g d.After-list_cell-last in
    let b = below g d.After-list_cell-last in
    let f = turning g d.After-put-turned in
    let acc = c.put-turned.ensures in
    let law = g.met.H.Heap.lawful c.put-turned.new.self in
    let left : c.put-turned.new.run.next < c.put-turned.new.run.end = rw acc.run (omega (arith, k.size)) in
    record {
      held = f.held;
      left = left;
      fits = fits_next law c.put-turned.new.run.next (f.held.each c.put-turned.new.run.next (omega arith) left)
          c.args.s c.args.of.xs c.args.of.rear c.args.of.acc c.args.of.left c.args.of.origin c.args.of.off (f.filled.grows.records _ _ c.requires.rec) c.requires.left
          (rw acc.run (omega (arith, k.low))) (unpassed g d.After-put-turned) c.first_cell-first.result.child c.first_cell-first.result.value c.first_cell-first.result.rest c.list_cell-last.result.rest c.put-turned.result (turned g d.After-put-turned)
          (rw acc.run (omega (arith, b.rest_low, b.low))) (rw (acc.run, acc.place) (omega arith));
    }

-- the next rotation is put
filling : (g : _) (c : After-put-next g) → IsFilling (g.H.Heap.view c.args.h.now) (g.H.Heap.view c.put-next.new.self) c.args.run.now c.put-next.new.run 0
filling g c = filling_put (filling_put (filling_quiet (filling_quiet (filling_start _ _ c.requires.build.held) c.first_cell-first.ensures.quiet) c.list_cell-last.ensures.quiet) c.put-turned.ensures.put c.put-turned.ensures.run refl) c.put-next.ensures.put c.put-next.ensures.run refl

pub put-place-requires : goal.put-place-requires
put-place-requires g c =
    let d = goal.at.put-place-requires g c in
    let k = parts g d.After-list_cell-last in
    let b = below g d.After-list_cell-last in
    let f = filling g d.After-put-next in
    let next = c.put-next.ensures in
    let run = next.run in
    let before = c.put-turned.ensures.run in
    let law = g.met.H.Heap.lawful c.put-next.new.self in
    let left : c.put-next.new.run.next < c.put-next.new.run.end = rw (run, before) (omega (arith, k.size)) in
    let high : c.args.run.now.next ≤ c.put-next.new.run.next = rw (run, before) (omega arith) in
    record {
      held = f.held;
      left = left;
      fits = fits_cell law c.put-next.new.run.next (f.held.each c.put-next.new.run.next (omega arith) left) c.first_cell-first.result.child c.first_cell-first.result.value c.put-next.result
          (raise_entry c.first_cell-first.result.child c.first_cell-first.result.value (omega (arith, b.low, high)) (cons_entry law.world b.place _ _ _ (f.filled.grows.records _ _ b.here)))
          (rw (run, next.place) (omega arith, RtRot c.first_cell-first.result.rest c.list_cell-last.result.rest c.put-turned.result (c.args.of.left - 1) c.args.of.origin (c.args.of.off + 1), next.put.here, refl));
    }

pub returns-clause-built : goal.returns-clause-built
returns-clause-built g c =
    let d = goal.at.returns-clause-built g c in
    let k = parts g d.After-list_cell-last in
    let t = turned g d.After-put-turned in
    let next = c.put-next.ensures in
    let place = c.put-place.ensures in
    let f = filling_put (filling g d.After-put-next) place.put place.run refl in
    let law = (g.met.H.Heap.lawful c.put-place.new.self).world in
    let e : c.put-place.new.run.next ≡ c.args.run.now.end = rw (place.run, next.run, c.put-turned.ensures.run) (omega (arith, k.size)) in
    record {
      filled = rw e at f.filled;
      spent = e ∙ sym f.same_end;
      value = rw place.place (done_next law c.args.s.0 c.args.of.xs c.args.of.rear c.args.of.acc c.args.of.left c.args.of.origin c.args.of.off (f.filled.grows.records _ _ c.requires.rec) c.requires.left
          c.first_cell-first.result.child c.first_cell-first.result.value c.first_cell-first.result.rest c.list_cell-last.result.rest c.put-turned.result (turned_up (grows_trans next.put.grows place.put.grows) t) c.put-next.result c.put-next.new.run.next (rw next.place (place.put.grows.records _ _ next.put.here)) place.put.here);
      small = omega arith;
      credits = omega (arith, f.credits);
    }
