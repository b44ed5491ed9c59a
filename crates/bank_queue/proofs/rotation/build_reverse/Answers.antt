use Rattle.std.proofs.Common.{◌≡◌, ◌+◌, ◌-◌, suc, arith, false, Some}
use Rattle.lazy_rec.specs.declared.records.Rec.TheVariants.{LCons}
use Rattle.heap_store.specs.World.{recs}
use Rattle.heap_store.proofs.CellLaws.{item_list_cell}
use Rattle.bank_queue.proofs.RotationLaws.{rotation_well}
use Rattle.bank_queue.proofs.Reversals.{reversing_start, reversing_turn, reversing_fits, reversing_put, reversing_end}
use Rattle.bank_queue.proofs.rotation.build_reverse.Goals as goal
use Rattle.bank_queue.proofs.rotation.build_reverse.Goals.{After-list_cell-cell}

pub overflow_add-count : goal.overflow_add-count
overflow_add-count g c = omega (arith, (rotation_well (g.met.H.Heap.lawful c.args.h.now).world c.args.s.0 _ _ _ _ _ c.requires.rec).off_fits)

pub loop-i-init : goal.loop-i-init
loop-i-init g c =
    let e : c.args.of.off + 1 - 0 ≡ c.args.of.off + 1 = omega arith in
    rw e (reversing_start (g.met.H.Heap.lawful c.args.h.now).world c.args.s _ c.args.of.xs c.args.of.rear c.args.of.left c.args.of.origin c.args.of.off c.requires.none c.requires.build c.requires.rec)

pub list_cell-cell-requires : goal.list_cell-cell-requires
list_cell-cell-requires g c = let t = reversing_turn (g.met.H.Heap.lawful c.args.h.now).world c.loop-i.invariant (omega arith) in record { list = t.list; some = t.some }

-- the cell that a turn reads is of an item
cell : (g : _) (c : After-list_cell-cell g) → recs (g.H.Heap.view c.loop-i.h).seen c.loop-i.rest.0 ≡ Some (LCons false c.list_cell-cell.result.value c.list_cell-cell.result.rest)
cell g c = item_list_cell (g.met.H.Heap.lawful c.loop-i.h).world c.loop-i.rest.0 _ _ _ (reversing_turn (g.met.H.Heap.lawful c.args.h.now).world c.loop-i.invariant (omega arith)).items c.list_cell-cell.ensures.cell

pub put-place-requires : goal.put-place-requires
put-place-requires g c =
    let q = c.list_cell-cell.ensures.quiet in
    let t = reversing_fits (g.met.H.Heap.lawful c.args.h.now).world (g.met.H.Heap.lawful c.loop-i.h).world (g.met.H.Heap.lawful c.list_cell-cell.new.h) c.loop-i.place c.list_cell-cell.result.rest c.list_cell-cell.result.value c.loop-i.invariant (omega arith) q (cell g (goal.at.put-place-requires g c).After-list_cell-cell) in
    record { held = rw q.hand c.loop-i.invariant.filling.held; left = t.left; fits = t.fits }

pub loop-i-preserved : goal.loop-i-preserved
loop-i-preserved g c =
    let e : c.args.of.off + 1 - c.loop-i.i ≡ suc (c.args.of.off + 1 - (c.loop-i.i + 1)) = omega arith in
    reversing_put c.loop-i.place c.list_cell-cell.result.rest c.put-place.result _ _ (g.met.H.Heap.lawful c.args.h.now).world (g.met.H.Heap.lawful c.loop-i.h).world (g.met.H.Heap.lawful c.list_cell-cell.new.h) (g.met.H.Heap.lawful c.put-place.new.self).world (rw e at c.loop-i.invariant) c.list_cell-cell.ensures.quiet (cell g (goal.at.loop-i-preserved g c).After-list_cell-cell) c.put-place.ensures.put c.put-place.ensures.run c.put-place.ensures.place

pub returns : goal.returns
returns g c =
    let e : c.args.of.off + 1 - c.loop-i.i ≡ 0 = omega arith in
    reversing_end c.args.s c.args.of.xs c.args.of.rear c.args.of.left c.args.of.origin c.args.of.off (g.met.H.Heap.lawful c.args.h.now).world (g.met.H.Heap.lawful c.loop-i.h).world c.requires.none (rw e at c.loop-i.invariant) c.requires.rec
