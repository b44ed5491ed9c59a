use Rattle.std.proofs.Common.{◌≡◌, ◌+◌, ◌<◌, suc, arith}
use Rattle.lazy_stream.proofs.ReversalWork.{Given, given, Turn, reversing_start, reversing_turn, reversing_fits, reversing_put, reversing_end}
use Rattle.lazy_stream.proofs.reversal.build_reversal.Goals as goal
use Rattle.lazy_stream.proofs.reversal.build_reversal.Goals.{In-loop-i}

pub loop-i-init : goal.loop-i-init
loop-i-init g c = reversing_start (g.met.H.Heap.lawful c.args.h.now).world c.args.s c.args.run.now c.args.of.xs c.requires.build

start : (g : _) (c : In-loop-i g) → Given (g.H.Heap.view c.args.h.now) c.args.run.now c.args.s c.args.of.xs c.args.of.left
start g c = given (g.met.H.Heap.lawful c.args.h.now) c.requires.build c.args.of.xs c.args.of.left c.requires.rec

turn : (g : _) (c : In-loop-i g) → c.loop-i.i < c.args.of.left → Turn (g.H.Heap.view c.args.h.now) (g.H.Heap.view c.loop-i.h) c.loop-i.rest.0
turn g c low = reversing_turn {xs = c.args.of.xs} {s = c.args.s} (g.met.H.Heap.lawful c.args.h.now).world c.requires.rec (start g c) c.loop-i.invariant low

pub first_cell-cell-requires : goal.first_cell-cell-requires
first_cell-cell-requires g c = let t = turn g (goal.at.first_cell-cell-requires g c).In-loop-i (omega arith) in record { stream = t.stream; known = t.known_now; some = t.some }

pub put-place-requires : goal.put-place-requires
put-place-requires g c =
    let d = (goal.at.put-place-requires g c).In-loop-i in
    let q = c.first_cell-cell.ensures.quiet in
    let t = reversing_fits {s = c.args.s} {first = c.args.of.xs} (g.met.H.Heap.lawful c.args.h.now).world (g.met.H.Heap.lawful c.loop-i.h).world (g.met.H.Heap.lawful c.first_cell-cell.new.h) c.loop-i.place c.first_cell-cell.result.rest c.first_cell-cell.result.child c.first_cell-cell.result.value (start g d) (omega arith) c.loop-i.invariant (turn g d (omega arith)) q c.first_cell-cell.ensures.cell in
    record { held = rw q.hand c.loop-i.invariant.filling.held; left = t.left; fits = t.fits }

pub loop-i-preserved : goal.loop-i-preserved
loop-i-preserved g c =
    let d = (goal.at.loop-i-preserved g c).In-loop-i in
    let e : c.loop-i.i + 1 ≡ suc c.loop-i.i = omega arith in
    rw e (reversing_put c.loop-i.place c.first_cell-cell.result.rest c.put-place.result c.first_cell-cell.result.child c.first_cell-cell.result.value (g.met.H.Heap.lawful c.args.h.now).world (g.met.H.Heap.lawful c.loop-i.h).world (g.met.H.Heap.lawful c.put-place.new.self).world c.loop-i.invariant (turn g d (omega arith)) c.first_cell-cell.ensures.quiet c.first_cell-cell.ensures.cell c.put-place.ensures.put c.put-place.ensures.run c.put-place.ensures.place)

pub returns : goal.returns
returns g c = reversing_end {s = c.args.s} {xs = c.args.of.xs} (g.met.H.Heap.lawful c.args.h.now).world (g.met.H.Heap.lawful c.loop-i.h).world c.requires.rec (given (g.met.H.Heap.lawful c.args.h.now) c.requires.build c.args.of.xs c.args.of.left c.requires.rec) c.loop-i.invariant (omega arith)
