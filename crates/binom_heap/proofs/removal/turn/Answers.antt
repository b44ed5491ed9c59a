use Rattle.std.proofs.Common.{refl}
use Rattle.binom_heap.proofs.PutAgain.{turn_quiet, turn_cell, turn_lower, turning_first, turning_next, turning_end}
use Rattle.binom_heap.proofs.removal.turn.Goals as goal

pub loop-first-init : goal.loop-first-init
loop-first-init g c = turning_first c.requires

pub tree_cell-requires : goal.tree_cell-requires
tree_cell-requires g c = c.loop-first.invariant.asks.list_is.trees

pub put_cell-turned-requires : goal.put_cell-turned-requires
put_cell-turned-requires g c =
    let q = c.tree_cell.ensures.quiet in
    turn_cell (g.met.H.Heap.lawful c.tree_cell.new.h).world c.loop-first.run c.loop-first.rest.0 c.loop-first.turned.0 (turn_quiet (g.met.H.Heap.lawful c.loop-first.h).world q c.loop-first.invariant.asks) c.in-Some.first.tree c.in-Some.first.rest (q.grows.records _ _ c.in-Some.ensures.some)

pub loop-first-smaller : goal.loop-first-smaller
loop-first-smaller g c = turn_lower (g.met.H.Heap.lawful c.loop-first.h).world c.loop-first.run c.loop-first.rest.0 c.loop-first.turned.0 c.loop-first.invariant.asks c.in-Some.first.tree c.in-Some.first.rest c.in-Some.ensures.some

pub loop-first-preserved : goal.loop-first-preserved
loop-first-preserved g c = turning_next c.loop-first.invariant (g.met.H.Heap.lawful c.loop-first.h).world c.tree_cell.ensures.quiet (g.met.H.Heap.lawful c.tree_cell.new.h).world c.in-Some.first.tree c.in-Some.first.rest c.in-Some.ensures.some c.put_cell-turned.ensures

pub returns : goal.returns
returns g c = turning_end c.loop-first.invariant (g.met.H.Heap.lawful c.loop-first.h).world c.tree_cell.ensures.quiet (c.in_default.ensures.none refl)
