use Rattle.std.proofs.Common.{refl}
use Rattle.binom_heap.proofs.FirstTrees.{first_up, first_is}
use Rattle.binom_heap.proofs.Inserting.{ask_quiet, insert_cell, insert_link, inserting_next, inserting_end}
use Rattle.binom_heap.proofs.trees.insert_tree.Goals as goal

pub link-sum-requires : goal.link-sum-requires
link-sum-requires g c =
    let q = c.first_of_rank.ensures.quiet in
    insert_link (g.met.H.Heap.lawful c.first_of_rank.new.h).world (ask_quiet (g.met.H.Heap.lawful c.loop-first.h).world q c.loop-first.invariant.asks) (first_up q.grows c.in-Some.ensures.some) c.in-Some.ensures.rank

pub loop-first-smaller : goal.loop-first-smaller
loop-first-smaller g c = (first_is (g.met.H.Heap.lawful c.loop-first.h).world c.loop-first.rest.0 c.in-Some.first c.loop-first.invariant.asks.list_is.trees c.in-Some.ensures.some).rest_low

pub loop-first-preserved : goal.loop-first-preserved
loop-first-preserved g c = inserting_next c.loop-first.invariant (g.met.H.Heap.lawful c.loop-first.h).world c.first_of_rank.ensures.quiet (g.met.H.Heap.lawful c.first_of_rank.new.h).world c.in-Some.ensures.some c.in-Some.ensures.rank c.link-sum.ensures

pub put_cell-requires : goal.put_cell-requires
put_cell-requires g c = insert_cell (ask_quiet (g.met.H.Heap.lawful c.loop-first.h).world c.first_of_rank.ensures.quiet c.loop-first.invariant.asks)

pub returns : goal.returns
returns g c = inserting_end c.loop-first.invariant (g.met.H.Heap.lawful c.loop-first.h).world c.first_of_rank.ensures.quiet (g.met.H.Heap.lawful c.first_of_rank.new.h).world (c.in_default.ensures.none refl) c.put_cell.ensures
