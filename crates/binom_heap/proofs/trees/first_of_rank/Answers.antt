use Rattle.binom_heap.proofs.Inserting.{none_of_other}
use Rattle.binom_heap.proofs.trees.first_of_rank.Goals as goal

pub returns-else-first-rank-clause-none : goal.returns-else-first-rank-clause-none
returns-else-first-rank-clause-none g c _ = none_of_other (g.met.H.Heap.lawful c.args.h.now).world c.args.rank c.args.list.0 c.in-Some.first c.requires c.in-Some.ensures.some c.if-first-rank.false
