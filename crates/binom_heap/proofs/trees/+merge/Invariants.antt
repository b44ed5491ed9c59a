use Rattle.std.proofs.Common.{◌+◌}
use Rattle.binom_heap.proofs.trees.+merge.Given as goal

abbrev pub decreases-merge : goal.decreases-merge
decreases-merge g l = l.list1.0 + l.list2.0
