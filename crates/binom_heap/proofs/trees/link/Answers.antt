use Rattle.std.proofs.Common.{arith}
use Rattle.binom_heap.proofs.Linking.{linked_first, linked_second, link_swapped}
use Rattle.binom_heap.proofs.trees.link.Goals as goal

pub put_under-requires-else-first-second : goal.put_under-requires-else-first-second
put_under-requires-else-first-second g c = record { trees = link_swapped c.requires; order = omega arith }

pub returns-then-first-second : goal.returns-then-first-second
returns-then-first-second g c = linked_first c.args.run.now c.put_under.new.run c.args.first c.args.second c.put_under.result (omega arith) c.requires c.put_under.ensures

pub returns-else-first-second : goal.returns-else-first-second
returns-else-first-second g c = linked_second c.args.run.now c.put_under-else-first-second.new.run c.args.first c.args.second c.put_under-else-first-second.result (omega arith) c.requires c.put_under-else-first-second.ensures
