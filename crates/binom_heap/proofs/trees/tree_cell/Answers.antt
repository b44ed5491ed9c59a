use Rattle.heap_store.specs.World.{recs}
use Rattle.heap_store.proofs.ReadLaws.{is_there}
use Rattle.binom_heap.proofs.TreeLaws.{trees_there}
use Rattle.binom_heap.proofs.FirstTrees.{no_first}
use Rattle.binom_heap.proofs.trees.tree_cell.Goals as goal

pub read-requires : goal.read-requires
read-requires g c = let rs = recs (g.H.Heap.view c.args.h.now).seen in is_there rs c.args.list.0 (trees_there rs c.args.list.0 c.requires)

pub returns-in_default : goal.returns-in_default
returns-in_default g c = record {
  quiet = c.read.ensures.quiet;
  none = λ _. no_first (g.met.H.Heap.lawful c.args.h.now).world c.args.list.0 c.requires c.read.result c.read.ensures.rec c.in_default.not-TCons;
  some = tt;
}
