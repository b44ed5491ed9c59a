use Rattle.std.proofs.Common.{ap, ◌∙◌, Some}
use Rattle.heap_store.specs.World.{recs}
use Rattle.heap_store.proofs.Steps.{Quiet_trans}
use Rattle.heap_store.proofs.ReadLaws.{is_there, rec_back}
use Rattle.binom_heap.proofs.FirstTrees.{first_there, first_is_tree}
use Rattle.binom_heap.proofs.trees.first_tree.Goals as goal

pub read-requires : goal.read-requires
read-requires g c =
    let k = first_there (g.met.H.Heap.lawful c.args.h.now).world c.args.list.0 _ _ c.in-Some.ensures.some in
    is_there (recs (g.H.Heap.view c.tree_cell.new.h).seen) c.in-Some.cell.tree.0 (k.0, c.tree_cell.ensures.quiet.grows.records _ _ k.1)

pub unreachable-requires : goal.unreachable-requires
unreachable-requires g c =
    let e = c.tree_cell.ensures.quiet.grows.records _ _ c.in-Some.ensures.some in
    first_is_tree (g.met.H.Heap.lawful c.tree_cell.new.h).world c.args.list.0 _ _ e _ c.read.ensures.rec c.in_default-read.not-Tree

pub returns-clause-quiet : goal.returns-clause-quiet
returns-clause-quiet g c = Quiet_trans c.tree_cell.ensures.quiet c.read.ensures.quiet

pub returns-clause-some : goal.returns-clause-some
returns-clause-some g c =
    let e = c.in-Some.ensures.some in
    let k = first_there (g.met.H.Heap.lawful c.args.h.now).world c.args.list.0 _ _ e in
    record { cell = e; tree = rec_back c.tree_cell.ensures.quiet.grows.records c.in-Some.cell.tree.0 _ k (c.read.ensures.rec ∙ ap Some c.in-Tree.is) }
