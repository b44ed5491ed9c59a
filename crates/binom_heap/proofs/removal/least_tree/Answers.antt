use Rattle.std.proofs.Common.{◌<◌, ◌∙◌, arith, refl, sym}
use Rattle.heap_store.specs.World.{recs}
use Rattle.heap_store.proofs.Steps.{Quiet_trans}
use Rattle.binom_heap.specs.Trees.{IsFirst}
use Rattle.binom_heap.proofs.FirstTrees.{first_is, first_down}
use Rattle.binom_heap.proofs.TreeLaws.{trees_there}
use Rattle.binom_heap.proofs.TreePuts.{tree_full}
use Rattle.binom_heap.proofs.Linking.{only_up, forest_up}
use Rattle.binom_heap.proofs.Lesser.{rest_rises, so_far_first, so_far_next, so_far_all}
use Rattle.binom_heap.proofs.removal.least_tree.Goals as goal
use Rattle.binom_heap.proofs.removal.least_tree.Goals.{In-Some-first_tree}

pub returns-in_default-clause-least : goal.returns-in_default-clause-least
returns-in_default-clause-least g c =
    let same = forest_up (g.met.H.Heap.lawful c.args.h.now).world c.first_tree.ensures.quiet.grows c.args.list.0 c.requires.trees ∙ c.in_default.ensures.none refl in
    rw same tt

pub loop-next-init : goal.loop-next-init
loop-next-init g c = record {
  quiet = c.first_tree.ensures.quiet;
  so_far = so_far_first (g.met.H.Heap.lawful c.args.h.now).world c.args.list c.in-Some.first c.requires.trees c.in-Some.ensures.some c.requires.rise;
}

pub first_tree-requires-in-loop-next : goal.first_tree-requires-in-loop-next
first_tree-requires-in-loop-next g c =
    let k = c.loop-next.invariant in
    only_up (g.met.H.Heap.lawful c.args.h.now).world k.quiet.grows c.loop-next.rest.0 k.so_far.only

-- the tree that is looked at stood there from the start
next_first : (g : _) (c : In-Some-first_tree g) → IsFirst (g.H.Heap.view c.args.h.now).seen c.loop-next.rest.0 c.in-Some-first_tree.next
next_first g c =
    let k = c.loop-next.invariant in
    first_down (g.met.H.Heap.lawful c.args.h.now).world k.quiet.grows c.loop-next.rest.0 c.in-Some-first_tree.next (trees_there (recs (g.H.Heap.view c.args.h.now).seen) c.loop-next.rest.0 k.so_far.only) c.in-Some-first_tree.ensures.some

pub overflow_add-passed : goal.overflow_add-passed
overflow_add-passed g c =
    let i = next_first g (goal.at.overflow_add-passed g c).In-Some-first_tree in
    let law = (g.met.H.Heap.lawful c.args.h.now).world in
    let k = c.loop-next.invariant.so_far in
    let full = tree_full law c.in-Some-first_tree.next.tree.place.0 c.in-Some-first_tree.next.tree i.tree in
    let rises = rest_rises law c.loop-next.passed c.loop-next.rest.0 c.in-Some-first_tree.next k.only i k.rise in
    omega (arith, rises.early, full.rank)

pub loop-next-smaller : goal.loop-next-smaller
loop-next-smaller g c =
    let i = next_first g (goal.at.loop-next-smaller g c).In-Some-first_tree in
    let low : c.in-Some-first_tree.next.rest.0 < c.loop-next.rest.0 = (first_is (g.met.H.Heap.lawful c.args.h.now).world c.loop-next.rest.0 c.in-Some-first_tree.next c.loop-next.invariant.so_far.only i).rest_low in
    low

pub loop-next-preserved : goal.loop-next-preserved
loop-next-preserved g c =
    let i = next_first g (goal.at.loop-next-preserved g c).In-Some-first_tree in
    let k = c.loop-next.invariant in
    record {
      quiet = Quiet_trans k.quiet c.first_tree-in-loop-next.ensures.quiet;
      so_far = so_far_next (g.met.H.Heap.lawful c.args.h.now).world c.args.list.0 c.loop-next.least c.loop-next.passed c.loop-next.rest k.so_far c.in-Some-first_tree.next i c.lesser-least.result c.lesser-least.ensures;
    }

pub returns-clause-quiet : goal.returns-clause-quiet
returns-clause-quiet g c = Quiet_trans c.loop-next.invariant.quiet c.first_tree-in-loop-next.ensures.quiet

pub returns-clause-least : goal.returns-clause-least
returns-clause-least g c =
    let k = c.loop-next.invariant in
    let law = (g.met.H.Heap.lawful c.args.h.now).world in
    let none = sym (forest_up law k.quiet.grows c.loop-next.rest.0 k.so_far.only) ∙ c.in_default-first_tree.ensures.none refl in
    so_far_all law (Quiet_trans k.quiet c.first_tree-in-loop-next.ensures.quiet).grows c.args.list.0 c.requires.trees c.loop-next.least c.loop-next.passed c.loop-next.rest.0 k.so_far none
