use Rattle.std.proofs.Common.{◌∙◌, arith}
use Rattle.heap_store.proofs.GrowthLaws.{grows_trans}
use Rattle.heap_store.proofs.Steps.{Quiet_trans}
use Rattle.finger_level.specs.Reads.{is_tree_rec}
use Rattle.finger_level.specs.Keyed.{way}
use Rattle.finger_level.proofs.Betweens.{there_later, size_there, weighed_key}
use Rattle.finger_level.proofs.puts.weigh_between.Goals as goal

pub weigh_few-list-requires : goal.weigh_few-list-requires
weigh_few-list-requires g c = record { elements = c.requires.elements; small = omega (arith, c.requires.small) }

pub weigh_tree-first-requires : goal.weigh_tree-first-requires
weigh_tree-first-requires g c = there_later c.weigh_few-list.ensures.quiet.grows is_tree_rec c.args.left.0 c.requires.left

pub overflow_add-above : goal.overflow_add-above
overflow_add-above g c =
    let law = (g.met.H.Heap.lawful c.args.h.now).world in
    let x = size_there law c.weigh_few-list.ensures.quiet.grows c.args.left.0 c.requires.left in
    omega (arith, x, c.weigh_few-list.ensures.size, c.weigh_tree-first.ensures.size, c.requires.small)

pub weigh_tree-last-requires : goal.weigh_tree-last-requires
weigh_tree-last-requires g c = there_later (grows_trans c.weigh_few-list.ensures.quiet.grows c.weigh_tree-first.ensures.quiet.grows) is_tree_rec c.args.right.0 c.requires.right

pub overflow_add-size : goal.overflow_add-size
overflow_add-size g c =
    let law = (g.met.H.Heap.lawful c.args.h.now).world in
    let x = size_there law c.weigh_few-list.ensures.quiet.grows c.args.left.0 c.requires.left in
    let y = size_there law (grows_trans c.weigh_few-list.ensures.quiet.grows c.weigh_tree-first.ensures.quiet.grows) c.args.right.0 c.requires.right in
    omega (arith, x, y, c.weigh_few-list.ensures.size, c.weigh_tree-first.ensures.size, c.weigh_tree-last.ensures.size, c.requires.small)

pub returns-clause-quiet : goal.returns-clause-quiet
returns-clause-quiet g c = Quiet_trans (Quiet_trans c.weigh_few-list.ensures.quiet c.weigh_tree-first.ensures.quiet) c.weigh_tree-last.ensures.quiet

pub returns-clause-size : goal.returns-clause-size
returns-clause-size g c =
    let law = (g.met.H.Heap.lawful c.args.h.now).world in
    let x = size_there law c.weigh_few-list.ensures.quiet.grows c.args.left.0 c.requires.left in
    let y = size_there law (grows_trans c.weigh_few-list.ensures.quiet.grows c.weigh_tree-first.ensures.quiet.grows) c.args.right.0 c.requires.right in
    omega (arith, x, y, c.weigh_few-list.ensures.size, c.weigh_tree-first.ensures.size, c.weigh_tree-last.ensures.size)

pub returns-clause-key : goal.returns-clause-key
returns-clause-key g c =
    let law = (g.met.H.Heap.lawful c.args.h.now).world in
    λ hl hes hr. rw c.max-near.ensures at c.max.ensures ∙ weighed_key law c.weigh_few-list.ensures.quiet.grows (grows_trans c.weigh_few-list.ensures.quiet.grows c.weigh_tree-first.ensures.quiet.grows) c.args.keyed c.args.left.0 c.args.right.0 _ _ _ _ c.weigh_few-list.ensures.key (c.weigh_tree-first.ensures.key (way c.args.keyed)) (c.weigh_tree-last.ensures.key (way c.args.keyed)) hl hes hr
