use Rattle.std.proofs.Common.{◌≡◌, ◌+◌, arith, ap}
use Rattle.std.specs.Prelude.{length, flat_map}
use Rattle.lazy_rec.specs.Meaning.{means}
use Rattle.heap_store.specs.World.{recs}
use Rattle.heap_store.specs.View.{Quiet}
use Rattle.heap_store.proofs.GrowthLaws.{grows_trans}
use Rattle.heap_store.proofs.Steps.{Quiet_trans}
use Rattle.finger_level.specs.Level.{digit_list}
use Rattle.finger_level.specs.Keyed.{way}
use Rattle.finger_level.proofs.Weighing.{sorts_of_elements}
use Rattle.finger_level.proofs.Builds.{elements_up, items_up}
use Rattle.finger_level.proofs.Pushing.{tree_later}
use Rattle.finger_level.proofs.Keying.{keyed_up, digit_keyed_up}
use Rattle.finger_level.proofs.TailPuts.{left_each, right_each, inner_tree, inner_same, all_small, shorter_ask, shorter_put, shorter_key}
use Rattle.finger_level.proofs.puts.put_shorter.Goals as goal
use Rattle.finger_level.proofs.puts.put_shorter.Goals.{After-weigh_few-last}

pub weigh_few-first-requires : goal.weigh_few-first-requires
weigh_few-first-requires g c =
    let law = (g.met.H.Heap.lawful c.args.h.now).world in
    let small = all_small law c.args.side c.args.left c.args.tree c.args.right c.args.family.now c.requires in
    rw c.few_of-one.ensures (record { elements = sorts_of_elements law _ _ _ (left_each law c.args.side c.args.left c.args.tree c.args.right c.args.family.now c.requires); small = omega (arith, small) })

pub weigh_tree-middle-requires : goal.weigh_tree-middle-requires
weigh_tree-middle-requires g c = tree_later c.weigh_few-first.ensures.quiet.grows (inner_tree (g.met.H.Heap.lawful c.args.h.now).world c.args.side c.args.left c.args.tree c.args.right c.args.family.now c.requires)

pub weigh_few-last-requires : goal.weigh_few-last-requires
weigh_few-last-requires g c =
    let law = (g.met.H.Heap.lawful c.args.h.now).world in
    let q = Quiet_trans c.weigh_few-first.ensures.quiet c.weigh_tree-middle.ensures.quiet in
    let each = right_each law c.args.side c.args.left c.args.tree c.args.right c.args.family.now c.requires in
    let small = all_small law c.args.side c.args.left c.args.tree c.args.right c.args.family.now c.requires in
    let same = ap length (items_up law q.grows _ c.args.run.now.next (digit_list c.args.right) each) in
    rw c.few_of-other.ensures (record { elements = sorts_of_elements (g.met.H.Heap.lawful c.weigh_tree-middle.new.h).world _ _ _ (elements_up law q.grows _ c.args.run.now.next c.args.run.now.next (omega arith) (digit_list c.args.right) each); small = omega (arith, small, same) })

quiet : (g : _) (c : After-weigh_few-last g) → Quiet (g.H.Heap.view c.args.h.now) (g.H.Heap.view c.weigh_few-last.new.h)
quiet g c = Quiet_trans (Quiet_trans c.weigh_few-first.ensures.quiet c.weigh_tree-middle.ensures.quiet) c.weigh_few-last.ensures.quiet

-- what was weighed is what stands
counts : (g : _) (c : After-weigh_few-last g) → c.weigh_few-first.result.size + c.weigh_few-last.result.size + c.weigh_tree-middle.result.size ≡ length (flat_map (means (recs (g.H.Heap.view c.args.h.now).seen)) (digit_list c.args.left)) + length (means (recs (g.H.Heap.view c.args.h.now).seen) c.args.tree.0) + length (flat_map (means (recs (g.H.Heap.view c.args.h.now).seen)) (digit_list c.args.right))
counts g c =
    let law = (g.met.H.Heap.lawful c.args.h.now).world in
    let q = Quiet_trans c.weigh_few-first.ensures.quiet c.weigh_tree-middle.ensures.quiet in
    let each = right_each law c.args.side c.args.left c.args.tree c.args.right c.args.family.now c.requires in
    let one : c.weigh_few-first.result.size ≡ length (flat_map (means (recs (g.H.Heap.view c.args.h.now).seen)) (digit_list c.args.left)) = rw c.few_of-one.ensures at c.weigh_few-first.ensures.size in
    let other : c.weigh_few-last.result.size ≡ length (flat_map (means (recs (g.H.Heap.view c.weigh_tree-middle.new.h).seen)) (digit_list c.args.right)) = rw c.few_of-other.ensures at c.weigh_few-last.ensures.size in
    let same = ap length (items_up law q.grows _ c.args.run.now.next (digit_list c.args.right) each) in
    let tree = inner_same law c.args.side c.args.left c.args.tree c.args.right c.args.family.now c.requires c.weigh_few-first.ensures.quiet.grows in
    omega (arith, one, other, same, tree, c.weigh_tree-middle.ensures.size)

pub overflow_add-above : goal.overflow_add-above
overflow_add-above g c =
    let n = counts g (goal.at.overflow_add-above g c).After-weigh_few-last in
    let small = all_small (g.met.H.Heap.lawful c.args.h.now).world c.args.side c.args.left c.args.tree c.args.right c.args.family.now c.requires in
    omega (arith, n, small)

pub overflow_add-size : goal.overflow_add-size
overflow_add-size g c =
    let n = counts g (goal.at.overflow_add-size g c).After-weigh_few-last in
    let small = all_small (g.met.H.Heap.lawful c.args.h.now).world c.args.side c.args.left c.args.tree c.args.right c.args.family.now c.requires in
    omega (arith, n, small)

pub put_ends-requires : goal.put_ends-requires
put_ends-requires g c =
    let d = (goal.at.put_ends-requires g c).After-weigh_few-last in
    shorter_ask (g.met.H.Heap.lawful c.args.h.now).world c.args.side c.args.left c.args.tree c.args.right c.args.family.now c.requires (quiet g d) _ (counts g d)

pub returns-clause-put : goal.returns-clause-put
returns-clause-put g c =
    let d = (goal.at.returns-clause-put g c).After-weigh_few-last in
    shorter_put (g.met.H.Heap.lawful c.args.h.now).world c.args.side c.args.left c.args.tree c.args.right c.args.family.now c.requires (quiet g d) (g.met.H.Heap.lawful c.put_ends.new.h).world c.put_ends.ensures.put

pub returns-clause-keys : goal.returns-clause-keys
returns-clause-keys g c =
    let d = (goal.at.returns-clause-keys g c).After-weigh_few-last in
    let law = (g.met.H.Heap.lawful c.args.h.now).world in
    let law3 = (g.met.H.Heap.lawful c.weigh_few-last.new.h).world in
    let q = quiet g d in
    let put = shorter_put law c.args.side c.args.left c.args.tree c.args.right c.args.family.now c.requires q (g.met.H.Heap.lawful c.put_ends.new.h).world c.put_ends.ensures.put in
    λ hl ht hr. c.put_ends.ensures.keys (digit_keyed_up law law3 q.grows c.args.keyed c.args.left hl) (keyed_up law q.grows c.args.keyed c.args.tree.0 ht) (digit_keyed_up law law3 q.grows c.args.keyed c.args.right hr)
    (shorter_key law c.weigh_few-first.ensures.quiet.grows (grows_trans c.weigh_few-first.ensures.quiet.grows c.weigh_tree-middle.ensures.quiet.grows) c.args.keyed c.args.side c.args.left c.args.tree c.args.right _ _ _ _ _ put.items (rw c.few_of-one.ensures at c.weigh_few-first.ensures.key) (c.weigh_tree-middle.ensures.key (way c.args.keyed)) (rw c.few_of-other.ensures at c.weigh_few-last.ensures.key) (rw c.max-ends.ensures at c.max.ensures) hl ht hr)
