use Rattle.std.proofs.Common.{arith, refl}
use Rattle.heap_store.specs.Lawful.{IsLawful}
use Rattle.heap_store.specs.View.{Quiet}
use Rattle.heap_store.proofs.Steps.{Quiet_trans}
use Rattle.binom_heap.specs.Trees.{IsFirst}
use Rattle.binom_heap.specs.Laying.{MayMerge}
use Rattle.binom_heap.proofs.FirstTrees.{first_up}
use Rattle.binom_heap.proofs.Merging.{merge_quiet, merge_same, merge_first_empty, merge_second_empty, front_ask, front_laid, tree1, tree2, lower1, lower2, lower_both, count1, merged1, ask1, count2, merged2, ask2, ask_both, link_both, insert_both, laid_both}
use Rattle.binom_heap.proofs.trees.+merge.Goals as goal
use Rattle.binom_heap.proofs.trees.+merge.Goals.{In-Some-first_tree}

-- ---- after both first trees were read

both_quiet : (g : _) (t : _) (c : In-Some-first_tree g t) → Quiet (g.H.Heap.view c.args.h.now) (g.H.Heap.view c.first_tree-2.new.h)
both_quiet g t c = Quiet_trans c.first_tree.ensures.quiet c.first_tree-2.ensures.quiet

asked : (g : _) (t : _) (c : In-Some-first_tree g t) → MayMerge (g.H.Heap.view c.first_tree-2.new.h) c.args.run.now c.args.list1.0 c.args.list2.0
asked g t c = merge_quiet (g.met.H.Heap.lawful c.args.h.now).world (both_quiet g t c) c.requires

first1 : (g : _) (t : _) (c : In-Some-first_tree g t) → IsFirst (g.H.Heap.view c.first_tree-2.new.h).seen c.args.list1.0 c.in-Some.a
first1 g t c = first_up (both_quiet g t c).grows c.in-Some.ensures.some

first2 : (g : _) (t : _) (c : In-Some-first_tree g t) → IsFirst (g.H.Heap.view c.first_tree-2.new.h).seen c.args.list2.0 c.in-Some-first_tree.b
first2 g t c = first_up c.first_tree-2.ensures.quiet.grows c.in-Some-first_tree.ensures.some

law2 : (g : _) (t : _) (c : In-Some-first_tree g t) → IsLawful (g.H.Heap.view c.first_tree-2.new.h).seen
law2 g t c = (g.met.H.Heap.lawful c.first_tree-2.new.h).world

-- ---- an empty list

pub returns-in_default : goal.returns-in_default
returns-in_default g t c = merge_first_empty (g.met.H.Heap.lawful c.args.h.now).world c.first_tree.ensures.quiet c.requires (c.in_default.ensures.none refl)

pub first_tree-requires-2 : goal.first_tree-requires-2
first_tree-requires-2 g t c = (merge_quiet (g.met.H.Heap.lawful c.args.h.now).world c.first_tree.ensures.quiet c.requires).second_is.trees

pub returns-in_default-first_tree : goal.returns-in_default-first_tree
returns-in_default-first_tree g t c =
    let law = (g.met.H.Heap.lawful c.args.h.now).world in
    let q1 = c.first_tree.ensures.quiet in
    merge_same law q1 c.requires (merge_second_empty (g.met.H.Heap.lawful c.first_tree.new.h).world c.first_tree-2.ensures.quiet (merge_quiet law q1 c.requires) (c.in_default-first_tree.ensures.none refl))

-- ---- the first list's tree in front

pub merge-rest-requires : goal.merge-rest-requires
merge-rest-requires g t c κs within =
    let d = (goal.at.merge-rest-requires g t c).In-Some-first_tree in
    let low = lower1 (law2 g t d) c.args.run.now _ _ (asked g t d) _ _ (first1 g t d) (first2 g t d) in
    (omega (arith, low), (within, ask1 (law2 g t d) c.args.run.now _ _ (asked g t d) _ _ (first1 g t d) (first2 g t d) (omega arith)))

pub put_cell-requires : goal.put_cell-requires
put_cell-requires g t c =
    let d = (goal.at.put_cell-requires g t c).In-Some-first_tree in
    let count = count1 (law2 g t d) c.args.run.now _ _ (asked g t d) _ _ (first1 g t d) (first2 g t d) (omega arith) in
    front_ask c.merge-rest.ensures (tree1 (law2 g t d) c.args.run.now _ _ (asked g t d) _ _ (first1 g t d) (first2 g t d)) (omega (arith, count, (asked g t d).room))

pub returns-then-a-b : goal.returns-then-a-b
returns-then-a-b g t c =
    let d = (goal.at.returns-then-a-b g t c).In-Some-first_tree in
    let count = count1 (law2 g t d) c.args.run.now _ _ (asked g t d) _ _ (first1 g t d) (first2 g t d) (omega arith) in
    let merged = merged1 (law2 g t d) c.args.run.now _ _ (asked g t d) _ _ (first1 g t d) (first2 g t d) (omega arith) in
    merge_same (g.met.H.Heap.lawful c.args.h.now).world (both_quiet g t d) c.requires (rw (count, merged) (front_laid (law2 g t d) c.merge-rest.ensures (tree1 (law2 g t d) c.args.run.now _ _ (asked g t d) _ _ (first1 g t d) (first2 g t d)) c.put_cell.ensures))

-- ---- the second list's tree in front

pub merge-rest-requires-then-b-a : goal.merge-rest-requires-then-b-a
merge-rest-requires-then-b-a g t c κs within =
    let d = (goal.at.merge-rest-requires-then-b-a g t c).In-Some-first_tree in
    let low = lower2 (law2 g t d) c.args.run.now _ _ (asked g t d) _ _ (first1 g t d) (first2 g t d) in
    (omega (arith, low), (within, ask2 (law2 g t d) c.args.run.now _ _ (asked g t d) _ _ (first1 g t d) (first2 g t d) (omega arith)))

pub put_cell-requires-then-b-a : goal.put_cell-requires-then-b-a
put_cell-requires-then-b-a g t c =
    let d = (goal.at.put_cell-requires-then-b-a g t c).In-Some-first_tree in
    let count = count2 (law2 g t d) c.args.run.now _ _ (asked g t d) _ _ (first1 g t d) (first2 g t d) (omega arith) in
    front_ask c.merge-rest-then-b-a.ensures (tree2 (law2 g t d) c.args.run.now _ _ (asked g t d) _ _ (first1 g t d) (first2 g t d)) (omega (arith, count, (asked g t d).room))

pub returns-then-b-a : goal.returns-then-b-a
returns-then-b-a g t c =
    let d = (goal.at.returns-then-b-a g t c).In-Some-first_tree in
    let count = count2 (law2 g t d) c.args.run.now _ _ (asked g t d) _ _ (first1 g t d) (first2 g t d) (omega arith) in
    let merged = merged2 (law2 g t d) c.args.run.now _ _ (asked g t d) _ _ (first1 g t d) (first2 g t d) (omega arith) in
    merge_same (g.met.H.Heap.lawful c.args.h.now).world (both_quiet g t d) c.requires (rw (count, merged) (front_laid (law2 g t d) c.merge-rest-then-b-a.ensures (tree2 (law2 g t d) c.args.run.now _ _ (asked g t d) _ _ (first1 g t d) (first2 g t d)) c.put_cell-then-b-a.ensures))

-- ---- both linked

pub merge-rest-requires-2 : goal.merge-rest-requires-2
merge-rest-requires-2 g t c κs within =
    let d = (goal.at.merge-rest-requires-2 g t c).In-Some-first_tree in
    let low = lower_both (law2 g t d) c.args.run.now _ _ (asked g t d) _ _ (first1 g t d) (first2 g t d) in
    (omega (arith, low), (within, ask_both (law2 g t d) c.args.run.now _ _ (asked g t d) _ _ (first1 g t d) (first2 g t d) (omega arith)))

pub link-linked-requires : goal.link-linked-requires
link-linked-requires g t c =
    let d = (goal.at.link-linked-requires g t c).In-Some-first_tree in
    link_both (law2 g t d) c.args.run.now _ _ (asked g t d) _ _ (first1 g t d) (first2 g t d) (omega arith) (g.met.H.Heap.lawful c.merge-rest-2.new.h).world c.merge-rest-2.new.run _ c.merge-rest-2.ensures

pub insert_tree-requires : goal.insert_tree-requires
insert_tree-requires g t c =
    let d = (goal.at.insert_tree-requires g t c).In-Some-first_tree in
    insert_both (law2 g t d) c.args.run.now _ _ (asked g t d) _ _ (first1 g t d) (first2 g t d) (omega arith) (g.met.H.Heap.lawful c.merge-rest-2.new.h).world c.merge-rest-2.new.run _ c.merge-rest-2.ensures c.link-linked.new.run c.link-linked.result c.link-linked.ensures

pub returns : goal.returns
returns g t c =
    let d = (goal.at.returns g t c).In-Some-first_tree in
    let laid = laid_both (law2 g t d) c.args.run.now _ _ (asked g t d) _ _ (first1 g t d) (first2 g t d) (omega arith) (g.met.H.Heap.lawful c.merge-rest-2.new.h).world c.merge-rest-2.new.run _ c.merge-rest-2.ensures c.link-linked.new.run c.link-linked.result c.link-linked.ensures c.insert_tree.new.run _ c.insert_tree.ensures in
    merge_same (g.met.H.Heap.lawful c.args.h.now).world (both_quiet g t d) c.requires laid
