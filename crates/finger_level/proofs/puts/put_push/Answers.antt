use Rattle.std.proofs.Common.{◌≡◌, ℕ, ◌<◌, ◌+◌, arith, ap, ◌∙◌, Some, true}
use Rattle.lazy_rec.specs.declared.places.Ref.{Ref}
use Rattle.lazy_rec.specs.declared.places.Item.{Item}
use Rattle.finger_level.specs.declared.level.Family.TheVariants.{Later}
use Rattle.heap_store.specs.Hand.{contains}
use Rattle.heap_store.proofs.GrowthLaws.{grows_trans}
use Rattle.heap_store.proofs.Steps.{Quiet_trans}
use Rattle.finger_level.specs.Puts.{push_record}
use Rattle.heap_store.proofs.FixedPlaces.{above_fixed}
use Rattle.finger_level.specs.Keyed.{way}
use Rattle.finger_level.proofs.Weighing.{sorts_of_elements}
use Rattle.finger_level.proofs.Pushing.{Found, found, nodes_ask, tree_later, size_later, Weighed, weighed, weighed_first, first_spends, later_spends, weighed_later, weighed_put, LaterFits, next_put}
use Rattle.finger_level.specs.declared.few.Weight.{Weight}
use Rattle.finger_level.proofs.Keying.{pushed_keyed}
use Rattle.finger_level.proofs.puts.put_push.Goals as goal
use Rattle.finger_level.proofs.puts.put_push.Goals.{After-put_nodes-es, After-weigh_pushed-above, After-weigh_tree-below}

pub put_nodes-es-requires : goal.put_nodes-es-requires
put_nodes-es-requires g c = nodes_ask c.args.side c.args.tree c.args.nodes c.args.family.now c.requires

-- the next place is in hand
held : (g : _) (c : After-put_nodes-es g) → contains (g.H.Heap.view c.put_nodes-es.new.h).hand.reserved c.put_nodes-es.new.run.next ≡ true
held g c = let l = c.put_nodes-es.ensures.put.laid in l.held.each c.put_nodes-es.new.run.next (omega arith) (omega (arith, l.next, l.end, c.requires.room))

there : (g : _) (c : After-put_nodes-es g) → Found (g.H.Heap.view c.args.h.now).seen (g.H.Heap.view c.put_nodes-es.new.h).seen c.requires.depth c.put_nodes-es.new.run.next c.args.side c.args.tree c.args.nodes c.put_nodes-es.result
there g c =
    let l = c.put_nodes-es.ensures.put.laid in
    let law = g.met.H.Heap.lawful c.put_nodes-es.new.h in
    found (g.met.H.Heap.lawful c.args.h.now).world law.world l.filled.grows c.put_nodes-es.new.run.next (omega (arith, l.next)) (above_fixed law c.put_nodes-es.new.run.next (held g c)) c.args.side c.args.tree c.args.nodes c.put_nodes-es.result c.args.family.now c.requires c.put_nodes-es.ensures.put.under c.put_nodes-es.ensures.put.shown

pub weigh_pushed-above-requires-clause-elements : goal.weigh_pushed-above-requires-clause-elements
weigh_pushed-above-requires-clause-elements g c = sorts_of_elements (g.met.H.Heap.lawful c.put_nodes-es.new.h).world _ _ _ (there g (goal.at.weigh_pushed-above-requires-clause-elements g c).After-put_nodes-es).nodes.each

pub weigh_pushed-above-requires-clause-small : goal.weigh_pushed-above-requires-clause-small
weigh_pushed-above-requires-clause-small g c = let f = there g (goal.at.weigh_pushed-above-requires-clause-small g c).After-put_nodes-es in omega (arith, f.both, c.requires.middle.small)

pub weigh_tree-below-requires : goal.weigh_tree-below-requires
weigh_tree-below-requires g c =
    let f = there g (goal.at.weigh_tree-below-requires g c).After-put_nodes-es in
    rw c.tree_or_empty-tree.ensures (tree_later c.weigh_pushed-above.ensures.quiet.grows f.tree.is)

pub overflow_add-weight : goal.overflow_add-weight
overflow_add-weight g c =
    let f = there g (goal.at.overflow_add-weight g c).After-put_nodes-es in
    let s = size_later (g.met.H.Heap.lawful c.put_nodes-es.new.h).world c.weigh_pushed-above.ensures.quiet.grows c.args.tree f.tree.is c.tree_or_empty-tree.result c.tree_or_empty-tree.ensures in
    omega (arith, c.weigh_pushed-above.ensures.size, c.weigh_tree-below.ensures.size, s, f.both, c.requires.middle.small)

pub put-requires-clause-left : goal.put-requires-clause-left
put-requires-clause-left g c = let l = c.put_nodes-es.ensures.put.laid in omega (arith, l.next, l.end, c.requires.room)

pub put-requires-clause-held : goal.put-requires-clause-held
put-requires-clause-held g c = rw (Quiet_trans c.weigh_pushed-above.ensures.quiet c.weigh_tree-below.ensures.quiet).hand c.put_nodes-es.ensures.put.laid.held

-- the nodes are put and weighed
done : (g : _) (c : After-weigh_tree-below g) → Weighed (g.H.Heap.view c.args.h.now) (g.H.Heap.view c.weigh_tree-below.new.h) c.args.run.now c.put_nodes-es.new.run.next c.args.nodes c.put_nodes-es.result c.args.tree (c.weigh_pushed-above.result.size + c.weigh_tree-below.result.size)
done g c = weighed {side = c.args.side} {family = c.args.family.now} (g.met.H.Heap.lawful c.args.h.now).world (g.met.H.Heap.lawful c.put_nodes-es.new.h) (g.met.H.Heap.lawful c.weigh_tree-below.new.h) c.requires c.put_nodes-es.ensures.put c.weigh_pushed-above.ensures.quiet c.weigh_tree-below.ensures.quiet c.tree_or_empty-tree.result c.tree_or_empty-tree.ensures _ _ c.weigh_pushed-above.ensures.size c.weigh_tree-below.ensures.size

pub put-requires-clause-fits : goal.put-requires-clause-fits
put-requires-clause-fits g c =
    rw c.suspension.ensures (weighed_first (done g (goal.at.put-requires-clause-fits g c).After-weigh_tree-below) c.args.side c.args.family.now c.in-First.is c.requires c.next-origin.result c.tree_or_empty-tree.result c.next-origin.ensures c.tree_or_empty-tree.ensures _ (omega (arith, c.max.type_inv)))

later : (g : _) (c : After-weigh_tree-below g) (s o : Ref) (off : ℕ) (e : c.args.family.now ≡ Later s o off) (key : Item) (f : key.0 < 18446744073709551616) → LaterFits (g.H.Heap.view c.weigh_tree-below.new.h) c.put_nodes-es.new.run.next (push_record c.args.side c.tree_or_empty-tree.result c.put_nodes-es.result o (off + 1) (record { size = c.weigh_pushed-above.result.size + c.weigh_tree-below.result.size; key = key })) off
later g c s o off e key f = weighed_later (done g c) c.args.side c.args.family.now c.requires s o c.tree_or_empty-tree.result off e c.tree_or_empty-tree.ensures key f

pub overflow_add-off : goal.overflow_add-off
overflow_add-off g c = let k = later g (goal.at.overflow_add-off g c).After-weigh_tree-below c.in-Later.of c.in-Later.origin c.in-Later.off c.in-Later.is (record { 0 = 0 }) (omega arith) in omega (arith, k.few)

pub put-requires-in-Later-clause-fits : goal.put-requires-in-Later-clause-fits
put-requires-in-Later-clause-fits g c = rw c.suspension-in-Later.ensures (later g (goal.at.put-requires-in-Later-clause-fits g c).After-weigh_tree-below c.in-Later.of c.in-Later.origin c.in-Later.off c.in-Later.is (record { 0 = c.max.result }) (omega (arith, c.max.type_inv))).fits

pub returns-in-First-clause-put : goal.returns-in-First-clause-put
returns-in-First-clause-put g c =
    let p = c.put.ensures in
    weighed_put (done g (goal.at.returns-in-First-clause-put g c).After-weigh_tree-below) (g.met.H.Heap.lawful c.put_nodes-es.new.h) c.requires c.put_nodes-es.ensures.put (Quiet_trans c.weigh_pushed-above.ensures.quiet c.weigh_tree-below.ensures.quiet) p.put p.run (g.met.H.Heap.lawful c.put.new.self).world c.next-origin.result 0 _ c.tree_or_empty-tree.result c.suspension.ensures c.tree_or_empty-tree.ensures (first_spends (done g (goal.at.returns-in-First-clause-put g c).After-weigh_tree-below) c.args.side c.args.family.now c.in-First.is c.requires c.next-origin.result c.tree_or_empty-tree.result c.next-origin.ensures _ _ c.suspension.ensures) (rw c.in-First.is tt) c.put.result.0 p.place

pub returns-in-Later-clause-put : goal.returns-in-Later-clause-put
returns-in-Later-clause-put g c =
    let p = c.put-in-Later.ensures in
    let d = done g (goal.at.returns-in-Later-clause-put g c).After-weigh_tree-below in
    let law = (g.met.H.Heap.lawful c.put-in-Later.new.self).world in
    let weight : Weight = record { size = c.weigh_pushed-above.result.size + c.weigh_tree-below.result.size; key = record { 0 = c.max.result } } in
    weighed_put d (g.met.H.Heap.lawful c.put_nodes-es.new.h) c.requires c.put_nodes-es.ensures.put (Quiet_trans c.weigh_pushed-above.ensures.quiet c.weigh_tree-below.ensures.quiet) p.put p.run law c.in-Later.origin (c.in-Later.off + 1) weight c.tree_or_empty-tree.result c.suspension-in-Later.ensures c.tree_or_empty-tree.ensures
    (later_spends (g.H.Heap.view c.weigh_tree-below.new.h).seen c.put_nodes-es.new.run.next c.args.side c.args.family.now _ c.tree_or_empty-tree.result c.put_nodes-es.result c.in-Later.origin c.in-Later.off weight _ c.suspension-in-Later.ensures)
    (next_put d law p.put c.in-Later.of c.in-Later.origin c.in-Later.off c.args.family.now c.in-Later.is c.args.side weight c.tree_or_empty-tree.result c.suspension-in-Later.ensures c.tree_or_empty-tree.ensures) c.put-in-Later.result.0 p.place

pub returns-in-First-clause-keys : goal.returns-in-First-clause-keys
returns-in-First-clause-keys g c =
    let p = c.put.ensures in
    let law0 = (g.met.H.Heap.lawful c.args.h.now).world in
    let law1 = (g.met.H.Heap.lawful c.put_nodes-es.new.h).world in
    let law2 = (g.met.H.Heap.lawful c.put.new.self).world in
    λ hn ht. rw p.place (pushed_keyed law0 law1 law2 c.put_nodes-es.ensures.put.laid.filled.grows c.weigh_pushed-above.ensures.quiet.grows (grows_trans c.weigh_tree-below.ensures.quiet.grows p.put.grows) c.args.keyed c.args.side c.args.tree c.args.nodes c.put_nodes-es.result c.tree_or_empty-tree.result c.next-origin.result 0 (record { size = c.weigh_pushed-above.result.size + c.weigh_tree-below.result.size; key = record { 0 = c.max.result } }) c.put_nodes-es.new.run.next c.weigh_pushed-above.result.key.0 c.weigh_tree-below.result.key.0 c.tree_or_empty-tree.ensures (p.put.here ∙ ap Some c.suspension.ensures) c.put_nodes-es.ensures.keys c.weigh_pushed-above.ensures.key (c.weigh_tree-below.ensures.key (way c.args.keyed)) c.max.ensures hn ht)

pub returns-in-Later-clause-keys : goal.returns-in-Later-clause-keys
returns-in-Later-clause-keys g c =
    let p = c.put-in-Later.ensures in
    let law0 = (g.met.H.Heap.lawful c.args.h.now).world in
    let law1 = (g.met.H.Heap.lawful c.put_nodes-es.new.h).world in
    let law2 = (g.met.H.Heap.lawful c.put-in-Later.new.self).world in
    λ hn ht. rw p.place (pushed_keyed law0 law1 law2 c.put_nodes-es.ensures.put.laid.filled.grows c.weigh_pushed-above.ensures.quiet.grows (grows_trans c.weigh_tree-below.ensures.quiet.grows p.put.grows) c.args.keyed c.args.side c.args.tree c.args.nodes c.put_nodes-es.result c.tree_or_empty-tree.result c.in-Later.origin (c.in-Later.off + 1) (record { size = c.weigh_pushed-above.result.size + c.weigh_tree-below.result.size; key = record { 0 = c.max.result } }) c.put_nodes-es.new.run.next c.weigh_pushed-above.result.key.0 c.weigh_tree-below.result.key.0 c.tree_or_empty-tree.ensures (p.put.here ∙ ap Some c.suspension-in-Later.ensures) c.put_nodes-es.ensures.keys c.weigh_pushed-above.ensures.key (c.weigh_tree-below.ensures.key (way c.args.keyed)) c.max.ensures hn ht)
