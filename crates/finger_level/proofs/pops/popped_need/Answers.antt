use Rattle.std.proofs.Common.{◌≡◌, refl, Some}
use Rattle.lazy_rec.specs.declared.records.Rec.TheVariants.{Deep}
use Rattle.heap_store.specs.World.{World, recs}
use Rattle.heap_store.specs.Completion.{elements}
use Rattle.heap_store.specs.Growth.{Grows}
use Rattle.finger_level.specs.Pops.{is_single}
use Rattle.heap_store.proofs.GrowthLaws.{at_true}
use Rattle.heap_store.proofs.Steps.{Quiet_trans}
use Rattle.heap_store.proofs.ReadLaws.{is_there}
use Rattle.finger_level.specs.Reads.{is_tree_rec}
use Rattle.finger_level.proofs.Found.{IsValueAt, value_tree}
use Rattle.finger_level.proofs.Draws.{deep_digits, no_other, tree_is}
use Rattle.finger_level.proofs.Popping.{deep_middle, found_up}
use Rattle.finger_level.proofs.PopNeeds.{single_up, none_ready, some_ready, drawn_ready, draw_waits}
use Rattle.finger_level.proofs.pops.popped_need.Goals as goal
use Rattle.finger_level.proofs.pops.popped_need.Goals.{After-has_one, In-Some}

pub has_one-requires : goal.has_one-requires
has_one-requires g c = (deep_digits (g.met.H.Heap.lawful c.read.new.self).world c.args.root.0 c.in-Deep.left c.in-Deep.middle c.in-Deep.right c.in-Deep.size c.in-Deep.key (c.read.ensures.quiet.grows.records _ _ c.in-Deep.ensures.rec) c.args.side c.both_ends.result.0 c.both_ends.result.1 c.both_ends.ensures).0

-- the root, once its digit is read
root_here : (g : _) (c : After-has_one g) → recs (g.H.Heap.view c.has_one.new.h).seen c.args.root.0 ≡ Some (Deep c.in-Deep.left c.in-Deep.middle c.in-Deep.right c.in-Deep.size c.in-Deep.key)
root_here g c = c.has_one.ensures.quiet.grows.records _ _ (c.read.ensures.quiet.grows.records _ _ c.in-Deep.ensures.rec)

-- the value of the middle, once it is found
found : (g : _) (c : In-Some g) → IsValueAt (g.H.Heap.view c.value_place.new.h).seen c.in-Deep.middle.0 c.in-Some.q.0
found g c =
    let law = (g.met.H.Heap.lawful c.value_place.new.h).world in
    let e = c.value_place.ensures.quiet.grows.records _ _ (c.has_one.ensures.quiet.grows.records _ _ (c.read.ensures.quiet.grows.records _ _ c.in-Deep.ensures.rec)) in
    value_tree law c.in-Deep.middle.0 c.in-Some.q.0 (deep_middle law c.args.root.0 c.in-Deep.left c.in-Deep.middle c.in-Deep.right c.in-Deep.size c.in-Deep.key e) c.in-Some.ensures.place

-- whether the digit has one element, in a later world
one_here : (g : _) (c : After-has_one g) → {w : World} → Grows (g.H.Heap.view c.has_one.new.h).seen w → c.has_one.result ≡ is_single (elements w c.both_ends.result.0.0)
one_here g c up = single_up up c.both_ends.result.0.0 (deep_digits (g.met.H.Heap.lawful c.has_one.new.h).world c.args.root.0 c.in-Deep.left c.in-Deep.middle c.in-Deep.right c.in-Deep.size c.in-Deep.key (root_here g c) c.args.side c.both_ends.result.0 c.both_ends.result.1 c.both_ends.ensures).0 c.has_one.result c.has_one.ensures.one

pub value_place-requires : goal.value_place-requires
value_place-requires g c =
    let w = recs (g.H.Heap.view c.has_one.new.h).seen in
    let t = at_true is_tree_rec (w c.in-Deep.middle.0) (deep_middle (g.met.H.Heap.lawful c.has_one.new.h).world c.args.root.0 c.in-Deep.left c.in-Deep.middle c.in-Deep.right c.in-Deep.size c.in-Deep.key (root_here g (goal.at.value_place-requires g c).After-has_one)) in
    is_there w c.in-Deep.middle.0 (t.0, t.1)

pub drawn_places-nodes-requires-clause-value : goal.drawn_places-nodes-requires-clause-value
drawn_places-nodes-requires-clause-value g c = (found g (goal.at.drawn_places-nodes-requires-clause-value g c).In-Some).there

pub drawn_places-nodes-requires-clause-digit : goal.drawn_places-nodes-requires-clause-digit
drawn_places-nodes-requires-clause-digit g c =
    let e = c.value_place.ensures.quiet.grows.records _ _ (root_here g (goal.at.drawn_places-nodes-requires-clause-digit g c).After-has_one) in
    (deep_digits (g.met.H.Heap.lawful c.value_place.new.h).world c.args.root.0 c.in-Deep.left c.in-Deep.middle c.in-Deep.right c.in-Deep.size c.in-Deep.key e c.args.side c.both_ends.result.0 c.both_ends.result.1 c.both_ends.ensures).1

pub unreachable-requires : goal.unreachable-requires
unreachable-requires g c = no_other c.read.result (tree_is (recs (g.H.Heap.view c.args.h.now).seen) c.args.root.0 c.requires.value c.read.result c.read.ensures.rec) c.in_default.not-TEmpty c.in_default.not-Single c.in_default.not-Deep

pub returns-in-TEmpty-clause-answer : goal.returns-in-TEmpty-clause-answer
returns-in-TEmpty-clause-answer g c = none_ready c.args.side c.args.root.0 _ (c.read.ensures.quiet.grows.records _ _ c.in-TEmpty.ensures.rec) _ refl (λ below. refl) refl

pub returns-in-Single-clause-answer : goal.returns-in-Single-clause-answer
returns-in-Single-clause-answer g c = none_ready c.args.side c.args.root.0 _ (c.read.ensures.quiet.grows.records _ _ c.in-Single.ensures.rec) _ refl (λ below. refl) refl

pub returns-then-not-has_one-clause-quiet : goal.returns-then-not-has_one-clause-quiet
returns-then-not-has_one-clause-quiet g c = Quiet_trans c.read.ensures.quiet c.has_one.ensures.quiet

pub returns-then-not-has_one-clause-answer : goal.returns-then-not-has_one-clause-answer
returns-then-not-has_one-clause-answer g c =
    some_ready (g.met.H.Heap.lawful c.has_one.new.h).world c.args.side c.args.root.0 c.in-Deep.left c.in-Deep.middle c.in-Deep.right c.both_ends.result.0 c.both_ends.result.1 c.in-Deep.size c.in-Deep.key (root_here g (goal.at.returns-then-not-has_one-clause-answer g c).After-has_one) c.both_ends.ensures c.has_one.result c.has_one.ensures.one c.if-not-has_one.true

pub returns-in-Some-clause-quiet : goal.returns-in-Some-clause-quiet
returns-in-Some-clause-quiet g c = Quiet_trans (Quiet_trans c.read.ensures.quiet c.has_one.ensures.quiet) (Quiet_trans c.value_place.ensures.quiet c.drawn_places-nodes.ensures.quiet)

pub returns-in-Some-clause-answer : goal.returns-in-Some-clause-answer
returns-in-Some-clause-answer g c =
    let d = (goal.at.returns-in-Some-clause-answer g c).After-has_one in
    let law = (g.met.H.Heap.lawful c.drawn_places-nodes.new.h).world in
    let law1 = (g.met.H.Heap.lawful c.value_place.new.h).world in
    let last = c.drawn_places-nodes.ensures.quiet.grows in
    let up = (Quiet_trans c.value_place.ensures.quiet c.drawn_places-nodes.ensures.quiet).grows in
    let here = up.records _ _ (root_here g d) in
    let at = found_up law1 last c.in-Deep.middle.0 c.in-Some.q.0 c.in-Some.ensures.place in
    let value = value_tree law c.in-Deep.middle.0 c.in-Some.q.0 (deep_middle law c.args.root.0 c.in-Deep.left c.in-Deep.middle c.in-Deep.right c.in-Deep.size c.in-Deep.key here) at in
    drawn_ready law c.args.side c.args.root.0 c.in-Deep.left c.in-Deep.middle c.in-Deep.right c.both_ends.result.0 c.both_ends.result.1 c.in-Deep.size c.in-Deep.key here c.both_ends.ensures c.has_one.result (one_here g d up) c.if-not-has_one.false c.in-Some.q.0 at value c.drawn_places-nodes.result c.drawn_places-nodes.ensures.count c.drawn_places-nodes.ensures.most

pub returns-in-None-clause-quiet : goal.returns-in-None-clause-quiet
returns-in-None-clause-quiet g c = Quiet_trans (Quiet_trans c.read.ensures.quiet c.has_one.ensures.quiet) c.value_place.ensures.quiet

pub returns-in-None-clause-answer : goal.returns-in-None-clause-answer
returns-in-None-clause-answer g c =
    let d = (goal.at.returns-in-None-clause-answer g c).After-has_one in
    let up = c.value_place.ensures.quiet.grows in
    draw_waits (g.met.H.Heap.lawful c.value_place.new.h).world c.args.side c.args.root.0 c.in-Deep.left c.in-Deep.middle c.in-Deep.right c.both_ends.result.0 c.both_ends.result.1 c.in-Deep.size c.in-Deep.key (up.records _ _ (root_here g d)) c.both_ends.ensures c.has_one.result (one_here g d up) c.if-not-has_one.false c.in-None.ensures.place
