use Rattle.std.proofs.Common.{◌≡◌, refl, Some}
use Rattle.lazy_rec.specs.declared.records.Rec.TheVariants.{Deep}
use Rattle.heap_store.specs.World.{recs}
use Rattle.heap_store.proofs.GrowthLaws.{at_true}
use Rattle.heap_store.proofs.Steps.{Quiet_trans}
use Rattle.heap_store.proofs.ReadLaws.{is_there}
use Rattle.finger_level.specs.Reads.{is_tree_rec}
use Rattle.finger_level.proofs.Found.{IsValueAt, digit_grows, value_tree}
use Rattle.finger_level.proofs.Draws.{deep_digits, no_other, tree_is}
use Rattle.finger_level.proofs.Popping.{whole_up, deep_middle, middle_upper, few_there, found_up, rest_of_one, rest_of_some, rest_of_none, rest_waits}
use Rattle.finger_level.proofs.pops.popped_level.Goals as goal
use Rattle.finger_level.proofs.pops.popped_level.Goals.{After-take_end-taken, In-Some-value_place}

pub read_digit-whole-requires : goal.read_digit-whole-requires
read_digit-whole-requires g c = (deep_digits (g.met.H.Heap.lawful c.read.new.self).world c.args.root.0 c.in-Deep.left c.in-Deep.middle c.in-Deep.right c.in-Deep.size c.in-Deep.key (c.read.ensures.quiet.grows.records _ _ c.in-Deep.ensures.rec) c.args.side c.both_ends.result.0 c.both_ends.result.1 c.both_ends.ensures).0

-- the root, once its digit is read
root_here : (g : _) (c : After-take_end-taken g) → recs (g.H.Heap.view c.read_digit-whole.new.h).seen c.args.root.0 ≡ Some (Deep c.in-Deep.left c.in-Deep.middle c.in-Deep.right c.in-Deep.size c.in-Deep.key)
root_here g c = c.read_digit-whole.ensures.quiet.grows.records _ _ (c.read.ensures.quiet.grows.records _ _ c.in-Deep.ensures.rec)

pub value_place-requires : goal.value_place-requires
value_place-requires g c =
    let w = recs (g.H.Heap.view c.read_digit-whole.new.h).seen in
    let t = at_true is_tree_rec (w c.in-Deep.middle.0) (deep_middle (g.met.H.Heap.lawful c.read_digit-whole.new.h).world c.args.root.0 c.in-Deep.left c.in-Deep.middle c.in-Deep.right c.in-Deep.size c.in-Deep.key (root_here g (goal.at.value_place-requires g c).After-take_end-taken)) in
    is_there w c.in-Deep.middle.0 (t.0, t.1)

-- the value of the middle, once it is found
found : (g : _) (c : In-Some-value_place g) → IsValueAt (g.H.Heap.view c.value_place.new.h).seen c.in-Deep.middle.0 c.in-Some-value_place.q.0
found g c =
    let law = (g.met.H.Heap.lawful c.value_place.new.h).world in
    let e = c.value_place.ensures.quiet.grows.records _ _ (c.read_digit-whole.ensures.quiet.grows.records _ _ (c.read.ensures.quiet.grows.records _ _ c.in-Deep.ensures.rec)) in
    value_tree law c.in-Deep.middle.0 c.in-Some-value_place.q.0 (deep_middle law c.args.root.0 c.in-Deep.left c.in-Deep.middle c.in-Deep.right c.in-Deep.size c.in-Deep.key e) c.in-Some-value_place.ensures.place

pub drawn_level-level-requires-clause-upper : goal.drawn_level-level-requires-clause-upper
drawn_level-level-requires-clause-upper g c =
    let law0 = (g.met.H.Heap.lawful c.args.h.now).world in
    let law = (g.met.H.Heap.lawful c.value_place.new.h).world in
    let q2 = Quiet_trans c.read_digit-whole.ensures.quiet c.value_place.ensures.quiet in
    let q1 = Quiet_trans c.read.ensures.quiet q2 in
    middle_upper law c.args.root.0 (whole_up law0 q1.grows c.args.root.0 c.requires) c.in-Deep.left c.in-Deep.middle c.in-Deep.right c.in-Deep.size c.in-Deep.key (q1.grows.records _ _ c.in-Deep.ensures.rec) c.in-Some-value_place.q.0 (found g (goal.at.drawn_level-level-requires-clause-upper g c).In-Some-value_place)

pub drawn_level-level-requires-clause-digit : goal.drawn_level-level-requires-clause-digit
drawn_level-level-requires-clause-digit g c =
    let q2 = Quiet_trans c.read_digit-whole.ensures.quiet c.value_place.ensures.quiet in
    let q1 = Quiet_trans c.read.ensures.quiet q2 in
    (deep_digits (g.met.H.Heap.lawful c.value_place.new.h).world c.args.root.0 c.in-Deep.left c.in-Deep.middle c.in-Deep.right c.in-Deep.size c.in-Deep.key (q1.grows.records _ _ c.in-Deep.ensures.rec) c.args.side c.both_ends.result.0 c.both_ends.result.1 c.both_ends.ensures).1

pub read_digit-few-requires : goal.read_digit-few-requires
read_digit-few-requires g c = (deep_digits (g.met.H.Heap.lawful c.read_digit-whole.new.h).world c.args.root.0 c.in-Deep.left c.in-Deep.middle c.in-Deep.right c.in-Deep.size c.in-Deep.key (root_here g (goal.at.read_digit-few-requires g c).After-take_end-taken) c.args.side c.both_ends.result.0 c.both_ends.result.1 c.both_ends.ensures).1

pub returns-in-Some-value_place-clause-quiet : goal.returns-in-Some-value_place-clause-quiet
returns-in-Some-value_place-clause-quiet g c = Quiet_trans (Quiet_trans c.read.ensures.quiet c.read_digit-whole.ensures.quiet) (Quiet_trans c.value_place.ensures.quiet c.drawn_level-level.ensures.quiet)

pub returns-in-Some-value_place-clause-popped : goal.returns-in-Some-value_place-clause-popped
returns-in-Some-value_place-clause-popped g c =
    let q4 = c.drawn_level-level.ensures.quiet in
    let q3 = Quiet_trans c.value_place.ensures.quiet q4 in
    let q2 = Quiet_trans c.read_digit-whole.ensures.quiet q3 in
    let q1 = Quiet_trans c.read.ensures.quiet q2 in
    let law1 = (g.met.H.Heap.lawful c.value_place.new.h).world in
    let law = (g.met.H.Heap.lawful c.drawn_level-level.new.h).world in
    let here = q1.grows.records _ _ c.in-Deep.ensures.rec in
    let far = few_there law c.both_ends.result.1.0 (deep_digits law c.args.root.0 c.in-Deep.left c.in-Deep.middle c.in-Deep.right c.in-Deep.size c.in-Deep.key here c.args.side c.both_ends.result.0 c.both_ends.result.1 c.both_ends.ensures).1 in
    let at = found_up law1 q4.grows c.in-Deep.middle.0 c.in-Some-value_place.q.0 c.in-Some-value_place.ensures.place in
    rest_of_none law c.args.side c.args.root.0 c.in-Deep.left c.in-Deep.middle c.in-Deep.right c.both_ends.result.0 c.both_ends.result.1 c.take_end-taken.result.element c.read_digit-whole.result
    (record { size = c.in-Deep.size; key = c.in-Deep.key; here = here; ends = c.both_ends.ensures; near_at = digit_grows q3.grows _ _ (digit_grows c.read_digit-whole.ensures.quiet.grows _ _ c.read_digit-whole.ensures.shown); taken = rw c.in_default-rest.is at c.take_end-taken.ensures })
    far.0 far.1 c.in-Some-value_place.q.0 at (value_tree law c.in-Deep.middle.0 c.in-Some-value_place.q.0 (deep_middle law c.args.root.0 c.in-Deep.left c.in-Deep.middle c.in-Deep.right c.in-Deep.size c.in-Deep.key here) at) c.drawn_level-level.result c.drawn_level-level.ensures.drawn

pub returns-in-None-clause-quiet : goal.returns-in-None-clause-quiet
returns-in-None-clause-quiet g c = Quiet_trans (Quiet_trans c.read.ensures.quiet c.read_digit-whole.ensures.quiet) c.value_place.ensures.quiet

pub returns-in-None-clause-popped : goal.returns-in-None-clause-popped
returns-in-None-clause-popped g c =
    let q3 = c.value_place.ensures.quiet in
    let q2 = Quiet_trans c.read_digit-whole.ensures.quiet q3 in
    let q1 = Quiet_trans c.read.ensures.quiet q2 in
    let law = (g.met.H.Heap.lawful c.value_place.new.h).world in
    let here = q1.grows.records _ _ c.in-Deep.ensures.rec in
    let far = few_there law c.both_ends.result.1.0 (deep_digits law c.args.root.0 c.in-Deep.left c.in-Deep.middle c.in-Deep.right c.in-Deep.size c.in-Deep.key here c.args.side c.both_ends.result.0 c.both_ends.result.1 c.both_ends.ensures).1 in
    rest_waits law c.args.side c.args.root.0 c.in-Deep.left c.in-Deep.middle c.in-Deep.right c.both_ends.result.0 c.both_ends.result.1 c.take_end-taken.result.element c.read_digit-whole.result far.0
    (record { size = c.in-Deep.size; key = c.in-Deep.key; here = here; ends = c.both_ends.ensures; near_at = digit_grows q3.grows _ _ (digit_grows c.read_digit-whole.ensures.quiet.grows _ _ c.read_digit-whole.ensures.shown); taken = rw c.in_default-rest.is at c.take_end-taken.ensures })
    far.1 c.in-None.ensures.place

pub returns-in-Some-clause-quiet : goal.returns-in-Some-clause-quiet
returns-in-Some-clause-quiet g c = Quiet_trans (Quiet_trans c.read.ensures.quiet c.read_digit-whole.ensures.quiet) c.read_digit-few.ensures.quiet

pub returns-in-Some-clause-popped : goal.returns-in-Some-clause-popped
returns-in-Some-clause-popped g c =
    let q3 = c.read_digit-few.ensures.quiet in
    let q2 = Quiet_trans c.read_digit-whole.ensures.quiet q3 in
    let q1 = Quiet_trans c.read.ensures.quiet q2 in
    rw c.level_by-level.ensures (rest_of_some (g.met.H.Heap.lawful c.read_digit-few.new.h).world c.args.side c.args.root.0 c.in-Deep.left c.in-Deep.middle c.in-Deep.right c.both_ends.result.0 c.both_ends.result.1 c.take_end-taken.result.element c.in-Some.rest c.read_digit-whole.result c.read_digit-few.result
    (record { size = c.in-Deep.size; key = c.in-Deep.key; here = q1.grows.records _ _ c.in-Deep.ensures.rec; ends = c.both_ends.ensures; near_at = digit_grows q2.grows _ _ c.read_digit-whole.ensures.shown; taken = rw c.in-Some.is at c.take_end-taken.ensures })
    (digit_grows q3.grows _ _ c.read_digit-few.ensures.shown))

pub unreachable-requires : goal.unreachable-requires
unreachable-requires g c = no_other c.read.result (tree_is (recs (g.H.Heap.view c.args.h.now).seen) c.args.root.0 c.requires.value c.read.result c.read.ensures.rec) c.in_default.not-TEmpty c.in_default.not-Single c.in_default.not-Deep

pub returns-in-TEmpty-clause-popped : goal.returns-in-TEmpty-clause-popped
returns-in-TEmpty-clause-popped g c = rw (c.read.ensures.quiet.grows.records _ _ c.in-TEmpty.ensures.rec) refl

pub returns-in-Single-clause-popped : goal.returns-in-Single-clause-popped
returns-in-Single-clause-popped g c = rest_of_one (g.met.H.Heap.lawful c.read.new.self).world c.args.side c.args.root.0 c.in-Single.elem c.in-Single.size c.in-Single.key (c.read.ensures.quiet.grows.records _ _ c.in-Single.ensures.rec)
