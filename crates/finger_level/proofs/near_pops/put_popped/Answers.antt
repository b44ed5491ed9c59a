use Rattle.std.proofs.Common.{ap, sym, ◌∙◌, length, Some, None}
use Rattle.heap_store.specs.View.{Quiet}
use Rattle.heap_store.proofs.GrowthLaws.{at_true}
use Rattle.heap_store.proofs.ReadLaws.{is_there}
use Rattle.heap_store.proofs.Steps.{Quiet_trans}
use Rattle.heap_store.specs.World.{recs}
use Rattle.finger_level.specs.Reads.{is_tree_rec}
use Rattle.finger_level.specs.Few.{few_list}
use Rattle.finger_level.specs.Keyed.{key_in}
use Rattle.finger_level.specs.Pops.{IsWhole}
use Rattle.finger_level.proofs.Builds.{items_up}
use Rattle.finger_level.proofs.Draws.{deep_digits}
use Rattle.finger_level.proofs.Found.{digit_grows}
use Rattle.finger_level.proofs.Keying.{keyed_up, keyed_items}
use Rattle.finger_level.proofs.Popping.{Taking, whole_up, deep_middle}
use Rattle.finger_level.proofs.NearPushes.{weighed_up as near_up}
use Rattle.finger_level.proofs.NearPops.{ask_later, put_earlier, taking_up, far_few, left_keyed, rest_each, Lessened, lessened, left_ask, left_near, left_put, none_upper, none_digit, none_ask, none_put, none_pending}
use Rattle.finger_level.proofs.near_pops.put_popped.Goals as goal
use Rattle.finger_level.proofs.near_pops.put_popped.Goals.{After-read_weighed-digit, In_default-rest, In-Some}

pub put_rest-requires : goal.put_rest-requires
put_rest-requires g c =
    let q = c.read.ensures.quiet in
    record { tree = whole_up (g.met.H.Heap.lawful c.args.h.now).world q.grows c.args.root.0 c.requires.tree; ask = ask_later q c.requires.ask }

pub returns-in_default : goal.returns-in_default
returns-in_default g c = put_earlier (g.met.H.Heap.lawful c.args.h.now).world c.read.ensures.quiet c.put_rest.ensures

pub read_weighed-digit-requires : goal.read_weighed-digit-requires
read_weighed-digit-requires g c = (deep_digits (g.met.H.Heap.lawful c.read.new.self).world c.args.root.0 c.in-Deep.left c.in-Deep.middle c.in-Deep.right c.in-Deep.size c.in-Deep.key (c.read.ensures.quiet.grows.records _ _ c.in-Deep.ensures.rec) c.args.side c.both_ends.result.0 c.both_ends.result.1 c.both_ends.ensures).0

-- once the digit is read
seen : (g : _) (c : After-read_weighed-digit g) → Quiet (g.H.Heap.view c.args.h.now) (g.H.Heap.view c.read_weighed-digit.new.h)
seen g c = Quiet_trans c.read.ensures.quiet c.read_weighed-digit.ensures.quiet

whole_here : (g : _) (c : After-read_weighed-digit g) → IsWhole (g.H.Heap.view c.read_weighed-digit.new.h).seen c.args.root.0
whole_here g c = whole_up (g.met.H.Heap.lawful c.args.h.now).world (seen g c).grows c.args.root.0 c.requires.tree

-- nothing of the digit is left
emptied : (g : _) (c : In_default-rest g) → Taking (g.H.Heap.view c.read_weighed-digit.new.h).seen c.args.side c.args.root.0 c.in-Deep.left c.in-Deep.middle c.in-Deep.right c.both_ends.result.0 c.both_ends.result.1 c.take_end-taken.result.element None c.read_weighed-digit.result.few
emptied g c =
    let up = c.read_weighed-digit.ensures.quiet.grows in
    record {
      size = c.in-Deep.size;
      key = c.in-Deep.key;
      here = up.records _ _ (c.read.ensures.quiet.grows.records _ _ c.in-Deep.ensures.rec);
      ends = c.both_ends.ensures;
      near_at = digit_grows up _ _ c.read_weighed-digit.ensures.weighed.shown;
      taken = rw c.in_default-rest.is at c.take_end-taken.ensures;
    }

pub value_place-requires : goal.value_place-requires
value_place-requires g c =
    let w = recs (g.H.Heap.view c.read_weighed-digit.new.h).seen in
    let k = emptied g (goal.at.value_place-requires g c).In_default-rest in
    let t = at_true is_tree_rec (w c.in-Deep.middle.0) (deep_middle (g.met.H.Heap.lawful c.read_weighed-digit.new.h).world c.args.root.0 c.in-Deep.left c.in-Deep.middle c.in-Deep.right k.size k.key k.here) in
    is_there w c.in-Deep.middle.0 (t.0, t.1)

pub put_drawn-requires : goal.put_drawn-requires
put_drawn-requires g c =
    let d = goal.at.put_drawn-requires g c in
    let law = g.met.H.Heap.lawful c.value_place.new.h in
    let s = Quiet_trans (seen g d.After-read_weighed-digit) c.value_place.ensures.quiet in
    let k = taking_up c.value_place.ensures.quiet.grows (emptied g d.In_default-rest) in
    let u = whole_up (g.met.H.Heap.lawful c.args.h.now).world s.grows c.args.root.0 c.requires.tree in
    let at = c.in-Some-value_place.ensures.place in
    record {
      upper = none_upper law.world c.args.side c.args.root.0 c.in-Deep.left c.in-Deep.middle c.in-Deep.right c.both_ends.result.0 c.both_ends.result.1 c.take_end-taken.result.element c.read_weighed-digit.result.few k c.in-Some-value_place.q.0 at u;
      digit = none_digit law.world c.args.side c.args.root.0 c.in-Deep.left c.in-Deep.middle c.in-Deep.right c.both_ends.result.0 c.both_ends.result.1 c.take_end-taken.result.element c.read_weighed-digit.result.few k c.in-Some-value_place.q.0 at;
      ask = none_ask law c.args.side c.args.root.0 c.in-Deep.left c.in-Deep.middle c.in-Deep.right c.both_ends.result.0 c.both_ends.result.1 c.take_end-taken.result.element c.read_weighed-digit.result.few k c.args.family.now c.args.whole s c.requires.ask c.in-Some-value_place.q.0 at;
    }

pub returns-in_default-rest : goal.returns-in_default-rest
returns-in_default-rest g c =
    let d = goal.at.returns-in_default-rest g c in
    let s = Quiet_trans (seen g d.After-read_weighed-digit) c.value_place.ensures.quiet in
    let k = taking_up c.value_place.ensures.quiet.grows (emptied g d.In_default-rest) in
    none_put (g.met.H.Heap.lawful c.value_place.new.h) c.args.side c.args.root.0 c.in-Deep.left c.in-Deep.middle c.in-Deep.right c.both_ends.result.0 c.both_ends.result.1 c.take_end-taken.result.element c.read_weighed-digit.result.few k c.args.family.now c.args.whole s c.requires.ask c.in-Some-value_place.q.0 c.in-Some-value_place.ensures.place (g.met.H.Heap.lawful c.args.h.now).world c.put_drawn.ensures

pub unreachable-requires : goal.unreachable-requires
unreachable-requires g c =
    let d = goal.at.unreachable-requires g c in
    let s = Quiet_trans (seen g d.After-read_weighed-digit) c.value_place.ensures.quiet in
    let k = taking_up c.value_place.ensures.quiet.grows (emptied g d.In_default-rest) in
    none_pending (g.met.H.Heap.lawful c.value_place.new.h) c.args.side c.args.root.0 c.in-Deep.left c.in-Deep.middle c.in-Deep.right c.both_ends.result.0 c.both_ends.result.1 c.take_end-taken.result.element c.read_weighed-digit.result.few k c.args.family.now c.args.whole s c.requires.ask c.in-None.ensures.place

-- what was taken
taken : (g : _) (c : In-Some g) → Taking (g.H.Heap.view c.read_weighed-digit.new.h).seen c.args.side c.args.root.0 c.in-Deep.left c.in-Deep.middle c.in-Deep.right c.both_ends.result.0 c.both_ends.result.1 c.take_end-taken.result.element (Some c.in-Some.rest) c.read_weighed-digit.result.few
taken g c =
    let up = c.read_weighed-digit.ensures.quiet.grows in
    record {
      size = c.in-Deep.size;
      key = c.in-Deep.key;
      here = up.records _ _ (c.read.ensures.quiet.grows.records _ _ c.in-Deep.ensures.rec);
      ends = c.both_ends.ensures;
      near_at = digit_grows up _ _ c.read_weighed-digit.ensures.weighed.shown;
      taken = rw c.in-Some.is at c.take_end-taken.ensures;
    }

lesser : (g : _) (c : In-Some g) → Lessened (g.H.Heap.view c.read_weighed-digit.new.h).seen c.in-Some.rest c.in-Deep.size c.args.whole c.read_weighed-digit.result.weight.size
unfolding taken
lesser g c =
    let law1 = (g.met.H.Heap.lawful c.read.new.self).world in
    let law2 = g.met.H.Heap.lawful c.read_weighed-digit.new.h in
    let k = taken g c in
    let quiet = Quiet_trans c.read.ensures.quiet c.read_weighed-digit.ensures.quiet in
    let u = whole_up (g.met.H.Heap.lawful c.args.h.now).world quiet.grows c.args.root.0 c.requires.tree in
    let far = far_few law2.world c.args.side c.args.root.0 c.in-Deep.left c.in-Deep.middle c.in-Deep.right c.both_ends.result.0 c.both_ends.result.1 c.take_end-taken.result.element c.in-Some.rest c.read_weighed-digit.result.few k in
    let ask = left_ask law2 c.args.side c.args.root.0 c.in-Deep.left c.in-Deep.middle c.in-Deep.right c.both_ends.result.0 c.both_ends.result.1 c.take_end-taken.result.element c.in-Some.rest c.read_weighed-digit.result.few k c.args.family.now c.args.whole quiet c.requires.ask far.0 far.1 in
    let weighs = (near_up law1 law2.world c.read_weighed-digit.ensures.quiet.grows c.both_ends.result.0.0 c.read_weighed-digit.result c.read_weighed-digit.ensures.weighed).size in
    lessened law2.world c.args.side c.args.root.0 c.in-Deep.left c.in-Deep.middle c.in-Deep.right c.both_ends.result.0 c.both_ends.result.1 c.take_end-taken.result.element c.in-Some.rest c.read_weighed-digit.result.few k u c.args.whole c.read_weighed-digit.result.weight.size ask.counts weighs

pub overflow_sub-size : goal.overflow_sub-size
overflow_sub-size g c = (lesser g (goal.at.overflow_sub-size g c).In-Some).below

pub weigh_rest-weight-requires-clause-elements : goal.weigh_rest-weight-requires-clause-elements
weigh_rest-weight-requires-clause-elements g c = (lesser g (goal.at.weigh_rest-weight-requires-clause-elements g c).In-Some).elements

pub weigh_rest-weight-requires-clause-small : goal.weigh_rest-weight-requires-clause-small
weigh_rest-weight-requires-clause-small g c = (lesser g (goal.at.weigh_rest-weight-requires-clause-small g c).In-Some).small

pub weigh_rest-weight-requires-clause-counts : goal.weigh_rest-weight-requires-clause-counts
weigh_rest-weight-requires-clause-counts g c = (lesser g (goal.at.weigh_rest-weight-requires-clause-counts g c).In-Some).counts

pub put_near-requires-clause-ask : goal.put_near-requires-clause-ask
put_near-requires-clause-ask g c =
    let d = goal.at.put_near-requires-clause-ask g c in
    let q = Quiet_trans (seen g d.After-read_weighed-digit) c.weigh_rest-weight.ensures.quiet in
    left_near (g.met.H.Heap.lawful c.weigh_rest-weight.new.h) c.args.side c.args.root.0 c.in-Deep.left c.in-Deep.middle c.in-Deep.right c.both_ends.result.0 c.both_ends.result.1 c.take_end-taken.result.element c.in-Some.rest c.read_weighed-digit.result.few (taking_up c.weigh_rest-weight.ensures.quiet.grows (taken g d.In-Some)) c.args.family.now c.args.whole q c.requires.ask

pub put_near-requires-clause-counts : goal.put_near-requires-clause-counts
put_near-requires-clause-counts g c =
    let d = goal.at.put_near-requires-clause-counts g c in
    let law2 = (g.met.H.Heap.lawful c.read_weighed-digit.new.h).world in
    let u = whole_here g d.After-read_weighed-digit in
    let k = taken g d.In-Some in
    let each = rest_each law2 c.args.side c.args.root.0 c.in-Deep.left c.in-Deep.middle c.in-Deep.right c.both_ends.result.0 c.both_ends.result.1 c.take_end-taken.result.element c.in-Some.rest c.read_weighed-digit.result.few k u in
    c.weigh_rest-weight.ensures.size ∙ ap length (items_up law2 c.weigh_rest-weight.ensures.quiet.grows u.depth _ (few_list c.in-Some.rest) each)

pub returns : goal.returns
returns g c =
    let d = goal.at.returns g c in
    let law0 = (g.met.H.Heap.lawful c.args.h.now).world in
    let law2 = (g.met.H.Heap.lawful c.read_weighed-digit.new.h).world in
    let up = c.weigh_rest-weight.ensures.quiet.grows in
    let k = taken g d.In-Some in
    let s = seen g d.After-read_weighed-digit in
    left_put (g.met.H.Heap.lawful c.weigh_rest-weight.new.h) c.args.side c.args.root.0 c.in-Deep.left c.in-Deep.middle c.in-Deep.right c.both_ends.result.0 c.both_ends.result.1 c.take_end-taken.result.element c.in-Some.rest c.read_weighed-digit.result.few (taking_up up k) c.args.family.now c.args.whole (Quiet_trans s c.weigh_rest-weight.ensures.quiet) c.requires.ask c.weigh_rest-weight.result c.args.keyed law0 (g.met.H.Heap.lawful c.put_near.new.h).world c.put_near.ensures.put c.put_near.ensures.keys
    (λ h. (let kept = (left_keyed law2 c.args.side c.args.root.0 c.in-Deep.left c.in-Deep.middle c.in-Deep.right c.both_ends.result.0 c.both_ends.result.1 c.take_end-taken.result.element c.in-Some.rest c.read_weighed-digit.result.few k c.args.keyed (keyed_up law0 s.grows c.args.keyed c.args.root.0 h)).0 in
    c.weigh_rest-weight.ensures.key kept ∙ ap (key_in c.args.keyed) (sym (keyed_items law2 up c.args.keyed (few_list c.in-Some.rest) kept))))
