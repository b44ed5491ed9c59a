use Rattle.heap_store.specs.World.{recs}
use Rattle.heap_store.specs.View.{Quiet}
use Rattle.heap_store.proofs.Steps.{Quiet_trans}
use Rattle.heap_store.proofs.ReadLaws.{is_there}
use Rattle.finger_level.specs.Pops.{IsUpper}
use Rattle.finger_level.proofs.Found.{digit_grows}
use Rattle.finger_level.proofs.NodePuts.{node_grows}
use Rattle.finger_level.proofs.Draws.{drawn_deep, drawn_single, drawn_empty, upper_up, tree_there, tree_is, no_other, single_node, deep_digits, deep_node}
use Rattle.finger_level.proofs.pops.drawn_level.Goals as goal
use Rattle.finger_level.proofs.pops.drawn_level.Goals.{After-read_digit-few, After-read}

upper : (g : _) (c : After-read_digit-few g) → IsUpper (g.H.Heap.view c.read_digit-few.new.h).seen c.args.q.0
upper g c = upper_up (g.met.H.Heap.lawful c.args.h.now).world c.read_digit-few.ensures.quiet.grows c.args.q.0 c.requires.upper

pub read-requires : goal.read-requires
read-requires g c = is_there (recs (g.H.Heap.view c.read_digit-few.new.h).seen) c.args.q.0 (tree_there (recs (g.H.Heap.view c.read_digit-few.new.h).seen) c.args.q.0 (upper g (goal.at.read-requires g c).After-read_digit-few).value)

-- once the middle's value is read
seen : (g : _) (c : After-read g) → Quiet (g.H.Heap.view c.args.h.now) (g.H.Heap.view c.read.new.self)
seen g c = Quiet_trans c.read_digit-few.ensures.quiet c.read.ensures.quiet

pub read_node-group-requires : goal.read_node-group-requires
read_node-group-requires g c =
    let law = g.met.H.Heap.lawful c.args.h.now in
    single_node (g.met.H.Heap.lawful c.read.new.self).world c.args.q.0 (upper_up law.world (seen g (goal.at.read_node-group-requires g c).After-read).grows c.args.q.0 c.requires.upper) c.in-Single.elem c.in-Single.size c.in-Single.key (c.read.ensures.quiet.grows.records _ _ c.in-Single.ensures.rec)

pub read_digit-other-requires : goal.read_digit-other-requires
read_digit-other-requires g c = (deep_digits (g.met.H.Heap.lawful c.read.new.self).world c.args.q.0 c.in-Deep.left c.in-Deep.middle c.in-Deep.right c.in-Deep.size c.in-Deep.key (c.read.ensures.quiet.grows.records _ _ c.in-Deep.ensures.rec) c.args.side c.both_ends.result.0 c.both_ends.result.1 c.both_ends.ensures).1

pub read_digit-whole-requires : goal.read_digit-whole-requires
read_digit-whole-requires g c = (deep_digits (g.met.H.Heap.lawful c.read_digit-other.new.h).world c.args.q.0 c.in-Deep.left c.in-Deep.middle c.in-Deep.right c.in-Deep.size c.in-Deep.key (c.read_digit-other.ensures.quiet.grows.records _ _ (c.read.ensures.quiet.grows.records _ _ c.in-Deep.ensures.rec)) c.args.side c.both_ends.result.0 c.both_ends.result.1 c.both_ends.ensures).0

pub read_node-group-requires-in-Deep : goal.read_node-group-requires-in-Deep
read_node-group-requires-in-Deep g c =
    let law = (g.met.H.Heap.lawful c.args.h.now).world in
    let both = Quiet_trans c.read_digit-other.ensures.quiet c.read_digit-whole.ensures.quiet in
    let all = Quiet_trans (seen g (goal.at.read_node-group-requires-in-Deep g c).After-read) both in
    deep_node (g.met.H.Heap.lawful c.read_digit-whole.new.h).world c.args.q.0 (upper_up law all.grows c.args.q.0 c.requires.upper) c.in-Deep.left c.in-Deep.middle c.in-Deep.right c.in-Deep.size c.in-Deep.key (both.grows.records _ _ (c.read.ensures.quiet.grows.records _ _ c.in-Deep.ensures.rec)) c.args.side c.both_ends.result.0 c.both_ends.result.1 c.both_ends.ensures c.read_digit-whole.result c.read_digit-other.result (digit_grows c.read_digit-whole.ensures.quiet.grows _ _ c.read_digit-whole.ensures.shown) (digit_grows both.grows _ _ c.read_digit-other.ensures.shown) c.take_end-taken.result.element c.take_end-taken.result.rest c.take_end-taken.ensures

pub unreachable-requires : goal.unreachable-requires
unreachable-requires g c =
    let u = upper g (goal.at.unreachable-requires g c).After-read_digit-few in
    no_other c.read.result (tree_is (recs (g.H.Heap.view c.read_digit-few.new.h).seen) c.args.q.0 u.value c.read.result c.read.ensures.rec) c.in_default.not-TEmpty c.in_default.not-Single c.in_default.not-Deep

pub returns-in-TEmpty-clause-quiet : goal.returns-in-TEmpty-clause-quiet
returns-in-TEmpty-clause-quiet g c = Quiet_trans c.read_digit-few.ensures.quiet c.read.ensures.quiet

pub returns-in-TEmpty-clause-drawn : goal.returns-in-TEmpty-clause-drawn
returns-in-TEmpty-clause-drawn g c =
    let k = c.digit_level.ensures in
    let w = (g.H.Heap.view c.read.new.self).seen in
    drawn_empty (g.met.H.Heap.lawful c.read.new.self).world c.args.side c.args.q.0 c.args.p.0 c.read_digit-few.result c.digit_level.result (c.read.ensures.quiet.grows.records _ _ c.in-TEmpty.ensures.rec) (digit_grows (Quiet_trans c.read_digit-few.ensures.quiet c.read.ensures.quiet).grows _ _ c.read_digit-few.ensures.shown)
    (record { made = k.made; places = k.places; there = k.stands w; under = k.under; keyed = λ j ks. k.keys j w ks })

pub returns-in-Single-clause-quiet : goal.returns-in-Single-clause-quiet
returns-in-Single-clause-quiet g c = Quiet_trans (Quiet_trans c.read_digit-few.ensures.quiet c.read.ensures.quiet) c.read_node-group.ensures.quiet

pub returns-in-Single-clause-drawn : goal.returns-in-Single-clause-drawn
returns-in-Single-clause-drawn g c =
    let q = c.read_node-group.ensures.quiet in
    let all = Quiet_trans (Quiet_trans c.read_digit-few.ensures.quiet c.read.ensures.quiet) q in
    rw (c.level_by.ensures, c.few_of_group-node.ensures) (drawn_single (g.met.H.Heap.lawful c.read_node-group.new.h).world c.args.side c.args.q.0 c.in-Single.elem c.args.p c.in-Single.size c.in-Single.key (q.grows.records _ _ (c.read.ensures.quiet.grows.records _ _ c.in-Single.ensures.rec)) c.read_node-group.result c.read_digit-few.result (node_grows q.grows _ _ c.read_node-group.ensures.shown) (digit_grows all.grows _ _ c.read_digit-few.ensures.shown))

pub returns-in-Deep-clause-quiet : goal.returns-in-Deep-clause-quiet
returns-in-Deep-clause-quiet g c = Quiet_trans (Quiet_trans c.read_digit-few.ensures.quiet c.read.ensures.quiet) (Quiet_trans (Quiet_trans c.read_digit-other.ensures.quiet c.read_digit-whole.ensures.quiet) c.read_node-group-in-Deep.ensures.quiet)

pub returns-in-Deep-clause-drawn : goal.returns-in-Deep-clause-drawn
returns-in-Deep-clause-drawn g c =
    let q5 = c.read_node-group-in-Deep.ensures.quiet in
    let q4 = Quiet_trans c.read_digit-whole.ensures.quiet q5 in
    let q3 = Quiet_trans c.read_digit-other.ensures.quiet q4 in
    let q2 = Quiet_trans c.read.ensures.quiet q3 in
    let q1 = Quiet_trans c.read_digit-few.ensures.quiet q2 in
    rw (c.level_by-in-Deep.ensures, c.few_of_group-node-in-Deep.ensures, c.what_is_left-rest.ensures) (drawn_deep (g.met.H.Heap.lawful c.read_node-group-in-Deep.new.h).world c.args.side c.args.q.0 c.in-Deep.left c.in-Deep.middle c.in-Deep.right c.both_ends.result.0 c.both_ends.result.1 c.take_end-taken.result.element c.args.p c.read_node-group-in-Deep.result c.take_end-taken.result.rest c.read_digit-whole.result c.read_digit-other.result c.read_digit-few.result (record {
      size = c.in-Deep.size;
      key = c.in-Deep.key;
      here = q2.grows.records _ _ c.in-Deep.ensures.rec;
      ends = c.both_ends.ensures;
      near_at = digit_grows q4.grows _ _ c.read_digit-whole.ensures.shown;
      far_at = digit_grows q3.grows _ _ c.read_digit-other.ensures.shown;
      node_at = node_grows q5.grows _ _ c.read_node-group-in-Deep.ensures.shown;
      digit_at = digit_grows q1.grows _ _ c.read_digit-few.ensures.shown;
      taken = c.take_end-taken.ensures;
    }))
