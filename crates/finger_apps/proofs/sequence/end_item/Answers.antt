use Rattle.heap_store.specs.World.{recs}
use Rattle.heap_store.proofs.ReadLaws.{holds_at}
use Rattle.heap_store.proofs.Steps.{Quiet_trans}
use Rattle.finger_level.specs.Reads.{is_tree_value}
use Rattle.finger_level.proofs.Found.{digit_grows}
use Rattle.finger_apps.proofs.SequenceEnds.{single_leaf, single_end, DeepEnds, deep_ends, side_digit, digit_leaf, deep_end, empty_end, level_later, end_back}
use Rattle.finger_apps.proofs.sequence.end_item.Goals as goal
use Rattle.finger_apps.proofs.sequence.end_item.Goals.{In-Single, In-Deep, After-end_element}

pub leaf_item-requires : goal.leaf_item-requires
leaf_item-requires g c =
    let r = c.in-Single in
    let q = c.read.ensures.quiet in
    single_leaf (g.met.H.Heap.lawful c.read.new.self).world c.args.root.0 r.elem r.size r.key (q.grows.records _ _ r.ensures.rec) (level_later (g.met.H.Heap.lawful c.args.h.now).world q.grows c.args.root.0 (_, r.ensures.rec) c.requires.of_level)

-- the ends of a deep tree, once its record is read
ends : (g : _) (c : In-Deep g) → DeepEnds (g.H.Heap.view c.read.new.self).seen c.in-Deep.left.0 c.in-Deep.right.0
ends g c =
    let r = c.in-Deep in
    let q = c.read.ensures.quiet in
    deep_ends (g.met.H.Heap.lawful c.read.new.self).world c.args.root.0 r.left r.middle r.right r.size r.key (q.grows.records _ _ r.ensures.rec) (level_later (g.met.H.Heap.lawful c.args.h.now).world q.grows c.args.root.0 (_, r.ensures.rec) c.requires.of_level)

pub read_digit-few-requires : goal.read_digit-few-requires
read_digit-few-requires g c = rw c.place_at-digit.ensures (side_digit c.in-Deep.left c.in-Deep.right (ends g (goal.at.read_digit-few-requires g c).In-Deep) c.args.side)

-- the same once the digit is read
later : (g : _) (c : After-end_element g) → DeepEnds (g.H.Heap.view c.read_digit-few.new.h).seen c.in-Deep.left.0 c.in-Deep.right.0
later g c =
    let r = c.in-Deep in
    let q = Quiet_trans c.read.ensures.quiet c.read_digit-few.ensures.quiet in
    deep_ends (g.met.H.Heap.lawful c.read_digit-few.new.h).world c.args.root.0 r.left r.middle r.right r.size r.key (q.grows.records _ _ r.ensures.rec) (level_later (g.met.H.Heap.lawful c.args.h.now).world q.grows c.args.root.0 (_, r.ensures.rec) c.requires.of_level)

pub leaf_item-requires-in-Deep : goal.leaf_item-requires-in-Deep
leaf_item-requires-in-Deep g c =
    let k = later g (goal.at.leaf_item-requires-in-Deep g c).After-end_element in
    let q = c.read_digit-few.ensures.quiet.grows in
    digit_leaf (g.met.H.Heap.lawful c.read_digit-few.new.h).world c.in-Deep.left c.in-Deep.right k c.args.side c.place_at-digit.result c.place_at-digit.ensures c.read_digit-few.result (digit_grows q c.place_at-digit.result.0 _ c.read_digit-few.ensures.shown) c.end_element.result.0 c.end_element.ensures

pub returns-in-Single-clause-quiet : goal.returns-in-Single-clause-quiet
returns-in-Single-clause-quiet g c = Quiet_trans c.read.ensures.quiet c.leaf_item.ensures.quiet

pub returns-in-Single-clause-item : goal.returns-in-Single-clause-item
returns-in-Single-clause-item g c =
    let r = c.in-Single in
    let law0 = (g.met.H.Heap.lawful c.args.h.now).world in
    let q1 = c.read.ensures.quiet.grows in
    end_back law0 q1 c.args.root.0 (_, r.ensures.rec) c.args.side _ (single_end (g.met.H.Heap.lawful c.read.new.self).world c.args.root.0 r.elem r.size r.key c.leaf_item.result (q1.records _ _ r.ensures.rec) c.leaf_item.ensures.item c.args.side)

pub returns-in-Deep-clause-quiet : goal.returns-in-Deep-clause-quiet
returns-in-Deep-clause-quiet g c = Quiet_trans c.read.ensures.quiet (Quiet_trans c.read_digit-few.ensures.quiet c.leaf_item-in-Deep.ensures.quiet)

pub returns-in-Deep-clause-item : goal.returns-in-Deep-clause-item
returns-in-Deep-clause-item g c =
    let r = c.in-Deep in
    let law0 = (g.met.H.Heap.lawful c.args.h.now).world in
    let q = Quiet_trans c.read.ensures.quiet c.read_digit-few.ensures.quiet in
    let k = later g (goal.at.returns-in-Deep-clause-item g c).After-end_element in
    end_back law0 q.grows c.args.root.0 (_, r.ensures.rec) c.args.side _ (deep_end (g.met.H.Heap.lawful c.read_digit-few.new.h).world c.args.root.0 r.left r.middle r.right r.size r.key c.leaf_item-in-Deep.result (q.grows.records _ _ r.ensures.rec) k c.args.side c.place_at-digit.result c.place_at-digit.ensures c.read_digit-few.result (digit_grows c.read_digit-few.ensures.quiet.grows c.place_at-digit.result.0 _ c.read_digit-few.ensures.shown) c.end_element.result.0 c.end_element.ensures c.leaf_item-in-Deep.ensures.item)

pub returns-in_default : goal.returns-in_default
returns-in_default g c = record {
  quiet = c.read.ensures.quiet;
  item = empty_end (g.met.H.Heap.lawful c.args.h.now).world c.args.root.0 c.read.result c.read.ensures.rec (holds_at (recs (g.H.Heap.view c.args.h.now).seen) c.args.root.0 is_tree_value c.read.result c.requires.value c.read.ensures.rec) c.in_default.not-Single c.in_default.not-Deep c.args.side;
}
