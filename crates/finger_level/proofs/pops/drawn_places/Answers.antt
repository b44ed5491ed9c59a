use Rattle.std.proofs.Common.{◌∙◌}
use Rattle.heap_store.specs.World.{recs}
use Rattle.heap_store.proofs.Steps.{Quiet_trans}
use Rattle.finger_level.proofs.Draws.{deep_digits, no_other, tree_is}
use Rattle.finger_level.proofs.PopNeeds.{digit_up, count_of_empty, count_of_single, count_of_deep}
use Rattle.finger_level.proofs.pops.drawn_places.Goals as goal

pub has_one-one-requires : goal.has_one-one-requires
has_one-one-requires g c = digit_up c.read.ensures.quiet.grows c.args.p.0 c.requires.digit

pub has_one-one-requires-in-Deep : goal.has_one-one-requires-in-Deep
has_one-one-requires-in-Deep g c = (deep_digits (g.met.H.Heap.lawful c.read.new.self).world c.args.q.0 c.in-Deep.left c.in-Deep.middle c.in-Deep.right c.in-Deep.size c.in-Deep.key (c.read.ensures.quiet.grows.records _ _ c.in-Deep.ensures.rec) c.args.side c.both_ends.result.0 c.both_ends.result.1 c.both_ends.ensures).0

pub unreachable-requires : goal.unreachable-requires
unreachable-requires g c = no_other c.read.result (tree_is (recs (g.H.Heap.view c.args.h.now).seen) c.args.q.0 c.requires.value c.read.result c.read.ensures.rec) c.in_default.not-TEmpty c.in_default.not-Single c.in_default.not-Deep

pub returns-in-TEmpty-clause-quiet : goal.returns-in-TEmpty-clause-quiet
returns-in-TEmpty-clause-quiet g c = Quiet_trans c.read.ensures.quiet c.has_one-one.ensures.quiet

pub returns-in-TEmpty-clause-count : goal.returns-in-TEmpty-clause-count
returns-in-TEmpty-clause-count g c =
    let q = Quiet_trans c.read.ensures.quiet c.has_one-one.ensures.quiet in
    λ shown s. c.either.ensures ∙ count_of_empty (g.met.H.Heap.lawful c.has_one-one.new.h).world c.args.side c.args.q.0 c.args.p.0 (q.grows.records _ _ c.in-TEmpty.ensures.rec) (digit_up q.grows c.args.p.0 c.requires.digit) c.has_one-one.result c.has_one-one.ensures.one shown s

pub returns-in-Single-clause-count : goal.returns-in-Single-clause-count
returns-in-Single-clause-count g c = λ shown s. count_of_single (g.H.Heap.view c.read.new.self).seen c.args.side c.args.q.0 c.args.p.0 c.in-Single.elem c.in-Single.size c.in-Single.key (c.read.ensures.quiet.grows.records _ _ c.in-Single.ensures.rec) shown s

pub returns-in-Deep-clause-quiet : goal.returns-in-Deep-clause-quiet
returns-in-Deep-clause-quiet g c = Quiet_trans c.read.ensures.quiet c.has_one-one-in-Deep.ensures.quiet

pub returns-in-Deep-clause-count : goal.returns-in-Deep-clause-count
returns-in-Deep-clause-count g c =
    let q = Quiet_trans c.read.ensures.quiet c.has_one-one-in-Deep.ensures.quiet in
    λ shown s. c.either-in-Deep.ensures ∙ count_of_deep (g.H.Heap.view c.has_one-one-in-Deep.new.h).seen c.args.side c.args.q.0 c.args.p.0 c.in-Deep.left c.in-Deep.middle c.in-Deep.right c.both_ends.result.0 c.both_ends.result.1 c.in-Deep.size c.in-Deep.key (q.grows.records _ _ c.in-Deep.ensures.rec) c.both_ends.ensures c.has_one-one-in-Deep.result c.has_one-one-in-Deep.ensures.one shown s
