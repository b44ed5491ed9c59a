use Rattle.std.proofs.Common.{◌≡◌, ◌∙◌, Some}
use Rattle.lazy_rec.specs.declared.records.Rec.TheVariants.{Deep}
use Rattle.heap_store.specs.World.{recs}
use Rattle.heap_store.proofs.Steps.{Quiet_trans}
use Rattle.finger_level.proofs.Draws.{deep_digits}
use Rattle.finger_level.proofs.PushPlaces.{empty_places, single_places, deep_places}
use Rattle.finger_level.proofs.pushes.pushed_places.Goals as goal
use Rattle.finger_level.proofs.pushes.pushed_places.Goals.{In-Deep}

here : (g : _) (c : In-Deep g) → recs (g.H.Heap.view c.read.new.self).seen c.args.q.0 ≡ Some (Deep c.in-Deep.left c.in-Deep.middle c.in-Deep.right c.in-Deep.size c.in-Deep.key)
here g c = c.read.ensures.quiet.grows.records _ _ c.in-Deep.ensures.rec

pub digit_length-before-requires : goal.digit_length-before-requires
digit_length-before-requires g c = (deep_digits (g.met.H.Heap.lawful c.read.new.self).world c.args.q.0 c.in-Deep.left c.in-Deep.middle c.in-Deep.right c.in-Deep.size c.in-Deep.key (here g (goal.at.digit_length-before-requires g c).In-Deep) c.args.side c.both_ends.result.0 c.both_ends.result.1 c.both_ends.ensures).0

pub returns-in-TEmpty-clause-places : goal.returns-in-TEmpty-clause-places
returns-in-TEmpty-clause-places g c = λ es n shown h. c.either.ensures ∙ empty_places (g.H.Heap.view c.read.new.self).seen c.args.side c.args.q.0 (c.read.ensures.quiet.grows.records _ _ c.in-TEmpty.ensures.rec) c.args.count c.requires.some c.requires.few es n shown h

pub returns-in-Single-clause-places : goal.returns-in-Single-clause-places
returns-in-Single-clause-places g c = single_places (g.H.Heap.view c.read.new.self).seen c.args.side c.args.q.0 c.in-Single.elem c.in-Single.size c.in-Single.key (c.read.ensures.quiet.grows.records _ _ c.in-Single.ensures.rec) c.args.count c.requires.some c.requires.few

pub returns-in-Deep-clause-quiet : goal.returns-in-Deep-clause-quiet
returns-in-Deep-clause-quiet g c = Quiet_trans c.read.ensures.quiet c.digit_length-before.ensures.quiet

pub returns-in-Deep-clause-places : goal.returns-in-Deep-clause-places
returns-in-Deep-clause-places g c =
    let e = c.digit_length-before.ensures.quiet.grows.records _ _ (here g (goal.at.returns-in-Deep-clause-places g c).In-Deep) in
    λ es n shown h. c.either-in-Deep.ensures ∙ deep_places (g.met.H.Heap.lawful c.digit_length-before.new.h).world c.args.side c.args.q.0 c.in-Deep.left c.in-Deep.middle c.in-Deep.right c.both_ends.result.0 c.both_ends.result.1 c.in-Deep.size c.in-Deep.key e c.both_ends.ensures c.digit_length-before.result c.digit_length-before.ensures.exact c.args.count c.requires.some c.requires.few es n shown h
