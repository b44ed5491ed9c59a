use Rattle.std.proofs.Common.{Some, None}
use Rattle.finger_apps.proofs.Bases.{given}
use Rattle.finger_apps.proofs.Looks.{look_built}
use Rattle.finger_apps.proofs.events.look.Goals as goal

pub end_item-requires-clause-value : goal.end_item-requires-clause-value
end_item-requires-clause-value g c = (given (g.met.H.Heap.lawful c.args.h.now).world c.requires.kind c.requires.build).base.value

pub end_item-requires-clause-of_level : goal.end_item-requires-clause-of_level
end_item-requires-clause-of_level g c = (given (g.met.H.Heap.lawful c.args.h.now).world c.requires.kind c.requires.build).base.of_level

pub returns-in-Some-clause-built : goal.returns-in-Some-clause-built
returns-in-Some-clause-built g c =
    let law = (g.met.H.Heap.lawful c.args.h.now).world in
    look_built law (g.met.H.Heap.lawful c.end_item.new.h).world c.end_item.ensures.quiet (given law c.requires.kind c.requires.build) c.requires.kind c.args.side c.requires.op (Some c.in-Some.item) c.in-Some.ensures.item c.at_base.result c.at_base.ensures

pub returns-in-None-clause-built : goal.returns-in-None-clause-built
returns-in-None-clause-built g c =
    let law = (g.met.H.Heap.lawful c.args.h.now).world in
    look_built law (g.met.H.Heap.lawful c.end_item.new.h).world c.end_item.ensures.quiet (given law c.requires.kind c.requires.build) c.requires.kind c.args.side c.requires.op None c.in-None.ensures.item c.at_base-in-None.result c.at_base-in-None.ensures
