use Rattle.std.proofs.Common.{arith, refl}
use Rattle.finger_apps.proofs.Bases.{given}
use Rattle.finger_apps.proofs.PopEnds.{none_built, popped_ask, popped_ended}
use Rattle.finger_apps.proofs.events.pop.Goals as goal

pub returns-then-job-eq0-clause-built : goal.returns-then-job-eq0-clause-built
returns-then-job-eq0-clause-built g c = let law = (g.met.H.Heap.lawful c.args.h.now).world in none_built c.args.side c.requires.kind c.requires.op law (given law c.requires.kind c.requires.build) c.if-job-eq0.true c.at_base.result c.at_base.ensures

pub put_popped-root-requires-clause-tree : goal.put_popped-root-requires-clause-tree
put_popped-root-requires-clause-tree g c = let b = (given (g.met.H.Heap.lawful c.args.h.now).world c.requires.kind c.requires.build).base in record { depth = 0; value = b.value; of_level = b.of_level }

pub put_popped-root-requires-clause-ask : goal.put_popped-root-requires-clause-ask
put_popped-root-requires-clause-ask g c =
    let law = (g.met.H.Heap.lawful c.args.h.now).world in
    popped_ask law (given law c.requires.kind c.requires.build) c.args.side c.requires.kind c.requires.op c.requires.stage _ (omega (arith, c.if-job-eq0.false)) refl

pub returns-clause-built : goal.returns-clause-built
returns-clause-built g c =
    let law = (g.met.H.Heap.lawful c.args.h.now).world in
    popped_ended c.args.side c.requires.kind c.requires.op c.requires.stage law (g.met.H.Heap.lawful c.put_popped-root.new.h).world (given law c.requires.kind c.requires.build) _ refl refl c.put_popped-root.result c.put_popped-root.ensures
