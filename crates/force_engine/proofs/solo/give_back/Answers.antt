use Rattle.std.proofs.Common.{◌≡◌, ◌∙◌, ap, ◌∷◌, reverse}
use Rattle.force_engine.proofs.Giving.{reverse-push, backing_start, backing_next, backing_end, newest_room, backing_room}
use Rattle.force_engine.proofs.solo.give_back.Goals as goal

pub loop-frame-init : goal.loop-frame-init
loop-frame-init g c = backing_next c.args.newest (reverse c.args.stack.now) (backing_start _ _ c.requires.claims c.requires.room) (g.met.C.Heap.lawful c.args.heap.now) c.give_up.ensures

pub loop-frame-preserved : goal.loop-frame-preserved
loop-frame-preserved g c =
    let e : reverse c.loop-frame.stack ≡ c.in-Some.frame ∷ reverse c.pop.new.self = ap reverse c.in-Some.ensures.top ∙ reverse-push c.pop.new.self c.in-Some.frame in
    backing_next c.in-Some.frame (reverse c.pop.new.self) (rw e at c.loop-frame.invariant) (g.met.C.Heap.lawful c.loop-frame.heap) c.give_up-in-Some.ensures

pub returns-clause-back : goal.returns-clause-back
returns-clause-back g c = backing_end (g.met.C.Heap.lawful c.args.heap.now) c.requires.claims (rw c.in_default.ensures.none.0 at c.loop-frame.invariant)

pub give_up-requires-clause-places : goal.give_up-requires-clause-places
give_up-requires-clause-places g c = newest_room (g.C.Heap.view c.args.heap.now) c.args.newest (reverse c.args.stack.now) c.requires.claims c.requires.room

pub give_up-requires-in-Some-clause-places : goal.give_up-requires-in-Some-clause-places
give_up-requires-in-Some-clause-places g c =
    let e : reverse c.loop-frame.stack ≡ c.in-Some.frame ∷ reverse c.pop.new.self = ap reverse c.in-Some.ensures.top ∙ reverse-push c.pop.new.self c.in-Some.frame in
    backing_room c.in-Some.frame (reverse c.pop.new.self) (rw e at c.loop-frame.invariant)
