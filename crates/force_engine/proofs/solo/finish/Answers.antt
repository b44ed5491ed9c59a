use Rattle.std.proofs.Common.{reverse}
use Rattle.force_engine.proofs.Turns.{was_refused, refused_room}
use Rattle.force_engine.proofs.Finish.{Finished, buildable, finished, may_reserve}
use Rattle.force_engine.proofs.solo.finish.Goals as goal
use Rattle.force_engine.proofs.solo.finish.Goals.{After-complete}

pub build-built-requires-clause-build : goal.build-built-requires-clause-build
build-built-requires-clause-build g c = buildable c.args.newest (reverse c.args.stack.now) (g.met.C.Heap.lawful c.args.heap.now) c.requires.stacked c.requires.ready c.in-Ok.ensures.ok

pub returns-in-Err-clause-gave_up : goal.returns-in-Err-clause-gave_up
returns-in-Err-clause-gave_up g c = was_refused c.args.newest (reverse c.args.stack.now) (g.met.C.Heap.lawful c.args.heap.now) (g.met.C.Heap.lawful c.reserve.new.self) c.requires.stacked c.requires.ready (may_reserve c.args.newest (reverse c.args.stack.now) c.requires.stacked c.requires.ready) c.in-Err.ensures.err c.give_back.ensures.back

end : (g : _) (c : After-complete g) → Finished (g.C.Heap.view c.args.heap.now) (g.C.Heap.view c.complete.new.self) (reverse c.args.stack.now) c.args.newest.place.0 c.build-built.result.place.0
end g c = finished c.args.newest (reverse c.args.stack.now) (g.met.C.Heap.lawful c.args.heap.now) (g.met.C.Heap.lawful c.reserve.new.self) c.requires.stacked c.requires.ready c.in-Ok.ensures.ok c.build-built.ensures c.complete.ensures

pub returns-in-Ok-clause-stacked : goal.returns-in-Ok-clause-stacked
returns-in-Ok-clause-stacked g c = (end g (goal.at.returns-in-Ok-clause-stacked g c).After-complete).stacked

pub returns-in-Ok-clause-passed : goal.returns-in-Ok-clause-passed
returns-in-Ok-clause-passed g c = (end g (goal.at.returns-in-Ok-clause-passed g c).After-complete).passed

pub returns-in-Ok-clause-falls : goal.returns-in-Ok-clause-falls
returns-in-Ok-clause-falls g c = (end g (goal.at.returns-in-Ok-clause-falls g c).After-complete).falls

pub reserve-requires : goal.reserve-requires
reserve-requires g c = may_reserve c.args.newest (reverse c.args.stack.now) c.requires.stacked c.requires.ready

pub give_back-requires-clause-room : goal.give_back-requires-clause-room
give_back-requires-clause-room g c = refused_room c.args.newest (reverse c.args.stack.now) (g.met.C.Heap.lawful c.args.heap.now) c.requires.stacked c.in-Err.ensures.err
