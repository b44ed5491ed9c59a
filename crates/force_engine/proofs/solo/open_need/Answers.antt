use Rattle.std.proofs.Common.{◌≡◌, ◌∙◌, ap, ◌∷◌, reverse, length, ◌≤◌, arith}
use Rattle.std.proofs.lemmas.List.{length-reverse}
use Rattle.force_engine.specs.Stacked.{places_of}
use Rattle.force_engine.specs.Forced.{GivenBack}
use Rattle.force_engine.proofs.Growing.{pending_published}
use Rattle.force_engine.proofs.Giving.{reverse-push}
use Rattle.force_engine.proofs.Turns.{opened, no_other_answer, wanted_memory}
use Rattle.force_engine.proofs.solo.open_need.Goals as goal

pub unreachable-requires : goal.unreachable-requires
unreachable-requires g c = no_other_answer _ c.args.t c.claim.result c.requires.stacked c.requires.lower c.requires.not_done (g.met.C.Heap.lawful c.args.heap.now) c.claim.ensures c.in-Done.is

pub returns-clause-passed : goal.returns-clause-passed
returns-clause-passed g c = (opened (record { place = c.args.t; cursor = c.new.result }) (g.met.C.Heap.lawful c.args.heap.now) c.requires.stacked (pending_published (g.C.Heap.view c.args.heap.now).seen c.args.t.0 c.requires.pending) c.requires.lower c.in-Won.ensures).passed

pub returns-clause-stacked : goal.returns-clause-stacked
returns-clause-stacked g c =
    let e : reverse c.push.new.self ≡ c.args.newest ∷ reverse c.args.stack.now = ap reverse c.in-Ok.ensures.ok ∙ reverse-push c.args.stack.now c.args.newest in
    rw e (opened (record { place = c.args.t; cursor = c.new.result }) (g.met.C.Heap.lawful c.args.heap.now) c.requires.stacked (pending_published (g.C.Heap.view c.args.heap.now).seen c.args.t.0 c.requires.pending) c.requires.lower c.in-Won.ensures).stacked

pub returns-in-Err-clause-gave_up : goal.returns-in-Err-clause-gave_up
returns-in-Err-clause-gave_up g c =
    let fs = c.args.newest ∷ reverse c.args.stack.now in
    let same = c.in-Err.ensures.err in
    let back : GivenBack (g.C.Heap.view c.args.heap.now) (g.C.Heap.view c.give_back.new.heap) (places_of fs) = rw (← same) c.give_back.ensures.back in
    let many : 64 ≤ length fs = omega (arith, c.in-Err.ensures.full, length-reverse c.args.stack.now) in
    wanted_memory fs (g.met.C.Heap.lawful c.args.heap.now) c.requires.stacked.claims many back
