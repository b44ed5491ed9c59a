use Rattle.std.proofs.Common.{◌∙◌, arith}
use Rattle.version_book.proofs.Works.{Working, working_quiet, working_forced, working_next, working_end, working_buildable, worked_balked, refused_balked, stopped_on, stopped_more, forced_turn, stage_turn, may_reserve, places_of_first}
use Rattle.version_book.proofs.event_work.work.Goals as goal
use Rattle.version_book.proofs.event_work.work.Goals.{After-prepare_event}

-- where the work stands after its prepare
asked : (g : _) (c : After-prepare_event g) → Working (g.R.Heap.view c.args.heap.now) (g.R.Heap.view c.prepare_event.new.h) c.args.job.now c.loop-need.now
asked g c = working_quiet (g.met.R.Heap.lawful c.loop-need.heap).world c.loop-need.invariant.0 c.prepare_event.ensures.quiet

pub returns-in-Err-clause-err : goal.returns-in-Err-clause-err
returns-in-Err-clause-err g c =
    let w = asked g (goal.at.returns-in-Err-clause-err g c).After-prepare_event in
    stopped_on _ _ _ _ c.in-Err.cause w.worked (stopped_more _ _ _ c.in-Err.cause c.in-Err.ensures.err)

pub loop-need-smaller-in_default : goal.loop-need-smaller-in_default
loop-need-smaller-in_default g c = forced_turn c.loop-need.now c.in-Need.need c.in_default.field-0 (g.met.R.Heap.lawful c.force.new.heap) c.prepare_event.ensures.quiet c.in-Need.ensures.answer c.in_default.ensures.ok

pub loop-need-preserved-in_default : goal.loop-need-preserved-in_default
loop-need-preserved-in_default g c =
    let w = asked g (goal.at.loop-need-preserved-in_default g c).After-prepare_event in
    (working_forced (g.met.R.Heap.lawful c.prepare_event.new.h).world w c.in_default.ensures.ok, λ about. c.force.ensures.same about ∙ c.loop-need.invariant.1 about)

pub returns-in-Err-reserve-clause-err : goal.returns-in-Err-reserve-clause-err
returns-in-Err-reserve-clause-err g c =
    let w = asked g (goal.at.returns-in-Err-reserve-clause-err g c).After-prepare_event in
    let few = c.in-Ready.ensures.answer.1 in
    worked_balked w.worked (refused_balked _ (g.met.R.Heap.lawful c.reserve.new.self) (may_reserve w few) (omega (arith, few, places_of_first c.args.job.now c.loop-need.now w.same)) c.in-Err-reserve.ensures.err)

pub build_event-after-requires-clause-build : goal.build_event-after-requires-clause-build
build_event-after-requires-clause-build g c =
    let w = asked g (goal.at.build_event-after-requires-clause-build g c).After-prepare_event in
    working_buildable c.prepare_event.new.cursor (g.met.R.Heap.lawful c.prepare_event.new.h).world w c.in-Ready.ensures.answer.0 c.in-Ok.ensures.ok

pub returns-in-End-clause-ok : goal.returns-in-End-clause-ok
returns-in-End-clause-ok g c =
    let w = asked g (goal.at.returns-in-End-clause-ok g c).After-prepare_event in
    working_end (record { root = c.in-End.root; size = c.in-End.size; reply = c.in-End.reply }) w c.in-Ok.ensures.ok c.build_event-after.ensures.filled (rw c.in-End.is at c.build_event-after.ensures.made)

pub loop-need-smaller : goal.loop-need-smaller
loop-need-smaller g c =
    let n = rw c.in-Next.is at c.build_event-after.ensures.made in
    stage_turn c.loop-need.now c.in-Next.next c.prepare_event.ensures.quiet c.in-Ok.ensures.ok c.build_event-after.ensures.filled n.later

pub loop-need-preserved : goal.loop-need-preserved
loop-need-preserved g c =
    let w = asked g (goal.at.loop-need-preserved g c).After-prepare_event in
    let n = rw c.in-Next.is at c.build_event-after.ensures.made in
    (working_next c.in-Next.next (g.met.R.Heap.lawful c.prepare_event.new.h).world w c.in-Ready.ensures.answer.1 c.in-Ok.ensures.ok c.build_event-after.ensures.filled c.build_event-after.ensures.credits n, c.loop-need.invariant.1)
