use Rattle.std.proofs.Common.{◌∙◌, sym}
use Rattle.std.proofs.lemmas.Result.{err_from_is_err_and}
use Rattle.force_engine.proofs.Turns.{Passed_trans}
use Rattle.force_engine.proofs.Running.{IsForcing, running_looked, running_opened, running_popped, running_refused, need_funded}
use Rattle.force_engine.proofs.solo.run.Goals as goal
use Rattle.force_engine.proofs.solo.run.Goals.{After-prepare}

-- the turn after its prepare
looked : (g : _) (c : After-prepare g) → IsForcing (g.J.Jobs.does c.args.jobs.now) (g.C.Heap.view c.args.heap.now) (g.C.Heap.view c.prepare.new.h) c.args.first.place c.loop-t.stack (record c.loop-t.newest { cursor = c.prepare.new.cursor })
looked g c = running_looked c.loop-t.stack c.loop-t.newest c.prepare.new.cursor c.loop-t.invariant c.prepare.ensures.quiet c.prepare.ensures.cursor

pub returns-in_err-newest-in-Need-clause-gave_up : goal.returns-in_err-newest-in-Need-clause-gave_up
returns-in_err-newest-in-Need-clause-gave_up g c =
    let p = err_from_is_err_and c.from_residual.result c.from_residual.ensures.1 in
    let k = looked g (goal.at.returns-in_err-newest-in-Need-clause-gave_up g c).After-prepare in
    rw (p.1, p.2) (running_refused c.loop-t.stack (record c.loop-t.newest { cursor = c.prepare.new.cursor }) c.in_err-newest-in-Need.field-0.0 k c.in_err-newest-in-Need.ensures.gave_up)

pub loop-t-preserved-in-Need : goal.loop-t-preserved-in-Need
loop-t-preserved-in-Need g c =
    let e = c.in_ok-newest-in-Need.ensures in
    let k = looked g (goal.at.loop-t-preserved-in-Need g c).After-prepare in
    running_opened c.loop-t.stack c.open_need.new.stack (record c.loop-t.newest { cursor = c.prepare.new.cursor }) c.in_ok-newest-in-Need.newest k (rw e.opened.0 c.in-Need.ensures.answer.work) e.opened.1 e.waits e.stacked e.passed

pub returns-in_err-place-in-Ready-clause-gave_up : goal.returns-in_err-place-in-Ready-clause-gave_up
returns-in_err-place-in-Ready-clause-gave_up g c =
    let p = err_from_is_err_and c.from_residual-in_err-place-in-Ready.result c.from_residual-in_err-place-in-Ready.ensures.1 in
    let k = looked g (goal.at.returns-in_err-place-in-Ready-clause-gave_up g c).After-prepare in
    rw (p.1, p.2) (running_refused c.loop-t.stack (record c.loop-t.newest { cursor = c.prepare.new.cursor }) c.in_err-place-in-Ready.field-0.0 k c.in_err-place-in-Ready.ensures.gave_up)

pub loop-t-preserved : goal.loop-t-preserved
loop-t-preserved g c =
    let e = c.in_ok-place-in-Ready.ensures in
    let k = looked g (goal.at.loop-t-preserved g c).After-prepare in
    running_popped c.loop-t.stack c.pop.new.self (record c.loop-t.newest { cursor = c.prepare.new.cursor }) c.in-Some.waiting k (sym e.waiting ∙ c.in-Some.ensures.top) (rw e.waiting at e.stacked) e.passed

pub returns-in-None-clause-passed : goal.returns-in-None-clause-passed
returns-in-None-clause-passed g c =
    Passed_trans (looked g (goal.at.returns-in-None-clause-passed g c).After-prepare).passed c.in_ok-place-in-Ready.ensures.passed

pub open_need-requires-clause-stacked : goal.open_need-requires-clause-stacked
open_need-requires-clause-stacked g c = (looked g (goal.at.open_need-requires-clause-stacked g c).After-prepare).stacked

pub open_need-requires-clause-funded : goal.open_need-requires-clause-funded
open_need-requires-clause-funded g c = need_funded c.in-Need.t.0 (g.met.C.Heap.lawful c.prepare.new.h) (looked g (goal.at.open_need-requires-clause-funded g c).After-prepare) c.in-Need.ensures.answer

pub finish-requires-clause-stacked : goal.finish-requires-clause-stacked
finish-requires-clause-stacked g c = (looked g (goal.at.finish-requires-clause-stacked g c).After-prepare).stacked
