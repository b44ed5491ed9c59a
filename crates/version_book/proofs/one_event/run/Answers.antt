use Rattle.std.proofs.Common.{sym, subst, IfOk, IfErr}
use Rattle.std.proofs.lemmas.Bool.{lt-ltb}
use Rattle.lazy_rec.specs.declared.events.Event.{Event}
use Rattle.heap_store.specs.declared.jobs.EventJob.{EventJob}
use Rattle.heap_store.specs.Jobs.{IsJob}
use Rattle.heap_store.specs.Stages.{direct_of}
use Rattle.heap_store.specs.Growth.{Grows}
use Rattle.heap_store.proofs.GrowthLaws.{grows_trans}
use Rattle.version_book.specs.Pass.{pass_of}
use Rattle.version_book.specs.Works.{HasMeans, MadeOutcome, Stopped}
use Rattle.version_book.specs.RowSteps.{MayBegin, Begun}
use Rattle.version_book.specs.Calls.{event_of_call}
use Rattle.version_book.proofs.Begins.{begun_working}
use Rattle.version_book.proofs.EventJobs.{job, may_begin, job_begun, means_begun, direct_begun}
use Rattle.version_book.proofs.Called.{CameOut, came_grows, drawn_name, may_end, last_grows, ended_here, called_idle, called_caller, called, ended_so}
use Rattle.version_book.proofs.Entries.{name_low, known_made, work_came, work_answer, outcome_made, at_first}
use Rattle.version_book.proofs.one_event.run.Goals as goal
use Rattle.version_book.proofs.one_event.run.Goals.{After-begin, After-work-made, After-finish}

begun : (g : _) (c : After-begin g) → Begun (g.R.Heap.view c.args.heap.now) (g.R.Heap.view c.begin.new.heap) c.args.caller c.args.name (event_of_call c.args.job.now.op c.args.job.now.base c.args.job.now.other c.args.job.now.arg)
begun g c = subst (λ (e : Event). Begun (g.R.Heap.view c.args.heap.now) (g.R.Heap.view c.begin.new.heap) c.args.caller c.args.name e) c.requires.event c.begin.ensures

pub begin-requires-clause-event : goal.begin-requires-clause-event
begin-requires-clause-event g c =
    let j = c.args.job.now in
    let v0 = g.R.Heap.view c.args.heap.now in
    subst (λ (e : Event). MayBegin v0 c.args.name e) (sym c.requires.event)
    (may_begin (pass_of v0 c.args.caller) c.args.name j.op j.base j.other j.arg c.requires.may (g.met.R.Heap.lawful c.args.heap.now).legal (lt-ltb j.arg _ c.requires.small))

pub work-made-requires-clause-job : goal.work-made-requires-clause-job
work-made-requires-clause-job g c =
    let j = c.args.job.now in
    let v1 = g.R.Heap.view c.begin.new.heap in
    subst (λ (k : EventJob). IsJob v1.seen k) (sym (at_first j c.requires.start))
    (job_begun (pass_of (g.R.Heap.view c.args.heap.now) c.args.caller) c.args.name j.op j.base j.other j.arg c.requires.may v1 c.args.caller (begun g (goal.at.work-made-requires-clause-job g c).After-begin) (g.met.R.Heap.lawful c.begin.new.heap))

pub work-made-requires-clause-means : goal.work-made-requires-clause-means
work-made-requires-clause-means g c =
    let j = c.args.job.now in
    let v1 = g.R.Heap.view c.begin.new.heap in
    subst (λ (k : EventJob). HasMeans v1 k) (sym (at_first j c.requires.start))
    (means_begun (pass_of (g.R.Heap.view c.args.heap.now) c.args.caller) c.args.name j.op j.base j.other j.arg c.requires.may v1 c.args.caller (begun g (goal.at.work-made-requires-clause-means g c).After-begin) (g.met.R.Heap.lawful c.begin.new.heap))

-- the work was that of the call's job
worked : (g : _) (c : After-work-made g) → IfOk c.work-made.result (λ o. MadeOutcome (g.R.Heap.view c.begin.new.heap) (g.R.Heap.view c.work-made.new.heap) (job (pass_of (g.R.Heap.view c.args.heap.now) c.args.caller) c.args.name c.args.job.now.op c.args.job.now.base c.args.job.now.other c.args.job.now.arg c.requires.may) o)
worked g c = subst (λ (k : EventJob). IfOk c.work-made.result (λ o. MadeOutcome (g.R.Heap.view c.begin.new.heap) (g.R.Heap.view c.work-made.new.heap) k o)) (at_first c.args.job.now c.requires.start) c.work-made.ensures.ok

stopped : (g : _) (c : After-work-made g) → IfErr c.work-made.result (λ cause. Stopped (g.R.Heap.view c.begin.new.heap) (g.R.Heap.view c.work-made.new.heap) (direct_of (job (pass_of (g.R.Heap.view c.args.heap.now) c.args.caller) c.args.name c.args.job.now.op c.args.job.now.base c.args.job.now.other c.args.job.now.arg c.requires.may)) cause)
stopped g c = subst (λ (k : EventJob). IfErr c.work-made.result (λ cause. Stopped (g.R.Heap.view c.begin.new.heap) (g.R.Heap.view c.work-made.new.heap) (direct_of k) cause)) (at_first c.args.job.now c.requires.start) c.work-made.ensures.err

came : (g : _) (c : After-work-made g) → CameOut (g.R.Heap.view c.begin.new.heap) (g.R.Heap.view c.work-made.new.heap) (direct_of (job (pass_of (g.R.Heap.view c.args.heap.now) c.args.caller) c.args.name c.args.job.now.op c.args.job.now.base c.args.job.now.other c.args.job.now.arg c.requires.may)) c.work-made.result
came g c =
    let j = c.args.job.now in
    work_came (pass_of (g.R.Heap.view c.args.heap.now) c.args.caller) c.args.name j.op j.base j.other j.arg c.requires.may (g.met.R.Heap.lawful c.args.heap.now) (g.R.Heap.view c.begin.new.heap) (g.R.Heap.view c.work-made.new.heap) c.work-made.result (worked g c) (stopped g c)

begun_after : (g : _) (c : After-work-made g) → Begun (g.R.Heap.view c.args.heap.now) (g.R.Heap.view c.begin.new.heap) c.args.caller c.args.name (event_of_call c.args.job.now.op c.args.job.now.base c.args.job.now.other c.args.job.now.arg)
begun_after g c = subst (λ (e : Event). Begun (g.R.Heap.view c.args.heap.now) (g.R.Heap.view c.begin.new.heap) c.args.caller c.args.name e) c.requires.event c.begin.ensures

grown : (g : _) (c : After-work-made g) → Grows (g.R.Heap.view c.args.heap.now).seen (g.R.Heap.view c.work-made.new.heap).seen
grown g c = grows_trans (begun_after g c).on.grows (came_grows (g.R.Heap.view c.begin.new.heap) (g.R.Heap.view c.work-made.new.heap) _ c.work-made.result (came g c))

pub finish-requires : goal.finish-requires
finish-requires g c =
    let j = c.args.job.now in
    let k = (goal.at.finish-requires g c).After-work-made in
    let v0 = g.R.Heap.view c.args.heap.now in
    let v1 = g.R.Heap.view c.begin.new.heap in
    let v2 = g.R.Heap.view c.work-made.new.heap in
    let p = pass_of v0 c.args.caller in
    let law0 = g.met.R.Heap.lawful c.args.heap.now in
    let law1 = g.met.R.Heap.lawful c.begin.new.heap in
    let law2 = g.met.R.Heap.lawful c.work-made.new.heap in
    record {
      may = may_end v1 v2 c.args.caller c.args.name (direct_of (job p c.args.name j.op j.base j.other j.arg c.requires.may)) (event_of_call j.op j.base j.other j.arg) c.args.kind c.work-made.result law1 law2
          (begun_working (begun_after g k) (drawn_name c.requires.idle c.requires.may.drawn)) (begun_after g k).here
          (direct_begun p c.args.name j.op j.base j.other j.arg c.requires.may v1 c.args.caller (begun_after g k) law1) (came g k)
          (rw c.requires.kind at (work_answer p c.args.name j.op j.base j.other j.arg c.requires.may law0 v2 law2 (grown g k) v1 c.work-made.result (worked g k)));
    }

pub returns-clause-idle : goal.returns-clause-idle
returns-clause-idle g c =
    let j = c.args.job.now in
    let k = (goal.at.returns-clause-idle g c).After-work-made in
    called_idle (g.R.Heap.view c.args.heap.now) (g.R.Heap.view c.begin.new.heap) (g.R.Heap.view c.work-made.new.heap) (g.R.Heap.view c.finish.new.heap) c.args.caller c.args.name _ (event_of_call j.op j.base j.other j.arg) c.args.kind c.work-made.result c.requires.idle c.requires.may.drawn (begun_after g k) (came g k) c.finish.ensures.ended

pub returns-clause-caller : goal.returns-clause-caller
returns-clause-caller g c =
    let j = c.args.job.now in
    let k = (goal.at.returns-clause-caller g c).After-work-made in
    called_caller (g.R.Heap.view c.args.heap.now) (g.R.Heap.view c.begin.new.heap) (g.R.Heap.view c.work-made.new.heap) (g.R.Heap.view c.finish.new.heap) c.args.caller c.args.name _ (event_of_call j.op j.base j.other j.arg) c.args.kind c.work-made.result c.requires.idle c.requires.may.drawn (begun_after g k) (came g k) c.finish.ensures.ended c.requires.caller

pub returns-clause-ended : goal.returns-clause-ended
returns-clause-ended g c =
    let j = c.args.job.now in
    let k = (goal.at.returns-clause-ended g c).After-work-made in
    let v0 = g.R.Heap.view c.args.heap.now in
    let v1 = g.R.Heap.view c.begin.new.heap in
    let p = pass_of v0 c.args.caller in
    let e = event_of_call j.op j.base j.other j.arg in
    let law1 = g.met.R.Heap.lawful c.begin.new.heap in
    ended_so p (pass_of (g.R.Heap.view c.finish.new.heap) c.args.caller) c.args.name e c.args.kind c.work-made.result c.finish.result c.finish.ensures.answer
    (called v0 v1 (g.R.Heap.view c.work-made.new.heap) (g.R.Heap.view c.finish.new.heap) c.args.caller c.args.name _ e c.args.kind c.work-made.result c.requires.idle c.requires.may.drawn (begun_after g k) (came g k) c.finish.ensures.ended
    law1 (g.met.R.Heap.lawful c.work-made.new.heap) (g.met.R.Heap.lawful c.finish.new.heap) (direct_begun p c.args.name j.op j.base j.other j.arg c.requires.may v1 c.args.caller (begun_after g k) law1))

pub returns-clause-known : goal.returns-clause-known
returns-clause-known g c =
    let j = c.args.job.now in
    let k = (goal.at.returns-clause-known g c).After-work-made in
    let e = event_of_call j.op j.base j.other j.arg in
    known_made (g.R.Heap.view c.finish.new.heap) c.args.caller c.args.name e c.args.kind c.work-made.result c.finish.result c.finish.ensures.answer
    (name_low (g.R.Heap.view c.args.heap.now) c.args.name (g.met.R.Heap.lawful c.args.heap.now) c.requires.may.drawn)
    (ended_here (g.R.Heap.view c.args.heap.now) (g.R.Heap.view c.begin.new.heap) (g.R.Heap.view c.work-made.new.heap) (g.R.Heap.view c.finish.new.heap) c.args.caller c.args.name _ e c.args.kind c.work-made.result c.requires.idle c.requires.may.drawn (begun_after g k) (came g k) c.finish.ensures.ended)

pub returns-clause-outcome : goal.returns-clause-outcome
returns-clause-outcome g c =
    let j = c.args.job.now in
    let k = (goal.at.returns-clause-outcome g c).After-work-made in
    let v0 = g.R.Heap.view c.args.heap.now in
    let v1 = g.R.Heap.view c.begin.new.heap in
    let v2 = g.R.Heap.view c.work-made.new.heap in
    let v3 = g.R.Heap.view c.finish.new.heap in
    let e = event_of_call j.op j.base j.other j.arg in
    outcome_made (pass_of v0 c.args.caller) c.args.name j.op j.base j.other j.arg c.requires.may (g.met.R.Heap.lawful c.args.heap.now) v2 (g.met.R.Heap.lawful c.work-made.new.heap) (grown g k) v1 v3 c.work-made.result c.finish.result
    (last_grows v0 v1 v2 v3 c.args.caller c.args.name _ e c.args.kind c.work-made.result c.requires.idle c.requires.may.drawn (begun_after g k) (came g k) c.finish.ensures.ended)
    (rw (sym c.requires.kind) at c.finish.ensures.answer) (worked g k)
