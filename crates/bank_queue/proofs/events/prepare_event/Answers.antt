use Rattle.std.proofs.Common.{◌≡◌, arith, sym, ◌∙◌, Some}
use Rattle.std.proofs.lemmas.Bool.{true≢false, not-true, not-false}
use Rattle.heap_store.specs.World.{recs}
use Rattle.heap_store.proofs.Steps.{Quiet_trans}
use Rattle.heap_store.proofs.ReadLaws.{is_there}
use Rattle.heap_store.proofs.ValueLaws.{value_place_is, place_waits}
use Rattle.bank_queue.specs.Queue.{top_record}
use Rattle.bank_queue.proofs.Fronts.{front_there}
use Rattle.bank_queue.proofs.Tops.{OldTop, old_top}
use Rattle.bank_queue.proofs.QueueJobs.{root_there, JobTop, job_top, ready_event, event_need}
use Rattle.bank_queue.proofs.events.prepare_event.Goals as goal
use Rattle.bank_queue.proofs.events.prepare_event.Goals.{After-read_top-top}

pub read_top-top-requires : goal.read_top-top-requires
read_top-top-requires g c = root_there (g.met.H.Heap.lawful c.args.h.now).world c.args.job.now c.requires.job c.requires.kind

top : (g : _) (c : After-read_top-top g) → JobTop (g.H.Heap.view c.args.h.now).seen c.args.job.now c.read_top-top.result
top g c = job_top (g.met.H.Heap.lawful c.args.h.now).world c.args.job.now c.requires.job c.read_top-top.result c.read_top-top.ensures.top

-- the record of the root, and what it says, in the view after it was read
here : (g : _) (c : After-read_top-top g) → recs (g.H.Heap.view c.read_top-top.new.h).seen c.args.job.now.base.root.0 ≡ Some (top_record c.read_top-top.result)
here g c = c.read_top-top.ensures.quiet.grows.records _ _ c.read_top-top.ensures.top

later : (g : _) (c : After-read_top-top g) → OldTop (g.H.Heap.view c.read_top-top.new.h).seen c.args.job.now.base.root.0 c.read_top-top.result
later g c = old_top (g.met.H.Heap.lawful c.read_top-top.new.h).world c.args.job.now.base.root.0 c.read_top-top.result (here g c)

pub plan-wants-requires : goal.plan-wants-requires
plan-wants-requires g c = let k = top g (goal.at.plan-wants-requires g c).After-read_top-top in omega (arith, k.most)

pub returns-then-not-wants-clause-answer : goal.returns-then-not-wants-clause-answer
returns-then-not-wants-clause-answer g c =
    let d = goal.at.returns-then-not-wants-clause-answer g c in
    ready_event (g.met.H.Heap.lawful c.read_top-top.new.h).world c.args.job.now c.requires.kind c.read_top-top.result (here g d.After-read_top-top) c.requires.job.has c.plan-wants.result.nodes c.plan-wants.ensures.nodes (λ h. absurd (true≢false (sym h ∙ (sym c.plan-wants.ensures.looks ∙ not-true c.plan-wants.result.looks c.if-not-wants.true))))

pub value_place-requires : goal.value_place-requires
value_place-requires g c =
    let rs = recs (g.H.Heap.view c.read_top-top.new.h).seen in
    let p = c.read_top-top.result.front.0 in
    is_there rs p (front_there rs p (later g (goal.at.value_place-requires g c).After-read_top-top).well.front)

pub returns-in-Some-clause-quiet : goal.returns-in-Some-clause-quiet
returns-in-Some-clause-quiet g c = Quiet_trans c.read_top-top.ensures.quiet c.value_place.ensures.quiet

pub returns-in-Some-clause-answer : goal.returns-in-Some-clause-answer
returns-in-Some-clause-answer g c =
    let d = goal.at.returns-in-Some-clause-answer g c in
    let law = (g.met.H.Heap.lawful c.value_place.new.h).world in
    let e = c.value_place.ensures.quiet.grows.records _ _ (here g d.After-read_top-top) in
    ready_event law c.args.job.now c.requires.kind c.read_top-top.result e c.requires.job.has c.plan-wants.result.nodes c.plan-wants.ensures.nodes (λ _. (value_place_is law c.read_top-top.result.front.0 c.in-Some.field-0.0 c.in-Some.ensures.place).known)

pub returns-in-None-clause-quiet : goal.returns-in-None-clause-quiet
returns-in-None-clause-quiet g c = Quiet_trans c.read_top-top.ensures.quiet c.value_place.ensures.quiet

pub returns-in-None-clause-answer : goal.returns-in-None-clause-answer
returns-in-None-clause-answer g c =
    let d = goal.at.returns-in-None-clause-answer g c in
    let law = (g.met.H.Heap.lawful c.value_place.new.h).world in
    let e = c.value_place.ensures.quiet.grows.records _ _ (here g d.After-read_top-top) in
    let p = c.read_top-top.result.front.0 in
    let there = front_there (recs (g.H.Heap.view c.value_place.new.h).seen) p (old_top law c.args.job.now.base.root.0 c.read_top-top.result e).well.front in
    event_need law c.args.job.now c.requires.kind c.read_top-top.result e (sym c.plan-wants.ensures.looks ∙ not-false c.plan-wants.result.looks c.if-not-wants.false) (place_waits (g.H.Heap.view c.value_place.new.h).seen p there c.in-None.ensures.place)
