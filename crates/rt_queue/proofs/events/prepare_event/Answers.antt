use Rattle.std.proofs.Common.{◌≡◌, arith, sym, ◌∙◌, Some}
use Rattle.heap_store.specs.World.{recs}
use Rattle.heap_store.proofs.Steps.{Quiet_trans}
use Rattle.heap_store.proofs.ValueLaws.{Waits, value_place_is, place_waits}
use Rattle.heap_store.proofs.NameLaws.{IsPublished}
use Rattle.rt_queue.specs.Queue.{top_record, looks_at}
use Rattle.rt_queue.proofs.QueueJobs.{root_there, root_is_top, JobTop, job_top, ready_event, event_need, is_known_none, is_known_some, looked_there, place_there, needed_schedule}
use Rattle.rt_queue.proofs.events.prepare_event.Goals as goal
use Rattle.rt_queue.proofs.events.prepare_event.Goals.{After-read_top-top, In-Some, In-None}

pub read_top-top-requires : goal.read_top-top-requires
read_top-top-requires g c = root_is_top (g.H.Heap.view c.args.h.now).seen c.args.job.now.base.root.0 (root_there (g.met.H.Heap.lawful c.args.h.now).world c.args.job.now c.requires.job c.requires.kind)

top : (g : _) (c : After-read_top-top g) → JobTop (g.H.Heap.view c.args.h.now).seen c.args.job.now c.read_top-top.result
top g c = job_top (g.met.H.Heap.lawful c.args.h.now).world c.args.job.now c.requires.job c.requires.kind c.read_top-top.result c.read_top-top.ensures.top

-- the record of the root, in the view after it was read
here : (g : _) (c : After-read_top-top g) → recs (g.H.Heap.view c.read_top-top.new.h).seen c.args.job.now.base.root.0 ≡ Some (top_record c.read_top-top.result)
here g c = c.read_top-top.ensures.quiet.grows.records _ _ c.read_top-top.ensures.top

pub plan-wants-requires : goal.plan-wants-requires
plan-wants-requires g c = let k = top g (goal.at.plan-wants-requires g c).After-read_top-top in omega (arith, k.most)

pub returns-in_default-clause-answer : goal.returns-in_default-clause-answer
returns-in_default-clause-answer g c =
    let d = goal.at.returns-in_default-clause-answer g c in
    ready_event c.args.job.now c.requires.kind c.read_top-top.result (here g d.After-read_top-top) c.requires.job.has c.plan-wants.result.nodes c.plan-wants.ensures.nodes
    (rw (← c.plan-wants.ensures.looks) (is_known_none (g.H.Heap.view c.read_top-top.new.h).seen c.plan-wants.result.looked_at c.in_default.not-Some))

-- the place that is looked at
looks : (g : _) (c : In-Some g) → looks_at c.args.job.now.op c.read_top-top.result ≡ Some c.in-Some.place
looks g c = sym c.plan-wants.ensures.looks ∙ c.in-Some.is

pub value_place-requires : goal.value_place-requires
value_place-requires g c =
    let d = goal.at.value_place-requires g c in
    looked_there (g.met.H.Heap.lawful c.read_top-top.new.h).world c.args.job.now.base.root.0 c.read_top-top.result (here g d.After-read_top-top) c.args.job.now.op c.in-Some.place (looks g d.In-Some)

pub returns-in-Some-value_place-clause-quiet : goal.returns-in-Some-value_place-clause-quiet
returns-in-Some-value_place-clause-quiet g c = Quiet_trans c.read_top-top.ensures.quiet c.value_place.ensures.quiet

pub returns-in-Some-value_place-clause-answer : goal.returns-in-Some-value_place-clause-answer
returns-in-Some-value_place-clause-answer g c =
    let d = goal.at.returns-in-Some-value_place-clause-answer g c in
    let law = (g.met.H.Heap.lawful c.value_place.new.h).world in
    let e = c.value_place.ensures.quiet.grows.records _ _ (here g d.After-read_top-top) in
    ready_event c.args.job.now c.requires.kind c.read_top-top.result e c.requires.job.has c.plan-wants.result.nodes c.plan-wants.ensures.nodes
    (is_known_some (g.H.Heap.view c.value_place.new.h).seen _ c.in-Some.place (looks g d.In-Some) (value_place_is law c.in-Some.place.0 c.in-Some-value_place.field-0.0 c.in-Some-value_place.ensures.place).known)

pub returns-in-None-clause-quiet : goal.returns-in-None-clause-quiet
returns-in-None-clause-quiet g c = Quiet_trans c.read_top-top.ensures.quiet c.value_place.ensures.quiet

waits : (g : _) (c : In-None g) → (t : IsPublished (recs (g.H.Heap.view c.value_place.new.h).seen) c.in-Some.place.0) → Waits (g.H.Heap.view c.value_place.new.h).seen c.in-Some.place.0
waits g c t = place_waits (g.H.Heap.view c.value_place.new.h).seen c.in-Some.place.0 t c.in-None.ensures.place

pub returns-in-None-clause-answer : goal.returns-in-None-clause-answer
returns-in-None-clause-answer g c =
    let d = goal.at.returns-in-None-clause-answer g c in
    let law = (g.met.H.Heap.lawful c.value_place.new.h).world in
    let e = c.value_place.ensures.quiet.grows.records _ _ (here g d.After-read_top-top) in
    let look = looks g d.In-Some in
    event_need law c.args.job.now c.requires.kind c.read_top-top.result e c.in-Some.place look (waits g d.In-None (place_there law _ _ e _ _ look))

pub returns-in-None-clause-need : goal.returns-in-None-clause-need
returns-in-None-clause-need g c =
    let d = goal.at.returns-in-None-clause-need g c in
    let law = (g.met.H.Heap.lawful c.value_place.new.h).world in
    let e = c.value_place.ensures.quiet.grows.records _ _ (here g d.After-read_top-top) in
    let look = looks g d.In-Some in
    needed_schedule law c.args.job.now.base.root.0 c.read_top-top.result e c.args.job.now.op c.in-Some.place look (waits g d.In-None (place_there law _ _ e _ _ look))
