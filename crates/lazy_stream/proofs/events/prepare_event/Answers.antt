use Rattle.std.proofs.Common.{◌≡◌, sym, ◌∙◌, Some}
use Rattle.std.proofs.lemmas.Bool.{true≢false}
use Rattle.lazy_rec.specs.declared.records.Rec.TheVariants.{StreamTop}
use Rattle.heap_store.specs.World.{recs}
use Rattle.heap_store.proofs.GrowthLaws.{grows_trans}
use Rattle.heap_store.proofs.Steps.{Quiet_trans}
use Rattle.heap_store.proofs.ReadLaws.{is_there}
use Rattle.heap_store.proofs.ValueLaws.{value_place_is, place_waits}
use Rattle.lazy_stream.proofs.Streams.{stream_there}
use Rattle.lazy_stream.proofs.Tops.{stream_of_top}
use Rattle.lazy_stream.proofs.JobStreams.{version_root, ready_event, event_need}
use Rattle.lazy_stream.proofs.events.prepare_event.Goals as goal
use Rattle.lazy_stream.proofs.events.prepare_event.Goals.{After-read_front-front, After-value_place}

pub places-requires : goal.places-requires
places-requires g c = record { size = c.requires.job.base.most; other = c.requires.job.other.most }

pub returns-then-not-looks-clause-answer : goal.returns-then-not-looks-clause-answer
returns-then-not-looks-clause-answer g c =
    ready_event (g.H.Heap.view c.args.h.now).seen c.args.job.now c.requires.kind c.requires.job.has c.places.result c.places.ensures (λ h. absurd (true≢false (sym h ∙ (sym c.looks.ensures ∙ c.if-not-looks.true))))

pub read_front-front-requires : goal.read_front-front-requires
read_front-front-requires g c = let w = (g.H.Heap.view c.args.h.now).seen in version_root w w (λ p r e. e) c.args.job.now.base c.requires.job.base c.requires.kind

-- the record of the root, in the view after it was read
here : (g : _) (c : After-read_front-front g) → recs (g.H.Heap.view c.read_front-front.new.h).seen c.args.job.now.base.root.0 ≡ Some (StreamTop c.read_front-front.result c.read_front-front.ensures.top.0)
here g c = c.read_front-front.ensures.quiet.grows.records _ _ c.read_front-front.ensures.top.1

pub value_place-requires : goal.value_place-requires
value_place-requires g c =
    let rs = recs (g.H.Heap.view c.read_front-front.new.h).seen in
    let p = c.read_front-front.result.0 in
    let s = stream_of_top (g.met.H.Heap.lawful c.read_front-front.new.h).world c.args.job.now.base.root.0 c.read_front-front.result c.read_front-front.ensures.top.0 (here g (goal.at.value_place-requires g c).After-read_front-front) in
    is_there rs p (stream_there rs p s.stream)

-- and in the view after the front's state was loaded
later : (g : _) (c : After-value_place g) → recs (g.H.Heap.view c.value_place.new.h).seen c.args.job.now.base.root.0 ≡ Some (StreamTop c.read_front-front.result c.read_front-front.ensures.top.0)
later g c = (grows_trans c.read_front-front.ensures.quiet.grows c.value_place.ensures.quiet.grows).records _ _ c.read_front-front.ensures.top.1

pub returns-in-Some-clause-quiet : goal.returns-in-Some-clause-quiet
returns-in-Some-clause-quiet g c = Quiet_trans c.read_front-front.ensures.quiet c.value_place.ensures.quiet

pub returns-in-Some-clause-answer : goal.returns-in-Some-clause-answer
returns-in-Some-clause-answer g c =
    let law = (g.met.H.Heap.lawful c.value_place.new.h).world in
    let e = later g (goal.at.returns-in-Some-clause-answer g c).After-value_place in
    let known = (value_place_is law c.read_front-front.result.0 c.in-Some.field-0.0 c.in-Some.ensures.place).known in
    ready_event (g.H.Heap.view c.value_place.new.h).seen c.args.job.now c.requires.kind c.requires.job.has c.places.result c.places.ensures (λ _. rw e known)

pub returns-in-None-clause-quiet : goal.returns-in-None-clause-quiet
returns-in-None-clause-quiet g c = Quiet_trans c.read_front-front.ensures.quiet c.value_place.ensures.quiet

pub returns-in-None-clause-answer : goal.returns-in-None-clause-answer
returns-in-None-clause-answer g c =
    let law = (g.met.H.Heap.lawful c.value_place.new.h).world in
    let e = later g (goal.at.returns-in-None-clause-answer g c).After-value_place in
    let p = c.read_front-front.result.0 in
    let rs = recs (g.H.Heap.view c.value_place.new.h).seen in
    let s = stream_of_top law c.args.job.now.base.root.0 c.read_front-front.result c.read_front-front.ensures.top.0 e in
    event_need law c.args.job.now c.requires.kind c.read_front-front.result c.read_front-front.ensures.top.0 e (sym c.looks.ensures ∙ c.if-not-looks.false) (place_waits (g.H.Heap.view c.value_place.new.h).seen p (stream_there rs p s.stream) c.in-None.ensures.place)
