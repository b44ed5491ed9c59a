use Rattle.std.proofs.Common.{◌≡◌, ◌∙◌, sym, true, refl}
use Rattle.lazy_rec.specs.Named.{is_pending}
use Rattle.force_engine.specs.Stacked.{Passed}
use Rattle.heap_store.specs.World.{recs, is_published}
use Rattle.force_engine.proofs.Growing.{IsWork-grows, published}
use Rattle.force_engine.proofs.Means.{idle_allowance}
use Rattle.force_engine.proofs.Starting.{forcible_work, first_claim, begun, kept_means, undone, forced, on_err, given_up_later}
use Rattle.force_engine.proofs.solo.force_solo.Goals as goal
use Rattle.force_engine.proofs.solo.force_solo.Goals.{After-new}

pending : (g : _) (c : After-new g) → is_pending c.read.result ≡ true
pending g c = sym c.is_pending.ensures ∙ c.if-not-is_pending.false

there : (g : _) (c : After-new g) → is_published (recs (g.C.Heap.view c.read.new.self).seen) c.args.s.0 ≡ true
there g c = published (g.C.Heap.view c.read.new.self).seen c.args.s.0 c.read.result (c.read.ensures.quiet.grows.records _ _ c.read.ensures.rec)

start : (g : _) (c : After-new g) → Passed (g.C.Heap.view c.args.heap.now) (g.C.Heap.view c.claim.new.self)
start g c = begun _ _ _ c.args.s c.requires.alone c.requires.idle c.read.ensures.quiet c.in-Won.ensures (g.met.C.Heap.lawful c.read.new.self) (there g c) (record { place = c.args.s; cursor = c.new.result }) refl

pub run-requires-clause-stacked : goal.run-requires-clause-stacked
run-requires-clause-stacked g c =
    let k = (goal.at.run-requires-clause-stacked g c).After-new in
    (first_claim _ _ _ c.args.s c.requires.alone c.requires.idle c.read.ensures.quiet c.in-Won.ensures (g.met.C.Heap.lawful c.read.new.self) (there g k) (record { place = c.args.s; cursor = c.new.result }) refl).stacked

pub run-requires-clause-work : goal.run-requires-clause-work
run-requires-clause-work g c =
    let k = goal.at.run-requires-clause-work g c in
    IsWork-grows (start g k.After-new).grows (g.J.Jobs.does c.args.jobs.now) c.args.s.0 (forcible_work (g.J.Jobs.does c.args.jobs.now) (g.C.Heap.view c.args.heap.now).seen c.args.s.0 c.read.result c.requires.there c.read.ensures.rec (pending g k.After-new))

pub returns-in-Won-clause-forced : goal.returns-in-Won-clause-forced
returns-in-Won-clause-forced g c = forced (g.C.Heap.view c.run.new.heap) c.run.result c.requires.idle (start g (goal.at.returns-in-Won-clause-forced g c).After-new) c.run.ensures.passed c.run.ensures.idle

pub returns-in-Won-clause-refused : goal.returns-in-Won-clause-refused
returns-in-Won-clause-refused g c =
    let k = (goal.at.returns-in-Won-clause-refused g c).After-new in
    on_err c.run.result (undone _ _ _ c.args.s c.requires.alone c.requires.idle c.read.ensures.quiet c.in-Won.ensures c.read.result (g.met.C.Heap.lawful c.claim.new.self) c.read.ensures.rec (pending g k) (record { place = c.args.s; cursor = c.new.result }) refl)

pub returns-in-Won-clause-gave_up : goal.returns-in-Won-clause-gave_up
returns-in-Won-clause-gave_up g c = given_up_later (g.C.Heap.view c.run.new.heap) c.args.s.0 c.run.result (start g (goal.at.returns-in-Won-clause-gave_up g c).After-new) c.run.ensures.gave_up

pub returns-in-Won-clause-credits : goal.returns-in-Won-clause-credits
returns-in-Won-clause-credits g c = (kept_means (g.C.Heap.view c.run.new.heap) c.args.s.0 c.run.result (start g (goal.at.returns-in-Won-clause-credits g c).After-new) c.run.ensures.passed c.run.ensures.gave_up).credits

pub returns-in-Won-clause-allowance : goal.returns-in-Won-clause-allowance
returns-in-Won-clause-allowance g c = idle_allowance c.requires.idle (kept_means (g.C.Heap.view c.run.new.heap) c.args.s.0 c.run.result (start g (goal.at.returns-in-Won-clause-allowance g c).After-new) c.run.ensures.passed c.run.ensures.gave_up)
