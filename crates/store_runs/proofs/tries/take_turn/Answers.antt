use Rattle.std.proofs.Common.{ap, ◌∙◌, inl, refl}
use Rattle.heap_store.specs.Hand.{Hand}
use Rattle.heap_store.proofs.GrowthLaws.{grows_trans}
use Rattle.force_engine.proofs.Growing.{IsWork-grows, IsWork-pending, IsWork-published, cursor_fits-grows, cursor_fits-new}
use Rattle.store_runs.proofs.Turns.{funded_grows, leaves_quiet, leaves_trans, need_funded, back, leaves_refused, buildable, leaves_done, claimed}
use Rattle.store_runs.proofs.Shares.{counts_one}
use Rattle.store_runs.proofs.tries.take_turn.Goals as goal

pub prepare-requires-clause-cursor : goal.prepare-requires-clause-cursor
prepare-requires-clause-cursor g c = cursor_fits-new (g.C.Heap.view c.args.heap.now).seen c.args.s.0 c.new-cursor.result (IsWork-published (g.J.Jobs.does c.args.jobs.now) (g.C.Heap.view c.args.heap.now).seen c.args.s.0 c.requires.work) c.new-cursor.ensures

pub returns-in-Need-clause-leaves : goal.returns-in-Need-clause-leaves
returns-in-Need-clause-leaves g c = leaves_quiet c.requires.idle c.prepare.ensures.quiet

pub returns-in-Need-clause-told : goal.returns-in-Need-clause-told
returns-in-Need-clause-told g c = let n = c.in-Need.ensures.answer in (n.work, need_funded (funded_grows (g.met.C.Heap.lawful c.args.heap.now).world c.prepare.ensures.quiet.grows c.args.s.0 c.requires.funded) n)

pub claim-requires-clause-pending : goal.claim-requires-clause-pending
claim-requires-clause-pending g c = IsWork-pending (g.J.Jobs.does c.args.jobs.now) (g.C.Heap.view c.prepare.new.h).seen c.args.s.0 (IsWork-grows c.prepare.ensures.quiet.grows (g.J.Jobs.does c.args.jobs.now) c.args.s.0 c.requires.work)

pub claim-requires-clause-funded : goal.claim-requires-clause-funded
claim-requires-clause-funded g c = funded_grows (g.met.C.Heap.lawful c.args.heap.now).world c.prepare.ensures.quiet.grows c.args.s.0 c.requires.funded

pub returns-in-Done-clause-leaves : goal.returns-in-Done-clause-leaves
returns-in-Done-clause-leaves g c = leaves_trans (leaves_quiet c.requires.idle c.prepare.ensures.quiet) (leaves_quiet (ap (λ (h : Hand). h.claims) c.prepare.ensures.quiet.hand ∙ c.requires.idle) c.in-Done.ensures.quiet)

pub returns-in-Busy-clause-leaves : goal.returns-in-Busy-clause-leaves
returns-in-Busy-clause-leaves g c = leaves_trans (leaves_quiet c.requires.idle c.prepare.ensures.quiet) (leaves_quiet (ap (λ (h : Hand). h.claims) c.prepare.ensures.quiet.hand ∙ c.requires.idle) c.in-Busy.ensures.quiet)

pub give_up-requires-clause-places : goal.give_up-requires-clause-places
give_up-requires-clause-places g c = back (g.J.Jobs.told c.args.jobs.now) (g.C.Heap.view c.args.heap.now) (g.C.Heap.view c.prepare.new.h) (g.C.Heap.view c.claim.new.self) c.args.s c.in-Ready.nodes c.requires.idle c.prepare.ensures.quiet c.in-Ready.ensures.answer c.in-Won.ensures (g.C.Heap.view c.reserve.new.self) c.in-Err.full c.in-Err.ensures.err

pub build-built-requires-clause-work : goal.build-built-requires-clause-work
build-built-requires-clause-work g c = IsWork-grows (grows_trans c.prepare.ensures.quiet.grows (grows_trans c.in-Won.ensures.grows c.in-Ok.ensures.ok.grows)) (g.J.Jobs.does c.args.jobs.now) c.args.s.0 c.requires.work

pub build-built-requires-clause-cursor : goal.build-built-requires-clause-cursor
build-built-requires-clause-cursor g c = cursor_fits-grows (grows_trans c.in-Won.ensures.grows c.in-Ok.ensures.ok.grows) c.args.s.0 c.prepare.new.cursor c.prepare.ensures.cursor

pub build-built-requires-clause-build : goal.build-built-requires-clause-build
build-built-requires-clause-build g c = buildable (g.J.Jobs.told c.args.jobs.now) (g.C.Heap.view c.args.heap.now) (g.C.Heap.view c.prepare.new.h) (g.C.Heap.view c.claim.new.self) c.args.s c.in-Ready.nodes c.requires.idle c.prepare.ensures.quiet c.in-Ready.ensures.answer c.in-Won.ensures (g.C.Heap.view c.reserve.new.self) c.in-Ok.run' c.in-Ok.ensures.ok (g.met.C.Heap.lawful c.prepare.new.h)

pub returns-in-Err-clause-leaves : goal.returns-in-Err-clause-leaves
returns-in-Err-clause-leaves g c = leaves_refused (g.J.Jobs.told c.args.jobs.now) (g.C.Heap.view c.args.heap.now) (g.C.Heap.view c.prepare.new.h) (g.C.Heap.view c.claim.new.self) c.args.s c.in-Ready.nodes c.requires.idle c.prepare.ensures.quiet c.in-Ready.ensures.answer c.in-Won.ensures (g.C.Heap.view c.reserve.new.self) c.in-Err.full c.in-Err.ensures.err (g.C.Heap.view c.give_up.new.self) c.give_up.ensures

pub returns-in-Ok-clause-leaves : goal.returns-in-Ok-clause-leaves
returns-in-Ok-clause-leaves g c = leaves_done (g.J.Jobs.told c.args.jobs.now) (g.C.Heap.view c.args.heap.now) (g.C.Heap.view c.prepare.new.h) (g.C.Heap.view c.claim.new.self) c.args.s c.in-Ready.nodes c.requires.idle c.prepare.ensures.quiet c.in-Ready.ensures.answer c.in-Won.ensures (g.C.Heap.view c.reserve.new.self) c.in-Ok.run' c.in-Ok.ensures.ok (g.met.C.Heap.lawful c.prepare.new.h) (g.C.Heap.view c.build-built.new.h) c.build-built.new.run c.build-built.result.place.0 c.build-built.result.steps c.build-built.ensures (g.C.Heap.view c.complete.new.self) c.complete.ensures

pub returns-in-Need-clause-share : goal.returns-in-Need-clause-share
returns-in-Need-clause-share g c = inl refl

pub returns-in-Done-clause-share : goal.returns-in-Done-clause-share
returns-in-Done-clause-share g c = inl refl

pub returns-in-Busy-clause-share : goal.returns-in-Busy-clause-share
returns-in-Busy-clause-share g c = inl refl

pub returns-in-Err-clause-share : goal.returns-in-Err-clause-share
returns-in-Err-clause-share g c = inl refl

pub returns-in-Ok-clause-share : goal.returns-in-Ok-clause-share
returns-in-Ok-clause-share g c = counts_one (grows_trans c.prepare.ensures.quiet.grows c.in-Won.ensures.grows) c.args.s.0 c.build-built.result.place.0 c.build-built.result.steps
    (claimed (g.J.Jobs.told c.args.jobs.now) (g.C.Heap.view c.args.heap.now) (g.C.Heap.view c.prepare.new.h) (g.C.Heap.view c.claim.new.self) c.args.s c.in-Ready.nodes c.requires.idle c.prepare.ensures.quiet c.in-Ready.ensures.answer c.in-Won.ensures (g.met.C.Heap.lawful c.claim.new.self))
    c.complete.ensures.done c.add.ensures
