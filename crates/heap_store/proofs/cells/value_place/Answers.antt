use Rattle.std.proofs.Common.{refl, sym, ◌∙◌}
use Rattle.heap_store.specs.World.{recs}
use Rattle.heap_store.proofs.Steps.{Quiet_trans}
use Rattle.heap_store.proofs.ReadLaws.{holds_from}
use Rattle.heap_store.proofs.ValueLaws.{done_of_state, not_done}
use Rattle.lazy_rec.specs.Named.{is_pending}
use Rattle.heap_store.proofs.cells.value_place.Goals as goal

pub returns-then-not-is_pending-clause-place : goal.returns-then-not-is_pending-clause-place
returns-then-not-is_pending-clause-place g c = rw (c.read.ensures.quiet.grows.records c.args.p.0 _ c.read.ensures.rec, ← c.is_pending.ensures, c.if-not-is_pending.true) refl

pub state-requires : goal.state-requires
state-requires g c = holds_from (recs (g.H.Heap.view c.read.new.self).seen) c.args.p.0 is_pending c.read.result (c.read.ensures.quiet.grows.records c.args.p.0 _ c.read.ensures.rec) (sym c.is_pending.ensures ∙ c.if-not-is_pending.false)

pub returns-in-Done-clause-quiet : goal.returns-in-Done-clause-quiet
returns-in-Done-clause-quiet g c = Quiet_trans c.read.ensures.quiet c.state.ensures.quiet

pub returns-in-Done-clause-place : goal.returns-in-Done-clause-place
returns-in-Done-clause-place g c =
    let e = c.state.ensures.quiet.grows.records c.args.p.0 _ (c.read.ensures.quiet.grows.records c.args.p.0 _ c.read.ensures.rec) in
    let d = done_of_state (g.H.Heap.view c.state.new.self).seen c.args.p.0 _ c.in-Done.ensures.state in
    rw (e, ← c.is_pending.ensures, c.if-not-is_pending.false, d) refl

pub returns-in-Unforced : goal.returns-in-Unforced
returns-in-Unforced g c =
    let e = c.state.ensures.quiet.grows.records c.args.p.0 _ (c.read.ensures.quiet.grows.records c.args.p.0 _ c.read.ensures.rec) in
    let d = not_done (g.H.Heap.view c.state.new.self).seen c.args.p.0 _ c.state.ensures.state c.in-Unforced.is in
    record { quiet = Quiet_trans c.read.ensures.quiet c.state.ensures.quiet; place = rw (e, ← c.is_pending.ensures, c.if-not-is_pending.false, d) refl }
