use Rattle.std.proofs.Common.{sym, ◌∙◌}
use Rattle.heap_store.specs.World.{recs}
use Rattle.lazy_rec.specs.Named.{is_pending}
use Rattle.heap_store.proofs.GrowthLaws.{grows_trans}
use Rattle.heap_store.proofs.LawfulLaws.{done_there}
use Rattle.heap_store.proofs.Steps.{Quiet_trans}
use Rattle.heap_store.proofs.ReadLaws.{holds_from, is_there}
use Rattle.heap_store.proofs.ValueLaws.{done_of_state, done_value, still_done}
use Rattle.heap_store.proofs.cells.value_of.Goals as goal

pub state-requires : goal.state-requires
state-requires g c = holds_from (recs (g.H.Heap.view c.read-rec.new.self).seen) c.args.p.0 is_pending c.read-rec.result (c.read-rec.ensures.quiet.grows.records c.args.p.0 _ c.read-rec.ensures.rec) (sym c.is_pending.ensures ∙ c.if-not-is_pending.false)

pub read-requires : goal.read-requires
read-requires g c =
    let d = done_of_state (g.H.Heap.view c.state.new.self).seen c.args.p.0 _ c.in-Done.ensures.state in
    is_there (recs (g.H.Heap.view c.state.new.self).seen) c.in-Done.place.0 (done_there (g.met.H.Heap.lawful c.state.new.self).world c.args.p.0 (c.in-Done.place.0, c.in-Done.steps) d)

pub unreachable-requires : goal.unreachable-requires
unreachable-requires g c = still_done (grows_trans c.read-rec.ensures.quiet.grows c.state.ensures.quiet.grows) c.args.p.0 c.read-rec.result c.read-rec.ensures.rec (sym c.is_pending.ensures ∙ c.if-not-is_pending.false) c.requires c.state.result c.state.ensures.state c.in-Unforced.is

pub returns-clause-quiet : goal.returns-clause-quiet
returns-clause-quiet g c = Quiet_trans c.read-rec.ensures.quiet (Quiet_trans c.state.ensures.quiet c.read.ensures.quiet)

pub returns-clause-value : goal.returns-clause-value
returns-clause-value g c =
    done_value (g.met.H.Heap.lawful c.args.h.now).world (grows_trans c.read-rec.ensures.quiet.grows c.state.ensures.quiet.grows) c.args.p.0 c.read-rec.result c.read-rec.ensures.rec (sym c.is_pending.ensures ∙ c.if-not-is_pending.false) c.requires
    c.in-Done.place c.in-Done.steps c.in-Done.given_up c.in-Done.ensures.state c.read.result c.read.ensures.rec
