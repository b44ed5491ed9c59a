use Rattle.std.proofs.Common.{◌∙◌, sym}
use Rattle.heap_store.proofs.Steps.{Quiet_trans}
use Rattle.force_engine.proofs.Looking.{shown_value, shown_pending}
use Rattle.force_engine.proofs.looks.peek.Goals as goal

pub returns-then-not-is_pending-clause-shown : goal.returns-then-not-is_pending-clause-shown
returns-then-not-is_pending-clause-shown g c = shown_value (g.H.Heap.view c.read.new.self).seen c.args.s c.read.result (c.read.ensures.quiet.grows.records c.args.s.0 c.read.result c.read.ensures.rec) (sym c.is_pending.ensures ∙ c.if-not-is_pending.true)

pub state-requires : goal.state-requires
state-requires g c = rw (c.read.ensures.quiet.grows.records c.args.s.0 c.read.result c.read.ensures.rec) (sym c.is_pending.ensures ∙ c.if-not-is_pending.false)

pub returns-in-Unforced-clause-quiet : goal.returns-in-Unforced-clause-quiet
returns-in-Unforced-clause-quiet g c = Quiet_trans c.read.ensures.quiet c.in-Unforced.ensures.quiet

pub returns-in-Claimed-clause-quiet : goal.returns-in-Claimed-clause-quiet
returns-in-Claimed-clause-quiet g c = Quiet_trans c.read.ensures.quiet c.in-Claimed.ensures.quiet

pub returns-in-Done-clause-quiet : goal.returns-in-Done-clause-quiet
returns-in-Done-clause-quiet g c = Quiet_trans c.read.ensures.quiet c.in-Done.ensures.quiet

pub returns-in-Unforced-clause-shown : goal.returns-in-Unforced-clause-shown
returns-in-Unforced-clause-shown g c = shown_pending (g.H.Heap.view c.state.new.self).seen c.args.s c.read.result _ (c.in-Unforced.ensures.quiet.grows.records c.args.s.0 c.read.result (c.read.ensures.quiet.grows.records c.args.s.0 c.read.result c.read.ensures.rec)) (sym c.is_pending.ensures ∙ c.if-not-is_pending.false) c.in-Unforced.ensures.state

pub returns-in-Claimed-clause-shown : goal.returns-in-Claimed-clause-shown
returns-in-Claimed-clause-shown g c = shown_pending (g.H.Heap.view c.state.new.self).seen c.args.s c.read.result _ (c.in-Claimed.ensures.quiet.grows.records c.args.s.0 c.read.result (c.read.ensures.quiet.grows.records c.args.s.0 c.read.result c.read.ensures.rec)) (sym c.is_pending.ensures ∙ c.if-not-is_pending.false) c.in-Claimed.ensures.state

pub returns-in-Done-clause-shown : goal.returns-in-Done-clause-shown
returns-in-Done-clause-shown g c = shown_pending (g.H.Heap.view c.state.new.self).seen c.args.s c.read.result _ (c.in-Done.ensures.quiet.grows.records c.args.s.0 c.read.result (c.read.ensures.quiet.grows.records c.args.s.0 c.read.result c.read.ensures.rec)) (sym c.is_pending.ensures ∙ c.if-not-is_pending.false) c.in-Done.ensures.state
