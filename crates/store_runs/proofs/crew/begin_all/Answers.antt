use Rattle.store_runs.proofs.Begun.{begun_more, begun_all}
use Rattle.store_runs.proofs.Extending.{drawn_held}
use Rattle.store_runs.proofs.crew.begin_all.Goals as goal

pub returns-in_default-clause-begun : goal.returns-in_default-clause-begun
returns-in_default-clause-begun g c = (begun_all c.args.worker.now.pass.view c.loop-count.worker.pass.view c.draw.new.self.view c.loop-count.count c.in_default.field-0 c.loop-count.invariant c.in_default.ensures.err).0

pub begin_new-requires-clause-drawn : goal.begin_new-requires-clause-drawn
begin_new-requires-clause-drawn g c = drawn_held c.in-Ok.ensures.ok

pub loop-count-preserved : goal.loop-count-preserved
loop-count-preserved g c = begun_more c.args.worker.now.pass.view c.loop-count.worker.pass c.draw.new.self c.begin_new.new.self c.in-Ok.ticket.name c.loop-count.count c.begin_new.result c.loop-count.worker.bound c.loop-count.invariant c.in-Ok.ensures.ok c.begin_new.ensures.ended
