use Rattle.std.proofs.Common.{map, sym, arith}
use Rattle.word_store.specs.Passes.{view_of}
use Rattle.store_runs.proofs.Handed.{one_handed}
use Rattle.store_runs.proofs.crew.rest_all.Goals as goal

pub loop-worker-preserved : goal.loop-worker-preserved
loop-worker-preserved g c = let i = c.loop-worker.invariant in (
  omega (arith, i.0, c.in-Some.ensures.len, c.in-Ok.ensures.len),
  one_handed (λ w. w.pass.view) (λ r. view_of r.heap.pass) (map (λ w. w.pass.view) c.args.workers.items) c.loop-worker.workers.items c.pop.new.self.items c.in-Some.worker c.loop-worker.all.items c.push.new.self.items c.rest.result
      c.in-Some.ensures.items c.in-Ok.ensures.items (sym c.rest.ensures) i.1,
)
