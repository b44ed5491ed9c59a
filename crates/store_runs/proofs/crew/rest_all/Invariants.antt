use Rattle.std.specs.Prelude.{◌≡◌, ◌+◌, map}
use Rattle.std.specs.Vec.{vec_len}
use Rattle.word_store.specs.Passes.{view_of}
use Rattle.store_runs.proofs.Handed.{IsInEither}
use Rattle.store_runs.proofs.crew.rest_all.Given as goal

abbrev pub invariant-loop-worker : goal.invariant-loop-worker
invariant-loop-worker g l = (vec_len l.all + vec_len l.workers ≡ vec_len l.fn.workers) × IsInEither (map (λ w. w.pass.view) l.fn.workers.items) (map (λ w. w.pass.view) l.workers.items) (map (λ r. view_of r.heap.pass) l.all.items)

abbrev pub decreases-loop-worker : goal.decreases-loop-worker
decreases-loop-worker g l = vec_len l.workers
