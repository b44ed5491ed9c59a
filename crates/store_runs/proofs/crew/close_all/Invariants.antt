use Rattle.std.specs.Prelude.{◌≡◌, ℕ, ◌+◌, ◌++◌, Some, map, reverse, slice_get}
use Rattle.std.specs.Vec.{vec_len}
use Rattle.word_store.specs.declared.pass.Pass.{Pass}
use Rattle.word_store.specs.Passes.{sight_of, view_of}
use Rattle.word_store.specs.Joined.{MayClose}
use Rattle.store_runs.proofs.Handed.{IsInEither}
use Rattle.store_runs.proofs.crew.close_all.Given as goal

abbrev pub invariant-loop-caller : goal.invariant-loop-caller
invariant-loop-caller g l = record {
  many : vec_len l.passes + vec_len l.callers ≡ vec_len l.fn.callers;
  idle : (j : ℕ) (p : Pass) → slice_get (map (λ q. q.pass) l.passes.items) j ≡ Some p → MayClose (sight_of p).hand;
  order : map (λ r. r.heap.pass) l.callers.items ++ reverse (map (λ q. q.pass) l.passes.items) ≡ map (λ r. r.heap.pass) l.fn.callers.items;
  handed : IsInEither (map (λ r. view_of r.heap.pass) l.fn.callers.items) (map (λ r. view_of r.heap.pass) l.callers.items) (map (λ q. view_of q.pass) l.passes.items);
}

abbrev pub decreases-loop-caller : goal.decreases-loop-caller
decreases-loop-caller g l = vec_len l.callers
