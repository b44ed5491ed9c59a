use Rattle.std.specs.Prelude.{◌≡◌, ◌+◌, map}
use Rattle.std.specs.Vec.{vec_len}
use Rattle.word_store.specs.Stores.{store_id, next_caller, caller_count, place_count, row_count}
use Rattle.store_runs.specs.Crews.{AreFresh}
use Rattle.store_runs.proofs.crew.workers.Given as goal

abbrev pub invariant-loop : goal.invariant-loop
invariant-loop g l = record {
  many : vec_len l.all ≡ l.counter;
  next : next_caller l.store ≡ next_caller l.fn.store + l.counter;
  callers : caller_count l.store ≡ caller_count l.fn.store;
  places : place_count l.store ≡ place_count l.fn.store;
  rows : row_count l.store ≡ row_count l.fn.store;
  name : store_id l.store ≡ g.J.Naming.store;
  fresh : AreFresh (place_count l.fn.store) (row_count l.fn.store) (caller_count l.fn.store) (next_caller l.fn.store) (map (λ w. w.pass) l.all.items);
}
