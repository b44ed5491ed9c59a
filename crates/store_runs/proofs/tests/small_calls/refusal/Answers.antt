use Rattle.heap_store.proofs.Steps.{reserved_held}
use Rattle.store_runs.proofs.tests.small_calls.refusal.Goals as goal

pub fill-requires : goal.fill-requires
fill-requires g c = reserved_held c.in-Ok.ensures.ok
