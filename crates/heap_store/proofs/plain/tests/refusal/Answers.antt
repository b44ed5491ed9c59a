use Rattle.heap_store.proofs.Steps.{reserved_held}
use Rattle.heap_store.proofs.plain.tests.refusal.Goals as goal

pub fill-requires : goal.fill-requires
fill-requires c = reserved_held c.in-Ok.ensures.ok
