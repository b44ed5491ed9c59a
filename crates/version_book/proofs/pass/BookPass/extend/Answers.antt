use Rattle.std.proofs.Common.{refl, true}
use Rattle.heap_store.specs.View.{About}
use Rattle.version_book.proofs.IdlePasses.{still_empty}
use Rattle.version_book.proofs.pass.BookPass.extend.Goals as goal

-- the stack serves a heap that is worked on alone, so it is empty, and the run leaves whom it serves
pub invariant_of-self : goal.invariant_of-self
invariant_of-self g c =
    let about = (g.R.Heap.view c.self.inside.heap).about in
    let alone : About = record { capacity = about.capacity; rows = about.rows; alone = true; plan = about.plan; caller = about.caller } in
    (c.run.ensures.idle, c.run.ensures.caller, still_empty c.self.inside.stack c.run.new.forces alone (c.run.ensures.same alone) refl c.self.invariant.2)
