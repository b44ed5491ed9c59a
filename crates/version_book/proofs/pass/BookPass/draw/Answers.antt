use Rattle.version_book.proofs.IdlePasses.{drawn_idle}
use Rattle.version_book.proofs.pass.BookPass.draw.Goals as goal

pub invariant_of-self : goal.invariant_of-self
invariant_of-self g c =
    let k = drawn_idle (g.R.Heap.view c.self.inside.heap) (g.R.Heap.view c.draw_name.new.self) c.self.inside.caller c.draw_name.result c.draw_name.ensures.ok c.draw_name.ensures.err c.self.invariant.0 c.self.invariant.1 in
    (k.0, k.1, c.self.invariant.2)
