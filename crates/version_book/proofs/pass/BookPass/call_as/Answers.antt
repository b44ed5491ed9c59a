use Rattle.std.proofs.Common.{ap, ◌∙◌}
use Rattle.version_book.specs.Pass.{Pass}
use Rattle.version_book.proofs.IdlePasses.{still_empty}
use Rattle.version_book.proofs.pass.BookPass.call_as.Goals as goal

pub invariant_of-self : goal.invariant_of-self
invariant_of-self g c =
    let about = (g.R.Heap.view c.self.inside.heap).about in
    let alone = ap (λ (p : Pass). p.view.about.alone) c.self.view_is ∙ c.requires.alone in
    (c.run.ensures.idle, c.run.ensures.caller, still_empty c.self.inside.stack c.run.new.forces about (c.run.ensures.same about) alone c.self.invariant.2)
