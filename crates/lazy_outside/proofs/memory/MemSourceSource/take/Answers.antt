use Rattle.std.proofs.Common.{arith, ap, sym, ◌∙◌}
use Rattle.lazy_outside.proofs.Moves.{drop-front}
use Rattle.lazy_outside.proofs.memory.MemSourceSource.take.Goals as goal

pub returns-clause-bytes : goal.returns-clause-bytes
returns-clause-bytes c =
    let copied = rw c.deref-2.ensures.value at c.copy_front.ensures in
    (omega arith, omega arith, sym (ap (λ s. s.left) c.self.view_is) ∙ drop-front c.self.inside.at c.min-count.result _ _ copied)
