use Rattle.version_book.proofs.IdlePasses.{skipped_idle, caller_stays}
use Rattle.version_book.proofs.pass.BookPass.skip.Goals as goal

pub invariant_of-self : goal.invariant_of-self
invariant_of-self g c = (skipped_idle c.self.invariant.0 c.skip.ensures, caller_stays c.skip.ensures.on.about c.self.invariant.1, c.self.invariant.2)
