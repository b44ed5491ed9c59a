use Rattle.std.proofs.Common.{sym, ◌∙◌}
use Rattle.finger_level.proofs.Measuring.{sizes}
use Rattle.finger_level.proofs.measured.SizeCached.of_weight.Goals as goal

pub returns : goal.returns
returns c = λ xs size key. size ∙ sym (sizes xs)
