use Rattle.std.proofs.Common.{sym, ◌∙◌}
use Rattle.finger_level.proofs.Measuring.{greatest}
use Rattle.finger_level.proofs.measured.GreatestCached.of_weight.Goals as goal

pub returns : goal.returns
returns c = λ xs size key. c.after_key.ensures ∙ (rw (size, key) (sym (greatest xs)))
