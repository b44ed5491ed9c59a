use Rattle.std.proofs.Common.{arith, sym, ◌∙◌}
use Rattle.lazy_rec.specs.Numbers.{binary}
use Rattle.lazy_rec.proofs.Digits.{leading_true-digits}
use Rattle.lazy_rec.proofs.numbers.trailing_ones.Goals as goal

pub returns : goal.returns
unfolding binary
returns c = c.trailing_ones.ensures ∙ sym (leading_true-digits 64 c.args.n (omega arith))
