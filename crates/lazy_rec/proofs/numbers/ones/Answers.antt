use Rattle.std.proofs.Common.{arith, sym}
use Rattle.lazy_rec.specs.Numbers.{binary}
use Rattle.lazy_rec.proofs.Digits.{count_true-digits}
use Rattle.lazy_rec.proofs.numbers.ones.Goals as goal

pub returns : goal.returns
unfolding binary
returns c = sym (count_true-digits 64 c.args.n (omega arith))
