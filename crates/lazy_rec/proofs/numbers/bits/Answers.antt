use Rattle.std.proofs.Common.{arith}
use Rattle.lazy_rec.specs.Numbers.{binary}
use Rattle.lazy_rec.proofs.Digits.{length-digits}
use Rattle.lazy_rec.proofs.numbers.bits.Goals as goal

pub returns : goal.returns
unfolding binary
returns c = omega (arith, length-digits 64 c.args.n)
