use Rattle.std.proofs.Common.{arith}
use Rattle.lazy_rec.specs.Numbers.{binary}
use Rattle.lazy_rec.proofs.Digits.{count_true-le}
use Rattle.lazy_rec.proofs.numbers.zeros.Goals as goal

pub overflow_sub-result : goal.overflow_sub-result
overflow_sub-result c = omega (arith, count_true-le (binary c.args.n))
