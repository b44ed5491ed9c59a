-- No number has more than 64 binary digits here.
use Rattle.std.proofs.Common.{ℕ, ◌≤◌, ◌*◌, arith}
use Rattle.std.proofs.lemmas.Nat.{mul-le}
use Rattle.lazy_rec.specs.Numbers.{binary, bits}
use Rattle.lazy_rec.proofs.Digits.{length-digits}

pub bits_fit : (n : ℕ) → bits n ≤ 64
unfolding binary
bits_fit n = omega (arith, length-digits 64 n)

pub square_fits : (b : ℕ) → b ≤ 64 → 2 * b * b ≤ 8192
square_fits b h = omega (arith, mul-le b b 64 64 h h)
