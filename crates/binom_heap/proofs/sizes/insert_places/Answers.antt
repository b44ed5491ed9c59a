use Rattle.std.proofs.Common.{arith}
use Rattle.binom_heap.proofs.BinaryLaws.{ones_most, bits_most, trailing_most}
use Rattle.binom_heap.proofs.sizes.insert_places.Goals as goal

pub overflow_add-result : goal.overflow_add-result
overflow_add-result c = let n = c.from.result in omega (arith, c.trailing_ones.ensures, trailing_most n, ones_most n, bits_most n)

pub overflow_mul-result : goal.overflow_mul-result
overflow_mul-result c = let n = c.from.result in omega (arith, c.trailing_ones.ensures, trailing_most n, ones_most n, bits_most n)
