use Rattle.std.proofs.Common.{arith}
use Rattle.binom_heap.proofs.PlacesLaws.{trailing_few}
use Rattle.binom_heap.proofs.Tops.{zeros_small}
use Rattle.binom_heap.proofs.heap.owed_after.Goals as goal

pub overflow_add-with_steps : goal.overflow_add-with_steps
overflow_add-with_steps c = omega (arith, c.trailing_ones.ensures, trailing_few c.from-2.result, c.from.ensures, zeros_small c.args.size (omega (arith, c.requires.size)), c.requires.owed)

pub overflow_add-with_steps-2 : goal.overflow_add-with_steps-2
overflow_add-with_steps-2 c = omega (arith, c.trailing_ones.ensures, trailing_few c.from-2.result, c.from.ensures, zeros_small c.args.size (omega (arith, c.requires.size)), c.requires.owed)

pub overflow_cast-result : goal.overflow_cast-result
overflow_cast-result c = omega (arith, c.saturating_sub.ensures, c.trailing_ones.ensures, trailing_few c.from-2.result, c.from.ensures, zeros_small c.args.size (omega (arith, c.requires.size)), c.requires.owed)
