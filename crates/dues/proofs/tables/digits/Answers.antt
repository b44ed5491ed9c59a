use Rattle.std.proofs.Common.{arith}
use Rattle.dues.proofs.BitsFit.{bits_fit, square_fits}
use Rattle.dues.proofs.tables.digits.Goals as goal

pub returns-clause-few : goal.returns-clause-few
returns-clause-few c = omega (arith, bits_fit c.args.n, c.bits.ensures)

pub returns-clause-fits_squared : goal.returns-clause-fits_squared
returns-clause-fits_squared c = square_fits c.bits.result (omega (arith, bits_fit c.args.n, c.bits.ensures))
