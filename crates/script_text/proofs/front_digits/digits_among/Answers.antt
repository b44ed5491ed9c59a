use Rattle.std.proofs.Common.{ltb, w8, arith}
use Rattle.std.proofs.lemmas.Simd.{bitmask_splat}
use Rattle.script_text.proofs.FrontDigits.{low_ones}
use Rattle.script_text.proofs.front_digits.digits_among.Goals as goal

pub returns-clause-few : goal.returns-clause-few
returns-clause-few c = (low_ones c.args.worths _ c.trailing_ones.result c.fits-worths.0 (bitmask_splat w8 ltb c.args.worths 16 10 c.fits-worths.0 (omega arith)) c.trailing_ones.ensures).0

pub returns-clause-digits : goal.returns-clause-digits
returns-clause-digits c = (low_ones c.args.worths _ c.trailing_ones.result c.fits-worths.0 (bitmask_splat w8 ltb c.args.worths 16 10 c.fits-worths.0 (omega arith)) c.trailing_ones.ensures).1
