use Rattle.std.proofs.Common.{◌^◌, refl, w8, arith}
use Rattle.std.proofs.lemmas.Simd.{get_or_wider, below_from_Fits}
use Rattle.script_text.proofs.front_digits.first_eight.Goals as goal

pub returns : goal.returns
returns c = get_or_wider 256 8 (2 ^ 64) 2 c.args.worths 0 refl (below_from_Fits w8 c.args.worths c.fits-worths.1) (omega arith)
