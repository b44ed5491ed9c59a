use Rattle.std.proofs.Common.{take}
use lib.Bits.{bit_xor}
use Rattle.std.proofs.lemmas.List.{length-take-le}
use Rattle.std.proofs.lemmas.Simd.{zip2_splat}
use Rattle.script_text.proofs.front_digits.worths_of.Goals as goal

pub returns : goal.returns
returns c = zip2_splat bit_xor (take 16 c.args.bytes.now) 16 48 (length-take-le 16 c.args.bytes.now c.requires)
