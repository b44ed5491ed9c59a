use Rattle.std.proofs.Common.{◌≤◌, length, decimal, lit<, arith}
use Rattle.std.proofs.lemmas.Fmt.{length-decimal-le}
use Rattle.report_text.proofs.text.Text.put_number.Goals as goal

pub write_digits-start-requires : goal.write_digits-start-requires
write_digits-start-requires c = let d : length (decimal c.args.n) ≤ 20 = length-decimal-le 20 c.args.n (lit< tt) (omega (arith, c.ranges.n.fits)) c.ranges.n.fits in (d, omega arith)
