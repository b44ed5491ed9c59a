use Rattle.std.proofs.Common.{◌<◌, length, arith}
use Rattle.std.proofs.lemmas.Bool.Decides.{nat_tests}
use Rattle.script_text.proofs.Cuts.{first_line}
use Rattle.script_text.proofs.lines.next_line.Goals as goal

pub returns-clause-line : goal.returns-clause-line
returns-clause-line c =
    let some : 0 < length c.args.bytes.now = grind (arith, nat_tests, c.if-is_empty.false, c.if-is_empty.ensures) in rw (c.cut_at.ensures.front, c.cut_at.ensures.rest) (first_line c.args.bytes.now some)
