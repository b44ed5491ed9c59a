use Rattle.std.proofs.Common.{◌<◌, length, arith}
use Rattle.std.proofs.lemmas.Bool.Decides.{nat_tests}
use Rattle.script_text.proofs.Cuts.{first_word}
use Rattle.script_text.proofs.lines.next_word.Goals as goal

pub returns : goal.returns
returns c =
    let some : 0 < length c.trimmed-rest.result.now = grind (arith, nat_tests, c.if-is_empty.false, c.if-is_empty.ensures) in rw (← c.trimmed-rest.ensures.words, c.cut_at.ensures.front, c.cut_at.ensures.rest) (first_word c.trimmed-rest.result.now some c.trimmed-rest.ensures.first)
