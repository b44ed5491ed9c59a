use Rattle.std.proofs.Common.{ap, sym, codes, ◌++◌, lit<}
use Rattle.std.proofs.lemmas.Fmt.{decimal_digit}
use Rattle.report_text.proofs.counter.Counter.new.Goals as goal

pub returns : goal.returns
returns c = ap (λ ds. ds ++ codes " ok\n                ") (sym (decimal_digit 0 (lit< tt)))
