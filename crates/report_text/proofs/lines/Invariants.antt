use Rattle.std.proofs.Common.{◌≡◌}
use Rattle.report_text.specs.Report.{lines_to, some_given_up}
use Rattle.report_text.specs.Written.{counted}
use Rattle.report_text.proofs.lines.Given as goal

abbrev pub invariant-loop-i : goal.invariant-loop-i
invariant-loop-i l =
    record {
      text : l.text.text ≡ lines_to l.closed l.i;
      given_up : l.has_given_up ≡ some_given_up l.closed l.i;
      counter : l.counter ≡ counted l.i;
    }
