use Rattle.std.proofs.Common.{◌+◌, ap, ◌∙◌, ◌++◌}
use Rattle.version_book.specs.Closed.{row_told}
use Rattle.report_text.proofs.ToldRows.{some_more, line_more}
use Rattle.report_text.specs.Report.{told_text}
use Rattle.report_text.specs.Written.{counted}
use Rattle.report_text.proofs.lines.Goals as goal

pub put_line-requires-clause-counter : goal.put_line-requires-clause-counter
put_line-requires-clause-counter c = c.next.ensures ∙ ap (λ n. counted (n + 1)) c.from.ensures

pub loop-i-preserved : goal.loop-i-preserved
loop-i-preserved c =
    let w = c.args.closed.now in
    record {
      text = line_more w c.loop-i.i c.loop-i.text.text c.put_line.new.text.text c.loop-i.invariant.text (c.put_line.ensures.text ∙ ap (λ l. l ++ told_text (row_told w (c.loop-i.i + 1))) c.make_room.ensures.text);
      given_up = some_more w c.loop-i.i c.loop-i.has_given_up c.put_line.new.has_given_up c.loop-i.invariant.given_up c.put_line.ensures.given_up;
      counter = c.next.ensures ∙ ap (λ n. counted (n + 1)) c.from.ensures;
    }
