use Rattle.std.proofs.Common.{◌++◌, ap, sym, ◌∙◌}
use Rattle.report_text.proofs.ToldRows.{replied, unreplied}
use Rattle.report_text.proofs.put_line.Goals as goal

pub returns-in-Some : goal.returns-in-Some
returns-in-Some c =
    let r = replied c.args.closed.now c.args.name c.in-Some.reply c.in-Some.ensures in
    record { text = c.put_replied.ensures ∙ ap (λ l. c.args.text.now.text ++ l) (sym r.text); given_up = r.kept c.args.has_given_up.now }

pub returns-in-None : goal.returns-in-None
returns-in-None c =
    let r = unreplied c.args.closed.now c.args.name c.row-row.result c.in-None.ensures c.row-row.ensures in
    record { text = c.put_other.ensures ∙ ap (λ l. c.args.text.now.text ++ l) (sym r.text); given_up = r.lost c.args.has_given_up.now }
