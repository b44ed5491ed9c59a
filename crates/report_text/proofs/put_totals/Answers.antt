use Rattle.std.proofs.Common.{◌≡◌, ℕ, List, ◌++◌, append_assoc}
use Rattle.std.specs.Prelude.{codes}
use Rattle.report_text.specs.Report.{field_text}
use Rattle.report_text.proofs.put_totals.Goals as goal

joined : (out a b c d e : List ℕ) → ((((out ++ a) ++ b) ++ c) ++ d) ++ e ≡ out ++ (a ++ b ++ c ++ d ++ e)
joined out a b c d e = simp append_assoc

pub returns : goal.returns
returns c =
    let t = c.args.totals in
    rw (c.put_text.ensures.text, c.put_field-4.ensures.text, c.put_field-3.ensures.text, c.put_field-2.ensures.text, c.put_field.ensures.text)
    (joined c.args.text.now.text (field_text (codes "totals forced ") t.forced) (field_text (codes " steps ") t.steps) (field_text (codes " givenup ") t.given_up) (field_text (codes " dues ") t.dues) (codes "\n"))
