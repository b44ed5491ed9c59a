use Rattle.std.proofs.Common.{◌∙◌}
use Rattle.script_text.proofs.FrontDigits.{first_moved}
use Rattle.script_text.proofs.front_digits.first_digits.Goals as goal

pub returns : goal.returns
returns c bytes are all =
    let m = first_moved c.args.worths c.args.count bytes c.requires.few are all in
    c.eight_digits.ensures m.0 m.1 m.2 ∙ m.3
