use Rattle.std.proofs.Common.{arith}
use Rattle.script_text.proofs.CommonLines.{common_other}
use Rattle.script_text.proofs.common_lines.other_line.Goals as goal

pub returns : goal.returns
returns c line is =
    common_other c.args.before.now c.form_of-form.result line c.args.bytes.now c.in_ok-base.more.now c.in_ok-other.after.now c.args.op c.in_ok-base.base c.in_ok-other.other c.first_of.result c.first_of-2.result c.in-Ok.event
    c.form_of-form.ensures c.first_of.ensures c.first_of-2.ensures (omega (arith, c.requires.room)) is c.requires.syntax c.requires.in_form c.in_ok-base.ensures c.in_ok-other.ensures c.in-Ok.ensures
