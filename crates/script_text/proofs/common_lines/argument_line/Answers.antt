use Rattle.std.proofs.Common.{arith}
use Rattle.script_text.proofs.CommonLines.{common_argument}
use Rattle.script_text.proofs.common_lines.argument_line.Goals as goal

pub returns : goal.returns
returns c line is =
    common_argument c.args.before.now c.form_of-form.result line c.args.bytes.now c.in_ok-base.more.now c.in_ok-arg.after.now c.args.op c.in_ok-base.base c.in_ok-arg.arg c.first_of.result c.in-Ok.event
    c.form_of-form.ensures c.first_of.ensures (omega (arith, c.requires.room)) is c.requires.syntax c.requires.in_form c.in_ok-base.ensures c.in_ok-arg.ensures c.in-Ok.ensures
