use Rattle.std.proofs.Common.{arith}
use Rattle.script_text.proofs.CommonLines.{common_new}
use Rattle.script_text.proofs.common_lines.other_event.Goals as goal

pub returns : goal.returns
returns c = rw c.event_of_new.ensures (common_new c.args.before.now c.args.bytes.now c.in_ok-after_new.field-0.now c.in_ok-kind.after.now c.in_ok-kind.kind (omega (arith, c.requires)) c.in_ok-after_new.ensures c.in_ok-kind.ensures)
