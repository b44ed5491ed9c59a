use Rattle.std.proofs.Common.{◌+◌, length}
use Rattle.script_text.specs.Common.{ReadOn}
use Rattle.script_text.proofs.script.read_lines.Given as goal

abbrev pub invariant-loop-event : goal.invariant-loop-event
invariant-loop-event l = ReadOn l.fn.script (l.fn.number + 1) l.fn.bytes l.script (l.number + 1) l.rest

abbrev pub decreases-loop-event : goal.decreases-loop-event
decreases-loop-event l = length l.rest
