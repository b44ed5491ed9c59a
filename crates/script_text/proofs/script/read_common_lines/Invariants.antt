use Rattle.std.proofs.Common.{◌+◌, ◌≤◌, length}
use Rattle.script_text.specs.Common.{ReadOn}
use Rattle.script_text.proofs.script.read_common_lines.Given as goal

abbrev pub invariant-loop-after : goal.invariant-loop-after
invariant-loop-after l =
    record {
      read : ReadOn l.fn.script (l.fn.number + 1) l.fn.bytes l.script (l.number + 1) l.after;
      shorter : length l.after ≤ length l.rest;
    }

abbrev pub decreases-loop-after : goal.decreases-loop-after
decreases-loop-after l = length l.rest
