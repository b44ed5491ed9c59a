use Rattle.std.proofs.Common.{◌+◌, ◌≤◌, length}
use Rattle.script_text.specs.Lines.{lines_of}
use Rattle.script_text.specs.Labels.{names_in}
use Rattle.script_text.specs.Text.{body, event_lines}
use Rattle.script_text.proofs.SoFar.{Reads}
use Rattle.script_text.proofs.script.read_script.Given as goal

abbrev pub invariant-loop-labels : goal.invariant-loop-labels
invariant-loop-labels l =
    record {
      number : l.number + length l.rest ≤ 1 + length l.fn.bytes;
      reads : Reads l.initial.script.form (body l.fn.bytes) (event_lines (l.number + 1) (lines_of l.rest)) l.script (names_in l.labels);
    }

abbrev pub decreases-loop-labels : goal.decreases-loop-labels
decreases-loop-labels l = length l.rest
