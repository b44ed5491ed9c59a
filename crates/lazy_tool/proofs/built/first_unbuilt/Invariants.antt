use Rattle.std.proofs.Common.{◌+◌}
use Rattle.lazy_tool.specs.Scripts.{AreBuiltBefore}
use Rattle.lazy_tool.proofs.built.first_unbuilt.Given as goal

abbrev pub invariant-loop-i : goal.invariant-loop-i
invariant-loop-i l = AreBuiltBefore l.script.events (l.i + 1)
