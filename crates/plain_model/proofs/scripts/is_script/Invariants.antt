use Rattle.plain_model.proofs.ScriptSteps.{SoFar}
use Rattle.plain_model.proofs.scripts.is_script.Given as goal

abbrev pub invariant-loop-event : goal.invariant-loop-event
invariant-loop-event l = SoFar l.events l.kinds.items l.event-index
