use Rattle.script_text.proofs.GeneratorLaws.{IsSoFar}
use Rattle.script_text.proofs.generator.made_script.Given as goal

abbrev pub invariant-loop-made : goal.invariant-loop-made
invariant-loop-made l = IsSoFar l.fn.seed l.made l.script l.state l.bounds.items
