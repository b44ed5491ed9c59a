use Rattle.script_text.proofs.Unique.{one_script, script_or_fault, first_fault}
use Rattle.script_text.proofs.script.one_reading.Goals as goal

pub returns-clause-one : goal.returns-clause-one
returns-clause-one c = one_script

pub returns-clause-none : goal.returns-clause-none
returns-clause-none c = script_or_fault

pub returns-clause-first : goal.returns-clause-first
returns-clause-first c = first_fault
