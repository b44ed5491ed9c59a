use Rattle.word_store.proofs.RuleLaws.{work_is_due}
use Rattle.word_store.proofs.laws.work_is_due.Goals as goal

pub returns : goal.returns
returns c = work_is_due
