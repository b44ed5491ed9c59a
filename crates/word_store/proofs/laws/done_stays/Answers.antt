use Rattle.word_store.proofs.RuleLaws.{done_stays}
use Rattle.word_store.proofs.laws.done_stays.Goals as goal

pub returns : goal.returns
returns c = done_stays
