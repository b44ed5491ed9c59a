use Rattle.word_store.proofs.RuleLaws.{done_is_unclaimed}
use Rattle.word_store.proofs.laws.done_is_unclaimed.Goals as goal

pub returns : goal.returns
returns c = done_is_unclaimed
