use Rattle.word_store.proofs.RuleLaws.{vain_is_short}
use Rattle.word_store.proofs.laws.vain_is_short.Goals as goal

pub returns : goal.returns
returns c = vain_is_short
