use Rattle.word_store.proofs.Given.{vain_is_told}
use Rattle.word_store.proofs.laws.vain_is_told.Goals as goal

pub returns : goal.returns
returns c = vain_is_told
