use Rattle.word_store.proofs.RuleLaws.{claims_are_once}
use Rattle.word_store.proofs.laws.claims_are_once.Goals as goal

pub returns : goal.returns
returns c = claims_are_once
