use Rattle.word_store.proofs.RuleLaws.{places_are_due}
use Rattle.word_store.proofs.laws.places_are_due.Goals as goal

pub returns : goal.returns
returns c = places_are_due
