use Rattle.plain_model.proofs.LawLemmas.{meld-comm}
use Rattle.plain_model.proofs.laws.meld_is_commutative.Goals as goal

pub returns : goal.returns
returns c = meld-comm c.args.base.now c.args.other.now c.requires
