use Rattle.plain_model.proofs.LawLemmas.{upto-above}
use Rattle.plain_model.proofs.RisingLists.{is_rising-IsNonDecreasing}
use Rattle.plain_model.proofs.laws.upto_and_above_make_base.Goals as goal

pub returns : goal.returns
returns c = upto-above c.args.bound c.args.base.now (is_rising-IsNonDecreasing c.args.base.now c.requires)
