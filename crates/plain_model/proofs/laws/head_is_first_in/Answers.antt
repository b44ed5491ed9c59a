use Rattle.plain_model.proofs.LawLemmas.{head-after_snocs}
use Rattle.plain_model.proofs.laws.head_is_first_in.Goals as goal

pub returns : goal.returns
returns c = head-after_snocs c.args.first c.args.later.now
