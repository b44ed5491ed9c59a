use Rattle.plain_model.proofs.LawLemmas.{has-yes, has-no}
use Rattle.plain_model.proofs.laws.has_is_membership.Goals as goal

pub returns : goal.returns
returns c = record { yes = has-yes c.args.item c.args.base.now; no = has-no c.args.item c.args.base.now }
