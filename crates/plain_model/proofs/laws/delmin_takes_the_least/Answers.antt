use Rattle.plain_model.proofs.LawLemmas.{least-put_back}
use Rattle.plain_model.proofs.laws.delmin_takes_the_least.Goals as goal

pub returns : goal.returns
returns c = least-put_back c.args.base.now c.args.least c.requires.rising c.requires.few c.requires.told
