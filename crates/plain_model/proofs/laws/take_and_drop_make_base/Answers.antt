use Rattle.plain_model.proofs.LawLemmas.{parts-whole}
use Rattle.plain_model.proofs.laws.take_and_drop_make_base.Goals as goal

pub returns : goal.returns
returns c = record { by_append = parts-whole c.args.count c.args.base.now c.requires; by_concat = parts-whole c.args.count c.args.base.now c.requires }
