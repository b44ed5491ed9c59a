use Rattle.plain_model.proofs.RisingKinds.{rises}
use Rattle.plain_model.proofs.laws.ordered_kinds_rise.Goals as goal

pub returns : goal.returns
returns c = rises c.args.events.now c.requires.script c.args.version c.args.kind c.requires.of_kind c.requires.ordered
