use Rattle.std.proofs.Common.{take-append-drop}
use Rattle.std.proofs.lemmas.List.{length-take}
use Rattle.plain_model.proofs.laws.split_makes_base.Goals as goal

pub returns : goal.returns
returns c = record { together = take-append-drop c.args.count c.args.base.now; cut = length-take c.args.count c.args.base.now }
