use Rattle.std.proofs.Common.{◌∙◌}
use Rattle.plain_model.proofs.ByPlaces.{contains-list_any}
use Rattle.plain_model.proofs.lists.has.Goals as goal

pub returns : goal.returns
returns c = c.contains.ensures.value ∙ contains-list_any c.args.item c.args.list.now
