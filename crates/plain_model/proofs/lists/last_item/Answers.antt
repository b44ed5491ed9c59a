use Rattle.std.proofs.Common.{◌∙◌, sym}
use Rattle.plain_model.proofs.ByPlaces.{last_of-get}
use Rattle.plain_model.proofs.lists.last_item.Goals as goal

pub returns : goal.returns
returns c = c.copied.ensures ∙ (c.last.ensures.value ∙ sym (last_of-get c.args.list.now))
