use Rattle.std.proofs.Common.{◌∙◌, ap, remove, List, ℕ}
use Rattle.plain_model.proofs.ByPlaces.{without_item-found, without_item-not_found}
use Rattle.plain_model.proofs.Growth.{by_parts}
use Rattle.plain_model.proofs.effects.removed.Goals as goal

pub returns-in_default : goal.returns-in_default
returns-in_default c = rw (without_item-not_found c.args.item c.args.base.now c.in_default.ensures) c.copied.ensures

pub returns : goal.returns
returns c =
    let e = without_item-found c.args.item c.in-Some.at c.args.base.now c.in-Some.ensures in
    by_parts _ _ _ _ e (c.remove.ensures.items ∙ ap (λ (l : List ℕ). remove l c.in-Some.at) c.in_ok-list.ensures.items)
