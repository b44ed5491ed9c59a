use Rattle.std.proofs.Common.{◌≡◌, ◌<◌, length, arith, sym}
use Rattle.std.proofs.lemmas.Bool.{eqb-false}
use Rattle.plain_model.proofs.ByPlaces.{without_item-last}
use Rattle.plain_model.proofs.effects.without_last.Goals as goal

pub returns : goal.returns
returns c =
    let some : length c.args.base.now ≡ 0 → ⊥ = eqb-false (length c.args.base.now) 0 (sym c.if-is_empty.ensures) in
    let k : 0 < length c.args.base.now = omega arith in
    rw (without_item-last c.args.base.now k) c.copied-2.ensures
