use Rattle.std.proofs.Common.{◌≡◌, ◌+◌, length, arith}
use Rattle.plain_model.proofs.ByPlaces.{inserted-at}
use Rattle.plain_model.proofs.Growth.{grown-allowed, grown-too_long, by_parts}
use Rattle.lazy_rec.proofs.PlainLaws.{length-insert_rising}
use Rattle.lazy_rec.specs.Plain.{insert_rising}
use Rattle.plain_model.proofs.effects.inserted.Goals as goal

pub returns-then-not-is_allowed : goal.returns-then-not-is_allowed
returns-then-not-is_allowed c =
    let v = c.args.base.now in
    let n : length (insert_rising c.args.item v) ≡ length v + 1 = omega (arith, length-insert_rising c.args.item v) in
    rw (grown-too_long v (insert_rising c.args.item v) _ _ n c.is_allowed.ensures c.if-not-is_allowed.true) c.copied.ensures

pub returns : goal.returns
returns c =
    let v = c.args.base.now in
    let n : length (insert_rising c.args.item v) ≡ length v + 1 = omega (arith, length-insert_rising c.args.item v) in
    let e = grown-allowed v (insert_rising c.args.item v) _ _ n c.is_allowed.ensures c.if-not-is_allowed.false in
    let a = inserted-at c.args.item v in
    by_parts _ _ _ _ e (cc (a, c.in_ok-insert.ensures.items, c.in_ok-list.ensures.items))
