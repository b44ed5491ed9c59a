use Rattle.std.proofs.Common.{arith, [], ◌∷◌}
use Rattle.finger_level.specs.declared.level.Side.TheVariants as sides
use Rattle.finger_level.specs.Concat.{IsOnto}
use Rattle.finger_level.proofs.Concats.{right_more}
use Rattle.finger_level.proofs.concat.push_few_right.Goals as goal

pub returns-in-Two : goal.returns-in-Two
returns-in-Two c =
    let p0 = c.push_right-first.ensures in
    let o0 : IsOnto sides.Right (c.in-Two.a.0 ∷ []) c.args.level c.push_right-first.result = record { made = p0.made; kept = p0.kept; places = p0.places; more = omega (arith, p0.more); most = p0.most; stands = p0.stands; under = p0.under; keyed = λ k w h l. p0.keys k w h.0 l } in
    let p1 = c.push_right-in-Two.ensures in
    let o1 : IsOnto sides.Right (c.in-Two.b.0 ∷ []) c.push_right-first.result c.push_right-in-Two.result = record { made = p1.made; kept = p1.kept; places = p1.places; more = omega (arith, p1.more); most = p1.most; stands = p1.stands; under = p1.under; keyed = λ k w h l. p1.keys k w h.0 l } in
    rw c.in-Two.is (right_more o0 o1)

pub returns-in-Three : goal.returns-in-Three
returns-in-Three c =
    let p0 = c.push_right-first-in-Three.ensures in
    let o0 : IsOnto sides.Right (c.in-Three.a.0 ∷ []) c.args.level c.push_right-first-in-Three.result = record { made = p0.made; kept = p0.kept; places = p0.places; more = omega (arith, p0.more); most = p0.most; stands = p0.stands; under = p0.under; keyed = λ k w h l. p0.keys k w h.0 l } in
    let p1 = c.push_right-second.ensures in
    let o1 : IsOnto sides.Right (c.in-Three.b.0 ∷ []) c.push_right-first-in-Three.result c.push_right-second.result = record { made = p1.made; kept = p1.kept; places = p1.places; more = omega (arith, p1.more); most = p1.most; stands = p1.stands; under = p1.under; keyed = λ k w h l. p1.keys k w h.0 l } in
    let p2 = c.push_right-in-Three.ensures in
    let o2 : IsOnto sides.Right (c.in-Three.c.0 ∷ []) c.push_right-second.result c.push_right-in-Three.result = record { made = p2.made; kept = p2.kept; places = p2.places; more = omega (arith, p2.more); most = p2.most; stands = p2.stands; under = p2.under; keyed = λ k w h l. p2.keys k w h.0 l } in
    rw c.in-Three.is (right_more o0 (right_more o1 o2))

pub returns-in-Four : goal.returns-in-Four
returns-in-Four c =
    let p0 = c.push_right-first-in-Four.ensures in
    let o0 : IsOnto sides.Right (c.in-Four.a.0 ∷ []) c.args.level c.push_right-first-in-Four.result = record { made = p0.made; kept = p0.kept; places = p0.places; more = omega (arith, p0.more); most = p0.most; stands = p0.stands; under = p0.under; keyed = λ k w h l. p0.keys k w h.0 l } in
    let p1 = c.push_right-second-in-Four.ensures in
    let o1 : IsOnto sides.Right (c.in-Four.b.0 ∷ []) c.push_right-first-in-Four.result c.push_right-second-in-Four.result = record { made = p1.made; kept = p1.kept; places = p1.places; more = omega (arith, p1.more); most = p1.most; stands = p1.stands; under = p1.under; keyed = λ k w h l. p1.keys k w h.0 l } in
    let p2 = c.push_right-third.ensures in
    let o2 : IsOnto sides.Right (c.in-Four.c.0 ∷ []) c.push_right-second-in-Four.result c.push_right-third.result = record { made = p2.made; kept = p2.kept; places = p2.places; more = omega (arith, p2.more); most = p2.most; stands = p2.stands; under = p2.under; keyed = λ k w h l. p2.keys k w h.0 l } in
    let p3 = c.push_right-in-Four.ensures in
    let o3 : IsOnto sides.Right (c.in-Four.d.0 ∷ []) c.push_right-third.result c.push_right-in-Four.result = record { made = p3.made; kept = p3.kept; places = p3.places; more = omega (arith, p3.more); most = p3.most; stands = p3.stands; under = p3.under; keyed = λ k w h l. p3.keys k w h.0 l } in
    rw c.in-Four.is (right_more o0 (right_more o1 (right_more o2 o3)))
