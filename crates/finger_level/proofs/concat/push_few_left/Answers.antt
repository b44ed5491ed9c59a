use Rattle.std.proofs.Common.{arith, [], ◌∷◌}
use Rattle.finger_level.specs.declared.level.Side.TheVariants as sides
use Rattle.finger_level.specs.Concat.{IsOnto}
use Rattle.finger_level.proofs.Concats.{left_more}
use Rattle.finger_level.proofs.concat.push_few_left.Goals as goal

pub returns-in-Two : goal.returns-in-Two
returns-in-Two c =
    let p0 = c.push_left-second.ensures in
    let o0 : IsOnto sides.Left (c.in-Two.b.0 ∷ []) c.args.level c.push_left-second.result = record { made = p0.made; kept = p0.kept; places = p0.places; more = omega (arith, p0.more); most = p0.most; stands = p0.stands; under = p0.under; keyed = λ k w h l. p0.keys k w h.0 l } in
    let p1 = c.push_left-in-Two.ensures in
    let o1 : IsOnto sides.Left (c.in-Two.a.0 ∷ []) c.push_left-second.result c.push_left-in-Two.result = record { made = p1.made; kept = p1.kept; places = p1.places; more = omega (arith, p1.more); most = p1.most; stands = p1.stands; under = p1.under; keyed = λ k w h l. p1.keys k w h.0 l } in
    rw c.in-Two.is (left_more o1 o0)

pub returns-in-Three : goal.returns-in-Three
returns-in-Three c =
    let p0 = c.push_left-third.ensures in
    let o0 : IsOnto sides.Left (c.in-Three.c.0 ∷ []) c.args.level c.push_left-third.result = record { made = p0.made; kept = p0.kept; places = p0.places; more = omega (arith, p0.more); most = p0.most; stands = p0.stands; under = p0.under; keyed = λ k w h l. p0.keys k w h.0 l } in
    let p1 = c.push_left-second-in-Three.ensures in
    let o1 : IsOnto sides.Left (c.in-Three.b.0 ∷ []) c.push_left-third.result c.push_left-second-in-Three.result = record { made = p1.made; kept = p1.kept; places = p1.places; more = omega (arith, p1.more); most = p1.most; stands = p1.stands; under = p1.under; keyed = λ k w h l. p1.keys k w h.0 l } in
    let p2 = c.push_left-in-Three.ensures in
    let o2 : IsOnto sides.Left (c.in-Three.a.0 ∷ []) c.push_left-second-in-Three.result c.push_left-in-Three.result = record { made = p2.made; kept = p2.kept; places = p2.places; more = omega (arith, p2.more); most = p2.most; stands = p2.stands; under = p2.under; keyed = λ k w h l. p2.keys k w h.0 l } in
    rw c.in-Three.is (left_more o2 (left_more o1 o0))

pub returns-in-Four : goal.returns-in-Four
returns-in-Four c =
    let p0 = c.push_left-fourth.ensures in
    let o0 : IsOnto sides.Left (c.in-Four.d.0 ∷ []) c.args.level c.push_left-fourth.result = record { made = p0.made; kept = p0.kept; places = p0.places; more = omega (arith, p0.more); most = p0.most; stands = p0.stands; under = p0.under; keyed = λ k w h l. p0.keys k w h.0 l } in
    let p1 = c.push_left-third-in-Four.ensures in
    let o1 : IsOnto sides.Left (c.in-Four.c.0 ∷ []) c.push_left-fourth.result c.push_left-third-in-Four.result = record { made = p1.made; kept = p1.kept; places = p1.places; more = omega (arith, p1.more); most = p1.most; stands = p1.stands; under = p1.under; keyed = λ k w h l. p1.keys k w h.0 l } in
    let p2 = c.push_left-second-in-Four.ensures in
    let o2 : IsOnto sides.Left (c.in-Four.b.0 ∷ []) c.push_left-third-in-Four.result c.push_left-second-in-Four.result = record { made = p2.made; kept = p2.kept; places = p2.places; more = omega (arith, p2.more); most = p2.most; stands = p2.stands; under = p2.under; keyed = λ k w h l. p2.keys k w h.0 l } in
    let p3 = c.push_left-in-Four.ensures in
    let o3 : IsOnto sides.Left (c.in-Four.a.0 ∷ []) c.push_left-second-in-Four.result c.push_left-in-Four.result = record { made = p3.made; kept = p3.kept; places = p3.places; more = omega (arith, p3.more); most = p3.most; stands = p3.stands; under = p3.under; keyed = λ k w h l. p3.keys k w h.0 l } in
    rw c.in-Four.is (left_more o3 (left_more o2 (left_more o1 o0)))
