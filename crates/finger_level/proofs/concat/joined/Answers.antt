use Rattle.std.proofs.Common.{arith, [], ◌∷◌}
use Rattle.finger_level.specs.declared.level.Side.TheVariants as sides
use Rattle.finger_level.specs.declared.level.Level.TheVariants as levels
use Rattle.finger_level.specs.Concat.{IsOnto}
use Rattle.finger_level.proofs.Concats.{whole_room, left_more, right_last, onto_right, one_onto_right, onto_left, onto_left_one, both_deep}
use Rattle.finger_level.proofs.concat.joined.Goals as goal

pub push_left-requires : goal.push_left-requires
push_left-requires c = let r = whole_room c.args.right c.requires.right c.args.es in omega (arith, r.2, c.push_few_left-rest.ensures.more)

pub push_right-requires : goal.push_right-requires
push_right-requires c = let r = whole_room (levels.Deep c.in-Deep.outer c.in-Deep.near c.in-Deep.first) (rw c.in-Deep.is at c.requires.left) c.args.es in omega (arith, r.3, c.push_few_right-rest.ensures.more)

pub returns-in-Empty : goal.returns-in-Empty
returns-in-Empty c = onto_right c.in-Empty.is c.requires.right c.push_few_left.ensures

pub returns-in_default : goal.returns-in_default
returns-in_default c =
    let p = c.push_left.ensures in
    let o : IsOnto sides.Left (c.in-One.a.0 ∷ []) c.push_few_left-rest.result c.push_left.result = record { made = p.made; kept = p.kept; places = p.places; more = omega (arith, p.more); most = p.most; stands = p.stands; under = p.under; keyed = λ k w h l. p.keys k w h.0 l } in
    one_onto_right c.in-One.a c.in-One.is c.in_default.not-Empty c.requires.right (left_more o c.push_few_left-rest.ensures)

pub returns-in-Empty-right-2 : goal.returns-in-Empty-right-2
returns-in-Empty-right-2 c = onto_left c.in-Deep.outer c.in-Deep.first c.in-Deep.near c.in-Deep.is c.requires.left c.in-Empty-right-2.is c.push_few_right-in-Empty-right-2.ensures

pub returns-in-One-right : goal.returns-in-One-right
returns-in-One-right c =
    let p = c.push_right.ensures in
    let o : IsOnto sides.Right (c.in-One-right.b.0 ∷ []) c.push_few_right-rest.result c.push_right.result = record { made = p.made; kept = p.kept; places = p.places; more = omega (arith, p.more); most = p.most; stands = p.stands; under = p.under; keyed = λ k w h l. p.keys k w h.0 l } in
    onto_left_one c.in-Deep.outer c.in-Deep.first c.in-Deep.near c.in-One-right.b c.in-Deep.is c.requires.left c.in-One-right.is (right_last c.push_few_right-rest.ensures o)

pub returns-in-Deep-right : goal.returns-in-Deep-right
returns-in-Deep-right c = both_deep c.in-Deep.outer c.in-Deep.first c.in-Deep-right.last c.in-Deep-right.other c.in-Deep.near c.in-Deep-right.far c.in-Deep.is c.requires.left c.in-Deep-right.is c.requires.right c.few_of.ensures c.few_of-in-Deep-right.ensures c.group_all-row.ensures c.tree_of.ensures c.tree_of-in-Deep-right.ensures
