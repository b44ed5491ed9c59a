use Rattle.std.proofs.Common.{◌≡◌, ◌∙◌, ap, eqb, refl, arith, max, Some, true, false}
use Rattle.std.proofs.lemmas.Bool.{and_from, or_left, or_right, eq-eqb}
use Rattle.heap_store.specs.World.{recs, is_value}
use Rattle.heap_store.specs.View.{Quiet}
use Rattle.heap_store.proofs.GrowthLaws.{grows_trans}
use Rattle.heap_store.proofs.Steps.{Quiet_trans}
use Rattle.heap_store.proofs.ValueLaws.{place_waits}
use Rattle.heap_store.proofs.ReadLaws.{is_there}
use Rattle.finger_level.proofs.Found.{IsValueAt, value_tree}
use Rattle.finger_tree.specs.Work.{joining}
use Rattle.finger_tree.proofs.Works.{Makes, level_told, work_ready, work_need, cursor_stays, value_known, waited_there, value_up_at}
use Rattle.finger_tree.proofs.ConcatWorks.{shape, waited, join_works, join_facts}
use Rattle.finger_tree.proofs.concat.prepare.Goals as goal
use Rattle.finger_tree.proofs.concat.prepare.Goals.{After-join_of-join, After-concat_level-level}

here : (g : _) (c : After-join_of-join g) → recs (g.H.Heap.view c.args.h.now).seen c.args.s.0 ≡ Some (joining c.join_of-join.result)
here g c = c.requires.rec ∙ ap Some c.join_of-join.ensures

pub value_place-requires : goal.value_place-requires
value_place-requires g c = is_there (recs (g.H.Heap.view c.args.h.now).seen) c.join_of-join.result.left.0 (waited_there (waited (g.met.H.Heap.lawful c.args.h.now).world c.args.s.0 c.join_of-join.result (here g (goal.at.value_place-requires g c).After-join_of-join)).0)

pub value_place-requires-2 : goal.value_place-requires-2
value_place-requires-2 g c =
    let law1 = (g.met.H.Heap.lawful c.value_place.new.h).world in
    let e = c.value_place.ensures.quiet.grows.records _ _ (here g (goal.at.value_place-requires-2 g c).After-join_of-join) in
    is_there (recs (g.H.Heap.view c.value_place.new.h).seen) c.join_of-join.result.right.0 (waited_there (waited law1 c.args.s.0 c.join_of-join.result e).1.0)

pub concat_level-level-requires-clause-left : goal.concat_level-level-requires-clause-left
concat_level-level-requires-clause-left g c =
    let law1 = (g.met.H.Heap.lawful c.value_place.new.h).world in
    let e = c.value_place.ensures.quiet.grows.records _ _ (here g (goal.at.concat_level-level-requires-clause-left g c).After-join_of-join) in
    let w = waited law1 c.args.s.0 c.join_of-join.result e in
    (value_up_at law1 c.value_place-2.ensures.quiet.grows c.join_of-join.result.left.0 c.in-Some.p.0 (waited_there w.0) (value_tree law1 c.join_of-join.result.left.0 c.in-Some.p.0 w.0.sort c.in-Some.ensures.place)).there

pub concat_level-level-requires-clause-digit : goal.concat_level-level-requires-clause-digit
concat_level-level-requires-clause-digit g c =
    let q = Quiet_trans c.value_place.ensures.quiet c.value_place-2.ensures.quiet in
    (join_facts (g.met.H.Heap.lawful c.value_place-2.new.h).world c.args.s.0 c.join_of-join.result (q.grows.records _ _ (here g (goal.at.concat_level-level-requires-clause-digit g c).After-join_of-join))).list_sort

pub concat_level-level-requires-clause-right : goal.concat_level-level-requires-clause-right
concat_level-level-requires-clause-right g c =
    let law2 = (g.met.H.Heap.lawful c.value_place-2.new.h).world in
    let q = Quiet_trans c.value_place.ensures.quiet c.value_place-2.ensures.quiet in
    let w = waited law2 c.args.s.0 c.join_of-join.result (q.grows.records _ _ (here g (goal.at.concat_level-level-requires-clause-right g c).After-join_of-join)) in
    (value_tree law2 c.join_of-join.result.right.0 c.in-Some-value_place.q.0 w.1.0.sort c.in-Some-value_place.ensures.place).there

-- what was read shows the same
quiet : (g : _) (c : After-concat_level-level g) → Quiet (g.H.Heap.view c.args.h.now) (g.H.Heap.view c.concat_level-level.new.h)
quiet g c = Quiet_trans (Quiet_trans c.value_place.ensures.quiet c.value_place-2.ensures.quiet) c.concat_level-level.ensures.quiet

-- the values of both trees
left_at : (g : _) (c : After-concat_level-level g) → IsValueAt (g.H.Heap.view c.concat_level-level.new.h).seen c.join_of-join.result.left.0 c.in-Some.p.0
left_at g c =
    let law1 = (g.met.H.Heap.lawful c.value_place.new.h).world in
    let e = c.value_place.ensures.quiet.grows.records _ _ (c.requires.rec ∙ ap Some c.join_of-join.ensures) in
    let w = waited law1 c.args.s.0 c.join_of-join.result e in
    value_up_at law1 (grows_trans c.value_place-2.ensures.quiet.grows c.concat_level-level.ensures.quiet.grows) c.join_of-join.result.left.0 c.in-Some.p.0 (waited_there w.0) (value_tree law1 c.join_of-join.result.left.0 c.in-Some.p.0 w.0.sort c.in-Some.ensures.place)

right_at : (g : _) (c : After-concat_level-level g) → IsValueAt (g.H.Heap.view c.concat_level-level.new.h).seen c.join_of-join.result.right.0 c.in-Some-value_place.q.0
right_at g c =
    let law2 = (g.met.H.Heap.lawful c.value_place-2.new.h).world in
    let q = Quiet_trans c.value_place.ensures.quiet c.value_place-2.ensures.quiet in
    let w = waited law2 c.args.s.0 c.join_of-join.result (q.grows.records _ _ (c.requires.rec ∙ ap Some c.join_of-join.ensures)) in
    value_up_at law2 c.concat_level-level.ensures.quiet.grows c.join_of-join.result.right.0 c.in-Some-value_place.q.0 (waited_there w.1.0) (value_tree law2 c.join_of-join.result.right.0 c.in-Some-value_place.q.0 w.1.0.sort c.in-Some-value_place.ensures.place)

-- the level that it makes
works : (g : _) (c : After-concat_level-level g) → Makes (g.H.Heap.view c.concat_level-level.new.h).seen c.args.s.0 (joining c.join_of-join.result) (max c.in-Some.p.0 c.in-Some-value_place.q.0) c.join_of-join.result.origin c.join_of-join.result.weight c.concat_level-level.result
works g c = join_works (g.met.H.Heap.lawful c.concat_level-level.new.h).world c.args.s.0 c.in-Some.p.0 c.in-Some-value_place.q.0 c.join_of-join.result c.concat_level-level.result ((quiet g c).grows.records _ _ (c.requires.rec ∙ ap Some c.join_of-join.ensures)) (left_at g c) (right_at g c) c.concat_level-level.ensures.concat

pub returns-in_default-clause-cursor : goal.returns-in_default-clause-cursor
returns-in_default-clause-cursor g c = cursor_stays (shape c.join_of-join.result) c.value_place.ensures.quiet.grows c.args.s.0 (here g (goal.at.returns-in_default-clause-cursor g c).After-join_of-join) c.args.cursor.now c.requires.cursor

pub returns-in_default-clause-answer : goal.returns-in_default-clause-answer
returns-in_default-clause-answer g c =
    let law1 = (g.met.H.Heap.lawful c.value_place.new.h).world in
    let e1 = c.value_place.ensures.quiet.grows.records _ _ (here g (goal.at.returns-in_default-clause-answer g c).After-join_of-join) in
    let t = c.join_of-join.result.left.0 in
    let w = waited law1 c.args.s.0 c.join_of-join.result e1 in
    work_need law1 (shape c.join_of-join.result) c.args.s.0 t e1 (or_left (eqb t t) _ (eq-eqb t t refl)) w.0 (place_waits (g.H.Heap.view c.value_place.new.h).seen t (waited_there w.0) c.in_default.ensures.place)

pub returns-in_default-value_place-clause-quiet : goal.returns-in_default-value_place-clause-quiet
returns-in_default-value_place-clause-quiet g c = Quiet_trans c.value_place.ensures.quiet c.value_place-2.ensures.quiet

pub returns-in_default-value_place-clause-cursor : goal.returns-in_default-value_place-clause-cursor
returns-in_default-value_place-clause-cursor g c = cursor_stays (shape c.join_of-join.result) (Quiet_trans c.value_place.ensures.quiet c.value_place-2.ensures.quiet).grows c.args.s.0 (here g (goal.at.returns-in_default-value_place-clause-cursor g c).After-join_of-join) c.args.cursor.now c.requires.cursor

pub returns-in_default-value_place-clause-answer : goal.returns-in_default-value_place-clause-answer
returns-in_default-value_place-clause-answer g c =
    let law2 = (g.met.H.Heap.lawful c.value_place-2.new.h).world in
    let q = Quiet_trans c.value_place.ensures.quiet c.value_place-2.ensures.quiet in
    let e2 = q.grows.records _ _ (here g (goal.at.returns-in_default-value_place-clause-answer g c).After-join_of-join) in
    let l = c.join_of-join.result.left.0 in
    let t = c.join_of-join.result.right.0 in
    let w = waited law2 c.args.s.0 c.join_of-join.result e2 in
    work_need law2 (shape c.join_of-join.result) c.args.s.0 t e2 (or_right (eqb l t) _ (or_left (eqb t t) false (eq-eqb t t refl))) w.1.0 (place_waits (g.H.Heap.view c.value_place-2.new.h).seen t (waited_there w.1.0) c.in_default-value_place.ensures.place)

pub returns-clause-quiet : goal.returns-clause-quiet
returns-clause-quiet g c = Quiet_trans (Quiet_trans c.value_place.ensures.quiet c.value_place-2.ensures.quiet) c.concat_level-level.ensures.quiet

pub returns-clause-cursor : goal.returns-clause-cursor
returns-clause-cursor g c = cursor_stays (shape c.join_of-join.result) (Quiet_trans (Quiet_trans c.value_place.ensures.quiet c.value_place-2.ensures.quiet) c.concat_level-level.ensures.quiet).grows c.args.s.0 (here g (goal.at.returns-clause-cursor g c).After-join_of-join) c.args.cursor.now c.requires.cursor

pub returns-clause-answer : goal.returns-clause-answer
returns-clause-answer g c =
    let d = (goal.at.returns-clause-answer g c).After-concat_level-level in
    let w = (g.H.Heap.view c.concat_level-level.new.h).seen in
    let known = and_from (is_value w c.join_of-join.result.left.0) _ (value_known w c.join_of-join.result.left.0 c.in-Some.p.0 (left_at g d)) (and_from (is_value w c.join_of-join.result.right.0) true (value_known w c.join_of-join.result.right.0 c.in-Some-value_place.q.0 (right_at g d)) refl) in
    let m = works g d in
    let told = level_told c.args.s.0 (max c.in-Some.p.0 c.in-Some-value_place.q.0) (joining c.join_of-join.result) c.join_of-join.result.origin c.join_of-join.result.weight c.concat_level-level.result c.places.result m c.places.ensures.exact in
    work_ready (shape c.join_of-join.result) c.args.s.0 c.places.result m.here known told (omega (arith, c.places.ensures.exact, m.most))
