use Rattle.std.proofs.Common.{◌≡◌, ◌∙◌, ap, arith, max, Some, [], ◌∷◌}
use Rattle.heap_store.specs.World.{recs}
use Rattle.heap_store.specs.View.{Quiet}
use Rattle.heap_store.proofs.GrowthLaws.{grows_trans}
use Rattle.heap_store.proofs.Steps.{Quiet_trans}
use Rattle.heap_store.proofs.ValueLaws.{place_waits}
use Rattle.heap_store.proofs.ReadLaws.{is_there}
use Rattle.finger_level.proofs.Found.{IsValueAt, value_tree}
use Rattle.finger_tree.specs.Work.{joining}
use Rattle.finger_tree.proofs.Works.{Makes, BuildFacts, build_facts, work_ask, level_keys, work_built, value_done_not, waited_there, value_up_at}
use Rattle.finger_tree.proofs.ConcatWorks.{shape, waited, join_works, join_facts}
use Rattle.finger_tree.proofs.concat.build.Goals as goal
use Rattle.finger_tree.proofs.concat.build.Goals.{After-join_of-join, After-concat_level-level}

here : (g : _) (c : After-join_of-join g) → recs (g.H.Heap.view c.args.h.now).seen c.args.s.0 ≡ Some (joining c.join_of-join.result)
here g c = c.requires.rec ∙ ap Some c.join_of-join.ensures

pub value_place-requires : goal.value_place-requires
value_place-requires g c = is_there (recs (g.H.Heap.view c.args.h.now).seen) c.join_of-join.result.left.0 (waited_there (waited (g.met.H.Heap.lawful c.args.h.now).world c.args.s.0 c.join_of-join.result (here g (goal.at.value_place-requires g c).After-join_of-join)).0)

pub value_place-requires-2 : goal.value_place-requires-2
value_place-requires-2 g c =
    let law1 = (g.met.H.Heap.lawful c.value_place.new.h).world in
    let e = c.value_place.ensures.quiet.grows.records _ _ (here g (goal.at.value_place-requires-2 g c).After-join_of-join) in
    is_there (recs (g.H.Heap.view c.value_place.new.h).seen) c.join_of-join.result.right.0 (waited_there (waited law1 c.args.s.0 c.join_of-join.result e).1.0)

pub concat_level-level-requires-clause-left : goal.concat_level-level-requires-clause-left
concat_level-level-requires-clause-left g c =
    let law1 = (g.met.H.Heap.lawful c.value_place.new.h).world in
    let e = c.value_place.ensures.quiet.grows.records _ _ (here g (goal.at.concat_level-level-requires-clause-left g c).After-join_of-join) in
    let w = waited law1 c.args.s.0 c.join_of-join.result e in
    (value_up_at law1 c.value_place-2.ensures.quiet.grows c.join_of-join.result.left.0 c.in-Some.p.0 (waited_there w.0) (value_tree law1 c.join_of-join.result.left.0 c.in-Some.p.0 w.0.sort c.in-Some.ensures.place)).there

pub concat_level-level-requires-clause-digit : goal.concat_level-level-requires-clause-digit
concat_level-level-requires-clause-digit g c =
    let q = Quiet_trans c.value_place.ensures.quiet c.value_place-2.ensures.quiet in
    (join_facts (g.met.H.Heap.lawful c.value_place-2.new.h).world c.args.s.0 c.join_of-join.result (q.grows.records _ _ (here g (goal.at.concat_level-level-requires-clause-digit g c).After-join_of-join))).list_sort

pub concat_level-level-requires-clause-right : goal.concat_level-level-requires-clause-right
concat_level-level-requires-clause-right g c =
    let law2 = (g.met.H.Heap.lawful c.value_place-2.new.h).world in
    let q = Quiet_trans c.value_place.ensures.quiet c.value_place-2.ensures.quiet in
    let w = waited law2 c.args.s.0 c.join_of-join.result (q.grows.records _ _ (here g (goal.at.concat_level-level-requires-clause-right g c).After-join_of-join)) in
    (value_tree law2 c.join_of-join.result.right.0 c.in-Some-value_place.q.0 w.1.0.sort c.in-Some-value_place.ensures.place).there

-- what was read shows the same
quiet : (g : _) (c : After-concat_level-level g) → Quiet (g.H.Heap.view c.args.h.now) (g.H.Heap.view c.concat_level-level.new.h)
quiet g c = Quiet_trans (Quiet_trans c.value_place.ensures.quiet c.value_place-2.ensures.quiet) c.concat_level-level.ensures.quiet

-- the values of both trees
left_at : (g : _) (c : After-concat_level-level g) → IsValueAt (g.H.Heap.view c.concat_level-level.new.h).seen c.join_of-join.result.left.0 c.in-Some.p.0
left_at g c =
    let law1 = (g.met.H.Heap.lawful c.value_place.new.h).world in
    let e = c.value_place.ensures.quiet.grows.records _ _ (c.requires.rec ∙ ap Some c.join_of-join.ensures) in
    let w = waited law1 c.args.s.0 c.join_of-join.result e in
    value_up_at law1 (grows_trans c.value_place-2.ensures.quiet.grows c.concat_level-level.ensures.quiet.grows) c.join_of-join.result.left.0 c.in-Some.p.0 (waited_there w.0) (value_tree law1 c.join_of-join.result.left.0 c.in-Some.p.0 w.0.sort c.in-Some.ensures.place)

right_at : (g : _) (c : After-concat_level-level g) → IsValueAt (g.H.Heap.view c.concat_level-level.new.h).seen c.join_of-join.result.right.0 c.in-Some-value_place.q.0
right_at g c =
    let law2 = (g.met.H.Heap.lawful c.value_place-2.new.h).world in
    let q = Quiet_trans c.value_place.ensures.quiet c.value_place-2.ensures.quiet in
    let w = waited law2 c.args.s.0 c.join_of-join.result (q.grows.records _ _ (c.requires.rec ∙ ap Some c.join_of-join.ensures)) in
    value_up_at law2 c.concat_level-level.ensures.quiet.grows c.join_of-join.result.right.0 c.in-Some-value_place.q.0 (waited_there w.1.0) (value_tree law2 c.join_of-join.result.right.0 c.in-Some-value_place.q.0 w.1.0.sort c.in-Some-value_place.ensures.place)

-- the level that it makes
works : (g : _) (c : After-concat_level-level g) → Makes (g.H.Heap.view c.concat_level-level.new.h).seen c.args.s.0 (joining c.join_of-join.result) (max c.in-Some.p.0 c.in-Some-value_place.q.0) c.join_of-join.result.origin c.join_of-join.result.weight c.concat_level-level.result
works g c = join_works (g.met.H.Heap.lawful c.concat_level-level.new.h).world c.args.s.0 c.in-Some.p.0 c.in-Some-value_place.q.0 c.join_of-join.result c.concat_level-level.result ((quiet g c).grows.records _ _ (c.requires.rec ∙ ap Some c.join_of-join.ensures)) (left_at g c) (right_at g c) c.concat_level-level.ensures.concat

facts : (g : _) (c : After-concat_level-level g) → BuildFacts (g.H.Heap.view c.concat_level-level.new.h) c.args.run.now c.args.s (joining c.join_of-join.result) (c.join_of-join.result.left.0 ∷ c.join_of-join.result.right.0 ∷ [])
facts g c = build_facts (quiet g c) (g.met.H.Heap.lawful c.concat_level-level.new.h).world c.requires.build (shape c.join_of-join.result) (c.requires.rec ∙ ap Some c.join_of-join.ensures) (λ w law e. waited law c.args.s.0 c.join_of-join.result e)

pub put_level-place-requires : goal.put_level-place-requires
put_level-place-requires g c =
    let d = (goal.at.put_level-place-requires g c).After-concat_level-level in
    let f = facts g d in
    let x = f.value_low.0 c.in-Some.p.0 (left_at g d) in
    let y = f.value_low.1.0 c.in-Some-value_place.q.0 (right_at g d) in
    work_ask (shape c.join_of-join.result) c.args.s (max c.in-Some.p.0 c.in-Some-value_place.q.0) c.join_of-join.result.weight c.concat_level-level.result (works g d) f (omega (arith, x, y))

pub unreachable-requires : goal.unreachable-requires
unreachable-requires g c =
    let law1 = (g.met.H.Heap.lawful c.value_place.new.h).world in
    let e = here g (goal.at.unreachable-requires g c).After-join_of-join in
    let f = build_facts c.value_place.ensures.quiet law1 c.requires.build (shape c.join_of-join.result) e (λ w law e. waited law c.args.s.0 c.join_of-join.result e) in
    value_done_not law1 c.join_of-join.result.left.0 f.known.0 (place_waits (g.H.Heap.view c.value_place.new.h).seen c.join_of-join.result.left.0 (waited_there (waited law1 c.args.s.0 c.join_of-join.result (c.value_place.ensures.quiet.grows.records _ _ e)).0) c.in_default.ensures.place)

pub unreachable-requires-in_default-value_place : goal.unreachable-requires-in_default-value_place
unreachable-requires-in_default-value_place g c =
    let law2 = (g.met.H.Heap.lawful c.value_place-2.new.h).world in
    let q = Quiet_trans c.value_place.ensures.quiet c.value_place-2.ensures.quiet in
    let e = here g (goal.at.unreachable-requires-in_default-value_place g c).After-join_of-join in
    let f = build_facts q law2 c.requires.build (shape c.join_of-join.result) e (λ w law e. waited law c.args.s.0 c.join_of-join.result e) in
    value_done_not law2 c.join_of-join.result.right.0 f.known.1.0 (place_waits (g.H.Heap.view c.value_place-2.new.h).seen c.join_of-join.result.right.0 (waited_there (waited law2 c.args.s.0 c.join_of-join.result (q.grows.records _ _ e)).1.0) c.in_default-value_place.ensures.place)

pub returns : goal.returns
returns g c =
    let d = (goal.at.returns g c).After-concat_level-level in
    let f = facts g d in
    let x = f.value_low.0 c.in-Some.p.0 (left_at g d) in
    let y = f.value_low.1.0 c.in-Some-value_place.q.0 (right_at g d) in
    work_built (shape c.join_of-join.result) (g.met.H.Heap.lawful c.concat_level-level.new.h).world (g.met.H.Heap.lawful c.put_level-place.new.h).world c.args.s (max c.in-Some.p.0 c.in-Some-value_place.q.0) c.concat_level-level.result c.put_level-place.result.0 (works g d) c.put_level-place.ensures.put (level_keys (g.H.Heap.view c.put_level-place.new.h).seen c.put_level-place.result.0 (works g d) c.put_level-place.ensures.keys) (quiet g d) f (omega (arith, x, y))
