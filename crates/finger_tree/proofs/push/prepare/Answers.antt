use Rattle.std.proofs.Common.{◌≡◌, ◌∙◌, ap, Some, eqb, refl, sym, arith, true, false}
use Rattle.std.proofs.lemmas.Bool.{and_from, or_left, eq-eqb}
use Rattle.heap_store.specs.World.{recs, is_value}
use Rattle.heap_store.specs.View.{Quiet}
use Rattle.heap_store.proofs.Steps.{Quiet_trans}
use Rattle.heap_store.proofs.ValueLaws.{place_waits}
use Rattle.heap_store.proofs.ReadLaws.{is_there}
use Rattle.finger_level.specs.Pushes.{pushed_list}
use Rattle.finger_level.proofs.Found.{IsValueAt, value_tree}
use Rattle.finger_tree.specs.Work.{suspended}
use Rattle.finger_tree.proofs.Works.{work_ready, work_need, cursor_stays, value_known, waited_there, value_up_at}
use Rattle.finger_tree.proofs.PushWorks.{shape, waited, push_told}
use Rattle.finger_tree.proofs.push.prepare.Goals as goal
use Rattle.finger_tree.proofs.push.prepare.Goals.{After-push_of-push, After-pushed_places}

pub push_of-push-requires-clause-range : goal.push_of-push-requires-clause-range
push_of-push-requires-clause-range g c = ((g.met.H.Heap.lawful c.args.h.now).world.each c.args.s.0 _ c.requires.rec).range

here : (g : _) (c : After-push_of-push g) → recs (g.H.Heap.view c.args.h.now).seen c.args.s.0 ≡ Some (suspended c.push_of-push.result)
here g c = c.requires.rec ∙ ap Some c.push_of-push.ensures

pub value_place-requires : goal.value_place-requires
value_place-requires g c = is_there (recs (g.H.Heap.view c.args.h.now).seen) c.push_of-push.result.tree.0 (waited_there (waited (g.met.H.Heap.lawful c.args.h.now).world c.args.s.0 c.push_of-push.result (here g (goal.at.value_place-requires g c).After-push_of-push)))

pub pushed_places-requires-clause-value : goal.pushed_places-requires-clause-value
pushed_places-requires-clause-value g c =
    let law1 = (g.met.H.Heap.lawful c.value_place.new.h).world in
    let e = c.value_place.ensures.quiet.grows.records _ _ (here g (goal.at.pushed_places-requires-clause-value g c).After-push_of-push) in
    (value_tree law1 c.push_of-push.result.tree.0 c.in-Some.q.0 (waited law1 c.args.s.0 c.push_of-push.result e).sort c.in-Some.ensures.place).there

-- what was read shows the same
quiet : (g : _) (c : After-pushed_places g) → Quiet (g.H.Heap.view c.args.h.now) (g.H.Heap.view c.pushed_places.new.h)
quiet g c = Quiet_trans c.value_place.ensures.quiet c.pushed_places.ensures.quiet

value_at_q : (g : _) (c : After-pushed_places g) → IsValueAt (g.H.Heap.view c.pushed_places.new.h).seen c.push_of-push.result.tree.0 c.in-Some.q.0
value_at_q g c =
    let law1 = (g.met.H.Heap.lawful c.value_place.new.h).world in
    let e = c.value_place.ensures.quiet.grows.records _ _ (c.requires.rec ∙ ap Some c.push_of-push.ensures) in
    let w = waited law1 c.args.s.0 c.push_of-push.result e in
    value_up_at law1 c.pushed_places.ensures.quiet.grows c.push_of-push.result.tree.0 c.in-Some.q.0 (waited_there w) (value_tree law1 c.push_of-push.result.tree.0 c.in-Some.q.0 w.sort c.in-Some.ensures.place)

pub returns-in-Some-clause-quiet : goal.returns-in-Some-clause-quiet
returns-in-Some-clause-quiet g c = Quiet_trans c.value_place.ensures.quiet c.pushed_places.ensures.quiet

pub returns-in-Some-clause-cursor : goal.returns-in-Some-clause-cursor
returns-in-Some-clause-cursor g c = cursor_stays (shape c.push_of-push.result) (Quiet_trans c.value_place.ensures.quiet c.pushed_places.ensures.quiet).grows c.args.s.0 (here g (goal.at.returns-in-Some-clause-cursor g c).After-push_of-push) c.args.cursor.now c.requires.cursor

pub returns-in-Some-clause-answer : goal.returns-in-Some-clause-answer
returns-in-Some-clause-answer g c =
    let d = (goal.at.returns-in-Some-clause-answer g c).After-pushed_places in
    let w = (g.H.Heap.view c.pushed_places.new.h).seen in
    let p = c.push_of-push.result in
    let here = (quiet g d).grows.records _ _ (c.requires.rec ∙ ap Some c.push_of-push.ensures) in
    let value = value_at_q g d in
    let known = and_from (is_value w p.tree.0) true (value_known w p.tree.0 c.in-Some.q.0 value) refl in
    let told = push_told (g.met.H.Heap.lawful c.pushed_places.new.h).world c.args.s.0 c.in-Some.q.0 p c.pushed_places.result here value (c.pushed_places.ensures.places (pushed_list p.es) (sym c.pushed_count.ensures.exact)) in
    work_ready (shape p) c.args.s.0 c.pushed_places.result here known told (omega (arith, c.pushed_places.ensures.most))

pub returns-in-None-clause-cursor : goal.returns-in-None-clause-cursor
returns-in-None-clause-cursor g c = cursor_stays (shape c.push_of-push.result) c.value_place.ensures.quiet.grows c.args.s.0 (here g (goal.at.returns-in-None-clause-cursor g c).After-push_of-push) c.args.cursor.now c.requires.cursor

pub returns-in-None-clause-answer : goal.returns-in-None-clause-answer
returns-in-None-clause-answer g c =
    let law1 = (g.met.H.Heap.lawful c.value_place.new.h).world in
    let e1 = c.value_place.ensures.quiet.grows.records _ _ (here g (goal.at.returns-in-None-clause-answer g c).After-push_of-push) in
    let w = waited law1 c.args.s.0 c.push_of-push.result e1 in
    work_need law1 (shape c.push_of-push.result) c.args.s.0 c.push_of-push.result.tree.0 e1 (or_left (eqb c.push_of-push.result.tree.0 c.push_of-push.result.tree.0) false (eq-eqb c.push_of-push.result.tree.0 c.push_of-push.result.tree.0 refl)) w (place_waits (g.H.Heap.view c.value_place.new.h).seen c.push_of-push.result.tree.0 (waited_there w) c.in-None.ensures.place)
