use Rattle.std.proofs.Common.{◌≡◌, ◌∙◌, ap, Some, eqb, refl, arith, true, false}
use Rattle.std.proofs.lemmas.Bool.{and_from, or_left, eq-eqb}
use Rattle.heap_store.specs.World.{recs, is_value}
use Rattle.heap_store.specs.View.{Quiet}
use Rattle.heap_store.proofs.Steps.{Quiet_trans}
use Rattle.heap_store.proofs.ValueLaws.{place_waits}
use Rattle.heap_store.proofs.ReadLaws.{is_there}
use Rattle.finger_level.proofs.Found.{IsValueAt, value_tree}
use Rattle.finger_tree.specs.Work.{hanging}
use Rattle.finger_tree.proofs.Works.{work_ready, work_need, cursor_stays, value_known, waited_there, value_up_at}
use Rattle.finger_tree.proofs.TailWorks.{shape, waited, tail_facts, tail_told}
use Rattle.finger_tree.proofs.tail.prepare.Goals as goal
use Rattle.finger_tree.proofs.tail.prepare.Goals.{After-tail_of-tail, After-drawn_places}

here : (g : _) (c : After-tail_of-tail g) → recs (g.H.Heap.view c.args.h.now).seen c.args.s.0 ≡ Some (hanging c.tail_of-tail.result)
here g c = c.requires.rec ∙ ap Some c.tail_of-tail.ensures

pub value_place-requires : goal.value_place-requires
value_place-requires g c = is_there (recs (g.H.Heap.view c.args.h.now).seen) c.tail_of-tail.result.middle.0 (waited_there (waited (g.met.H.Heap.lawful c.args.h.now).world c.args.s.0 c.tail_of-tail.result (here g (goal.at.value_place-requires g c).After-tail_of-tail)))

pub drawn_places-requires : goal.drawn_places-requires
drawn_places-requires g c =
    let law1 = (g.met.H.Heap.lawful c.value_place.new.h).world in
    let e = c.value_place.ensures.quiet.grows.records _ _ (here g (goal.at.drawn_places-requires g c).After-tail_of-tail) in
    let k = value_tree law1 c.tail_of-tail.result.middle.0 c.in-Some.q.0 (waited law1 c.args.s.0 c.tail_of-tail.result e).sort c.in-Some.ensures.place in
    record { value = k.there; digit = (tail_facts law1 c.args.s.0 c.tail_of-tail.result e).digit_sort }

-- what was read shows the same
quiet : (g : _) (c : After-drawn_places g) → Quiet (g.H.Heap.view c.args.h.now) (g.H.Heap.view c.drawn_places.new.h)
quiet g c = Quiet_trans c.value_place.ensures.quiet c.drawn_places.ensures.quiet

value_at_q : (g : _) (c : After-drawn_places g) → IsValueAt (g.H.Heap.view c.drawn_places.new.h).seen c.tail_of-tail.result.middle.0 c.in-Some.q.0
value_at_q g c =
    let law1 = (g.met.H.Heap.lawful c.value_place.new.h).world in
    let e = c.value_place.ensures.quiet.grows.records _ _ (c.requires.rec ∙ ap Some c.tail_of-tail.ensures) in
    let w = waited law1 c.args.s.0 c.tail_of-tail.result e in
    value_up_at law1 c.drawn_places.ensures.quiet.grows c.tail_of-tail.result.middle.0 c.in-Some.q.0 (waited_there w) (value_tree law1 c.tail_of-tail.result.middle.0 c.in-Some.q.0 w.sort c.in-Some.ensures.place)

pub returns-in-Some-clause-quiet : goal.returns-in-Some-clause-quiet
returns-in-Some-clause-quiet g c = Quiet_trans c.value_place.ensures.quiet c.drawn_places.ensures.quiet

pub returns-in-Some-clause-cursor : goal.returns-in-Some-clause-cursor
returns-in-Some-clause-cursor g c = cursor_stays (shape c.tail_of-tail.result) (Quiet_trans c.value_place.ensures.quiet c.drawn_places.ensures.quiet).grows c.args.s.0 (here g (goal.at.returns-in-Some-clause-cursor g c).After-tail_of-tail) c.args.cursor.now c.requires.cursor

pub returns-in-Some-clause-answer : goal.returns-in-Some-clause-answer
returns-in-Some-clause-answer g c =
    let d = (goal.at.returns-in-Some-clause-answer g c).After-drawn_places in
    let w = (g.H.Heap.view c.drawn_places.new.h).seen in
    let t = c.tail_of-tail.result in
    let here = (quiet g d).grows.records _ _ (c.requires.rec ∙ ap Some c.tail_of-tail.ensures) in
    let value = value_at_q g d in
    let known = and_from (is_value w t.middle.0) true (value_known w t.middle.0 c.in-Some.q.0 value) refl in
    let told = tail_told (g.met.H.Heap.lawful c.drawn_places.new.h).world c.args.s.0 c.in-Some.q.0 t c.drawn_places.result here value c.drawn_places.ensures.count in
    work_ready (shape t) c.args.s.0 c.drawn_places.result here known told (omega (arith, c.drawn_places.ensures.most))

pub returns-in-None-clause-cursor : goal.returns-in-None-clause-cursor
returns-in-None-clause-cursor g c = cursor_stays (shape c.tail_of-tail.result) c.value_place.ensures.quiet.grows c.args.s.0 (here g (goal.at.returns-in-None-clause-cursor g c).After-tail_of-tail) c.args.cursor.now c.requires.cursor

pub returns-in-None-clause-answer : goal.returns-in-None-clause-answer
returns-in-None-clause-answer g c =
    let law1 = (g.met.H.Heap.lawful c.value_place.new.h).world in
    let e1 = c.value_place.ensures.quiet.grows.records _ _ (here g (goal.at.returns-in-None-clause-answer g c).After-tail_of-tail) in
    let w = waited law1 c.args.s.0 c.tail_of-tail.result e1 in
    work_need law1 (shape c.tail_of-tail.result) c.args.s.0 c.tail_of-tail.result.middle.0 e1 (or_left (eqb c.tail_of-tail.result.middle.0 c.tail_of-tail.result.middle.0) false (eq-eqb c.tail_of-tail.result.middle.0 c.tail_of-tail.result.middle.0 refl)) w (place_waits (g.H.Heap.view c.value_place.new.h).seen c.tail_of-tail.result.middle.0 (waited_there w) c.in-None.ensures.place)
