use Rattle.std.proofs.Common.{◌≡◌, ◌∙◌, ap, Some}
use Rattle.heap_store.specs.World.{recs}
use Rattle.heap_store.proofs.ValueLaws.{place_waits}
use Rattle.heap_store.proofs.ReadLaws.{is_there}
use Rattle.finger_level.proofs.Found.{IsValueAt, value_tree}
use Rattle.finger_tree.specs.Work.{hanging}
use Rattle.finger_tree.proofs.Works.{build_facts, value_done_not, waited_there}
use Rattle.finger_tree.proofs.TailWorks.{shape, waited, tail_facts, upper, tail_ask, tail_built}
use Rattle.finger_tree.proofs.tail.build.Goals as goal
use Rattle.finger_tree.proofs.tail.build.Goals.{After-tail_of-tail, In-Some}

here : (g : _) (c : After-tail_of-tail g) → recs (g.H.Heap.view c.args.h.now).seen c.args.s.0 ≡ Some (hanging c.tail_of-tail.result)
here g c = c.requires.rec ∙ ap Some c.tail_of-tail.ensures

pub value_place-requires : goal.value_place-requires
value_place-requires g c = is_there (recs (g.H.Heap.view c.args.h.now).seen) c.tail_of-tail.result.middle.0 (waited_there (waited (g.met.H.Heap.lawful c.args.h.now).world c.args.s.0 c.tail_of-tail.result (here g (goal.at.value_place-requires g c).After-tail_of-tail)))

-- the value of the middle, once it is found
value_at_q : (g : _) (c : In-Some g) → IsValueAt (g.H.Heap.view c.value_place.new.h).seen c.tail_of-tail.result.middle.0 c.in-Some.q.0
value_at_q g c =
    let law1 = (g.met.H.Heap.lawful c.value_place.new.h).world in
    let e = c.value_place.ensures.quiet.grows.records _ _ (c.requires.rec ∙ ap Some c.tail_of-tail.ensures) in
    value_tree law1 c.tail_of-tail.result.middle.0 c.in-Some.q.0 (waited law1 c.args.s.0 c.tail_of-tail.result e).sort c.in-Some.ensures.place

pub put_drawn-place-requires : goal.put_drawn-place-requires
put_drawn-place-requires g c =
    let d = goal.at.put_drawn-place-requires g c in
    let law1 = (g.met.H.Heap.lawful c.value_place.new.h).world in
    let q = c.value_place.ensures.quiet in
    let e = here g d.After-tail_of-tail in
    let k = value_at_q g d.In-Some in
    let up = q.grows.records _ _ e in
    record { upper = upper law1 c.args.s.0 c.in-Some.q.0 c.tail_of-tail.result up k; digit = (tail_facts law1 c.args.s.0 c.tail_of-tail.result up).digit_sort; ask = tail_ask c.args.s c.in-Some.q.0 c.tail_of-tail.result q law1 e c.requires.build k }

pub unreachable-requires : goal.unreachable-requires
unreachable-requires g c =
    let law1 = (g.met.H.Heap.lawful c.value_place.new.h).world in
    let e = here g (goal.at.unreachable-requires g c).After-tail_of-tail in
    let f = build_facts c.value_place.ensures.quiet law1 c.requires.build (shape c.tail_of-tail.result) e (λ w law e. (waited law c.args.s.0 c.tail_of-tail.result e, tt)) in
    value_done_not law1 c.tail_of-tail.result.middle.0 f.known.0 (place_waits (g.H.Heap.view c.value_place.new.h).seen c.tail_of-tail.result.middle.0 (waited_there (waited law1 c.args.s.0 c.tail_of-tail.result (c.value_place.ensures.quiet.grows.records _ _ e))) c.in-None.ensures.place)

pub returns : goal.returns
returns g c =
    let d = goal.at.returns g c in
    tail_built c.args.s c.in-Some.q.0 c.tail_of-tail.result c.value_place.ensures.quiet (g.met.H.Heap.lawful c.value_place.new.h).world (g.met.H.Heap.lawful c.put_drawn-place.new.h).world (here g d.After-tail_of-tail) c.requires.build (value_at_q g d.In-Some) c.put_drawn-place.ensures
