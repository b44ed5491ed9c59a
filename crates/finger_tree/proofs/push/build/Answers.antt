use Rattle.std.proofs.Common.{◌≡◌, ◌<◌, ◌∙◌, ap, Some, [], ◌∷◌}
use Rattle.heap_store.specs.World.{recs}
use Rattle.heap_store.specs.Lawful.{IsLawful}
use Rattle.heap_store.specs.View.{View, Quiet}
use Rattle.heap_store.proofs.Steps.{Quiet_trans}
use Rattle.heap_store.proofs.ValueLaws.{place_waits}
use Rattle.heap_store.proofs.ReadLaws.{is_there}
use Rattle.finger_level.specs.Pushes.{pushed_list}
use Rattle.finger_level.proofs.Found.{IsValueAt, value_tree}
use Rattle.finger_level.proofs.Weighing.{sorts_of_elements}
use Rattle.finger_tree.specs.Work.{suspended}
use Rattle.finger_tree.proofs.Works.{BuildFacts, build_facts, work_ask, work_built, value_done_not, waited_there, value_up_at}
use Rattle.finger_tree.proofs.PushWorks.{shape, waited, push_facts, push_keyed, push_works}
use Rattle.finger_tree.proofs.push.build.Goals as goal
use Rattle.finger_tree.proofs.push.build.Goals.{After-push_of-push, In-Some}

pub push_of-push-requires-clause-range : goal.push_of-push-requires-clause-range
push_of-push-requires-clause-range g c = ((g.met.H.Heap.lawful c.args.h.now).world.each c.args.s.0 _ c.requires.rec).range

here : (g : _) (c : After-push_of-push g) → recs (g.H.Heap.view c.args.h.now).seen c.args.s.0 ≡ Some (suspended c.push_of-push.result)
here g c = c.requires.rec ∙ ap Some c.push_of-push.ensures

pub value_place-requires : goal.value_place-requires
value_place-requires g c = is_there (recs (g.H.Heap.view c.args.h.now).seen) c.push_of-push.result.tree.0 (waited_there (waited (g.met.H.Heap.lawful c.args.h.now).world c.args.s.0 c.push_of-push.result (here g (goal.at.value_place-requires g c).After-push_of-push)))

-- the tree's value was found
found : (g : _) (c : In-Some g) → IsValueAt (g.H.Heap.view c.value_place.new.h).seen c.push_of-push.result.tree.0 c.in-Some.q.0
found g c =
    let law1 = (g.met.H.Heap.lawful c.value_place.new.h).world in
    let e = c.value_place.ensures.quiet.grows.records _ _ (c.requires.rec ∙ ap Some c.push_of-push.ensures) in
    value_tree law1 c.push_of-push.result.tree.0 c.in-Some.q.0 (waited law1 c.args.s.0 c.push_of-push.result e).sort c.in-Some.ensures.place

-- whatever is read then
record Later (g : _) (c : In-Some g) (v : View) : Type 1 where
  quiet : Quiet (g.H.Heap.view c.args.h.now) v
  here : recs v.seen c.args.s.0 ≡ Some (suspended c.push_of-push.result)
  value : IsValueAt v.seen c.push_of-push.result.tree.0 c.in-Some.q.0
  facts : BuildFacts v c.args.run.now c.args.s (suspended c.push_of-push.result) (c.push_of-push.result.tree.0 ∷ [])
  low : c.in-Some.q.0 < c.args.run.now.next

later : (g : _) (c : In-Some g) → (v : View) → Quiet (g.H.Heap.view c.value_place.new.h) v → IsLawful v.seen → Later g c v
later g c v q law =
    let law1 = (g.met.H.Heap.lawful c.value_place.new.h).world in
    let e = c.requires.rec ∙ ap Some c.push_of-push.ensures in
    let all = Quiet_trans c.value_place.ensures.quiet q in
    let w = waited law1 c.args.s.0 c.push_of-push.result (c.value_place.ensures.quiet.grows.records _ _ e) in
    let value = value_up_at law1 q.grows c.push_of-push.result.tree.0 c.in-Some.q.0 (waited_there w) (found g c) in
    let facts = build_facts all law c.requires.build (shape c.push_of-push.result) e (λ w law e. (waited law c.args.s.0 c.push_of-push.result e, tt)) in
    record { quiet = all; here = all.grows.records _ _ e; value = value; facts = facts; low = facts.value_low.0 c.in-Some.q.0 value }

pub put_pushes-place-requires : goal.put_pushes-place-requires
put_pushes-place-requires g c =
    let d = (goal.at.put_pushes-place-requires g c).In-Some in
    let law1 = (g.met.H.Heap.lawful c.value_place.new.h).world in
    let e = c.value_place.ensures.quiet.grows.records _ _ (c.requires.rec ∙ ap Some c.push_of-push.ensures) in
    let f = push_facts law1 c.args.s.0 c.push_of-push.result e in
    record {
      value = (found g d).there;
      elements = sorts_of_elements law1 _ c.args.s.0 (pushed_list c.push_of-push.result.es) f.each;
      ask = λ v q law level m. (let l = later g d v q law in work_ask (shape c.push_of-push.result) c.args.s c.in-Some.q.0 c.push_of-push.result.weight level (push_works law c.args.s.0 c.in-Some.q.0 c.push_of-push.result level l.here l.value m) l.facts l.low);
    }

pub unreachable-requires : goal.unreachable-requires
unreachable-requires g c =
    let law1 = (g.met.H.Heap.lawful c.value_place.new.h).world in
    let e = here g (goal.at.unreachable-requires g c).After-push_of-push in
    let f = build_facts c.value_place.ensures.quiet law1 c.requires.build (shape c.push_of-push.result) e (λ w law e. (waited law c.args.s.0 c.push_of-push.result e, tt)) in
    value_done_not law1 c.push_of-push.result.tree.0 f.known.0 (place_waits (g.H.Heap.view c.value_place.new.h).seen c.push_of-push.result.tree.0 (waited_there (waited law1 c.args.s.0 c.push_of-push.result (c.value_place.ensures.quiet.grows.records _ _ e))) c.in-None.ensures.place)

pub returns : goal.returns
returns g c =
    let p = c.put_pushes-place.ensures in
    let l = later g (goal.at.returns g c).In-Some p.then_view p.quiet p.law in
    let works = push_works p.law c.args.s.0 c.in-Some.q.0 c.push_of-push.result p.level l.here l.value p.pushed in
    work_built (shape c.push_of-push.result) p.law (g.met.H.Heap.lawful c.put_pushes-place.new.h).world c.args.s c.in-Some.q.0 p.level c.put_pushes-place.result.0 works p.put (push_keyed p.law (g.H.Heap.view c.put_pushes-place.new.h).seen c.args.s.0 c.in-Some.q.0 c.push_of-push.result p.level l.here l.value works c.put_pushes-place.result.0 p.keys) l.quiet l.facts l.low
