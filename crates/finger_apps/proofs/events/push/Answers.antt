use Rattle.std.proofs.Common.{◌<◌, ◌+◌, arith, refl, ap}
use Rattle.heap_store.specs.OneStage.{is_end}
use Rattle.heap_store.specs.Lawful.{IsLawful}
use Rattle.heap_store.specs.View.{View, Quiet}
use Rattle.finger_level.proofs.Found.{leaf_weight}
use Rattle.finger_apps.proofs.Bases.{given, base_up, same_root}
use Rattle.finger_apps.proofs.PushEnds.{push_taken, full_built, fits_leaf, Leafed, leafed, pushable, push_ended}
use Rattle.finger_apps.proofs.events.push.Goals as goal
use Rattle.finger_apps.proofs.events.push.Goals.{After-argument-item, After-put-leaf}

pub returns-then-job-eq-MOST_ITEMS : goal.returns-then-job-eq-MOST_ITEMS
returns-then-job-eq-MOST_ITEMS g c =
    let law = (g.met.H.Heap.lawful c.args.h.now).world in
    record {
      built = full_built law (given law c.requires.kind c.requires.build) c.requires.kind c.args.side c.requires.op c.if-job-eq-MOST_ITEMS.true c.at_base.result c.at_base.ensures;
      base = λ _. same_root c.args.job.now _ _ c.at_base.result c.at_base.ensures;
      ends = ap is_end c.at_base.ensures;
    }

-- a push that makes something takes a place
some : (g : _) (c : After-argument-item g) → c.args.run.now.next < c.args.run.now.end
some g c =
    let k = given (g.met.H.Heap.lawful c.args.h.now).world c.requires.kind c.requires.build in
    push_taken k c.args.side c.requires.op (omega (arith, k.base.most, c.if-job-eq-MOST_ITEMS.false))

pub put-leaf-requires-clause-held : goal.put-leaf-requires-clause-held
put-leaf-requires-clause-held g c = c.requires.build.held

pub put-leaf-requires-clause-left : goal.put-leaf-requires-clause-left
put-leaf-requires-clause-left g c = some g (goal.at.put-leaf-requires-clause-left g c).After-argument-item

pub put-leaf-requires-clause-fits : goal.put-leaf-requires-clause-fits
put-leaf-requires-clause-fits g c =
    let here = some g (goal.at.put-leaf-requires-clause-fits g c).After-argument-item in
    let a = c.argument-item.ensures in
    fits_leaf (g.met.H.Heap.lawful c.args.h.now) c.args.run.now.next (c.requires.build.held.each c.args.run.now.next (omega arith) here) (record { 0 = c.argument-item.result }) (omega (arith, a.same, a.small))

pub put_pushed-root-requires-clause-value : goal.put_pushed-root-requires-clause-value
put_pushed-root-requires-clause-value g c = let law = (g.met.H.Heap.lawful c.args.h.now).world in (base_up law c.put-leaf.ensures.put.grows c.args.job.now.base (given law c.requires.kind c.requires.build).base).value

pub put_pushed-root-requires-clause-weight : goal.put_pushed-root-requires-clause-weight
put_pushed-root-requires-clause-weight g c = let p = c.put-leaf.ensures in leaf_weight (g.met.H.Heap.lawful c.put-leaf.new.self).world c.put-leaf.result.0 (record { 0 = c.argument-item.result }) (rw p.place p.put.here)

-- the leaf stands, whatever is read then
leaf : (g : _) (c : After-put-leaf g) → (v : View) → Quiet (g.H.Heap.view c.put-leaf.new.self) v → IsLawful v.seen → Leafed (g.H.Heap.view c.args.h.now) v c.args.job.now c.args.run.now c.put-leaf.new.run c.put-leaf.result
leaf g c v q law2 =
    let law = (g.met.H.Heap.lawful c.args.h.now).world in
    let k = given law c.requires.kind c.requires.build in
    let p = c.put-leaf.ensures in
    leafed k law law2 (omega (arith, k.base.most, c.if-job-eq-MOST_ITEMS.false)) (rw c.argument-item.ensures.same at p.put) p.run p.place q

pub put_pushed-root-requires-clause-ask : goal.put_pushed-root-requires-clause-ask
put_pushed-root-requires-clause-ask g c = λ v q law level m. (pushable (leaf g (goal.at.put_pushed-root-requires-clause-ask g c).After-put-leaf v q law) c.args.side c.requires.kind c.requires.op c.requires.stage level m (record { size = c.args.job.now.base.size + 1; key = record { 0 = 0 } }) refl).ask

pub returns : goal.returns
returns g c =
    let d = (goal.at.returns g c).After-put-leaf in
    let here = some g (goal.at.returns g c).After-argument-item in
    let p = c.put_pushed-root.ensures in
    record {
      built = push_ended c.args.side c.requires.kind c.requires.op c.requires.stage (leaf g d p.then_view p.quiet p.law) p.level (record { size = c.args.job.now.base.size + 1; key = record { 0 = 0 } }) refl refl p.pushed (g.met.H.Heap.lawful c.put_pushed-root.new.h).world c.put_pushed-root.result p.put p.keys;
      base = λ e. absurd (omega (arith, e, here));
      ends = refl;
    }
