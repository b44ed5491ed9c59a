use Rattle.std.proofs.Common.{◌≡◌, ◌+◌, ◌*◌, ◌<◌, arith, sym, ◌∙◌, true, refl, Some}
use Rattle.lazy_rec.specs.declared.records.Rec.TheVariants.{RtTop, RtRot}
use Rattle.heap_store.specs.Hand.{contains}
use Rattle.heap_store.specs.World.{recs}
use Rattle.heap_store.specs.View.{Fits}
use Rattle.heap_store.proofs.Steps.{IsFilling, filling_start, filling_put, put_free}
use Rattle.heap_store.proofs.GrowthLaws.{grows_refl}
use Rattle.heap_store.proofs.FixedPlaces.{above_fixed}
use Rattle.heap_store.proofs.PutLaws.{place_fits}
use Rattle.rt_queue.proofs.RotationLaws.{fits_first}
use Rattle.rt_queue.proofs.Fronts.{front_most}
use Rattle.rt_queue.proofs.Tops.{fits_top}
use Rattle.rt_queue.proofs.NewTops.{rotated_top}
use Rattle.rt_queue.proofs.Schedules.{rotated_gain}
use Rattle.rt_queue.proofs.TopPuts.{put_one, put_after}
use Rattle.rt_queue.proofs.queue.put_rotated.Goals as goal
use Rattle.rt_queue.proofs.queue.put_rotated.Goals.{After-put-rotation}

pub put-rotation-requires-clause-fits : goal.put-rotation-requires-clause-fits
put-rotation-requires-clause-fits g c =
    fits_first (g.met.H.Heap.lawful c.args.h.now) c.args.run.now.next (c.requires.held.each c.args.run.now.next (omega arith) (omega (arith, c.requires.room))) c.args.front c.args.rear c.args.length c.next-origin.result c.requires.lists c.next-origin.ensures

small : (g : _) (c : After-put-rotation g) → c.args.length < 12582912
small g c =
    let law = g.met.H.Heap.lawful c.args.h.now in
    let low = place_fits law c.args.run.now.next (c.requires.held.each c.args.run.now.next (omega arith) (omega (arith, c.requires.room))) in
    omega (arith, front_most law.world c.args.front.0 c.requires.lists.front_there, c.requires.lists.front_length, c.requires.lists.front_low, low)

pub overflow_mul-length : goal.overflow_mul-length
overflow_mul-length g c = let k = small g (goal.at.overflow_mul-length g c).After-put-rotation in omega (arith, k)

pub overflow_add-length : goal.overflow_add-length
overflow_add-length g c = let k = small g (goal.at.overflow_add-length g c).After-put-rotation in omega (arith, k)

filling : (g : _) (c : After-put-rotation g) → IsFilling (g.H.Heap.view c.args.h.now) (g.H.Heap.view c.put-rotation.new.self) c.args.run.now c.put-rotation.new.run 0
filling g c = filling_put (filling_start _ _ c.requires.held) c.put-rotation.ensures.put c.put-rotation.ensures.run refl

pub put-requires-clause-held : goal.put-requires-clause-held
put-requires-clause-held g c = (filling g (goal.at.put-requires-clause-held g c).After-put-rotation).held

top_fits : (g : _) (c : After-put-rotation g) → Fits (g.H.Heap.view c.put-rotation.new.self) c.put-rotation.new.run.next (RtTop c.put-rotation.result (2 * c.args.length + 1) (record { 0 = 1 }) 0 c.put-rotation.result)
top_fits g c =
    let f = filling g c in
    let r = c.put-rotation.ensures in
    let law = g.met.H.Heap.lawful c.put-rotation.new.self in
    let left : c.put-rotation.new.run.next < c.put-rotation.new.run.end = rw r.run (omega (arith, c.requires.room)) in
    let held : contains (g.H.Heap.view c.put-rotation.new.self).hand.reserved c.put-rotation.new.run.next ≡ true = f.held.each c.put-rotation.new.run.next (omega arith) left in
    let here : recs (g.H.Heap.view c.put-rotation.new.self).seen c.put-rotation.result.0 ≡ Some (RtRot c.args.front c.args.rear (record { 0 = 0 }) c.args.length c.next-origin.result 0) = rw r.place r.put.here in
    let gain = rotated_gain (g.H.Heap.view c.put-rotation.new.self).seen c.put-rotation.new.run.next c.put-rotation.result (2 * c.args.length + 1) (record { 0 = 1 }) c.args.front c.args.rear (record { 0 = 0 }) c.args.length c.next-origin.result here in
    fits_top law.world (grows_refl _) law c.put-rotation.new.run.next held (record { front = c.put-rotation.result; lenf = 2 * c.args.length + 1; rear = record { 0 = 1 }; lenr = 0; sched = c.put-rotation.result })
    (rotated_top law.world c.put-rotation.new.run.next c.put-rotation.result c.args.front c.args.rear (record { 0 = 0 }) c.args.length c.next-origin.result here (rw (r.place, r.run) (omega arith)) (omega (arith, above_fixed law c.put-rotation.new.run.next held)))
    (omega (arith, gain, put_free r.put refl, c.requires.credits))

pub put-requires-clause-fits : goal.put-requires-clause-fits
put-requires-clause-fits g c = top_fits g (goal.at.put-requires-clause-fits g c).After-put-rotation

pub returns-clause-put : goal.returns-clause-put
returns-clause-put g c =
    let d = (goal.at.returns-clause-put g c).After-put-rotation in
    let r = c.put-rotation.ensures in
    let gain = rotated_gain (g.H.Heap.view c.put-rotation.new.self).seen c.put-rotation.new.run.next c.put-rotation.result (2 * c.args.length + 1) (record { 0 = 1 }) c.args.front c.args.rear (record { 0 = 0 }) c.args.length c.next-origin.result (rw r.place r.put.here) in
    put_after c.requires.held r.put r.run refl refl (put_one (filling g d).held c.put.ensures.put c.put.ensures.run (top_fits g d) gain refl)

pub returns-clause-made : goal.returns-clause-made
returns-clause-made g c =
    let r = c.put-rotation.ensures in
    let p = c.put.ensures in
    record {
      rotation = c.put-rotation.result;
      origin = c.next-origin.result;
      same = c.next-origin.ensures ∙ sym r.place;
      there = rw r.place (p.put.grows.records _ _ r.put.here);
      here = rw p.place p.put.here;
    }
