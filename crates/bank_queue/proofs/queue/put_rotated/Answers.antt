use Rattle.std.proofs.Common.{◌≡◌, ◌+◌, ◌*◌, ◌<◌, arith, sym, ◌∙◌, true, refl}
use Rattle.heap_store.specs.Hand.{contains}
use Rattle.lazy_rec.specs.declared.records.Rec.TheVariants.{BankTop}
use Rattle.heap_store.specs.View.{Fits}
use Rattle.heap_store.proofs.Steps.{IsFilling, filling_start, filling_put, filling_paid}
use Rattle.heap_store.proofs.FixedPlaces.{above_fixed}
use Rattle.bank_queue.proofs.RotationLaws.{fits_first}
use Rattle.bank_queue.proofs.TopsShown.{first_gain}
use Rattle.bank_queue.proofs.Tops.{NewFits, new_fits, fits_new, new_means}
use Rattle.bank_queue.proofs.queue.put_rotated.Goals as goal
use Rattle.bank_queue.proofs.queue.put_rotated.Goals.{After-put-rotation}

pub put-rotation-requires-clause-fits : goal.put-rotation-requires-clause-fits
put-rotation-requires-clause-fits g c =
    fits_first (g.met.H.Heap.lawful c.args.h.now) c.args.run.now.next (c.requires.held.each c.args.run.now.next (omega arith) (omega (arith, c.requires.size))) c.args.front c.args.rear c.args.length c.next-origin.result c.requires.lists c.next-origin.ensures

small : (g : _) (c : After-put-rotation g) → NewFits c.args.length c.args.rear.0
small g c = new_fits (g.met.H.Heap.lawful c.args.h.now) c.args.run.now.next (c.requires.held.each c.args.run.now.next (omega arith) (omega (arith, c.requires.size))) c.args.front.0 c.args.length c.args.rear.0 c.requires.lists

pub overflow_mul-length : goal.overflow_mul-length
overflow_mul-length g c = let k = small g (goal.at.overflow_mul-length g c).After-put-rotation in omega (arith, k.n_fits)

pub overflow_add-length : goal.overflow_add-length
overflow_add-length g c = let k = small g (goal.at.overflow_add-length g c).After-put-rotation in omega (arith, k.n_fits)

filling : (g : _) (c : After-put-rotation g) → IsFilling (g.H.Heap.view c.args.h.now) (g.H.Heap.view c.put-rotation.new.self) c.args.run.now c.put-rotation.new.run 0
filling g c = filling_put (filling_start _ _ c.requires.held) c.put-rotation.ensures.put c.put-rotation.ensures.run refl

pub put-requires-clause-held : goal.put-requires-clause-held
put-requires-clause-held g c = (filling g (goal.at.put-requires-clause-held g c).After-put-rotation).held

top_fits : (g : _) (c : After-put-rotation g) → Fits (g.H.Heap.view c.put-rotation.new.self) c.put-rotation.new.run.next (BankTop true c.put-rotation.result (2 * c.args.length + 1) (record { 0 = 1 }) 0 c.next-origin.result c.args.length 0)
top_fits g c =
    let f = filling g c in
    let r = c.put-rotation.ensures in
    let law = g.met.H.Heap.lawful c.put-rotation.new.self in
    let left : c.put-rotation.new.run.next < c.put-rotation.new.run.end = rw r.run (omega (arith, c.requires.size)) in
    let held : contains (g.H.Heap.view c.put-rotation.new.self).hand.reserved c.put-rotation.new.run.next ≡ true = f.held.each c.put-rotation.new.run.next (omega arith) left in
    fits_new (g.met.H.Heap.lawful c.args.h.now).world law r.put.grows.records c.put-rotation.new.run.next held c.args.front c.args.rear c.args.length c.args.run.now.next c.requires.lists
    c.put-rotation.result c.next-origin.result (c.next-origin.ensures ∙ sym r.place) (rw (r.place, r.run) (omega arith)) (omega (arith, above_fixed law c.put-rotation.new.run.next held)) (rw r.place r.put.here) (omega (arith, f.credits, c.requires.credits))

pub put-requires-clause-fits : goal.put-requires-clause-fits
put-requires-clause-fits g c = top_fits g (goal.at.put-requires-clause-fits g c).After-put-rotation

pub returns-clause-filled : goal.returns-clause-filled
returns-clause-filled g c =
    let d = (goal.at.returns-clause-filled g c).After-put-rotation in
    let f = filling_paid (filling g d) c.put.ensures.put c.put.ensures.run (top_fits g d) in
    let e : c.put.new.run.next ≡ c.args.run.now.end = rw (c.put.ensures.run, c.put-rotation.ensures.run) (omega (arith, c.requires.size)) in
    rw e at f.filled

pub returns-clause-items : goal.returns-clause-items
returns-clause-items g c =
    let d = (goal.at.returns-clause-items g c).After-put-rotation in
    let f = filling_paid (filling g d) c.put.ensures.put c.put.ensures.run (top_fits g d) in
    let r = c.put-rotation.ensures in
    let p = c.put.ensures in
    new_means (g.met.H.Heap.lawful c.args.h.now).world (g.met.H.Heap.lawful c.put.new.self).world f.filled.grows.records c.args.front c.args.rear c.args.length c.args.run.now.next c.requires.lists
    c.put-rotation.result c.next-origin.result (rw r.place (p.put.grows.records _ _ r.put.here)) c.put.result.0 (rw p.place p.put.here)

pub returns-clause-credits : goal.returns-clause-credits
returns-clause-credits g c =
    let d = (goal.at.returns-clause-credits g c).After-put-rotation in
    let f = filling_paid (filling g d) c.put.ensures.put c.put.ensures.run (top_fits g d) in
    let k = first_gain (g.H.Heap.view c.put-rotation.new.self).seen c.put-rotation.new.run.next (record { front = c.put-rotation.result; lenf = 2 * c.args.length + 1; rear = record { 0 = 1 }; lenr = 0; rotated = true; origin = c.next-origin.result; n = c.args.length; tails = 0 }) refl refl refl in
    omega (arith, f.credits, k)
