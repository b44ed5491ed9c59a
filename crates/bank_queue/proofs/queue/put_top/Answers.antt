use Rattle.std.proofs.Common.{◌≡◌, arith, ap, ◌∙◌}
use Rattle.heap_store.specs.World.{recs}
use Rattle.heap_store.proofs.GrowthLaws.{at_true}
use Rattle.heap_store.proofs.Steps.{filling_start, filling_paid}
use Rattle.heap_store.specs.Values.{is_list, items_in}
use Rattle.bank_queue.proofs.Fronts.{front_there}
use Rattle.bank_queue.proofs.Tops.{fits_near, gain_kept, top_means, kept_queue, one_place}
use Rattle.bank_queue.proofs.queue.put_top.Goals as goal

pub put-requires-clause-fits : goal.put-requires-clause-fits
put-requires-clause-fits g c = fits_near (g.met.H.Heap.lawful c.args.h.now) c.args.run.now c.args.top c.requires.held c.requires.top c.requires.size c.requires.credits (omega arith)

pub returns-clause-filled : goal.returns-clause-filled
returns-clause-filled g c =
    let size = one_place c.args.top.lenf c.args.top.lenr (omega arith) in
    let f = filling_paid (filling_start _ _ c.requires.held) c.put.ensures.put c.put.ensures.run (fits_near (g.met.H.Heap.lawful c.args.h.now) c.args.run.now c.args.top c.requires.held c.requires.top c.requires.size c.requires.credits (omega arith)) in
    let e : c.put.new.run.next ≡ c.args.run.now.end = rw c.put.ensures.run (omega (arith, c.requires.size, size)) in
    rw e at f.filled

pub returns-clause-items : goal.returns-clause-items
returns-clause-items g c =
    let k = c.requires.top in
    let law = (g.met.H.Heap.lawful c.args.h.now).world in
    let law2 = (g.met.H.Heap.lawful c.put.new.self).world in
    let t = at_true is_list (recs (g.H.Heap.view c.args.h.now).seen c.args.top.rear.0) k.rear_there in
    rw c.put.ensures.place (top_means law2 c.args.run.now.next c.args.top c.put.ensures.put.here ∙ ap items_in (kept_queue law law2 c.put.ensures.put.grows.records c.args.top.front.0 c.args.top.rear.0 (front_there (recs (g.H.Heap.view c.args.h.now).seen) c.args.top.front.0 k.front_there) (t.0, t.1)))

pub returns-clause-credits : goal.returns-clause-credits
returns-clause-credits g c =
    let f = filling_paid (filling_start _ _ c.requires.held) c.put.ensures.put c.put.ensures.run (fits_near (g.met.H.Heap.lawful c.args.h.now) c.args.run.now c.args.top c.requires.held c.requires.top c.requires.size c.requires.credits (omega arith)) in
    omega (arith, f.credits, gain_kept (g.H.Heap.view c.args.h.now).seen c.args.run.now.next c.args.top (omega arith))
