use Rattle.std.proofs.Common.{◌≡◌, arith}
use Rattle.heap_store.proofs.FixedPlaces.{nil_plain}
use Rattle.heap_store.proofs.Steps.{filling_start, filling_put, put_free}
use Rattle.rt_queue.proofs.NewTops.{empty_top, fits_empty, empty_root, empty_means}
use Rattle.rt_queue.proofs.Schedules.{empty_free}
use Rattle.rt_queue.proofs.queue.new_queue.Goals as goal

pub put-requires-clause-fits : goal.put-requires-clause-fits
put-requires-clause-fits g c = fits_empty (g.met.H.Heap.lawful c.args.h.now) c.args.run.now.next (c.requires.held.each c.args.run.now.next (omega arith) (omega (arith, c.requires.size)))

pub returns-clause-filled : goal.returns-clause-filled
returns-clause-filled g c =
    let law = (g.met.H.Heap.lawful c.args.h.now).world in
    let f = filling_put (filling_start _ _ c.requires.held) c.put.ensures.put c.put.ensures.run (empty_free law c.args.run.now.next empty_top (nil_plain law)) in
    let e : c.put.new.run.next ≡ c.args.run.now.end = rw c.put.ensures.run (omega (arith, c.requires.size)) in
    rw e at f.filled

pub returns-clause-root : goal.returns-clause-root
returns-clause-root g c = rw c.put.ensures.place (empty_root (g.met.H.Heap.lawful c.put.new.self).world c.args.run.now.next c.put.ensures.put.here)

pub returns-clause-empty : goal.returns-clause-empty
returns-clause-empty g c = rw c.put.ensures.place (empty_means (g.met.H.Heap.lawful c.put.new.self).world c.args.run.now.next c.put.ensures.put.here)

pub returns-clause-credits : goal.returns-clause-credits
returns-clause-credits g c =
    let law = (g.met.H.Heap.lawful c.args.h.now).world in
    omega (arith, put_free c.put.ensures.put (empty_free law c.args.run.now.next empty_top (nil_plain law)))
