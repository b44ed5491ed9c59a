use Rattle.std.proofs.Common.{◌≡◌, arith, refl}
use Rattle.heap_store.proofs.Steps.{filling_start, filling_put, put_free}
use Rattle.bank_queue.proofs.Tops.{fits_empty, empty_means}
use Rattle.bank_queue.proofs.queue.new_queue.Goals as goal

pub put-requires-clause-fits : goal.put-requires-clause-fits
put-requires-clause-fits g c = fits_empty (g.met.H.Heap.lawful c.args.h.now) c.args.run.now.next (c.requires.held.each c.args.run.now.next (omega arith) (omega (arith, c.requires.size)))

pub returns-clause-filled : goal.returns-clause-filled
returns-clause-filled g c =
    let f = filling_put (filling_start _ _ c.requires.held) c.put.ensures.put c.put.ensures.run refl in
    let e : c.put.new.run.next ≡ c.args.run.now.end = rw c.put.ensures.run (omega (arith, c.requires.size)) in
    rw e at f.filled

pub returns-clause-empty : goal.returns-clause-empty
returns-clause-empty g c = rw c.put.ensures.place (empty_means (g.met.H.Heap.lawful c.put.new.self).world c.args.run.now.next c.put.ensures.put.here)

pub returns-clause-credits : goal.returns-clause-credits
returns-clause-credits g c = omega (arith, put_free c.put.ensures.put refl)
