use Rattle.std.proofs.Common.{◌≡◌, arith, refl}
use Rattle.heap_store.proofs.Steps.{filling_start, filling_put, put_free}
use Rattle.lazy_stream.proofs.Tops.{fits_top, put_means}
use Rattle.lazy_stream.proofs.stream.put_top.Goals as goal

pub put-requires-clause-fits : goal.put-requires-clause-fits
put-requires-clause-fits g c = fits_top (g.met.H.Heap.lawful c.args.h.now) c.args.run.now.next (c.requires.held.each c.args.run.now.next (omega arith) (omega (arith, c.requires.size))) c.args.front c.args.size c.requires.stream

pub returns-clause-filled : goal.returns-clause-filled
returns-clause-filled g c =
    let f = filling_put (filling_start _ _ c.requires.held) c.put.ensures.put c.put.ensures.run refl in
    let e : c.put.new.run.next ≡ c.args.run.now.end = rw c.put.ensures.run (omega (arith, c.requires.size)) in
    rw e at f.filled

pub returns-clause-items : goal.returns-clause-items
returns-clause-items g c =
    let p = c.put.ensures.put in
    rw c.put.ensures.place (put_means (g.met.H.Heap.lawful c.args.h.now).world (g.met.H.Heap.lawful c.put.new.self).world p.grows.records c.args.run.now.next c.args.front c.args.size p.here c.requires.stream)

pub returns-clause-credits : goal.returns-clause-credits
returns-clause-credits g c = omega (arith, put_free c.put.ensures.put refl)
