use Rattle.std.proofs.Common.{◌≡◌, arith}
use Rattle.heap_store.proofs.Steps.{filling_start, filling_paid}
use Rattle.binom_heap.proofs.RunLaws.{next_held}
use Rattle.binom_heap.proofs.Tops.{fits_top}
use Rattle.binom_heap.proofs.heap.put_top.Goals as goal

pub put-requires-clause-fits : goal.put-requires-clause-fits
put-requires-clause-fits g c = fits_top (g.met.H.Heap.lawful c.args.h.now) c.args.run.now.next (next_held c.requires.held (omega (arith, c.requires.size))) c.args.top c.requires.top c.requires.credits

pub returns-clause-filled : goal.returns-clause-filled
returns-clause-filled g c =
    let fits = fits_top (g.met.H.Heap.lawful c.args.h.now) c.args.run.now.next (next_held c.requires.held (omega (arith, c.requires.size))) c.args.top c.requires.top c.requires.credits in
    let f = filling_paid (filling_start _ _ c.requires.held) c.put.ensures.put c.put.ensures.run fits in
    let e : c.put.new.run.next ≡ c.args.run.now.end = rw c.put.ensures.run (omega (arith, c.requires.size)) in
    rw e at f.filled
