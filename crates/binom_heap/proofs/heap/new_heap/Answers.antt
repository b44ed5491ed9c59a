use Rattle.std.proofs.Common.{◌≡◌, arith}
use Rattle.heap_store.proofs.Steps.{filling_start, filling_put, put_free}
use Rattle.heap_store.proofs.UnitLaws.{free}
use Rattle.binom_heap.specs.Heap.{top_record}
use Rattle.binom_heap.proofs.RunLaws.{next_held}
use Rattle.binom_heap.proofs.Tops.{fits_top}
use Rattle.binom_heap.proofs.Melds.{empty_top, empty_paid, empty_new, empty_means}
use Rattle.binom_heap.proofs.heap.new_heap.Goals as goal

pub put-requires-clause-fits : goal.put-requires-clause-fits
put-requires-clause-fits g c =
    let law = g.met.H.Heap.lawful c.args.h.now in
    let held = next_held c.requires.held (omega (arith, c.requires.size)) in
    fits_top law c.args.run.now.next held empty_top (empty_new law c.args.run.now.next held) (free (g.H.Heap.view c.args.h.now).seen c.args.run.now.next (top_record empty_top) _ (empty_paid law.world c.args.run.now.next))

pub returns-clause-filled : goal.returns-clause-filled
returns-clause-filled g c =
    let f = filling_put (filling_start _ _ c.requires.held) c.put.ensures.put c.put.ensures.run (empty_paid (g.met.H.Heap.lawful c.args.h.now).world c.args.run.now.next) in
    let e : c.put.new.run.next ≡ c.args.run.now.end = rw c.put.ensures.run (omega (arith, c.requires.size)) in
    rw e at f.filled

pub returns-clause-empty : goal.returns-clause-empty
returns-clause-empty g c = rw c.put.ensures.place (empty_means (g.met.H.Heap.lawful c.put.new.self).world c.args.run.now.next c.put.ensures.put.here)

pub returns-clause-credits : goal.returns-clause-credits
returns-clause-credits g c = omega (arith, put_free c.put.ensures.put (empty_paid (g.met.H.Heap.lawful c.args.h.now).world c.args.run.now.next))
