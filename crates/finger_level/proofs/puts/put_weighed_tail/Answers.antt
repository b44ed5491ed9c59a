use Rattle.std.proofs.Common.{◌+◌, arith, ap, ◌∙◌, Some}
use Rattle.finger_level.specs.declared.level.Digit.TheVariants as digits
use Rattle.finger_level.proofs.Found.{digit_grows}
use Rattle.finger_level.proofs.Tails.{first_spends, first_fits, later_fits, tail_later_spends}
use Rattle.finger_level.proofs.TailPuts.{tail_put, tail_next, tail_keyed}
use Rattle.finger_level.proofs.puts.put_weighed_tail.Goals as goal

pub put-requires-clause-left : goal.put-requires-clause-left
put-requires-clause-left g c = omega (arith, c.requires.tail.room)

pub put-requires-clause-held : goal.put-requires-clause-held
put-requires-clause-held g c = c.requires.tail.held

pub put-requires-clause-fits : goal.put-requires-clause-fits
put-requires-clause-fits g c = rw c.tail.ensures (first_fits (g.met.H.Heap.lawful c.args.h.now) c.args.family.now c.requires.tail c.args.weight c.requires.counts c.in-First.is c.next-origin.result c.next-origin.ensures (omega arith))

pub overflow_add-off : goal.overflow_add-off
overflow_add-off g c = let k = later_fits (g.met.H.Heap.lawful c.args.h.now) c.args.family.now c.requires.tail c.args.weight c.requires.counts c.in-Later.of c.in-Later.origin c.in-Later.off c.in-Later.is (omega arith) in omega (arith, k.few)

pub put-requires-in-Later-clause-fits : goal.put-requires-in-Later-clause-fits
put-requires-in-Later-clause-fits g c = rw c.tail-in-Later.ensures (later_fits (g.met.H.Heap.lawful c.args.h.now) c.args.family.now c.requires.tail c.args.weight c.requires.counts c.in-Later.of c.in-Later.origin c.in-Later.off c.in-Later.is (omega arith)).fits

pub returns-in-First-clause-put : goal.returns-in-First-clause-put
returns-in-First-clause-put g c =
    let p = c.put.ensures in
    let law = g.met.H.Heap.lawful c.args.h.now in
    tail_put law c.requires.tail p.put p.run (g.met.H.Heap.lawful c.put.new.self).world c.next-origin.result 0 c.args.weight c.tail.ensures (first_spends law c.args.family.now c.requires.tail c.args.weight c.requires.counts c.in-First.is c.next-origin.result c.next-origin.ensures _ c.tail.ensures) (rw c.in-First.is tt) c.put.result.0 p.place

pub returns-in-Later-clause-put : goal.returns-in-Later-clause-put
returns-in-Later-clause-put g c =
    let p = c.put-in-Later.ensures in
    let k = c.requires.tail in
    let law = g.met.H.Heap.lawful c.args.h.now in
    let law2 = (g.met.H.Heap.lawful c.put-in-Later.new.self).world in
    tail_put law k p.put p.run law2 c.in-Later.origin (c.in-Later.off + 1) c.args.weight c.tail-in-Later.ensures
    (tail_later_spends (g.H.Heap.view c.args.h.now).seen c.args.run.now.next c.args.side c.args.family.now _ c.args.tree c.args.digit c.in-Later.origin c.in-Later.off c.args.weight _ c.tail-in-Later.ensures)
    (tail_next law.world law2 p.put.grows k.depth c.args.run.now.next c.args.side c.args.tree c.args.digit (digits.Old c.args.digit c.requires.few) k.middle (digit_grows p.put.grows c.args.digit.0 _ k.there) c.in-Later.of c.in-Later.origin c.in-Later.off c.args.family.now c.in-Later.is c.args.run.now.next c.args.weight (p.put.here ∙ ap Some c.tail-in-Later.ensures)) c.put-in-Later.result.0 p.place

pub returns-in-First-clause-keys : goal.returns-in-First-clause-keys
returns-in-First-clause-keys g c =
    let p = c.put.ensures in
    λ keyed ht hq key. rw p.place (tail_keyed (g.met.H.Heap.lawful c.args.h.now).world (g.met.H.Heap.lawful c.put.new.self).world p.put.grows keyed c.args.side c.args.tree c.args.digit c.next-origin.result 0 c.args.weight c.args.run.now.next (p.put.here ∙ ap Some c.tail.ensures) ht hq (rw p.place at key))

pub returns-in-Later-clause-keys : goal.returns-in-Later-clause-keys
returns-in-Later-clause-keys g c =
    let p = c.put-in-Later.ensures in
    λ keyed ht hq key. rw p.place (tail_keyed (g.met.H.Heap.lawful c.args.h.now).world (g.met.H.Heap.lawful c.put-in-Later.new.self).world p.put.grows keyed c.args.side c.args.tree c.args.digit c.in-Later.origin (c.in-Later.off + 1) c.args.weight c.args.run.now.next (p.put.here ∙ ap Some c.tail-in-Later.ensures) ht hq (rw p.place at key))
