use Rattle.std.proofs.Common.{arith, refl}
use Rattle.heap_store.proofs.GrowthLaws.{grows_trans}
use Rattle.finger_level.proofs.Keying.{keyed_up, deep_keyed}
use Rattle.finger_level.proofs.NearPuts.{near_part, far_there, near_left, near_fits, near_put, both_keyed}
use Rattle.finger_level.proofs.near_puts.put_near.Goals as goal

pub put_few-digit-requires : goal.put_few-digit-requires
put_few-digit-requires g c = let a = c.requires.ask in record { part = near_part (g.met.H.Heap.lawful c.args.h.now) c.args.side c.args.near c.args.middle c.args.far a.other c.args.whole a.ends; counts = c.requires.counts }

pub put-requires : goal.put-requires
put-requires g c =
    let a = c.requires.ask in
    let law = g.met.H.Heap.lawful c.args.h.now in
    let p = c.put_few-digit.ensures.put in
    record {
      held = p.laid.held;
      left = near_left law c.args.side c.args.near c.args.middle c.args.far a.other c.args.whole a.ends c.put_few-digit.result p c.both_ends.result c.both_ends.ensures;
      fits = near_fits law c.args.side c.args.near c.args.middle c.args.far a.other c.args.whole a.ends c.put_few-digit.result p c.both_ends.result c.both_ends.ensures (g.met.H.Heap.lawful c.put_few-digit.new.h) (omega arith);
    }

pub returns-clause-put : goal.returns-clause-put
returns-clause-put g c =
    let a = c.requires.ask in
    let law = g.met.H.Heap.lawful c.args.h.now in
    let p = c.put.ensures in
    record {
      other = a.other;
      there = far_there law c.args.side c.args.near c.args.middle c.args.far a.other c.args.whole a.ends;
      ends = near_put law c.args.side c.args.near c.args.middle c.args.far a.other c.args.whole a.ends c.put_few-digit.result c.put_few-digit.ensures.put c.both_ends.result c.both_ends.ensures p.put p.run p.place;
    }

pub returns-clause-keys : goal.returns-clause-keys
returns-clause-keys g c =
    let law = (g.met.H.Heap.lawful c.args.h.now).world in
    let law1 = (g.met.H.Heap.lawful c.put_few-digit.new.h).world in
    let law2 = (g.met.H.Heap.lawful c.put.new.self).world in
    let p = c.put.ensures in
    let up = grows_trans c.put_few-digit.ensures.put.laid.filled.grows p.put.grows in
    λ keyed hn kn hm hf key. (
    let digit = keyed_up law1 p.put.grows keyed c.put_few-digit.result.0 (c.put_few-digit.ensures.keys keyed hn kn) in
    let ends = both_keyed (g.H.Heap.view c.put.new.self).seen keyed c.args.side c.put_few-digit.result c.args.far c.both_ends.result c.both_ends.ensures digit (keyed_up law up keyed c.args.far.0 hf) in
    deep_keyed law2 keyed c.put.result.0 c.both_ends.result.0 c.args.middle c.both_ends.result.1 c.args.whole.size c.args.whole.key _ (rw p.place p.put.here) refl key ends.0 (keyed_up law up keyed c.args.middle.0 hm) ends.1)
