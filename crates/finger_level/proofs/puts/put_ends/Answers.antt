use Rattle.std.proofs.Common.{arith, refl}
use Rattle.finger_level.proofs.Levels.{first_ask, last_ask, last_there, last_under, ends_left, ends_fits, ends_put}
use Rattle.finger_level.proofs.Keying.{keyed_up, digit_keyed_up, deep_keyed}
use Rattle.heap_store.proofs.GrowthLaws.{grows_trans}
use Rattle.finger_level.proofs.puts.put_ends.Goals as goal

pub put_digit-first-requires : goal.put_digit-first-requires
put_digit-first-requires g c = record { part = first_ask (g.met.H.Heap.lawful c.args.h.now) c.args.left c.args.middle c.args.right c.args.whole c.requires; there = c.requires.there.0; under = c.requires.under.0 }

pub put_digit-last-requires : goal.put_digit-last-requires
put_digit-last-requires g c =
    let law = g.met.H.Heap.lawful c.args.h.now in
    let l = c.put_digit-first.ensures.put in
    record {
      part = last_ask law c.args.left c.args.middle c.args.right c.args.whole c.requires l;
      there = last_there law c.args.left c.args.middle c.args.right c.args.whole c.requires l;
      under = last_under law c.args.left c.args.middle c.args.right c.args.whole c.requires l;
    }

pub put-requires : goal.put-requires
put-requires g c =
    let law = g.met.H.Heap.lawful c.args.h.now in
    let l = c.put_digit-first.ensures.put in
    let r = c.put_digit-last.ensures.put in
    record {
      held = r.laid.held;
      left = ends_left law c.args.left c.args.middle c.args.right c.args.whole c.requires l r;
      fits = ends_fits law c.args.left c.args.middle c.args.right c.args.whole c.requires l r (g.met.H.Heap.lawful c.put_digit-last.new.h) (omega arith) c.put_digit-first.result c.put_digit-last.result refl refl;
    }

pub returns-clause-put : goal.returns-clause-put
returns-clause-put g c =
    let p = c.put.ensures in
    ends_put (g.met.H.Heap.lawful c.args.h.now) c.args.left c.args.middle c.args.right c.args.whole c.requires c.put_digit-first.ensures.put c.put_digit-last.ensures.put c.put_digit-first.result c.put_digit-last.result refl refl p.put p.run p.place

pub returns-clause-keys : goal.returns-clause-keys
returns-clause-keys g c =
    let l = c.put_digit-first.ensures.put in
    let r = c.put_digit-last.ensures.put in
    let p = c.put.ensures in
    let law = (g.met.H.Heap.lawful c.args.h.now).world in
    let law1 = (g.met.H.Heap.lawful c.put_digit-first.new.h).world in
    let law2 = (g.met.H.Heap.lawful c.put_digit-last.new.h).world in
    let law3 = (g.met.H.Heap.lawful c.put.new.self).world in
    let k = c.args.keyed in
    let to1 = grows_trans r.laid.filled.grows p.put.grows in
    let to0 = grows_trans l.laid.filled.grows to1 in
    λ hl hm hr key. (
    let first = c.put_digit-first.ensures.keys hl in
    let last = c.put_digit-last.ensures.keys (digit_keyed_up law law1 l.laid.filled.grows k c.args.right hr) in
    deep_keyed law3 k c.put.result.0 c.put_digit-first.result c.args.middle c.put_digit-last.result c.args.whole.size c.args.whole.key _ (rw p.place p.put.here) refl key
    (keyed_up law1 to1 k c.put_digit-first.result.0 first) (keyed_up law to0 k c.args.middle.0 hm) (keyed_up law2 p.put.grows k c.put_digit-last.result.0 last))
