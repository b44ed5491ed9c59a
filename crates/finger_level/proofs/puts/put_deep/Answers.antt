use Rattle.std.proofs.Common.{◌∙◌, ap, sym}
use Rattle.finger_level.specs.Keyed.{key_in}
use Rattle.finger_level.proofs.Levels.{middle_ask, ends_ask, put_made}
use Rattle.finger_level.proofs.Keying.{digit_keyed_up}
use Rattle.finger_level.proofs.puts.put_deep.Goals as goal

pub put_middle-below-requires : goal.put_middle-below-requires
put_middle-below-requires g c = middle_ask (g.met.H.Heap.lawful c.args.h.now) c.args.left c.args.middle c.args.right c.args.family.now c.args.whole c.requires

pub put_ends-requires : goal.put_ends-requires
put_ends-requires g c = ends_ask (g.met.H.Heap.lawful c.args.h.now) c.args.left c.args.middle c.args.right c.args.family.now c.args.whole c.requires c.put_middle-below.result c.put_middle-below.ensures.put

pub returns-clause-put : goal.returns-clause-put
returns-clause-put g c = put_made (g.met.H.Heap.lawful c.args.h.now) c.args.left c.args.middle c.args.right c.args.family.now c.args.whole c.requires c.put_middle-below.result c.put_middle-below.ensures.put (g.met.H.Heap.lawful c.put_middle-below.new.h).world (g.met.H.Heap.lawful c.put_ends.new.h).world c.put_ends.ensures.put

pub returns-clause-keys : goal.returns-clause-keys
returns-clause-keys g c =
    let law = (g.met.H.Heap.lawful c.args.h.now).world in
    let law1 = (g.met.H.Heap.lawful c.put_middle-below.new.h).world in
    let m = c.put_middle-below.ensures.put in
    let k = c.args.keyed in
    let made = put_made (g.met.H.Heap.lawful c.args.h.now) c.args.left c.args.middle c.args.right c.args.family.now c.args.whole c.requires c.put_middle-below.result m law1 (g.met.H.Heap.lawful c.put_ends.new.h).world c.put_ends.ensures.put in
    λ h e. c.put_ends.ensures.keys (digit_keyed_up law law1 m.filled.grows k c.args.left h.0) (c.put_middle-below.ensures.keys h.1) (digit_keyed_up law law1 m.filled.grows k c.args.right h.2) (e ∙ ap (key_in k) (sym made.items))
