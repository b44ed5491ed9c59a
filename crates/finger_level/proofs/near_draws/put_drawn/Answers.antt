use Rattle.std.proofs.Common.{◌≡◌, ℕ, ◌-◌, ◌∙◌, refl, true, Option, Some, None}
use Rattle.heap_store.specs.World.{recs, holds}
use Rattle.heap_store.specs.View.{Quiet}
use Rattle.heap_store.proofs.Steps.{Quiet_trans}
use Rattle.finger_level.specs.declared.few.Few.{Few}
use Rattle.finger_level.specs.Reads.{is_digit_rec}
use Rattle.finger_level.specs.Pops.{IsUpper}
use Rattle.finger_level.specs.NearDraws.{IsWeighedNode}
use Rattle.finger_level.proofs.Draws.{deep_digits, deep_node, upper_up}
use Rattle.finger_level.proofs.Found.{digit_grows}
use Rattle.finger_level.proofs.Popping.{Taking}
use Rattle.finger_level.proofs.PopNeeds.{digit_up}
use Rattle.finger_level.proofs.NearPushes.{weighed_up as near_up}
use Rattle.finger_level.proofs.NearPops.{other_few}
use Rattle.finger_level.proofs.NearDraws.{drawn_later, drawn_earlier, weighed_up, weighed_few, NodeTaken, node_taken, LeftAsk, left_ask, near_left_ask, near_left_put, tail_left_ask, tail_left_put, near_over, drawn_put}
use Rattle.finger_level.proofs.near_draws.put_drawn.Goals as goal
use Rattle.finger_level.proofs.near_draws.put_drawn.Goals.{After-read_weighed-digit, After-take_end-taken, After-read_weighed_node-node}

pub put_made-requires-in_default : goal.put_made-requires-in_default
put_made-requires-in_default g c =
    let q = c.read.ensures.quiet in
    record { upper = upper_up (g.met.H.Heap.lawful c.args.h.now).world q.grows c.args.q.0 c.requires.upper; digit = digit_up q.grows c.args.p.0 c.requires.digit; ask = drawn_later q c.requires.ask }

pub returns-in_default : goal.returns-in_default
returns-in_default g c = drawn_earlier c.read.ensures.quiet c.put_made-in_default.ensures

pub read_weighed-digit-requires : goal.read_weighed-digit-requires
read_weighed-digit-requires g c = (deep_digits (g.met.H.Heap.lawful c.read.new.self).world c.args.q.0 c.in-Deep.left c.in-Deep.middle c.in-Deep.right c.in-Deep.size c.in-Deep.key (c.read.ensures.quiet.grows.records _ _ c.in-Deep.ensures.rec) c.args.side c.both_ends.result.0 c.both_ends.result.1 c.both_ends.ensures).0

-- once the middle's digit is read
seen : (g : _) (c : After-read_weighed-digit g) → Quiet (g.H.Heap.view c.args.h.now) (g.H.Heap.view c.read_weighed-digit.new.h)
seen g c = Quiet_trans c.read.ensures.quiet c.read_weighed-digit.ensures.quiet

-- what was taken
taken : (g : _) (c : After-take_end-taken g) → Taking (g.H.Heap.view c.read_weighed-digit.new.h).seen c.args.side c.args.q.0 c.in-Deep.left c.in-Deep.middle c.in-Deep.right c.both_ends.result.0 c.both_ends.result.1 c.take_end-taken.result.element c.take_end-taken.result.rest c.read_weighed-digit.result.few
taken g c =
    let up = c.read_weighed-digit.ensures.quiet.grows in
    record {
      size = c.in-Deep.size;
      key = c.in-Deep.key;
      here = up.records _ _ (c.read.ensures.quiet.grows.records _ _ c.in-Deep.ensures.rec);
      ends = c.both_ends.ensures;
      near_at = digit_grows up _ _ c.read_weighed-digit.ensures.weighed.shown;
      taken = c.take_end-taken.ensures;
    }

pub read_weighed_node-node-requires : goal.read_weighed_node-node-requires
read_weighed_node-node-requires g c =
    let d = goal.at.read_weighed_node-node-requires g c in
    let law = (g.met.H.Heap.lawful c.read_weighed-digit.new.h).world in
    let s = seen g d.After-read_weighed-digit in
    let u = upper_up (g.met.H.Heap.lawful c.args.h.now).world s.grows c.args.q.0 c.requires.upper in
    let k = taken g d.After-take_end-taken in
    let far = other_few law c.args.side c.args.q.0 c.in-Deep.left c.in-Deep.middle c.in-Deep.right c.both_ends.result.0 c.both_ends.result.1 c.take_end-taken.result.element c.take_end-taken.result.rest c.read_weighed-digit.result.few k in
    deep_node law c.args.q.0 u c.in-Deep.left c.in-Deep.middle c.in-Deep.right k.size k.key k.here c.args.side c.both_ends.result.0 c.both_ends.result.1 k.ends c.read_weighed-digit.result.few far.0 k.near_at far.1 c.take_end-taken.result.element c.take_end-taken.result.rest k.taken

-- once the node is read
quiet : (g : _) (c : After-read_weighed_node-node g) → Quiet (g.H.Heap.view c.args.h.now) (g.H.Heap.view c.read_weighed_node-node.new.h)
quiet g c = Quiet_trans (Quiet_trans c.read.ensures.quiet c.read_weighed-digit.ensures.quiet) c.read_weighed_node-node.ensures.quiet

upper : (g : _) (c : After-read_weighed_node-node g) → IsUpper (g.H.Heap.view c.read_weighed_node-node.new.h).seen c.args.q.0
upper g c = upper_up (g.met.H.Heap.lawful c.args.h.now).world (quiet g c).grows c.args.q.0 c.requires.upper

digit : (g : _) (c : After-read_weighed_node-node g) → holds (recs (g.H.Heap.view c.read_weighed_node-node.new.h).seen) c.args.p.0 is_digit_rec ≡ true
digit g c = digit_up (quiet g c).grows c.args.p.0 c.requires.digit

taken_here : (g : _) (c : After-read_weighed_node-node g) (rest : Option Few) → c.take_end-taken.result.rest ≡ rest → Taking (g.H.Heap.view c.read_weighed_node-node.new.h).seen c.args.side c.args.q.0 c.in-Deep.left c.in-Deep.middle c.in-Deep.right c.both_ends.result.0 c.both_ends.result.1 c.take_end-taken.result.element rest c.read_weighed-digit.result.few
taken_here g c rest is =
    let up = Quiet_trans c.read_weighed-digit.ensures.quiet c.read_weighed_node-node.ensures.quiet in
    record {
      size = c.in-Deep.size;
      key = c.in-Deep.key;
      here = up.grows.records _ _ (c.read.ensures.quiet.grows.records _ _ c.in-Deep.ensures.rec);
      ends = c.both_ends.ensures;
      near_at = digit_grows up.grows _ _ c.read_weighed-digit.ensures.weighed.shown;
      taken = rw is at c.take_end-taken.ensures;
    }

node : (g : _) (c : After-read_weighed_node-node g) → IsWeighedNode (g.H.Heap.view c.read_weighed_node-node.new.h).seen c.take_end-taken.result.element.0 c.read_weighed_node-node.result
node g c = weighed_up (g.met.H.Heap.lawful c.read_weighed-digit.new.h).world c.read_weighed_node-node.ensures.quiet.grows c.take_end-taken.result.element.0 c.read_weighed_node-node.result c.read_weighed_node-node.ensures.node

sizes : (g : _) (c : After-read_weighed_node-node g) (rest : Option Few) → c.take_end-taken.result.rest ≡ rest → NodeTaken (g.H.Heap.view c.read_weighed_node-node.new.h).seen rest c.in-Deep.size c.read_weighed-digit.result.weight.size c.read_weighed_node-node.result.weight.size
unfolding taken_here
sizes g c rest is =
    let law1 = (g.met.H.Heap.lawful c.read.new.self).world in
    let law = (g.met.H.Heap.lawful c.read_weighed_node-node.new.h).world in
    let up = Quiet_trans c.read_weighed-digit.ensures.quiet c.read_weighed_node-node.ensures.quiet in
    let weighs = (near_up law1 law up.grows c.both_ends.result.0.0 c.read_weighed-digit.result c.read_weighed-digit.ensures.weighed).size in
    node_taken law c.args.side c.args.q.0 c.in-Deep.left c.in-Deep.middle c.in-Deep.right c.both_ends.result.0 c.both_ends.result.1 c.take_end-taken.result.element rest c.read_weighed-digit.result.few (taken_here g c rest is) (upper g c) c.read_weighed-digit.result.weight.size c.read_weighed_node-node.result.weight.size weighs (node g c).size

pub without-inner-requires : goal.without-inner-requires
without-inner-requires g c = (sizes g (goal.at.without-inner-requires g c).After-read_weighed_node-node _ refl).from_tree

-- what is left of the middle
left : (g : _) (c : After-read_weighed_node-node g) (rest : Option Few) → c.take_end-taken.result.rest ≡ rest → (inner : ℕ) → inner ≡ c.in-Deep.size - c.read_weighed_node-node.result.weight.size → LeftAsk (g.H.Heap.view c.read_weighed_node-node.new.h) c.args.run.now c.args.side rest c.in-Deep.middle c.both_ends.result.1 c.args.family.now inner
unfolding taken_here
left g d rest is inner less =
    let n = node g d in
    left_ask (g.met.H.Heap.lawful d.read_weighed_node-node.new.h) d.args.side d.args.q.0 d.in-Deep.left d.in-Deep.middle d.in-Deep.right d.both_ends.result.0 d.both_ends.result.1 d.take_end-taken.result.element d.args.p n.group rest d.read_weighed-digit.result.few (taken_here g d rest is) n.shown d.read_weighed_node-node.result.few n.few (digit g d) (upper g d) d.args.family.now d.args.whole (quiet g d) d.requires.ask inner d.read_weighed_node-node.result.weight.size n.size less

-- ---- nothing else of the middle's digit

pub put_weighed_tail-tail-requires : goal.put_weighed_tail-tail-requires
put_weighed_tail-tail-requires g c =
    let d = (goal.at.put_weighed_tail-tail-requires g c).After-read_weighed_node-node in
    tail_left_ask c.args.side c.in-Deep.middle c.both_ends.result.1 c.args.family.now c.without-inner.result (left g d None c.in_default-rest.is _ c.without-inner.ensures.size)

pub put_near-requires-clause-ask : goal.put_near-requires-clause-ask
unfolding taken_here
put_near-requires-clause-ask g c =
    let d = (goal.at.put_near-requires-clause-ask g c).After-read_weighed_node-node in
    let n = node g d in
    let done = tail_left_put c.args.side c.in-Deep.middle c.both_ends.result.1 c.args.family.now c.without-inner.result (left g d None c.in_default-rest.is _ c.without-inner.ensures.size) c.put_weighed_tail-tail.ensures.put c.args.keyed c.if-keyed.false c.without-inner.ensures.bare c.put_weighed_tail-tail.ensures.keys in
    near_over (g.met.H.Heap.lawful c.read_weighed_node-node.new.h) c.args.side c.args.q.0 c.in-Deep.left c.in-Deep.middle c.in-Deep.right c.both_ends.result.0 c.both_ends.result.1 c.take_end-taken.result.element c.args.p n.group None c.read_weighed-digit.result.few (taken_here g d None c.in_default-rest.is) n.shown c.read_weighed_node-node.result.few n.few (digit g d) (upper g d) c.args.family.now c.args.whole (quiet g d) c.requires.ask c.put_weighed_tail-tail.result (g.met.H.Heap.lawful c.put_weighed_tail-tail.new.h).world done

pub put_near-requires-clause-counts : goal.put_near-requires-clause-counts
put_near-requires-clause-counts g c =
    let d = (goal.at.put_near-requires-clause-counts g c).After-read_weighed_node-node in
    weighed_few (g.met.H.Heap.lawful c.read_weighed_node-node.new.h).world (g.met.H.Heap.lawful c.put_weighed_tail-tail.new.h).world c.put_weighed_tail-tail.ensures.put.filled.grows c.take_end-taken.result.element.0 c.read_weighed_node-node.result (node g d)

pub returns-in_default-rest : goal.returns-in_default-rest
unfolding taken_here
returns-in_default-rest g c =
    let d = (goal.at.returns-in_default-rest g c).After-read_weighed_node-node in
    let n = node g d in
    let done = tail_left_put c.args.side c.in-Deep.middle c.both_ends.result.1 c.args.family.now c.without-inner.result (left g d None c.in_default-rest.is _ c.without-inner.ensures.size) c.put_weighed_tail-tail.ensures.put c.args.keyed c.if-keyed.false c.without-inner.ensures.bare c.put_weighed_tail-tail.ensures.keys in
    drawn_put (g.met.H.Heap.lawful c.read_weighed_node-node.new.h) c.args.side c.args.q.0 c.in-Deep.left c.in-Deep.middle c.in-Deep.right c.both_ends.result.0 c.both_ends.result.1 c.take_end-taken.result.element c.args.p n.group None c.read_weighed-digit.result.few (taken_here g d None c.in_default-rest.is) n.shown c.read_weighed_node-node.result.few n.few (digit g d) (upper g d) c.args.family.now c.args.whole (quiet g d) c.requires.ask c.put_weighed_tail-tail.result (g.met.H.Heap.lawful c.put_weighed_tail-tail.new.h).world done (g.met.H.Heap.lawful c.put_near.new.h).world c.put_near.ensures.put
    c.read_weighed_node-node.result.weight c.if-keyed.false n.bare c.put_near.ensures.keys

-- ---- the rest of it

pub without-less-requires : goal.without-less-requires
without-less-requires g c = (sizes g (goal.at.without-less-requires g c).After-read_weighed_node-node _ refl).from_digit

pub put_near-shorter-requires-clause-ask : goal.put_near-shorter-requires-clause-ask
put_near-shorter-requires-clause-ask g c =
    let d = (goal.at.put_near-shorter-requires-clause-ask g c).After-read_weighed_node-node in
    near_left_ask (g.met.H.Heap.lawful c.read_weighed_node-node.new.h) c.in-Some.rest c.in-Deep.middle c.both_ends.result.1 c.args.family.now c.args.side c.without-inner.result (left g d (Some c.in-Some.rest) c.in-Some.is _ c.without-inner.ensures.size)

pub put_near-shorter-requires-clause-counts : goal.put_near-shorter-requires-clause-counts
put_near-shorter-requires-clause-counts g c = c.without-less.ensures.size ∙ (sizes g (goal.at.put_near-shorter-requires-clause-counts g c).After-read_weighed_node-node (Some c.in-Some.rest) c.in-Some.is).less

pub put_near-requires-2-clause-ask : goal.put_near-requires-2-clause-ask
unfolding taken_here
put_near-requires-2-clause-ask g c =
    let d = (goal.at.put_near-requires-2-clause-ask g c).After-read_weighed_node-node in
    let n = node g d in
    let done = near_left_put (g.met.H.Heap.lawful c.read_weighed_node-node.new.h) c.in-Some.rest c.in-Deep.middle c.both_ends.result.1 c.args.family.now c.args.side c.without-inner.result (left g d (Some c.in-Some.rest) c.in-Some.is _ c.without-inner.ensures.size) (g.met.H.Heap.lawful c.put_near-shorter.new.h).world c.put_near-shorter.ensures.put c.args.keyed c.without-less.result c.if-keyed.false c.without-less.ensures.bare c.without-inner.ensures.bare c.put_near-shorter.ensures.keys in
    near_over (g.met.H.Heap.lawful c.read_weighed_node-node.new.h) c.args.side c.args.q.0 c.in-Deep.left c.in-Deep.middle c.in-Deep.right c.both_ends.result.0 c.both_ends.result.1 c.take_end-taken.result.element c.args.p n.group (Some c.in-Some.rest) c.read_weighed-digit.result.few (taken_here g d (Some c.in-Some.rest) c.in-Some.is) n.shown c.read_weighed_node-node.result.few n.few (digit g d) (upper g d) c.args.family.now c.args.whole (quiet g d) c.requires.ask c.put_near-shorter.result (g.met.H.Heap.lawful c.put_near-shorter.new.h).world done

pub put_near-requires-2-clause-counts : goal.put_near-requires-2-clause-counts
put_near-requires-2-clause-counts g c =
    let d = (goal.at.put_near-requires-2-clause-counts g c).After-read_weighed_node-node in
    weighed_few (g.met.H.Heap.lawful c.read_weighed_node-node.new.h).world (g.met.H.Heap.lawful c.put_near-shorter.new.h).world c.put_near-shorter.ensures.put.ends.laid.filled.grows c.take_end-taken.result.element.0 c.read_weighed_node-node.result (node g d)

pub returns : goal.returns
unfolding taken_here
returns g c =
    let d = (goal.at.returns g c).After-read_weighed_node-node in
    let n = node g d in
    let done = near_left_put (g.met.H.Heap.lawful c.read_weighed_node-node.new.h) c.in-Some.rest c.in-Deep.middle c.both_ends.result.1 c.args.family.now c.args.side c.without-inner.result (left g d (Some c.in-Some.rest) c.in-Some.is _ c.without-inner.ensures.size) (g.met.H.Heap.lawful c.put_near-shorter.new.h).world c.put_near-shorter.ensures.put c.args.keyed c.without-less.result c.if-keyed.false c.without-less.ensures.bare c.without-inner.ensures.bare c.put_near-shorter.ensures.keys in
    drawn_put (g.met.H.Heap.lawful c.read_weighed_node-node.new.h) c.args.side c.args.q.0 c.in-Deep.left c.in-Deep.middle c.in-Deep.right c.both_ends.result.0 c.both_ends.result.1 c.take_end-taken.result.element c.args.p n.group (Some c.in-Some.rest) c.read_weighed-digit.result.few (taken_here g d (Some c.in-Some.rest) c.in-Some.is) n.shown c.read_weighed_node-node.result.few n.few (digit g d) (upper g d) c.args.family.now c.args.whole (quiet g d) c.requires.ask c.put_near-shorter.result (g.met.H.Heap.lawful c.put_near-shorter.new.h).world done (g.met.H.Heap.lawful c.put_near-2.new.h).world c.put_near-2.ensures.put
    c.read_weighed_node-node.result.weight c.if-keyed.false n.bare c.put_near-2.ensures.keys
