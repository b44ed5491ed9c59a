use Rattle.std.proofs.Common.{◌≡◌, suc, ◌+◌, arith}
use Rattle.std.specs.Prelude.{length, flat_map}
use Rattle.lazy_rec.specs.Meaning.{means}
use Rattle.heap_store.specs.World.{recs}
use Rattle.heap_store.specs.View.{Quiet}
use Rattle.heap_store.proofs.GrowthLaws.{grows_trans}
use Rattle.heap_store.proofs.Steps.{Quiet_trans}
use Rattle.finger_level.specs.Level.{without, digit_few, digit_list, middle_items}
use Rattle.finger_level.specs.Puts.{AreElements}
use Rattle.finger_level.specs.Keyed.{way}
use Rattle.finger_level.proofs.Weighing.{sorts_of_elements}
use Rattle.finger_level.proofs.Laying.{are_up}
use Rattle.finger_level.proofs.Pushing.{tree_later}
use Rattle.finger_level.proofs.Keying.{keyed_up}
use Rattle.finger_level.proofs.Tails.{tail_ask, tail_elements, tail_inner, tail_later, tail_counts, tail_earlier}
use Rattle.finger_level.proofs.TailPuts.{weighed_key}
use Rattle.finger_level.proofs.puts.put_tail.Goals as goal
use Rattle.finger_level.proofs.puts.put_tail.Goals.{After-put_digit-digit, After-weigh_tree-inner}

pub put_digit-digit-requires : goal.put_digit-digit-requires
put_digit-digit-requires g c = record { part = tail_ask c.args.side c.args.tree c.args.part c.args.family.now c.requires; there = c.requires.there; under = c.requires.under }

elements : (g : _) (c : After-put_digit-digit g) → AreElements (g.H.Heap.view c.put_digit-digit.new.h).seen (suc c.requires.depth) c.args.run.now.next (digit_list c.args.part)
elements g c = are_up (g.met.H.Heap.lawful c.args.h.now).world c.put_digit-digit.ensures.put.laid.filled.grows (suc c.requires.depth) c.args.run.now.next (digit_list c.args.part) (tail_elements c.args.side c.args.tree c.args.part c.args.family.now c.requires)

pub weigh_few-near-requires : goal.weigh_few-near-requires
weigh_few-near-requires g c =
    let e = elements g (goal.at.weigh_few-near-requires g c).After-put_digit-digit in
    rw c.few_of-few.ensures (record { elements = sorts_of_elements (g.met.H.Heap.lawful c.put_digit-digit.new.h).world _ _ _ e.each; small = e.small })

pub weigh_tree-inner-requires : goal.weigh_tree-inner-requires
weigh_tree-inner-requires g c = tree_later (grows_trans c.put_digit-digit.ensures.put.laid.filled.grows c.weigh_few-near.ensures.quiet.grows) (tail_inner c.args.side c.args.tree c.args.part c.args.family.now c.requires)

-- the digit is put and all is weighed
quiet : (g : _) (c : After-weigh_tree-inner g) → Quiet (g.H.Heap.view c.put_digit-digit.new.h) (g.H.Heap.view c.weigh_tree-inner.new.h)
quiet g c = Quiet_trans c.weigh_few-near.ensures.quiet c.weigh_tree-inner.ensures.quiet

counts : (g : _) (c : After-weigh_tree-inner g) → c.weigh_few-near.result.size + c.weigh_tree-inner.result.size ≡ length (middle_items (means (recs (g.H.Heap.view c.weigh_tree-inner.new.h).seen)) (without c.args.side c.args.tree.0 (digit_list c.args.part)))
counts g c =
    let size : c.weigh_few-near.result.size ≡ length (flat_map (means (recs (g.H.Heap.view c.put_digit-digit.new.h).seen)) (digit_list c.args.part)) = rw c.few_of-few.ensures at c.weigh_few-near.ensures.size in
    tail_counts (g.met.H.Heap.lawful c.args.h.now).world c.requires c.put_digit-digit.result c.put_digit-digit.ensures.put (quiet g c) (g.met.H.Heap.lawful c.put_digit-digit.new.h).world c.weigh_few-near.ensures.quiet _ _ size c.weigh_tree-inner.ensures.size

pub overflow_add-weight : goal.overflow_add-weight
overflow_add-weight g c =
    let d = (goal.at.overflow_add-weight g c).After-weigh_tree-inner in
    let n = counts g d in
    let k = tail_later (g.met.H.Heap.lawful c.args.h.now).world c.requires c.put_digit-digit.result c.put_digit-digit.ensures.put (quiet g d) (g.met.H.Heap.lawful c.weigh_tree-inner.new.h).world in
    omega (arith, n, k.middle.small)

pub put_weighed_tail-requires : goal.put_weighed_tail-requires
put_weighed_tail-requires g c =
    let d = (goal.at.put_weighed_tail-requires g c).After-weigh_tree-inner in
    record {
      few = digit_few c.args.part;
      tail = tail_later (g.met.H.Heap.lawful c.args.h.now).world c.requires c.put_digit-digit.result c.put_digit-digit.ensures.put (quiet g d) (g.met.H.Heap.lawful c.weigh_tree-inner.new.h).world;
      counts = counts g d;
    }

pub returns-clause-put : goal.returns-clause-put
returns-clause-put g c =
    let d = (goal.at.returns-clause-put g c).After-weigh_tree-inner in
    tail_earlier (g.met.H.Heap.lawful c.args.h.now).world c.requires c.put_digit-digit.result c.put_digit-digit.ensures.put (quiet g d) (g.met.H.Heap.lawful c.weigh_tree-inner.new.h).world c.put_weighed_tail.ensures.put

pub returns-clause-keys : goal.returns-clause-keys
returns-clause-keys g c =
    let d = (goal.at.returns-clause-keys g c).After-weigh_tree-inner in
    let law = (g.met.H.Heap.lawful c.args.h.now).world in
    let law1 = (g.met.H.Heap.lawful c.put_digit-digit.new.h).world in
    let p = c.put_digit-digit.ensures in
    let up = p.put.laid.filled.grows in
    let q = quiet g d in
    let put = tail_earlier law c.requires c.put_digit-digit.result p.put q (g.met.H.Heap.lawful c.weigh_tree-inner.new.h).world c.put_weighed_tail.ensures.put in
    λ ht hd. c.put_weighed_tail.ensures.keys c.args.keyed (keyed_up law (grows_trans up q.grows) c.args.keyed c.args.tree.0 ht) (keyed_up law1 q.grows c.args.keyed c.put_digit-digit.result.0 (p.keys hd))
    (weighed_key law up (grows_trans up c.weigh_few-near.ensures.quiet.grows) c.args.keyed c.args.side c.args.tree c.args.part _ _ _ _ put.items (rw c.few_of-few.ensures at c.weigh_few-near.ensures.key) (c.weigh_tree-inner.ensures.key (way c.args.keyed)) c.max.ensures ht hd)
