use Rattle.std.proofs.Common.{◌+◌, arith, refl}
use Rattle.binom_heap.proofs.RunLaws.{next_held}
use Rattle.binom_heap.proofs.TreePuts.{fits_tree}
use Rattle.binom_heap.proofs.Linking.{under_cell, cell_fits, grown_full, under_left, under_held, under_low, grown}
use Rattle.binom_heap.proofs.trees.put_under.Goals as goal

pub put-kids-requires : goal.put-kids-requires
put-kids-requires g c =
    let law = g.met.H.Heap.lawful c.args.h.now in
    let k = under_cell law.world c.requires.trees in
    record { held = k.held; left = omega (arith, k.room); fits = cell_fits law c.args.run.now c.args.below.place c.args.top.kids k }

pub overflow_add-rank : goal.overflow_add-rank
overflow_add-rank g c = omega (arith, c.requires.trees.rank)

pub put-place-requires : goal.put-place-requires
put-place-requires g c =
    let law = g.met.H.Heap.lawful c.args.h.now in
    let law1 = g.met.H.Heap.lawful c.put-kids.new.self in
    let p = c.put-kids.ensures in
    let held = (under_held law law1 c.args.run.now c.put-kids.new.run c.args.top c.args.below c.put-kids.result c.requires.trees c.requires.order p.put p.run p.place).held in
    let left = under_left law law1 c.args.run.now c.put-kids.new.run c.args.top c.args.below c.put-kids.result c.requires.trees c.requires.order p.put p.run p.place in
    record {
      held = held;
      left = left;
      fits = fits_tree law1 c.put-kids.new.run.next (next_held held left) _ (grown_full law law1 c.args.run.now c.put-kids.new.run c.args.top c.args.below c.put-kids.result c.requires.trees c.requires.order p.put p.run p.place)
          (under_low law law1 c.args.run.now c.put-kids.new.run c.args.top c.args.below c.put-kids.result c.requires.trees c.requires.order p.put p.run p.place);
    }

pub returns : goal.returns
returns g c =
    let law = g.met.H.Heap.lawful c.args.h.now in
    let law1 = g.met.H.Heap.lawful c.put-kids.new.self in
    let p = c.put-kids.ensures in
    let q = c.put-place.ensures in
    grown law law1 c.args.run.now c.put-kids.new.run c.args.top c.args.below c.put-kids.result c.requires.trees c.requires.order p.put p.run p.place c.put-place.new.run c.put-place.result (c.args.top.rank + 1) refl q.put q.run q.place
