use Rattle.std.proofs.Common.{◌<◌, arith}
use Rattle.binom_heap.proofs.Melds.{first_empty, second_empty, merge_fits, merge_puts, merge_new, merge_pays, merge_melded, one_place1, one_place2, two_places}
use Rattle.binom_heap.proofs.TopGains.{shown_gain}
use Rattle.binom_heap.proofs.heap.put_meld.Goals as goal

pub put_top-requires : goal.put_top-requires
put_top-requires g c =
    let k = c.requires in
    record {
      top = k.second_is.top;
      held = k.held;
      size = omega (arith, k.size, one_place1 c.args.first.size c.args.second.size k.fits (omega arith));
      credits = omega (arith, shown_gain (g.H.Heap.view c.args.h.now).seen c.args.run.now.next c.args.second k.second_is.shown);
    }

pub returns-then-first-eq0 : goal.returns-then-first-eq0
returns-then-first-eq0 g c =
    let p = c.put_top.ensures in
    first_empty (g.met.H.Heap.lawful c.args.h.now) (g.met.H.Heap.lawful c.put_top.new.h) c.args.run.now c.put_top.new.run c.args.first c.args.second c.requires c.put_top.result.0 p.filled p.spent (omega arith) p.top p.credits

pub put_top-requires-then-second-eq0 : goal.put_top-requires-then-second-eq0
put_top-requires-then-second-eq0 g c =
    let k = c.requires in
    record {
      top = k.first_is.top;
      held = k.held;
      size = omega (arith, k.size, one_place2 c.args.first.size c.args.second.size k.fits (omega arith));
      credits = omega (arith, shown_gain (g.H.Heap.view c.args.h.now).seen c.args.run.now.next c.args.first k.first_is.shown);
    }

pub returns-then-second-eq0 : goal.returns-then-second-eq0
returns-then-second-eq0 g c =
    let p = c.put_top-then-second-eq0.ensures in
    second_empty (g.met.H.Heap.lawful c.args.h.now) (g.met.H.Heap.lawful c.put_top-then-second-eq0.new.h) c.args.run.now c.put_top-then-second-eq0.new.run c.args.first c.args.second c.requires c.put_top-then-second-eq0.result.0 p.filled p.spent (omega arith) p.top p.credits

pub put-list-requires : goal.put-list-requires
put-list-requires g c =
    let k = c.requires in
    let left : c.args.run.now.next < c.args.run.now.end = omega (arith, k.size, two_places c.args.first.size c.args.second.size k.fits c.if-first-eq0.false c.if-second-eq0.false) in
    record { held = k.held; left = left; fits = merge_fits (g.met.H.Heap.lawful c.args.h.now) c.args.run.now c.args.first c.args.second k left }

pub overflow_add-top : goal.overflow_add-top
overflow_add-top g c = omega (arith, c.requires.fits)

pub put_top-requires-2 : goal.put_top-requires-2
put_top-requires-2 g c =
    let k = c.requires in
    let law = g.met.H.Heap.lawful c.args.h.now in
    let law1 = g.met.H.Heap.lawful c.put-list.new.self in
    let p = c.put-list.ensures in
    let puts = merge_puts law c.args.run.now c.args.first c.args.second k law1 c.put-list.new.run c.put-list.result p.put p.run p.place in
    record {
      top = merge_new law c.args.run.now c.args.first c.args.second k law1 c.put-list.new.run c.put-list.result p.put p.run p.place;
      held = puts.held;
      size = omega (arith, k.size, two_places c.args.first.size c.args.second.size k.fits c.if-first-eq0.false c.if-second-eq0.false, puts.next, puts.same_end);
      credits = omega (arith, k.credits, puts.credits, merge_pays law c.args.run.now c.args.first c.args.second k law1 c.put-list.new.run c.put-list.result p.put p.run p.place);
    }

pub returns : goal.returns
returns g c =
    let k = c.requires in
    let law = g.met.H.Heap.lawful c.args.h.now in
    let law1 = g.met.H.Heap.lawful c.put-list.new.self in
    let p = c.put-list.ensures in
    let q = c.put_top-2.ensures in
    let puts = merge_puts law c.args.run.now c.args.first c.args.second k law1 c.put-list.new.run c.put-list.result p.put p.run p.place in
    merge_melded law c.args.run.now c.args.first c.args.second k law1 c.put-list.new.run c.put-list.result p.put p.run p.place (g.met.H.Heap.lawful c.put_top-2.new.h) c.put_top-2.new.run c.put_top-2.result.0
    (omega (arith, k.size, two_places c.args.first.size c.args.second.size k.fits c.if-first-eq0.false c.if-second-eq0.false, puts.next, puts.same_end)) q.filled q.spent q.top q.credits
