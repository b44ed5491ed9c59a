use Rattle.std.proofs.Common.{◌+◌, ◌≤◌, ◌<◌, arith, refl}
use Rattle.lazy_rec.specs.declared.records.Sort.TheVariants as sorts
use Rattle.heap_store.specs.World.{recs}
use Rattle.heap_store.specs.Budget.{gain_at}
use Rattle.heap_store.specs.View.{Fits}
use Rattle.heap_store.proofs.GrowthLaws.{value_up}
use Rattle.heap_store.proofs.Steps.{filling_start, filling_quiet}
use Rattle.heap_store.proofs.WellNamed.{named_sort}
use Rattle.rt_queue.specs.Queue.{top_record}
use Rattle.rt_queue.proofs.Fronts.{front_named, schedule_front}
use Rattle.rt_queue.proofs.Tops.{fits_top}
use Rattle.rt_queue.proofs.NewTops.{moved_top}
use Rattle.rt_queue.proofs.Schedules.{later_gain}
use Rattle.rt_queue.proofs.TopPuts.{one_place, two_places, put_one, quiet_put, purse_quiet}
use Rattle.rt_queue.proofs.queue.put_top.Goals as goal
use Rattle.rt_queue.proofs.queue.put_top.Goals.{After-first_cell-cell}

pub returns-then-top : goal.returns-then-top
returns-then-top g c =
    let e = two_places c.args.top.lenf c.args.top.lenr (omega arith) in
    let p = c.put_rotated.ensures in
    record {
      put = rw e p.put;
      made = record { moved = λ (near : c.args.top.lenr ≤ c.args.top.lenf). absurd (omega (arith, near)); rotated = λ _. p.made };
      low = p.low;
    }

pub first_cell-cell-requires : goal.first_cell-cell-requires
first_cell-cell-requires g c =
    let k = c.requires.top in
    let law = (g.met.H.Heap.lawful c.args.h.now).world in
    let p = c.args.top.sched.0 in
    record {
      stream = named_sort (recs (g.H.Heap.view c.args.h.now).seen) (p + 1) (p, sorts.Stream) (front_named law (p + 1) p (schedule_front law p k.sched_there) (omega arith));
      known = k.sched_known;
      some = omega (arith, k.sched_length);
    }

gain : (g : _) (c : After-first_cell-cell g) → gain_at (g.H.Heap.view c.first_cell-cell.new.h).seen c.args.run.now.next (top_record (record c.args.top { sched = c.first_cell-cell.result.rest })) ≤ 1
gain g c =
    let k = c.requires.top in
    later_gain (g.met.H.Heap.lawful c.args.h.now).world (g.met.H.Heap.lawful c.first_cell-cell.new.h).world c.first_cell-cell.ensures.quiet.grows c.args.run.now.next c.args.top k.sched_there k.sched_paid _ _ c.first_cell-cell.result.rest c.first_cell-cell.ensures.cell

fits : (g : _) (c : After-first_cell-cell g) → Fits (g.H.Heap.view c.first_cell-cell.new.h) c.args.run.now.next (top_record (record c.args.top { sched = c.first_cell-cell.result.rest }))
fits g c =
    let law = (g.met.H.Heap.lawful c.args.h.now).world in
    let q = c.first_cell-cell.ensures.quiet in
    let f = filling_quiet (filling_start _ _ c.requires.held) q in
    let one = one_place c.args.top.lenf c.args.top.lenr (omega arith) in
    fits_top law q.grows (g.met.H.Heap.lawful c.first_cell-cell.new.h) c.args.run.now.next (f.held.each c.args.run.now.next (omega arith) (omega (arith, c.requires.room, one))) (record c.args.top { sched = c.first_cell-cell.result.rest })
    (moved_top law c.args.top c.args.run.now.next c.requires.top (omega arith) _ _ c.first_cell-cell.result.rest c.first_cell-cell.ensures.cell) (omega (arith, gain g c, c.requires.credits, purse_quiet q))

pub put-requires-clause-fits : goal.put-requires-clause-fits
put-requires-clause-fits g c = fits g (goal.at.put-requires-clause-fits g c).After-first_cell-cell

pub returns-clause-put : goal.returns-clause-put
returns-clause-put g c =
    let d = (goal.at.returns-clause-put g c).After-first_cell-cell in
    let q = c.first_cell-cell.ensures.quiet in
    let f = filling_quiet (filling_start _ _ c.requires.held) q in
    let one = one_place c.args.top.lenf c.args.top.lenr (omega arith) in
    rw one (quiet_put q (put_one f.held c.put.ensures.put c.put.ensures.run (fits g d) (gain g d) refl))

pub returns-clause-made : goal.returns-clause-made
returns-clause-made g c =
    let p = c.put.ensures in
    let q = c.first_cell-cell.ensures.quiet in
    record {
      moved = λ _. record {
        child = c.first_cell-cell.result.child;
        value = c.first_cell-cell.result.value;
        rest = c.first_cell-cell.result.rest;
        cell = value_up _ _ p.put.grows c.args.top.sched.0 _ (value_up _ _ q.grows c.args.top.sched.0 _ c.first_cell-cell.ensures.cell);
        here = rw p.place p.put.here;
      };
      rotated = λ (less : c.args.top.lenf < c.args.top.lenr). absurd (omega (arith, less));
    }
