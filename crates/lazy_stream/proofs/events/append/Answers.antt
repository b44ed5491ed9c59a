use Rattle.std.proofs.Common.{◌≡◌, ◌+◌, ◌<◌, ◌++◌, arith, ap, eqb, ◌||◌, true, refl, Some}
use Rattle.std.proofs.lemmas.Bool.{or_left, or_right, eq-eqb, ne_eqb}
use Rattle.lazy_rec.specs.declared.events.Op.TheVariants as ops
use Rattle.lazy_rec.specs.declared.records.Rec.TheVariants.{Append}
use Rattle.lazy_rec.specs.Meaning.{cells}
use Rattle.heap_store.specs.World.{recs}
use Rattle.heap_store.proofs.GrowthLaws.{grows_refl, grows_trans}
use Rattle.heap_store.proofs.Steps.{Quiet_trans}
use Rattle.heap_store.proofs.ReadLaws.{holds_kept}
use Rattle.heap_store.specs.OneStage.{is_end}
use Rattle.lazy_stream.proofs.AppendFamilies.{append_gain}
use Rattle.lazy_stream.proofs.JobStreams.{due_is, Found, found_base, found_other, room, one_side_places, both_places}
use Rattle.lazy_stream.proofs.StreamEnds.{same_root, append_end}
use Rattle.lazy_stream.proofs.NewStreams.{BeforeTop, only_top, after_put, append_cells, none_before, none_behind, event_built}
use Rattle.lazy_stream.proofs.Operations.{base_root, other_is, other_root, long_built, append_fits}
use Rattle.lazy_stream.proofs.events.append.Goals as goal
use Rattle.lazy_stream.proofs.events.append.Goals.{After-read_front-ys, After-put-front}

pub returns-then-size-gt-MOST_ITEMS : goal.returns-then-size-gt-MOST_ITEMS
returns-then-size-gt-MOST_ITEMS g c = record {
  built = long_built (g.met.H.Heap.lawful c.args.h.now).world c.requires.build c.requires.kind c.requires.op c.if-size-gt-MOST_ITEMS.true c.at_base.result c.at_base.ensures;
  base = λ _. same_root _ _ _ c.at_base.result c.at_base.ensures;
  ends = ap is_end c.at_base.ensures;
}

pub read_front-xs-requires : goal.read_front-xs-requires
read_front-xs-requires g c = base_root (g.met.H.Heap.lawful c.args.h.now).world c.requires.build c.requires.kind

pub read_front-ys-requires : goal.read_front-ys-requires
read_front-ys-requires g c = holds_kept c.read_front-xs.ensures.quiet.grows.records c.args.job.now.other.root.0 _ (other_root (g.met.H.Heap.lawful c.args.h.now).world c.requires.build c.requires.kind)

-- the streams of both versions, in the view after their tops were read
xs : (g : _) (c : After-read_front-ys g) → Found (g.H.Heap.view c.read_front-ys.new.h).seen c.args.run.now c.args.job.now.base c.read_front-xs.result
xs g c = found_base c.requires.build (g.met.H.Heap.lawful c.read_front-ys.new.h).world (grows_refl (g.H.Heap.view c.args.h.now).seen) (grows_trans c.read_front-xs.ensures.quiet.grows c.read_front-ys.ensures.quiet.grows) c.read_front-xs.result c.read_front-xs.ensures.top

ys : (g : _) (c : After-read_front-ys g) → Found (g.H.Heap.view c.read_front-ys.new.h).seen c.args.run.now c.args.job.now.other c.read_front-ys.result
ys g c = found_other c.requires.build (g.met.H.Heap.lawful c.read_front-ys.new.h).world c.read_front-xs.ensures.quiet.grows c.read_front-ys.ensures.quiet.grows c.read_front-ys.result c.read_front-ys.ensures.top

-- where a side is empty only the top is put
last : (g : _) (c : After-read_front-ys g) → (eqb c.args.job.now.base.size 0 || eqb c.args.job.now.other.size 0) ≡ true → c.args.run.now.next + 1 ≡ c.args.run.now.end
last g c one =
    let size = room c.requires.build ops.Append c.requires.op in
    omega (arith, size, one_side_places c.args.job.now.base.size c.args.job.now.other.size c.if-size-gt-MOST_ITEMS.false one)

empty_base : (g : _) (c : After-read_front-ys g) → c.args.job.now.base.size ≡ 0 → BeforeTop (g.H.Heap.view c.args.h.now) (g.H.Heap.view c.read_front-ys.new.h) c.args.run.now c.args.run.now c.read_front-ys.result.0 (c.args.job.now.base.size + c.args.job.now.other.size) 0 (cells (recs (g.H.Heap.view c.read_front-ys.new.h).seen) c.read_front-xs.result.0 ++ cells (recs (g.H.Heap.view c.read_front-ys.new.h).seen) c.read_front-ys.result.0)
empty_base g c none =
    let n = c.args.job.now.base.size in
    let m = c.args.job.now.other.size in
    only_top (Quiet_trans c.read_front-xs.ensures.quiet c.read_front-ys.ensures.quiet) c.requires.build.held (last g c (or_left (eqb n 0) (eqb m 0) (eq-eqb n 0 none))) (none_before (xs g c).stream none (ys g c).stream)

empty_other : (g : _) (c : After-read_front-ys g) → c.args.job.now.other.size ≡ 0 → BeforeTop (g.H.Heap.view c.args.h.now) (g.H.Heap.view c.read_front-ys.new.h) c.args.run.now c.args.run.now c.read_front-xs.result.0 (c.args.job.now.base.size + c.args.job.now.other.size) 0 (cells (recs (g.H.Heap.view c.read_front-ys.new.h).seen) c.read_front-xs.result.0 ++ cells (recs (g.H.Heap.view c.read_front-ys.new.h).seen) c.read_front-ys.result.0)
empty_other g c none =
    let n = c.args.job.now.base.size in
    let m = c.args.job.now.other.size in
    only_top (Quiet_trans c.read_front-xs.ensures.quiet c.read_front-ys.ensures.quiet) c.requires.build.held (last g c (or_right (eqb n 0) (eqb m 0) (eq-eqb m 0 none))) (none_behind (xs g c).stream (ys g c).stream none)

pub put_top-root-requires : goal.put_top-root-requires
put_top-root-requires g c =
    let b = empty_base g (goal.at.put_top-root-requires g c).After-read_front-ys (omega arith) in
    record { stream = b.made.stream; held = b.held; size = b.last }

pub put_top-root-requires-then-job-eq0-2 : goal.put_top-root-requires-then-job-eq0-2
put_top-root-requires-then-job-eq0-2 g c =
    let b = empty_other g (goal.at.put_top-root-requires-then-job-eq0-2 g c).After-read_front-ys (omega arith) in
    record { stream = b.made.stream; held = b.held; size = b.last }

-- the top of one side
pub returns-then-job-eq0-clause-built : goal.returns-then-job-eq0-clause-built
returns-then-job-eq0-clause-built g c =
    let d = (goal.at.returns-then-job-eq0-clause-built g c).After-read_front-ys in
    let b = empty_base g d c.if-job-eq0.true in
    let p = c.put_top-root.ensures in
    let law = (g.met.H.Heap.lawful c.read_front-ys.new.h).world in
    let other = other_is (g.met.H.Heap.lawful c.args.h.now).world c.requires.build c.requires.kind in
    let end = append_end law p.filled.grows.records c.args.job.now c.requires.kind c.read_front-xs.result (xs g d).top (record { there = p.root; items = p.items }) c.requires.op other c.read_front-ys.result (ys g d).top c.if-size-gt-MOST_ITEMS.false b.made.are in
    rw c.ended.ensures (event_built b p.filled p.spent p.credits (omega arith) c.put_top-root.result (c.args.job.now.base.size + c.args.job.now.other.size) end)

pub returns-then-job-eq0-2-clause-built : goal.returns-then-job-eq0-2-clause-built
returns-then-job-eq0-2-clause-built g c =
    let d = (goal.at.returns-then-job-eq0-2-clause-built g c).After-read_front-ys in
    let b = empty_other g d c.if-job-eq0-2.true in
    let p = c.put_top-root-then-job-eq0-2.ensures in
    let law = (g.met.H.Heap.lawful c.read_front-ys.new.h).world in
    let other = other_is (g.met.H.Heap.lawful c.args.h.now).world c.requires.build c.requires.kind in
    let end = append_end law p.filled.grows.records c.args.job.now c.requires.kind c.read_front-xs.result (xs g d).top (record { there = p.root; items = p.items }) c.requires.op other c.read_front-ys.result (ys g d).top c.if-size-gt-MOST_ITEMS.false b.made.are in
    rw c.ended-then-job-eq0-2.ensures (event_built b p.filled p.spent p.credits (omega arith) c.put_top-root-then-job-eq0-2.result (c.args.job.now.base.size + c.args.job.now.other.size) end)

-- the first append is put where neither is empty
both : (g : _) (c : After-read_front-ys g) → (c.args.job.now.base.size ≡ 0 → ⊥) → (c.args.job.now.other.size ≡ 0 → ⊥) → c.args.run.now.next + 2 ≡ c.args.run.now.end
both g c some some2 =
    let n = c.args.job.now.base.size in
    let m = c.args.job.now.other.size in
    let size = room c.requires.build ops.Append c.requires.op in
    let z = ne_eqb n 0 some in
    let z2 = ne_eqb m 0 some2 in
    omega (arith, size, both_places n m c.if-size-gt-MOST_ITEMS.false (rw (z, z2) refl))

pub put-front-requires-clause-fits : goal.put-front-requires-clause-fits
put-front-requires-clause-fits g c =
    let d = (goal.at.put-front-requires-clause-fits g c).After-read_front-ys in
    let two = both g d c.if-job-eq0.false c.if-job-eq0-2.false in
    append_fits (g.met.H.Heap.lawful c.read_front-ys.new.h) c.requires.build c.requires.kind c.requires.op (Quiet_trans c.read_front-xs.ensures.quiet c.read_front-ys.ensures.quiet) c.read_front-xs.result c.read_front-ys.result c.next-origin.result (xs g d) (ys g d) c.next-origin.ensures (omega (arith, two)) c.if-job-eq0.false

-- the streams of both versions after its put
xs_later : (g : _) (c : After-put-front g) → Found (g.H.Heap.view c.put-front.new.self).seen c.args.run.now c.args.job.now.base c.read_front-xs.result
xs_later g c = found_base c.requires.build (g.met.H.Heap.lawful c.put-front.new.self).world (grows_refl (g.H.Heap.view c.args.h.now).seen) (grows_trans c.read_front-xs.ensures.quiet.grows (grows_trans c.read_front-ys.ensures.quiet.grows c.put-front.ensures.put.grows)) c.read_front-xs.result c.read_front-xs.ensures.top

ys_later : (g : _) (c : After-put-front g) → Found (g.H.Heap.view c.put-front.new.self).seen c.args.run.now c.args.job.now.other c.read_front-ys.result
ys_later g c = found_other c.requires.build (g.met.H.Heap.lawful c.put-front.new.self).world c.read_front-xs.ensures.quiet.grows (grows_trans c.read_front-ys.ensures.quiet.grows c.put-front.ensures.put.grows) c.read_front-ys.result c.read_front-ys.ensures.top

before : (g : _) (c : After-put-front g) → BeforeTop (g.H.Heap.view c.args.h.now) (g.H.Heap.view c.put-front.new.self) c.args.run.now c.put-front.new.run c.put-front.result.0 (c.args.job.now.base.size + c.args.job.now.other.size) c.args.job.now.base.size (cells (recs (g.H.Heap.view c.put-front.new.self).seen) c.read_front-xs.result.0 ++ cells (recs (g.H.Heap.view c.put-front.new.self).seen) c.read_front-ys.result.0)
before g c =
    let b = c.requires.build in
    let q = Quiet_trans c.read_front-xs.ensures.quiet c.read_front-ys.ensures.quiet in
    let r = c.put-front.ensures in
    let n = c.args.job.now.base.size in
    let m = c.args.job.now.other.size in
    let law = g.met.H.Heap.lawful c.read_front-ys.new.h in
    let f = found_base b law.world (grows_refl (g.H.Heap.view c.args.h.now).seen) q.grows c.read_front-xs.result c.read_front-xs.ensures.top in
    let f2 = found_other b law.world c.read_front-xs.ensures.quiet.grows c.read_front-ys.ensures.quiet.grows c.read_front-ys.result c.read_front-ys.ensures.top in
    let size = room b ops.Append c.requires.op in
    let z = ne_eqb n 0 c.if-job-eq0.false in
    let z2 = ne_eqb m 0 c.if-job-eq0-2.false in
    let two = both_places n m c.if-size-gt-MOST_ITEMS.false (rw (z, z2) refl) in
    let here : recs (g.H.Heap.view c.put-front.new.self).seen c.put-front.result.0 ≡ Some (Append c.read_front-xs.result c.read_front-ys.result n c.next-origin.result 0) = rw r.place r.put.here in
    let low : c.put-front.result.0 < c.put-front.new.run.next = rw (r.place, r.run) (omega arith) in
    let few = c.if-size-gt-MOST_ITEMS.false in
    after_put q b.held (omega (arith, size, two)) (append_fits law b c.requires.kind c.requires.op q c.read_front-xs.result c.read_front-ys.result c.next-origin.result f f2 c.next-origin.ensures (omega (arith, size, two)) c.if-job-eq0.false) r.put r.run
    (append_gain (g.H.Heap.view c.read_front-ys.new.h).seen c.args.run.now.next c.read_front-xs.result c.read_front-ys.result n c.next-origin.result)
    (append_cells (g.met.H.Heap.lawful c.put-front.new.self).world c.put-front.result.0 c.read_front-xs.result c.read_front-ys.result n m c.next-origin.result c.put-front.new.run.next here (xs_later g c).stream (ys_later g c).stream (omega (arith, few)) low)

pub put_top-root-requires-2 : goal.put_top-root-requires-2
put_top-root-requires-2 g c =
    let b = before g (goal.at.put_top-root-requires-2 g c).After-put-front in
    record { stream = b.made.stream; held = b.held; size = b.last }

pub returns-clause-built : goal.returns-clause-built
returns-clause-built g c =
    let d = (goal.at.returns-clause-built g c).After-put-front in
    let b = before g d in
    let p = c.put_top-root-2.ensures in
    let law = (g.met.H.Heap.lawful c.put-front.new.self).world in
    let other = other_is (g.met.H.Heap.lawful c.args.h.now).world c.requires.build c.requires.kind in
    let due = due_is c.args.job.now c.requires.kind c.requires.build.base_job.has ops.Append c.requires.op in
    let end = append_end law p.filled.grows.records c.args.job.now c.requires.kind c.read_front-xs.result (xs_later g d).top (record { there = p.root; items = p.items }) c.requires.op other c.read_front-ys.result (ys_later g d).top c.if-size-gt-MOST_ITEMS.false b.made.are in
    rw c.ended-2.ensures (event_built b p.filled p.spent p.credits (omega (arith, due)) c.put_top-root-2.result (c.args.job.now.base.size + c.args.job.now.other.size) end)
