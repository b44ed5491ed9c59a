use Rattle.std.proofs.Common.{◌≡◌, ◌<◌, arith, reverse, Some}
use Rattle.lazy_rec.specs.declared.events.Op.TheVariants as ops
use Rattle.lazy_rec.specs.declared.records.Rec.TheVariants.{Reverse}
use Rattle.lazy_rec.specs.Meaning.{cells}
use Rattle.heap_store.specs.World.{recs}
use Rattle.heap_store.proofs.GrowthLaws.{grows_refl, grows_trans}
use Rattle.lazy_stream.proofs.AppendFamilies.{reversal_gain}
use Rattle.lazy_stream.proofs.JobStreams.{due_is, found_base, room, empty_reversed, some_reversed}
use Rattle.lazy_stream.proofs.StreamEnds.{reverse_end}
use Rattle.lazy_stream.proofs.NewStreams.{BeforeTop, only_top, after_put, reverse_cells, none_reversed, event_built}
use Rattle.lazy_stream.proofs.Operations.{base_root, reversal_fits}
use Rattle.lazy_stream.proofs.events.reverse.Goals as goal
use Rattle.lazy_stream.proofs.events.reverse.Goals.{After-read_front-xs, After-put-front}

pub read_front-xs-requires : goal.read_front-xs-requires
read_front-xs-requires g c = base_root (g.met.H.Heap.lawful c.args.h.now).world c.requires.build c.requires.kind

pub put-front-requires-clause-fits : goal.put-front-requires-clause-fits
put-front-requires-clause-fits g c =
    let q = c.read_front-xs.ensures.quiet in
    let law = g.met.H.Heap.lawful c.read_front-xs.new.h in
    let f = found_base c.requires.build law.world (grows_refl (g.H.Heap.view c.args.h.now).seen) q.grows c.read_front-xs.result c.read_front-xs.ensures.top in
    reversal_fits law c.requires.build c.requires.kind c.requires.op q c.read_front-xs.result f c.if-size-eq0.false

-- of an empty stream only the top is put
empty : (g : _) (c : After-read_front-xs g) → c.args.job.now.base.size ≡ 0 → BeforeTop (g.H.Heap.view c.args.h.now) (g.H.Heap.view c.read_front-xs.new.h) c.args.run.now c.args.run.now c.read_front-xs.result.0 c.args.job.now.base.size 0 (reverse (cells (recs (g.H.Heap.view c.read_front-xs.new.h).seen) c.read_front-xs.result.0))
empty g c none =
    let q = c.read_front-xs.ensures.quiet in
    let f = found_base c.requires.build (g.met.H.Heap.lawful c.read_front-xs.new.h).world (grows_refl (g.H.Heap.view c.args.h.now).seen) q.grows c.read_front-xs.result c.read_front-xs.ensures.top in
    let size = room c.requires.build ops.Reverse c.requires.op in
    only_top q c.requires.build.held (omega (arith, size, empty_reversed c.args.job.now.base.size c.args.job.now.other.size none)) (none_reversed f.stream none)

pub put_top-root-requires : goal.put_top-root-requires
put_top-root-requires g c =
    let b = empty g (goal.at.put_top-root-requires g c).After-read_front-xs (omega arith) in
    record { stream = b.made.stream; held = b.held; size = b.last }

pub returns-then-size-eq0-clause-built : goal.returns-then-size-eq0-clause-built
returns-then-size-eq0-clause-built g c =
    let d = (goal.at.returns-then-size-eq0-clause-built g c).After-read_front-xs in
    let b = empty g d c.if-size-eq0.true in
    let p = c.put_top-root.ensures in
    let law = (g.met.H.Heap.lawful c.read_front-xs.new.h).world in
    let f = found_base c.requires.build law (grows_refl (g.H.Heap.view c.args.h.now).seen) c.read_front-xs.ensures.quiet.grows c.read_front-xs.result c.read_front-xs.ensures.top in
    let end = reverse_end law p.filled.grows.records c.args.job.now c.requires.kind c.read_front-xs.result f.top (record { there = p.root; items = p.items }) c.requires.op b.made.are in
    rw c.ended.ensures (event_built b p.filled p.spent p.credits (omega arith) c.put_top-root.result c.args.job.now.base.size end)

-- after the put of the reversal
before : (g : _) (c : After-put-front g) → BeforeTop (g.H.Heap.view c.args.h.now) (g.H.Heap.view c.put-front.new.self) c.args.run.now c.put-front.new.run c.put-front.result.0 c.args.job.now.base.size c.args.job.now.base.size (reverse (cells (recs (g.H.Heap.view c.put-front.new.self).seen) c.read_front-xs.result.0))
before g c =
    let b = c.requires.build in
    let q = c.read_front-xs.ensures.quiet in
    let r = c.put-front.ensures in
    let n = c.args.job.now.base.size in
    let start = grows_refl (g.H.Heap.view c.args.h.now).seen in
    let law = g.met.H.Heap.lawful c.read_front-xs.new.h in
    let law2 = (g.met.H.Heap.lawful c.put-front.new.self).world in
    let f = found_base b law.world start q.grows c.read_front-xs.result c.read_front-xs.ensures.top in
    let later = (found_base b law2 start (grows_trans q.grows r.put.grows) c.read_front-xs.result c.read_front-xs.ensures.top).stream in
    let here : recs (g.H.Heap.view c.put-front.new.self).seen c.put-front.result.0 ≡ Some (Reverse c.read_front-xs.result n) = rw r.place r.put.here in
    let low : c.put-front.result.0 < c.put-front.new.run.next = rw (r.place, r.run) (omega arith) in
    let size = room b ops.Reverse c.requires.op in
    after_put q b.held (omega (arith, size, some_reversed n c.args.job.now.other.size c.if-size-eq0.false)) (reversal_fits law b c.requires.kind c.requires.op q c.read_front-xs.result f c.if-size-eq0.false) r.put r.run
    (reversal_gain (g.H.Heap.view c.read_front-xs.new.h).seen c.args.run.now.next c.read_front-xs.result n) (reverse_cells law2 c.put-front.result.0 c.read_front-xs.result n c.put-front.new.run.next here later low)

pub put_top-root-requires-2 : goal.put_top-root-requires-2
put_top-root-requires-2 g c =
    let b = before g (goal.at.put_top-root-requires-2 g c).After-put-front in
    record { stream = b.made.stream; held = b.held; size = b.last }

pub returns-clause-built : goal.returns-clause-built
returns-clause-built g c =
    let b = before g (goal.at.returns-clause-built g c).After-put-front in
    let p = c.put_top-root-2.ensures in
    let law = (g.met.H.Heap.lawful c.put-front.new.self).world in
    let f = found_base c.requires.build law (grows_refl (g.H.Heap.view c.args.h.now).seen) (grows_trans c.read_front-xs.ensures.quiet.grows c.put-front.ensures.put.grows) c.read_front-xs.result c.read_front-xs.ensures.top in
    let due = due_is c.args.job.now c.requires.kind c.requires.build.base_job.has ops.Reverse c.requires.op in
    let end = reverse_end law p.filled.grows.records c.args.job.now c.requires.kind c.read_front-xs.result f.top (record { there = p.root; items = p.items }) c.requires.op b.made.are in
    rw c.ended-2.ensures (event_built b p.filled p.spent p.credits (omega (arith, due)) c.put_top-root-2.result c.args.job.now.base.size end)
