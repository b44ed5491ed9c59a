use Rattle.std.proofs.Common.{◌<◌, arith, ap, ◌∙◌, refl}
use Rattle.std.proofs.lemmas.Bool.{lt-ltb}
use Rattle.lazy_rec.specs.declared.events.Op.TheVariants as ops
use Rattle.heap_store.proofs.GrowthLaws.{grows_refl, grows_trans, value_up}
use Rattle.heap_store.proofs.Steps.{Quiet_trans}
use Rattle.heap_store.proofs.CellLaws.{item_cell}
use Rattle.heap_store.specs.OneStage.{is_end}
use Rattle.lazy_stream.specs.Stream.{looks_at_first}
use Rattle.lazy_stream.proofs.Streams.{stream_part}
use Rattle.lazy_stream.proofs.JobStreams.{Found, found_base, FoundFirst, found_first}
use Rattle.lazy_stream.proofs.StreamEnds.{same_root}
use Rattle.lazy_stream.proofs.Operations.{base_root, none_built, head_built}
use Rattle.lazy_stream.proofs.events.head.Goals as goal
use Rattle.lazy_stream.proofs.events.head.Goals.{After-read_front-front}

pub returns-then-job-eq0 : goal.returns-then-job-eq0
returns-then-job-eq0 g c = record {
  built = none_built (g.met.H.Heap.lawful c.args.h.now).world c.requires.build c.requires.kind ops.Head c.requires.op refl c.if-job-eq0.true c.at_base.result c.at_base.ensures;
  base = λ _. same_root _ _ _ c.at_base.result c.at_base.ensures;
  ends = ap is_end c.at_base.ensures;
}

pub read_front-front-requires : goal.read_front-front-requires
read_front-front-requires g c = base_root (g.met.H.Heap.lawful c.args.h.now).world c.requires.build c.requires.kind

-- the stream of the base, in the view after its top was read
own : (g : _) (c : After-read_front-front g) → Found (g.H.Heap.view c.read_front-front.new.h).seen c.args.run.now c.args.job.now.base c.read_front-front.result
own g c = found_base c.requires.build (g.met.H.Heap.lawful c.read_front-front.new.h).world (grows_refl (g.H.Heap.view c.args.h.now).seen) c.read_front-front.ensures.quiet.grows c.read_front-front.result c.read_front-front.ensures.top

first : (g : _) (c : After-read_front-front g) → 0 < c.args.job.now.base.size → FoundFirst (g.H.Heap.view c.read_front-front.new.h).seen c.args.run.now c.read_front-front.result
first g c some = found_first c.requires.build c.read_front-front.ensures.quiet.grows c.read_front-front.result c.read_front-front.ensures.top.0 c.read_front-front.ensures.top.1 (ap (λ o. looks_at_first o c.args.job.now.base.size) c.requires.op ∙ lt-ltb 0 c.args.job.now.base.size some)

pub first_cell-cell-requires : goal.first_cell-cell-requires
first_cell-cell-requires g c =
    let d = (goal.at.first_cell-cell-requires g c).After-read_front-front in
    let s = (own g d).stream in
    record { stream = stream_part (g.met.H.Heap.lawful c.read_front-front.new.h).world c.read_front-front.result.0 s.stream; known = (first g d (omega arith)).known; some = omega (arith, s.count) }

pub returns : goal.returns
returns g c =
    let q = c.first_cell-cell.ensures.quiet in
    let law = (g.met.H.Heap.lawful c.first_cell-cell.new.h).world in
    let w = (g.H.Heap.view c.read_front-front.new.h).seen in
    let f = found_base c.requires.build law c.read_front-front.ensures.quiet.grows q.grows c.read_front-front.result (c.read_front-front.ensures.top.0, c.read_front-front.ensures.quiet.grows.records _ _ c.read_front-front.ensures.top.1) in
    let known = (found_first c.requires.build (grows_trans c.read_front-front.ensures.quiet.grows q.grows) c.read_front-front.result c.read_front-front.ensures.top.0 c.read_front-front.ensures.top.1 (ap (λ o. looks_at_first o c.args.job.now.base.size) c.requires.op ∙ lt-ltb 0 c.args.job.now.base.size (omega arith))).known in
    let h = item_cell law c.read_front-front.result.0 _ _ _ f.stream.items (value_up _ _ q.grows c.read_front-front.result.0 _ c.first_cell-cell.ensures.cell) in
    record {
      built = head_built (g.met.H.Heap.lawful c.args.h.now).world c.requires.build c.requires.kind (Quiet_trans c.read_front-front.ensures.quiet q) law c.read_front-front.result f c.requires.op c.first_cell-cell.result.value c.first_cell-cell.result.rest h known c.at_base-2.result c.at_base-2.ensures;
      base = λ _. same_root _ _ _ c.at_base-2.result c.at_base-2.ensures;
      ends = ap is_end c.at_base-2.ensures;
    }
