use Rattle.std.proofs.Common.{◌≡◌, ◌+◌, ap, arith, refl}
use Rattle.lazy_rec.specs.declared.events.Op.TheVariants as ops
use Rattle.lazy_rec.specs.Numbers.{bits}
use Rattle.heap_store.proofs.ReadLaws.{rec_back}
use Rattle.heap_store.specs.Hand.{Hand}
use Rattle.heap_store.specs.View.{Quiet}
use Rattle.heap_store.proofs.Steps.{Quiet_refl, Quiet_trans, quiet_Filled}
use Rattle.binom_heap.specs.Heap.{top_record, start_places, meld_places}
use Rattle.binom_heap.proofs.Tops.{top_of_root}
use Rattle.binom_heap.proofs.Melds.{again_top, no_place, some_place}
use Rattle.binom_heap.proofs.TopGains.{price_most}
use Rattle.binom_heap.proofs.EventTops.{BuildTop, first_stage, other_kind, build_root, build_top, start_nodes, no_nodes, built_same, same_root}
use Rattle.binom_heap.proofs.EventMakes.{long_end, meld_end, meld_due}
use Rattle.binom_heap.proofs.events.meld.Goals as goal
use Rattle.binom_heap.proofs.events.meld.Goals.{After-read_top-second}

pub overflow_add-size : goal.overflow_add-size
overflow_add-size g c = let j = c.requires.build.base_job in omega (arith, j.base.most, j.other.most)

pub returns-then-size-gt-MOST_ITEMS : goal.returns-then-size-gt-MOST_ITEMS
returns-then-size-gt-MOST_ITEMS g c =
    let b = c.requires.build in
    let job = c.args.job.now in
    let other = other_kind job b.base_job c.requires.kind in
    let w = (g.H.Heap.view c.args.h.now).seen in
    let t = top_of_root w job.base.root.0 (build_root b job.base b.base_job.base c.requires.kind) in
    let u = top_of_root w job.other.root.0 (build_root b job.other b.base_job.other other) in
    let k = build_top b job.base b.base_job.base c.requires.kind t.0 t.1 in
    let l = build_top b job.other b.base_job.other other u.0 u.1 in
    let none : start_places job.op job.base.size job.other.size ≡ 0 = (let op = c.requires.op in rw op (no_place job.base.size job.other.size (omega arith))) in
    record {
      base = λ _. same_root _ _ _ c.at_base.result c.at_base.ensures;
      built = built_same (Quiet_refl (g.H.Heap.view c.args.h.now)) (no_nodes b (first_stage job b.base_job c.requires.kind ops.Meld c.requires.op refl) none) job.base.root job.base.size _
          (long_end (g.met.H.Heap.lawful c.args.h.now).world job c.requires.kind other c.requires.op t.0 u.0 t.1 u.1 k.size l.size (omega arith)) c.at_base.result c.at_base.ensures;
    }

pub read_top-first-requires : goal.read_top-first-requires
read_top-first-requires g c = build_root c.requires.build c.args.job.now.base c.requires.build.base_job.base c.requires.kind

pub read_top-second-requires : goal.read_top-second-requires
read_top-second-requires g c =
    let b = c.requires.build in
    let job = c.args.job.now in
    let other = other_kind job b.base_job c.requires.kind in
    let u = top_of_root (g.H.Heap.view c.args.h.now).seen job.other.root.0 (build_root b job.other b.base_job.other other) in
    let e = c.read_top-first.ensures.quiet.grows.records _ _ u.1 in
    rw e refl

-- ---- after both tops were read

quiet : (g : _) (c : After-read_top-second g) → Quiet (g.H.Heap.view c.args.h.now) (g.H.Heap.view c.read_top-second.new.h)
quiet g c = Quiet_trans c.read_top-first.ensures.quiet c.read_top-second.ensures.quiet

first : (g : _) (c : After-read_top-second g) → BuildTop (g.H.Heap.view c.args.h.now).seen c.args.job.now.base c.args.run.now c.read_top-first.result
first g c = build_top c.requires.build c.args.job.now.base c.requires.build.base_job.base c.requires.kind c.read_top-first.result c.read_top-first.ensures.top

second : (g : _) (c : After-read_top-second g) → BuildTop (g.H.Heap.view c.args.h.now).seen c.args.job.now.other c.args.run.now c.read_top-second.result
second g c =
    let b = c.requires.build in
    let job = c.args.job.now in
    let other = other_kind job b.base_job c.requires.kind in
    let is = top_of_root (g.H.Heap.view c.args.h.now).seen job.other.root.0 (build_root b job.other b.base_job.other other) in
    build_top b job.other b.base_job.other other c.read_top-second.result (rec_back c.read_top-first.ensures.quiet.grows.records job.other.root.0 _ (top_record is.0, is.1) c.read_top-second.ensures.top)

pub put_meld-root-requires : goal.put_meld-root-requires
put_meld-root-requires g c =
    let d = (goal.at.put_meld-root-requires g c).After-read_top-second in
    let b = c.requires.build in
    let job = c.args.job.now in
    let k = first g d in
    let l = second g d in
    let x = (quiet g d).grows in
    let law = (g.met.H.Heap.lawful c.read_top-second.new.h).world in
    let stage = first_stage job b.base_job c.requires.kind ops.Meld c.requires.op refl in
    let nodes : start_places job.op job.base.size job.other.size ≡ meld_places c.read_top-first.result.size c.read_top-second.result.size = (let op = c.requires.op in let n = k.size in let m = l.size in rw (op, n, m) refl) in
    let same : (g.H.Heap.view c.read_top-second.new.h).hand.credits ≡ (g.H.Heap.view c.args.h.now).hand.credits = ap (λ (h : Hand). h.credits) (quiet g d).hand in
    let due = meld_due job c.requires.kind c.requires.op stage in
    let bits_same : bits c.read_top-first.result.size + bits c.read_top-second.result.size + 1 ≡ bits job.base.size + bits job.other.size + 1 = (let n = k.size in let m = l.size in rw (n, m) refl) in
    record {
      held = (let q = (quiet g d).hand in rw q b.held);
      first_is = again_top law job.base.root.0 c.read_top-first.result (x.records _ _ k.there) c.args.run.now.next k.low;
      second_is = again_top law job.other.root.0 c.read_top-second.result (x.records _ _ l.there) c.args.run.now.next l.low;
      size = omega (arith, b.size, start_nodes b stage, nodes);
      fits = omega (arith, k.size, l.size);
      credits = omega (arith, same, due, bits_same, b.credits, price_most law job.base.root.0 job.other.root.0 c.read_top-first.result c.read_top-second.result (x.records _ _ k.there) (x.records _ _ l.there));
    }

pub returns : goal.returns
returns g c =
    let d = (goal.at.returns g c).After-read_top-second in
    let b = c.requires.build in
    let job = c.args.job.now in
    let k = first g d in
    let l = second g d in
    let x = (quiet g d).grows in
    let stage = first_stage job b.base_job c.requires.kind ops.Meld c.requires.op refl in
    let m = c.put_meld-root.ensures in
    let same : (g.H.Heap.view c.read_top-second.new.h).hand.credits ≡ (g.H.Heap.view c.args.h.now).hand.credits = ap (λ (h : Hand). h.credits) (quiet g d).hand in
    let due = meld_due job c.requires.kind c.requires.op stage in
    let bits_same : bits c.read_top-first.result.size + bits c.read_top-second.result.size + 1 ≡ bits job.base.size + bits job.other.size + 1 = (let n = k.size in let z = l.size in rw (n, z) refl) in
    let nodes : start_places job.op job.base.size job.other.size ≡ meld_places job.base.size job.other.size = (let op = c.requires.op in rw op refl) in
    record {
      base = λ e. absurd (omega (arith, e, b.size, start_nodes b stage, nodes, some_place job.base.size job.other.size (omega arith)));
      built = record {
        filled = quiet_Filled (quiet g d) m.filled;
        spent = m.spent;
        made = meld_end (g.met.H.Heap.lawful c.read_top-second.new.h) (g.met.H.Heap.lawful c.put_meld-root.new.h) job c.requires.kind (other_kind job b.base_job c.requires.kind) c.requires.op c.read_top-first.result c.read_top-second.result (x.records _ _ k.there) (x.records _ _ l.there) k.size l.size (omega arith) c.args.run.now c.put_meld-root.new.run c.put_meld-root.result m;
        credits = omega (arith, same, due, bits_same, m.credits, price_most (g.met.H.Heap.lawful c.read_top-second.new.h).world job.base.root.0 job.other.root.0 c.read_top-first.result c.read_top-second.result (x.records _ _ k.there) (x.records _ _ l.there));
      };
    }
