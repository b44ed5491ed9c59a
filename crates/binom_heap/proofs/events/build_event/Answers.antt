use Rattle.std.proofs.Common.{◌≡◌, ◌∙◌, ap, sym, refl}
use Rattle.lazy_rec.specs.Kinds.{belongs}
use Rattle.lazy_rec.specs.declared.events.Op.TheVariants as ops
use Rattle.heap_store.proofs.Steps.{Quiet_refl}
use Rattle.binom_heap.proofs.Tops.{top_of_root}
use Rattle.binom_heap.proofs.EventTops.{only_size, first_stage, other_kind, build_root, build_top, no_nodes, size_nodes, built_same, same_root, plain_build}
use Rattle.binom_heap.proofs.EventMakes.{size_end}
use Rattle.binom_heap.proofs.events.build_event.Goals as goal

pub returns-in_default-op-2 : goal.returns-in_default-op-2
returns-in_default-op-2 g c =
    let b = plain_build c.requires.build in
    let job = c.args.job.now in
    let kind = c.requires.kind in
    let op = only_size job.op (ap (λ k. belongs k job.op) (sym kind) ∙ b.base_job.op) c.in_default-op-2.not-Insert c.in_default-op-2.not-Meld c.in_default-op-2.not-Min c.in_default-op-2.not-Delmin in
    let t = top_of_root (g.H.Heap.view c.args.h.now).seen job.base.root.0 (build_root b job.base b.base_job.base kind) in
    let k = build_top b job.base b.base_job.base kind t.0 t.1 in
    record {
      base = λ _ _. same_root _ _ _ c.at_base.result c.at_base.ensures;
      paid = λ top min stage. absurd (let z : ops.Size ≡ ops.Min = sym op ∙ min in cc);
      built = built_same (Quiet_refl (g.H.Heap.view c.args.h.now)) (no_nodes b (first_stage job b.base_job kind ops.Size op refl) (size_nodes job op)) job.base.root job.base.size _
          (size_end (g.met.H.Heap.lawful c.args.h.now).world job kind (other_kind job b.base_job kind) op t.0 t.1 k.size) c.at_base.result (let n = c.from.ensures in rw n at c.at_base.ensures);
    }
