use Rattle.std.proofs.Common.{◌∙◌, ◌≡◌, ◌+◌, arith, true}
use Rattle.lazy_rec.specs.Meaning.{means}
use Rattle.heap_store.specs.World.{recs, holds}
use Rattle.heap_store.proofs.Steps.{Quiet_trans}
use Rattle.finger_level.specs.Reads.{is_element}
use Rattle.finger_level.specs.Keyed.{HasKeys}
use Rattle.finger_level.proofs.Weighing.{all_at, items_more, items_all, element_later, weight_back, key_max, key_more, key_back, key_whole}
use Rattle.finger_level.proofs.puts.weigh_all.Goals as goal

pub weigh-weight-requires : goal.weigh-weight-requires
weigh-weight-requires g c =
    element_later c.loop-e.invariant.quiet.grows _ (all_at (λ e. holds (recs (g.H.Heap.view c.args.h.now).seen) e is_element ≡ true) c.args.es.now c.loop-e.e-index (record { 0 = 0 }) c.loop-e-test.true c.requires.elements)

pub overflow_add-size : goal.overflow_add-size
overflow_add-size g c =
    let w = (g.H.Heap.view c.args.h.now).seen in
    let law = (g.met.H.Heap.lawful c.args.h.now).world in
    let e = all_at (λ e. holds (recs w) e is_element ≡ true) c.args.es.now c.loop-e.e-index (record { 0 = 0 }) c.loop-e-test.true c.requires.elements in
    let s = weight_back law c.loop-e.invariant.quiet.grows _ _ e c.weigh-weight.ensures.weight in
    let m = items_more (means (recs w)) c.args.es.now c.loop-e.e-index (record { 0 = 0 }) c.loop-e-test.true in
    let l = items_all (means (recs w)) c.args.es.now (c.loop-e.e-index + 1) (omega (arith, c.loop-e-test.true)) in
    omega (arith, s, m, l, c.loop-e.invariant.so_far, c.requires.small)

pub loop-e-preserved : goal.loop-e-preserved
loop-e-preserved g c =
    let w = (g.H.Heap.view c.args.h.now).seen in
    let law = (g.met.H.Heap.lawful c.args.h.now).world in
    let e = all_at (λ e. holds (recs w) e is_element ≡ true) c.args.es.now c.loop-e.e-index (record { 0 = 0 }) c.loop-e-test.true c.requires.elements in
    let s = weight_back law c.loop-e.invariant.quiet.grows _ _ e c.weigh-weight.ensures.weight in
    let m = items_more (means (recs w)) c.args.es.now c.loop-e.e-index (record { 0 = 0 }) c.loop-e-test.true in
    record { quiet = Quiet_trans c.loop-e.invariant.quiet c.weigh-weight.ensures.quiet; so_far = omega (arith, s, m, c.loop-e.invariant.so_far); greatest = λ h. c.max-key.ensures ∙ (key_max _ _ ∙ key_more (means (recs w)) c.args.es.now c.loop-e.e-index (record { 0 = 0 }) _ _ c.loop-e-test.true (c.loop-e.invariant.greatest h) (key_back law (g.met.H.Heap.lawful c.loop-e.h).world c.loop-e.invariant.quiet.grows _ _ (element_later c.loop-e.invariant.quiet.grows _ e) c.weigh-weight.ensures.weight (all_at (λ e. HasKeys true w e) c.args.es.now c.loop-e.e-index (record { 0 = 0 }) c.loop-e-test.true h))) }

pub returns-then-keyed-clause-key : goal.returns-then-keyed-clause-key
returns-then-keyed-clause-key g c = let w = (g.H.Heap.view c.args.h.now).seen in key_whole (means (recs w)) w c.args.es.now c.loop-e.e-index c.loop-e.key c.args.keyed c.if-keyed.true c.loop-e-test.false c.loop-e.invariant.greatest
