use Rattle.std.proofs.Common.{arith, sym}
use Rattle.heap_store.specs.World.{recs}
use Rattle.heap_store.proofs.ReadLaws.{is_there}
use Rattle.heap_store.proofs.ValueLaws.{value_place_is, place_waits}
use Rattle.lazy_stream.proofs.Appends.{append_well}
use Rattle.lazy_stream.proofs.AppendWork.{append_need, append_ready, one_place, two_places}
use Rattle.lazy_stream.proofs.append.prepare_append.Goals as goal

pub value_place-requires : goal.value_place-requires
value_place-requires g c = let k = append_well (g.met.H.Heap.lawful c.args.h.now).world c.args.s.0 _ _ _ _ _ c.requires in is_there (recs (g.H.Heap.view c.args.h.now).seen) c.args.of.xs.0 (k.xs_named.1, k.xs_named.2)

pub returns-then-of-eq1-clause-answer : goal.returns-then-of-eq1-clause-answer
returns-then-of-eq1-clause-answer g c =
    let of = c.args.of in
    let law = (g.met.H.Heap.lawful c.value_place.new.h).world in
    append_ready (g.H.Heap.view c.value_place.new.h).seen c.args.s.0 of.xs of.ys of.left of.origin of.off 1 (c.value_place.ensures.quiet.grows.records _ _ c.requires)
    (value_place_is law of.xs.0 c.in-Some.field-0.0 c.in-Some.ensures.place).known (sym (one_place of.left (omega arith)))

pub returns-else-of-eq1-clause-answer : goal.returns-else-of-eq1-clause-answer
returns-else-of-eq1-clause-answer g c =
    let of = c.args.of in
    let law = (g.met.H.Heap.lawful c.value_place.new.h).world in
    let e = c.value_place.ensures.quiet.grows.records _ _ c.requires in
    let k = append_well law c.args.s.0 of.xs of.ys of.left of.origin of.off e in
    append_ready (g.H.Heap.view c.value_place.new.h).seen c.args.s.0 of.xs of.ys of.left of.origin of.off 2 e
    (value_place_is law of.xs.0 c.in-Some.field-0.0 c.in-Some.ensures.place).known (sym (two_places of.left (omega (arith, k.some))))

pub returns-in-None-clause-answer : goal.returns-in-None-clause-answer
returns-in-None-clause-answer g c =
    let of = c.args.of in
    let law = (g.met.H.Heap.lawful c.value_place.new.h).world in
    let e = c.value_place.ensures.quiet.grows.records _ _ c.requires in
    let k = append_well law c.args.s.0 of.xs of.ys of.left of.origin of.off e in
    append_need law c.args.s.0 of.xs of.ys of.left of.origin of.off e (place_waits (g.H.Heap.view c.value_place.new.h).seen of.xs.0 (k.xs_named.1, k.xs_named.2) c.in-None.ensures.place)
