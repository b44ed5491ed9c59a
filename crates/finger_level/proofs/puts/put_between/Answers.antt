use Rattle.std.proofs.Common.{◌≡◌, ℕ, ◌+◌, arith, ap, ◌∙◌, Some}
use Rattle.heap_store.proofs.GrowthLaws.{grows_trans}
use Rattle.lazy_rec.specs.declared.places.Ref.{Ref}
use Rattle.finger_level.specs.declared.level.Family.TheVariants.{Later}
use Rattle.finger_level.specs.Puts.{concat_record}
use Rattle.finger_level.proofs.Weighing.{sorts_of_elements}
use Rattle.finger_level.proofs.Pushing.{LaterFits}
use Rattle.finger_level.proofs.NodeRows.{row_later}
use Rattle.finger_level.proofs.Found.{digit_grows}
use Rattle.finger_level.proofs.Betweens.{row_ask, list_ask, BothPut, both_put, BetweenFound, found_both, Joined, joined, joined_first, joined_later, joined_spends, between_later_spends, between_next, between_put, between_keyed}
use Rattle.finger_level.proofs.puts.put_between.Goals as goal
use Rattle.finger_level.proofs.puts.put_between.Goals.{After-put_digit-list, After-weigh_between-weight}

pub put_row-es-requires : goal.put_row-es-requires
put_row-es-requires g c = row_ask c.args.left c.args.row c.args.right c.args.family.now c.requires

pub put_digit-list-requires : goal.put_digit-list-requires
put_digit-list-requires g c = record { part = list_ask (g.met.H.Heap.lawful c.args.h.now).world (g.met.H.Heap.lawful c.put_row-es.new.h).world c.requires c.put_row-es.ensures.put; there = tt; under = tt }

both : (g : _) (c : After-put_digit-list g) → BothPut (g.H.Heap.view c.args.h.now) (g.H.Heap.view c.put_digit-list.new.h) c.args.run.now c.put_digit-list.new.run c.args.left c.put_digit-list.result c.args.right c.args.row c.put_row-es.result
both g c = both_put c.args.left c.put_digit-list.result c.args.right c.put_row-es.ensures.put c.put_digit-list.ensures.put

found : (g : _) (c : After-put_digit-list g) → BetweenFound (g.H.Heap.view c.args.h.now).seen (g.H.Heap.view c.put_digit-list.new.h).seen c.requires.depth c.put_digit-list.new.run.next c.args.left c.put_digit-list.result c.args.right c.args.row c.put_row-es.result
found g c = found_both (g.met.H.Heap.lawful c.args.h.now).world (g.met.H.Heap.lawful c.put_digit-list.new.h) c.requires (both g c)

pub weigh_between-weight-requires : goal.weigh_between-weight-requires
weigh_between-weight-requires g c =
    let f = found g (goal.at.weigh_between-weight-requires g c).After-put_digit-list in
    record { left = f.left.sort; right = f.right.sort; elements = sorts_of_elements (g.met.H.Heap.lawful c.put_digit-list.new.h).world _ _ _ f.nodes.each; small = omega (arith, f.both, c.requires.middle.small) }

done : (g : _) (c : After-weigh_between-weight g) → Joined (g.H.Heap.view c.args.h.now) (g.H.Heap.view c.weigh_between-weight.new.h) c.args.run.now c.put_digit-list.new.run.next c.args.left c.put_digit-list.result c.args.right c.args.row c.put_row-es.result c.weigh_between-weight.result.size
done g c = joined (g.met.H.Heap.lawful c.args.h.now).world (g.met.H.Heap.lawful c.put_digit-list.new.h) c.requires (both_put c.args.left c.put_digit-list.result c.args.right c.put_row-es.ensures.put c.put_digit-list.ensures.put) (g.met.H.Heap.lawful c.weigh_between-weight.new.h) c.weigh_between-weight.ensures.quiet _ c.weigh_between-weight.ensures.size

pub put-requires-clause-left : goal.put-requires-clause-left
put-requires-clause-left g c = let l = c.put_digit-list.ensures.put.laid in let m = c.put_row-es.ensures.put.laid in omega (arith, l.next, l.end, m.next, m.end, c.requires.room)

pub put-requires-clause-held : goal.put-requires-clause-held
put-requires-clause-held g c = rw c.weigh_between-weight.ensures.quiet.hand c.put_digit-list.ensures.put.laid.held

pub put-requires-clause-fits : goal.put-requires-clause-fits
put-requires-clause-fits g c = rw c.concat.ensures (joined_first (done g (goal.at.put-requires-clause-fits g c).After-weigh_between-weight) c.args.family.now c.requires c.in-First.is c.next-origin.result c.next-origin.ensures c.weigh_between-weight.result.key (omega arith))

later : (g : _) (c : After-weigh_between-weight g) (s o : Ref) (off : ℕ) (e : c.args.family.now ≡ Later s o off) → LaterFits (g.H.Heap.view c.weigh_between-weight.new.h) c.put_digit-list.new.run.next (concat_record c.args.left c.put_digit-list.result c.args.right o (off + 1) c.weigh_between-weight.result) off
later g c s o off e = joined_later (done g c) c.args.family.now c.requires s o off e c.weigh_between-weight.result.key (omega arith)

pub overflow_add-off : goal.overflow_add-off
overflow_add-off g c = let k = later g (goal.at.overflow_add-off g c).After-weigh_between-weight c.in-Later.of c.in-Later.origin c.in-Later.off c.in-Later.is in omega (arith, k.few)

pub put-requires-in-Later-clause-fits : goal.put-requires-in-Later-clause-fits
put-requires-in-Later-clause-fits g c = rw c.concat-in-Later.ensures (later g (goal.at.put-requires-in-Later-clause-fits g c).After-weigh_between-weight c.in-Later.of c.in-Later.origin c.in-Later.off c.in-Later.is).fits

pub returns-in-First-clause-put : goal.returns-in-First-clause-put
returns-in-First-clause-put g c =
    let p = c.put.ensures in
    let d = done g (goal.at.returns-in-First-clause-put g c).After-weigh_between-weight in
    let b = both_put c.args.left c.put_digit-list.result c.args.right c.put_row-es.ensures.put c.put_digit-list.ensures.put in
    between_put d c.requires b c.weigh_between-weight.ensures.quiet p.put p.run (g.met.H.Heap.lawful c.put.new.self).world c.next-origin.result 0 _ c.concat.ensures (joined_spends d c.args.family.now c.requires c.in-First.is c.next-origin.result c.next-origin.ensures _ _ c.concat.ensures) (rw c.in-First.is tt) c.put.result.0 p.place

pub returns-in-Later-clause-put : goal.returns-in-Later-clause-put
returns-in-Later-clause-put g c =
    let p = c.put-in-Later.ensures in
    let d = done g (goal.at.returns-in-Later-clause-put g c).After-weigh_between-weight in
    let b = both_put c.args.left c.put_digit-list.result c.args.right c.put_row-es.ensures.put c.put_digit-list.ensures.put in
    let law2 = (g.met.H.Heap.lawful c.put-in-Later.new.self).world in
    between_put d c.requires b c.weigh_between-weight.ensures.quiet p.put p.run law2 c.in-Later.origin (c.in-Later.off + 1) _ c.concat-in-Later.ensures
    (between_later_spends (g.H.Heap.view c.weigh_between-weight.new.h).seen c.put_digit-list.new.run.next c.args.family.now _ c.args.left c.put_digit-list.result c.args.right c.in-Later.origin c.in-Later.off c.weigh_between-weight.result _ c.concat-in-Later.ensures)
    (between_next law2 c.args.left c.put_digit-list.result c.args.right c.args.row c.put_row-es.result (row_later p.put.grows c.args.row c.put_row-es.result d.row_at) (digit_grows p.put.grows c.put_digit-list.result.0 c.put_row-es.result d.shown) c.in-Later.of c.in-Later.origin c.in-Later.off c.args.family.now c.in-Later.is c.put_digit-list.new.run.next c.weigh_between-weight.result (p.put.here ∙ ap Some c.concat-in-Later.ensures)) c.put-in-Later.result.0 p.place

pub returns-in-First-clause-keys : goal.returns-in-First-clause-keys
returns-in-First-clause-keys g c =
    let p = c.put.ensures in
    let row = c.put_row-es.ensures in
    let list = c.put_digit-list.ensures in
    λ hl hr ht. rw p.place (between_keyed (g.met.H.Heap.lawful c.args.h.now).world (g.met.H.Heap.lawful c.put_row-es.new.h).world (g.met.H.Heap.lawful c.put_digit-list.new.h).world (g.met.H.Heap.lawful c.put.new.self).world row.put.laid.filled.grows list.put.laid.filled.grows (grows_trans c.weigh_between-weight.ensures.quiet.grows p.put.grows) c.args.keyed c.args.left c.put_digit-list.result c.args.right c.next-origin.result c.args.row c.put_row-es.result 0 c.weigh_between-weight.result c.put_digit-list.new.run.next list.put.shown (p.put.here ∙ ap Some c.concat.ensures) row.keys list.keys c.weigh_between-weight.ensures.key hl hr ht)

pub returns-in-Later-clause-keys : goal.returns-in-Later-clause-keys
returns-in-Later-clause-keys g c =
    let p = c.put-in-Later.ensures in
    let row = c.put_row-es.ensures in
    let list = c.put_digit-list.ensures in
    λ hl hr ht. rw p.place (between_keyed (g.met.H.Heap.lawful c.args.h.now).world (g.met.H.Heap.lawful c.put_row-es.new.h).world (g.met.H.Heap.lawful c.put_digit-list.new.h).world (g.met.H.Heap.lawful c.put-in-Later.new.self).world row.put.laid.filled.grows list.put.laid.filled.grows (grows_trans c.weigh_between-weight.ensures.quiet.grows p.put.grows) c.args.keyed c.args.left c.put_digit-list.result c.args.right c.in-Later.origin c.args.row c.put_row-es.result (c.in-Later.off + 1) c.weigh_between-weight.result c.put_digit-list.new.run.next list.put.shown (p.put.here ∙ ap Some c.concat-in-Later.ensures) row.keys list.keys c.weigh_between-weight.ensures.key hl hr ht)
