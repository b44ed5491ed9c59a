use Rattle.std.proofs.Common.{◌∙◌, suc, ap, refl, rules, arith}
use Rattle.std.proofs.lemmas.Option.{slice_get-get_or}
use Rattle.lazy_rec.specs.History.{event_of}
use Rattle.dues.specs.Rooms.{sum_to, both_bounds}
use Rattle.dues.proofs.RoomLaws.{bounds_to_fit}
use Rattle.dues.proofs.VersionLaws.{passed_none, base_kept, other_kept, bounds_added, passed_more}
use Rattle.dues.proofs.rooms.model_size.Goals as goal

pub loop-event-init : goal.loop-event-init
loop-event-init c =
    record {
      passed = passed_none c.args.events.now (sum_to (both_bounds (event_of c.args.events.now))) c.in_ok-kept.kept.items (search rules) refl;
      room = search rules;
    }

pub bound_at-base-requires : goal.bound_at-base-requires
bound_at-base-requires c =
    base_kept c.args.events.now c.requires (sum_to (both_bounds (event_of c.args.events.now))) c.loop-event.kept.items c.as_slice-seen.result.now c.loop-event.event-index c.loop-event.total _
    c.loop-event.invariant.passed c.as_slice-seen.ensures.value (slice_get-get_or c.args.events.now c.loop-event.event-index _ c.loop-event-test.true)

pub next_bounds-bounds-requires-clause-other : goal.next_bounds-bounds-requires-clause-other
next_bounds-bounds-requires-clause-other c =
    other_kept c.args.events.now c.requires (sum_to (both_bounds (event_of c.args.events.now))) c.loop-event.kept.items c.as_slice-seen.result.now c.loop-event.event-index c.loop-event.total _
    c.loop-event.invariant.passed c.as_slice-seen.ensures.value (slice_get-get_or c.args.events.now c.loop-event.event-index _ c.loop-event-test.true)

pub overflow_add-total-in-loop-event : goal.overflow_add-total-in-loop-event
overflow_add-total-in-loop-event c =
    let added = bounds_added c.args.events.now c.requires (sum_to (both_bounds (event_of c.args.events.now))) c.loop-event.kept.items c.as_slice-seen.result.now c.loop-event.event-index c.loop-event.total _
    c.loop-event.invariant.passed c.as_slice-seen.ensures.value (slice_get-get_or c.args.events.now c.loop-event.event-index _ c.loop-event-test.true)
    c.next_bounds-bounds.result.first c.next_bounds-bounds.result.second c.next_bounds-bounds.ensures refl in
    omega (arith, added, bounds_to_fit c.args.events.now (suc c.loop-event.event-index) (omega (arith, c.requires.few)))

pub loop-event-preserved : goal.loop-event-preserved
loop-event-preserved c =
    let added = bounds_added c.args.events.now c.requires (sum_to (both_bounds (event_of c.args.events.now))) c.loop-event.kept.items c.as_slice-seen.result.now c.loop-event.event-index c.loop-event.total _
    c.loop-event.invariant.passed c.as_slice-seen.ensures.value (slice_get-get_or c.args.events.now c.loop-event.event-index _ c.loop-event-test.true)
    c.next_bounds-bounds.result.first c.next_bounds-bounds.result.second c.next_bounds-bounds.ensures refl in
    record {
      passed = passed_more c.args.events.now c.requires (sum_to (both_bounds (event_of c.args.events.now))) c.loop-event.kept.items c.as_slice-seen.result.now c.loop-event.event-index c.loop-event.total _
          c.loop-event.invariant.passed c.as_slice-seen.ensures.value (slice_get-get_or c.args.events.now c.loop-event.event-index _ c.loop-event-test.true)
          c.push_reserved.new.self.items c.next_bounds-bounds.result _ c.next_bounds-bounds.ensures c.push_reserved.ensures.items added;
      room = rw c.push_reserved.ensures.capacity c.loop-event.invariant.room;
    }

pub push_reserved-requires : goal.push_reserved-requires
push_reserved-requires c = omega (arith, c.loop-event.invariant.room, c.loop-event.invariant.passed.as_many, c.loop-event-test.true)

pub returns : goal.returns
returns c = c.loop-event.invariant.passed.added ∙ ap (sum_to (both_bounds (event_of c.args.events.now))) (omega arith)
