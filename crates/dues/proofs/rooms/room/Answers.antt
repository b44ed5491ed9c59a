use Rattle.std.proofs.Common.{◌≡◌, ◌+◌, ◌∙◌, suc, ap, refl, rules, arith}
use Rattle.std.proofs.lemmas.Option.{slice_get-get_or}
use Rattle.dues.proofs.RoomLaws.{places_to, places_more, left_behind_all, left_behind_next, room_above}
use Rattle.dues.proofs.VersionLaws.{passed_none, base_kept, other_kept, places_kept, passed_more}
use Rattle.dues.proofs.rooms.room.Goals.{After-checked_sub}
use Rattle.dues.proofs.rooms.room.Goals as goal

-- the places of the event that stands next
more : (c : After-checked_sub) → places_to c.args.events.now c.loop-i.i + c.count_event-counted.result.places ≡ places_to c.args.events.now (suc c.loop-i.i)
more c =
    let events = c.args.events.now in
    let kinds = c.args.kinds.now in
    let i = c.loop-i.i in
    let kind = slice_get-get_or kinds i _ (omega (arith, c.requires.many, c.loop-i-test.true)) in
    let here = slice_get-get_or events i _ c.loop-i-test.true in
    let placed = places_kept events c.requires.script (places_to events) c.loop-i.kept.items c.as_slice-seen.result.now i _ _ c.loop-i.invariant.passed c.as_slice-seen.ensures.value here _ in
    places_more events kinds i _ c.count_event-counted.result.places _ _ refl kind here (c.requires.kinds i c.loop-i-test.true) (c.count_event-counted.ensures.places ∙ placed)

pub loop-i-init : goal.loop-i-init
loop-i-init c =
    record {
      passed = passed_none c.args.events.now (places_to c.args.events.now) c.in_ok-kept.kept.items (search rules) refl;
      counted = omega arith;
      room = search rules;
    }

pub bound_at-base-requires : goal.bound_at-base-requires
bound_at-base-requires c =
    base_kept c.args.events.now c.requires.script (places_to c.args.events.now) c.loop-i.kept.items c.as_slice-seen.result.now c.loop-i.i _ _
    c.loop-i.invariant.passed c.as_slice-seen.ensures.value (slice_get-get_or c.args.events.now c.loop-i.i _ c.loop-i-test.true)

pub count_event-counted-requires-clause-other : goal.count_event-counted-requires-clause-other
count_event-counted-requires-clause-other c =
    other_kept c.args.events.now c.requires.script (places_to c.args.events.now) c.loop-i.kept.items c.as_slice-seen.result.now c.loop-i.i _ _
    c.loop-i.invariant.passed c.as_slice-seen.ensures.value (slice_get-get_or c.args.events.now c.loop-i.i _ c.loop-i-test.true)

pub loop-i-preserved : goal.loop-i-preserved
loop-i-preserved c =
    let same : c.loop-i.i + 1 ≡ suc c.loop-i.i = omega arith in
    let here = slice_get-get_or c.args.events.now c.loop-i.i _ c.loop-i-test.true in
    record {
      passed = passed_more c.args.events.now c.requires.script (places_to c.args.events.now) c.loop-i.kept.items c.as_slice-seen.result.now c.loop-i.i _ _ c.loop-i.invariant.passed c.as_slice-seen.ensures.value here
          c.push_reserved.new.self.items c.count_event-counted.result.bounds _ c.count_event-counted.ensures.bounds c.push_reserved.ensures.items (ap (places_to c.args.events.now) same);
      counted = left_behind_next c.args.events.now c.loop-i.i c.loop-i.left c.args.most c.loop-i.invariant.counted c.count_event-counted.result.places (more (goal.at.loop-i-preserved c).After-checked_sub)
          c.in-Some.rest c.in-Some.ensures;
      room = rw c.push_reserved.ensures.capacity c.loop-i.invariant.room;
    }

pub returns-in_default : goal.returns-in_default
returns-in_default c =
    room_above c.args.events.now c.loop-i.i c.loop-i.left c.args.most c.loop-i.invariant.counted c.count_event-counted.result.places (more (goal.at.returns-in_default c).After-checked_sub)
    c.loop-i-test.true c.in_default.ensures

pub push_reserved-requires : goal.push_reserved-requires
push_reserved-requires c = omega (arith, c.loop-i.invariant.room, c.loop-i.invariant.passed.as_many, c.loop-i-test.true)

pub overflow_sub-result : goal.overflow_sub-result
overflow_sub-result c = omega (arith, c.loop-i.invariant.counted)

pub returns : goal.returns
returns c = left_behind_all c.args.events.now c.loop-i.i c.loop-i.left c.args.most c.loop-i.invariant.counted c.loop-i.auto.i-end c.loop-i-test.false
