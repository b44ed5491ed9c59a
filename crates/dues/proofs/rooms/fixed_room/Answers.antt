use Rattle.std.proofs.Common.{◌≡◌, suc, ◌+◌, ◌∙◌, length, ap, sym, arith}
use Rattle.std.proofs.lemmas.Option.{slice_get-get_or}
use Rattle.dues.proofs.RoomLaws.{places_to, places_to_fit, places_more}
use Rattle.dues.proofs.rooms.fixed_room.Goals as goal

pub overflow_add-total : goal.overflow_add-total
overflow_add-total c =
    let events = c.args.events.now in
    let kinds = c.args.kinds.now in
    let i = c.loop-i.i in
    let more = places_more events kinds i c.loop-i.total c.in-Some.places _ _ c.loop-i.invariant (slice_get-get_or kinds i _ (omega (arith, c.requires.many, c.loop-i-test.true))) (slice_get-get_or events i _ c.loop-i-test.true) (c.requires.kinds i c.loop-i-test.true) (sym (c.in-Some.ensures _ _)) in
    omega (arith, more, places_to_fit events (suc i) (omega (arith, c.requires.script.few, c.loop-i-test.true)))

pub loop-i-preserved : goal.loop-i-preserved
loop-i-preserved c =
    let events = c.args.events.now in
    let kinds = c.args.kinds.now in
    let i = c.loop-i.i in
    let same : suc i ≡ i + 1 = omega arith in
    places_more events kinds i c.loop-i.total c.in-Some.places _ _ c.loop-i.invariant (slice_get-get_or kinds i _ (omega (arith, c.requires.many, c.loop-i-test.true))) (slice_get-get_or events i _ c.loop-i-test.true) (c.requires.kinds i c.loop-i-test.true) (sym (c.in-Some.ensures _ _))
    ∙ ap (places_to events) same

pub returns : goal.returns
returns c = let all : c.loop-i.i ≡ length c.args.events.now = omega arith in c.loop-i.invariant ∙ ap (places_to c.args.events.now) all
