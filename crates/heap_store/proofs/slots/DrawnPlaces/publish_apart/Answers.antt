use Rattle.std.proofs.Common.{◌≡◌, ◌<◌, length, ap, ◌∙◌, arith}
use Rattle.std.specs.Prelude.{slice_set}
use Rattle.heap_store.specs.Slots.{PlacesView, shown_in, node_in}
use Rattle.heap_store.proofs.SlotLaws.{length-shown, slot_put, put_within, gap_low, gap_closed}
use Rattle.heap_store.proofs.slots.DrawnPlaces.publish_apart.Goals as goal
use Rattle.heap_store.proofs.slots.DrawnPlaces.publish_apart.Goals.{After-fill_to}

drawn : (c : After-fill_to) → c.args.place.0 < c.self.inside.drawn
drawn c = let p = c.self.inside in omega (arith, ap (λ (v : PlacesView). length v.shown) c.self.view_is, length-shown p.slots.items p.drawn c.self.invariant.0, c.requires.drawn)

pub overflow_sub-self-2 : goal.overflow_sub-self-2
overflow_sub-self-2 c =
    let p = c.self.inside in
    let filled = c.fill_to.ensures.items in
    let read = c.index.ensures in
    let after : c.len.result ≡ length c.fill_to.new.slots.items = omega (arith, c.len.ensures, c.fill_to.new.slots.ok.0) in
    gap_low p.slots.items p.drawn c.args.place.0 p.gaps c.gap_in.result c.len-before.result c.len.result c.index.result.now c.self.invariant.0 (drawn (goal.at.overflow_sub-self-2 c).After-fill_to) c.self.invariant.3 (rw filled at read) c.gap_in.ensures (omega (arith, c.len-before.ensures, p.slots.ok.0)) (rw filled at after)

pub invariant_of-self : goal.invariant_of-self
invariant_of-self c =
    let p = c.self.inside in
    let filled = c.fill_to.ensures.items in
    let read = c.index.ensures in
    let after : c.len.result ≡ length c.fill_to.new.slots.items = omega (arith, c.len.ensures, c.fill_to.new.slots.ok.0) in
    let low = drawn (goal.at.invariant_of-self c).After-fill_to in
    let counts = gap_closed p.slots.items p.drawn c.args.place.0 p.gaps c.gap_in.result c.len-before.result c.len.result c.index.result.now c.self.invariant.0 low c.self.invariant.3 (rw filled at read) c.gap_in.ensures (omega (arith, c.len-before.ensures, p.slots.ok.0)) (rw filled at after) c.args.slot c.requires.shows in
    (rw filled (put_within p.slots.items p.drawn c.args.place.0 c.args.slot c.self.invariant.0 low), c.self.invariant.1, omega (arith, c.fill_to.ensures.room, c.self.invariant.2), rw filled counts)

pub returns : goal.returns
returns c =
    let p = c.self.inside in
    let at = c.args.place.0 in
    let slot = c.args.slot in
    let put = ap (λ xs. shown_in (slice_set xs at slot) p.drawn) c.fill_to.ensures.items ∙ slot_put p.slots.items p.drawn at slot c.self.invariant.0 (drawn (goal.at.returns c).After-fill_to) in
    ap (λ xs. record { shown = xs; room = p.room }) put
    ∙ ap (λ (v : PlacesView). record v { shown = slice_set v.shown at (node_in slot) }) c.self.view_is
