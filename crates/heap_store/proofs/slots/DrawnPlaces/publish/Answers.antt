use Rattle.std.proofs.Common.{◌≡◌, ◌<◌, ◌≤◌, [], ◌∷◌, length, length-append, ap, ◌∙◌, arith}
use Rattle.std.specs.Prelude.{slice_set}
use Rattle.heap_store.specs.Budget.{node_count_of}
use Rattle.heap_store.specs.Plain.{fresh_node}
use Rattle.heap_store.specs.Slots.{PlacesView, shown_in, node_in}
use Rattle.heap_store.proofs.SlotLaws.{length-shown, slot_pushed, next_published}
use Rattle.heap_store.proofs.slots.DrawnPlaces.publish.Goals as goal

pub returns-then-place-len : goal.returns-then-place-len
returns-then-place-len c =
    let p = c.self.inside in
    let shown = ap (λ (v : PlacesView). length v.shown) c.self.view_is in
    let last : length p.slots.items ≡ c.args.place.0 = omega (arith, c.if-place-len.true, c.len.ensures, p.slots.ok.0) in
    let low : length p.slots.items < p.drawn = omega (arith, last, shown, length-shown p.slots.items p.drawn c.self.invariant.0, c.requires) in
    let put = ap (λ xs. shown_in xs p.drawn) c.push_reserved.ensures.items ∙ (slot_pushed p.slots.items p.drawn c.fresh.result low ∙ (ap (λ n. slice_set (shown_in p.slots.items p.drawn) n (node_in c.fresh.result)) last ∙ ap (λ o. slice_set (shown_in p.slots.items p.drawn) c.args.place.0 o) c.fresh.ensures)) in
    ap (λ xs. record { shown = xs; room = p.room }) put
    ∙ ap (λ (v : PlacesView). record v { shown = slice_set v.shown c.args.place.0 (fresh_node c.args.rec) }) c.self.view_is

pub invariant_of-self : goal.invariant_of-self
invariant_of-self c =
    let p = c.self.inside in
    let last : length p.slots.items ≡ c.args.place.0 = omega (arith, c.if-place-len.true, c.len.ensures, p.slots.ok.0) in
    let low : length p.slots.items < p.drawn = omega (arith, last, ap (λ (v : PlacesView). length v.shown) c.self.view_is, length-shown p.slots.items p.drawn c.self.invariant.0, c.requires) in
    let longer : length c.push_reserved.new.self.items ≤ p.drawn = omega (arith, low, ap length c.push_reserved.ensures.items, length-append p.slots.items (c.fresh.result ∷ [])) in
    (longer, c.self.invariant.1, omega (arith, c.push_reserved.ensures.capacity, c.self.invariant.2), rw c.push_reserved.ensures.items (next_published p.slots.items p.drawn p.gaps c.fresh.result low c.self.invariant.3 (ap node_count_of c.fresh.ensures)))
