use Rattle.std.proofs.Common.{◌++◌, None, replicate, ap, ◌∙◌}
use Rattle.heap_store.specs.Slots.{PlacesView}
use Rattle.heap_store.proofs.SlotLaws.{drawn_more}
use Rattle.heap_store.proofs.slots.DrawnPlaces.draw.Goals as goal

pub returns : goal.returns
returns c =
    let p = c.self.inside in
    ap (λ xs. record { shown = xs; room = p.room }) (drawn_more p.slots.items p.drawn c.args.count c.self.invariant.0)
    ∙ ap (λ (v : PlacesView). record v { shown = v.shown ++ replicate c.args.count None }) c.self.view_is
