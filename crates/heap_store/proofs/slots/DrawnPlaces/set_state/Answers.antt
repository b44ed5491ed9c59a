use Rattle.std.proofs.Common.{Some, ap, ◌∙◌, arith}
use Rattle.std.proofs.lemmas.List.{length-set}
use Rattle.std.specs.Prelude.{slice_set, is_some}
use Rattle.heap_store.specs.Slots.{PlacesView, at_place, published_in}
use Rattle.heap_store.proofs.SlotLaws.{there, node_there, state_set, published_same}
use Rattle.heap_store.proofs.slots.DrawnPlaces.set_state.Goals as goal

pub returns : goal.returns
returns c n here =
    let p = c.self.inside in
    let shown = ap (λ (v : PlacesView). v.shown) c.self.view_is in
    let at = ap (λ xs. at_place xs c.args.place.0) shown in
    let l = there p.slots.items p.drawn c.args.place.0 (ap is_some at ∙ c.requires.there) in
    ap (λ xs. record { shown = xs; room = p.room }) (state_set p.slots.items p.drawn c.args.place.0 c.index_mut.result.now c.kept.result c.args.state n l c.index_mut.ensures.value (at ∙ here) (c.kept.ensures n.rec (c.requires.steps n here)))
    ∙ ap (λ (v : PlacesView). record v { shown = slice_set v.shown c.args.place.0 (Some (record n { state = c.args.state })) }) c.self.view_is

pub invariant_of-self : goal.invariant_of-self
invariant_of-self c =
    let p = c.self.inside in
    let at = ap (λ (v : PlacesView). at_place v.shown c.args.place.0) c.self.view_is in
    let l = there p.slots.items p.drawn c.args.place.0 (ap is_some at ∙ c.requires.there) in
    let n = node_there (at_place c.args.self.now.shown c.args.place.0) c.requires.there in
    let put = state_set p.slots.items p.drawn c.args.place.0 c.index_mut.result.now c.kept.result c.args.state n.0 l c.index_mut.ensures.value (at ∙ n.1) (c.kept.ensures n.0.rec (c.requires.steps n.0 n.1)) in
    let same = published_same p.slots.items p.drawn c.args.place.0 n.0 (record n.0 { state = c.args.state }) c.self.invariant.0 (omega (arith, l, c.self.invariant.0)) (at ∙ n.1) in
    let long = length-set p.slots.items c.args.place.0 (record c.index_mut.result.now { state = c.kept.result }) in
    (omega (arith, long, c.self.invariant.0), c.self.invariant.1, c.self.invariant.2, omega (arith, long, ap published_in put, same, c.self.invariant.3))
