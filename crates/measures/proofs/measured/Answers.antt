use Rattle.std.proofs.Common.{◌≡◌, ℕ, suc, ◌+◌, ◌<◌, List, [], ◌∷◌, map, drop, get_or, length, sym, ap, ◌∙◌, subst, add-one, drop-cons}
use Rattle.std.specs.Prelude.{fold}
use Rattle.measures.proofs.measured.Goals as goal

-- the values of the items from one on are its own and those after it
rest_values : {A : Type 0} (f : A → ℕ) (items : List A) (i : ℕ) (d : A) (v : ℕ) → i < length items → v ≡ f (get_or items i d) → map f (drop i items) ≡ v ∷ map f (drop (i + 1) items)
rest_values f items i d v inside e = rw (add-one, drop-cons items i d) (ap (λ w. w ∷ map f (drop (suc i) items)) (sym e))

pub join-value-requires : goal.join-value-requires
join-value-requires g c =
    let value = c.loop-item.value in
    let values : List ℕ = map g.M.Measure.item_value (drop (c.loop-item.item-index + 1) c.args.items.now) in
    let e = rest_values g.M.Measure.item_value c.args.items.now c.loop-item.item-index (record { 0 = 0 }) c.of.result c.loop-item-test.true c.of.ensures in
    g.met.M.Measure.part_is_value [] (value ∷ c.of.result ∷ []) values (subst (λ rest. g.M.Measure.AreValues (value ∷ rest)) e c.loop-item.invariant.0)

pub loop-item-init : goal.loop-item-init
loop-item-init g c =
    let values : List ℕ = map g.M.Measure.item_value c.args.items.now in (
      subst (λ unit. g.M.Measure.AreValues (unit ∷ values)) (sym c.unit-value.ensures) (g.met.M.Measure.unit_is_value [] values c.requires),
      ap (λ unit. fold g.M.Measure.joined unit values) (sym c.unit-value.ensures),
    )

pub loop-item-preserved : goal.loop-item-preserved
loop-item-preserved g c =
    let value = c.loop-item.value in
    let values : List ℕ = map g.M.Measure.item_value (drop (c.loop-item.item-index + 1) c.args.items.now) in
    let e = rest_values g.M.Measure.item_value c.args.items.now c.loop-item.item-index (record { 0 = 0 }) c.of.result c.loop-item-test.true c.of.ensures in
    let before = subst (λ rest. g.M.Measure.AreValues (value ∷ rest)) e c.loop-item.invariant.0 in (
      subst (λ v. g.M.Measure.AreValues (v ∷ values)) (sym c.join-value.ensures) (g.met.M.Measure.join_is_value [] value c.of.result values before),
      c.loop-item.invariant.1 ∙ ap (fold g.M.Measure.joined value) e ∙ ap (λ v. fold g.M.Measure.joined v values) (sym c.join-value.ensures),
    )
