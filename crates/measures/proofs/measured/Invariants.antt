-- So far the value is that of the items passed; joined with the values of the rest it is that of all.
use Rattle.std.proofs.Common.{◌≡◌, ◌∷◌, map, drop}
use Rattle.std.specs.Prelude.{fold}
use Rattle.measures.proofs.measured.Given as goal

abbrev pub invariant-loop-item : goal.invariant-loop-item
invariant-loop-item g l =
    let values = map g.M.Measure.item_value in
    g.M.Measure.AreValues (l.value ∷ values (drop l.item-index l.items))
    × (fold g.M.Measure.joined g.M.Measure.unit_value (values l.items) ≡ fold g.M.Measure.joined l.value (values (drop l.item-index l.items)))
