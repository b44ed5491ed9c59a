-- The ends of lists that are joined.
use Rattle.std.proofs.Common.{◌≡◌, ℕ, refl, sym, ap, ◌∙◌, None, Some, List, [], ◌∷◌, ◌++◌}
use Rattle.std.specs.Prelude.{flat_map}
use Rattle.std.proofs.lemmas.List.{append_assoc}
use Rattle.lazy_rec.specs.Plain.{last_of}
use Rattle.finger_level.specs.declared.level.Side.{Side}
use Rattle.finger_level.specs.declared.level.Side.TheVariants as sides
use Rattle.finger_apps.specs.Sequence.{end_of, at_side}

last_joined : (xs : List ℕ) (x : ℕ) → last_of (xs ++ x ∷ []) ≡ Some x
last_joined [] x = refl
last_joined (y ∷ []) x = refl
last_joined (y ∷ z ∷ zs) x = last_joined (z ∷ zs) x

-- the last item of places, of which the last one has one item
last_items : (f : ℕ → List ℕ) (es : List ℕ) (e x : ℕ) (before : List ℕ) → last_of es ≡ Some e → f e ≡ x ∷ [] → last_of (before ++ flat_map f es) ≡ Some x
last_items f [] e x before h one = cc
last_items f (d ∷ []) e x before h one =
    let same : d ≡ e = at_some d e h in
    rw (same, one) (last_joined before x)
  where
    at_some : (d e : ℕ) → Some d ≡ Some e → d ≡ e
    at_some d e h = ap (elim [ None ↦ d | Some k ↦ k ]) h
last_items f (d ∷ c ∷ cs) e x before h one =
    ap last_of (sym (append_assoc before (f d) (flat_map f (c ∷ cs)))) ∙ last_items f (c ∷ cs) e x (before ++ f d) h one

-- the end of a tree's items is that of the digit on its side
pub end_items : (f : ℕ → List ℕ) (side : Side) (left right : List ℕ) (middle : List ℕ) (e x : ℕ) → end_of side (at_side side left right) ≡ Some e → f e ≡ x ∷ [] → end_of side (flat_map f left ++ middle ++ flat_map f right) ≡ Some x
end_items f sides.Left [] right middle e x h one = cc
end_items f sides.Left (d ∷ ds) right middle e x h one =
    let same : d ≡ e = ap (elim [ None ↦ d | Some k ↦ k ]) h in
    rw (same, one) refl
end_items f sides.Right left right middle e x h one = last_items f right e x (flat_map f left ++ middle) h one
