-- Heights of places.
use Rattle.std.proofs.Common.{◌≡◌, ℕ, ◌<◌, ◌≤◌, eqb, ltb, refl, ap, ◌∙◌, arith, max, Bool, true, false, cond, Some, List, [], ◌∷◌, map}
use Rattle.std.specs.Prelude.{fold}
use Rattle.std.specs.List.{AllByRecursion}
use Rattle.std.proofs.lemmas.Bool.{eqb-true, ltb-true}
use Rattle.lazy_rec.specs.declared.places.Ref.{Ref}
use Rattle.lazy_rec.specs.declared.records.Rec.{Rec}
use Rattle.lazy_rec.specs.declared.records.Rec.TheVariants.{Nil, Cons}
use Rattle.lazy_rec.specs.ByPlace.{below, by_place}
use Rattle.lazy_rec.specs.Named.{NamedPlace, named, at_record}
use Rattle.lazy_rec.specs.Units.{family_of}
use Rattle.heap_store.specs.World.{World, recs}
use Rattle.heap_store.specs.Lawful.{IsLawful, greatest, may_wait, has_origin, height_of, height}
use Rattle.lazy_rec.proofs.ByPlaceLaws.{below_low, from_lower}
use Rattle.heap_store.proofs.NameLaws.{IsPublished, IsNamedWell}
use Rattle.heap_store.proofs.Alls.{All-map}
use Rattle.heap_store.proofs.LawfulLaws.{lawful_names}

heights_same : (g h : ℕ → ℕ) (qs : List NamedPlace) → AllByRecursion (λ (q : NamedPlace). g q.0 ≡ h q.0) qs → map (λ (q : NamedPlace). g q.0) qs ≡ map (λ (q : NamedPlace). h q.0) qs
heights_same g h [] s = refl
heights_same g h (q ∷ qs) s = rw (s.0, heights_same g h qs s.1) refl

height_same : (p : ℕ) (r : Rec) (g h : ℕ → ℕ) → AllByRecursion (λ (q : NamedPlace). g q.0 ≡ h q.0) (named r) → height_of g p r ≡ height_of h p r
height_same p r g h s = ap (λ ns. cond (may_wait r) (family_of p r).0 (greatest ns)) (heights_same g h (named r) s)

-- the height of a place, from those of the places that its record names
pub height_is : {w : World} → IsLawful w → (p : ℕ) (r : Rec) → recs w p ≡ Some r → height (recs w) p ≡ height_of (height (recs w)) p r
unfolding height by_place
height_is {w} law p r e =
    ap (at_record 0 (height_of (below 0 (λ lower q. at_record 0 (height_of lower q) (recs w q)) p) p)) e
    ∙ height_same p r _ _ (All-map (IsNamedWell (recs w) p) _ (λ q n. below_low 0 (λ lower k. at_record 0 (height_of lower k) (recs w k)) p q.0 n.0) (named r) (lawful_names law p r e))

-- ---- the greatest height

fold_most : (a m : ℕ) (xs : List ℕ) → a ≤ m → AllByRecursion (λ x. x ≤ m) xs → fold max a xs ≤ m
fold_most a m [] h s = h
fold_most a m (x ∷ xs) h s = fold_most (max a x) m xs (omega (arith, s.0)) s.1

map_most : (g : ℕ → ℕ) (m : ℕ) (qs : List NamedPlace) → AllByRecursion (λ (q : NamedPlace). g q.0 ≤ m) qs → AllByRecursion (λ x. x ≤ m) (map (λ (q : NamedPlace). g q.0) qs)
map_most g m [] s = tt
map_most g m (q ∷ qs) s = (s.0, map_most g m qs s.1)

-- an origin is no higher than the places of its family
pub origin_most : (p : ℕ) (r : Rec) → has_origin p r ≡ true → (family_of p r).0 ≤ p
origin_most p r h = go (eqb (family_of p r).1 0) h
  where
    go : (b : Bool) → cond b (eqb (family_of p r).0 p) (ltb (family_of p r).0 p) ≡ true → (family_of p r).0 ≤ p
    go true k = omega (arith, eqb-true (family_of p r).0 p k)
    go false k = omega (arith, ltb-true (family_of p r).0 p k)

-- no place is higher than itself
pub height_most : {w : World} → IsLawful w → (p : ℕ) → IsPublished (recs w) p → height (recs w) p ≤ p
height_most {w} law = from_lower (λ p. IsPublished (recs w) p → height (recs w) p ≤ p) (λ p ih is. step p is.0 is.1 ih)
  where
    by : (p : ℕ) (r : Rec) → (family_of p r).0 ≤ p → AllByRecursion (λ (q : NamedPlace). height (recs w) q.0 ≤ p) (named r) → (b : Bool) → cond b (family_of p r).0 (greatest (map (λ (q : NamedPlace). height (recs w) q.0) (named r))) ≤ p
    by p r o s true = o
    by p r o s false = fold_most 0 p (map (λ (q : NamedPlace). height (recs w) q.0) (named r)) (omega arith) (map_most (height (recs w)) p (named r) s)

    step : (p : ℕ) (r : Rec) → recs w p ≡ Some r → ((q : ℕ) → q < p → IsPublished (recs w) q → height (recs w) q ≤ q) → height (recs w) p ≤ p
    step p r e ih = rw (height_is law p r e) (by p r (origin_most p r (law.origins p r e))
        (All-map (IsNamedWell (recs w) p) (λ (q : NamedPlace). height (recs w) q.0 ≤ p) (λ q n. let k = ih q.0 n.0 (n.1, n.2) in omega (arith, k, n.0)) (named r) (lawful_names law p r e)) (may_wait r))

-- ---- streams

pub nil_height : {w : World} → IsLawful w → (p : ℕ) → recs w p ≡ Some Nil → height (recs w) p ≡ 0
nil_height law p e = height_is law p Nil e

-- an item's cell is as high as the place after it
pub item_height : {w : World} → IsLawful w → (p v : ℕ) (rest : Ref) → recs w p ≡ Some (Cons false v rest) → height (recs w) p ≡ height (recs w) rest.0
item_height {w} law p v rest e = let k = height_is law p (Cons false v rest) e in k ∙ (omega arith)

-- the place after a cell is no higher
pub rest_height : {w : World} → IsLawful w → (p : ℕ) (c : Bool) (v : ℕ) (rest : Ref) → recs w p ≡ Some (Cons c v rest) → height (recs w) rest.0 ≤ height (recs w) p
rest_height {w} law p false v rest e = omega (arith, item_height law p v rest e)
rest_height {w} law p true v rest e = let k : height (recs w) p ≡ max (max 0 (height (recs w) rest.0)) (height (recs w) v) = height_is law p (Cons true v rest) e in omega (arith, k)
