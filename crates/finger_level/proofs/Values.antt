-- Values of finger trees, their heights and their levels.
use Rattle.std.proofs.Common.{◌≡◌, ℕ, zero, suc, ◌^◌, ◌<◌, ◌≤◌, refl, sym, ap, ◌∙◌, arith, max, Bool, true, false, Some, List, [], ◌∷◌, length, map, take}
use Rattle.std.specs.Prelude.{fold}
use Rattle.std.specs.List.{AllByRecursion, list_all}
use mathlib.Core.Path.{fun_ext}
use Rattle.std.proofs.lemmas.Bool.{true≢false, and_parts, eqb-true}
use Rattle.lazy_rec.specs.declared.records.Rec.{Rec}
use Rattle.lazy_rec.specs.declared.records.Rec.TheVariants.{TEmpty, Leaf, Node, Digit, Single, Deep, PushL, PushR, DeepL, DeepR, Concat}
use Rattle.lazy_rec.specs.declared.records.Sort.TheVariants as sorts
use Rattle.lazy_rec.specs.Named.{NamedPlace, named, sort_of, same_sort, is_pending}
use Rattle.lazy_rec.specs.Meaning.{means, means_of, joined}
use Rattle.lazy_rec.specs.Units.{family_of}
use Rattle.heap_store.specs.World.{World, recs}
use Rattle.heap_store.specs.Lawful.{IsLawful, greatest, may_wait, height, level_of, is_of_level, level_from, level, if_any, size_in}
use Rattle.lazy_rec.proofs.ByPlaceLaws.{from_lower}
use Rattle.heap_store.proofs.NameLaws.{IsNamedWell}
use Rattle.heap_store.proofs.LawfulLaws.{lawful_names}
use Rattle.heap_store.proofs.HeightLaws.{height_is, origin_most}
use Rattle.heap_store.proofs.MeaningLaws.{by_record_is, means_is}
use Rattle.std.proofs.lemmas.List.{length-append}
use Rattle.heap_store.proofs.RecordLaws.{level_at, level_look}
use Rattle.finger_level.specs.Reads.{is_tree_rec}
use Rattle.finger_level.proofs.Records.{node_counts, digit_counts, push_left_counts, push_right_counts}
use Rattle.std.specs.Prelude.{is_some}
use Rattle.std.proofs.Common.{pow-suc}

-- ---- levels

pub level_is : {w : World} → IsLawful w → (p : ℕ) (r : Rec) → recs w p ≡ Some r → (d : ℕ) → is_of_level (recs w) p d ≡ level_of (is_of_level (recs w)) r d
unfolding is_of_level
level_is {w} law p r e d = ap (λ (g : ℕ → Bool). g d) (by_record_is (λ _. false) level_of (λ r g h s. fun_ext (λ d. level_at d r g h s)) (recs w) (lawful_names law) p r e)

pub own_level_is : {w : World} → IsLawful w → (p : ℕ) (r : Rec) → recs w p ≡ Some r → level (recs w) p ≡ level_from (level (recs w)) r
unfolding level
own_level_is {w} law p r e = by_record_is 0 level_from level_look (recs w) (lawful_names law) p r e

-- an element or a digit, or a tree that isn't empty
abbrev pub is_levelled : Rec → Bool
is_levelled (Leaf _) = true
is_levelled r = is_some (size_in r)

pub element_levelled : (r : Rec) → sort_of r ≡ sorts.Element → is_levelled r ≡ true
element_levelled (Leaf _) h = refl
element_levelled (Node _ _ _ _ _ _) h = refl
element_levelled _ h = absurd (let z = ap (λ s. same_sort s sorts.Element) h in true≢false (sym z))

pub digit_levelled : (r : Rec) → sort_of r ≡ sorts.Digit → is_levelled r ≡ true
digit_levelled (Digit _ _ _ _ _ _ _) h = refl
digit_levelled _ h = absurd (let z = ap (λ s. same_sort s sorts.Digit) h in true≢false (sym z))

-- a pending record of a tree has elements below it
pub pending_levelled : (r : Rec) → is_pending r ≡ true → is_tree_rec r ≡ true → is_levelled r ≡ true
pending_levelled (PushL _ _ _ _ _ _ _ _) h k = refl
pending_levelled (PushR _ _ _ _ _ _ _ _) h k = refl
pending_levelled (DeepL _ _ _ _ _ _) h k = refl
pending_levelled (DeepR _ _ _ _ _ _) h k = refl
pending_levelled (Concat _ _ _ _ _ _ _) h k = refl
pending_levelled TEmpty h k = absurd (true≢false (sym h))
pending_levelled (Single _ _ _) h k = absurd (true≢false (sym h))
pending_levelled (Deep _ _ _ _ _) h k = absurd (true≢false (sym h))
pending_levelled _ h k = absurd (true≢false (sym k))

pub any_is : (n l : ℕ) → 0 < n → if_any n l ≡ l
any_is zero l h = absurd (omega arith)
any_is (suc n) l h = refl

first_all : (test : ℕ → Bool) (n e : ℕ) (es : List ℕ) → 0 < n → list_all test (take n (e ∷ es)) ≡ true → test e ≡ true
first_all test zero e es pos h = absurd (omega arith)
first_all test (suc n) e es pos h = (and_parts (test e) (list_all test (take n es)) h).0

pub first_of : {X : Type 0} (P : X → Type 0) (n : ℕ) (x : X) (xs : List X) → 0 < n → AllByRecursion P (take n (x ∷ xs)) → P x
first_of P zero x xs pos h = absurd (omega arith)
first_of P (suc n) x xs pos h = h.0

abbrev LevelsBelow : World → ℕ → Type 0
LevelsBelow w p = (q : ℕ) → q < p → (d : ℕ) (r : Rec) → recs w q ≡ Some r → is_levelled r ≡ true → is_of_level (recs w) q d ≡ true → level (recs w) q ≡ d

-- the level of a place is the one that it is of
pub level_unique : {w : World} → IsLawful w → (p d : ℕ) (r : Rec) → recs w p ≡ Some r → is_levelled r ≡ true → is_of_level (recs w) p d ≡ true → level (recs w) p ≡ d
level_unique {w} law = from_lower (λ p. (d : ℕ) (r : Rec) → recs w p ≡ Some r → is_levelled r ≡ true → is_of_level (recs w) p d ≡ true → level (recs w) p ≡ d)
    (λ p ih d r e is h. own_level_is law p r e ∙ by p r d e is (λ q. ih q) (sym (level_is law p r e d) ∙ h))
  where
    at_element : (p : ℕ) → LevelsBelow w p → (e d : ℕ) → IsNamedWell (recs w) p (e, sorts.Element) → is_of_level (recs w) e d ≡ true → level (recs w) e ≡ d
    at_element p ih e d n h = ih e n.0 d n.1 n.2 (element_levelled n.1 n.3) h

    at_digit : (p : ℕ) → LevelsBelow w p → (e d : ℕ) → IsNamedWell (recs w) p (e, sorts.Digit) → is_of_level (recs w) e d ≡ true → level (recs w) e ≡ d
    at_digit p ih e d n h = ih e n.0 d n.1 n.2 (digit_levelled n.1 n.3) h

    at_some : (p count : ℕ) → LevelsBelow w p → (e d : ℕ) (es : List ℕ) (ns : List NamedPlace) → 0 < count → AllByRecursion (IsNamedWell (recs w) p) (take count ((e, sorts.Element) ∷ ns)) → list_all (λ q. is_of_level (recs w) q d) (take count (e ∷ es)) ≡ true → if_any count (level (recs w) e) ≡ d
    at_some p count ih e d es ns pos n h = any_is count _ pos ∙ at_element p ih e d (first_of _ count (e, sorts.Element) ns pos n) (first_all _ count e es pos h)

    by : (p : ℕ) (r : Rec) (d : ℕ) → recs w p ≡ Some r → is_levelled r ≡ true → LevelsBelow w p → level_of (is_of_level (recs w)) r d ≡ true → level_from (level (recs w)) r ≡ d
    by p (Leaf x) d e is ih h = sym (eqb-true d 0 h)
    by p (Node count e1 e2 e3 z k) zero e is ih h = absurd (true≢false (sym h))
    by p (Node count e1 e2 e3 z k) (suc d) e is ih h = let c = node_counts count e1 e2 e3 z k (law.each p _ e).range in ap suc (at_some p count ih e1.0 d (e2.0 ∷ e3.0 ∷ []) _ (omega (arith, c.least)) (lawful_names law p _ e) h)
    by p (Digit count e1 e2 e3 e4 z k) d e is ih h = at_some p count ih e1.0 d (e2.0 ∷ e3.0 ∷ e4.0 ∷ []) _ (omega (arith, (digit_counts count e1 e2 e3 e4 z k (law.each p _ e).range).least)) (lawful_names law p _ e) h
    by p (Single elem z k) d e is ih h = at_element p ih elem.0 d (lawful_names law p _ e).0 h
    by p (Deep left middle right z k) d e is ih h = at_digit p ih left.0 d (lawful_names law p _ e).0 (and_parts _ _ (and_parts _ _ h).0).0
    by p (PushL count i tree e1 e2 o z k) d e is ih h = at_some p count ih e1.0 d (e2.0 ∷ []) _ (omega (arith, (push_left_counts tree count e1 e2 o i z k (law.each p _ e).range).least)) (lawful_names law p _ e).1 (and_parts _ _ h).1
    by p (PushR count i tree e1 e2 o z k) d e is ih h = at_some p count ih e1.0 d (e2.0 ∷ []) _ (omega (arith, (push_right_counts tree count e1 e2 o i z k (law.each p _ e).range).least)) (lawful_names law p _ e).1 (and_parts _ _ h).1
    by p (DeepL middle digit z o i k) d e is ih h = at_digit p ih digit.0 d (lawful_names law p _ e).1.0 (and_parts _ _ h).1
    by p (DeepR middle digit z o i k) d e is ih h = at_digit p ih digit.0 d (lawful_names law p _ e).1.0 (and_parts _ _ h).1
    by p (Concat i left right list o z k) d e is ih h = at_digit p ih list.0 d (lawful_names law p _ e).1.1.0 (and_parts _ _ h).1
    by p _ d e is ih h = absurd (true≢false (sym is))

-- ---- heights

fold_most : (a m : ℕ) (xs : List ℕ) → a ≤ m → AllByRecursion (λ x. x ≤ m) xs → fold max a xs ≤ m
fold_most a m [] h s = h
fold_most a m (x ∷ xs) h s = fold_most (max a x) m xs (omega (arith, h, s.0)) s.1

map_most : (g : ℕ → ℕ) (m : ℕ) (qs : List NamedPlace) → AllByRecursion (λ (q : NamedPlace). g q.0 ≤ m) qs → AllByRecursion (λ x. x ≤ m) (map (λ (q : NamedPlace). g q.0) qs)
map_most g m [] s = tt
map_most g m (q ∷ qs) s = (s.0, map_most g m qs s.1)

-- a value is no higher than what it names
pub value_height : {w : World} → IsLawful w → (p m : ℕ) (r : Rec) → recs w p ≡ Some r → may_wait r ≡ false → AllByRecursion (λ (q : NamedPlace). height (recs w) q.0 ≤ m) (named r) → height (recs w) p ≤ m
value_height {w} law p m r e wait h =
    let z = height_is law p r e in
    let y : height (recs w) p ≡ greatest (map (λ (q : NamedPlace). height (recs w) q.0) (named r)) = rw wait at z in
    rw y (fold_most 0 m _ (omega arith) (map_most (height (recs w)) m (named r) h))

fold_least : (a : ℕ) (xs : List ℕ) → (a ≤ fold max a xs) × AllByRecursion (λ x. x ≤ fold max a xs) xs
fold_least a [] = (omega arith, tt)
fold_least a (x ∷ xs) = let k = fold_least (max a x) xs in (omega (arith, k.0), (omega (arith, k.0), k.1))

all_back : (g : ℕ → ℕ) (m : ℕ) (qs : List NamedPlace) → AllByRecursion (λ x. x ≤ m) (map (λ (q : NamedPlace). g q.0) qs) → AllByRecursion (λ (q : NamedPlace). g q.0 ≤ m) qs
all_back g m [] h = tt
all_back g m (q ∷ qs) h = (h.0, all_back g m qs h.1)

-- and what it names is no higher than it
pub names_height : {w : World} → IsLawful w → (p : ℕ) (r : Rec) → recs w p ≡ Some r → may_wait r ≡ false → AllByRecursion (λ (q : NamedPlace). height (recs w) q.0 ≤ height (recs w) p) (named r)
names_height {w} law p r e wait =
    let z = height_is law p r e in
    let y : height (recs w) p ≡ greatest (map (λ (q : NamedPlace). height (recs w) q.0) (named r)) = rw wait at z in
    rw y (all_back (height (recs w)) _ (named r) (fold_least 0 (map (λ (q : NamedPlace). height (recs w) q.0) (named r))).1)

-- ---- sizes

abbrev SizesBelow : World → ℕ → Type 0
SizesBelow w p = (q : ℕ) → q < p → (d : ℕ) (r : Rec) → recs w q ≡ Some r → sort_of r ≡ sorts.Element → is_of_level (recs w) q d ≡ true → 2 ^ d ≤ length (means (recs w) q)

-- an element of level d holds at least 2 ^ d items
pub element_size : {w : World} → IsLawful w → (p d : ℕ) (r : Rec) → recs w p ≡ Some r → sort_of r ≡ sorts.Element → is_of_level (recs w) p d ≡ true → 2 ^ d ≤ length (means (recs w) p)
element_size {w} law = from_lower (λ p. (d : ℕ) (r : Rec) → recs w p ≡ Some r → sort_of r ≡ sorts.Element → is_of_level (recs w) p d ≡ true → 2 ^ d ≤ length (means (recs w) p))
    (λ p ih d r e is h. rw (means_is (recs w) (lawful_names law) p r e) (by p r d e is (λ q. ih q) (sym (level_is law p r e d) ∙ h)))
  where
    two : (p count d e1 e2 : ℕ) (es : List ℕ) (ns : List NamedPlace) → 2 ≤ count → AllByRecursion (IsNamedWell (recs w) p) (take count ((e1, sorts.Element) ∷ (e2, sorts.Element) ∷ ns)) → SizesBelow w p → list_all (λ q. is_of_level (recs w) q d) (take count (e1 ∷ e2 ∷ es)) ≡ true → 2 ^ suc d ≤ length (joined (means (recs w)) (take count (e1 ∷ e2 ∷ es)))
    two p zero d e1 e2 es ns low n ih h = absurd (omega (arith, low))
    two p (suc zero) d e1 e2 es ns low n ih h = absurd (omega (arith, low))
    two p (suc (suc count)) d e1 e2 es ns low n ih h =
        let a = and_parts _ _ h in
        let b = and_parts _ _ a.1 in
        let x = ih e1 n.0.0 d n.0.1 n.0.2 n.0.3 a.0 in
        let y = ih e2 n.1.0.0 d n.1.0.1 n.1.0.2 n.1.0.3 b.0 in
        rw (length-append, length-append, pow-suc) (omega (arith, x, y))

    by : (p : ℕ) (r : Rec) (d : ℕ) → recs w p ≡ Some r → sort_of r ≡ sorts.Element → SizesBelow w p → level_of (is_of_level (recs w)) r d ≡ true → 2 ^ d ≤ length (means_of (recs w) (means (recs w)) p r)
    by p (Leaf x) d e is ih h = rw (eqb-true d 0 h) (omega arith)
    by p (Node count e1 e2 e3 z k) zero e is ih h = absurd (true≢false (sym h))
    by p (Node count e1 e2 e3 z k) (suc d) e is ih h = two p count d e1.0 e2.0 (e3.0 ∷ []) _ (node_counts count e1 e2 e3 z k (law.each p _ e).range).least (lawful_names law p _ e) ih h
    by p r d e is ih h = absurd (let z = ap (λ s. same_sort s sorts.Element) is in true≢false (sym z))

-- an origin is no higher than its suspension
pub origin_low : {w : World} → IsLawful w → (p o i : ℕ) (r : Rec) → recs w p ≡ Some r → family_of p r ≡ (o, i) → o ≤ p
origin_low law p o i r e fam = let z : (family_of p r).0 ≡ o = ap (λ (f : ℕ × ℕ). f.0) fam in omega (arith, z, origin_most p r (law.origins p r e))
