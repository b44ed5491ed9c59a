-- The weight of some elements.
use Rattle.std.proofs.Common.{◌≡◌, ℕ, zero, suc, ◌+◌, ◌<◌, ◌≤◌, max, refl, sym, ap, ◌∙◌, arith, Bool, true, false, cond, Less, Equal, Greater, List, [], ◌∷◌, ◌++◌, length, map, take, get_or}
use Rattle.std.specs.Prelude.{flat_map}
use Rattle.std.specs.List.{AllByRecursion}
use Rattle.std.specs.Ordering.{nat_cmp, ord_max, is_lt}
use Rattle.std.specs.Prelude.{◌==◌}
use Rattle.std.proofs.lemmas.Bool.{ltb-true, ltb-false}
use Rattle.std.specs.Prelude.{ltb}
use Rattle.std.proofs.lemmas.List.{length-append}
use Rattle.lazy_rec.specs.declared.places.Ref.{Ref}
use Rattle.lazy_rec.specs.Meaning.{means}
use Rattle.heap_store.specs.World.{World, recs, holds}
use Rattle.heap_store.specs.Growth.{Grows}
use Rattle.heap_store.specs.View.{View, Quiet}
use Rattle.heap_store.specs.Lawful.{IsLawful}
use Rattle.heap_store.proofs.GrowthLaws.{at_true}
use Rattle.heap_store.proofs.LawfulLaws.{lawful_names}
use Rattle.heap_store.proofs.MeaningLaws.{means_kept}
use Rattle.std.proofs.lemmas.List.{append_assoc, append-nil}
use Rattle.finger_level.proofs.Keying.{element_keyed, keyed_up, keyed_item, key_both}
use Rattle.finger_level.specs.declared.few.Weight.{Weight}
use Rattle.finger_level.specs.Reads.{is_element, IsWeight}
use Rattle.finger_level.specs.Puts.{IsElement}
use Rattle.finger_level.specs.Keyed.{HasKeys, AreKeyed, key_in}

abbrev pub spot : Ref → ℕ
spot r = r.0

pub all_at : (P : ℕ → Type 0) (es : List Ref) (i : ℕ) (d : Ref) → i < length es → AllByRecursion P (map (λ (r : Ref). r.0) es) → P (get_or es i d).0
all_at P [] i d h k = absurd (omega (arith, h))
all_at P (e ∷ es) zero d h k = k.0
all_at P (e ∷ es) (suc i) d h k = all_at P es i d (omega (arith, h)) k.1

-- so many of the items
abbrev pub items_to : (ℕ → List ℕ) → ℕ → List Ref → ℕ
items_to f i es = length (flat_map f (map (λ (r : Ref). r.0) (take i es)))

pub items_more : (f : ℕ → List ℕ) (es : List Ref) (i : ℕ) (d : Ref) → i < length es → items_to f (i + 1) es ≡ items_to f i es + length (f (get_or es i d).0)
items_more f [] i d h = absurd (omega (arith, h))
items_more f (e ∷ es) zero d h = rw (length-append (f e.0) []) (omega arith)
items_more f (e ∷ es) (suc i) d h =
    let ih = items_more f es i d (omega (arith, h)) in
    let z : suc i + 1 ≡ suc (i + 1) = omega arith in
    rw z (rw (length-append (f e.0) (flat_map f (map (λ (r : Ref). r.0) (take (i + 1) es))), length-append (f e.0) (flat_map f (map (λ (r : Ref). r.0) (take i es)))) (omega (arith, ih)))

pub items_all : (f : ℕ → List ℕ) (es : List Ref) (i : ℕ) → i ≤ length es → items_to f i es ≤ length (flat_map f (map (λ (r : Ref). r.0) es))
items_all f [] i h = let z : i ≡ 0 = omega (arith, h) in rw z (omega arith)
items_all f (e ∷ es) zero h = omega arith
items_all f (e ∷ es) (suc i) h =
    let ih = items_all f es i (omega (arith, h)) in
    rw (length-append (f e.0) (flat_map f (map (λ (r : Ref). r.0) (take i es))), length-append (f e.0) (flat_map f (map (λ (r : Ref). r.0) es))) (omega (arith, ih))

pub items_end : (f : ℕ → List ℕ) (es : List Ref) (i : ℕ) → length es ≤ i → items_to f i es ≡ length (flat_map f (map (λ (r : Ref). r.0) es))
items_end f [] zero h = refl
items_end f [] (suc i) h = refl
items_end f (e ∷ es) zero h = absurd (omega (arith, h))
items_end f (e ∷ es) (suc i) h =
    let ih = items_end f es i (omega (arith, h)) in
    rw (length-append (f e.0) (flat_map f (map (λ (r : Ref). r.0) (take i es))), length-append (f e.0) (flat_map f (map (λ (r : Ref). r.0) es))) (omega (arith, ih))

-- how far the weighing has come
pub record Weighing (a b : View) (es : List Ref) (i size key : ℕ) : Type 0 where
  pub quiet : Quiet a b
  pub so_far : size ≡ items_to (means (recs a.seen)) i es
  pub greatest : AreKeyed true a.seen (map (λ (r : Ref). r.0) es) → key ≡ key_in true (flat_map (means (recs a.seen)) (map (λ (r : Ref). r.0) (take i es)))

-- an element, in a later world
pub element_later : {a b : World} → Grows a b → (e : ℕ) → holds (recs a) e is_element ≡ true → holds (recs b) e is_element ≡ true
element_later {a} {b} g e h = let t = at_true is_element (recs a e) h in rw (g.records e t.0 t.1) t.2

-- its weight, in an earlier world
pub weight_back : {a b : World} → IsLawful a → Grows a b → (e : ℕ) (w : Weight) → holds (recs a) e is_element ≡ true → IsWeight b e w → w.size ≡ length (means (recs a) e)
weight_back {a} {b} law g e w h k = let t = at_true is_element (recs a e) h in k.size ∙ ap length (sym (means_kept (recs a) (recs b) (lawful_names law) g.records e (t.0, t.1)))

pub sorts_of_elements : {w : World} → IsLawful w → (d limit : ℕ) (es : List ℕ) → AllByRecursion (IsElement w d limit) es → AllByRecursion (λ e. holds (recs w) e is_element ≡ true) es
sorts_of_elements law d limit [] k = tt
sorts_of_elements law d limit (e ∷ es) k = (k.0.sort, sorts_of_elements law d limit es k.1)

-- ---- keys

pub items_next : (f : ℕ → List ℕ) (es : List Ref) (i : ℕ) (d : Ref) → i < length es → flat_map f (map (λ (r : Ref). r.0) (take (i + 1) es)) ≡ flat_map f (map (λ (r : Ref). r.0) (take i es)) ++ f (get_or es i d).0
items_next f [] i d h = absurd (omega (arith, h))
items_next f (e ∷ es) zero d h = append-nil (f e.0)
items_next f (e ∷ es) (suc i) d h =
    let z : suc i + 1 ≡ suc (i + 1) = omega arith in
    rw (z, items_next f es i d (omega (arith, h))) (sym (append_assoc (f e.0) (flat_map f (map (λ (r : Ref). r.0) (take i es))) (f (get_or es i d).0)))

pub items_whole : (f : ℕ → List ℕ) (es : List Ref) (i : ℕ) → length es ≤ i → flat_map f (map (λ (r : Ref). r.0) (take i es)) ≡ flat_map f (map (λ (r : Ref). r.0) es)
items_whole f [] zero h = refl
items_whole f [] (suc i) h = refl
items_whole f (e ∷ es) zero h = absurd (omega (arith, h))
items_whole f (e ∷ es) (suc i) h = rw (items_whole f es i (omega (arith, h))) refl

-- the key of an element, as a later world tells it
pub key_back : {a b : World} → IsLawful a → IsLawful b → Grows a b → (e : ℕ) (w : Weight) → holds (recs b) e is_element ≡ true → IsWeight b e w → HasKeys true a e → w.key.0 ≡ key_in true (means (recs a) e)
key_back law law2 g e w sort k h = k.key ∙ (element_keyed law2 e sort (keyed_up law g true e h) ∙ ap (key_in true) (keyed_item law g true e h))

pub key_more : (f : ℕ → List ℕ) (es : List Ref) (i : ℕ) (d : Ref) (key more : ℕ) → i < length es → key ≡ key_in true (flat_map f (map (λ (r : Ref). r.0) (take i es))) → more ≡ key_in true (f (get_or es i d).0) → max key more ≡ key_in true (flat_map f (map (λ (r : Ref). r.0) (take (i + 1) es)))
key_more f es i d key more h k m = rw (k, m) (sym (key_both true (flat_map f (map (λ (r : Ref). r.0) (take i es))) (f (get_or es i d).0))) ∙ ap (key_in true) (sym (items_next f es i d h))

either_max : (a b : ℕ) (x : Bool) → a ≤ b → cond (is_lt (cond x Equal Greater)) a b ≡ max a b
either_max a b true z = omega (arith, z)
either_max a b false z = omega (arith, z)

pub key_max : (a b : ℕ) → ord_max nat_cmp a b ≡ max a b
key_max a b = by (ltb b a) refl
  where
    by : (x : Bool) → ltb b a ≡ x → ord_max nat_cmp a b ≡ max a b
    by true h = let z : b < a = ltb-true b a h in ap (λ x. cond (is_lt (cond x Less (cond (b == a) Equal Greater))) a b) h ∙ omega (arith, z)
    by false h = let z : a ≤ b = ltb-false b a h in ap (λ x. cond (is_lt (cond x Less (cond (b == a) Equal Greater))) a b) h ∙ either_max a b (b == a) z

-- the greatest item, where keys are asked for
pub key_whole : (f : ℕ → List ℕ) (w : World) (es : List Ref) (i key : ℕ) (keyed : Bool) → keyed ≡ true → length es ≤ i → (AreKeyed true w (map (λ (r : Ref). r.0) es) → key ≡ key_in true (flat_map f (map (λ (r : Ref). r.0) (take i es)))) → AreKeyed keyed w (map (λ (r : Ref). r.0) es) → key ≡ key_in keyed (flat_map f (map (λ (r : Ref). r.0) es))
key_whole f w es i key keyed same end k h =
    let m : AreKeyed true w (map (λ (r : Ref). r.0) es) = rw same at h in
    rw (same) (k m ∙ ap (key_in true) (items_whole f es i end))
