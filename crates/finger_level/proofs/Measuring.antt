-- What the three measures say of a list: its length, one more than its greatest item, and one more than its last.
use Rattle.std.proofs.Common.{◌≡◌, ℕ, suc, ◌+◌, eqb, max, refl, sym, ap, ◌∙◌, arith, rules, List, [], ◌∷◌, length, map}
use Rattle.std.specs.Prelude.{fold}
use Rattle.std.proofs.lemmas.Bool.{cond-false, ne_eqb}
use Rattle.lazy_rec.specs.declared.places.Item.{Item}
use Rattle.lazy_rec.specs.declared.events.Kind.TheVariants as kinds
use Rattle.measures.specs.Values.{value_of, last_key}
use Rattle.heap_store.specs.Lawful.{key_for}
use Rattle.finger_level.specs.Measured.{as_items, key_or_none}

abbrev after : Item → ℕ
after item = item.0 + 1

-- ---- sizes

counted : (n : ℕ) (xs : List ℕ) → fold (λ a b. a + b) n (map (λ (item : Item). 1) (as_items xs)) ≡ n + length xs
counted n [] = omega arith
counted n (x ∷ xs) = counted (n + 1) xs ∙ omega arith

pub sizes : (xs : List ℕ) → value_of (λ a b. a + b) 0 (λ item. 1) (as_items xs) ≡ length xs
sizes xs = counted 0 xs ∙ omega arith

-- ---- the greatest item

-- the key of some items
some_key : (n key : ℕ) → key + 1 ≡ key_or_none (suc n) key
some_key n key = sym (cond-false (eqb (suc n) 0) 0 (key + 1) (ne_eqb (suc n) 0 (λ z. omega (arith, z))))

greatest_after : (a : ℕ) (xs : List ℕ) → fold max (a + 1) (map after (as_items xs)) ≡ fold max a xs + 1
greatest_after a [] = refl
greatest_after a (x ∷ xs) = let m : max (a + 1) (x + 1) ≡ max a x + 1 = omega arith in ap (λ n. fold max n (map after (as_items xs))) m ∙ greatest_after (max a x) xs

pub greatest : (xs : List ℕ) → value_of max 0 (λ item. item.0 + 1) (as_items xs) ≡ key_or_none (length xs) (key_for kinds.Prio xs)
greatest [] = refl
greatest (x ∷ xs) = let m : max 0 (x + 1) ≡ max 0 x + 1 = omega arith in ap (λ n. fold max n (map after (as_items xs))) m ∙ (greatest_after (max 0 x) xs ∙ some_key (length xs) (key_for kinds.Prio (x ∷ xs)))

-- ---- the last item

last_after : (a x : ℕ) (xs : List ℕ) → fold last_key a (map after (as_items (x ∷ xs))) ≡ key_for kinds.Ord (x ∷ xs) + 1
last_after a x [] = search rules
last_after a x (y ∷ ys) = last_after (last_key a (x + 1)) y ys

pub last : (xs : List ℕ) → value_of last_key 0 (λ item. item.0 + 1) (as_items xs) ≡ key_or_none (length xs) (key_for kinds.Ord xs)
last [] = refl
last (x ∷ xs) = last_after 0 x xs ∙ some_key (length xs) (key_for kinds.Ord (x ∷ xs))
