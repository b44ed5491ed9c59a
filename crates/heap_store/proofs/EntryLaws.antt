-- Lists of entries.
use Rattle.std.proofs.Common.{◌≡◌, ℕ, suc, refl, sym, ap, ◌∙◌, Bool, true, List, [], ◌∷◌, ◌++◌, length, reverse}
use Rattle.std.specs.Prelude.{flat_map}
use Rattle.std.specs.List.{list_all}
use Rattle.std.proofs.lemmas.Bool.{true≢false, and_parts, and_from, eqb-true, eq-eqb}
use Rattle.std.proofs.lemmas.List.{reverse-append}
use Rattle.std.proofs.lemmas.List.Folds.{list_all-append}
use Rattle.std.proofs.lemmas.Grind.{flat_map-append}
use Rattle.lazy_rec.specs.Meaning.{Entry, an_item, a_child, items_of}
use Rattle.heap_store.specs.Values.{items_in}
use Rattle.heap_store.specs.Lawful.{is_item, same_entry, same_entries}

-- ---- entries that are items

abbrev pub are_items : List Entry → Bool
are_items es = list_all is_item es

pub are_items-append : (xs ys : List Entry) → are_items xs ≡ true → are_items ys ≡ true → are_items (xs ++ ys) ≡ true
are_items-append xs ys f g = list_all-append is_item xs ys ∙ and_from (are_items xs) (are_items ys) f g

pub are_items-reverse : (xs : List Entry) → are_items xs ≡ true → are_items (reverse xs) ≡ true
are_items-reverse [] f = refl
are_items-reverse (x ∷ xs) f =
    let k = and_parts (is_item x) (are_items xs) f in
    ap are_items (reverse-append (x ∷ []) xs) ∙ are_items-append (reverse xs) (x ∷ []) (are_items-reverse xs k.1) (and_from (is_item x) true k.0 refl)

item_means : (f : ℕ → List ℕ) (x : Entry) → is_item x ≡ true → items_of f x ≡ items_of (λ _. []) x
item_means f (an_item v) h = refl
item_means f (a_child p) h = absurd (true≢false (sym h))

-- they mean the same whatever lists mean
pub items_means : (f : ℕ → List ℕ) (xs : List Entry) → are_items xs ≡ true → flat_map (items_of f) xs ≡ items_in xs
items_means f [] h = refl
items_means f (x ∷ xs) h =
    let k = and_parts (is_item x) (are_items xs) h in
    rw (item_means f x k.0, items_means f xs k.1) refl

pub items_in-append : (xs ys : List Entry) → items_in (xs ++ ys) ≡ items_in xs ++ items_in ys
items_in-append xs ys = flat_map-append (items_of (λ _. [])) xs ys

-- as many items as entries
pub items_in-length : (xs : List Entry) → are_items xs ≡ true → length (items_in xs) ≡ length xs
items_in-length [] h = refl
items_in-length (an_item v ∷ xs) h = ap suc (items_in-length xs (and_parts true (are_items xs) h).1)
items_in-length (a_child p ∷ xs) h = absurd (true≢false (sym h))

-- ---- equal entries

entry_agrees : (x y : Entry) → same_entry x y ≡ true → x ≡ y
entry_agrees (an_item x) (an_item y) h = ap an_item (eqb-true x y h)
entry_agrees (a_child x) (a_child y) h = ap a_child (eqb-true x y h)
entry_agrees (an_item x) (a_child y) h = absurd (true≢false (sym h))
entry_agrees (a_child x) (an_item y) h = absurd (true≢false (sym h))

pub entries_agree : (xs ys : List Entry) → same_entries xs ys ≡ true → xs ≡ ys
entries_agree [] [] h = refl
entries_agree [] (y ∷ ys) h = absurd (true≢false (sym h))
entries_agree (x ∷ xs) [] h = absurd (true≢false (sym h))
entries_agree (x ∷ xs) (y ∷ ys) h = let k = and_parts (same_entry x y) (same_entries xs ys) h in rw (entry_agrees x y k.0, entries_agree xs ys k.1) refl

same_self : (x : Entry) → same_entry x x ≡ true
same_self (an_item v) = eq-eqb v v refl
same_self (a_child p) = eq-eqb p p refl

pub entries_same : (xs : List Entry) → same_entries xs xs ≡ true
entries_same [] = refl
entries_same (x ∷ xs) = and_from (same_entry x x) (same_entries xs xs) (same_self x) (entries_same xs)
