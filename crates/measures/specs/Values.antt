-- The value of a row of items; the ranges of measured values, and why a range is kept where neighbours are joined.
use Rattle.std.specs.Prelude.{◌≡◌, ℕ, ◌+◌, ◌<◌, ◌^◌, max, Bool, true, ◌&&◌, List, ◌∷◌, ◌++◌, map, fold, sum, nat_le, nat_lt, if◌then◌else◌}
use Rattle.std.specs.List.{list_all}
use Rattle.std.proofs.Common.{arith, sym, ◌∙◌}
use Rattle.std.proofs.lemmas.Bool.{and_parts, and_from}
use Rattle.std.proofs.lemmas.Bool.Decides.{nat_tests}
use Rattle.std.proofs.lemmas.List.Folds.{list_all-append}
use Rattle.std.proofs.lemmas.List.Sums.{sum_by-append, sum_by-cons}
use Rattle.lazy_rec.specs.declared.places.Item.{Item}

-- the values of items, joined from left to right
abbrev pub value_of : (ℕ → ℕ → ℕ) → ℕ → (Item → ℕ) → List Item → ℕ
value_of joined unit_value item_value items = fold joined unit_value (map item_value items)

-- each is 0, or one more than an item
abbrev pub is_key : ℕ → Bool
is_key value = nat_le value (2 ^ 64)

abbrev pub are_keys : List ℕ → Bool
are_keys values = list_all is_key values

-- of two keys the second, where it is one of an item
abbrev pub last_key : ℕ → ℕ → ℕ
last_key a b = if nat_lt 0 b then b else a

-- what keeps the end in range keeps the whole in range
end_stays : (before old new : List ℕ) → (are_keys old ≡ true → are_keys new ≡ true) → are_keys (before ++ old) ≡ true → are_keys (before ++ new) ≡ true
end_stays before old new stays h =
    let parts = and_parts (are_keys before) (are_keys old) (sym (list_all-append is_key before old) ∙ h) in
    list_all-append is_key before new ∙ and_from (are_keys before) (are_keys new) parts.0 (stays parts.1)

-- a number that is in range where both others are takes their place
one_for_two : (a b c : ℕ) (after : List ℕ) → (is_key a ≡ true → is_key b ≡ true → is_key c ≡ true) → are_keys (a ∷ b ∷ after) ≡ true → are_keys (c ∷ after) ≡ true
one_for_two a b c after fits h =
    let first = and_parts (is_key a) (is_key b && are_keys after) h in
    let second = and_parts (is_key b) (are_keys after) first.1 in
    and_from (is_key c) (are_keys after) (fits first.0 second.0) second.1

max_fits : (a b : ℕ) → is_key a ≡ true → is_key b ≡ true → is_key (max a b) ≡ true
max_fits a b h k = grind (arith, nat_tests)

last_fits : (a b : ℕ) → is_key a ≡ true → is_key b ≡ true → is_key (last_key a b) ≡ true
last_fits a b h k = grind (arith, nat_tests)

pub keys_join_by_max : (before : List ℕ) (a b : ℕ) (after : List ℕ) → are_keys (before ++ a ∷ b ∷ after) ≡ true → are_keys (before ++ max a b ∷ after) ≡ true
keys_join_by_max before a b after h = end_stays before (a ∷ b ∷ after) (max a b ∷ after) (one_for_two a b (max a b) after (max_fits a b)) h

pub keys_join_by_last : (before : List ℕ) (a b : ℕ) (after : List ℕ) → are_keys (before ++ a ∷ b ∷ after) ≡ true → are_keys (before ++ last_key a b ∷ after) ≡ true
keys_join_by_last before a b after h = end_stays before (a ∷ b ∷ after) (last_key a b ∷ after) (one_for_two a b (last_key a b) after (last_fits a b)) h

pub keys_with_none : (before after : List ℕ) → are_keys (before ++ after) ≡ true → are_keys (before ++ 0 ∷ after) ≡ true
keys_with_none before after h = end_stays before after (0 ∷ after) (λ k. k) h

pub keys_of_part : (before part after : List ℕ) → are_keys (before ++ part ++ after) ≡ true → are_keys part ≡ true
keys_of_part before part after h =
    let front = and_parts (are_keys (before ++ part)) (are_keys after) (sym (list_all-append is_key (before ++ part) after) ∙ h) in
    (and_parts (are_keys before) (are_keys part) (sym (list_all-append is_key before part) ∙ front.0)).1

pub max_is_associative : (a b c : ℕ) → max (max a b) c ≡ max a (max b c)
max_is_associative a b c = omega arith

pub last_is_associative : (a b c : ℕ) → last_key (last_key a b) c ≡ last_key a (last_key b c)
last_is_associative a b c = grind (arith, nat_tests)

-- the numbers can be added up in 63 bits
abbrev pub AreCounts : List ℕ → Type 0
AreCounts values = sum values < 2 ^ 63

pub counts_join : (before : List ℕ) (a b : ℕ) (after : List ℕ) → AreCounts (before ++ a ∷ b ∷ after) → AreCounts (before ++ (a + b) ∷ after)
counts_join before a b after h =
    let old = sum_by-append (λ (x : ℕ). x) before (a ∷ b ∷ after) in
    let new = sum_by-append (λ (x : ℕ). x) before ((a + b) ∷ after) in
    let first = sum_by-cons (λ (x : ℕ). x) a (b ∷ after) in
    let second = sum_by-cons (λ (x : ℕ). x) b after in
    let both = sum_by-cons (λ (x : ℕ). x) (a + b) after in
    omega arith

pub counts_with_none : (before after : List ℕ) → AreCounts (before ++ after) → AreCounts (before ++ 0 ∷ after)
counts_with_none before after h =
    let old = sum_by-append (λ (x : ℕ). x) before after in
    let new = sum_by-append (λ (x : ℕ). x) before (0 ∷ after) in
    let none = sum_by-cons (λ (x : ℕ). x) 0 after in
    omega arith

pub counts_of_part : (before part after : List ℕ) → AreCounts (before ++ part ++ after) → AreCounts part
counts_of_part before part after h =
    omega (arith, sum_by-append (λ (x : ℕ). x) (before ++ part) after, sum_by-append (λ (x : ℕ). x) before part)
