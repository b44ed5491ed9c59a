-- Lines, words and numbers, cut off one after another.
use Rattle.std.proofs.Common.{◌≡◌, ◌≢◌, ℕ, ◌+◌, ◌-◌, ◌*◌, ◌^◌, ◌≤◌, ◌<◌, Bool, true, false, eqb, leb, lit≤, lit<, List, [], ◌∷◌, length, get_or, take, refl, ◌⊎◌, inl, inr, ap, ◌∙◌, arith}
use Rattle.std.specs.List.{slice_split, position_or_len, before_first, after_first, list_all, filter}
use Rattle.std.specs.Char.{is_ascii_digit, digit_value}
use Rattle.std.specs.Str.Parse.{digits_value, AllDigits}
use Rattle.std.proofs.lemmas.List.Sums.{position_or_len_is, fails_before_first, passes_at_first}
use Rattle.std.proofs.lemmas.List.Elements.{All-from_get_or}
use Rattle.std.proofs.lemmas.List.Folds.{list_all_at}
use Rattle.std.proofs.lemmas.Int.Digits.{digits_value_more, digits_value-lt}
use Rattle.std.proofs.lemmas.Str.Parse.{digits_value-take-le}
use Rattle.std.proofs.Math.Nat.{pow-le-pow_right}
use Rattle.std.proofs.lemmas.List.Splits.{slice_split_first, slice_split_none, length-slice_split}
use Rattle.std.proofs.lemmas.Bool.Decides.{nat_tests}
use Rattle.std.proofs.lemmas.Bool.{cases_lt, cases_Bool, and_parts, leb-true, le-ltb, lt-ltb, both_ways}
use Rattle.std.proofs.lemmas.List.{take_all, drop_all, length-take}
use Rattle.script_text.specs.Lines.{lines_of, words_of, ended, is_filled}

pub not_equal : (x y : ℕ) → x ≢ y → eqb x y ≡ false
not_equal x y h = grind (arith, nat_tests)

-- the first place of a byte
pub first_place : (bs : List ℕ) (at i : ℕ) → i ≤ length bs → ((k : ℕ) → k < i → get_or bs k 0 ≢ at) → (i < length bs → get_or bs i 0 ≡ at) → position_or_len (λ b. eqb b at) bs ≡ i
first_place bs at i le none here =
    position_or_len_is (λ b. eqb b at) bs i 0 le (λ k h. not_equal _ _ (none k h)) (λ h. grind (arith, nat_tests, here h))

pub filled : (w : List ℕ) → 0 < length w → is_filled w ≡ true
filled [] h = absurd (omega arith)
filled (b ∷ bs) h = refl

-- a piece that isn't the last is a line
pub ended_more : (x : List ℕ) (xs : List (List ℕ)) → 0 < length xs → ended (x ∷ xs) ≡ x ∷ ended xs
ended_more x [] h = absurd (omega arith)
ended_more x (y ∷ ys) h = refl

-- the first piece, and the pieces of what follows it; or there is one piece
pub pieces : (p : ℕ → Bool) (bs : List ℕ) → (slice_split p bs ≡ before_first p bs ∷ slice_split p (after_first p bs)) ⊎ ((slice_split p bs ≡ bs ∷ []) × (before_first p bs ≡ bs) × (after_first p bs ≡ []))
pieces p bs =
    elim (cases_lt (position_or_len p bs) (length bs)) [
      | inl lt ↦ inl (slice_split_first p bs 0 lt)
      | inr ge ↦ inr (
        slice_split_none p bs (All-from_get_or (λ x. p x ≡ false) bs 0 (λ k lt. fails_before_first p bs k 0 (omega arith))),
        take_all _ bs ge,
        drop_all _ bs (omega arith),
      )
    ]

pub first_line : (bs : List ℕ) → 0 < length bs → lines_of bs ≡ before_first (λ b. eqb b 10) bs ∷ lines_of (after_first (λ b. eqb b 10) bs)
first_line bs some =
    elim (pieces (λ b. eqb b 10) bs) [
      | inl e ↦ ap ended e ∙ ended_more (before_first (λ b. eqb b 10) bs) (slice_split (λ b. eqb b 10) (after_first (λ b. eqb b 10) bs)) (omega (arith, length-slice_split (λ b. eqb b 10) (after_first (λ b. eqb b 10) bs)))
      | inr h ↦ ap ended h.0 ∙ (rw (h.1, h.2, filled bs some) refl)
    ]

-- where the first byte is no space
pub some_before : (bs : List ℕ) → 0 < length bs → get_or bs 0 0 ≢ 32 → 0 < length (before_first (λ b. eqb b 32) bs)
some_before bs some h =
    elim (cases_lt 0 (position_or_len (λ b. eqb b 32) bs)) [
      | inl lt ↦ omega (arith, length-take (position_or_len (λ b. eqb b 32) bs) bs)
      | inr ge ↦
          let zero : position_or_len (λ b. eqb b 32) bs ≡ 0 = omega arith in
          let first = passes_at_first (λ b. eqb b 32) bs 0 (omega arith) in
          absurd (both_ways _ (not_equal (get_or bs 0 0) 32 h) (rw zero at first))
    ]

pub kept : (w : List ℕ) (ws : List (List ℕ)) → 0 < length w → filter is_filled (w ∷ ws) ≡ w ∷ filter is_filled ws
kept [] ws h = absurd (omega arith)
kept (b ∷ bs) ws h = refl

pub first_word : (bs : List ℕ) → 0 < length bs → get_or bs 0 0 ≢ 32 → words_of bs ≡ before_first (λ b. eqb b 32) bs ∷ words_of (after_first (λ b. eqb b 32) bs)
first_word bs some h =
    elim (pieces (λ b. eqb b 32) bs) [
      | inl e ↦ ap (filter is_filled) e ∙ kept (before_first (λ b. eqb b 32) bs) (slice_split (λ b. eqb b 32) (after_first (λ b. eqb b 32) bs)) (some_before bs some h)
      | inr e ↦ ap (filter is_filled) e.0 ∙ (rw (e.1, e.2) (kept bs [] some))
    ]

-- digits
pub digit_read : (c : ℕ) → is_ascii_digit c ≡ true → (48 ≤ c) × (c ≤ 57) × (digit_value c ≡ c - 48)
digit_read c h =
    let parts = and_parts (leb 48 c) (leb c 57) h in
    let low = leb-true 48 c parts.0 in
    let high = leb-true c 57 parts.1 in (low, high, rw (le-ltb c 48 low, lt-ltb c 58 (omega arith)) refl)

pub all_digits : (ds : List ℕ) → list_all is_ascii_digit ds ≡ true → AllDigits 10 ds
all_digits [] h = tt
all_digits (c ∷ cs) h =
    let parts = and_parts (is_ascii_digit c) (list_all is_ascii_digit cs) h in
    let read = digit_read c parts.0 in (omega (arith, read), all_digits cs parts.1)

pub digit_at : (ds : List ℕ) (i : ℕ) → list_all is_ascii_digit ds ≡ true → i < length ds → is_ascii_digit (get_or ds i 0) ≡ true
digit_at ds i all lt =
    elim (cases_Bool (is_ascii_digit (get_or ds i 0))) [
      | inl it_is ↦ it_is
      | inr not_it ↦ absurd (both_ways _ (list_all_at is_ascii_digit ds i 0 lt not_it) all)
    ]

-- one more digit
pub record IsStep (ds : List ℕ) (i v : ℕ) : Type 0 where
  pub low : 48 ≤ get_or ds i 0
  pub high : get_or ds i 0 ≤ 57
  pub value : v * 10 + (get_or ds i 0 - 48) ≡ digits_value 10 (take (i + 1) ds)
  pub small : v * 10 + (get_or ds i 0 - 48) < 100000000000000000000

pub one_more : (ds : List ℕ) (i v : ℕ) → list_all is_ascii_digit ds ≡ true → length ds ≤ 20 → i < length ds → v ≡ digits_value 10 (take i ds) → IsStep ds i v
one_more ds i v all short lt is =
    let read = digit_read _ (digit_at ds i all lt) in
    let more = digits_value_more 10 ds i lt in
    let upto = digits_value-take-le 10 ds (i + 1) (lit≤ tt) in
    let below = digits_value-lt 10 ds (all_digits ds all) in
    let most : 10 ^ length ds ≤ 100000000000000000000 = pow-le-pow_right (lit< tt) short in
    record {
      low = read.0;
      high = read.1;
      value = omega (arith, more, read.2);
      small = omega (arith, more, read.2);
    }
