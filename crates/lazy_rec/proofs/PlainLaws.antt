-- How long the lists of effects are.
use Rattle.std.proofs.Common.{◌≡◌, ℕ, suc, ◌-◌, ◌≤◌, eqb, leb, Bool, true, false, cond, refl, ap, ◌∙◌, arith, List, [], ◌∷◌, length}
use Rattle.lazy_rec.specs.Plain.{insert_rising, rising, without_last, without_first_equal}

pub length-insert_rising : (x : ℕ) (v : List ℕ) → length (insert_rising x v) ≡ suc (length v)
length-insert_rising x [] = refl
length-insert_rising x (y ∷ ys) = by (leb y x) (length-insert_rising x ys)
  where
    by : (b : Bool) → length (insert_rising x ys) ≡ suc (length ys) → length (cond b (y ∷ insert_rising x ys) (x ∷ y ∷ ys)) ≡ suc (suc (length ys))
    by true e = ap suc e
    by false e = refl

pub length-rising : (v : List ℕ) → length (rising v) ≡ length v
length-rising [] = refl
length-rising (x ∷ xs) = length-insert_rising x (rising xs) ∙ ap suc (length-rising xs)

pub length-without_last : (v : List ℕ) → length (without_last v) ≡ length v - 1
length-without_last [] = refl
length-without_last (x ∷ []) = refl
length-without_last (x ∷ y ∷ ys) = omega (arith, length-without_last (y ∷ ys))

pub length-without_first_equal : (x : ℕ) (v : List ℕ) → length (without_first_equal x v) ≤ length v
length-without_first_equal x [] = omega arith
length-without_first_equal x (y ∷ ys) = by (eqb x y) (length-without_first_equal x ys)
  where
    by : (b : Bool) → length (without_first_equal x ys) ≤ length ys → length (cond b ys (y ∷ without_first_equal x ys)) ≤ suc (length ys)
    by true h = omega arith
    by false h = omega arith
