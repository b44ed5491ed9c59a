-- Lists in rising order.
use Rattle.std.proofs.Common.{◌≡◌, ℕ, suc, ◌+◌, ◌<◌, ◌≤◌, eqb, leb, Bool, true, false, cond, ◌&&◌, List, [], ◌∷◌, length, refl, ap, sym, ◌∙◌, arith, ⊎_elim, get_or}
use Rattle.std.specs.List.{list_all, sum_by}
use Rattle.std.specs.List.Sorted.{IsPermutation, IsNonDecreasing}
use Rattle.std.proofs.lemmas.Bool.{cases_Bool, leb-true, leb-false, le-leb, and_parts, and_from, eq-eqb, ne_eqb, cases_lt}
use Rattle.std.proofs.lemmas.List.Recursion.{is_sum_by, and_from_places}
use Rattle.std.proofs.lemmas.List.Sorted.{sum_by-IsPermutation}
use Rattle.lazy_rec.specs.Plain.{insert_rising, rising}

-- the list never falls
abbrev pub is_rising : List ℕ → Bool
is_rising [] = true
is_rising (x ∷ xs) = list_all (leb x) xs && is_rising xs

-- how often an item stands in a list
abbrev pub times : ℕ → List ℕ → ℕ
times x [] = 0
times x (y ∷ ys) = cond (eqb x y) 1 0 + times x ys

le-all : (x y : ℕ) (v : List ℕ) → x ≤ y → list_all (leb y) v ≡ true → list_all (leb x) v ≡ true
le-all x y [] h a = refl
le-all x y (z ∷ zs) h a =
    let p = and_parts (leb y z) (list_all (leb y) zs) a in
    and_from (leb x z) (list_all (leb x) zs) (le-leb x z (let q = leb-true y z p.0 in omega arith)) (le-all x y zs h p.1)

all-insert : (y x : ℕ) (v : List ℕ) → y ≤ x → list_all (leb y) v ≡ true → list_all (leb y) (insert_rising x v) ≡ true
all-insert y x [] h a = and_from (leb y x) true (le-leb y x h) refl
all-insert y x (z ∷ zs) h a =
    let p = and_parts (leb y z) (list_all (leb y) zs) a in
    ⊎_elim
    (λ t. rw t (and_from (leb y z) (list_all (leb y) (insert_rising x zs)) p.0 (all-insert y x zs h p.1)))
    (λ t. rw t (and_from (leb y x) (leb y z && list_all (leb y) zs) (le-leb y x h) a))
    (cases_Bool (leb z x))

pub is_rising-insert_rising : (x : ℕ) (v : List ℕ) → is_rising v ≡ true → is_rising (insert_rising x v) ≡ true
is_rising-insert_rising x [] h = refl
is_rising-insert_rising x (y ∷ ys) h =
    let p = and_parts (list_all (leb y) ys) (is_rising ys) h in
    ⊎_elim
    (λ t. rw t (and_from (list_all (leb y) (insert_rising x ys)) (is_rising (insert_rising x ys)) (all-insert y x ys (leb-true y x t) p.0) (is_rising-insert_rising x ys p.1)))
    (λ t. let q = leb-false y x t in
    let le : x ≤ y = omega arith in
    rw t (and_from (leb x y && list_all (leb x) ys) (is_rising (y ∷ ys)) (and_from (leb x y) (list_all (leb x) ys) (le-leb x y le) (le-all x y ys le p.0)) h))
    (cases_Bool (leb y x))

pub is_rising-rising : (v : List ℕ) → is_rising (rising v) ≡ true
is_rising-rising [] = refl
is_rising-rising (x ∷ xs) = is_rising-insert_rising x (rising xs) (is_rising-rising xs)

times-insert_rising : (z x : ℕ) (v : List ℕ) → times z (insert_rising x v) ≡ cond (eqb z x) 1 0 + times z v
times-insert_rising z x [] = refl
times-insert_rising z x (y ∷ ys) =
    let ih = times-insert_rising z x ys in
    ⊎_elim (λ t. rw t (omega arith)) (λ t. rw t) (cases_Bool (leb y x))

pub times-rising : (z : ℕ) (v : List ℕ) → times z (rising v) ≡ times z v
times-rising z [] = refl
times-rising z (x ∷ xs) = times-insert_rising z x (rising xs) ∙ ap (λ n. cond (eqb z x) 1 0 + n) (times-rising z xs)

times-above : (x y : ℕ) (v : List ℕ) → x < y → list_all (leb y) v ≡ true → times x v ≡ 0
times-above x y [] h a = refl
times-above x y (z ∷ zs) h a =
    let p = and_parts (leb y z) (list_all (leb y) zs) a in
    let q = leb-true y z p.0 in
    let other : eqb x z ≡ false = ne_eqb x z (λ e. omega arith) in
    rw other (omega (arith, times-above x y zs h p.1))

times-head : (x : ℕ) (v : List ℕ) → 0 < times x (x ∷ v)
times-head x v = rw (eq-eqb x x refl) (omega arith)

-- a head of two rising lists in which each item stands as often is not lower than the other
heads : (x y : ℕ) (xs ys : List ℕ) → list_all (leb y) ys ≡ true → times x (x ∷ xs) ≡ times x (y ∷ ys) → y ≤ x
heads x y xs ys a e =
    ⊎_elim
    (λ (h : x < y).
    let none = times-above x y (y ∷ ys) h (and_from (leb y y) (list_all (leb y) ys) (le-leb y y (omega arith)) a) in
    absurd (omega (arith, times-head x xs)))
    (λ (h : y ≤ x). h)
    (cases_lt x y)

-- two rising lists in which each item stands as often are one
pub same-from_times : (v w : List ℕ) → is_rising v ≡ true → is_rising w ≡ true → ((x : ℕ) → times x v ≡ times x w) → v ≡ w
same-from_times [] [] hv hw e = refl
same-from_times [] (y ∷ ys) hv hw e = absurd (omega (arith, times-head y ys, e y))
same-from_times (x ∷ xs) [] hv hw e = absurd (omega (arith, times-head x xs, e x))
same-from_times (x ∷ xs) (y ∷ ys) hv hw e =
    let p = and_parts (list_all (leb x) xs) (is_rising xs) hv in
    let q = and_parts (list_all (leb y) ys) (is_rising ys) hw in
    let le : y ≤ x = heads x y xs ys q.0 (e x) in
    let ge : x ≤ y = heads y x ys xs p.0 (sym (e y)) in
    let same : x ≡ y = omega arith in
    let rest : xs ≡ ys = same-from_times xs ys p.1 q.1 (λ z. omega (arith, e z, ap {B = ℕ} (λ n. cond (eqb z n) 1 0) same)) in
    cc

-- lists in which each item stands as often are put in one order
pub rising-same : (v w : List ℕ) → ((x : ℕ) → times x v ≡ times x w) → rising v ≡ rising w
rising-same v w e = same-from_times (rising v) (rising w) (is_rising-rising v) (is_rising-rising w) (λ x. times-rising x v ∙ (e x ∙ sym (times-rising x w)))

-- a list in rising order stays as it is
pub rising-rising : (v : List ℕ) → is_rising v ≡ true → rising v ≡ v
rising-rising v h = same-from_times (rising v) v (is_rising-rising v) h (λ x. times-rising x v)

times-sum_by : (x : ℕ) (v : List ℕ) → times x v ≡ sum_by (λ y. cond (eqb x y) 1 0) v
times-sum_by x v = is_sum_by (times x) (λ y. cond (eqb x y) 1 0) refl (λ _ _. refl) v

pub times-IsPermutation : (x : ℕ) (v w : List ℕ) → IsPermutation v w → times x v ≡ times x w
times-IsPermutation x v w h =
    times-sum_by x v ∙ (sym (sum_by-IsPermutation (λ y. cond (eqb x y) 1 0) v w h) ∙ sym (times-sum_by x w))

-- the one list that has the items of v in rising order
pub rising-unique : (v w : List ℕ) → IsPermutation v w → is_rising w ≡ true → w ≡ rising v
rising-unique v w h r = sym (rising-same v w (λ x. times-IsPermutation x v w h) ∙ rising-rising w r)

all-from_places : (x : ℕ) (v : List ℕ) → ((k : ℕ) → k < length v → x ≤ get_or v k 0) → list_all (leb x) v ≡ true
all-from_places x v h = and_from_places (list_all (leb x)) (leb x) refl (λ _ _. refl) v 0 (λ k l. le-leb x (get_or v k 0) (h k l))

-- std's word for a list that never falls, as a test
pub is_rising-IsNonDecreasing : (v : List ℕ) → IsNonDecreasing v → is_rising v ≡ true
is_rising-IsNonDecreasing [] h = refl
is_rising-IsNonDecreasing (x ∷ xs) h =
    and_from (list_all (leb x) xs) (is_rising xs)
    (all-from_places x xs (λ k l. h 0 (suc k) 0 (omega arith) (omega arith)))
    (is_rising-IsNonDecreasing xs (λ i j d l m. h (suc i) (suc j) d (omega arith) (omega arith)))
