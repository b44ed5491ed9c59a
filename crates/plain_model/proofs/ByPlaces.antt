-- The definitions on plain lists, by places.
use Rattle.std.proofs.Common.{◌≡◌, ℕ, suc, ◌+◌, ◌-◌, ◌<◌, eqb, ltb, leb, Bool, true, false, not, cond, ◌||◌, List, [], ◌∷◌, length, take, refl, ap, sym, ◌∙◌, arith, slice_get, unwrap_or, Some, None, ⊎_elim}
use Rattle.std.proofs.Math.Dec.{leb-suc-suc}
use Rattle.std.specs.List.{position_or_len, position, list_any, insert, remove}
use Rattle.std.proofs.lemmas.Bool.{leb-true, leb-false, le-ltb, lt-ltb, cases_Bool, ltb-false}
use Rattle.std.proofs.lemmas.Bool.Decides.{nat_tests}
use Rattle.std.proofs.lemmas.List.Sums.{prefix_len-le-length}
use Rattle.lazy_rec.specs.Plain.{without_last, last_of, without_first_equal, insert_rising, contains, has_item, without_item}
use Rattle.lazy_rec.specs.declared.events.Reply.TheVariants as replies

pub without_last-take : (v : List ℕ) → without_last v ≡ take (length v - 1) v
without_last-take [] = refl
without_last-take (x ∷ []) = refl
without_last-take (x ∷ y ∷ ys) =
    let e : suc (suc (length ys)) - 1 ≡ suc (suc (length ys) - 1) = omega arith in
    rw e (ap (λ (t : List ℕ). x ∷ t) (without_last-take (y ∷ ys)))

pub last_of-get : (v : List ℕ) → last_of v ≡ slice_get v (length v - 1)
last_of-get [] = refl
last_of-get (x ∷ []) = refl
last_of-get (x ∷ y ∷ ys) =
    let e : suc (suc (length ys)) - 1 ≡ suc (suc (length ys) - 1) = omega arith in
    rw e (last_of-get (y ∷ ys))

insert_rising-cons : (x y k : ℕ) (ys : List ℕ) → insert_rising x ys ≡ insert ys k x → cond (leb y x) (y ∷ insert_rising x ys) (x ∷ y ∷ ys) ≡ insert (y ∷ ys) (cond (not (ltb x y)) (1 + k) 0) x
insert_rising-cons x y k ys h =
    ⊎_elim
    (λ t. let f = le-ltb x y (leb-true y x t) in let g : 1 + k ≡ suc k = omega arith in rw (t, f, g) (ap (λ (l : List ℕ). y ∷ l) h))
    (λ t. let f = lt-ltb x y (leb-false y x t) in rw (t, f))
    (cases_Bool (leb y x))

-- an item goes before the first one above it
pub insert_rising-insert : (x : ℕ) (v : List ℕ) → insert_rising x v ≡ insert v (position_or_len (λ y. ltb x y) v) x
insert_rising-insert x [] = refl
insert_rising-insert x (y ∷ ys) = insert_rising-cons x y (position_or_len (λ z. ltb x z) ys) ys (insert_rising-insert x ys)

contains-cons : (b : Bool) (k n : ℕ) (rest : Bool) → rest ≡ ltb k n → b || rest ≡ ltb (cond (not b) (1 + k) 0) (suc n)
contains-cons true k n rest h = sym (lt-ltb 0 (suc n) (omega arith))
contains-cons false k n rest h = let g : 1 + k ≡ suc k = omega arith in rw g (h ∙ sym (leb-suc-suc (suc k) n))

pub contains-position : (x : ℕ) (v : List ℕ) → contains x v ≡ ltb (position_or_len (λ y. eqb x y) v) (length v)
contains-position x [] = refl
contains-position x (y ∷ ys) = contains-cons (eqb x y) (position_or_len (λ z. eqb x z) ys) (length ys) (contains x ys) (contains-position x ys)

without-cons : (b : Bool) (y k : ℕ) (ys rest : List ℕ) → rest ≡ remove ys k → cond b ys (y ∷ rest) ≡ remove (y ∷ ys) (cond (not b) (1 + k) 0)
without-cons true y k ys rest h = refl
without-cons false y k ys rest h = let g : 1 + k ≡ suc k = omega arith in rw g (ap (λ (l : List ℕ). y ∷ l) h)

pub without_first_equal-remove : (x : ℕ) (v : List ℕ) → without_first_equal x v ≡ remove v (position_or_len (λ y. eqb x y) v)
without_first_equal-remove x [] = refl
without_first_equal-remove x (y ∷ ys) = without-cons (eqb x y) y (position_or_len (λ z. eqb x z) ys) ys (without_first_equal x ys) (without_first_equal-remove x ys)

-- the last item is taken from a list that has one
pub without_item-last : (v : List ℕ) → 0 < length v → without_item (has_item v) v (without_last v) ≡ (take (length v - 1) v, replies.Ok)
without_item-last [] h = absurd (omega arith)
without_item-last (x ∷ xs) h = ap (λ (t : List ℕ). (t, replies.Ok)) (without_last-take (x ∷ xs))

-- the first place that passes, or the length
pub place-position : (p : ℕ → Bool) (v : List ℕ) → unwrap_or (position p v) (length v) ≡ position_or_len p v
place-position p v =
    ⊎_elim
    (λ t. rw t)
    (λ f. rw f (let a = ltb-false (position_or_len p v) (length v) f in let b = prefix_len-le-length (λ x. not (p x)) v in omega arith))
    (cases_Bool (ltb (position_or_len p v) (length v)))

-- what a place that was found is
pub found-position : (p : ℕ → Bool) (v : List ℕ) (i : ℕ) → Some i ≡ position p v → (ltb (position_or_len p v) (length v) ≡ true) × (i ≡ position_or_len p v)
found-position p v i h =
    ⊎_elim
    (λ t. (t, let e = rw t at h in cc))
    (λ f. let e = rw f at h in absurd (cc))
    (cases_Bool (ltb (position_or_len p v) (length v)))

pub not_found-position : (p : ℕ → Bool) (v : List ℕ) → None ≡ position p v → ltb (position_or_len p v) (length v) ≡ false
not_found-position p v h =
    ⊎_elim
    (λ t. let e = rw t at h in absurd (cc))
    (λ f. f)
    (cases_Bool (ltb (position_or_len p v) (length v)))

-- the item after all that are not above it, put in by std
pub inserted-at : (x : ℕ) (v : List ℕ) → insert v (unwrap_or (position (λ y. ltb x y) v) (length v)) x ≡ insert_rising x v
inserted-at x v = ap (λ (i : ℕ). insert v i x) (place-position (λ y. ltb x y) v) ∙ sym (insert_rising-insert x v)

-- an item that was found is taken out
pub without_item-found : (x i : ℕ) (v : List ℕ) → Some i ≡ position (λ y. eqb x y) v → without_item (contains x v) v (without_first_equal x v) ≡ (remove v i, replies.Ok)
without_item-found x i v h =
    let q = found-position (λ y. eqb x y) v i h in
    rw (contains-position x v ∙ q.0, q.1, without_first_equal-remove x v)

-- an item that wasn't found isn't there
pub without_item-not_found : (x : ℕ) (v : List ℕ) → None ≡ position (λ y. eqb x y) v → without_item (contains x v) v (without_first_equal x v) ≡ (v, replies.Empty)
without_item-not_found x v h = rw (contains-position x v ∙ not_found-position (λ y. eqb x y) v h)

eqb-comm : (x y : ℕ) → eqb x y ≡ eqb y x
eqb-comm x y = grind (arith, nat_tests)

-- std's test for an item
pub contains-list_any : (x : ℕ) (v : List ℕ) → list_any (λ y. eqb y x) v ≡ contains x v
contains-list_any x [] = refl
contains-list_any x (y ∷ ys) = rw (eqb-comm y x, contains-list_any x ys)
