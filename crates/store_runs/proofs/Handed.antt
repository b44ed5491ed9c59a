-- Lists that are handed over, one element after the other from the end.
use Rattle.std.proofs.Common.{◌≡◌, ℕ, zero, suc, ◌+◌, arith, ◌⊎◌, inl, inr, List, [], ◌∷◌, ◌++◌, length, map, refl, sym, ap, ◌∙◌, Some, None, ⊎_elim}
use Rattle.std.specs.Prelude.{slice_get, Option, MatchOption, reverse}
use Rattle.std.proofs.lemmas.List.{map-append, reverse-append, reverse-reverse}
use Rattle.word_store.proofs.Gathering.{taken}
use Rattle.store_runs.specs.Crews.{HasAll}

-- what is got of a list with one more at its end, after a function
pub got_push : {X Y : Type 0} (f : X → Y) (xs : List X) (x : X) (j : ℕ) (y : Y) → slice_get (map f (xs ++ x ∷ [])) j ≡ Some y → (slice_get (map f xs) j ≡ Some y) ⊎ ((f x ≡ y) × (j ≡ length xs))
got_push f [] x zero y e = inr ((let z : Some (f x) ≡ Some y = e in cc), refl)
got_push f [] x (suc j) y e = absurd (let z : None ≡ Some y = e in cc)
got_push f (w ∷ xs) x zero y e = inl e
got_push f (w ∷ xs) x (suc j) y e = ⊎_elim (λ old. inl old) (λ new. inr (new.0, ap (λ (k : ℕ). suc k) new.1)) (got_push f xs x j y e)

-- what was there stays, and the last one is there
pub got_still : {X Y : Type 0} (f : X → Y) (xs : List X) (x : X) (j : ℕ) (y : Y) → slice_get (map f xs) j ≡ Some y → slice_get (map f (xs ++ x ∷ [])) j ≡ Some y
got_still f [] x j y e = absurd (let z : None ≡ Some y = e in cc)
got_still f (w ∷ xs) x zero y e = e
got_still f (w ∷ xs) x (suc j) y e = got_still f xs x j y e

pub got_last : {X Y : Type 0} (f : X → Y) (xs : List X) (x : X) → slice_get (map f (xs ++ x ∷ [])) (length xs) ≡ Some (f x)
got_last f [] x = refl
got_last f (w ∷ xs) x = got_last f xs x

-- each of a list's is still in the first list, or in the second one already
abbrev pub IsInEither : {Z : Type 0} → List Z → List Z → List Z → Type 0
IsInEither {Z} all from to = (j : ℕ) (z : Z) → slice_get all j ≡ Some z → (slice_get from j ≡ Some z) ⊎ ((k : ℕ) × (slice_get to k ≡ Some z))

pub none_handed : {Z : Type 0} (all to : List Z) → IsInEither all all to
none_handed all to j z e = inl e

-- the last one of the first list is handed over
pub one_handed : {X Y Z : Type 0} (f : X → Z) (g : Y → Z) (all : List Z) (xs xs' : List X) (x : X) (ys ys' : List Y) (y : Y) → xs ≡ xs' ++ x ∷ [] → ys' ≡ ys ++ y ∷ [] → f x ≡ g y → IsInEither all (map f xs) (map g ys) → IsInEither all (map f xs') (map g ys')
one_handed f g all xs xs' x ys ys' y from to same each j z e = ⊎_elim
    (λ here. ⊎_elim (λ old. inl old) (λ new. inr (length ys, ap (λ l. slice_get (map g l) (length ys)) to ∙ (got_last g ys y ∙ ap (λ w. Some w) (sym same ∙ new.0))))
    (got_push f xs' x j z (ap (λ l. slice_get (map f l) j) (sym from) ∙ here)))
    (λ there. inr (there.0, ap (λ l. slice_get (map g l) there.0) to ∙ got_still g ys y there.0 z there.1))
    (each j z e)

-- once the first list is empty, all are in the second one
pub all_handed : {X Z : Type 0} (f : X → Z) (all : List Z) (xs : List X) (to : List Z) → length xs ≡ 0 → IsInEither all (map f xs) to → HasAll all to
all_handed f all [] to none each j z e = ⊎_elim (λ here. absurd (let n : None ≡ Some z = here in cc)) (λ there. there) (each j z e)
all_handed f all (x ∷ xs) to none each j z e = absurd (omega (arith, none))

-- both lists together, the second one backwards, are as the first one was
pub still_ordered : {X Y Z : Type 0} (f : X → Z) (g : Y → Z) (all : List Z) (xs xs' : List X) (x : X) (ys ys' : List Y) (y : Y) → xs ≡ xs' ++ x ∷ [] → ys' ≡ ys ++ y ∷ [] → f x ≡ g y → map f xs ++ reverse (map g ys) ≡ all → map f xs' ++ reverse (map g ys') ≡ all
still_ordered {Y = Y} f g all xs xs' x ys ys' y from to same e =
    ap (λ l. map f xs' ++ reverse (map g l)) to ∙ (ap (λ l. map f xs' ++ l) pushed ∙ (ap (λ z. map f xs' ++ z ∷ reverse (map g ys)) (sym same) ∙ taken f xs' x (reverse (map g ys)) all (ap (λ l. map f l ++ reverse (map g ys)) (sym from) ∙ e)))
  where
    pushed : reverse (map g (ys ++ y ∷ [])) ≡ g y ∷ reverse (map g ys)
    pushed = ap reverse (map-append g ys (y ∷ [])) ∙ reverse-append (map g ys) (g y ∷ [])

-- once the first list is empty, the second one is all, backwards
pub all_ordered : {X Z : Type 0} (f : X → Z) (all : List Z) (xs : List X) (zs : List Z) → length xs ≡ 0 → map f xs ++ reverse zs ≡ all → zs ≡ reverse all
all_ordered f all [] zs none e = sym (reverse-reverse zs) ∙ ap reverse e
all_ordered f all (x ∷ xs) zs none e = absurd (omega (arith, none))

-- what ends the loop: nothing was left to take
pub none_left : {X : Type 0} (o : Option X) (m n : ℕ) → ((x : X) → o ≡ Some x → ⊥) → MatchOption o ((n ≡ 0) × (m ≡ 0)) (λ _. m + 1 ≡ n) → n ≡ 0
none_left None m n other cases = cases.0
none_left (Some x) m n other cases = absurd (other x refl)

-- what is got after two functions comes from what is got after the first one
pub got_after : {X Y Z : Type 0} (f : X → Y) (h : Y → Z) (xs : List X) (k : ℕ) (z : Z) → slice_get (map (λ x. h (f x)) xs) k ≡ Some z → (y : Y) × (slice_get (map f xs) k ≡ Some y) × (h y ≡ z)
got_after f h [] k z e = absurd (let n : None ≡ Some z = e in cc)
got_after f h (x ∷ xs) zero z e = (f x, refl, (let n : Some (h (f x)) ≡ Some z = e in cc))
got_after f h (x ∷ xs) (suc k) z e = got_after f h xs k z e
