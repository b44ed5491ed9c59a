-- Lists of claims, free places and open names.
use Rattle.std.proofs.Common.{◌≡◌, ◌≢◌, ℕ, zero, suc, ◌+◌, ◌-◌, ◌<◌, ◌≤◌, Bool, true, false, List, [], ◌∷◌, ◌++◌, length, replicate, Option, Some, None, refl, sym, ap, ◌∙◌, arith, subst, ⊎_elim, cond, eqb}
use Rattle.std.specs.Prelude.{count_by, slice_set, slice_index_or}
use Rattle.std.specs.List.{list_all}
use Rattle.std.proofs.lemmas.Grind.{common_steps}
use Rattle.std.proofs.lemmas.Bool.{cases_eq, cases_lt, true≢false, or_left, or_right, eq-eqb}
use Rattle.std.proofs.lemmas.List.{get_or_append_left, get_or-append_right, get_or_past, get_or-replicate, set-append_left, length-append, length-replicate, length-set, replicate-append-replicate, append_assoc}
use Rattle.heap_store.specs.declared.nodes.Node.{Node}
use Rattle.heap_store.specs.declared.claims.HeldClaim.{HeldClaim}
use Rattle.heap_store.specs.Hand.{contains, all_distinct, places_from, without, claim_places, without_claim}
use Rattle.heap_store.specs.Rows.{row_of}
use Rattle.heap_store.specs.View.{is_there}
use Rattle.heap_store.specs.Plain.{filled_up, no_words, free_places, open_names, is_ended_row}

-- ---- claims

pub without_claim-absent : (s : ℕ) (cs : List HeldClaim) → contains (claim_places cs) s ≡ false → without_claim s cs ≡ cs
without_claim-absent s [] h = refl
without_claim-absent s (c ∷ cs) h = let ih = without_claim-absent s cs in grind (arith, common_steps, ih, h)

pub contains-without_other : (s : ℕ) (cs : List HeldClaim) (q : ℕ) → q ≢ s → contains (claim_places (without_claim s cs)) q ≡ contains (claim_places cs) q
contains-without_other s [] q ne = refl
contains-without_other s (c ∷ cs) q ne = let ih = contains-without_other s cs q ne in grind (arith, common_steps, ih, ne)

pub contains-without_same : (s : ℕ) (cs : List HeldClaim) → contains (claim_places (without_claim s cs)) s ≡ false
contains-without_same s [] = refl
contains-without_same s (c ∷ cs) = let ih = contains-without_same s cs in grind (arith, common_steps, ih)

contains-without_absent : (s : ℕ) (cs : List HeldClaim) (q : ℕ) → contains (claim_places cs) q ≡ false → contains (claim_places (without_claim s cs)) q ≡ false
contains-without_absent s [] q h = refl
contains-without_absent s (c ∷ cs) q h = let ih = contains-without_absent s cs q in grind (arith, common_steps, ih, h)

pub distinct-without_claim : (s : ℕ) (cs : List HeldClaim) → all_distinct (claim_places cs) ≡ true → all_distinct (claim_places (without_claim s cs)) ≡ true
distinct-without_claim s [] h = refl
distinct-without_claim s (c ∷ cs) h =
    let ih = distinct-without_claim s cs in
    let k = contains-without_absent s cs c.place.0 in
    grind (arith, common_steps, ih, h, k)

pub all-without_claim : (test : HeldClaim → Bool) (s : ℕ) (cs : List HeldClaim) → list_all test cs ≡ true → list_all test (without_claim s cs) ≡ true
all-without_claim test s [] h = refl
all-without_claim test s (c ∷ cs) h = let ih = all-without_claim test s cs in grind (arith, common_steps, ih, h)

-- ---- lists filled up to their room

pub filled-within : {X : Type 0} (m d : X) (n : ℕ) (xs : List X) (j : ℕ) → j < length xs → slice_index_or (filled_up m n xs) j d ≡ slice_index_or xs j d
filled-within m d n xs j l = get_or_append_left xs (replicate (n - length xs) m) d j l

pub get_or-replicate_cases : {X : Type 0} (m : X) (k j : ℕ) → slice_index_or (replicate k m) j m ≡ m
get_or-replicate_cases m k j = ⊎_elim
    (λ l. get_or-replicate k j m m l)
    (λ l. get_or_past (replicate k m) j m (rw length-replicate l)) (cases_lt j k)

pub filled-beyond : {X : Type 0} (m : X) (n : ℕ) (xs : List X) (j : ℕ) → length xs ≤ j → slice_index_or (filled_up m n xs) j m ≡ m
filled-beyond m n xs j l = get_or-append_right xs (replicate (n - length xs) m) (length xs) j m refl l ∙ get_or-replicate_cases m (n - length xs) (j - length xs)

pub filled-set : {X : Type 0} (m : X) (n : ℕ) (xs : List X) (j : ℕ) (v : X) → j < length xs → slice_set (filled_up m n xs) j v ≡ filled_up m n (slice_set xs j v)
filled-set m n xs j v l = rw length-set (set-append_left xs (replicate (n - length xs) m) j v l)

pub filled-more : {X : Type 0} (m : X) (n k : ℕ) (xs : List X) → length xs + k ≤ n → filled_up m n (xs ++ replicate k m) ≡ filled_up m n xs
filled-more m n k xs l =
    let e : length (xs ++ replicate k m) ≡ length xs + k = length-append xs (replicate k m) ∙ ap (λ z. length xs + z) (length-replicate k m) in
    let f : k + (n - (length xs + k)) ≡ n - length xs = omega arith in
    rw (e, append_assoc xs (replicate k m) (replicate (n - (length xs + k)) m), replicate-append-replicate k (n - (length xs + k)) m, f) refl

pub length-filled : {X : Type 0} (m : X) (n : ℕ) (xs : List X) → length xs ≤ n → length (filled_up m n xs) ≡ n
length-filled m n xs l = length-append xs (replicate (n - length xs) m) ∙ (rw (length-replicate (n - length xs) m) (omega arith))

count-append : {X : Type 0} (t : X → Bool) (xs ys : List X) → count_by t (xs ++ ys) ≡ count_by t xs + count_by t ys
count-append t [] ys = omega arith
count-append t (x ∷ xs) ys = let ih = count-append t xs ys in grind (arith, common_steps, ih)

count-replicate : {X : Type 0} (t : X → Bool) (m : X) (k : ℕ) → t m ≡ false → count_by t (replicate k m) ≡ 0
count-replicate t m zero h = refl
count-replicate t m (suc k) h = let ih = count-replicate t m k h in grind (arith, common_steps, ih, h)

-- what isn't counted adds nothing
pub count-filled : {X : Type 0} (t : X → Bool) (m : X) (n : ℕ) (xs : List X) → t m ≡ false → count_by t (filled_up m n xs) ≡ count_by t xs
count-filled t m n xs h = count-append t xs (replicate (n - length xs) m) ∙ (rw (count-replicate t m (n - length xs) h) (omega arith))

-- ---- free places

pub free-append : (p : ℕ) (xs ys : List (Option Node)) → free_places p (xs ++ ys) ≡ free_places p xs ++ free_places (p + length xs) ys
free-append p [] ys = let e : p + 0 ≡ p = omega arith in rw e refl
free-append p (None ∷ xs) ys = let e : p + suc (length xs) ≡ suc p + length xs = omega arith in rw e (ap (λ z. p ∷ z) (free-append (suc p) xs ys))
free-append p (Some n ∷ xs) ys = let e : p + suc (length xs) ≡ suc p + length xs = omega arith in rw e (free-append (suc p) xs ys)

pub free-replicate : (p k : ℕ) → free_places p (replicate k None) ≡ places_from p k
free-replicate p zero = refl
free-replicate p (suc k) = ap (λ z. p ∷ z) (free-replicate (suc p) k)

-- a free place, by its place in the list
pub record IsFree (p q : ℕ) (xs : List (Option Node)) : Type 0 where
  pub at : ℕ
  pub here : q ≡ p + at
  pub within : at < length xs
  pub none : slice_index_or xs at None ≡ None

more_free : (p q : ℕ) (x : Option Node) (xs : List (Option Node)) → IsFree (suc p) q xs → IsFree p q (x ∷ xs)
more_free p q x xs f = record { at = suc f.at; here = omega (arith, f.here); within = omega (arith, f.within); none = f.none }

contains-tail : (x q : ℕ) (xs : List ℕ) → x ≢ q → contains (x ∷ xs) q ≡ true → contains xs q ≡ true
contains-tail x q xs ne h = grind (arith, common_steps, ne, h)

contains-cons : (x q : ℕ) (xs : List ℕ) → contains xs q ≡ true → contains (x ∷ xs) q ≡ true
contains-cons x q xs h = or_right (eqb x q) (contains xs q) h

contains-head : (x q : ℕ) (xs : List ℕ) → x ≡ q → contains (x ∷ xs) q ≡ true
contains-head x q xs e = or_left (eqb x q) (contains xs q) (eq-eqb x q e)

pub free_to : (p q : ℕ) (xs : List (Option Node)) → contains (free_places p xs) q ≡ true → IsFree p q xs
free_to p q [] h = absurd (true≢false (sym h))
free_to p q (None ∷ xs) h = ⊎_elim
    (λ same. record { at = 0; here = omega arith; within = omega arith; none = refl })
    (λ ne. more_free p q None xs (free_to (suc p) q xs (contains-tail p q (free_places (suc p) xs) ne h))) (cases_eq p q)
free_to p q (Some n ∷ xs) h = more_free p q (Some n) xs (free_to (suc p) q xs h)

pub free_from : (p j : ℕ) (xs : List (Option Node)) → j < length xs → slice_index_or xs j None ≡ None → contains (free_places p xs) (p + j) ≡ true
free_from p j [] l h = absurd (omega arith)
free_from p zero (None ∷ xs) l h = contains-head p (p + 0) (free_places (suc p) xs) (omega arith)
free_from p zero (Some n ∷ xs) l h = cc
free_from p (suc j) (None ∷ xs) l h =
    let e : p + suc j ≡ suc p + j = omega arith in
    subst (λ z. contains (p ∷ free_places (suc p) xs) z ≡ true) (sym e) (contains-cons p (suc p + j) (free_places (suc p) xs) (free_from (suc p) j xs (omega arith) h))
free_from p (suc j) (Some n ∷ xs) l h =
    let e : p + suc j ≡ suc p + j = omega arith in
    subst (λ z. contains (free_places (suc p) xs) z ≡ true) (sym e) (free_from (suc p) j xs (omega arith) h)

free-low : (p q : ℕ) (xs : List (Option Node)) → q < p → contains (free_places p xs) q ≡ false
free-low p q xs l = by (contains (free_places p xs) q) refl
  where
    by : (b : Bool) → contains (free_places p xs) q ≡ b → contains (free_places p xs) q ≡ false
    by true e = (let f = free_to p q xs e in absurd (omega (arith, f.here)))
    by false e = e

pub distinct-free : (p : ℕ) (xs : List (Option Node)) → all_distinct (free_places p xs) ≡ true
distinct-free p [] = refl
distinct-free p (None ∷ xs) = let ih = distinct-free (suc p) xs in let k = free-low (suc p) p xs (omega arith) in grind (arith, common_steps, ih, k)
distinct-free p (Some n ∷ xs) = distinct-free (suc p) xs

pub length-free : (p : ℕ) (xs : List (Option Node)) → count_by is_there xs + length (free_places p xs) ≡ length xs
length-free p [] = refl
length-free p (None ∷ xs) = let ih = length-free (suc p) xs in grind (arith, common_steps, ih)
length-free p (Some n ∷ xs) = let ih = length-free (suc p) xs in grind (arith, common_steps, ih)

pub without-absent : (s : ℕ) (xs : List ℕ) → contains xs s ≡ false → without s (s + 1) xs ≡ xs
without-absent s [] h = refl
without-absent s (x ∷ xs) h = let ih = without-absent s xs in grind (arith, common_steps, ih, h)

without-keeps : (s x : ℕ) (xs : List ℕ) → x < s → without s (s + 1) (x ∷ xs) ≡ x ∷ without s (s + 1) xs
without-keeps s x xs l = grind (arith, common_steps)

without-drops : (s : ℕ) (xs : List ℕ) → without s (s + 1) (s ∷ xs) ≡ without s (s + 1) xs
without-drops s xs = grind (arith, common_steps)

pub free-filled : (p j : ℕ) (xs : List (Option Node)) (n : Node) → j < length xs → slice_index_or xs j None ≡ None → free_places p (slice_set xs j (Some n)) ≡ without (p + j) (p + j + 1) (free_places p xs)
free-filled p j [] n l h = absurd (omega arith)
free-filled p zero (None ∷ xs) n l h =
    let e : p + 0 ≡ p = omega arith in
    subst (λ z. free_places (suc p) xs ≡ without z (z + 1) (p ∷ free_places (suc p) xs)) (sym e) (sym (without-drops p (free_places (suc p) xs) ∙ without-absent p (free_places (suc p) xs) (free-low (suc p) p xs (omega arith))))
free-filled p zero (Some m ∷ xs) n l h = cc
free-filled p (suc j) (None ∷ xs) n l h =
    let e : p + suc j ≡ suc p + j = omega arith in
    subst (λ z. p ∷ free_places (suc p) (slice_set xs j (Some n)) ≡ without z (z + 1) (p ∷ free_places (suc p) xs)) (sym e)
    (ap (λ z. p ∷ z) (free-filled (suc p) j xs n (omega arith) h) ∙ sym (without-keeps (suc p + j) p (free_places (suc p) xs) (omega arith)))
free-filled p (suc j) (Some m ∷ xs) n l h =
    let e : p + suc j ≡ suc p + j = omega arith in
    subst (λ z. free_places (suc p) (slice_set xs j (Some n)) ≡ without z (z + 1) (free_places (suc p) xs)) (sym e) (free-filled (suc p) j xs n (omega arith) h)

pub free-same : (p j : ℕ) (xs : List (Option Node)) (m n : Node) → slice_index_or xs j None ≡ Some m → free_places p (slice_set xs j (Some n)) ≡ free_places p xs
free-same p j [] m n h = refl
free-same p zero (None ∷ xs) m n h = cc
free-same p zero (Some _ ∷ xs) m n h = refl
free-same p (suc j) (None ∷ xs) m n h = ap (λ z. p ∷ z) (free-same (suc p) j xs m n h)
free-same p (suc j) (Some _ ∷ xs) m n h = free-same (suc p) j xs m n h

-- ---- open names

-- an open name, by the place of its row in the list
pub record IsOpen (i q : ℕ) (rows : List (List ℕ)) : Type 0 where
  pub at : ℕ
  pub here : q ≡ i + at
  pub within : at < length rows
  pub open_yet : is_ended_row (row_of q (slice_index_or rows at [])) ≡ false

more_open : (i q : ℕ) (words : List ℕ) (rows : List (List ℕ)) → IsOpen (suc i) q rows → IsOpen i q (words ∷ rows)
more_open i q words rows f = record { at = suc f.at; here = omega (arith, f.here); within = omega (arith, f.within); open_yet = f.open_yet }

first_open : (i q : ℕ) (words : List ℕ) (rows : List (List ℕ)) → (contains (open_names (suc i) rows) q ≡ true → IsOpen (suc i) q rows) → (b : Bool) → is_ended_row (row_of i words) ≡ b → contains (cond b (open_names (suc i) rows) (i ∷ open_names (suc i) rows)) q ≡ true → IsOpen i q (words ∷ rows)
first_open i q words rows ih true e h = more_open i q words rows (ih h)
first_open i q words rows ih false e h = ⊎_elim
    (λ same. record { at = 0; here = omega arith; within = omega arith; open_yet = subst (λ z. is_ended_row (row_of z words) ≡ false) same e })
    (λ ne. more_open i q words rows (ih (contains-tail i q (open_names (suc i) rows) ne h))) (cases_eq i q)

pub open_to : (i q : ℕ) (rows : List (List ℕ)) → contains (open_names i rows) q ≡ true → IsOpen i q rows
open_to i q [] h = absurd (true≢false (sym h))
open_to i q (words ∷ rows) h = first_open i q words rows (open_to (suc i) q rows) (is_ended_row (row_of i words)) refl h

contains-more : (b : Bool) (x q : ℕ) (xs : List ℕ) → contains xs q ≡ true → contains (cond b xs (x ∷ xs)) q ≡ true
contains-more true x q xs h = h
contains-more false x q xs h = contains-cons x q xs h

contains-first : (b : Bool) (x q : ℕ) (xs : List ℕ) → b ≡ false → x ≡ q → contains (cond b xs (x ∷ xs)) q ≡ true
contains-first true x q xs h e = cc
contains-first false x q xs h e = contains-head x q xs e

pub open_from : (i j : ℕ) (rows : List (List ℕ)) → j < length rows → is_ended_row (row_of (i + j) (slice_index_or rows j [])) ≡ false → contains (open_names i rows) (i + j) ≡ true
open_from i j [] l h = absurd (omega arith)
open_from i zero (words ∷ rows) l h =
    let e : i + 0 ≡ i = omega arith in
    let h' : is_ended_row (row_of i words) ≡ false = subst (λ z. is_ended_row (row_of z words) ≡ false) e h in
    contains-first (is_ended_row (row_of i words)) i (i + 0) (open_names (suc i) rows) h' (omega arith)
open_from i (suc j) (words ∷ rows) l h =
    let e : i + suc j ≡ suc i + j = omega arith in
    let h' = subst (λ z. is_ended_row (row_of z (slice_index_or rows j [])) ≡ false) e h in
    subst (λ z. contains (open_names i (words ∷ rows)) z ≡ true) (sym e) (contains-more (is_ended_row (row_of i words)) i (suc i + j) (open_names (suc i) rows) (open_from (suc i) j rows (omega arith) h'))

open-low : (i q : ℕ) (rows : List (List ℕ)) → q < i → contains (open_names i rows) q ≡ false
open-low i q rows l = by (contains (open_names i rows) q) refl
  where
    by : (b : Bool) → contains (open_names i rows) q ≡ b → contains (open_names i rows) q ≡ false
    by true e = (let f = open_to i q rows e in absurd (omega (arith, f.here)))
    by false e = e

distinct-more : (b : Bool) (x : ℕ) (xs : List ℕ) → contains xs x ≡ false → all_distinct xs ≡ true → all_distinct (cond b xs (x ∷ xs)) ≡ true
distinct-more true x xs h d = d
distinct-more false x xs h d = grind (arith, common_steps, h, d)

pub distinct-open : (i : ℕ) (rows : List (List ℕ)) → all_distinct (open_names i rows) ≡ true
distinct-open i [] = refl
distinct-open i (words ∷ rows) = distinct-more (is_ended_row (row_of i words)) i (open_names (suc i) rows) (open-low (suc i) i rows (omega arith)) (distinct-open (suc i) rows)

cond-append : (b : Bool) (x : ℕ) (xs ys : List ℕ) → cond b (xs ++ ys) (x ∷ (xs ++ ys)) ≡ cond b xs (x ∷ xs) ++ ys
cond-append true x xs ys = refl
cond-append false x xs ys = refl

pub open-append : (i : ℕ) (rows : List (List ℕ)) → open_names i (rows ++ no_words ∷ []) ≡ open_names i rows ++ (i + length rows) ∷ []
open-append i [] = let e : i + 0 ≡ i = omega arith in rw e refl
open-append i (words ∷ rows) =
    let e : i + suc (length rows) ≡ suc i + length rows = omega arith in
    rw (e, open-append (suc i) rows) (cond-append (is_ended_row (row_of i words)) i (open_names (suc i) rows) ((suc i + length rows) ∷ []))

pub open-same : (i j : ℕ) (rows : List (List ℕ)) (words : List ℕ) → is_ended_row (row_of (i + j) words) ≡ is_ended_row (row_of (i + j) (slice_index_or rows j [])) → open_names i (slice_set rows j words) ≡ open_names i rows
open-same i j [] words h = refl
open-same i zero (before ∷ rows) words h =
    let e : i + 0 ≡ i = omega arith in
    let h' : is_ended_row (row_of i words) ≡ is_ended_row (row_of i before) = subst (λ z. is_ended_row (row_of z words) ≡ is_ended_row (row_of z before)) e h in
    rw h' refl
open-same i (suc j) (before ∷ rows) words h =
    let e : i + suc j ≡ suc i + j = omega arith in
    let h' = subst (λ z. is_ended_row (row_of z words) ≡ is_ended_row (row_of z (slice_index_or rows j []))) e h in
    rw (open-same (suc i) j rows words h') refl

cond-without : (b : Bool) (s x : ℕ) (xs ys : List ℕ) → x < s → ys ≡ without s (s + 1) xs → cond b ys (x ∷ ys) ≡ without s (s + 1) (cond b xs (x ∷ xs))
cond-without true s x xs ys l e = e
cond-without false s x xs ys l e = rw (without-keeps s x xs l) (ap (λ z. x ∷ z) e)

drop-first : (b : Bool) (x : ℕ) (xs : List ℕ) → contains xs x ≡ false → xs ≡ without x (x + 1) (cond b xs (x ∷ xs))
drop-first true x xs h = sym (without-absent x xs h)
drop-first false x xs h = sym (without-drops x xs ∙ without-absent x xs h)

pub open-ended : (i j : ℕ) (rows : List (List ℕ)) (words : List ℕ) → j < length rows → is_ended_row (row_of (i + j) words) ≡ true → open_names i (slice_set rows j words) ≡ without (i + j) (i + j + 1) (open_names i rows)
open-ended i j [] words l h = absurd (omega arith)
open-ended i zero (before ∷ rows) words l h =
    let e : i + 0 ≡ i = omega arith in
    let h' : is_ended_row (row_of i words) ≡ true = subst (λ z. is_ended_row (row_of z words) ≡ true) e h in
    let k : open_names i (words ∷ rows) ≡ open_names (suc i) rows = ap (λ b. cond b (open_names (suc i) rows) (i ∷ open_names (suc i) rows)) h' in
    subst (λ z. open_names i (words ∷ rows) ≡ without z (z + 1) (open_names i (before ∷ rows))) (sym e)
    (k ∙ drop-first (is_ended_row (row_of i before)) i (open_names (suc i) rows) (open-low (suc i) i rows (omega arith)))
open-ended i (suc j) (before ∷ rows) words l h =
    let e : i + suc j ≡ suc i + j = omega arith in
    let h' = subst (λ z. is_ended_row (row_of z words) ≡ true) e h in
    subst (λ z. open_names i (before ∷ slice_set rows j words) ≡ without z (z + 1) (open_names i (before ∷ rows))) (sym e)
    (cond-without (is_ended_row (row_of i before)) (suc i + j) i (open_names (suc i) rows) (open_names (suc i) (slice_set rows j words)) (omega arith) (open-ended (suc i) j rows words (omega arith) h'))
