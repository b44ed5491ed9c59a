-- How many places are published, where each place below a number is published or in a hand, and none is both.
use Rattle.std.proofs.Common.{◌≡◌, ◌≢◌, ℕ, zero, suc, ◌+◌, ◌<◌, ◌≤◌, List, [], ◌∷◌, length, refl, sym, ap, ◌∙◌, arith, Bool, true, false, cond, not, ◌||◌, eqb, ltb, Option, Some, None, ⊎_elim}
use Rattle.std.specs.Prelude.{slice_index_or, slice_set, count_by}
use Rattle.std.proofs.lemmas.Bool.{true≢false, and_parts, cases_lt, cases_eq, lt-ltb, le-ltb, or_left, or_right, eq-eqb, ne_eqb}
use Rattle.std.proofs.lemmas.List.{length-set, get_or-set_same, get_or-set_other}
use Rattle.std.proofs.lemmas.List.Sums.{sum_by-cons, sum_by-set, count_by-le-length}
use Rattle.lazy_rec.specs.declared.records.Rec.TheVariants.{Nil}
use Rattle.lazy_rec.specs.declared.states.SuspState.TheVariants.{Unforced}
use Rattle.heap_store.specs.declared.nodes.Node.{Node}
use Rattle.heap_store.specs.Hand.{contains, all_distinct}
use Rattle.heap_store.specs.Shared.{one_if}
use Rattle.heap_store.specs.View.{is_there}
use Rattle.word_store.proofs.Sums.{zero_false, one_most}

count-set : (xs : List (Option Node)) (p : ℕ) (n : Node) → p < length xs → slice_index_or xs p None ≡ None → count_by is_there (slice_set xs p (Some n)) ≡ suc (count_by is_there xs)
count-set xs p n l e =
    let k = sum_by-set (λ x. cond (is_there x) 1 0) xs p (Some n) None l in
    let z : cond (is_there (slice_index_or xs p None)) 1 0 ≡ 0 = ap {B = ℕ} (λ x. cond (is_there x) 1 0) e in
    omega (arith, k, z)

head_in : (p : ℕ) (ps : List ℕ) → contains (p ∷ ps) p ≡ true
head_in p ps = or_left (eqb p p) (contains ps p) (eq-eqb p p refl)

ltb-suc : (p n : ℕ) → ltb (suc p) (suc n) ≡ ltb p n
ltb-suc p n = ⊎_elim (λ l. lt-ltb (suc p) (suc n) (omega (arith, l)) ∙ sym (lt-ltb p n l)) (λ l. le-ltb (suc p) (suc n) (omega (arith, l)) ∙ sym (le-ltb p n l)) (cases_lt p n)

none_is : (o : Option Node) → is_there o ≡ false → o ≡ None
none_is None e = refl
none_is (Some n) e = absurd (true≢false e)

first_counts : (x : Option Node) (b : Bool) → one_if (is_there x) ≡ one_if b → ◌≡◌ {A = ℕ} (cond (is_there x) 1 0) (one_if b)
first_counts x b e = e

-- the places below a number are there, and no others
count_below : (xs : List (Option Node)) (n : ℕ) → n ≤ length xs → ((p : ℕ) → one_if (is_there (slice_index_or xs p None)) ≡ one_if (ltb p n)) → count_by is_there xs ≡ n
count_below [] n few each = omega (arith, few)
count_below (x ∷ xs) zero few each =
    let rest = count_below xs zero (omega arith) (λ p. each (suc p) ∙ ap one_if (le-ltb (suc p) 0 (omega arith) ∙ sym (le-ltb p 0 (omega arith)))) in
    let first = each 0 ∙ ap one_if (le-ltb 0 0 (omega arith)) in
    omega (arith, sum_by-cons (λ y. cond (is_there y) 1 0) x xs, rest, first)
count_below (x ∷ xs) (suc n) few each =
    let rest = count_below xs n (omega (arith, few)) (λ p. each (suc p) ∙ ap one_if (ltb-suc p n)) in
    let first = each 0 ∙ ap one_if (lt-ltb 0 (suc n) (omega arith)) in
    omega (arith, sum_by-cons (λ y. cond (is_there y) 1 0) x xs, rest, first)

-- the places below a number are there or reserved, and no others
pub count_given : (rs : List ℕ) (xs : List (Option Node)) (n : ℕ) → n ≤ length xs → all_distinct rs ≡ true
    → ((p : ℕ) → one_if (contains rs p) + one_if (is_there (slice_index_or xs p None)) ≡ one_if (ltb p n)) → count_by is_there xs + length rs ≡ n
count_given [] xs n few once each = (let k = count_below xs n few (λ p. (let e = each p in omega (arith, e))) in omega (arith, k))
count_given (p ∷ ps) xs n few once each =
    let two = and_parts (not (contains ps p)) (all_distinct ps) once in
    let absent : contains ps p ≡ false = not_true (contains ps p) two.0 in
    let here = each p in
    let one : one_if (contains (p ∷ ps) p) ≡ 1 = ap one_if (head_in p ps) in
    let most = one_most (ltb p n) in
    let bare : slice_index_or xs p None ≡ None = none_is _ (zero_false _ (omega (arith, here, one, most))) in
    let low : p < n = below (ltb p n) refl (omega (arith, here, one, most)) in
    let m : Node = record { rec = Nil; state = Unforced 0 } in
    let ys : List (Option Node) = slice_set xs p (Some m) in
    let more = count_given ps ys n (omega (arith, few, length-set xs p (Some m))) two.1 (λ q. ⊎_elim
    (λ eq. (let a : contains ps q ≡ false = ap (contains ps) eq ∙ absent in
    let b : is_there (slice_index_or ys q None) ≡ true = ap (λ z. is_there (slice_index_or ys z None)) eq ∙ ap is_there (get_or-set_same xs p (Some m) None (omega (arith, low, few))) in
    let c : ltb q n ≡ true = lt-ltb q n (omega (arith, eq, low)) in
    omega (arith, ap one_if a, ap one_if b, ap one_if c)))
    (λ ne. (let a : contains (p ∷ ps) q ≡ contains ps q = ap (λ z. z || contains ps q) (ne_eqb p q (λ z. ne (sym z))) in
    let b : slice_index_or ys q None ≡ slice_index_or xs q None = get_or-set_other xs p q (Some m) None ne in
    omega (arith, each q, ap one_if a, ap (λ z. one_if (is_there z)) b)))
    (cases_eq q p)) in
    omega (arith, more, count-set xs p m (omega (arith, low, few)) bare)
  where
    not_true : (b : Bool) → not b ≡ true → b ≡ false
    not_true true e = absurd (true≢false (sym e))
    not_true false e = refl

    below : (b : Bool) → ltb p n ≡ b → 1 ≤ one_if (ltb p n) → p < n
    below true e l = Rattle.std.proofs.lemmas.Bool.ltb-true p n e
    below false e l = absurd (omega (arith, l, ap one_if e))

-- distinct places that show nothing, and those that show something, are at most all
pub count_free : (rs : List ℕ) (xs : List (Option Node)) → all_distinct rs ≡ true → ((p : ℕ) → contains rs p ≡ true → (p < length xs) × (slice_index_or xs p None ≡ None)) → count_by is_there xs + length rs ≤ length xs
count_free [] xs once free = let k = count_by-le-length is_there xs in omega (arith, k)
count_free (p ∷ ps) xs once free =
    let two = and_parts (not (contains ps p)) (all_distinct ps) once in
    let here = free p (head_in p ps) in
    let n : Node = record { rec = Nil; state = Unforced 0 } in
    let ys : List (Option Node) = slice_set xs p (Some n) in
    let ne : (q : ℕ) → contains ps q ≡ true → q ≢ p = λ q h eq. true≢false (sym (sym (ap not (ap (contains ps) (sym eq) ∙ h)) ∙ two.0)) in
    let more = count_free ps ys two.1 (λ q h. (let k = free q (or_right (eqb p q) (contains ps q) h) in (omega (arith, k.0, length-set xs p (Some n)), get_or-set_other xs p q (Some n) None (ne q h) ∙ k.1))) in
    omega (arith, more, count-set xs p n here.0 here.1, length-set xs p (Some n))
