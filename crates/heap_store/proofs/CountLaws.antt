-- How many keys lists have, by what they hold.
use Rattle.std.proofs.Common.{◌≡◌, ◌≤◌, ◌+◌, refl, sym, ap, ◌∙◌, arith, Bool, true, false, cond, not, ◌&&◌, ◌||◌, ⊎_elim, List, [], ◌∷◌, ◌++◌, length, length-append, filter}
use Rattle.std.specs.List.{AllByRecursion, IsDistinct}
use Rattle.std.specs.Set.{is_member, distinct_count, unique_keys}
use Rattle.std.specs.Cmp.{IsEquivalence}
use Rattle.std.proofs.lemmas.List.Folds.{list_any-append}
use Rattle.std.proofs.lemmas.Map.Made.{length-le_from_is_member, length-from_keys, is_member-filter}
use Rattle.std.proofs.lemmas.Bool.{true≢false, or_cases}

module _ {K : Type 0} {eq : K → K → Bool} (laws : IsEquivalence eq) where
  pub alike : (xs : List K) (p q : K) → eq p q ≡ true → is_member eq xs p ≡ is_member eq xs q
  alike [] p q e = refl
  alike (x ∷ xs) p q e = rw (laws.congr p q x e, alike xs p q e) refl

  member-unique : (xs : List K) (q : K) → is_member eq (unique_keys eq xs) q ≡ is_member eq xs q
  member-unique [] q = refl
  member-unique (x ∷ xs) q = by (is_member eq xs x) (eq q x) refl refl (member-unique xs q)
    where
      by : (b c : Bool) → is_member eq xs x ≡ b → eq q x ≡ c → is_member eq (unique_keys eq xs) q ≡ is_member eq xs q → is_member eq (cond b (unique_keys eq xs) (x ∷ unique_keys eq xs)) q ≡ (c || is_member eq xs q)
      by true true m t r = r ∙ alike xs q x t ∙ m
      by true false m t r = r
      by false c m t r = rw t (ap (λ v. c || v) r)

  apart : (x : K) (ys : List K) → is_member eq ys x ≡ false → AllByRecursion (λ y. eq x y ≡ false) ys
  apart x [] h = tt
  apart x (y ∷ ys) h = by (eq x y) refl h (apart x ys)
    where
      by : (b : Bool) → eq x y ≡ b → (b || is_member eq ys x) ≡ false → (is_member eq ys x ≡ false → AllByRecursion (λ y. eq x y ≡ false) ys) → (eq x y ≡ false) × AllByRecursion (λ y. eq x y ≡ false) ys
      by true t g r = absurd (true≢false g)
      by false t g r = (t, r g)

  distinct-unique : (xs : List K) → IsDistinct eq (unique_keys eq xs)
  unfolding IsDistinct
  distinct-unique [] = tt
  distinct-unique (x ∷ xs) = by (is_member eq xs x) refl (distinct-unique xs)
    where
      by : (b : Bool) → is_member eq xs x ≡ b → IsDistinct eq (unique_keys eq xs) → IsDistinct eq (cond b (unique_keys eq xs) (x ∷ unique_keys eq xs))
      by true m r = r
      by false m r = (apart x (unique_keys eq xs) (member-unique xs x ∙ m), r)

  -- a list that holds no more has no more keys
  pub count_fewer : (xs ys : List K) → ((q : K) → is_member eq xs q ≡ true → is_member eq ys q ≡ true) → distinct_count eq xs ≤ distinct_count eq ys
  count_fewer xs ys h = length-le_from_is_member laws (unique_keys eq xs) (unique_keys eq ys) (distinct-unique xs)
      (λ q m. member-unique ys q ∙ h q (sym (member-unique xs q) ∙ m))

  apart-append : (x : K) (xs ys : List K) → AllByRecursion (λ y. eq x y ≡ false) xs → AllByRecursion (λ y. eq x y ≡ false) ys → AllByRecursion (λ y. eq x y ≡ false) (xs ++ ys)
  apart-append x [] ys h k = k
  apart-append x (y ∷ xs) ys h k = (h.0, apart-append x xs ys h.1 k)

  -- distinct lists that share no key make one
  pub distinct-append : (xs ys : List K) → IsDistinct eq xs → IsDistinct eq ys → AllByRecursion (λ x. is_member eq ys x ≡ false) xs → IsDistinct eq (xs ++ ys)
  unfolding IsDistinct
  distinct-append [] ys d e h = e
  distinct-append (x ∷ xs) ys d e h = (apart-append x xs ys d.0 (apart x ys h.0), distinct-append xs ys d.1 e h.1)

  -- each key of a list is absent where no key of the list is present
  pub absent_all : (xs ys : List K) → ((q : K) → is_member eq xs q ≡ true → is_member eq ys q ≡ false) → AllByRecursion (λ x. is_member eq ys x ≡ false) xs
  absent_all [] ys h = tt
  absent_all (x ∷ xs) ys h = (h x (rw laws.refl refl), absent_all xs ys (λ q m. h q (by (eq q x) m)))
    where
      by : (b : Bool) {c : Bool} → c ≡ true → (b || c) ≡ true
      by true m = refl
      by false m = m

  lacks : List K → K → Bool
  lacks ss u = not (is_member eq ss u)

  -- the keys of two lists are those of the first and those of the second that the first lacks
  pub count_joined : (ss ps ws : List K) → ((q : K) → is_member eq ws q ≡ (is_member eq ss q || is_member eq ps q)) → distinct_count eq ws ≡ distinct_count eq ss + distinct_count eq (filter (λ u. not (is_member eq ss u)) ps)
  count_joined ss ps ws h = sym (length-from_keys laws (ns ++ ms) ws (distinct-append ns ms (distinct-unique ss) (distinct-unique fs) (absent_all ns ms others)) same) ∙ length-append ns ms
    where
      fs : List K
      fs = filter (λ u. not (is_member eq ss u)) ps

      ns : List K
      ns = unique_keys eq ss

      ms : List K
      ms = unique_keys eq fs

      in_ms : (q : K) → is_member eq ms q ≡ (is_member eq ps q && not (is_member eq ss q))
      in_ms q = member-unique fs q ∙ is_member-filter laws (λ u. not (is_member eq ss u)) q (λ x e. ap not (alike ss q x e)) ps

      others : (q : K) → is_member eq ns q ≡ true → is_member eq ms q ≡ false
      others q m = in_ms q ∙ by (is_member eq ps q) (is_member eq ss q) (sym (member-unique ss q) ∙ m)
        where
          by : (b c : Bool) → c ≡ true → (b && not c) ≡ false
          by b c e = grind arith

      same : (q : K) → is_member eq (ns ++ ms) q ≡ is_member eq ws q
      same q = list_any-append (eq q) ns ms ∙ rw (member-unique ss q, in_ms q) (by (is_member eq ss q) (is_member eq ps q)) ∙ sym (h q)
        where
          by : (b c : Bool) → (b || (c && not b)) ≡ (b || c)
          by true c = refl
          by false true = refl
          by false false = refl

  pub all_at : (us seen : List K) → AllByRecursion (λ u. is_member eq seen u ≡ true) us → (q : K) → is_member eq us q ≡ true → is_member eq seen q ≡ true
  all_at [] seen h q m = absurd (true≢false (sym m))
  all_at (u ∷ us) seen h q m = ⊎_elim (λ e. alike seen q u e ∙ h.0) (λ n. all_at us seen h.1 q n) (or_cases (eq q u) (is_member eq us q) m)

  -- distinct keys that are all in a list are at most as many as it has
  pub length_fits : (us seen : List K) → IsDistinct eq us → AllByRecursion (λ u. is_member eq seen u ≡ true) us → length us ≤ distinct_count eq seen
  length_fits us seen d h = length-le_from_is_member laws us (unique_keys eq seen) d (λ q m. member-unique seen q ∙ all_at us seen h q m)
