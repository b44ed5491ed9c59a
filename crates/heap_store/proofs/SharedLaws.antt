-- A store in which nothing is drawn, with one hand that holds nothing, is shared; and the counter of places stays low.
use Rattle.std.proofs.Common.{◌≡◌, ℕ, zero, suc, refl, sym, ap, ◌∙◌, arith, false, ◌&&◌, Some, None, [], ◌∷◌, length, length-append, subst, ⊎_elim, min}
use Rattle.std.specs.Prelude.{ltb, leb, eqb, ◌≤◌, ◌<◌, ◌+◌, ◌*◌, ◌||◌, Bool, true, cond, not, Option, List, map, sum_by, is_some, option_and_then}
use Rattle.std.specs.List.{AllByRecursion, IsDistinct, list_any, list_all}
use Rattle.std.proofs.lemmas.List.{length-map}
use Rattle.std.proofs.lemmas.List.Sums.{sum_by-cons}
use Rattle.std.proofs.lemmas.Bool.{true≢false, eqb-true, eq-eqb, ltb-true, leb-true, and_parts, not-true, or_cases, or_left, or_right}
use Rattle.std.proofs.lemmas.Map.Steps.{length-le_from_distinct_below}
use Rattle.lazy_rec.specs.declared.limits.TheConstants.{MOST_CALLERS, MOST_DRAWN, MOST_NODES}
use Rattle.lazy_rec.specs.Tests.{is_some_and}
use Rattle.heap_store.specs.declared.claims.Full.{Full}
use Rattle.heap_store.specs.World.{World, recs, is_published}
use Rattle.heap_store.specs.Rows.{Row}
use Rattle.heap_store.specs.Hand.{Hand, IsLawfulHand, contains, all_distinct}
use Rattle.heap_store.specs.Budget.{Running, alone_with}
use Rattle.heap_store.specs.Plain.{plain_world, five_records, held_things}
use Rattle.heap_store.specs.Shared.{IsShared, Counters, KnowTheirRows, one_if, is_given, refusal_of, refusal_at, added, is_counted, is_caller, caller_at, vain_callers, adders}
use Rattle.heap_store.proofs.PlainOpen.{none_beyond, unclaimed, no_rows, rowless, word_none}

-- the counters of a store in which nothing is drawn
abbrev pub no_draws : Counters
no_draws = record { places = 0; names = 0; given = 0; vain_rows = [] }

abbrev pub empty_hand : Hand
empty_hand = held_things [] [] [] []

module _ (capacity row_capacity : ℕ) where
  ours_none : (p : ℕ) → ltb (suc (suc (suc (suc (suc p))))) 5 ≡ false
  ours_none p = grind arith

  given_places : (p : ℕ) → one_if (is_published (recs (plain_world capacity row_capacity five_records [])) p) ≡ one_if (is_given no_draws p)
  given_places zero = refl
  given_places (suc zero) = refl
  given_places (suc (suc zero)) = refl
  given_places (suc (suc (suc zero))) = refl
  given_places (suc (suc (suc (suc zero)))) = refl
  given_places (suc (suc (suc (suc (suc q))))) = rw (none_beyond capacity row_capacity q, ours_none q) refl

  -- no name is drawn
  no_name : (i n : ℕ) → leb 1 i && leb i (min 0 n) ≡ false
  no_name zero n = refl
  no_name (suc i) n = grind arith

  empty_lawful : IsLawfulHand (plain_world capacity row_capacity five_records []) empty_hand
  empty_lawful = record {
    claims = refl;
    marked = refl;
    claims_once = refl;
    reserved = λ p m. absurd (true≢false (sym m));
    reserved_once = refl;
    names = λ i m. absurd (true≢false (sym m));
    names_once = refl;
  }

  pub opened_shared : capacity ≤ MOST_NODES → IsShared capacity (0 ∷ []) no_draws (alone_with (plain_world capacity row_capacity five_records []) empty_hand)
  opened_shared few = record {
    hands = (empty_lawful, tt);
    mine = (
      record {
        all = λ i r e c. absurd (rowless capacity row_capacity i r e);
        own = λ i r e c. absurd (rowless capacity row_capacity i r e);
      },
      tt,
    );
    callers_once = refl;
    callers_few = refl;
    claims = λ s. sym (ap one_if (unclaimed capacity row_capacity s));
    places = λ p. omega (arith, given_places p);
    names = λ i. rw (no_rows capacity row_capacity i, no_name i (length (plain_world capacity row_capacity five_records []).rows)) refl;
    rows = λ i j ne. absurd (ne (word_none capacity row_capacity i j));
    plan = λ events e. cc;
    plan_words = λ events e. cc;
    small = few;
    room = omega arith;
    counted = refl;
    refused = λ some. absurd (omega (arith, some));
    vain_hands = (λ f e. cc, tt);
    vain_rows = λ i e. absurd (true≢false (sym e));
    full_rows = λ i f e. (let z : None ≡ Some f = sym (ap (option_and_then (λ (r : Row). refusal_of r.ending)) (no_rows capacity row_capacity i)) ∙ e in cc);
    adders_once = refl;
    adders_few = refl;
  }

-- ---- the counter of places

-- distinct callers' numbers are at most `MOST_CALLERS`
apart : (x : ℕ) (ys : List ℕ) → contains ys x ≡ false → AllByRecursion (λ y. eqb x y ≡ false) ys
apart x [] h = tt
apart x (y ∷ ys) h = by (eqb y x) refl (eqb x y) refl h (apart x ys)
  where
    by : (b : Bool) → eqb y x ≡ b → (c : Bool) → eqb x y ≡ c → b || contains ys x ≡ false → (contains ys x ≡ false → AllByRecursion (λ y. eqb x y ≡ false) ys) → (eqb x y ≡ false) × AllByRecursion (λ y. eqb x y ≡ false) ys
    by true e c f h rest = absurd (true≢false h)
    by false e true f h rest = absurd (true≢false (sym (eq-eqb y x (sym (eqb-true x y f))) ∙ e))
    by false e false f h rest = (f, rest h)

distinct_of : (xs : List ℕ) → all_distinct xs ≡ true → IsDistinct eqb xs
unfolding IsDistinct
distinct_of [] h = tt
distinct_of (x ∷ xs) h = (let t = and_parts (not (contains xs x)) (all_distinct xs) h in (apart x xs (not-true (contains xs x) t.0), distinct_of xs t.1))

few_of : (xs : List ℕ) → list_all is_caller xs ≡ true → (q : ℕ) → list_any (eqb q) xs ≡ true → q < MOST_CALLERS
few_of [] h q m = absurd (true≢false (sym m))
few_of (x ∷ xs) h q m = (let t = and_parts (is_caller x) (list_all is_caller xs) h in
    ⊎_elim (λ e. subst (λ v. v < MOST_CALLERS) (sym (eqb-true q x e)) (ltb-true x MOST_CALLERS t.0)) (λ k. few_of xs t.1 q k) (or_cases (eqb q x) (list_any (eqb q) xs) m))

adders_fit : (xs : List ℕ) → all_distinct xs ≡ true → list_all is_caller xs ≡ true → length xs ≤ MOST_CALLERS
adders_fit xs once few = length-le_from_distinct_below xs MOST_CALLERS (distinct_of xs once) (few_of xs few)

module _ {capacity : ℕ} (c : Counters) (small : capacity ≤ MOST_NODES) where
  wanted_few : (f : Full) → is_counted capacity c f ≡ true → f.wanted ≤ MOST_NODES
  wanted_few f h = (let t = leb-true f.wanted capacity (and_parts (leb (f.drawn + f.wanted) c.places) (leb f.wanted capacity) h).1 in omega (arith, t, small))

  hands_added : (w : World) (callers : List ℕ) (hs : List Hand) → KnowTheirRows w callers hs → AllByRecursion (λ (h : Hand). (f : Full) → h.vain ≡ Some f → is_counted capacity c f ≡ true) hs → sum_by (λ (h : Hand). added h.vain) hs ≤ 4000000 * length (vain_callers callers hs)
  hands_added w [] [] k v = omega arith
  hands_added w [] (h ∷ hs) k v = absurd k
  hands_added w (caller ∷ callers) [] k v = absurd k
  hands_added w (caller ∷ callers) (h ∷ hs) k v = (let sum = sum_by-cons (λ (h : Hand). added h.vain) h hs in let t = by h.vain refl (hands_added w callers hs k.1 v.1) in omega (arith, sum, t))
    where
      by : (o : Option Full) → h.vain ≡ o → sum_by (λ (h : Hand). added h.vain) hs ≤ 4000000 * length (vain_callers callers hs) → added o + sum_by (λ (h : Hand). added h.vain) hs ≤ 4000000 * length (cond (is_some o) (caller ∷ vain_callers callers hs) (vain_callers callers hs))
      by None e rest = omega (arith, rest)
      by (Some f) e rest = omega (arith, rest, wanted_few f (v.0 f e))

  rows_added : (w : World) (names : List ℕ) → ((i : ℕ) → contains names i ≡ true → is_some_and (is_counted capacity c) (refusal_at w i) ≡ true) → sum_by (λ name. added (refusal_at w name)) names ≤ 4000000 * length names
  rows_added w [] h = omega arith
  rows_added w (name ∷ names) h = omega (arith, sum_by-cons (λ i. added (refusal_at w i)) name names, one (refusal_at w name) (h name (or_left (eqb name name) (contains names name) (eq-eqb name name refl))), rows_added w names (λ i m. h i (or_right (eqb name i) (contains names i) m)))
    where
      one : (o : Option Full) → is_some_and (is_counted capacity c) o ≡ true → added o ≤ 4000000
      one None m = absurd (true≢false (sym m))
      one (Some f) m = wanted_few f m

-- no more is ever drawn than the places of a store, and as many for each caller in vain
pub drawn_low : {capacity : ℕ} {callers : List ℕ} {c : Counters} {g : Running} → IsShared capacity callers c g → c.places ≤ MOST_DRAWN
drawn_low {capacity} {callers} {c} {g} s =
    let fit = adders_fit (adders callers c g) s.adders_once s.adders_few in
    let sizes = length-append (vain_callers callers g.hands) (map (caller_at g.world) c.vain_rows) in
    let names = length-map c.vain_rows (caller_at g.world) in
    omega (arith, s.small, s.room, s.counted, fit, sizes, names, hands_added c s.small g.world callers g.hands s.mine s.vain_hands, rows_added c s.small g.world c.vain_rows s.vain_rows)
