-- Units that are discharged stay so, and how many a record can show first.
use Rattle.std.proofs.Common.{◌≡◌, ℕ, zero, suc, ◌<◌, ◌≤◌, ◌+◌, ◌-◌, refl, sym, ◌∙◌, arith, max, ⊎_elim, Bool, true, false, cond, not, eqb, Option, Some, None, List, [], ◌∷◌, length}
use Rattle.std.specs.List.{list_all}
use Rattle.std.specs.Set.{is_member}
use Rattle.std.proofs.lemmas.List.Folds.{list_any-append}
use Rattle.std.proofs.lemmas.Map.Made.{distinct_count-le}
use Rattle.std.proofs.lemmas.Bool.{cases_lt, true≢false, cases_eq, eq-eqb, and_parts, and_from, or_left, or_right, or_cases}
use Rattle.lazy_rec.specs.declared.places.Ref.{Ref}
use Rattle.lazy_rec.specs.declared.records.Rec.{Rec}
use Rattle.lazy_rec.specs.declared.records.Rec.TheVariants.{BankRot}
use Rattle.lazy_rec.specs.Named.{Records, at_record}
use Rattle.lazy_rec.specs.Units.{WorkUnit, same_unit, units, units_from, units_below, family_of, paid}
use Rattle.heap_store.specs.World.{World, Keeps, recs}
use Rattle.heap_store.specs.Budget.{discharged, all_discharged, are_discharged, unit_count, units_beyond, gain_at, is_funded, bank_family, other_family, is_settled}
use Rattle.heap_store.proofs.NameLaws.{NamesWell}
use Rattle.heap_store.proofs.GainLaws.{paid_kept, names_there}
use Rattle.heap_store.proofs.LawfulLaws.{within}

-- a published record's units are discharged
pub discharged_has : (rs : Records) (n p : ℕ) (r : Rec) → rs p ≡ Some r → p < n → (u : WorkUnit) → is_member same_unit (paid rs p r) u ≡ true → is_member same_unit (discharged rs n) u ≡ true
unfolding discharged
discharged_has rs zero p r e l u m = absurd (omega arith)
discharged_has rs (suc n) p r e l u m = list_any-append (same_unit u) (at_place n) (discharged rs n) ∙ ⊎_elim
    (λ s. or_left (is_member same_unit (at_place n) u) _ (rw (← s, e) m))
    (λ ne. or_right _ _ (discharged_has rs n p r e (omega arith) u m))
    (cases_eq p n)
  where
    at_place : ℕ → List WorkUnit
    at_place q = at_record [] (paid rs q) (rs q)

-- a record that shows a unit
pub record Shower (rs : Records) (u : WorkUnit) : Type 0 where
  pub place : ℕ
  pub rec : Rec
  pub here : rs place ≡ Some rec
  pub shows : is_member same_unit (paid rs place rec) u ≡ true

pub discharged_by : (rs : Records) (n : ℕ) (u : WorkUnit) → is_member same_unit (discharged rs n) u ≡ true → Shower rs u
unfolding discharged
discharged_by rs zero u m = absurd (true≢false (sym m))
discharged_by rs (suc n) u m = ⊎_elim (λ here. at_place (rs n) refl here) (λ below. discharged_by rs n u below) (or_cases (is_member same_unit (at_record [] (paid rs n) (rs n)) u) (is_member same_unit (discharged rs n) u) (sym (list_any-append (same_unit u) (at_record [] (paid rs n) (rs n)) (discharged rs n)) ∙ m))
  where
    at_place : (o : Option Rec) → rs n ≡ o → is_member same_unit (at_record [] (paid rs n) o) u ≡ true → Shower rs u
    at_place None e h = absurd (true≢false (sym h))
    at_place (Some r) e h = record { place = n; rec = r; here = e; shows = h }

pub discharged_up : (a b : World) → NamesWell (recs a) → Keeps (recs a) (recs b) → (u : WorkUnit) → is_member same_unit (all_discharged a) u ≡ true → is_member same_unit (all_discharged b) u ≡ true
discharged_up a b names keeps u m =
    let s = discharged_by (recs a) (length a.nodes) u m in
    let e = keeps s.place s.rec s.here in
    discharged_has (recs b) (length b.nodes) s.place s.rec e (within b s.place s.rec e) u (rw (paid_kept (recs a) (recs b) names keeps s.place s.rec (names_there (recs a) s.place s.rec (names s.place s.rec s.here))) at s.shows)

pub all_up : {X : Type 0} (f g : X → Bool) → ((x : X) → f x ≡ true → g x ≡ true) → (xs : List X) → list_all f xs ≡ true → list_all g xs ≡ true
all_up f g h [] k = refl
all_up f g h (x ∷ xs) k = let p = and_parts (f x) (list_all f xs) k in and_from (g x) (list_all g xs) (h x p.0) (all_up f g h xs p.1)

pub are_discharged_up : (a b : World) → NamesWell (recs a) → Keeps (recs a) (recs b) → (us : List WorkUnit) → are_discharged a us ≡ true → are_discharged b us ≡ true
are_discharged_up a b names keeps = all_up (λ u. is_member same_unit (all_discharged a) u) (λ u. is_member same_unit (all_discharged b) u) (discharged_up a b names keeps)

-- what is paid for stays so
pub funded_up : (a b : World) → NamesWell (recs a) → Keeps (recs a) (recs b) → (p : ℕ) (r : Rec) → is_funded a p r ≡ true → is_funded b p r ≡ true
funded_up a b names keeps p r = are_discharged_up a b names keeps (units p r)

-- where a whole family is paid, what another rotation asks of it is
pub paid_other : (w : World) (o : ℕ) (r : Rec) → are_discharged w (bank_family r) ≡ true → are_discharged w (other_family o r) ≡ true
paid_other w o r h = go (eqb (family_of 0 r).0 o)
  where
    go : (b : Bool) → are_discharged w (cond b [] (bank_family r)) ≡ true
    go true = refl
    go false = h

-- a rotation that is put over a front whose family is paid
pub settled_over : (a b : World) → NamesWell (recs a) → Keeps (recs a) (recs b) → (p : ℕ) (xs rear : Ref) (left : ℕ) (o : Ref) (off : ℕ) (r : Rec) → recs a xs.0 ≡ Some r → are_discharged a (bank_family r) ≡ true → is_settled b p (BankRot xs rear left o off) ≡ true
settled_over a b names keeps p xs rear left o off r e h = rw (keeps xs.0 r e) (are_discharged_up a b names keeps (other_family o.0 r) (paid_other a o.0 r h))

-- ---- runs of units

pub member_from : (o i k j : ℕ) → i ≤ j → j < i + k → is_member same_unit (units_from o i k) (o, j) ≡ true
member_from o i zero j l h = absurd (omega arith)
member_from o i (suc k) j l h = ⊎_elim
    (λ e. or_left _ _ (and_from _ _ (eq-eqb o o refl) (eq-eqb j i e)))
    (λ ne. or_right _ _ (member_from o (suc i) k j (omega arith) (omega arith)))
    (cases_eq j i)

-- a run of units is in a list where each of them is
pub run_in : (seen : List WorkUnit) (o i k : ℕ) → ((j : ℕ) → i ≤ j → j < i + k → is_member same_unit seen (o, j) ≡ true) → list_all (λ u. is_member same_unit seen u) (units_from o i k) ≡ true
run_in seen o i zero h = refl
run_in seen o i (suc k) h = and_from (is_member same_unit seen (o, i)) _ (h i (omega arith) (omega arith)) (run_in seen o (suc i) k (λ j l m. h j (omega arith) (omega arith)))

pub run_at : (seen : List WorkUnit) (o i k : ℕ) → list_all (λ u. is_member same_unit seen u) (units_from o i k) ≡ true → (j : ℕ) → i ≤ j → j < i + k → is_member same_unit seen (o, j) ≡ true
run_at seen o i zero h j l m = absurd (omega arith)
run_at seen o i (suc k) h j l m =
    let p = and_parts (is_member same_unit seen (o, i)) (list_all (λ u. is_member same_unit seen u) (units_from o (suc i) k)) h in
    ⊎_elim (λ (e : j ≡ i). rw e p.0) (λ ne. run_at seen o (suc i) k p.1 j (omega arith) (omega arith)) (cases_eq j i)

-- of the units of an origin from i on, so many, at most those from k on are missing where all below k are seen
missing : (seen : List WorkUnit) (o k : ℕ) → ((j : ℕ) → j < k → is_member same_unit seen (o, j) ≡ true) → (i n : ℕ) → length (units_beyond seen (units_from o i n)) ≤ i + n - max i k
missing seen o k all i zero = omega arith
missing seen o k all i (suc n) = go (is_member same_unit seen (o, i)) refl (missing seen o k all (suc i) n)
  where
    go : (b : Bool) → is_member same_unit seen (o, i) ≡ b → length (units_beyond seen (units_from o (suc i) n)) ≤ suc i + n - max (suc i) k → length (cond (not b) ((o, i) ∷ units_beyond seen (units_from o (suc i) n)) (units_beyond seen (units_from o (suc i) n))) ≤ i + suc n - max i k
    go true e ih = omega arith
    go false e ih = ⊎_elim (λ (l : i < k). let y = all i l in absurd (true≢false (sym y ∙ e))) (λ (l : k ≤ i). omega arith) (cases_lt i k)

-- the first units of an origin are at most so many more than those of them that are seen
pub beyond_below : (seen : List WorkUnit) (o k n : ℕ) → ((j : ℕ) → j < k → is_member same_unit seen (o, j) ≡ true) → unit_count (units_beyond seen (units_below o n)) ≤ n - k
beyond_below seen o k n all = omega (arith, distinct_count-le same_unit (units_beyond seen (units_below o n)), missing seen o k all 0 n)

-- what shows nothing gains nothing
pub gain_none : (w : World) (p : ℕ) (r : Rec) → paid (recs w) p r ≡ [] → gain_at w p r ≡ 0
gain_none w p r e = rw e refl

-- what shows nothing is paid by any credits
pub free : (w : World) (p : ℕ) (r : Rec) (k : ℕ) → paid (recs w) p r ≡ [] → gain_at w p r ≤ k
free w p r k e = omega (arith, gain_none w p r e)
