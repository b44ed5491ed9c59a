-- The units of a heap's list: those of the suspensions that it is made of, the newest last.
use Rattle.std.proofs.Common.{◌≡◌, ℕ, zero, suc, ◌<◌, ◌≤◌, ◌-◌, eqb, refl, sym, ap, subst, ◌∙◌, arith, ⊎_elim, ◌⊎◌, inl, inr, true, Option, Some, None, List, [], ◌∷◌, ◌++◌, length, take}
use Rattle.std.specs.List.{AllByRecursion}
use Rattle.std.specs.Set.{is_member}
use Rattle.std.proofs.lemmas.List.Folds.{list_any-append}
use Rattle.std.proofs.lemmas.Bool.{true≢false, eqb-true, and_parts, or_left, or_right, or_cases}
use Rattle.lazy_rec.specs.declared.places.Ref.{Ref}
use Rattle.lazy_rec.specs.declared.places.Item.{Item}
use Rattle.lazy_rec.specs.declared.records.Rec.{Rec}
use Rattle.lazy_rec.specs.declared.records.Rec.TheVariants.{HeapInsert, HeapMerge}
use Rattle.lazy_rec.specs.ByPlace.{below, by_place}
use Rattle.lazy_rec.specs.Named.{Records, named}
use Rattle.lazy_rec.specs.Units.{WorkUnit, same_unit, units_from, units_below, list_units, list_units_of, list_units_at, steps}
use Rattle.lazy_rec.proofs.ByPlaceLaws.{below_low, from_lower}
use Rattle.heap_store.specs.World.{World, recs}
use Rattle.heap_store.specs.Lawful.{IsLawful}
use Rattle.heap_store.proofs.NameLaws.{IsNamedWell, NamesWell}
use Rattle.heap_store.proofs.ShowLaws.{one_value}
use Rattle.heap_store.proofs.LawfulLaws.{lawful_names}

-- ---- front parts of lists

module _ (u : WorkUnit) where
  abbrev pub In : List WorkUnit → Type 0
  In us = is_member same_unit us u ≡ true

  pub in_append : (xs ys : List WorkUnit) → In (xs ++ ys) → In xs ⊎ In ys
  in_append xs ys h = or_cases (is_member same_unit xs u) (is_member same_unit ys u) (sym (list_any-append (same_unit u) xs ys) ∙ h)

  pub in_left : (xs ys : List WorkUnit) → In xs → In (xs ++ ys)
  in_left xs ys h = list_any-append (same_unit u) xs ys ∙ or_left (is_member same_unit xs u) (is_member same_unit ys u) h

  pub in_right : (xs ys : List WorkUnit) → In ys → In (xs ++ ys)
  in_right xs ys h = list_any-append (same_unit u) xs ys ∙ or_right (is_member same_unit xs u) (is_member same_unit ys u) h

  -- of two lists one after the other
  pub take_split : (k : ℕ) (xs ys : List WorkUnit) → In (take k (xs ++ ys)) → In (take k xs) ⊎ ((length xs ≤ k) × In (take (k - length xs) ys))
  take_split k [] ys h = inr (omega arith, (let e : k - 0 ≡ k = omega arith in rw e h))
  take_split zero (x ∷ xs) ys h = absurd (true≢false (sym h))
  take_split (suc k) (x ∷ xs) ys h = ⊎_elim
      (λ here. inl (or_left (same_unit u x) (is_member same_unit (take k xs) u) here))
      (λ later. ⊎_elim (λ t. inl (or_right (same_unit u x) (is_member same_unit (take k xs) u) t)) (λ t. inr (omega (arith, t.0), (let e : suc k - suc (length xs) ≡ k - length xs = omega arith in rw e t.1))) (take_split k xs ys later))
      (or_cases (same_unit u x) (is_member same_unit (take k (xs ++ ys)) u) h)

  pub take_left : (k : ℕ) (xs ys : List WorkUnit) → In (take k xs) → In (take k (xs ++ ys))
  take_left zero xs ys h = absurd (true≢false (sym h))
  take_left (suc k) [] ys h = absurd (true≢false (sym h))
  take_left (suc k) (x ∷ xs) ys h = ⊎_elim
      (λ here. or_left (same_unit u x) _ here)
      (λ later. or_right (same_unit u x) _ (take_left k xs ys later))
      (or_cases (same_unit u x) (is_member same_unit (take k xs) u) h)

  pub take_whole : (k : ℕ) (xs ys : List WorkUnit) → length xs ≤ k → In xs → In (take k (xs ++ ys))
  take_whole k [] ys le h = absurd (true≢false (sym h))
  take_whole zero (x ∷ xs) ys le h = absurd (omega (arith, le))
  take_whole (suc k) (x ∷ xs) ys le h = ⊎_elim
      (λ here. or_left (same_unit u x) _ here)
      (λ later. or_right (same_unit u x) _ (take_whole k xs ys (omega (arith, le)) later))
      (or_cases (same_unit u x) (is_member same_unit xs u) h)

  pub take_past : (k : ℕ) (xs ys : List WorkUnit) → length xs ≤ k → In (take (k - length xs) ys) → In (take k (xs ++ ys))
  take_past k [] ys le h = let e : k - 0 ≡ k = omega arith in rw e at h
  take_past zero (x ∷ xs) ys le h = absurd (omega (arith, le))
  take_past (suc k) (x ∷ xs) ys le h = or_right (same_unit u x) _ (take_past k xs ys (omega (arith, le)) (let e : suc k - suc (length xs) ≡ k - length xs = omega arith in rw e at h))

  pub take_in : (k : ℕ) (xs : List WorkUnit) → In (take k xs) → In xs
  take_in zero xs h = absurd (true≢false (sym h))
  take_in (suc k) [] h = absurd (true≢false (sym h))
  take_in (suc k) (x ∷ xs) h = ⊎_elim (λ here. or_left (same_unit u x) (is_member same_unit xs u) here) (λ later. or_right (same_unit u x) (is_member same_unit xs u) (take_in k xs later)) (or_cases (same_unit u x) (is_member same_unit (take k xs) u) h)

-- a unit of a run is of the run's origin
pub origin_of : (o i k : ℕ) (u : WorkUnit) → is_member same_unit (units_from o i k) u ≡ true → u.0 ≡ o
origin_of o i zero u h = absurd (true≢false (sym h))
origin_of o i (suc k) u h = ⊎_elim (λ here. eqb-true u.0 o (and_parts (eqb u.0 o) (eqb u.1 i) here).0) (λ later. origin_of o (suc i) k u later) (or_cases (same_unit u (o, i)) (is_member same_unit (units_from o (suc i) k) u) h)

-- ---- the units of a list

units_look : (p : ℕ) (g h : ℕ → List WorkUnit) (r : Rec) → AllByRecursion (λ q. g q.0 ≡ h q.0) (named r) → list_units_of g p r ≡ list_units_of h p r
units_look p g h (HeapInsert _ list _) s = rw s.0 refl
units_look p g h (HeapMerge list1 list2 _ _) s = rw (s.0, s.1.0) refl
units_look p g h _ s = refl

pub list_units_is : (rs : Records) → NamesWell rs → (p : ℕ) (r : Rec) → rs p ≡ Some r → list_units rs p ≡ list_units_of (list_units rs) p r
unfolding list_units by_place
list_units_is rs names p r e =
    ap (list_units_at (below [] (λ lower q. list_units_at lower q (rs q)) p) p) e
    ∙ units_look p _ _ r (all_low (named r) (names p r e))
  where
    all_low : (qs : List _) → AllByRecursion (IsNamedWell rs p) qs → AllByRecursion (λ q. below [] (λ lower q. list_units_at lower q (rs q)) p q.0 ≡ by_place [] (λ lower q. list_units_at lower q (rs q)) q.0) qs
    all_low [] h = tt
    all_low (q ∷ qs) h = (below_low [] (λ lower q. list_units_at lower q (rs q)) p q.0 h.0.0, all_low qs h.1)

list_units_none : (rs : Records) (p : ℕ) → rs p ≡ None → list_units rs p ≡ []
unfolding list_units by_place
list_units_none rs p e = ap (list_units_at (below [] (λ lower q. list_units_at lower q (rs q)) p) p) e

-- the list is one that the record stands on
abbrev pub StandsOn : Rec → ℕ → Type 0
StandsOn (HeapInsert _ list _) q = q ≡ list.0
StandsOn (HeapMerge list1 list2 _ _) q = (q ≡ list1.0) ⊎ (q ≡ list2.0)
StandsOn _ q = ⊥

-- in front of a unit of p stand all units of what p stands on
pub below_unit : {w : World} → IsLawful w → (p : ℕ) (r : Rec) → recs w p ≡ Some r → (q : ℕ) → StandsOn r q → (i : ℕ) (u : WorkUnit) → is_member same_unit (list_units (recs w) q) u ≡ true
    → (l k : ℕ) → is_member same_unit (take k (list_units (recs w) l)) (p, i) ≡ true → is_member same_unit (take k (list_units (recs w) l)) u ≡ true
below_unit {w} law p r e q on i u inside = from_lower (λ l. (k : ℕ) → is_member same_unit (take k (list_units (recs w) l)) (p, i) ≡ true → is_member same_unit (take k (list_units (recs w) l)) u ≡ true) step
  where
    us : ℕ → List WorkUnit
    us = list_units (recs w)

    -- a record at l whose own units have one of p is that of p
    same : (l : ℕ) (s : Rec) → recs w l ≡ Some s → (n : ℕ) → is_member same_unit (take n (units_below l (steps s))) (p, i) ≡ true → s ≡ r
    same l s f n h = let z : p ≡ l = origin_of l 0 (steps s) (p, i) (take_in (p, i) n (units_below l (steps s)) h) in one_value s r (sym f ∙ (ap (recs w) (sym z) ∙ e))

    step : (l : ℕ) → ((m : ℕ) → m < l → (k : ℕ) → is_member same_unit (take k (us m)) (p, i) ≡ true → is_member same_unit (take k (us m)) u ≡ true) → (k : ℕ) → is_member same_unit (take k (us l)) (p, i) ≡ true → is_member same_unit (take k (us l)) u ≡ true
    step l ih k h = go (recs w l) refl
      where
        inserted : (item : Item) (list : Ref) (size : ℕ) → recs w l ≡ Some (HeapInsert item list size) → is_member same_unit (take k (us l)) u ≡ true
        inserted item list size f =
            let n = (lawful_names law l _ f) in
            let own = units_below l (steps (HeapInsert item list size)) in
            let all : us l ≡ us list.0 ++ own = list_units_is (recs w) (lawful_names law) l _ f in
            let low : list.0 < l = n.0.0 in
            rw all (⊎_elim
            (λ t. take_left u k (us list.0) own (ih list.0 low k t))
            (λ t. (let z = same l _ f (k - length (us list.0)) t.1 in let on' : q ≡ list.0 = subst (λ x. StandsOn x q) (sym z) on in take_whole u k (us list.0) own t.0 (rw on' at inside)))
            (take_split (p, i) k (us list.0) own (rw all at h)))

        merged : (list1 list2 : Ref) (n1 n2 : ℕ) → recs w l ≡ Some (HeapMerge list1 list2 n1 n2) → is_member same_unit (take k (us l)) u ≡ true
        merged list1 list2 n1 n2 f =
            let n = (lawful_names law l _ f) in
            let own = units_below l (steps (HeapMerge list1 list2 n1 n2)) in
            let lists = us list1.0 ++ us list2.0 in
            let all : us l ≡ lists ++ own = list_units_is (recs w) (lawful_names law) l _ f in
            let k' = k - length (us list1.0) in
            let low1 : list1.0 < l = n.0.0 in
            let low2 : list2.0 < l = n.1.0.0 in
            rw all (⊎_elim
            (λ t. take_left u k lists own (⊎_elim
            (λ t'. take_left u k (us list1.0) (us list2.0) (ih list1.0 low1 k t'))
            (λ t'. take_past u k (us list1.0) (us list2.0) t'.0 (ih list2.0 low2 k' t'.1))
            (take_split (p, i) k (us list1.0) (us list2.0) t)))
            (λ t. (
            let z = same l _ f (k - length lists) t.1 in
            let on' : (q ≡ list1.0) ⊎ (q ≡ list2.0) = subst (λ x. StandsOn x q) (sym z) on in
            take_whole u k lists own t.0 (⊎_elim (λ a. in_left u (us list1.0) (us list2.0) (rw a at inside)) (λ b. in_right u (us list1.0) (us list2.0) (rw b at inside)) on')))
            (take_split (p, i) k lists own (rw all at h)))

        nothing : us l ≡ [] → is_member same_unit (take k (us l)) u ≡ true
        nothing z = absurd (let t = take_in (p, i) k (us l) h in let t' : is_member same_unit [] (p, i) ≡ true = rw z at t in true≢false (sym t'))

        go : (o : Option Rec) → recs w l ≡ o → is_member same_unit (take k (us l)) u ≡ true
        go None f = nothing (list_units_none (recs w) l f)
        go (Some (HeapInsert item list size)) f = inserted item list size f
        go (Some (HeapMerge list1 list2 n1 n2)) f = merged list1 list2 n1 n2 f
        go (Some _) f = nothing (list_units_is (recs w) (lawful_names law) l _ f)
