-- What records show as discharged: it rests on the record and lower ones, publishing a record adds exactly its gain, and the
-- gain of a record falls as the world grows.
use Rattle.std.proofs.Common.{◌≡◌, ℕ, zero, suc, ◌<◌, ◌≤◌, ◌+◌, ◌-◌, refl, sym, ap, ◌∙◌, arith, eqb, ltb, ⊎_elim, Bool, true, false, not, ◌&&◌, ◌||◌, Option, Some, None, List, [], length, take}
use Rattle.std.specs.List.{AllByRecursion}
use Rattle.std.specs.Set.{is_member}
use Rattle.std.specs.Cmp.{IsEquivalence}
use Rattle.std.proofs.lemmas.List.Folds.{list_any-append}
use Rattle.std.proofs.lemmas.Map.Made.{is_member-filter}
use Rattle.std.proofs.lemmas.Bool.{true≢false, cases_eq, eq-eqb, ne_eqb, eqb-true, lt-ltb, and_parts, and_from, or_left, or_right, or_cases}
use Rattle.std.proofs.lemmas.Bool.Decides.{nat_tests}
use Rattle.lazy_rec.specs.declared.records.Rec.{Rec}
use Rattle.lazy_rec.specs.declared.records.Rec.TheVariants.{RtTop, HeapTop, HeapInsert, HeapMerge}
use Rattle.lazy_rec.specs.Named.{Records, NamedPlace, named, at_record}
use Rattle.lazy_rec.specs.Units.{WorkUnit, same_unit, list_units_of, list_units_at, list_units, schedule_units, paid}
use Rattle.heap_store.specs.World.{Keeps}
use Rattle.heap_store.specs.Budget.{discharged, unit_count, units_beyond, gain}
use Rattle.heap_store.proofs.Alls.{All-map}
use Rattle.lazy_rec.proofs.ByPlaceLaws.{by_place_agree}
use Rattle.heap_store.proofs.NameLaws.{NamesWell, IsNamedWell, IsPublished, Adds}
use Rattle.heap_store.proofs.CountLaws.{alike, count_fewer, count_joined}

pub same_unit_laws : IsEquivalence same_unit
same_unit_laws = record {
  refl = λ u. and_from _ _ (eq-eqb u.0 u.0 refl) (eq-eqb u.1 u.1 refl);
  symm = λ u v. grind (arith, nat_tests);
  congr = λ u v w e. let h = and_parts (eqb u.0 v.0) (eqb u.1 v.1) e in let x = eqb-true u.0 v.0 h.0 in let y = eqb-true u.1 v.1 h.1 in rw (x, y) refl;
}

in_beyond : (seen us : List WorkUnit) (u : WorkUnit) → is_member same_unit (units_beyond seen us) u ≡ (is_member same_unit us u && not (is_member same_unit seen u))
in_beyond seen us u = is_member-filter same_unit_laws (λ v. not (is_member same_unit seen v)) u (λ x e. ap not (alike same_unit_laws seen u x e)) us

-- all places that a record names are published
abbrev pub NamesThere : Records → Rec → Type 0
NamesThere rs r = AllByRecursion (λ (q : NamedPlace). IsPublished rs q.0) (named r)

pub names_there : (rs : Records) (p : ℕ) (r : Rec) → AllByRecursion (IsNamedWell rs p) (named r) → NamesThere rs r
names_there rs p r h = All-map (IsNamedWell rs p) (λ (q : NamedPlace). IsPublished rs q.0) (λ q w. (w.1, w.2)) (named r) h

module _ (a b : Records) (names : NamesWell a) (keeps : Keeps a b) where
  list_units_kept : (p : ℕ) → IsPublished a p → list_units a p ≡ list_units b p
  unfolding list_units
  list_units_kept = by_place_agree [] _ _ (IsPublished a) (λ p g h is same.
      ap (list_units_at g p) is.1
      ∙ by p g h is.0 (All-map (IsNamedWell a p) _ (λ q w. same q.0 w.0 (w.1, w.2)) (named is.0) (names p is.0 is.1))
      ∙ sym (ap (list_units_at h p) (keeps p is.0 is.1)))
    where
      by : (p : ℕ) (g h : ℕ → List WorkUnit) (r : Rec) → AllByRecursion (λ (q : NamedPlace). g q.0 ≡ h q.0) (named r) → list_units_of g p r ≡ list_units_of h p r
      by p g h (HeapInsert item list size) s = rw s.0 refl
      by p g h (HeapMerge l1 l2 n1 n2) s = rw (s.0, s.1.0) refl
      by p g h _ s = refl

  same_record : (p : ℕ) → IsPublished a p → a p ≡ b p
  same_record p is = is.1 ∙ sym (keeps p is.0 is.1)

  -- what a record shows rests on it and on what it names
  pub paid_kept : (p : ℕ) (r : Rec) → NamesThere a r → paid a p r ≡ paid b p r
  paid_kept p (RtTop _ _ _ _ sched) n = ap schedule_units (same_record sched.0 n.1.1.0)
  paid_kept p (HeapTop list _ owed) n = ap (λ (us : List WorkUnit). take (length us - owed) us) (list_units_kept list.0 n.0)
  paid_kept p _ n = refl

  paid_at_kept : (p : ℕ) (u : WorkUnit) → is_member same_unit (at_record [] (paid a p) (a p)) u ≡ true → is_member same_unit (at_record [] (paid b p) (b p)) u ≡ true
  paid_at_kept p u m = go (a p) refl m
    where
      go : (o : Option Rec) → a p ≡ o → is_member same_unit (at_record [] (paid a p) o) u ≡ true → is_member same_unit (at_record [] (paid b p) (b p)) u ≡ true
      go None e m = absurd (true≢false (sym m))
      go (Some r) e m = rw (keeps p r e, ← paid_kept p r (names_there a p r (names p r e))) m

  pub discharged_kept : (n : ℕ) (u : WorkUnit) → is_member same_unit (discharged a n) u ≡ true → is_member same_unit (discharged b n) u ≡ true
  unfolding discharged
  discharged_kept zero u m = m
  discharged_kept (suc n) u m = list_any-append (same_unit u) _ _ ∙ by _ _ (paid_at_kept n u) (discharged_kept n u) (sym (list_any-append (same_unit u) (at_record [] (paid a n) (a n)) (discharged a n)) ∙ m)
    where
      by : (x y : Bool) {v w : Bool} → (x ≡ true → v ≡ true) → (y ≡ true → w ≡ true) → (x || y) ≡ true → (v || w) ≡ true
      by x y {v} {w} f g h = ⊎_elim (λ t. or_left v w (f t)) (λ t. or_right v w (g t)) (or_cases x y h)

  -- a world that has more gives no greater gain
  pub gain_falls : (size p : ℕ) (r : Rec) → NamesThere a r → gain size b p r ≤ gain size a p r
  gain_falls size p r n = count_fewer same_unit_laws (units_beyond (discharged b size) (paid b p r)) (units_beyond (discharged a size) (paid a p r)) (λ u m.
      let h = and_parts (is_member same_unit (paid b p r) u) (not (is_member same_unit (discharged b size) u)) (sym (in_beyond (discharged b size) (paid b p r) u) ∙ m) in
      in_beyond (discharged a size) (paid a p r) u ∙ and_from _ _ (ap (λ us. is_member same_unit us u) (paid_kept p r n) ∙ h.0) (not_both _ _ (discharged_kept size u) h.1))
    where
      not_both : (x y : Bool) → (x ≡ true → y ≡ true) → not y ≡ true → not x ≡ true
      not_both true y f e = let t = f refl in rw t at e
      not_both false y f e = refl

module _ (a b : Records) (names : NamesWell a) (keeps : Keeps a b) (p : ℕ) (r : Rec) (adds : Adds a b p r) (well : NamesThere a r) where
  or_false : (x : Bool) → x ≡ (x || false)
  or_false true = refl
  or_false false = refl

  member_at : (q : ℕ) (u : WorkUnit) → is_member same_unit (at_record [] (paid b q) (b q)) u ≡ (is_member same_unit (at_record [] (paid a q) (a q)) u || (eqb q p && is_member same_unit (paid a p r) u))
  member_at q u = ⊎_elim here there (cases_eq q p)
    where
      here : q ≡ p → is_member same_unit (at_record [] (paid b q) (b q)) u ≡ (is_member same_unit (at_record [] (paid a q) (a q)) u || (eqb q p && is_member same_unit (paid a p r) u))
      here e = rw (e, adds.there, adds.fresh, eq-eqb p p refl, paid_kept a b names keeps p r well) refl

      old : (o : Option Rec) → a q ≡ o → is_member same_unit (at_record [] (paid b q) o) u ≡ (is_member same_unit (at_record [] (paid a q) o) u || false)
      old None e = refl
      old (Some s) e = rw (← paid_kept a b names keeps q s (names_there a q s (names q s e))) (or_false _)

      there : (q ≡ p → ⊥) → is_member same_unit (at_record [] (paid b q) (b q)) u ≡ (is_member same_unit (at_record [] (paid a q) (a q)) u || (eqb q p && is_member same_unit (paid a p r) u))
      there ne = rw (adds.others q ne, ne_eqb q p ne) (old (a q) refl)

  pub member_discharged : (n : ℕ) (u : WorkUnit) → is_member same_unit (discharged b n) u ≡ (is_member same_unit (discharged a n) u || (ltb p n && is_member same_unit (paid a p r) u))
  unfolding discharged
  member_discharged zero u = grind (arith, nat_tests)
  member_discharged (suc n) u = list_any-append (same_unit u) (at_record [] (paid b n) (b n)) (discharged b n) ∙ rw (member_at n u, member_discharged n u, list_any-append (same_unit u) (at_record [] (paid a n) (a n)) (discharged a n)) (by _ _ _ (eqb n p) (ltb p n) (ltb p (suc n)) step)
    where
      step : ltb p (suc n) ≡ (eqb n p || ltb p n)
      step = grind (arith, nat_tests)

      by : (x y z e l m : Bool) → m ≡ (e || l) → ((x || (e && z)) || (y || (l && z))) ≡ ((x || y) || (m && z))
      by x y z e l m h = rw h (grind arith)

  -- publishing raises the number of units discharged by exactly the gain
  pub gain_adds : (size : ℕ) → p < size → unit_count (discharged b size) ≡ unit_count (discharged a size) + gain size a p r
  gain_adds size within = count_joined same_unit_laws (discharged a size) (paid a p r) (discharged b size) (λ u. member_discharged size u ∙ rw (lt-ltb p size within) refl)
