-- The units of a suspension, and that different suspensions of a lawful world have different ones.
use Rattle.std.proofs.Common.{◌≡◌, ℕ, zero, suc, ◌<◌, ◌≤◌, ◌+◌, ◌-◌, ◌*◌, refl, sym, ap, ◌∙◌, arith, subst, eqb, ltb, ⊎_elim, Bool, true, false, ◌&&◌, Option, Some, None, length}
use Rattle.std.specs.List.{AllByRecursion, IsDistinct}
use Rattle.std.specs.Set.{is_member}
use Rattle.std.proofs.lemmas.Bool.{true≢false, cases_eq, cases_lt, ne_eqb, eqb-true, and_parts, or_cases, ltb-true}
use Rattle.lazy_rec.specs.declared.records.Rec.{Rec}
use Rattle.lazy_rec.specs.declared.records.Rec.TheVariants.{Cons, LCons, Append, Reverse, BankRot, RtRot, HeapInsert, HeapMerge, LinkAll, PushL, PushR, DeepL, DeepR, Concat}
use Rattle.lazy_rec.specs.Tests.{is_some_and}
use Rattle.lazy_rec.specs.Named.{at_record, is_pending}
use Rattle.lazy_rec.specs.Units.{WorkUnit, same_unit, units_from, first_unit, units, family_of, cost}
use Rattle.heap_store.specs.World.{World, recs, holds, value_at, same_place}
use Rattle.heap_store.specs.Completion.{is_append, is_bank_rotation, is_rt_rotation, is_next, first_cell, on_cell, on_list_cell, is_cell, Made, empty, one, deep, Middle, tree, push_left, push_right, without_left, without_right, shorter_left, shorter_right, between, is_middle, is_next_middle, made_tree, next_tree}
use Rattle.heap_store.specs.Lawful.{IsLawful, has_maker_at}
use Rattle.heap_store.proofs.GrowthLaws.{at_true}
use Rattle.heap_store.proofs.LawfulLaws.{made_to}
use Rattle.heap_store.proofs.ShowLaws.{one_value}

-- ---- runs of units

pub length-units : (o first k : ℕ) → length (units_from o first k) ≡ k
length-units o first zero = refl
length-units o first (suc k) = ap suc (length-units o (suc first) k)

pub record IsUnitOf (o first k : ℕ) (u : WorkUnit) : Type 0 where
  pub origin : u.0 ≡ o
  pub low : first ≤ u.1
  pub high : u.1 < first + k

pub unit_in : (o first k : ℕ) (u : WorkUnit) → is_member same_unit (units_from o first k) u ≡ true → IsUnitOf o first k u
unit_in o first zero u m = absurd (true≢false (sym m))
unit_in o first (suc k) u m = ⊎_elim
    (λ e. let h = and_parts (eqb u.0 o) (eqb u.1 first) e in let i = eqb-true _ _ h.1 in record { origin = eqb-true _ _ h.0; low = omega (arith, i); high = omega (arith, i) })
    (λ e. let t = unit_in o (suc first) k u e in record { origin = t.origin; low = omega (arith, t.low); high = omega (arith, t.high) })
    (or_cases (same_unit u (o, first)) (is_member same_unit (units_from o (suc first) k) u) m)

apart_units : (o i first k : ℕ) → i < first → AllByRecursion (λ u. same_unit (o, i) u ≡ false) (units_from o first k)
apart_units o i first zero l = tt
apart_units o i first (suc k) l = (and_false (eqb o o) (ne_eqb i first (λ e. absurd (omega (arith, e)))), apart_units o i (suc first) k (omega arith))
  where
    and_false : (a : Bool) {b : Bool} → b ≡ false → (a && b) ≡ false
    and_false true e = e
    and_false false e = refl

pub distinct-units : (o first k : ℕ) → IsDistinct same_unit (units_from o first k)
unfolding IsDistinct
distinct-units o first zero = tt
distinct-units o first (suc k) = (apart_units o first (suc first) k (omega arith), distinct-units o (suc first) k)

-- ---- what a suspension makes next

abbrev pub is_link : Rec → Bool
is_link (LinkAll _ _ _ _ _) = true
is_link _ = false

-- how many units each offset but the last has
wide : Bool → ℕ
wide true = 3
wide false = 1

starts : Bool → ℕ → ℕ
starts true off = 3 * off
starts false off = off

starts_suc : (b : Bool) (i : ℕ) → starts b i + wide b ≡ starts b (suc i)
unfolding starts wide
starts_suc true i = omega arith
starts_suc false i = omega arith

first_is : (r : Rec) (off : ℕ) → first_unit r off ≡ starts (is_link r) off
unfolding starts
first_is (LinkAll _ _ _ _ _) off = refl
first_is _ off = refl

first_cell_to : (w : World) (p : ℕ) (test : Bool → ℕ → ℕ → Bool) → first_cell w p test ≡ true → (c : Bool) × (v : ℕ) × (rest : ℕ) × (test c v rest ≡ true)
first_cell_to w p test h = by (value_at w p) h
  where
    by : (o : Option Rec) → at_record false (on_cell test) o ≡ true → (c : Bool) × (v : ℕ) × (rest : ℕ) × (test c v rest ≡ true)
    by None k = absurd (true≢false (sym k))
    by (Some (Cons c v rest)) k = (c, v, rest.0, k)
    by (Some _) k = absurd (true≢false (sym k))

no_link_middle : (w : World) (o off : ℕ) (m : Middle) (q : Rec) → is_link q ≡ true → is_middle w o off m q ≡ true → ⊥
no_link_middle w o off (tree t) (LinkAll _ _ _ _ _) l h = absurd (true≢false (sym h))
no_link_middle w o off (push_left t ns) (LinkAll _ _ _ _ _) l h = absurd (true≢false (sym h))
no_link_middle w o off (push_right t ns) (LinkAll _ _ _ _ _) l h = absurd (true≢false (sym h))
no_link_middle w o off (without_left m d) (LinkAll _ _ _ _ _) l h = absurd (true≢false (sym h))
no_link_middle w o off (without_right m d) (LinkAll _ _ _ _ _) l h = absurd (true≢false (sym h))
no_link_middle w o off (shorter_left es m r) (LinkAll _ _ _ _ _) l h = absurd (true≢false (sym h))
no_link_middle w o off (shorter_right l' m es) (LinkAll _ _ _ _ _) l h = absurd (true≢false (sym h))
no_link_middle w o off (between l' r ns) (LinkAll _ _ _ _ _) l h = absurd (true≢false (sym h))
no_link_middle w o off m _ l h = absurd (true≢false (sym l))

no_link_tree : (w : World) (r s : Rec) → is_link s ≡ true → next_tree w r s ≡ true → ⊥
no_link_tree w r s l h = by (made_tree w r) h
  where
    by : (o : Option Made) → is_some_and (λ t. is_next_middle w (family_of 0 r).0 (suc (family_of 0 r).1) t s) o ≡ true → ⊥
    by None k = absurd (true≢false (sym k))
    by (Some empty) k = absurd (true≢false (sym k))
    by (Some (one e)) k = absurd (true≢false (sym k))
    by (Some (deep a m b)) k = no_link_middle w (family_of 0 r).0 (suc (family_of 0 r).1) m s l k

not_link : (s : Rec) → (is_link s ≡ true → ⊥) → is_link s ≡ false
not_link s h = by (is_link s) refl
  where
    by : (b : Bool) → is_link s ≡ b → is_link s ≡ false
    by true e = absurd (h e)
    by false e = e

rt_no_link : (w : World) (rest : ℕ) (a b : ℕ → Bool) (left o off : ℕ) (s : Rec) → is_rt_rotation w rest a b left o off s ≡ true → is_link s ≡ false
rt_no_link w rest a b left o off (LinkAll _ _ _ _ _) k = absurd (true≢false (sym k))
rt_no_link w rest a b left o off _ k = refl

not_link_rt : (w : World) (rest acc left o off : ℕ) (s u : Rec) → on_list_cell (λ c v rear'. is_rt_rotation w rest (same_place w rear') (λ acc'. holds (recs w) acc' (is_cell c v (same_place w acc))) left o off s) u ≡ true → is_link s ≡ false
not_link_rt w rest acc left o off s (LCons c v rear') k = rt_no_link w rest (same_place w rear'.0) (λ acc'. holds (recs w) acc' (is_cell c v (same_place w acc))) left o off s k
not_link_rt w rest acc left o off s _ k = absurd (true≢false (sym k))

-- only a link makes a link
pub next_link : (w : World) (r s : Rec) → is_next w r s ≡ true → is_link s ≡ is_link r
next_link w (Append xs ys left o i) s h = let t = first_cell_to w xs.0 _ (and_parts (ltb 1 left) _ h).1 in by s t.2 t.3
  where
    by : (s : Rec) (rest : ℕ) → is_append w rest ys.0 (left - 1) o.0 (suc i) s ≡ true → is_link s ≡ false
    by (LinkAll _ _ _ _ _) rest k = absurd (true≢false (sym k))
    by _ rest k = refl
next_link w (BankRot xs rear left o i) s h = let t = first_cell_to w xs.0 _ (and_parts (ltb 0 left) _ h).1 in by s t.2 t.3
  where
    by : (s : Rec) (rest : ℕ) → is_bank_rotation w rest rear.0 (left - 1) o.0 (suc i) s ≡ true → is_link s ≡ false
    by (LinkAll _ _ _ _ _) rest k = absurd (true≢false (sym k))
    by _ rest k = refl
next_link w (RtRot xs rear acc left o i) s h = let t = first_cell_to w xs.0 _ (and_parts (ltb 0 left) _ h).1 in let k = at_true _ (recs w rear.0) t.3 in not_link_rt w t.2 acc.0 (left - 1) o.0 (suc i) s k.0 k.2
next_link w (LinkAll queue len z o i) (LinkAll _ _ _ _ _) h = refl
next_link w (LinkAll queue len z o i) _ h = absurd (true≢false (sym (and_parts (ltb 1 len) _ h).1))
next_link w (PushL c i t e1 e2 o z k) s h = not_link s (λ l. no_link_tree w (PushL c i t e1 e2 o z k) s l h)
next_link w (PushR c i t e1 e2 o z k) s h = not_link s (λ l. no_link_tree w (PushR c i t e1 e2 o z k) s l h)
next_link w (DeepL m d z o i k) s h = not_link s (λ l. no_link_tree w (DeepL m d z o i k) s l h)
next_link w (DeepR m d z o i k) s h = not_link s (λ l. no_link_tree w (DeepR m d z o i k) s l h)
next_link w (Concat i a b d o z k) s h = not_link s (λ l. no_link_tree w (Concat i a b d o z k) s l h)
next_link w _ s h = absurd (true≢false (sym h))

-- one that makes another has just the units of its own offset
next_cost : (w : World) (r s : Rec) → is_next w r s ≡ true → cost r ≡ wide (is_link r)
unfolding wide
next_cost w (Append xs ys left o i) s h = refl
next_cost w (BankRot xs rear left o i) s h = let l = ltb-true 0 left (and_parts (ltb 0 left) _ h).0 in rw (ne_eqb left 0 (λ e. absurd (omega (arith, e, l)))) refl
next_cost w (RtRot xs rear acc left o i) s h = refl
next_cost w (LinkAll queue len z o i) s h = refl
next_cost w (PushL c i t e1 e2 o z k) s h = refl
next_cost w (PushR c i t e1 e2 o z k) s h = refl
next_cost w (DeepL m d z o i k) s h = refl
next_cost w (DeepR m d z o i k) s h = refl
next_cost w (Concat i a b d o z k) s h = refl
next_cost w _ s h = absurd (true≢false (sym h))

-- ---- units of a lawful world

-- what isn't pending has no units
pub no_cost : (r : Rec) → is_pending r ≡ false → cost r ≡ 0
no_cost (Append _ _ _ _ _) e = absurd (true≢false e)
no_cost (Reverse _ _) e = absurd (true≢false e)
no_cost (BankRot _ _ _ _ _) e = absurd (true≢false e)
no_cost (RtRot _ _ _ _ _ _) e = absurd (true≢false e)
no_cost (HeapInsert _ _ _) e = absurd (true≢false e)
no_cost (HeapMerge _ _ _ _) e = absurd (true≢false e)
no_cost (LinkAll _ _ _ _ _) e = absurd (true≢false e)
no_cost (PushL _ _ _ _ _ _ _ _) e = absurd (true≢false e)
no_cost (PushR _ _ _ _ _ _ _ _) e = absurd (true≢false e)
no_cost (DeepL _ _ _ _ _ _) e = absurd (true≢false e)
no_cost (DeepR _ _ _ _ _ _) e = absurd (true≢false e)
no_cost (Concat _ _ _ _ _ _ _) e = absurd (true≢false e)
no_cost _ e = refl

-- a suspension of a family at an offset
pub record IsSuspAt (w : World) (o i p : ℕ) (r : Rec) : Type 0 where
  pub here : recs w p ≡ Some r
  pub pending : is_pending r ≡ true
  pub family : family_of p r ≡ (o, i)

module _ (w : World) (law : IsLawful w) where
  -- the units of a later offset come after those of an earlier one
  units_after : (o i j p q : ℕ) (r s : Rec) → IsSuspAt w o i p r → IsSuspAt w o j q s → i < j → starts (is_link r) i + cost r ≤ starts (is_link s) j
  units_after o i zero p q r s a b l = absurd (omega arith)
  units_after o i (suc j) p q r s a b l =
      let m = made_to w o j s (subst (λ (z : ℕ × ℕ). has_maker_at w s z.0 z.1 ≡ true) b.family (law.makers q s b.here)) in
      let c : IsSuspAt w o j m.place m.rec = record { here = m.here; pending = m.pending; family = m.family } in
      let link = next_link w m.rec s m.next in
      let next = next_cost w m.rec s m.next in
      let end : starts (is_link m.rec) j + wide (is_link m.rec) ≡ starts (is_link s) (suc j) = starts_suc (is_link m.rec) j ∙ ap (λ b. starts b (suc j)) (sym link) in
      ⊎_elim
      (λ e. let at : p ≡ m.place = law.one p r a.here a.pending m.place m.rec m.here m.pending (a.family ∙ (ap (λ k. (o, k)) e ∙ sym m.family)) in
      let same : r ≡ m.rec = one_value r m.rec (sym a.here ∙ (ap (recs w) at ∙ m.here)) in
      omega (arith, end, next, ap (λ t. starts (is_link t) i) same, ap (starts (is_link m.rec)) e, ap cost same))
      (λ ne. omega (arith, end, next, units_after o i j p m.place r m.rec a c (omega arith)))
      (cases_eq i j)

  -- two suspensions with one unit are at one place
  pub one_place : (p q : ℕ) (r s : Rec) (u : WorkUnit) → recs w p ≡ Some r → recs w q ≡ Some s → is_member same_unit (units p r) u ≡ true → is_member same_unit (units q s) u ≡ true → p ≡ q
  one_place p q r s u e f m n =
      let x = unit_in (family_of p r).0 (first_unit r (family_of p r).1) (cost r) u m in
      let y = unit_in (family_of q s).0 (first_unit s (family_of q s).1) (cost s) u n in
      let i = (family_of p r).1 in
      let j = (family_of q s).1 in
      let o = (family_of p r).0 in
      let same : (family_of q s).0 ≡ o = sym y.origin ∙ x.origin in
      let a : IsSuspAt w o i p r = record { here = e; pending = is_susp r x; family = refl } in
      let b : IsSuspAt w o j q s = record { here = f; pending = is_susp s y; family = ap (λ z. (z, j)) same } in
      let first = first_is r i in
      let second = first_is s j in
      ⊎_elim
      (λ l. absurd (omega (arith, units_after o i j p q r s a b l, x.high, y.low, first, second)))
      (λ ge. ⊎_elim
      (λ same_off. law.one p r e a.pending q s f b.pending (ap (λ k. (o, k)) same_off ∙ sym b.family))
      (λ ne. absurd (omega (arith, units_after o j i q p s r b a (omega arith), y.high, x.low, first, second)))
      (cases_eq i j))
      (cases_lt i j)
    where
      is_susp : (t : Rec) {o first : ℕ} → IsUnitOf o first (cost t) u → is_pending t ≡ true
      is_susp t {o} {first} h = by (is_pending t) refl
        where
          by : (b : Bool) → is_pending t ≡ b → is_pending t ≡ true
          by true e = e
          by false e = absurd (omega (arith, no_cost t e, h.low, h.high))
