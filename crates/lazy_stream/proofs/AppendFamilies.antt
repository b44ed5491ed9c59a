-- Families of appends: each append was made by the one before it, and the first one shows the units of all.
use Rattle.std.proofs.Common.{◌≡◌, ℕ, zero, suc, ◌+◌, ◌-◌, ◌<◌, ◌≤◌, eqb, ltb, refl, sym, ap, ◌∙◌, arith, Bool, true, false, ◌&&◌, Option, Some, None, [], length}
use Rattle.std.proofs.lemmas.Bool.{true≢false, and_parts, eqb-true, ltb-true, ne_eqb, cond-false}
use Rattle.lazy_rec.specs.declared.places.Ref.{Ref}
use Rattle.lazy_rec.specs.declared.records.Rec.{Rec}
use Rattle.lazy_rec.specs.declared.records.Rec.TheVariants.{Cons, LCons, Append, Reverse, BankRot, RtRot, LinkAll, PushL, PushR, DeepL, DeepR, Concat}
use Rattle.lazy_rec.specs.Tests.{is_some_and}
use Rattle.lazy_rec.specs.Meaning.{cells}
use Rattle.lazy_rec.specs.Units.{family_of, units_below, paid}
use Rattle.heap_store.specs.World.{World, recs, holds, value_at, same_place}
use Rattle.heap_store.specs.Completion.{Middle, tree, push_left, push_right, without_left, without_right, shorter_left, shorter_right, between, Made, empty, one, deep, on_cell, on_list_cell, is_cell, first_cell, is_append, is_rt_rotation, next_append, is_middle, is_next_middle, made_tree, next_tree, is_next}
use Rattle.heap_store.specs.Lawful.{IsLawful}
use Rattle.heap_store.specs.Budget.{all_discharged, unit_count, units_beyond, gain_at, is_funded}
use Rattle.heap_store.proofs.GrowthLaws.{at_true}
use Rattle.heap_store.proofs.LawfulLaws.{within, made_to}
use Rattle.heap_store.proofs.UnitLaws.{discharged_has, member_from, run_in, beyond_below}

-- ---- what makes an append

-- an append that makes the next one
pub record AppendBefore (s : Rec) (o total off : ℕ) : Type 0 where
  pub xs : Ref
  pub ys : Ref
  pub left : ℕ
  pub origin : Ref
  pub before : ℕ
  pub is : s ≡ Append xs ys left origin before
  pub total_is : left + before ≡ total
  pub origin_is : origin.0 ≡ o
  pub next : suc before ≡ off

no_middle : (w : World) (o off : ℕ) (m : Middle) (xs ys : Ref) (left : ℕ) (origin : Ref) (i : ℕ) → is_middle w o off m (Append xs ys left origin i) ≡ true → ⊥
no_middle w o off (tree t) xs ys left origin i h = true≢false (sym h)
no_middle w o off (push_left t ns) xs ys left origin i h = true≢false (sym h)
no_middle w o off (push_right t ns) xs ys left origin i h = true≢false (sym h)
no_middle w o off (without_left m d) xs ys left origin i h = true≢false (sym h)
no_middle w o off (without_right m d) xs ys left origin i h = true≢false (sym h)
no_middle w o off (shorter_left es m r) xs ys left origin i h = true≢false (sym h)
no_middle w o off (shorter_right l m es) xs ys left origin i h = true≢false (sym h)
no_middle w o off (between l r ns) xs ys left origin i h = true≢false (sym h)

no_tree : (w : World) (s : Rec) (xs ys : Ref) (left : ℕ) (origin : Ref) (i : ℕ) → next_tree w s (Append xs ys left origin i) ≡ true → ⊥
no_tree w s xs ys left origin i h = go (made_tree w s) h
  where
    go : (t : Option Made) → is_some_and (λ t. is_next_middle w (family_of 0 s).0 (suc (family_of 0 s).1) t (Append xs ys left origin i)) t ≡ true → ⊥
    go None k = true≢false (sym k)
    go (Some empty) k = true≢false (sym k)
    go (Some (one e)) k = true≢false (sym k)
    go (Some (deep l m r)) k = no_middle w (family_of 0 s).0 (suc (family_of 0 s).1) m xs ys left origin i k

-- a first cell of which a test never holds
no_first : (w : World) (p : ℕ) (test : Bool → ℕ → ℕ → Bool) → ((c : Bool) (v rest : ℕ) → test c v rest ≡ true → ⊥) → first_cell w p test ≡ true → ⊥
no_first w p test never h = let k = at_true (on_cell test) (value_at w p) h in by k.0 k.2
  where
    by : (r : Rec) → on_cell test r ≡ true → ⊥
    by (Cons c v rest) e = never c v rest.0 e
    by _ e = true≢false (sym e)

no_list : (w : World) (test : Bool → ℕ → ℕ → Bool) (p : ℕ) → ((c : Bool) (v rest : ℕ) → test c v rest ≡ true → ⊥) → holds (recs w) p (on_list_cell test) ≡ true → ⊥
no_list w test p never h = let k = at_true (on_list_cell test) (recs w p) h in by k.0 k.2
  where
    by : (r : Rec) → on_list_cell test r ≡ true → ⊥
    by (LCons c v rest) e = never c v rest.0 e
    by _ e = true≢false (sym e)

-- only an append makes an append
before_append : (w : World) (s : Rec) (xs ys : Ref) (left : ℕ) (origin : Ref) (off : ℕ) → is_next w s (Append xs ys left origin off) ≡ true → AppendBefore s origin.0 (left + off) off
before_append w (Append xs' ys' left' origin' off') xs ys left origin off h =
    let p = and_parts (ltb 1 left') (first_cell w xs'.0 (λ c v rest. next_append w rest ys'.0 left' origin'.0 off' (Append xs ys left origin off))) h in
    let k = at_true (on_cell (λ c v rest. next_append w rest ys'.0 left' origin'.0 off' (Append xs ys left origin off))) (value_at w xs'.0) p.1 in
    by (ltb-true 1 left' p.0) k.0 k.2
  where
    parts : 1 < left' → (rest : ℕ) → is_append w rest ys'.0 (left' - 1) origin'.0 (suc off') (Append xs ys left origin off) ≡ true → AppendBefore (Append xs' ys' left' origin' off') origin.0 (left + off) off
    parts more rest t =
        let a = and_parts (same_place w rest xs.0 && same_place w ys'.0 ys.0 && eqb (left' - 1) left && eqb origin'.0 origin.0) (eqb (suc off') off) t in
        let b = and_parts (same_place w rest xs.0 && same_place w ys'.0 ys.0 && eqb (left' - 1) left) (eqb origin'.0 origin.0) a.0 in
        let c = and_parts (same_place w rest xs.0 && same_place w ys'.0 ys.0) (eqb (left' - 1) left) b.0 in
        let l = eqb-true (left' - 1) left c.1 in
        let o = eqb-true (suc off') off a.1 in
        record { xs = xs'; ys = ys'; left = left'; origin = origin'; before = off'; is = refl; total_is = omega (arith, l, o, more); origin_is = eqb-true origin'.0 origin.0 b.1; next = o }

    by : 1 < left' → (r : Rec) → on_cell (λ c v rest. next_append w rest ys'.0 left' origin'.0 off' (Append xs ys left origin off)) r ≡ true → AppendBefore (Append xs' ys' left' origin' off') origin.0 (left + off) off
    by more (Cons c v rest) t = parts more rest.0 t
    by more _ t = absurd (true≢false (sym t))
before_append w (BankRot xs' rear' left' origin' off') xs ys left origin off h = absurd (no_first w xs'.0 _ (λ c v rest k. true≢false (sym k)) (and_parts (ltb 0 left') _ h).1)
before_append w (RtRot xs' rear' acc' left' origin' off') xs ys left origin off h = absurd (no_first w xs'.0 _ (λ c v rest k. no_list w (λ c v rear. is_rt_rotation w rest (same_place w rear) (λ a. holds (recs w) a (is_cell c v (same_place w acc'.0))) (left' - 1) origin'.0 (suc off') (Append xs ys left origin off)) rear'.0 (λ c v rear z. true≢false (sym z)) k) (and_parts (ltb 0 left') _ h).1)
before_append w (PushL c i t e1 e2 o z k) xs ys left origin off h = absurd (no_tree w (PushL c i t e1 e2 o z k) xs ys left origin off h)
before_append w (PushR c i t e1 e2 o z k) xs ys left origin off h = absurd (no_tree w (PushR c i t e1 e2 o z k) xs ys left origin off h)
before_append w (DeepL m d z o i k) xs ys left origin off h = absurd (no_tree w (DeepL m d z o i k) xs ys left origin off h)
before_append w (DeepR m d z o i k) xs ys left origin off h = absurd (no_tree w (DeepR m d z o i k) xs ys left origin off h)
before_append w (Concat i l r d o z k) xs ys left origin off h = absurd (no_tree w (Concat i l r d o z k) xs ys left origin off h)
before_append w (LinkAll queue len size o i) xs ys left origin off h = absurd (true≢false (sym (and_parts (ltb 1 len) false h).1))
before_append w _ xs ys left origin off h = absurd (true≢false (sym h))

-- ---- the first append of a family

-- it has as many cells as a later one and its offset
pub record AppendFirst (w : World) (o total : ℕ) : Type 0 where
  pub xs : Ref
  pub ys : Ref
  pub origin : Ref
  pub here : recs w o ≡ Some (Append xs ys total origin 0)
  pub origin_is : origin.0 ≡ o

pub append_first : {w : World} → IsLawful w → (off p : ℕ) (xs ys : Ref) (left : ℕ) (o : Ref) → recs w p ≡ Some (Append xs ys left o off) → AppendFirst w o.0 (left + off)
append_first {w} law zero p xs ys left o e =
    let same : o.0 ≡ p = eqb-true o.0 p (law.origins p _ e) in
    let total : left + 0 ≡ left = omega arith in
    rw (same, total) (record { xs = xs; ys = ys; origin = o; here = e; origin_is = same })
append_first {w} law (suc off) p xs ys left o e =
    let m = made_to w o.0 off (Append xs ys left o (suc off)) (law.makers p _ e) in
    let b = before_append w m.rec xs ys left o (suc off) m.next in
    let here : recs w m.place ≡ Some (Append b.xs b.ys b.left b.origin b.before) = m.here ∙ ap Some b.is in
    let same : b.before ≡ off = omega (arith, b.next) in
    let k = append_first law off m.place b.xs b.ys b.left b.origin (rw same at here) in
    let total : b.left + off ≡ left + suc off = omega (arith, b.total_is, same) in
    rw (← b.origin_is, ← total) k

-- ---- units

-- so each append is paid for, whoever asks
pub append_funded : {w : World} → IsLawful w → (p : ℕ) (xs ys : Ref) (left : ℕ) (o : Ref) (off : ℕ) → recs w p ≡ Some (Append xs ys left o off) → is_funded w p (Append xs ys left o off) ≡ true
append_funded {w} law p xs ys left o off e =
    let f = append_first law off p xs ys left o e in
    let some : 0 < left = ltb-true 0 left (and_parts (eqb left (length (cells (recs w) xs.0))) (ltb 0 left) (law.each p _ e).sizes).1 in
    run_in (all_discharged w) o.0 off 1 (λ j low high. discharged_has (recs w) (length w.nodes) o.0 _ f.here (within w o.0 _ f.here) (o.0, j) (rw f.origin_is (member_from o.0 0 (left + off) j (omega arith) (omega (arith, high, some)))))

-- and a reversal by its own record
pub reversal_funded : {w : World} → IsLawful w → (p : ℕ) (xs : Ref) (left : ℕ) → recs w p ≡ Some (Reverse xs left) → is_funded w p (Reverse xs left) ≡ true
reversal_funded {w} law p xs left e = run_in (all_discharged w) p 0 (left + 0) (λ j low high. discharged_has (recs w) (length w.nodes) p _ e (within w p _ e) (p, j) (member_from p 0 left j (omega arith) (omega (arith, high))))

-- the first units of an origin are no more than their number
first_units : (w : World) (o n : ℕ) → unit_count (units_beyond (all_discharged w) (units_below o n)) ≤ n
first_units w o n = omega (arith, beyond_below (all_discharged w) o 0 n (λ j low. absurd (omega (arith, low))))

pub append_gain : (w : World) (p : ℕ) (xs ys : Ref) (left : ℕ) (o : Ref) → gain_at w p (Append xs ys left o 0) ≤ left
append_gain w p xs ys left o = first_units w o.0 left

pub reversal_gain : (w : World) (p : ℕ) (xs : Ref) (left : ℕ) → gain_at w p (Reverse xs left) ≤ left
reversal_gain w p xs left = first_units w p left

-- a later append shows nothing
pub later_shows_none : (w : World) (p : ℕ) (xs ys : Ref) (left : ℕ) (o : Ref) (off : ℕ) → paid (recs w) p (Append xs ys left o (off + 1)) ≡ []
later_shows_none w p xs ys left o off = cond-false (eqb (off + 1) 0) (units_below o.0 left) [] (ne_eqb (off + 1) 0 (λ z. omega (arith, z)))
