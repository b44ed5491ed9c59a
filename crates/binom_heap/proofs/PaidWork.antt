-- Where a heap's suspension is paid for, so are the lists that it stands on.
use Rattle.std.proofs.Common.{◌≡◌, ℕ, zero, suc, ◌+◌, ◌-◌, ◌*◌, min, leb, ltb, eqb, drop, refl, sym, ap, ◌∙◌, arith, ⊎_elim, Bool, true, false, cond, ◌&&◌, Option, Some, [], ◌++◌, length, take}
use Rattle.std.specs.Set.{is_member}
use Rattle.std.proofs.lemmas.Bool.{true≢false, cases_eq, eqb-true, ne_eqb, and_parts}
use Rattle.lazy_rec.specs.declared.places.Ref.{Ref}
use Rattle.lazy_rec.specs.declared.records.Rec.{Rec}
use Rattle.lazy_rec.specs.declared.records.Rec.TheVariants.{BankTop, RtTop, HeapTop, Append, Reverse, BankRot, RtRot, HeapInsert, HeapMerge, LinkAll, PushL, PushR, DeepL, DeepR, Concat}
use Rattle.lazy_rec.specs.Meaning.{cells}
use Rattle.lazy_rec.specs.Numbers.{bits}
use Rattle.lazy_rec.specs.Units.{WorkUnit, same_unit, units_below, family_of, if_first, schedule_units, list_units, steps, paid}
use Rattle.heap_store.specs.World.{World, recs, holds}
use Rattle.heap_store.specs.Completion.{is_plain, is_next}
use Rattle.heap_store.specs.Lawful.{IsLawful, has_maker_at, is_rotated, is_bank_origin, is_bank_rotation_of, same_entries}
use Rattle.heap_store.specs.Budget.{all_discharged, is_funded}
use Rattle.heap_store.proofs.GrowthLaws.{at_true}
use Rattle.heap_store.proofs.ShowLaws.{one_value}
use Rattle.heap_store.proofs.LawfulLaws.{within, made_to}
use Rattle.heap_store.proofs.LawfulLaws.{lawful_names}
use Rattle.heap_store.proofs.UnitLaws.{discharged_by, discharged_has, run_in, run_at, member_from}
use Rattle.binom_heap.specs.Work.{is_heap_work}
use Rattle.binom_heap.proofs.ListUnits.{list_units_is, StandsOn, below_unit, origin_of, in_right}

-- what a suspension of a heap is shown by: a top
pub record ShownByTop (w : World) (p : ℕ) (u : WorkUnit) : Type 0 where
  pub place : ℕ
  pub list : Ref
  pub size : ℕ
  pub owed : ℕ
  pub here : recs w place ≡ Some (HeapTop list size owed)
  pub shows : is_member same_unit (take (length (list_units (recs w) list.0) - owed) (list_units (recs w) list.0)) u ≡ true

-- a heap's suspension that is paid for has its lists paid for too
pub heap_need_funded : {w : World} → IsLawful w → (p : ℕ) (r : Rec) → recs w p ≡ Some r → (q : ℕ) (s : Rec) → recs w q ≡ Some s → StandsOn r q → (is_heap_work s ≡ true) → ShownByTop w p (p, 0) → is_funded w q s ≡ true
heap_need_funded {w} law p r e q s f on work top =
    own_units q s f work (λ u inside. discharged_has (recs w) (length w.nodes) top.place _ top.here (within w top.place _ top.here) u (below_unit law p r e q on 0 u inside top.list.0 (length (list_units (recs w) top.list.0) - top.owed) top.shows))
  where
    own_units : (q : ℕ) (s : Rec) → recs w q ≡ Some s → is_heap_work s ≡ true → ((u : WorkUnit) → is_member same_unit (list_units (recs w) q) u ≡ true → is_member same_unit (all_discharged w) u ≡ true) → is_funded w q s ≡ true
    own_units q (HeapInsert item list size) f work h =
        let all = list_units_is (recs w) (lawful_names law) q _ f in
        let c = steps (HeapInsert item list size) in
        let same : c + 0 ≡ c = omega arith in
        rw same (run_in (all_discharged w) q 0 c (λ j low high. h (q, j) (rw all (in_right (q, j) (list_units (recs w) list.0) (units_below q c) (member_from q 0 c j low high)))))
    own_units q (HeapMerge list1 list2 n1 n2) f work h =
        let all = list_units_is (recs w) (lawful_names law) q _ f in
        let c = steps (HeapMerge list1 list2 n1 n2) in
        let same : c + 0 ≡ c = omega arith in
        rw same (run_in (all_discharged w) q 0 c (λ j low high. h (q, j) (rw all (in_right (q, j) (list_units (recs w) list1.0 ++ list_units (recs w) list2.0) (units_below q c) (member_from q 0 c j low high)))))
    own_units q _ f work h = absurd (true≢false (sym work))

-- ---- only tops show a heap's suspensions

-- no insert and no merge makes a later suspension
no_maker : (w : World) (s r : Rec) → is_next w s r ≡ true → is_heap_work s ≡ false
no_maker w (HeapInsert _ _ _) r h = absurd (true≢false (sym h))
no_maker w (HeapMerge _ _ _ _) r h = absurd (true≢false (sym h))
no_maker w _ r h = refl

-- so none is the origin of a family of others
origin_other : {w : World} → IsLawful w → (off p : ℕ) (r : Rec) → recs w p ≡ Some r → is_heap_work r ≡ false → (family_of p r).1 ≡ off → (f : Rec) × (recs w (family_of p r).0 ≡ Some f) × (is_heap_work f ≡ false)
origin_other {w} law zero p r e t z =
    let h : cond (eqb (family_of p r).1 0) (eqb (family_of p r).0 p) (ltb (family_of p r).0 p) ≡ true = law.origins p r e in
    let own = eqb-true (family_of p r).0 p (rw z at h) in
    (r, ap (recs w) own ∙ e, t)
origin_other {w} law (suc off) p r e t z =
    let h : has_maker_at w r (family_of p r).0 (family_of p r).1 ≡ true = law.makers p r e in
    let m = made_to w (family_of p r).0 off r (rw z at h) in
    let k = origin_other law off m.place m.rec m.here (no_maker w m.rec r m.next) (ap (λ (f : ℕ × ℕ). f.1) m.family) in
    (k.0, ap (recs w) (sym (ap (λ (f : ℕ × ℕ). f.0) m.family)) ∙ k.1, k.2)

not_both : (w : World) (p : ℕ) (r s : Rec) → recs w p ≡ Some r → is_heap_work r ≡ true → recs w p ≡ Some s → is_heap_work s ≡ false → ⊥
not_both w p r s e work f other = let same = one_value r s (sym e ∙ f) in true≢false (sym work ∙ (ap is_heap_work same ∙ other))

pub shown_by_top : {w : World} → IsLawful w → (p : ℕ) (r : Rec) → recs w p ≡ Some r → is_heap_work r ≡ true → is_member same_unit (all_discharged w) (p, 0) ≡ true → ShownByTop w p (p, 0)
shown_by_top {w} law p r e work h = let s = discharged_by (recs w) (length w.nodes) (p, 0) h in by s.place s.rec s.here s.shows
  where
    -- a first record of a family, at its own origin
    first : (q : ℕ) (s : Rec) → recs w q ≡ Some s → is_heap_work s ≡ false → (off n : ℕ) → (family_of q s).1 ≡ off → is_member same_unit (if_first off (units_below (family_of q s).0 n)) (p, 0) ≡ true → ⊥
    first q s f other off n z m = ⊎_elim
        (λ (o : off ≡ 0). (
        let own : cond (eqb (family_of q s).1 0) (eqb (family_of q s).0 q) (ltb (family_of q s).0 q) ≡ true = law.origins q s f in
        let zero_off : (family_of q s).1 ≡ 0 = z ∙ o in
        let at : (family_of q s).0 ≡ q = eqb-true (family_of q s).0 q (rw zero_off at own) in
        let m' : is_member same_unit (units_below (family_of q s).0 n) (p, 0) ≡ true = rw o at m in
        let p_is : p ≡ (family_of q s).0 = origin_of (family_of q s).0 0 n (p, 0) m' in
        not_both w p r s e work (ap (recs w) (p_is ∙ at) ∙ f) other))
        (λ ne. (let e' : eqb off 0 ≡ false = ne_eqb off 0 ne in true≢false (sym (rw e' at m))))
        (cases_eq off 0)

    bank : (q front lenf rear lenr : ℕ) (o : Ref) (n tails m : ℕ) → is_rotated (recs w) front lenf o.0 n tails ≡ true → is_member same_unit (units_below o.0 m) (p, 0) ≡ true → ⊥
    bank q front lenf rear lenr o n tails m rotated k =
        let a = and_parts (holds (recs w) o.0 (is_bank_origin n) && eqb (lenf + tails) (2 * n + 1) && same_entries (cells (recs w) front) (drop tails (cells (recs w) o.0))) (cond (leb tails n) (holds (recs w) front (is_bank_rotation_of o.0 tails)) (is_plain (recs w) front)) rotated in
        let b = and_parts (holds (recs w) o.0 (is_bank_origin n) && eqb (lenf + tails) (2 * n + 1)) (same_entries (cells (recs w) front) (drop tails (cells (recs w) o.0))) a.0 in
        let c = (and_parts (holds (recs w) o.0 (is_bank_origin n)) (eqb (lenf + tails) (2 * n + 1)) b.0).0 in
        let t = at_true (is_bank_origin n) (recs w o.0) c in
        let p_is : p ≡ o.0 = origin_of o.0 0 m (p, 0) k in
        not_both w p r t.0 e work (ap (recs w) p_is ∙ t.1) (other t.0 t.2)
      where
        other : (s : Rec) → is_bank_origin n s ≡ true → is_heap_work s ≡ false
        other (BankRot _ _ _ _ _) z = refl
        other _ z = absurd (true≢false (sym z))

    scheduled : (o : Option Rec) (q : ℕ) → recs w q ≡ o → is_member same_unit (schedule_units o) (p, 0) ≡ true → ⊥
    scheduled (Some (RtRot xs rear acc left o off)) q f m =
        let k = origin_other law off q (RtRot xs rear acc left o off) f refl refl in
        let p_is : p ≡ o.0 = origin_of o.0 0 (off + 1) (p, 0) m in
        not_both w p r k.0 e work (ap (recs w) p_is ∙ k.1) k.2
    scheduled _ q f m = true≢false (sym m)

    by : (q : ℕ) (s : Rec) → recs w q ≡ Some s → is_member same_unit (paid (recs w) q s) (p, 0) ≡ true → ShownByTop w p (p, 0)
    by q (HeapTop list size owed) f m = record { place = q; list = list; size = size; owed = owed; here = f; shows = m }
    by q (BankTop rotated front lenf rear lenr o n tails) f m = absurd (turned rotated (and_parts _ _ (law.each q _ f).bank_queue).1 m)
      where
        turned : (b : Bool) → cond b (ltb o.0 q && is_rotated (recs w) front.0 lenf o.0 n tails) (eqb lenf 0 && eqb lenr 0) ≡ true → is_member same_unit (cond b (units_below o.0 (min (2 * n + 1) (1 + lenr + 2 * tails))) []) (p, 0) ≡ true → ⊥
        turned true h k = bank q front.0 lenf rear.0 lenr o n tails (min (2 * n + 1) (1 + lenr + 2 * tails)) (and_parts (ltb o.0 q) _ h).1 k
        turned false h k = true≢false (sym k)
    by q (RtTop front lenf rear lenr sched) f m = absurd (scheduled (recs w sched.0) sched.0 refl m)
    by q (Append xs ys left o off) f m = absurd (first q _ f refl off left refl m)
    by q (Reverse xs left) f m = absurd (let p_is : p ≡ q = origin_of q 0 left (p, 0) m in not_both w p r (Reverse xs left) e work (ap (recs w) p_is ∙ f) refl)
    by q (LinkAll queue len size o off) f m = absurd (first q _ f refl off (3 * len) refl m)
    by q (PushL c off t e1 e2 o size k) f m = absurd (first q _ f refl off (bits size) refl m)
    by q (PushR c off t e1 e2 o size k) f m = absurd (first q _ f refl off (bits size) refl m)
    by q (DeepL t d size o off k) f m = absurd (first q _ f refl off (bits size) refl m)
    by q (DeepR t d size o off k) f m = absurd (first q _ f refl off (bits size) refl m)
    by q (Concat off a b d o size k) f m = absurd (first q _ f refl off (bits size) refl m)
    by q _ f m = absurd (true≢false (sym m))

-- the need of an insert or a merge is paid for where that is
pub need_funded : {w : World} → IsLawful w → (p : ℕ) (r : Rec) → recs w p ≡ Some r → is_heap_work r ≡ true → is_funded w p r ≡ true → (q : ℕ) (s : Rec) → recs w q ≡ Some s → is_heap_work s ≡ true → StandsOn r q → is_funded w q s ≡ true
need_funded {w} law p r e work funded q s f work' on = heap_need_funded law p r e q s f on work' (shown_by_top law p r e work (first_shown r work funded))
  where
    first_shown : (r : Rec) → is_heap_work r ≡ true → is_funded w p r ≡ true → is_member same_unit (all_discharged w) (p, 0) ≡ true
    first_shown (HeapInsert item list size) k h = run_at (all_discharged w) p 0 (steps (HeapInsert item list size) + 0) h 0 (omega arith) (omega arith)
    first_shown (HeapMerge list1 list2 n1 n2) k h = run_at (all_discharged w) p 0 (steps (HeapMerge list1 list2 n1 n2) + 0) h 0 (omega arith) (omega arith)
    first_shown _ k h = absurd (true≢false (sym k))
