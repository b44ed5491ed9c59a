-- What the tops of heaps show first: Okasaki's debit law of lazy binomial heaps (6.4.1).
use Rattle.std.proofs.Common.{◌≡◌, ℕ, zero, suc, ◌+◌, ◌-◌, ◌≤◌, refl, sym, ap, subst, ◌∙◌, arith, Bool, true, false, cond, not, Some, List, [], ◌∷◌, ◌++◌, length, take}
use Rattle.std.specs.List.{list_all}
use Rattle.std.specs.Set.{is_member}
use Rattle.std.proofs.lemmas.Map.Made.{distinct_count-le}
use Rattle.std.proofs.lemmas.List.{append-nil, length-append, take_all}
use Rattle.std.proofs.lemmas.Bool.{true≢false, and_parts, and_from, or_left, or_right, eq-eqb}
use Rattle.lazy_rec.specs.declared.places.Ref.{Ref}
use Rattle.lazy_rec.specs.declared.places.Item.{Item}
use Rattle.lazy_rec.specs.declared.records.Rec.{Rec}
use Rattle.lazy_rec.specs.declared.records.Rec.TheVariants.{HeapTop, HeapInsert, HeapMerge}
use Rattle.lazy_rec.specs.Numbers.{bits, ones, zeros, trailing_ones}
use Rattle.lazy_rec.specs.Units.{WorkUnit, same_unit, units_below, list_units, steps, paid}
use Rattle.heap_store.specs.World.{World, recs}
use Rattle.heap_store.specs.Growth.{Grows}
use Rattle.heap_store.specs.Lawful.{IsLawful}
use Rattle.heap_store.specs.Budget.{all_discharged, are_discharged, gain_at, unit_count, units_beyond, is_funded}
use Rattle.heap_store.proofs.LawfulLaws.{lawful_names, within}
use Rattle.heap_store.proofs.UnitLaws.{discharged_has, are_discharged_up, run_in, member_from}
use Rattle.heap_store.proofs.FamilyUnits.{length-units}
use Rattle.heap_store.proofs.NameLaws.{IsPublished}
use Rattle.heap_store.proofs.GainLaws.{paid_kept}
use Rattle.binom_heap.specs.declared.heap.Top.{Top}
use Rattle.binom_heap.specs.Work.{is_heap_work}
use Rattle.binom_heap.specs.Heap.{top_record, owed_after, meld_price}
use Rattle.binom_heap.proofs.BinaryLaws.{ones_most}
use Rattle.binom_heap.proofs.ListUnits.{list_units_is, in_right}
use Rattle.binom_heap.proofs.Tops.{old_top}

-- ---- front parts of a list of units

-- units that are all seen
all_shown : (seen us : List WorkUnit) → ((u : WorkUnit) → is_member same_unit us u ≡ true → is_member same_unit seen u ≡ true) → list_all (λ u. is_member same_unit seen u) us ≡ true
all_shown seen [] h = refl
all_shown seen (u ∷ us) h = and_from (is_member same_unit seen u) _ (h u (or_left (same_unit u u) (is_member same_unit us u) (and_from _ _ (eq-eqb u.0 u.0 refl) (eq-eqb u.1 u.1 refl)))) (all_shown seen us (λ v m. h v (or_right (same_unit v u) (is_member same_unit us v) m)))

-- of the first n of a list of which the first k are seen, at most n - k are missing
pub beyond_take : (seen us : List WorkUnit) (k n : ℕ) → list_all (λ u. is_member same_unit seen u) (take k us) ≡ true → unit_count (units_beyond seen (take n us)) ≤ n - k
beyond_take seen us k n h = omega (arith, distinct_count-le same_unit (units_beyond seen (take n us)), go us k n h)
  where
    step : (u : WorkUnit) (rest : List WorkUnit) (m : ℕ) (b : Bool) → is_member same_unit seen u ≡ b → length (units_beyond seen rest) ≤ m → length (cond (not b) (u ∷ units_beyond seen rest) (units_beyond seen rest)) ≤ suc m
    step u rest m true e ih = omega (arith, ih)
    step u rest m false e ih = omega (arith, ih)

    go : (us : List WorkUnit) (k n : ℕ) → list_all (λ u. is_member same_unit seen u) (take k us) ≡ true → length (units_beyond seen (take n us)) ≤ n - k
    go us k zero h = omega arith
    go [] zero (suc n) h = omega arith
    go [] (suc k) (suc n) h = omega arith
    go (u ∷ us) zero (suc n) h = omega (arith, step u (take n us) n (is_member same_unit seen u) refl (omega (arith, go us 0 n refl)))
    go (u ∷ us) (suc k) (suc n) h =
        let p = and_parts (is_member same_unit seen u) (list_all (λ v. is_member same_unit seen v) (take k us)) h in
        let here = p.0 in
        let ih = go us k n p.1 in
        rw here (omega (arith, ih))

-- a top that owes less, over a list that has grown behind
pub owed_gain : (w : World) (p q : ℕ) (list list' : Ref) (size size' owed owed' : ℕ) (more : List WorkUnit) → recs w q ≡ Some (HeapTop list size owed) → list_units (recs w) list'.0 ≡ list_units (recs w) list.0 ++ more
    → gain_at w p (HeapTop list' size' owed') ≤ (length (list_units (recs w) list'.0) - owed') - (length (list_units (recs w) list.0) - owed)
owed_gain w p q list list' size size' owed owed' more e grown =
    let us = list_units (recs w) list.0 in
    let us' = list_units (recs w) list'.0 in
    let k = length us - owed in
    let seen : list_all (λ u. is_member same_unit (all_discharged w) u) (take k us) ≡ true = all_shown (all_discharged w) (take k us) (λ u m. discharged_has (recs w) (length w.nodes) q _ e (within w q _ e) u m) in
    let front : take k us' ≡ take k us = rw grown (take_front us more k (omega arith)) in
    beyond_take (all_discharged w) us' k (length us' - owed') (rw front seen)
  where
    take_front : (xs ys : List WorkUnit) (k : ℕ) → k ≤ length xs → take k (xs ++ ys) ≡ take k xs
    take_front xs ys zero h = refl
    take_front [] ys (suc k) h = absurd (omega (arith, h))
    take_front (x ∷ xs) ys (suc k) h = ap (λ t. x ∷ t) (take_front xs ys k (omega (arith, h)))

-- ---- inserts

-- a top that owes what a new insert leaves shows at most two units first
pub insert_gain : {w : World} → IsLawful w → (p q : ℕ) (list list' : Ref) (item : Item) (size size' owed : ℕ) → recs w q ≡ Some (HeapTop list size owed) → recs w list'.0 ≡ Some (HeapInsert item list size) → gain_at w p (HeapTop list' size' (owed_after owed size)) ≤ 2
insert_gain {w} law p q list list' item size size' owed e f =
    let t = trailing_ones size + 1 in
    let more = units_below list'.0 t in
    let all : list_units (recs w) list'.0 ≡ list_units (recs w) list.0 ++ more = list_units_is (recs w) (lawful_names law) list'.0 _ f in
    let l : length (list_units (recs w) list'.0) ≡ length (list_units (recs w) list.0) + t = ap length all ∙ (length-append (list_units (recs w) list.0) more ∙ ap (λ n. length (list_units (recs w) list.0) + n) (length-units list'.0 0 t)) in
    let g = owed_gain w p q list list' size size' owed (owed_after owed size) more e all in
    omega (arith, g, l)

-- ---- tops of the same list

-- a top that owes nothing shows what was owed
pub pay_gain : {w : World} → IsLawful w → (p q : ℕ) (t : Top) → recs w q ≡ Some (top_record t) → gain_at w p (HeapTop t.list t.size 0) ≤ zeros t.size
pay_gain {w} law p q t e =
    let g = owed_gain w p q t.list t.list t.size t.size t.owed 0 [] e (sym (append-nil (list_units (recs w) t.list.0))) in
    omega (arith, g, (old_top law q t e).owed)

-- ---- tops that show nothing new

-- what is published is shown
pub top_shown : (w : World) (p q : ℕ) (t : Top) → recs w q ≡ Some (top_record t) → are_discharged w (paid (recs w) p (top_record t)) ≡ true
top_shown w p q t e = all_shown (all_discharged w) (paid (recs w) p (top_record t)) (λ u m. discharged_has (recs w) (length w.nodes) q _ e (within w q _ e) u m)

-- what is shown stays so
pub shown_up : {a b : World} → IsLawful a → Grows a b → (p : ℕ) (t : Top) → IsPublished (recs a) t.list.0 → are_discharged a (paid (recs a) p (top_record t)) ≡ true → are_discharged b (paid (recs b) p (top_record t)) ≡ true
shown_up {a} {b} law x p t is h =
    subst (λ us. are_discharged b us ≡ true) (paid_kept (recs a) (recs b) (lawful_names law) x.records p (top_record t) (is, tt)) (are_discharged_up a b (lawful_names law) x.records (paid (recs a) p (top_record t)) h)

pub shown_gain : (w : World) (p : ℕ) (t : Top) → are_discharged w (paid (recs w) p (top_record t)) ≡ true → gain_at w p (top_record t) ≤ 0
shown_gain w p t h =
    let us = list_units (recs w) t.list.0 in
    let k = length us - t.owed in
    omega (arith, beyond_take (all_discharged w) us k k h)

-- ---- melds

lacks_append : (seen xs ys : List WorkUnit) → length (units_beyond seen (xs ++ ys)) ≡ length (units_beyond seen xs) + length (units_beyond seen ys)
lacks_append seen [] ys = omega arith
lacks_append seen (x ∷ xs) ys = go (not (is_member same_unit seen x)) (lacks_append seen xs ys)
  where
    go : (b : Bool) → length (units_beyond seen (xs ++ ys)) ≡ length (units_beyond seen xs) + length (units_beyond seen ys) → length (cond b (x ∷ units_beyond seen (xs ++ ys)) (units_beyond seen (xs ++ ys))) ≡ length (cond b (x ∷ units_beyond seen xs) (units_beyond seen xs)) + length (units_beyond seen ys)
    go true e = omega (arith, e)
    go false e = e

lacks_most : (seen us : List WorkUnit) → length (units_beyond seen us) ≤ length us
lacks_most seen [] = omega arith
lacks_most seen (u ∷ us) = go (not (is_member same_unit seen u)) (lacks_most seen us)
  where
    go : (b : Bool) → length (units_beyond seen us) ≤ length us → length (cond b (u ∷ units_beyond seen us) (units_beyond seen us)) ≤ suc (length us)
    go true e = omega (arith, e)
    go false e = omega (arith, e)

-- of a list whose first units are seen
lacks_last : (seen us : List WorkUnit) (k : ℕ) → list_all (λ u. is_member same_unit seen u) (take k us) ≡ true → length (units_beyond seen us) ≤ length us - k
lacks_last seen us zero h = let l = lacks_most seen us in omega (arith, l)
lacks_last seen [] (suc k) h = omega arith
lacks_last seen (u ∷ us) (suc k) h =
    let p = and_parts (is_member same_unit seen u) (list_all (λ v. is_member same_unit seen v) (take k us)) h in
    let here = p.0 in
    let ih = lacks_last seen us k p.1 in
    rw here (omega (arith, ih))

-- of its list a top that is shown lacks what it owes
top_lacks : (w : World) (p : ℕ) (t : Top) → are_discharged w (paid (recs w) p (top_record t)) ≡ true → length (units_beyond (all_discharged w) (list_units (recs w) t.list.0)) ≤ t.owed
top_lacks w p t h =
    let us = list_units (recs w) t.list.0 in
    omega (arith, lacks_last (all_discharged w) us (length us - t.owed) h)

-- the top of a merge, which owes nothing, shows the merge's own units and what both others owe
pub meld_gain : {w : World} → IsLawful w → (p q : ℕ) (t1 t2 : Top) (list' : Ref) (size' : ℕ) → are_discharged w (paid (recs w) q (top_record t1)) ≡ true → are_discharged w (paid (recs w) q (top_record t2)) ≡ true → recs w list'.0 ≡ Some (HeapMerge t1.list t2.list t1.size t2.size)
    → gain_at w p (HeapTop list' size' 0) ≤ meld_price t1 t2
meld_gain {w} law p q t1 t2 list' size' h1 h2 f =
    let seen = all_discharged w in
    let us1 = list_units (recs w) t1.list.0 in
    let us2 = list_units (recs w) t2.list.0 in
    let c = 1 + ones t1.size + ones t2.size in
    let own = units_below list'.0 c in
    let all : list_units (recs w) list'.0 ≡ (us1 ++ us2) ++ own = list_units_is (recs w) (lawful_names law) list'.0 _ f in
    let shown : take (length (list_units (recs w) list'.0) - 0) (list_units (recs w) list'.0) ≡ list_units (recs w) list'.0 = take_all (length (list_units (recs w) list'.0) - 0) (list_units (recs w) list'.0) (omega arith) in
    let d = distinct_count-le same_unit (units_beyond seen (list_units (recs w) list'.0)) in
    let a1 = lacks_append seen (us1 ++ us2) own in
    let a2 = lacks_append seen us1 us2 in
    let l1 = top_lacks w q t1 h1 in
    let l2 = top_lacks w q t2 h2 in
    let m = lacks_most seen own in
    let n = length-units list'.0 0 c in
    let b : length (units_beyond seen (list_units (recs w) list'.0)) ≤ meld_price t1 t2 = rw all (omega (arith, a1, a2, l1, l2, m, n)) in
    let k : unit_count (units_beyond seen (list_units (recs w) list'.0)) ≤ meld_price t1 t2 = omega (arith, d, b) in
    rw shown k

-- which is at most what the due of a meld pays
pub price_most : {w : World} → IsLawful w → (p q : ℕ) (t u : Top) → recs w p ≡ Some (top_record t) → recs w q ≡ Some (top_record u) → meld_price t u ≤ bits t.size + bits u.size + 1
price_most law p q t u e f = omega (arith, (old_top law p t e).owed, (old_top law q u f).owed, ones_most t.size, ones_most u.size)

-- ---- a list that a paid top shows

pub paid_list : {w : World} → IsLawful w → (top : ℕ) (list : Ref) (size : ℕ) (r : Rec) → recs w top ≡ Some (HeapTop list size 0) → recs w list.0 ≡ Some r → is_heap_work r ≡ true → is_funded w list.0 r ≡ true
paid_list {w} law top list size r e f work = own r f work
  where
    shown : (u : WorkUnit) → is_member same_unit (list_units (recs w) list.0) u ≡ true → is_member same_unit (all_discharged w) u ≡ true
    shown u m = discharged_has (recs w) (length w.nodes) top _ e (within w top _ e) u (let z = take_all (length (list_units (recs w) list.0) - 0) (list_units (recs w) list.0) (omega arith) in rw z m)

    own : (r : Rec) → recs w list.0 ≡ Some r → is_heap_work r ≡ true → is_funded w list.0 r ≡ true
    own (HeapInsert item l n) f h =
        let all = list_units_is (recs w) (lawful_names law) list.0 _ f in
        let c = steps (HeapInsert item l n) in
        let same : c + 0 ≡ c = omega arith in
        rw same (run_in (all_discharged w) list.0 0 c (λ j low high. shown (list.0, j) (rw all (in_right (list.0, j) (list_units (recs w) l.0) (units_below list.0 c) (member_from list.0 0 c j low high)))))
    own (HeapMerge l m n k) f h =
        let all = list_units_is (recs w) (lawful_names law) list.0 _ f in
        let c = steps (HeapMerge l m n k) in
        let same : c + 0 ≡ c = omega arith in
        rw same (run_in (all_discharged w) list.0 0 c (λ j low high. shown (list.0, j) (rw all (in_right (list.0, j) (list_units (recs w) l.0 ++ list_units (recs w) m.0) (units_below list.0 c) (member_from list.0 0 c j low high)))))
    own _ f h = absurd (true≢false (sym h))
