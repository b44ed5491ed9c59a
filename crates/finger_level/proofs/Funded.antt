-- Finger suspensions are always paid for: the first one of a family shows all its units.
use Rattle.std.proofs.Common.{inl, ◌≡◌, ◌⊎◌, ⊎_elim, ℕ, zero, suc, ◌/◌, ◌^◌, ◌<◌, ◌≤◌, eqb, leb, refl, sym, ap, ◌∙◌, arith, pow-suc, true, ◌&&◌, Option, Some, None, List, [], ◌∷◌, ◌++◌, length, take}
use Rattle.std.specs.List.{AllByRecursion}
use Rattle.std.specs.Set.{is_member}
use Rattle.std.proofs.lemmas.List.{length-append}
use Rattle.std.proofs.lemmas.Nat.{pow_pos}
use Rattle.std.proofs.lemmas.Bool.{true≢false, and_parts, and_from, eqb-true, leb-true, cases_lt, cond-false, ne_eqb}
use Rattle.lazy_rec.specs.declared.records.Rec.{Rec}
use Rattle.lazy_rec.specs.declared.records.Rec.TheVariants.{TEmpty, Leaf, Node, Digit, Single, Deep, PushL, PushR, DeepL, DeepR, Concat}
use Rattle.lazy_rec.specs.declared.records.Sort.TheVariants as sorts
use Rattle.lazy_rec.specs.Named.{Records, NamedPlace, is_pending}
use Rattle.lazy_rec.specs.Meaning.{means, means_of, joined}
use Rattle.lazy_rec.specs.Numbers.{digits, binary, bits}
use Rattle.lazy_rec.specs.Units.{same_unit, units_below, units, family_of, paid, if_first}
use Rattle.heap_store.specs.World.{World, recs, holds}
use Rattle.heap_store.specs.Budget.{gain_at, all_discharged, is_funded}
use Rattle.heap_store.proofs.UnitLaws.{discharged_has, member_from, beyond_below}
use Rattle.heap_store.specs.Lawful.{IsLawful, level_of, is_of_level, level_from, level, if_any, size_in}
use Rattle.lazy_rec.proofs.ByPlaceLaws.{from_lower}
use Rattle.heap_store.proofs.NameLaws.{IsNamedWell}
use Rattle.heap_store.proofs.LawfulLaws.{lawful_names, within}
use Rattle.heap_store.proofs.MeaningLaws.{means_is}
use Rattle.finger_level.proofs.Records.{digit_counts, push_left_counts, push_right_counts}
use Rattle.finger_level.specs.Reads.{is_tree_rec}
use Rattle.std.proofs.Math.Pow.{pow_mono}
use Rattle.heap_store.proofs.ShowLaws.{one_value}
use Rattle.heap_store.proofs.GrowthLaws.{at_true}
use Rattle.lazy_rec.specs.Tests.{is_some_and}
use Rattle.heap_store.specs.Lawful.{is_first_tree}
use Rattle.finger_level.proofs.Families.{Suspended, suspended_tree, tree_size}
use Rattle.finger_level.proofs.Values.{element_size, is_levelled, element_levelled, digit_levelled, own_level_is, level_is, pending_levelled}

-- ---- digits of numbers

most_digits : (most d n : ℕ) → d < most → 2 ^ d ≤ n → d < length (digits most n)
most_digits zero d n low h = absurd (omega (arith, low))
most_digits (suc most) zero zero low h = absurd (omega (arith, h))
most_digits (suc most) (suc d) zero low h = absurd (let z = pow-suc 2 d in let y = pow_pos d in omega (arith, h, z, y))
most_digits (suc most) zero (suc n) low h = omega arith
most_digits (suc most) (suc d) (suc n) low h = let ih = most_digits most d (suc n / 2) (omega (arith, low)) (let z = pow-suc 2 d in omega (arith, h, z)) in omega (arith, ih)

pub level_bits : (d n : ℕ) → d < 31 → 2 ^ d ≤ n → d < bits n
unfolding binary
level_bits d n few h = most_digits 64 d n (omega (arith, few)) h

-- a larger number has no fewer digits
more_digits : (most m n : ℕ) → m ≤ n → length (digits most m) ≤ length (digits most n)
more_digits zero m n h = omega arith
more_digits (suc most) zero n h = omega arith
more_digits (suc most) (suc m) zero h = absurd (omega (arith, h))
more_digits (suc most) (suc m) (suc n) h = let ih = more_digits most (suc m / 2) (suc n / 2) (omega (arith, h)) in omega (arith, ih)

pub more_bits : (m n : ℕ) → m ≤ n → bits m ≤ bits n
unfolding binary
more_bits m n h = more_digits 64 m n h

-- ---- sizes of levels

abbrev LevelSizes : World → ℕ → Type 0
LevelSizes w p = (q : ℕ) → q < p → (r : Rec) → recs w q ≡ Some r → is_levelled r ≡ true → 2 ^ level (recs w) q ≤ length (means (recs w) q)

-- what isn't empty and is of level d holds at least 2 ^ d items
pub level_size : {w : World} → IsLawful w → (p : ℕ) (r : Rec) → recs w p ≡ Some r → is_levelled r ≡ true → 2 ^ level (recs w) p ≤ length (means (recs w) p)
level_size {w} law = from_lower (λ p. (r : Rec) → recs w p ≡ Some r → is_levelled r ≡ true → 2 ^ level (recs w) p ≤ length (means (recs w) p))
    (λ p ih r e is. rw (own_level_is law p r e, means_is (recs w) (lawful_names law) p r e) (by p r e is (λ q. ih q)))
  where
    one : (p count e : ℕ) (es : List ℕ) (ns : List NamedPlace) → 0 < count → AllByRecursion (IsNamedWell (recs w) p) (take count ((e, sorts.Element) ∷ ns)) → LevelSizes w p → 2 ^ if_any count (level (recs w) e) ≤ length (joined (means (recs w)) (take count (e ∷ es)))
    one p zero e es ns pos n ih = absurd (omega (arith, pos))
    one p (suc count) e es ns pos n ih = let x = ih e n.0.0 n.0.1 n.0.2 (element_levelled n.0.1 n.0.3) in rw length-append (omega (arith, x))

    part : (xs ys zs : List ℕ) (m : ℕ) → m ≤ length xs ⊎ m ≤ length zs → m ≤ length (xs ++ ys ++ zs)
    part xs ys zs m h = let z = length-append (xs ++ ys) zs in let y = length-append xs ys in ⊎_elim (λ k. omega (arith, k, z, y)) (λ k. omega (arith, k, z, y)) h

    by : (p : ℕ) (r : Rec) → recs w p ≡ Some r → is_levelled r ≡ true → LevelSizes w p → 2 ^ level_from (level (recs w)) r ≤ length (means_of (recs w) (means (recs w)) p r)
    by p (Leaf x) e is ih = omega arith
    by p (Node count e1 e2 e3 z k) e is ih = let d = level_from (level (recs w)) (Node count e1 e2 e3 z k) in let f = and_parts (level_of (is_of_level (recs w)) (Node count e1 e2 e3 z k) d) _ (law.each p _ e).finger in rw (← means_is (recs w) (lawful_names law) p _ e) (element_size law p d _ e refl (level_is law p _ e d ∙ f.0))
    by p (Digit count e1 e2 e3 e4 z k) e is ih = one p count e1.0 (e2.0 ∷ e3.0 ∷ e4.0 ∷ []) _ (omega (arith, (digit_counts count e1 e2 e3 e4 z k (law.each p _ e).range).least)) (lawful_names law p _ e) ih
    by p (Single elem z k) e is ih = let n = (lawful_names law p _ e).0 in ih elem.0 n.0 n.1 n.2 (element_levelled n.1 n.3)
    by p (Deep left middle right z k) e is ih = let n = (lawful_names law p _ e).0 in part (means (recs w) left.0) (means (recs w) middle.0) (means (recs w) right.0) _ (inl (ih left.0 n.0 n.1 n.2 (digit_levelled n.1 n.3)))
    by p (PushL count i tree e1 e2 o z k) e is ih = let x = one p count e1.0 (e2.0 ∷ []) _ (omega (arith, (push_left_counts tree count e1 e2 o i z k (law.each p _ e).range).least)) (lawful_names law p _ e).1 ih in let y = length-append (joined (means (recs w)) (take count (e1.0 ∷ e2.0 ∷ []))) (means (recs w) tree.0) in omega (arith, x, y)
    by p (PushR count i tree e1 e2 o z k) e is ih = let x = one p count e1.0 (e2.0 ∷ []) _ (omega (arith, (push_right_counts tree count e1 e2 o i z k (law.each p _ e).range).least)) (lawful_names law p _ e).1 ih in let y = length-append (means (recs w) tree.0) (joined (means (recs w)) (take count (e1.0 ∷ e2.0 ∷ []))) in omega (arith, x, y)
    by p (DeepL middle digit z o i k) e is ih = let n = (lawful_names law p _ e).1.0 in let x = ih digit.0 n.0 n.1 n.2 (digit_levelled n.1 n.3) in let y = length-append (means (recs w) middle.0) (means (recs w) digit.0) in omega (arith, x, y)
    by p (DeepR middle digit z o i k) e is ih = let n = (lawful_names law p _ e).1.0 in let x = ih digit.0 n.0 n.1 n.2 (digit_levelled n.1 n.3) in let y = length-append (means (recs w) digit.0) (means (recs w) middle.0) in omega (arith, x, y)
    by p (Concat i left right list o z k) e is ih = let n = (lawful_names law p _ e).1.1.0 in let x = ih list.0 n.0 n.1 n.2 (digit_levelled n.1 n.3) in let z1 = length-append (means (recs w) left.0 ++ means (recs w) list.0) (means (recs w) right.0) in let y = length-append (means (recs w) left.0) (means (recs w) list.0) in omega (arith, x, z1, y)
    by p _ e is ih = absurd (true≢false (sym is))

-- ---- finger suspensions are funded

-- a first suspension shows the units below the bits of its size
shows : (p i o z n : ℕ) → ◌≡◌ {A = ℕ × ℕ} (p, i) (o, 0) → Some z ≡ Some n → if_first i (units_below p (bits z)) ≡ units_below o (bits n)
shows p i o z n fam size =
    let a : p ≡ o = ap (λ (f : ℕ × ℕ). f.0) fam in
    let b : i ≡ 0 = ap (λ (f : ℕ × ℕ). f.1) fam in
    let c : z ≡ n = one_value z n size in
    rw (a, b, c) refl

pub first_shows : (rs : Records) (o : ℕ) (r : Rec) (n : ℕ) → is_pending r ≡ true → size_in r ≡ Some n → family_of o r ≡ (o, 0) → paid rs o r ≡ units_below o (bits n)
first_shows rs o (PushL c i t e1 e2 p z k) n pend size fam = shows p.0 i o z n fam size
first_shows rs o (PushR c i t e1 e2 p z k) n pend size fam = shows p.0 i o z n fam size
first_shows rs o (DeepL a d z p i k) n pend size fam = shows p.0 i o z n fam size
first_shows rs o (DeepR a d z p i k) n pend size fam = shows p.0 i o z n fam size
first_shows rs o (Concat i a b d p z k) n pend size fam = shows p.0 i o z n fam size
first_shows rs o (Node _ _ _ _ _ _) n pend size fam = absurd (true≢false (sym pend))
first_shows rs o (Digit _ _ _ _ _ _ _) n pend size fam = absurd (true≢false (sym pend))
first_shows rs o (Single _ _ _) n pend size fam = absurd (true≢false (sym pend))
first_shows rs o (Deep _ _ _ _ _) n pend size fam = absurd (true≢false (sym pend))
first_shows rs o _ n pend size fam = cc

one_unit : (s : ℕ) (r : Rec) → is_pending r ≡ true → is_tree_rec r ≡ true → units s r ≡ ((family_of s r).0, (family_of s r).1) ∷ []
one_unit s (PushL _ _ _ _ _ _ _ _) h k = refl
one_unit s (PushR _ _ _ _ _ _ _ _) h k = refl
one_unit s (DeepL _ _ _ _ _ _) h k = refl
one_unit s (DeepR _ _ _ _ _ _) h k = refl
one_unit s (Concat _ _ _ _ _ _ _) h k = refl
one_unit s TEmpty h k = absurd (true≢false (sym h))
one_unit s (Single _ _ _) h k = absurd (true≢false (sym h))
one_unit s (Deep _ _ _ _ _) h k = absurd (true≢false (sym h))
one_unit s _ h k = absurd (true≢false (sym k))

-- a unit that the first suspension of a family shows
unit_there : {w : World} → IsLawful w → (o i : ℕ) (r : Rec) (n : ℕ) → recs w o ≡ Some r → is_pending r ≡ true → size_in r ≡ Some n → family_of o r ≡ (o, 0) → i < bits n → is_member same_unit (all_discharged w) (o, i) ≡ true
unit_there {w} law o i r n e pend size fam low = discharged_has (recs w) (length w.nodes) o r e (within w o r e) (o, i) (rw (first_shows (recs w) o r n pend size fam) (member_from o 0 (bits n) i (omega arith) (omega (arith, low))))

record FirstFacts (o m : ℕ) (t : Rec) : Type 0 where
  pending : is_pending t ≡ true
  family : family_of o t ≡ (o, 0)
  size : ℕ
  size_is : size_in t ≡ Some size
  larger : m ≤ size

first_facts : (o : ℕ) (z : Option ℕ) (t : Rec) (m : ℕ) → z ≡ Some m → is_first_tree o z t ≡ true → FirstFacts o m t
first_facts o z t m e h =
    let a = and_parts (is_pending t && eqb (family_of o t).0 o && eqb (family_of o t).1 0) (is_some_and (λ n. is_some_and (λ m. leb m n) z) (size_in t)) h in
    let b = and_parts (is_pending t && eqb (family_of o t).0 o) (eqb (family_of o t).1 0) a.0 in
    let c = and_parts (is_pending t) (eqb (family_of o t).0 o) b.0 in
    by (size_in t) refl (rw e at a.1) c.0 (pair (family_of o t) (eqb-true _ _ c.1) (eqb-true _ _ b.1))
  where
    pair : (f : ℕ × ℕ) → f.0 ≡ o → f.1 ≡ 0 → f ≡ (o, 0)
    pair f x y = rw (← x, ← y) refl

    by : (x : Option ℕ) → size_in t ≡ x → is_some_and (λ n. is_some_and (λ m. leb m n) (Some m)) x ≡ true → is_pending t ≡ true → family_of o t ≡ (o, 0) → FirstFacts o m t
    by None e h p f = absurd (true≢false (sym h))
    by (Some n) e h p f = record { pending = p; family = f; size = n; size_is = e; larger = leb-true m n h }

-- each suspension of a tree is paid for
pub finger_funded : {w : World} → IsLawful w → (s : ℕ) (r : Rec) → recs w s ≡ Some r → is_pending r ≡ true → is_tree_rec r ≡ true → is_funded w s r ≡ true
finger_funded {w} law s r e pend tree = rw (one_unit s r pend tree) (and_from (is_member same_unit (all_discharged w) ((family_of s r).0, (family_of s r).1)) true (by (family_of s r) refl) refl)
  where
    k : Suspended w s r
    k = suspended_tree law s r e pend tree

    size_low : 2 ^ level (recs w) s ≤ k.size
    size_low = let z = level_size law s r e (pending_levelled r pend tree) in omega (arith, z, k.counts)

    few : (d n : ℕ) → 2 ^ d ≤ n → n ≤ 2147483647 → d < 31
    few d n h small = ⊎_elim (λ below. below) (λ above. absurd (let y = pow_mono {i = 31} above in omega (arith, y, h, small))) (cases_lt d 31)

    by : (f : ℕ × ℕ) → family_of s r ≡ f → is_member same_unit (all_discharged w) f ≡ true
    by (o, zero) fam =
        let origin : eqb o s ≡ true = rw fam at (law.origins s r e) in
        let same = eqb-true o s origin in
        let own : family_of s r ≡ (s, 0) = fam ∙ ap (λ (x : ℕ). (x, 0)) same in
        rw same (unit_there law s 0 r k.size e pend k.size_is own (level_bits 0 k.size (omega arith) (let z = pow_pos (level (recs w) s) in omega (arith, z, size_low))))
    by (o, suc i) fam =
        let root = rw fam at k.rooted in
        let z = sym (cond-false (eqb (suc i) 0) true _ (ne_eqb (suc i) 0 (λ q. omega (arith, q)))) ∙ root in
        let y = and_parts (leb (suc i) (level_from (level (recs w)) r)) (holds (recs w) o (is_first_tree o (size_in r))) z in
        later o i (omega (arith, leb-true (suc i) _ y.0, own_level_is law s r e)) y.1
      where
        later : (o i : ℕ) → suc i ≤ level (recs w) s → holds (recs w) o (is_first_tree o (size_in r)) ≡ true → is_member same_unit (all_discharged w) (o, suc i) ≡ true
        later o i deep h =
            let t = at_true (is_first_tree o (size_in r)) (recs w o) h in
            let f = first_facts o (size_in r) t.0 k.size k.size_is t.2 in
            let small = (tree_size law s r e tree).small in
            let counts = (tree_size law s r e tree).counts in
            let d = few (level (recs w) s) k.size size_low (omega (arith, small, counts, k.counts)) in
            let up = pow_mono {i = suc i} deep in
            unit_there law o (suc i) t.0 f.size t.1 f.pending f.size_is f.family (level_bits (suc i) f.size (omega (arith, d, deep)) (omega (arith, up, size_low, f.larger)))

-- ---- what a put of one adds

-- a first one adds at most the bits of its size
pub first_gain : (w : World) (p : ℕ) (r : Rec) (size : ℕ) → is_pending r ≡ true → size_in r ≡ Some size → family_of p r ≡ (p, 0) → gain_at w p r ≤ bits size
first_gain w p r size pend is fam =
    let k = beyond_below (all_discharged w) p 0 (bits size) (λ j low. absurd (omega (arith, low))) in
    rw (first_shows (recs w) p r size pend is fam) (omega (arith, k))
