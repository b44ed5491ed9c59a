-- The families of finger suspensions: their offsets stay below their levels, and their sizes below those of their first ones.
use Rattle.std.proofs.Common.{◌≡◌, ℕ, zero, suc, ◌<◌, ◌≤◌, ◌^◌, eqb, ltb, leb, refl, sym, ap, ◌∙◌, arith, subst, true, cond, ◌&&◌, Option, Some, None, length}
use Rattle.std.proofs.lemmas.Bool.{true≢false, and_parts, and_from, eqb-true, eq-eqb, le-leb, leb-true, cond-false, ne_eqb, cases_lt}
use Rattle.std.proofs.Common.{⊎_elim}
use Rattle.std.proofs.Math.Pow.{pow_mono}
use Rattle.lazy_rec.specs.declared.records.Rec.{Rec}
use Rattle.lazy_rec.specs.declared.records.Rec.TheVariants.{TEmpty, Single, Deep, PushL, PushR, DeepL, DeepR, Concat}
use Rattle.lazy_rec.specs.declared.records.Sort.TheVariants as sorts
use Rattle.lazy_rec.specs.Named.{sort_of, is_pending}
use Rattle.lazy_rec.specs.Meaning.{means, means_of}
use Rattle.lazy_rec.specs.Tests.{is_some_and}
use Rattle.lazy_rec.specs.Units.{family_of}
use Rattle.heap_store.specs.World.{World, recs, holds}
use Rattle.heap_store.specs.Completion.{Made, made_tree}
use Rattle.heap_store.specs.Lawful.{IsLawful, size_in, level_of, is_of_level, level_from, level, is_rooted, is_first_tree}
use Rattle.heap_store.proofs.GrowthLaws.{at_true}
use Rattle.heap_store.proofs.LawfulLaws.{lawful_names}
use Rattle.heap_store.proofs.MeaningLaws.{means_is}
use Rattle.finger_level.specs.Puts.{IsElement}
use Rattle.finger_level.specs.Reads.{is_element, is_tree_rec, cached_size}
use Rattle.heap_store.proofs.RangeLaws.{range_fields}
use Rattle.finger_level.proofs.Values.{element_size}
use Rattle.heap_store.proofs.GrowthLaws.{sorts_agree}

-- ---- what a finger suspension says

pub record Suspended (w : World) (s : ℕ) (r : Rec) : Type 0 where
  pub pending : is_pending r ≡ true
  pub size : ℕ
  pub size_is : size_in r ≡ Some size
  pub counts : size ≡ length (means (recs w) s)
  pub of_level : level_of (is_of_level (recs w)) r (level_from (level (recs w)) r) ≡ true
  pub rooted : is_rooted (recs w) s r ≡ true

pub suspended : {w : World} → IsLawful w → (s : ℕ) (r : Rec) (m : Made) → recs w s ≡ Some r → made_tree w r ≡ Some m → Suspended w s r
suspended {w} law s r m e made = by r e made
  where
    one : (r : Rec) (n : ℕ) → recs w s ≡ Some r → is_pending r ≡ true → size_in r ≡ Some n → eqb n (length (means_of (recs w) (means (recs w)) s r)) ≡ true → (level_of (is_of_level (recs w)) r (level_from (level (recs w)) r) && is_rooted (recs w) s r) ≡ true → Suspended w s r
    one r n e pend size total finger =
        let f = and_parts (level_of (is_of_level (recs w)) r (level_from (level (recs w)) r)) (is_rooted (recs w) s r) finger in
        record { pending = pend; size = n; size_is = size; counts = eqb-true n _ total ∙ ap length (sym (means_is (recs w) (lawful_names law) s r e)); of_level = f.0; rooted = f.1 }

    by : (r : Rec) → recs w s ≡ Some r → made_tree w r ≡ Some m → Suspended w s r
    by (PushL c i t e1 e2 o z k) e h = let l = law.each s _ e in one (PushL c i t e1 e2 o z k) z e refl refl l.sizes l.finger
    by (PushR c i t e1 e2 o z k) e h = let l = law.each s _ e in one (PushR c i t e1 e2 o z k) z e refl refl l.sizes l.finger
    by (DeepL a d z o i k) e h = let l = law.each s _ e in one (DeepL a d z o i k) z e refl refl l.sizes l.finger
    by (DeepR a d z o i k) e h = let l = law.each s _ e in one (DeepR a d z o i k) z e refl refl l.sizes l.finger
    by (Concat i a b d o z k) e h = let l = law.each s _ e in one (Concat i a b d o z k) z e refl refl l.sizes l.finger
    by _ e h = cc

-- the same of each suspension of a tree
pub suspended_tree : {w : World} → IsLawful w → (s : ℕ) (r : Rec) → recs w s ≡ Some r → is_pending r ≡ true → is_tree_rec r ≡ true → Suspended w s r
suspended_tree {w} law s r e pend tree = by r e pend tree
  where
    one : (r : Rec) (n : ℕ) → recs w s ≡ Some r → is_pending r ≡ true → size_in r ≡ Some n → eqb n (length (means_of (recs w) (means (recs w)) s r)) ≡ true → (level_of (is_of_level (recs w)) r (level_from (level (recs w)) r) && is_rooted (recs w) s r) ≡ true → Suspended w s r
    one r n e pend size total finger =
        let f = and_parts (level_of (is_of_level (recs w)) r (level_from (level (recs w)) r)) (is_rooted (recs w) s r) finger in
        record { pending = pend; size = n; size_is = size; counts = eqb-true n _ total ∙ ap length (sym (means_is (recs w) (lawful_names law) s r e)); of_level = f.0; rooted = f.1 }

    by : (r : Rec) → recs w s ≡ Some r → is_pending r ≡ true → is_tree_rec r ≡ true → Suspended w s r
    by (PushL c i t e1 e2 o z k) e h u = let l = law.each s _ e in one (PushL c i t e1 e2 o z k) z e refl refl l.sizes l.finger
    by (PushR c i t e1 e2 o z k) e h u = let l = law.each s _ e in one (PushR c i t e1 e2 o z k) z e refl refl l.sizes l.finger
    by (DeepL a d z o i k) e h u = let l = law.each s _ e in one (DeepL a d z o i k) z e refl refl l.sizes l.finger
    by (DeepR a d z o i k) e h u = let l = law.each s _ e in one (DeepR a d z o i k) z e refl refl l.sizes l.finger
    by (Concat i a b d o z k) e h u = let l = law.each s _ e in one (Concat i a b d o z k) z e refl refl l.sizes l.finger
    by TEmpty e h u = absurd (true≢false (sym h))
    by (Single _ _ _) e h u = absurd (true≢false (sym h))
    by (Deep _ _ _ _ _) e h u = absurd (true≢false (sym h))
    by _ e h u = absurd (true≢false (sym u))

-- ---- the next suspension

pub record NextFits (w : World) (o i d size : ℕ) : Type 0 where
  pub shallow : i ≤ d
  pub first : holds (recs w) o (is_first_tree o (Some size)) ≡ true

-- a first one of a greater size is one of a smaller size
first_larger : (o size n : ℕ) (r : Rec) → size ≤ n → is_first_tree o (Some n) r ≡ true → is_first_tree o (Some size) r ≡ true
first_larger o size n r le h =
    let k = and_parts (is_pending r && eqb (family_of o r).0 o && eqb (family_of o r).1 0) (is_some_and (λ m. leb n m) (size_in r)) h in
    and_from _ (is_some_and (λ m. leb size m) (size_in r)) k.0 (by (size_in r) k.1)
  where
    by : (x : Option ℕ) → is_some_and (λ m. leb n m) x ≡ true → is_some_and (λ m. leb size m) x ≡ true
    by None h = absurd (true≢false (sym h))
    by (Some m) h = le-leb size m (omega (arith, le, leb-true n m h))

pub next_fits : {w : World} → IsLawful w → (s o i d size : ℕ) (r : Rec) (m : Made) → recs w s ≡ Some r → made_tree w r ≡ Some m → family_of s r ≡ (o, i) → level_from (level (recs w)) r ≡ d → size ≤ length (means (recs w) s) → NextFits w o i d size
next_fits {w} law s o i d size r m e made fam own le =
    let k = suspended law s r m e made in
    let root : cond (eqb i 0) true (leb i (level_from (level (recs w)) r) && holds (recs w) o (is_first_tree o (size_in r))) ≡ true = rw fam at k.rooted in
    let origin : cond (eqb i 0) (eqb o s) (ltb o s) ≡ true = rw fam at (law.origins s r e) in
    by i fam k root origin
  where
    by : (j : ℕ) → family_of s r ≡ (o, j) → Suspended w s r → cond (eqb j 0) true (leb j (level_from (level (recs w)) r) && holds (recs w) o (is_first_tree o (size_in r))) ≡ true → cond (eqb j 0) (eqb o s) (ltb o s) ≡ true → NextFits w o j d size
    by zero fam k root origin =
        let same = eqb-true o s origin in
        record {
          shallow = omega arith;
          first = rw (same, e) (first_larger s size k.size r (omega (arith, le, k.counts)) (rw (k.size_is, rw same at fam) (and_from (is_pending r && eqb s s && eqb 0 0) _ (and_from (is_pending r && eqb s s) true (and_from (is_pending r) (eqb s s) k.pending (eq-eqb s s refl)) refl) (le-leb k.size k.size (omega arith)))));
        }
    by (suc j) fam k root origin =
        let z = sym (cond-false (eqb (suc j) 0) true _ (ne_eqb (suc j) 0 (λ q. omega (arith, q)))) ∙ root in
        let y = and_parts (leb (suc j) (level_from (level (recs w)) r)) _ z in
        let t = at_true (is_first_tree o (size_in r)) (recs w o) y.1 in
        record {
          shallow = omega (arith, own, leb-true (suc j) _ y.0);
          first = rw t.1 (first_larger o size k.size t.0 (omega (arith, le, k.counts)) (subst (λ x. is_first_tree o x t.0 ≡ true) k.size_is t.2));
        }

-- ---- levels are few

-- an element of a tree that has at most 2 ^ 31 - 1 items is of a level below 31
pub level_few : {w : World} → IsLawful w → (d limit e : ℕ) → IsElement w d limit e → length (means (recs w) e) ≤ 2147483647 → d < 31
level_few {w} law d limit e k small =
    let t = at_true is_element (recs w e) k.sort in
    let z = element_size law e d t.0 t.1 (sorts_agree (sort_of t.0) sorts.Element t.2) k.of_level in
    ⊎_elim (λ below. below) (λ above. absurd (let y = more d above in omega (arith, y, z, small))) (cases_lt d 31)
  where
    more : (d : ℕ) → 31 ≤ d → 2147483648 ≤ 2 ^ d
    more d h = pow_mono {i = 31} h

-- ---- what trees cache

pub record TreeSize (w : World) (t : ℕ) (r : Rec) : Type 0 where
  pub counts : cached_size r ≡ length (means (recs w) t)
  pub small : cached_size r ≤ 2147483647

pub tree_size : {w : World} → IsLawful w → (t : ℕ) (r : Rec) → recs w t ≡ Some r → is_tree_rec r ≡ true → TreeSize w t r
tree_size {w} law t r e is = by r e is
  where
    one : (r : Rec) (n : ℕ) → recs w t ≡ Some r → size_in r ≡ Some n → eqb n (length (means_of (recs w) (means (recs w)) t r)) ≡ true → n < 2147483648 → TreeSize w t r
    one r n e size total fits = record {
      counts = ap (elim [ None ↦ 0 | Some m ↦ m ]) size ∙ (eqb-true n _ total ∙ ap length (sym (means_is (recs w) (lawful_names law) t r e)));
      small = (let z : cached_size r ≡ n = ap (elim [ None ↦ 0 | Some m ↦ m ]) size in omega (arith, z, fits));
    }

    by : (r : Rec) → recs w t ≡ Some r → is_tree_rec r ≡ true → TreeSize w t r
    by TEmpty e h = record { counts = rw (means_is (recs w) (lawful_names law) t TEmpty e) refl; small = omega arith }
    by (Single x z k) e h = let l = law.each t _ e in one (Single x z k) z e refl l.sizes (range_fields (Single x z k) l.range).1.1.0
    by (Deep a b c z k) e h = let l = law.each t _ e in one (Deep a b c z k) z e refl l.sizes (range_fields (Deep a b c z k) l.range).1.1.1.1.0
    by (PushL c i x e1 e2 o z k) e h = let l = law.each t _ e in one (PushL c i x e1 e2 o z k) z e refl l.sizes (range_fields (PushL c i x e1 e2 o z k) l.range).1.1.1.1.1.1.1.0
    by (PushR c i x e1 e2 o z k) e h = let l = law.each t _ e in one (PushR c i x e1 e2 o z k) z e refl l.sizes (range_fields (PushR c i x e1 e2 o z k) l.range).1.1.1.1.1.1.1.0
    by (DeepL a d z o i k) e h = let l = law.each t _ e in one (DeepL a d z o i k) z e refl l.sizes (range_fields (DeepL a d z o i k) l.range).1.1.1.0
    by (DeepR a d z o i k) e h = let l = law.each t _ e in one (DeepR a d z o i k) z e refl l.sizes (range_fields (DeepR a d z o i k) l.range).1.1.1.0
    by (Concat i a b d o z k) e h = let l = law.each t _ e in one (Concat i a b d o z k) z e refl l.sizes (range_fields (Concat i a b d o z k) l.range).1.1.1.1.1.1.0
    by _ e h = absurd (true≢false (sym h))
