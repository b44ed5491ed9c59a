-- What the reads of a tree find.
use Rattle.std.proofs.Common.{◌≡◌, ◌⊎◌, ⊎_elim, ℕ, zero, suc, ◌≤◌, eqb, ltb, leb, refl, sym, ap, ◌∙◌, arith, subst, Bool, true, false, not, ◌&&◌, ◌||◌, Option, Some, None, length}
use Rattle.std.specs.Prelude.{flat_map, option_and_then}
use Rattle.std.proofs.lemmas.Bool.{true≢false, and_parts, eqb-true, leb-true}
use Rattle.lazy_rec.specs.declared.places.Ref.{Ref}
use Rattle.lazy_rec.specs.declared.places.Item.{Item}
use Rattle.lazy_rec.specs.declared.records.Rec.{Rec}
use Rattle.lazy_rec.specs.declared.records.Rec.TheVariants.{TEmpty, Leaf, Node, Digit, Single, Deep}
use Rattle.lazy_rec.specs.declared.records.Sort.TheVariants as sorts
use Rattle.lazy_rec.specs.Named.{sort_of, same_sort, is_pending}
use Rattle.lazy_rec.specs.Meaning.{means}
use Rattle.lazy_rec.specs.Packed.{in_range}
use Rattle.heap_store.specs.World.{World, recs, holds, done_at, value_at}
use Rattle.heap_store.specs.Completion.{elements_of, elements}
use Rattle.heap_store.specs.Growth.{Grows}
use Rattle.heap_store.specs.Lawful.{IsLawful, level, is_of_level, height}
use Rattle.finger_level.proofs.Values.{pending_levelled, level_unique}
use Rattle.std.proofs.Common.{inl, inr}
use Rattle.heap_store.proofs.GrowthLaws.{at_true, sorts_agree}
use Rattle.heap_store.proofs.LawfulLaws.{lawful_names}
use Rattle.heap_store.proofs.MeaningLaws.{means_is}
use Rattle.heap_store.proofs.ShowLaws.{one_value}
use Rattle.heap_store.proofs.ReadLaws.{holds_at}
use Rattle.heap_store.specs.Values.{value_place, value_place_of}
use Rattle.heap_store.proofs.ValueLaws.{value_place_is}
use Rattle.finger_level.specs.declared.few.Few.{Few}
use Rattle.finger_level.specs.Keyed.{key_in}
use Rattle.finger_level.proofs.Keying.{keyed_of, digit_keys}
use Rattle.finger_level.proofs.Builds.{digit_means}
use Rattle.finger_level.specs.declared.few.Few.TheVariants as few
use Rattle.finger_level.specs.declared.few.Weight.{Weight}
use Rattle.finger_level.specs.declared.level.Digit.TheVariants as digits
use Rattle.finger_level.specs.declared.level.Middle.TheVariants as middles
use Rattle.finger_level.specs.declared.level.Level.TheVariants as levels
use Rattle.finger_level.specs.Few.{few_list, no_place, digit_record, few_at, node_record, group_at}
use Rattle.finger_level.specs.Reads.{is_tree_rec, is_tree_value, IsDigitAt, IsNodeAt, LevelRead, IsWeight, IsWeighedAt}
use Rattle.finger_level.proofs.Records.{Counts, range_counts, node_counts, digit_counts}

-- ---- values

-- the value of a tree is at a place: its own, or the one that it is done with
pub record IsValueAt (w : World) (p q : ℕ) : Type 0 where
  pub found : (q ≡ p) ⊎ ((steps : ℕ) × (done_at w p ≡ Some (q, steps)))
  pub value : value_at w p ≡ recs w q
  pub there : holds (recs w) q is_tree_value ≡ true
  pub items : means (recs w) q ≡ means (recs w) p
  pub low : height (recs w) q ≤ height (recs w) p
  pub of_level : (d : ℕ) → is_of_level (recs w) p d ≡ true → is_of_level (recs w) q d ≡ true

-- where a value was found: at the place itself, or at the one with which it is done
found_at : (w : World) (p q : ℕ) (r : Rec) → recs w p ≡ Some r → value_place w p ≡ Some q → (q ≡ p) ⊎ ((steps : ℕ) × (done_at w p ≡ Some (q, steps)))
found_at w p q r e at = go (is_pending r) refl (done_at w p) refl (sym (ap (option_and_then (value_place_of w p)) e) ∙ at)
  where
    go : (c : Bool) → is_pending r ≡ c → (o : Option (ℕ × ℕ)) → done_at w p ≡ o → value_place_of w p r ≡ Some q → (q ≡ p) ⊎ ((steps : ℕ) × (done_at w p ≡ Some (q, steps)))
    go false n o f h = inl (let z : Some p ≡ Some q = rw n at h in sym (one_value p q z))
    go true n None f h = absurd (let z : None ≡ Some q = rw (n, f) at h in cc)
    go true n (Some d) f h = inr (d.1, f ∙ (let z : Some d.0 ≡ Some q = rw (n, f) at h in ap (λ (k : ℕ). let o : Option (ℕ × ℕ) = Some (k, d.1) in o) (one_value d.0 q z)))

-- the value of a tree, by its place
pub value_tree : {w : World} → IsLawful w → (p q : ℕ) → holds (recs w) p is_tree_rec ≡ true → value_place w p ≡ Some q → IsValueAt w p q
value_tree {w} law p q tree at =
    let v = value_place_is law p q at in
    let t = holds_at (recs w) p is_tree_rec v.rec tree v.here in
    let same = sorts_agree (sort_of v.rec) sorts.Finger t in
    let k = at_true (λ s. not (is_pending s) && same_sort (sort_of s) (sort_of v.rec)) (recs w q) v.sort in
    let both : is_tree_value k.0 ≡ true = subst (λ s. (not (is_pending k.0) && same_sort (sort_of k.0) s) ≡ true) same k.2 in
    let found = found_at w p q v.rec v.here at in
    record {
      found = found;
      value = v.value;
      there = rw k.1 both;
      items = v.means;
      low = v.low;
      of_level = λ d h. ⊎_elim (λ e. rw e h) (λ s. done_level v.rec v.here t s.0 s.1 d h) found;
    }
  where
    done_level : (r : Rec) → recs w p ≡ Some r → is_tree_rec r ≡ true → (steps : ℕ) → done_at w p ≡ Some (q, steps) → (d : ℕ) → is_of_level (recs w) p d ≡ true → is_of_level (recs w) q d ≡ true
    done_level r e t steps f d h =
        let well = law.done p r e (q, steps) f in
        let lv : is_of_level (recs w) q (level (recs w) p) ≡ true = rw t at well.levels in
        subst (λ n. is_of_level (recs w) q n ≡ true) (level_unique law p d r e (pending_levelled r well.pending t) h) lv

-- ---- digits

zero_place : (e : Ref) → eqb e.0 0 ≡ true → e ≡ no_place
zero_place e h = ap (λ (n : ℕ). let r : Ref = record { 0 = n } in r) (eqb-true e.0 0 h)

pub few_record : (count : ℕ) (e1 e2 e3 e4 : Ref) (z : ℕ) (k : Item) → in_range (Digit count e1 e2 e3 e4 z k) ≡ true → Digit count e1 e2 e3 e4 z k ≡ digit_record (few_at count e1 e2 e3 e4) (record { size = z; key = k })
few_record count e1 e2 e3 e4 z k h = by count (range_counts (Digit count e1 e2 e3 e4 z k) h)
  where
    by : (n : ℕ) → (leb 1 n && leb n 4 && (ltb 3 n || eqb e4.0 0) && (ltb 2 n || eqb e3.0 0) && (ltb 1 n || eqb e2.0 0)) ≡ true → Digit n e1 e2 e3 e4 z k ≡ digit_record (few_at n e1 e2 e3 e4) (record { size = z; key = k })
    by zero h = absurd (true≢false (sym h))
    by (suc zero) h = let a = and_parts _ _ h in let b = and_parts _ _ a.0 in let c = and_parts true _ b.0 in rw (zero_place e2 a.1, zero_place e3 b.1, zero_place e4 c.1) refl
    by (suc (suc zero)) h = let a = and_parts _ true h in let b = and_parts _ _ a.0 in let c = and_parts true _ b.0 in rw (zero_place e3 b.1, zero_place e4 c.1) refl
    by (suc (suc (suc zero))) h = let a = and_parts _ true h in let b = and_parts _ true a.0 in let c = and_parts true _ b.0 in rw (zero_place e4 c.1) refl
    by (suc (suc (suc (suc zero)))) h = refl
    by (suc (suc (suc (suc (suc n))))) h = absurd (let a = and_parts _ _ h in let b = and_parts _ _ a.0 in let c = and_parts _ _ b.0 in let d = and_parts _ _ c.0 in omega (arith, leb-true (suc (suc (suc (suc (suc n))))) 4 d.1))

pub digit_at : {w : World} → IsLawful w → (p : ℕ) (count : ℕ) (e1 e2 e3 e4 : Ref) (z : ℕ) (k : Item) → recs w p ≡ Some (Digit count e1 e2 e3 e4 z k) → IsDigitAt w p (few_at count e1 e2 e3 e4)
digit_at law p count e1 e2 e3 e4 z k e = record { weight = record { size = z; key = k }; here = e ∙ ap Some (few_record count e1 e2 e3 e4 z k (law.each p _ e).range) }

-- a digit with its weight
pub weighed_at : {w : World} → IsLawful w → (p : ℕ) (count : ℕ) (e1 e2 e3 e4 : Ref) (z : ℕ) (k : Item) → recs w p ≡ Some (Digit count e1 e2 e3 e4 z k) → IsWeighedAt w p (record { few = few_at count e1 e2 e3 e4; weight = record { size = z; key = k } })
weighed_at {w} law p count e1 e2 e3 e4 z k e =
    let d = digit_at law p count e1 e2 e3 e4 z k e in
    let items : means (recs w) p ≡ flat_map (means (recs w)) (few_list (few_at count e1 e2 e3 e4)) = digit_means law p (few_at count e1 e2 e3 e4) d in
    record {
      shown = d;
      size = eqb-true _ _ (law.each p _ e).sizes ∙ (ap length (sym (means_is (recs w) (lawful_names law) p _ e)) ∙ ap length items);
      key = λ keyed h. eqb-true k.0 (key_in keyed (means (recs w) p)) (keyed_of law keyed p _ e h).key ∙ ap (key_in keyed) items;
    }

-- the elements of a digit
pub few_elements : (f : Few) (w : Weight) → elements_of (digit_record f w) ≡ few_list f
few_elements (few.One a) w = refl
few_elements (few.Two a b) w = refl
few_elements (few.Three a b c) w = refl
few_elements (few.Four a b c d) w = refl

pub digit_elements : (w : World) (p : ℕ) (f : Few) → IsDigitAt w p f → elements w p ≡ few_list f
digit_elements w p f k = rw k.here (few_elements f k.weight)

pub digit_grows : {a b : World} → Grows a b → (p : ℕ) (f : Few) → IsDigitAt a p f → IsDigitAt b p f
digit_grows g p f k = record { weight = k.weight; here = g.records p _ k.here }

-- and how many they are
pub digit_count : {w : World} → IsLawful w → (p count : ℕ) (e1 e2 e3 e4 : Ref) (z : ℕ) (k : Item) → recs w p ≡ Some (Digit count e1 e2 e3 e4 z k) → count ≡ length (elements w p)
digit_count law p count e1 e2 e3 e4 z k e = rw e (by count (digit_counts count e1 e2 e3 e4 z k (law.each p _ e).range))
  where
    by : (n : ℕ) → Counts 1 4 n → n ≡ length (elements_of (Digit n e1 e2 e3 e4 z k))
    by zero c = refl
    by (suc zero) c = refl
    by (suc (suc zero)) c = refl
    by (suc (suc (suc zero))) c = refl
    by (suc (suc (suc (suc zero)))) c = refl
    by (suc (suc (suc (suc (suc n))))) c = absurd (omega (arith, c.most))

-- ---- nodes

group_record : (count : ℕ) (e1 e2 e3 : Ref) (z : ℕ) (k : Item) → in_range (Node count e1 e2 e3 z k) ≡ true → Node count e1 e2 e3 z k ≡ node_record (group_at count e1 e2 e3) (record { size = z; key = k })
group_record count e1 e2 e3 z k h = by count (node_counts count e1 e2 e3 z k h) (range_counts (Node count e1 e2 e3 z k) h)
  where
    by : (n : ℕ) → Counts 2 3 n → (leb 2 n && (ltb 2 n || eqb e3.0 0)) ≡ true → Node n e1 e2 e3 z k ≡ node_record (group_at n e1 e2 e3) (record { size = z; key = k })
    by zero c h = absurd (omega (arith, c.least))
    by (suc zero) c h = absurd (omega (arith, c.least))
    by (suc (suc zero)) c h = rw (zero_place e3 (and_parts true (eqb e3.0 0) h).1) refl
    by (suc (suc (suc zero))) c h = refl
    by (suc (suc (suc (suc n)))) c h = absurd (omega (arith, c.most))

pub node_at : {w : World} → IsLawful w → (p : ℕ) (count : ℕ) (e1 e2 e3 : Ref) (z : ℕ) (k : Item) → recs w p ≡ Some (Node count e1 e2 e3 z k) → IsNodeAt w (group_at count e1 e2 e3) p
node_at law p count e1 e2 e3 z k e = record { weight = record { size = z; key = k }; here = e ∙ ap Some (group_record count e1 e2 e3 z k (law.each p _ e).range) }

-- ---- levels

pub deep_read : {w : World} → IsLawful w → (q : ℕ) (left middle right : Ref) (z : ℕ) (k : Item) (l r : Few) → recs w q ≡ Some (Deep left middle right z k) → IsDigitAt w left.0 l → IsDigitAt w right.0 r → LevelRead w q (levels.Deep (digits.Old left l) (middles.Tree (Some middle)) (digits.Old right r))
deep_read {w} law q left middle right z k l r e f g = record { under = (let n = lawful_names law q _ e in (n.0.0, n.1.1.0.0, tt)); made = rw e (rw (digit_elements w left.0 l f, digit_elements w right.0 r g) refl); there = (f, g, tt); rests = refl; keyed = λ j h. (let a = (keyed_of law j q _ e h).all in ((a.0, digit_keys law j left.0 l f a.0), (tt, (a.1.0, tt)), (a.1.1.0, digit_keys law j right.0 r g a.1.1.0))) }

-- ---- elements

pub leaf_weight : {w : World} → IsLawful w → (e : ℕ) (item : Item) → recs w e ≡ Some (Leaf item) → IsWeight w e (record { size = 1; key = item })
leaf_weight {w} law e item h = record { size = rw (means_is (recs w) (lawful_names law) e _ h) refl; key = rw h refl }

pub node_weight : {w : World} → IsLawful w → (e : ℕ) (count : ℕ) (e1 e2 e3 : Ref) (z : ℕ) (k : Item) → recs w e ≡ Some (Node count e1 e2 e3 z k) → IsWeight w e (record { size = z; key = k })
node_weight {w} law e count e1 e2 e3 z k h = record { size = eqb-true _ _ (law.each e _ h).sizes ∙ ap length (sym (means_is (recs w) (lawful_names law) e _ h)); key = rw h refl }

pub empty_read : {w : World} → IsLawful w → (q : ℕ) → recs w q ≡ Some TEmpty → LevelRead w q levels.Empty
empty_read law q e = record { under = tt; made = rw e refl; there = tt; rests = refl; keyed = λ j h. tt }

pub single_read : {w : World} → IsLawful w → (q : ℕ) (elem : Ref) (z : ℕ) (k : Item) → recs w q ≡ Some (Single elem z k) → LevelRead w q (levels.One elem)
single_read law q elem z k e = record { under = tt; made = rw e refl; there = tt; rests = refl; keyed = λ j h. (keyed_of law j q _ e h).all.0 }
