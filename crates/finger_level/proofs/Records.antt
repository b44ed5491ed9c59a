-- What a put asks of a finger record.
use Rattle.std.proofs.Common.{◌≡◌, ℕ, suc, ◌<◌, ◌≤◌, eqb, ltb, leb, refl, sym, ap, ◌∙◌, arith, subst, Bool, true, false, cond, not, ◌&&◌, ◌||◌, List, [], ◌∷◌}
use Rattle.std.specs.Prelude.{is_some}
use Rattle.std.specs.List.{AllByRecursion, list_all}
use Rattle.std.proofs.lemmas.Bool.{true≢false, and_parts, and_from, or_right, eq-eqb, lt-ltb, leb-true, ne_eqb, cond-false}
use Rattle.lazy_rec.specs.declared.places.Ref.{Ref}
use Rattle.lazy_rec.specs.declared.places.Item.{Item}
use Rattle.lazy_rec.specs.declared.records.Rec.{Rec}
use Rattle.lazy_rec.specs.declared.records.Rec.TheVariants.{Node, Digit, Single, Deep, PushL, PushR, DeepL, DeepR, Concat}
use Rattle.lazy_rec.specs.declared.records.Sort.TheVariants as sorts
use Rattle.lazy_rec.specs.declared.states.SuspState.TheVariants.{Unforced}
use Rattle.lazy_rec.specs.Named.{Records, NamedPlace, named}
use Rattle.lazy_rec.specs.Meaning.{means, means_of}
use Rattle.lazy_rec.specs.Packed.{in_range, fields, fits_field, has_unused_zero}
use Rattle.lazy_rec.specs.Tests.{implies}
use Rattle.lazy_rec.specs.Units.{family_of}
use Rattle.heap_store.specs.World.{World, recs, holds, show, Keeps}
use Rattle.heap_store.specs.Lawful.{HasLaws, has_sizes, is_size, size_in, is_unmixed, is_bank_queue, is_rt_queue, is_heap, is_cat, is_rooted, is_first_tree, level_of, is_of_level, level_from, level, has_low_names, may_wait}
use Rattle.heap_store.specs.Hand.{contains, newest_makes}
use Rattle.heap_store.specs.View.{View, IsLawfulView, Fits, purse}
use Rattle.heap_store.specs.Budget.{gain_at, is_settled}
use Rattle.lazy_rec.specs.Units.{paid}
use Rattle.heap_store.proofs.UnitLaws.{free}
use Rattle.heap_store.proofs.RangeLaws.{range_fields}
use Rattle.heap_store.proofs.PutLaws.{put_keeps, put_names}
use Rattle.heap_store.proofs.NameLaws.{IsPublished, IsNamedWell}
use Rattle.heap_store.proofs.Alls.{All-map}
use Rattle.heap_store.proofs.GrowthLaws.{and_up, at_up, same_up}
use Rattle.heap_store.proofs.LawfulLaws.{lawful_names}
use Rattle.heap_store.proofs.MeaningLaws.{joined_same, means_kept}
use Rattle.heap_store.proofs.RecordLaws.{level_look, level_at, level_kept, own_level_kept, low_names_all}

-- ---- lists of tests

pub all_from : {X : Type 0} (test : X → Bool) (xs : List X) → AllByRecursion (λ x. test x ≡ true) xs → list_all test xs ≡ true
all_from test [] h = refl
all_from test (x ∷ xs) h = and_from (test x) (list_all test xs) h.0 (all_from test xs h.1)

pub range_counts : (r : Rec) → in_range r ≡ true → has_unused_zero r ≡ true
range_counts r h = (and_parts (list_all fits_field (fields r)) (has_unused_zero r) h).1

-- the counts of a range
pub record Counts (low high count : ℕ) : Type 0 where
  pub least : low ≤ count
  pub most : count ≤ high

pub node_counts : (count : ℕ) (e1 e2 e3 : Ref) (z : ℕ) (k : Item) → in_range (Node count e1 e2 e3 z k) ≡ true → Counts 2 3 count
node_counts count e1 e2 e3 z k h =
    let c = and_parts (leb 2 count) (ltb 2 count || eqb e3.0 0) (range_counts (Node count e1 e2 e3 z k) h) in
    record { least = leb-true 2 count c.0; most = omega (arith, (range_fields (Node count e1 e2 e3 z k) h).1.0) }

pub digit_counts : (count : ℕ) (e1 e2 e3 e4 : Ref) (z : ℕ) (k : Item) → in_range (Digit count e1 e2 e3 e4 z k) ≡ true → Counts 1 4 count
digit_counts count e1 e2 e3 e4 z k h =
    let c = and_parts (leb 1 count && leb count 4 && (ltb 3 count || eqb e4.0 0) && (ltb 2 count || eqb e3.0 0)) _ (range_counts (Digit count e1 e2 e3 e4 z k) h) in
    let c1 = and_parts (leb 1 count && leb count 4 && (ltb 3 count || eqb e4.0 0)) _ c.0 in
    let c2 = and_parts (leb 1 count && leb count 4) _ c1.0 in
    let c3 = and_parts (leb 1 count) (leb count 4) c2.0 in
    record { least = leb-true 1 count c3.0; most = leb-true count 4 c3.1 }

push_counts : (count e2 : ℕ) → (leb 1 count && leb count 2 && (ltb 1 count || eqb e2 0)) ≡ true → Counts 1 2 count
push_counts count e2 h =
    let c = and_parts (leb 1 count && leb count 2) _ h in
    let c1 = and_parts (leb 1 count) (leb count 2) c.0 in
    record { least = leb-true 1 count c1.0; most = leb-true count 2 c1.1 }

pub push_left_counts : (t : Ref) (count : ℕ) (e1 e2 o : Ref) (i z : ℕ) (k : Item) → in_range (PushL count i t e1 e2 o z k) ≡ true → Counts 1 2 count
push_left_counts t count e1 e2 o i z k h = push_counts count e2.0 (range_counts (PushL count i t e1 e2 o z k) h)

pub push_right_counts : (t : Ref) (count : ℕ) (e1 e2 o : Ref) (i z : ℕ) (k : Item) → in_range (PushR count i t e1 e2 o z k) ≡ true → Counts 1 2 count
push_right_counts t count e1 e2 o i z k h = push_counts count e2.0 (range_counts (PushR count i t e1 e2 o z k) h)

-- ---- finger records

-- what a finger record means, from what it names
pub finger_means : (a b : Records) (p : ℕ) (g h : ℕ → List ℕ) (r : Rec) → is_some (size_in r) ≡ true → AllByRecursion (λ (q : NamedPlace). g q.0 ≡ h q.0) (named r) → means_of a g p r ≡ means_of b h p r
finger_means a b p g h (Node count e1 e2 e3 _ _) f s = joined_same g h sorts.Element count (e1.0 ∷ e2.0 ∷ e3.0 ∷ []) s
finger_means a b p g h (Digit count e1 e2 e3 e4 _ _) f s = joined_same g h sorts.Element count (e1.0 ∷ e2.0 ∷ e3.0 ∷ e4.0 ∷ []) s
finger_means a b p g h (Single elem _ _) f s = s.0
finger_means a b p g h (Deep left middle right _ _) f s = rw (s.0, s.1.0, s.1.1.0) refl
finger_means a b p g h (PushL count _ tree e1 e2 _ _ _) f s = rw (s.0, joined_same g h sorts.Element count (e1.0 ∷ e2.0 ∷ []) s.1) refl
finger_means a b p g h (PushR count _ tree e1 e2 _ _ _) f s = rw (s.0, joined_same g h sorts.Element count (e1.0 ∷ e2.0 ∷ []) s.1) refl
finger_means a b p g h (DeepL middle digit _ _ _ _) f s = rw (s.0, s.1.0) refl
finger_means a b p g h (DeepR middle digit _ _ _ _) f s = rw (s.0, s.1.0) refl
finger_means a b p g h (Concat _ left right list _ _ _) f s = rw (s.0, s.1.0, s.1.1.0) refl
finger_means a b p g h _ f s = absurd (true≢false (sym f))

-- the laws of other structures say nothing of a finger record
record OtherLaws (w : World) (p : ℕ) (r : Rec) : Type 0 where
  sizes : has_sizes (recs w) p r ≡ is_size (means_of (recs w) (means (recs w)) p r) (size_in r)
  unmixed : is_unmixed (recs w) p r ≡ true
  bank_queue : is_bank_queue (recs w) p r ≡ true
  rt_queue : is_rt_queue w p r ≡ true
  heap : is_heap (recs w) p r ≡ true
  cat : is_cat (recs w) p r ≡ true
  settled : (v : World) → is_settled v p r ≡ true

other_laws : (w : World) (p : ℕ) (r : Rec) → is_some (size_in r) ≡ true → OtherLaws w p r
other_laws w p (Node _ _ _ _ _ _) f = record { sizes = refl; unmixed = refl; bank_queue = refl; rt_queue = refl; heap = refl; cat = refl; settled = λ v. refl }
other_laws w p (Digit _ _ _ _ _ _ _) f = record { sizes = refl; unmixed = refl; bank_queue = refl; rt_queue = refl; heap = refl; cat = refl; settled = λ v. refl }
other_laws w p (Single _ _ _) f = record { sizes = refl; unmixed = refl; bank_queue = refl; rt_queue = refl; heap = refl; cat = refl; settled = λ v. refl }
other_laws w p (Deep _ _ _ _ _) f = record { sizes = refl; unmixed = refl; bank_queue = refl; rt_queue = refl; heap = refl; cat = refl; settled = λ v. refl }
other_laws w p (PushL _ _ _ _ _ _ _ _) f = record { sizes = refl; unmixed = refl; bank_queue = refl; rt_queue = refl; heap = refl; cat = refl; settled = λ v. refl }
other_laws w p (PushR _ _ _ _ _ _ _ _) f = record { sizes = refl; unmixed = refl; bank_queue = refl; rt_queue = refl; heap = refl; cat = refl; settled = λ v. refl }
other_laws w p (DeepL _ _ _ _ _ _) f = record { sizes = refl; unmixed = refl; bank_queue = refl; rt_queue = refl; heap = refl; cat = refl; settled = λ v. refl }
other_laws w p (DeepR _ _ _ _ _ _) f = record { sizes = refl; unmixed = refl; bank_queue = refl; rt_queue = refl; heap = refl; cat = refl; settled = λ v. refl }
other_laws w p (Concat _ _ _ _ _ _ _) f = record { sizes = refl; unmixed = refl; bank_queue = refl; rt_queue = refl; heap = refl; cat = refl; settled = λ v. refl }
other_laws w p _ f = absurd (true≢false (sym f))

-- what a finger record says of what it names, before it stands at its place
pub record FingerWell (w : World) (p : ℕ) (r : Rec) (d : ℕ) : Type 0 where
  pub finger : is_some (size_in r) ≡ true
  pub range : in_range r ≡ true
  pub names : AllByRecursion (IsNamedWell (recs w) p) (named r)
  pub total : is_size (means_of (recs w) (means (recs w)) p r) (size_in r) ≡ true
  pub of_level : level_of (is_of_level (recs w)) r d ≡ true
  pub own : level_from (level (recs w)) r ≡ d
  pub rooted : is_rooted (recs w) p r ≡ true
  pub low : has_low_names (recs w) p r ≡ true

pub finger_laws : {v : View} → IsLawfulView v → (p : ℕ) → contains v.hand.reserved p ≡ true → (r : Rec) (d : ℕ) → FingerWell v.seen p r d → HasLaws (show v.seen p r (Unforced 0)) p r
finger_laws {v} law p held r d k =
    let a = recs v.seen in
    let w = show v.seen p r (Unforced 0) in
    let b = recs w in
    let keeps = put_keeps law p held r in
    let names = lawful_names law.world in
    let other = other_laws w p r k.finger in
    let there : AllByRecursion (λ (q : NamedPlace). IsPublished a q.0) (named r) = All-map (IsNamedWell a p) _ (λ q n. (n.1, n.2)) (named r) k.names in
    let same_means = finger_means a b p (means a) (means b) r k.finger (All-map _ _ (λ q is. means_kept a b names keeps q.0 is) (named r) there) in
    let same_own = level_look r (level a) (level b) (All-map _ _ (λ q is. own_level_kept a b names keeps q.0 is) (named r) there) in
    let same_level = level_at d r (is_of_level a) (is_of_level b) (All-map _ _ (λ q is. level_kept a b names keeps q.0 is) (named r) there) in
    record {
      range = k.range;
      names = put_names law p held r k.names;
      sizes = other.sizes ∙ subst (λ xs. is_size xs (size_in r) ≡ true) same_means k.total;
      unmixed = other.unmixed;
      bank_queue = other.bank_queue;
      rt_queue = other.rt_queue;
      heap = other.heap;
      cat = other.cat;
      finger = or_right (not (is_some (size_in r))) _ (and_from (level_of (is_of_level b) r (level_from (level b) r)) (is_rooted b p r)
          (ap (level_of (is_of_level b) r) (sym same_own ∙ k.own) ∙ (sym same_level ∙ k.of_level))
          (rooted same_own keeps (eqb (family_of p r).1 0) k.rooted));
      heights = low_up (may_wait r) (low_names_all a b names keeps (family_of p r).0 (named r) there) k.low;
    }
  where
    rooted : {a b : Records} → level_from (level a) r ≡ level_from (level b) r → Keeps a b → (c : Bool)
        → cond c true (leb (family_of p r).1 (level_from (level a) r) && holds a (family_of p r).0 (is_first_tree (family_of p r).0 (size_in r))) ≡ true
        → cond c true (leb (family_of p r).1 (level_from (level b) r) && holds b (family_of p r).0 (is_first_tree (family_of p r).0 (size_in r))) ≡ true
    rooted same keeps true h = refl
    rooted {a} {b} same keeps false h = and_up {x = leb (family_of p r).1 (level_from (level a) r)} (λ g. rw (← same) g) (at_up _ _ (a (family_of p r).0) (b (family_of p r).0) (keeps (family_of p r).0) (λ o. same_up)) h

    low_up : {x y : Bool} (c : Bool) → x ≡ y → implies c x ≡ true → implies c y ≡ true
    low_up c e h = rw e at h

-- a record that is no later suspension
pub fits_finger : {v : View} → IsLawfulView v → (p : ℕ) → contains v.hand.reserved p ≡ true → (r : Rec) (d : ℕ) → FingerWell v.seen p r d → family_of p r ≡ (p, 0) → gain_at v.seen p r ≤ purse v → Fits v p r
fits_finger {v} law p held r d k own gain = record {
  laws = finger_laws law p held r d k;
  origin = rw own (eq-eqb p p refl);
  follows = λ i e. absurd (let z : 0 ≡ suc i = sym (ap (λ (f : ℕ × ℕ). f.1) own) ∙ e in omega (arith, z));
  settled = (other_laws v.seen p r k.finger).settled v.seen;
  paid = gain;
}

-- a later one
pub fits_later : {v : View} → IsLawfulView v → (p : ℕ) → contains v.hand.reserved p ≡ true → (r : Rec) (d origin off : ℕ) → FingerWell v.seen p r d → family_of p r ≡ (origin, suc off) → origin < p → newest_makes v.seen v.hand.claims origin (suc off) r ≡ true → paid (recs v.seen) p r ≡ [] → Fits v p r
fits_later {v} law p held r d origin off k own low makes none = record {
  laws = finger_laws law p held r d k;
  origin = rw own (cond-false (eqb (suc off) 0) (eqb origin p) (ltb origin p) (ne_eqb (suc off) 0 (λ z. omega (arith, z))) ∙ lt-ltb origin p low);
  follows = λ i e. (let z : suc off ≡ suc i = sym (ap (λ (f : ℕ × ℕ). f.1) own) ∙ e in let y : i ≡ off = omega (arith, z) in rw (own, y) makes);
  settled = (other_laws v.seen p r k.finger).settled v.seen;
  paid = free v.seen p r (purse v) none;
}
