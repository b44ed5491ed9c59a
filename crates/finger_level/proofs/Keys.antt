-- Keys: where a list rises, the keys of an ordered sequence are those of a priority queue; where no item is above 0, those of
-- a priority queue are those of a sequence. So a completion has two ways to make keys, whatever the kind.
use Rattle.std.proofs.Common.{◌≡◌, ℕ, zero, suc, ◌<◌, eqb, leb, refl, sym, ap, ◌∙◌, arith, max, Bool, true, false, ◌&&◌, ◌||◌, Option, Some, None, List, [], ◌∷◌, ◌++◌, take, map}
use Rattle.std.specs.Prelude.{fold}
use Rattle.std.specs.List.{AllByRecursion, list_all}
use Rattle.std.proofs.lemmas.Bool.{true≢false, and_parts, and_from, leb-true, eqb-true, eq-eqb}
use Rattle.std.proofs.lemmas.List.{append_assoc, append-nil}
use Rattle.lazy_rec.specs.declared.records.Rec.{Rec}
use Rattle.lazy_rec.specs.declared.records.Rec.TheVariants.{TEmpty, Leaf, Node, Digit, Single, Deep, PushL, PushR, DeepL, DeepR, Concat}
use Rattle.lazy_rec.specs.declared.records.Sort.{Sort}
use Rattle.lazy_rec.specs.declared.records.Sort.TheVariants as sorts
use Rattle.lazy_rec.specs.declared.events.Kind.{Kind}
use Rattle.lazy_rec.specs.declared.events.Kind.TheVariants as kinds
use Rattle.lazy_rec.specs.ByPlace.{below, by_place}
use Rattle.lazy_rec.specs.Named.{Records, NamedPlace, named, sort_of, same_sort, at_record}
use Rattle.lazy_rec.specs.Meaning.{means, means_of, joined}
use Rattle.lazy_rec.specs.Plain.{last_of}
use Rattle.heap_store.specs.World.{World, recs}
use Rattle.heap_store.specs.Lawful.{IsLawful, key_of, key_for, has_key, has_keys_at, has_keys, is_rising}
use Rattle.lazy_rec.proofs.ByPlaceLaws.{below_low, from_lower}
use Rattle.heap_store.proofs.Alls.{All-map}
use Rattle.heap_store.proofs.NameLaws.{IsNamedWell}
use Rattle.heap_store.proofs.LawfulLaws.{lawful_names}
use Rattle.heap_store.proofs.MeaningLaws.{means_is}

-- ---- keys of a place, from those of the places that its record names

all_keys : (g h : ℕ → Bool) (qs : List NamedPlace) → AllByRecursion (λ (q : NamedPlace). g q.0 ≡ h q.0) qs → list_all (λ (q : NamedPlace). g q.0) qs ≡ list_all (λ (q : NamedPlace). h q.0) qs
all_keys g h [] s = refl
all_keys g h (q ∷ qs) s = rw (s.0, all_keys g h qs s.1) refl

pub keys_is : {w : World} → IsLawful w → (k : Kind) (p : ℕ) (r : Rec) → recs w p ≡ Some r → has_keys k (recs w) p ≡ (has_key k (means (recs w) p) (key_of r) && list_all (λ (q : NamedPlace). has_keys k (recs w) q.0) (named r))
unfolding has_keys by_place
keys_is {w} law k p r e =
    ap (at_record false (has_keys_at k (recs w) (below false (λ lower q. at_record false (has_keys_at k (recs w) lower q) (recs w q)) p) p)) e
    ∙ ap (λ b. has_key k (means (recs w) p) (key_of r) && b) (all_keys _ _ (named r) (All-map (IsNamedWell (recs w) p) _ (λ q n. below_low false (λ lower j. at_record false (has_keys_at k (recs w) lower j) (recs w j)) p q.0 n.0) (named r) (lawful_names law p r e)))

-- ---- a part of a list

abbrev pub Part : List ℕ → List ℕ → Type 0
Part xs ys = (a : List ℕ) × (b : List ℕ) × (ys ≡ a ++ xs ++ b)

whole : (xs : List ℕ) → Part xs xs
whole xs = ([], [], sym (append-nil xs))

later : (z xs ys : List ℕ) → Part xs ys → Part xs (z ++ ys)
later z xs ys k = (z ++ k.0, k.1, ap (λ l. z ++ l) k.2 ∙ (sym (append_assoc z (k.0 ++ xs) k.1) ∙ ap (λ l. l ++ k.1) (sym (append_assoc z k.0 xs))))

sooner : (z xs ys : List ℕ) → Part xs ys → Part xs (ys ++ z)
sooner z xs ys k = (k.0, k.1 ++ z, ap (λ l. l ++ z) k.2 ∙ append_assoc (k.0 ++ xs) k.1 z)

joined_parts : (g : ℕ → List ℕ) (s : Sort) (n : ℕ) (es : List ℕ) → AllByRecursion (λ (q : NamedPlace). Part (g q.0) (joined g (take n es))) (take n (map (λ e. (e, s)) es))
joined_parts g s zero es = tt
joined_parts g s (suc n) [] = tt
joined_parts g s (suc n) (e ∷ es) = (sooner (joined g (take n es)) (g e) (g e) (whole (g e)), All-map _ _ (λ q k. later (g e) (g q.0) (joined g (take n es)) k) (take n (map (λ e. (e, s)) es)) (joined_parts g s n es))

-- what a record of a finger tree names means a part of what it means
abbrev pub is_of_tree : Rec → Bool
is_of_tree r = same_sort (sort_of r) sorts.Element || (same_sort (sort_of r) sorts.Digit || same_sort (sort_of r) sorts.Finger)

pub parts_of : (rs : Records) (g : ℕ → List ℕ) (p : ℕ) (r : Rec) → is_of_tree r ≡ true → AllByRecursion (λ (q : NamedPlace). Part (g q.0) (means_of rs g p r)) (named r)
parts_of rs g p TEmpty h = tt
parts_of rs g p (Leaf x) h = tt
parts_of rs g p (Node count e1 e2 e3 z k) h = joined_parts g sorts.Element count (e1.0 ∷ e2.0 ∷ e3.0 ∷ [])
parts_of rs g p (Digit count e1 e2 e3 e4 z k) h = joined_parts g sorts.Element count (e1.0 ∷ e2.0 ∷ e3.0 ∷ e4.0 ∷ [])
parts_of rs g p (Single elem z k) h = (whole (g elem.0), tt)
parts_of rs g p (Deep left middle right z k) h = (
  sooner (g right.0) _ _ (sooner (g middle.0) _ _ (whole (g left.0))),
  (sooner (g right.0) _ _ (later (g left.0) _ _ (whole (g middle.0))), (later (g left.0 ++ g middle.0) _ _ (whole (g right.0)), tt)),
)
parts_of rs g p (PushL count i tree e1 e2 o z k) h = (later (joined g (take count (e1.0 ∷ e2.0 ∷ []))) _ _ (whole (g tree.0)), All-map _ _ (λ q k. sooner (g tree.0) _ _ k) _ (joined_parts g sorts.Element count (e1.0 ∷ e2.0 ∷ [])))
parts_of rs g p (PushR count i tree e1 e2 o z k) h = (sooner (joined g (take count (e1.0 ∷ e2.0 ∷ []))) _ _ (whole (g tree.0)), All-map _ _ (λ q k. later (g tree.0) _ _ k) _ (joined_parts g sorts.Element count (e1.0 ∷ e2.0 ∷ [])))
parts_of rs g p (DeepL middle digit z o i k) h = (sooner (g digit.0) _ _ (whole (g middle.0)), (later (g middle.0) _ _ (whole (g digit.0)), tt))
parts_of rs g p (DeepR middle digit z o i k) h = (later (g digit.0) _ _ (whole (g middle.0)), (sooner (g middle.0) _ _ (whole (g digit.0)), tt))
parts_of rs g p (Concat i left right list o z k) h = (
  sooner (g right.0) _ _ (sooner (g list.0) _ _ (whole (g left.0))),
  (later (g left.0 ++ g list.0) _ _ (whole (g right.0)), (sooner (g right.0) _ _ (later (g left.0) _ _ (whole (g list.0))), tt)),
)
parts_of rs g p _ h = absurd (true≢false (sym h))

abbrev IsTreeSort : Sort → Type 0
IsTreeSort s = (same_sort s sorts.Element || (same_sort s sorts.Digit || same_sort s sorts.Finger)) ≡ true

of_tree : (r : Rec) (s : Sort) → sort_of r ≡ s → IsTreeSort s → is_of_tree r ≡ true
of_tree r s e h = ap (λ t. same_sort t sorts.Element || (same_sort t sorts.Digit || same_sort t sorts.Finger)) e ∙ h

elements_named : (n : ℕ) (es : List ℕ) → AllByRecursion (λ (q : NamedPlace). IsTreeSort q.1) (take n (map (λ e. (e, sorts.Element)) es))
elements_named zero es = tt
elements_named (suc n) [] = tt
elements_named (suc n) (e ∷ es) = (refl, elements_named n es)

named_tree : (r : Rec) → is_of_tree r ≡ true → AllByRecursion (λ (q : NamedPlace). IsTreeSort q.1) (named r)
named_tree TEmpty h = tt
named_tree (Leaf x) h = tt
named_tree (Node count e1 e2 e3 z k) h = elements_named count (e1.0 ∷ e2.0 ∷ e3.0 ∷ [])
named_tree (Digit count e1 e2 e3 e4 z k) h = elements_named count (e1.0 ∷ e2.0 ∷ e3.0 ∷ e4.0 ∷ [])
named_tree (Single elem z k) h = (refl, tt)
named_tree (Deep left middle right z k) h = (refl, (refl, (refl, tt)))
named_tree (PushL count i tree e1 e2 o z k) h = (refl, elements_named count (e1.0 ∷ e2.0 ∷ []))
named_tree (PushR count i tree e1 e2 o z k) h = (refl, elements_named count (e1.0 ∷ e2.0 ∷ []))
named_tree (DeepL middle digit z o i k) h = (refl, (refl, tt))
named_tree (DeepR middle digit z o i k) h = (refl, (refl, tt))
named_tree (Concat i left right list o z k) h = (refl, (refl, (refl, tt)))
named_tree _ h = absurd (true≢false (sym h))

-- ---- rising lists

rising_right : (xs ys : List ℕ) → is_rising (xs ++ ys) ≡ true → is_rising ys ≡ true
rising_right [] ys h = h
rising_right (x ∷ []) [] h = refl
rising_right (x ∷ []) (y ∷ ys) h = (and_parts (leb x y) (is_rising (y ∷ ys)) h).1
rising_right (x ∷ z ∷ zs) ys h = rising_right (z ∷ zs) ys (and_parts (leb x z) (is_rising (z ∷ (zs ++ ys))) h).1

rising_left : (xs ys : List ℕ) → is_rising (xs ++ ys) ≡ true → is_rising xs ≡ true
rising_left [] ys h = refl
rising_left (x ∷ []) ys h = refl
rising_left (x ∷ z ∷ zs) ys h = let k = and_parts (leb x z) (is_rising (z ∷ (zs ++ ys))) h in and_from (leb x z) (is_rising (z ∷ zs)) k.0 (rising_left (z ∷ zs) ys k.1)

pub rising_part : (xs ys : List ℕ) → Part xs ys → is_rising ys ≡ true → is_rising xs ≡ true
rising_part xs ys k h = rising_right k.0 xs (rising_left (k.0 ++ xs) k.1 (rw k.2 at h))

-- the last item of a rising list is its greatest
rising_last : (x : ℕ) (xs : List ℕ) → is_rising (x ∷ xs) ≡ true → last_of (x ∷ xs) ≡ Some (fold max x xs)
rising_last x [] h = refl
rising_last x (y ∷ ys) h =
    let k = and_parts (leb x y) (is_rising (y ∷ ys)) h in
    let m : max x y ≡ y = omega (arith, leb-true x y k.0) in
    rising_last y ys k.1 ∙ ap (λ n. Some (fold max n ys)) (sym m)

rising_key : (xs : List ℕ) → is_rising xs ≡ true → key_for kinds.Ord xs ≡ key_for kinds.Prio xs
rising_key [] h = refl
rising_key (x ∷ xs) h = let m : max 0 x ≡ x = omega arith in ap (elim [ None ↦ 0 | Some z ↦ z ]) (rising_last x xs h) ∙ ap (λ n. fold max n xs) (sym m)

same_key : (k l : Kind) (xs : List ℕ) (o : Option ℕ) → key_for k xs ≡ key_for l xs → has_key k xs o ≡ has_key l xs o
same_key k l xs None e = refl
same_key k l xs (Some key) e = ap (eqb key) e

-- ---- two kinds with the same keys

module _ {w : World} (law : IsLawful w) (k l : Kind) (good : List ℕ → Bool) (same : (xs : List ℕ) → good xs ≡ true → key_for k xs ≡ key_for l xs) (part : (xs ys : List ℕ) → Part xs ys → good ys ≡ true → good xs ≡ true) where
  abbrev SameBelow : ℕ → Type 0
  SameBelow p = (q : ℕ) → q < p → (r : Rec) → recs w q ≡ Some r → is_of_tree r ≡ true → good (means (recs w) q) ≡ true → has_keys k (recs w) q ≡ has_keys l (recs w) q

  same_named : (p : ℕ) (m : List ℕ) → good m ≡ true → SameBelow p → (qs : List NamedPlace) → AllByRecursion (IsNamedWell (recs w) p) qs → AllByRecursion (λ (q : NamedPlace). IsTreeSort q.1) qs → AllByRecursion (λ (q : NamedPlace). Part (means (recs w) q.0) m) qs → AllByRecursion (λ (q : NamedPlace). has_keys k (recs w) q.0 ≡ has_keys l (recs w) q.0) qs
  same_named p m g ih [] n t ps = tt
  same_named p m g ih (q ∷ qs) n t ps = (ih q.0 n.0.0 n.0.1 n.0.2 (of_tree n.0.1 q.1 n.0.3 t.0) (part (means (recs w) q.0) m ps.0 g), same_named p m g ih qs n.1 t.1 ps.1)

  pub keys_same : (p : ℕ) (r : Rec) → recs w p ≡ Some r → is_of_tree r ≡ true → good (means (recs w) p) ≡ true → has_keys k (recs w) p ≡ has_keys l (recs w) p
  keys_same = from_lower (λ p. (r : Rec) → recs w p ≡ Some r → is_of_tree r ≡ true → good (means (recs w) p) ≡ true → has_keys k (recs w) p ≡ has_keys l (recs w) p) (λ p ih r e t g. (
      let m = means_is (recs w) (lawful_names law) p r e in
      let below = same_named p (means_of (recs w) (means (recs w)) p r) (rw m at g) ih (named r) (lawful_names law p r e) (named_tree r t) (parts_of (recs w) (means (recs w)) p r t) in
      keys_is law k p r e ∙ (rw (same_key k l (means (recs w) p) (key_of r) (same (means (recs w) p) g), all_keys (has_keys k (recs w)) (has_keys l (recs w)) (named r) below) refl ∙ sym (keys_is law l p r e))))

-- the keys of a rising list
pub keys_rise : {w : World} → IsLawful w → (p : ℕ) (r : Rec) → recs w p ≡ Some r → is_of_tree r ≡ true → is_rising (means (recs w) p) ≡ true → has_keys kinds.Ord (recs w) p ≡ has_keys kinds.Prio (recs w) p
keys_rise law = keys_same law kinds.Ord kinds.Prio is_rising rising_key rising_part

-- ---- lists without an item above 0

abbrev pub has_no_key : List ℕ → Bool
has_no_key xs = list_all (λ x. eqb x 0) xs

all_right_of : (xs ys : List ℕ) → has_no_key (xs ++ ys) ≡ true → has_no_key ys ≡ true
all_right_of [] ys h = h
all_right_of (x ∷ xs) ys h = all_right_of xs ys (and_parts (eqb x 0) (has_no_key (xs ++ ys)) h).1

all_left_of : (xs ys : List ℕ) → has_no_key (xs ++ ys) ≡ true → has_no_key xs ≡ true
all_left_of [] ys h = refl
all_left_of (x ∷ xs) ys h = let k = and_parts (eqb x 0) (has_no_key (xs ++ ys)) h in and_from (eqb x 0) (has_no_key xs) k.0 (all_left_of xs ys k.1)

no_key_part : (xs ys : List ℕ) → Part xs ys → has_no_key ys ≡ true → has_no_key xs ≡ true
no_key_part xs ys k h = all_right_of k.0 xs (all_left_of (k.0 ++ xs) k.1 (rw k.2 at h))

no_key : (xs : List ℕ) → has_no_key xs ≡ true → key_for kinds.Prio xs ≡ key_for kinds.Seq xs
no_key [] h = refl
no_key (x ∷ xs) h = let k = and_parts (eqb x 0) (has_no_key xs) h in let z : max 0 x ≡ 0 = omega (arith, eqb-true x 0 k.0) in ap (λ n. fold max n xs) z ∙ no_key xs k.1

-- a priority queue whose greatest item is 0 has the keys of a sequence
none_above : (a : ℕ) (xs : List ℕ) → fold max a xs ≡ 0 → (a ≡ 0) × (has_no_key xs ≡ true)
none_above a [] h = (h, refl)
none_above a (x ∷ xs) h = let k = none_above (max a x) xs h in let z = k.0 in (omega (arith, z), and_from (eqb x 0) (has_no_key xs) (eq-eqb x 0 (omega (arith, z))) k.1)

pub keys_none : {w : World} → IsLawful w → (p : ℕ) (r : Rec) → recs w p ≡ Some r → is_of_tree r ≡ true → key_for kinds.Prio (means (recs w) p) ≡ 0 → has_keys kinds.Prio (recs w) p ≡ has_keys kinds.Seq (recs w) p
keys_none {w} law p r e t z = keys_same law kinds.Prio kinds.Seq has_no_key no_key no_key_part p r e t (none_above 0 (means (recs w) p) z).1
