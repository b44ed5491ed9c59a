-- Keys of what is put.
use Rattle.std.proofs.Common.{◌≡◌, ◌⊎◌, inl, inr, ltb, ℕ, zero, suc, refl, sym, ap, ◌∙◌, arith, max, Bool, true, false, ◌&&◌, Option, Some, None, List, [], ◌∷◌, ◌++◌}
use Rattle.std.specs.Prelude.{fold, flat_map}
use Rattle.std.specs.List.{AllByRecursion}
use Rattle.std.proofs.lemmas.Bool.{true≢false, and_parts, and_from, eqb-true, eq-eqb, lt-ltb}
use Rattle.lazy_rec.specs.declared.places.Ref.{Ref}
use Rattle.lazy_rec.specs.declared.records.Rec.{Rec}
use Rattle.lazy_rec.specs.declared.records.Rec.TheVariants.{TEmpty, Leaf, Node, Single, Deep}
use Rattle.lazy_rec.specs.Named.{NamedPlace, named, at_record}
use Rattle.lazy_rec.specs.ByPlace.{below, by_place}
use Rattle.lazy_rec.specs.Meaning.{means}
use Rattle.lazy_rec.specs.Tests.{implies}
use Rattle.lazy_rec.specs.declared.events.Kind.{Kind}
use Rattle.lazy_rec.specs.declared.events.Kind.TheVariants as kinds
use Rattle.heap_store.specs.World.{World, recs, holds, done_at}
use Rattle.heap_store.specs.Growth.{Grows}
use Rattle.heap_store.specs.Lawful.{IsLawful, key_of, key_for, has_key, has_keys, keeps_each_kind, is_rising}
use Rattle.heap_store.proofs.GrowthLaws.{at_true, grows_trans}
use Rattle.lazy_rec.proofs.HistoryLaws.{all_true}
use Rattle.heap_store.proofs.LawfulLaws.{lawful_names}
use Rattle.heap_store.proofs.MeaningLaws.{means_is, means_kept}
use Rattle.heap_store.proofs.RecordLaws.{keys_kept}
use Rattle.finger_level.specs.Reads.{is_element, is_tree_rec, element_key, cached_key, IsDigitAt}
use Rattle.finger_level.specs.Keyed.{way, HasKeys, AreKeyed, KeyedDigit, KeyedMiddle, key_in}
use Rattle.finger_level.specs.Pushes.{pushed_list, beside}
use Rattle.finger_level.specs.Puts.{push_record, tree_at}
use Rattle.lazy_rec.specs.declared.places.Item.{Item}
use Rattle.lazy_rec.specs.declared.records.Rec.TheVariants.{PushL, PushR, DeepL, DeepR, Concat}
use Rattle.heap_store.specs.Completion.{is_empty_tree}
use Rattle.finger_level.specs.declared.few.Few.{Few}
use Rattle.finger_level.specs.declared.few.Few.TheVariants as few
use Rattle.finger_level.specs.declared.few.Group.{Group}
use Rattle.finger_level.specs.declared.few.Group.TheVariants as group
use Rattle.finger_level.specs.declared.few.Weight.{Weight}
use Rattle.finger_level.specs.declared.level.Digit.{Digit as Part}
use Rattle.finger_level.specs.declared.level.Digit.TheVariants as digits
use Rattle.finger_level.specs.declared.level.Side.{Side}
use Rattle.finger_level.specs.declared.level.Side.TheVariants as sides
use Rattle.finger_level.specs.declared.level.Pushed.{Pushed}
use Rattle.finger_level.specs.declared.level.Pushed.TheVariants as pushes
use Rattle.finger_level.specs.Few.{few_list, group_list, digit_record, node_record}
use Rattle.finger_level.specs.declared.level.Nodes.{Nodes}
use Rattle.finger_level.specs.declared.level.Nodes.TheVariants as nodes
use Rattle.finger_level.specs.declared.level.Middle.{Middle}
use Rattle.finger_level.specs.declared.level.Middle.TheVariants as middles
use Rattle.finger_level.specs.Level.{if_there, tree_of, all_of, nodes_list}
use Rattle.finger_level.proofs.Records.{all_from}
use Rattle.finger_level.proofs.Keys.{keys_is, keys_none, keys_rise, is_of_tree}

-- ---- later worlds

keyed_record : (w : World) (keyed : Bool) (p : ℕ) → HasKeys keyed w p → (r : Rec) × (recs w p ≡ Some r)
unfolding has_keys by_place
keyed_record w keyed p h = let t = at_true _ (recs w p) h in (t.0, t.1)

pub keyed_up : {a b : World} → IsLawful a → Grows a b → (keyed : Bool) (p : ℕ) → HasKeys keyed a p → HasKeys keyed b p
keyed_up {a} {b} law g keyed p h = sym (keys_kept (recs a) (recs b) (lawful_names law) g.records (way keyed) p (keyed_record a keyed p h)) ∙ h

pub all_keyed_up : {a b : World} → IsLawful a → Grows a b → (keyed : Bool) (ps : List ℕ) → AreKeyed keyed a ps → AreKeyed keyed b ps
all_keyed_up law g keyed [] h = tt
all_keyed_up law g keyed (p ∷ ps) h = (keyed_up law g keyed p h.0, all_keyed_up law g keyed ps h.1)

-- ---- one record

pub keyed_from : {w : World} → IsLawful w → (keyed : Bool) (p : ℕ) (r : Rec) → recs w p ≡ Some r → has_key (way keyed) (means (recs w) p) (key_of r) ≡ true → AllByRecursion (λ (q : NamedPlace). HasKeys keyed w q.0) (named r) → HasKeys keyed w p
keyed_from {w} law keyed p r e k h = keys_is law (way keyed) p r e ∙ and_from (has_key (way keyed) (means (recs w) p) (key_of r)) _ k (all_from (λ (q : NamedPlace). has_keys (way keyed) (recs w) q.0) (named r) h)

pub record Keyed (w : World) (keyed : Bool) (p : ℕ) (r : Rec) : Type 0 where
  pub key : has_key (way keyed) (means (recs w) p) (key_of r) ≡ true
  pub all : AllByRecursion (λ (q : NamedPlace). HasKeys keyed w q.0) (named r)

pub keyed_of : {w : World} → IsLawful w → (keyed : Bool) (p : ℕ) (r : Rec) → recs w p ≡ Some r → HasKeys keyed w p → Keyed w keyed p r
keyed_of {w} law keyed p r e h =
    let k = and_parts (has_key (way keyed) (means (recs w) p) (key_of r)) _ (sym (keys_is law (way keyed) p r e) ∙ h) in
    record { key = k.0; all = all_true (λ (q : NamedPlace). has_keys (way keyed) (recs w) q.0) (named r) k.1 }

-- the key that a record caches
cached_is : (k : Kind) (xs : List ℕ) (o : Option ℕ) → has_key k xs o ≡ true → (o ≡ None → xs ≡ []) → elim o [ None ↦ 0 | Some key ↦ key ] ≡ key_for k xs
cached_is k xs None h none = rw (none refl) (no_items k)
  where
    no_items : (k : Kind) → 0 ≡ key_for k []
    no_items kinds.Prio = refl
    no_items kinds.Ord = refl
    no_items _ = refl
cached_is k xs (Some key) h none = eqb-true key (key_for k xs) h

-- ---- the key of a tree

-- a tree's record without a key has no items
no_key_empty : {w : World} → IsLawful w → (t : ℕ) (r : Rec) → recs w t ≡ Some r → is_tree_rec r ≡ true → key_of r ≡ None → means (recs w) t ≡ []
no_key_empty {w} law t TEmpty e is none = means_is (recs w) (lawful_names law) t TEmpty e
no_key_empty law t (Single _ _ _) e is none = cc
no_key_empty law t (Deep _ _ _ _ _) e is none = cc
no_key_empty law t (PushL _ _ _ _ _ _ _ _) e is none = cc
no_key_empty law t (PushR _ _ _ _ _ _ _ _) e is none = cc
no_key_empty law t (DeepL _ _ _ _ _ _) e is none = cc
no_key_empty law t (DeepR _ _ _ _ _ _) e is none = cc
no_key_empty law t (Concat _ _ _ _ _ _ _) e is none = cc
no_key_empty law t _ e is none = absurd (true≢false (sym is))

-- the key that a tree caches, by the kind whose keys it has
pub kind_key : {w : World} → IsLawful w → (k : Kind) (t : ℕ) (r : Rec) → recs w t ≡ Some r → is_tree_rec r ≡ true → has_keys k (recs w) t ≡ true → cached_key r ≡ key_for k (means (recs w) t)
kind_key {w} law k t r e is h = cached_is k (means (recs w) t) (key_of r) (and_parts (has_key k (means (recs w) t) (key_of r)) _ (sym (keys_is law k t r e) ∙ h)).0 (no_key_empty law t r e is)

-- ---- greatest items

fold_max : (a : ℕ) (xs : List ℕ) → fold max a xs ≡ max a (fold max 0 xs)
fold_max a [] = omega arith
fold_max a (x ∷ xs) =
    let m = fold_max (max a x) xs in
    let n = fold_max (max 0 x) xs in
    omega (arith, m, n)

greatest_both : (a : ℕ) (xs ys : List ℕ) → fold max a (xs ++ ys) ≡ max (fold max a xs) (fold max 0 ys)
greatest_both a [] ys = fold_max a ys
greatest_both a (x ∷ xs) ys = greatest_both (max a x) xs ys

pub key_both : (keyed : Bool) (xs ys : List ℕ) → key_in keyed (xs ++ ys) ≡ max (key_in keyed xs) (key_in keyed ys)
key_both true xs ys = greatest_both 0 xs ys
key_both false xs ys = omega arith

-- ---- the key of an element

pub element_keyed : {w : World} → IsLawful w → (e : ℕ) → holds (recs w) e is_element ≡ true → HasKeys true w e → at_record 0 element_key (recs w e) ≡ key_in true (means (recs w) e)
element_keyed {w} law e sort h = let t = at_true is_element (recs w e) sort in rw t.1 (by t.0 t.1 t.2 (keyed_of law true e t.0 t.1 h))
  where
    by : (r : Rec) → recs w e ≡ Some r → is_element r ≡ true → Keyed w true e r → element_key r ≡ key_in true (means (recs w) e)
    by (Leaf x) k s m = let z = means_is (recs w) (lawful_names law) e (Leaf x) k in rw z (omega arith)
    by (Node count e1 e2 e3 z x) k s m = eqb-true x.0 (key_in true (means (recs w) e)) m.key
    by _ k s m = absurd (true≢false (sym s))

-- ---- items in a later world

pub keyed_items : {a b : World} → IsLawful a → Grows a b → (keyed : Bool) (ps : List ℕ) → AreKeyed keyed a ps → flat_map (means (recs b)) ps ≡ flat_map (means (recs a)) ps
keyed_items law g keyed [] h = refl
keyed_items {a} {b} law g keyed (p ∷ ps) h = rw (keyed_items law g keyed ps h.1, means_kept (recs a) (recs b) (lawful_names law) g.records p (keyed_record a keyed p h.0)) refl

pub keyed_item : {a b : World} → IsLawful a → Grows a b → (keyed : Bool) (p : ℕ) → HasKeys keyed a p → means (recs b) p ≡ means (recs a) p
keyed_item {a} {b} law g keyed p h = sym (means_kept (recs a) (recs b) (lawful_names law) g.records p (keyed_record a keyed p h))

-- ---- nodes and digits

module _ {a b : World} (law : IsLawful a) (law2 : IsLawful b) (g : Grows a b) (keyed : Bool) where
  pub node_keyed : (n : Group) (w : Weight) (p : ℕ) → recs b p ≡ Some (node_record n w) → w.key.0 ≡ key_in keyed (flat_map (means (recs a)) (group_list n)) → AreKeyed keyed a (group_list n) → HasKeys keyed b p
  node_keyed (group.Two x y) w p e key h =
      let u = all_keyed_up law g keyed (x.0 ∷ y.0 ∷ []) h in
      let i = keyed_items law g keyed (x.0 ∷ y.0 ∷ []) h in
      keyed_from law2 keyed p _ e (eq-eqb w.key.0 _ (key ∙ ap (key_in keyed) (sym (means_is (recs b) (lawful_names law2) p _ e ∙ i)))) u
  node_keyed (group.Three x y z) w p e key h =
      let u = all_keyed_up law g keyed (x.0 ∷ y.0 ∷ z.0 ∷ []) h in
      let i = keyed_items law g keyed (x.0 ∷ y.0 ∷ z.0 ∷ []) h in
      keyed_from law2 keyed p _ e (eq-eqb w.key.0 _ (key ∙ ap (key_in keyed) (sym (means_is (recs b) (lawful_names law2) p _ e ∙ i)))) u

  pub few_keyed : (n : Few) (w : Weight) (p : ℕ) → recs b p ≡ Some (digit_record n w) → w.key.0 ≡ key_in keyed (flat_map (means (recs a)) (few_list n)) → AreKeyed keyed a (few_list n) → HasKeys keyed b p
  few_keyed (few.One x) w p e key h = keyed_from law2 keyed p _ e (eq-eqb w.key.0 _ (key ∙ ap (key_in keyed) (sym (means_is (recs b) (lawful_names law2) p _ e ∙ keyed_items law g keyed (x.0 ∷ []) h)))) (all_keyed_up law g keyed (x.0 ∷ []) h)
  few_keyed (few.Two x y) w p e key h = keyed_from law2 keyed p _ e (eq-eqb w.key.0 _ (key ∙ ap (key_in keyed) (sym (means_is (recs b) (lawful_names law2) p _ e ∙ keyed_items law g keyed (x.0 ∷ y.0 ∷ []) h)))) (all_keyed_up law g keyed (x.0 ∷ y.0 ∷ []) h)
  few_keyed (few.Three x y z) w p e key h = keyed_from law2 keyed p _ e (eq-eqb w.key.0 _ (key ∙ ap (key_in keyed) (sym (means_is (recs b) (lawful_names law2) p _ e ∙ keyed_items law g keyed (x.0 ∷ y.0 ∷ z.0 ∷ []) h)))) (all_keyed_up law g keyed (x.0 ∷ y.0 ∷ z.0 ∷ []) h)
  few_keyed (few.Four x y z u) w p e key h = keyed_from law2 keyed p _ e (eq-eqb w.key.0 _ (key ∙ ap (key_in keyed) (sym (means_is (recs b) (lawful_names law2) p _ e ∙ keyed_items law g keyed (x.0 ∷ y.0 ∷ z.0 ∷ u.0 ∷ []) h)))) (all_keyed_up law g keyed (x.0 ∷ y.0 ∷ z.0 ∷ u.0 ∷ []) h)

  push_key : (side : Side) (t : Ref) (es : Pushed) (key p : ℕ) → means (recs b) p ≡ beside side (flat_map (means (recs b)) (pushed_list es)) (means (recs b) t.0) → key ≡ max (key_in keyed (flat_map (means (recs a)) (pushed_list es))) (key_in keyed (means (recs a) t.0)) → AreKeyed keyed a (pushed_list es) → HasKeys keyed a t.0 → key ≡ key_in keyed (means (recs b) p)
  push_key side t es key p m k h kt =
      let i = keyed_items law g keyed (pushed_list es) h in
      let j = keyed_item law g keyed t.0 kt in
      let n : means (recs b) p ≡ beside side (flat_map (means (recs a)) (pushed_list es)) (means (recs a) t.0) = rw (i, j) at m in
      k ∙ (both side (flat_map (means (recs a)) (pushed_list es)) (means (recs a) t.0) ∙ ap (key_in keyed) (sym n))
    where
      both : (side : Side) (xs ys : List ℕ) → max (key_in keyed xs) (key_in keyed ys) ≡ key_in keyed (beside side xs ys)
      both sides.Left xs ys = sym (key_both keyed xs ys)
      both sides.Right xs ys = let z = key_both keyed ys xs in omega (arith, z)

  -- a suspended push
  pub push_keyed : (side : Side) (t : Ref) (es : Pushed) (o : Ref) (off : ℕ) (w : Weight) (p : ℕ) → recs b p ≡ Some (push_record side t es o off w) → w.key.0 ≡ max (key_in keyed (flat_map (means (recs a)) (pushed_list es))) (key_in keyed (means (recs a) t.0)) → AreKeyed keyed a (pushed_list es) → HasKeys keyed a t.0 → HasKeys keyed b p
  push_keyed sides.Left t (pushes.One x) o off w p e key h k = keyed_from law2 keyed p _ e (eq-eqb w.key.0 _ (push_key sides.Left t (pushes.One x) w.key.0 p (means_is (recs b) (lawful_names law2) p _ e) key h k)) (keyed_up law g keyed t.0 k, all_keyed_up law g keyed (x.0 ∷ []) h)
  push_keyed sides.Left t (pushes.Two x y) o off w p e key h k = keyed_from law2 keyed p _ e (eq-eqb w.key.0 _ (push_key sides.Left t (pushes.Two x y) w.key.0 p (means_is (recs b) (lawful_names law2) p _ e) key h k)) (keyed_up law g keyed t.0 k, all_keyed_up law g keyed (x.0 ∷ y.0 ∷ []) h)
  push_keyed sides.Right t (pushes.One x) o off w p e key h k = keyed_from law2 keyed p _ e (eq-eqb w.key.0 _ (push_key sides.Right t (pushes.One x) w.key.0 p (means_is (recs b) (lawful_names law2) p _ e) key h k)) (keyed_up law g keyed t.0 k, all_keyed_up law g keyed (x.0 ∷ []) h)
  push_keyed sides.Right t (pushes.Two x y) o off w p e key h k = keyed_from law2 keyed p _ e (eq-eqb w.key.0 _ (push_key sides.Right t (pushes.Two x y) w.key.0 p (means_is (recs b) (lawful_names law2) p _ e) key h k)) (keyed_up law g keyed t.0 k, all_keyed_up law g keyed (x.0 ∷ y.0 ∷ []) h)

  pub digit_keyed_up : (d : Part) → KeyedDigit keyed a d → KeyedDigit keyed b d
  digit_keyed_up (digits.Old p f) h = (keyed_up law g keyed p.0 h.0, all_keyed_up law g keyed (few_list f) h.1)
  digit_keyed_up (digits.New f) h = all_keyed_up law g keyed (few_list f) h

-- ---- what stands

module _ {w : World} (law : IsLawful w) (keyed : Bool) where
  -- the elements of a digit
  pub digit_keys : (p : ℕ) (f : Few) → IsDigitAt w p f → HasKeys keyed w p → AreKeyed keyed w (few_list f)
  digit_keys p (few.One x) d h = (keyed_of law keyed p _ d.here h).all
  digit_keys p (few.Two x y) d h = (keyed_of law keyed p _ d.here h).all
  digit_keys p (few.Three x y z) d h = (keyed_of law keyed p _ d.here h).all
  digit_keys p (few.Four x y z u) d h = (keyed_of law keyed p _ d.here h).all

  pub empty_keyed : HasKeys keyed w 4
  empty_keyed =
      let e = at_true is_empty_tree (recs w 4) (and_parts _ (holds (recs w) 4 is_empty_tree) law.fixed).1 in
      keyed_from law keyed 4 TEmpty (e.1 ∙ ap Some (empty_at e.0 e.2)) refl tt
    where
      empty_at : (r : Rec) → is_empty_tree r ≡ true → r ≡ TEmpty
      empty_at TEmpty h = refl
      empty_at _ h = absurd (true≢false (sym h))

  pub tree_keyed : (t : Option Ref) → AreKeyed keyed w (if_there (tree_of t)) → HasKeys keyed w (tree_at t).0
  tree_keyed None h = empty_keyed
  tree_keyed (Some t) h = h.0

  pub deep_keyed : (p : ℕ) (left middle right : Ref) (z : ℕ) (key : Item) (items : List ℕ) → recs w p ≡ Some (Deep left middle right z key) → means (recs w) p ≡ items → key.0 ≡ key_in keyed items → HasKeys keyed w left.0 → HasKeys keyed w middle.0 → HasKeys keyed w right.0 → HasKeys keyed w p
  deep_keyed p left middle right z key items e i k l m r = keyed_from law keyed p _ e (eq-eqb key.0 _ (k ∙ ap (key_in keyed) (sym i))) (l, (m, (r, tt)))

  pub single_keyed : (p : ℕ) (elem : Ref) (z : ℕ) (key : Item) (items : List ℕ) → recs w p ≡ Some (Single elem z key) → means (recs w) p ≡ items → key.0 ≡ key_in keyed items → HasKeys keyed w elem.0 → HasKeys keyed w p
  single_keyed p elem z key items e i k h = keyed_from law keyed p _ e (eq-eqb key.0 _ (k ∙ ap (key_in keyed) (sym i))) (h, tt)

-- ---- what the puts are given

all_first : (P : ℕ → Type 0) (xs ys : List ℕ) → AllByRecursion P (xs ++ ys) → AllByRecursion P xs × AllByRecursion P ys
all_first P [] ys h = (tt, h)
all_first P (x ∷ xs) ys h = let k = all_first P xs ys h.1 in ((h.0, k.0), k.1)

pub one_keyed : (v n : World) (keyed : Bool) (a : Group) (ns : Nodes) → ns ≡ nodes.One a → AreKeyed keyed v (all_of (nodes_list ns)) → (e : Ref) → (AreKeyed keyed v (group_list a) → HasKeys keyed n e.0) → AreKeyed keyed n (e.0 ∷ [])
one_keyed v n keyed a ns same h e k =
    let m : AreKeyed keyed v (group_list a ++ []) = rw same at h in
    (k (all_first _ (group_list a) [] m).0, tt)

pub two_keyed : {v b n : World} → IsLawful v → IsLawful b → Grows v b → Grows b n → (keyed : Bool) (x y : Group) (ns : Nodes) → ns ≡ nodes.Two x y → AreKeyed keyed v (all_of (nodes_list ns)) → (e f : Ref) → (AreKeyed keyed v (group_list x) → HasKeys keyed b e.0) → (AreKeyed keyed b (group_list y) → HasKeys keyed n f.0) → AreKeyed keyed n (e.0 ∷ f.0 ∷ [])
two_keyed {v} law law1 g j keyed x y ns same h e f k l =
    let m : AreKeyed keyed v (group_list x ++ (group_list y ++ [])) = rw same at h in
    let p = all_first _ (group_list x) (group_list y ++ []) m in
    let q = all_first _ (group_list y) [] p.1 in
    (keyed_up law1 j keyed e.0 (k p.0), (l (all_keyed_up law g keyed (group_list y) q.0), tt))

pub middle_keyed : {w : World} → IsLawful w → (keyed : Bool) (m : Middle) (t : Option Ref) → m ≡ middles.Tree t → KeyedMiddle keyed w m → (x : Ref) → x ≡ tree_at t → HasKeys keyed w x.0
middle_keyed {w} law keyed m t same h x at =
    let k : KeyedMiddle keyed w (middles.Tree t) = rw same at h in
    rw at (tree_keyed law keyed t k.1)

-- a suspended push, from the keys of what was weighed
pub pushed_keyed : {v b c n : World} → IsLawful v → IsLawful b → IsLawful n → Grows v b → Grows b c → Grows c n → (keyed : Bool) (side : Side) (t : Option Ref) (ns : Nodes) (es : Pushed) (r o : Ref) (off : ℕ) (w : Weight) (p above below : ℕ) → r ≡ tree_at t → recs n p ≡ Some (push_record side r es o off w)
    → (AreKeyed keyed v (all_of (nodes_list ns)) → AreKeyed keyed b (pushed_list es)) → (AreKeyed keyed b (pushed_list es) → above ≡ key_in keyed (flat_map (means (recs b)) (pushed_list es))) → (HasKeys keyed c r.0 → below ≡ key_in keyed (means (recs c) r.0)) → w.key.0 ≡ max above below
    → AreKeyed keyed v (all_of (nodes_list ns)) → AreKeyed keyed v (if_there (tree_of t)) → HasKeys keyed n p
pushed_keyed {v} {b} {c} {n} law law1 law2 g h j keyed side t ns es r o off w p above below at e kn ka kb key hn ht =
    let es_b = kn hn in
    let tree : HasKeys keyed b r.0 = rw at (tree_keyed law1 keyed t (all_keyed_up law g keyed (if_there (tree_of t)) ht)) in
    let x = ka es_b in
    let y = kb (keyed_up law1 h keyed r.0 tree) ∙ ap (key_in keyed) (keyed_item law1 h keyed r.0 tree) in
    push_keyed law1 law2 (grows_trans h j) keyed side r es o off w p e (key ∙ rw (x, y) refl) es_b tree

-- ---- the value of a tree

pub value_keyed : {w : World} → IsLawful w → (keyed : Bool) (p q : ℕ) (r : Rec) → recs w p ≡ Some r → is_tree_rec r ≡ true → (q ≡ p) ⊎ ((s : ℕ) × (done_at w p ≡ Some (q, s))) → HasKeys keyed w p → HasKeys keyed w q
value_keyed {w} law keyed p q r e is (inl same) h = rw same h
value_keyed {w} law keyed p q r e is (inr d) h =
    let k : keeps_each_kind (recs w) p q ≡ true = rw is at (law.done p r e (q, d.0) d.1).keys in
    let a = and_parts (implies (has_keys kinds.Seq (recs w) p) (has_keys kinds.Seq (recs w) q)) _ k in
    let b = and_parts (implies (has_keys kinds.Prio (recs w) p) (has_keys kinds.Prio (recs w) q)) _ a.1 in
    by keyed a.0 b.0 h
  where
    by : (k : Bool) → implies (has_keys kinds.Seq (recs w) p) (has_keys kinds.Seq (recs w) q) ≡ true → implies (has_keys kinds.Prio (recs w) p) (has_keys kinds.Prio (recs w) q) ≡ true → HasKeys k w p → HasKeys k w q
    by true a b h = rw h at b
    by false a b h = rw h at a

-- what a suspended push names
pub record PushKeys (w : World) (keyed : Bool) (s : ℕ) (t : Ref) (es : Pushed) (key : ℕ) : Type 0 where
  pub key_is : key ≡ key_in keyed (means (recs w) s)
  pub tree : HasKeys keyed w t.0
  pub each : AreKeyed keyed w (pushed_list es)

pub push_keys_of : {w : World} → IsLawful w → (keyed : Bool) (s : ℕ) (side : Side) (t : Ref) (es : Pushed) (o : Ref) (off : ℕ) (wt : Weight) → recs w s ≡ Some (push_record side t es o off wt) → HasKeys keyed w s → PushKeys w keyed s t es wt.key.0
push_keys_of {w} law keyed s sides.Left t (pushes.One x) o off wt e h = let k = keyed_of law keyed s _ e h in record { key_is = eqb-true wt.key.0 _ k.key; tree = k.all.0; each = k.all.1 }
push_keys_of {w} law keyed s sides.Left t (pushes.Two x y) o off wt e h = let k = keyed_of law keyed s _ e h in record { key_is = eqb-true wt.key.0 _ k.key; tree = k.all.0; each = k.all.1 }
push_keys_of {w} law keyed s sides.Right t (pushes.One x) o off wt e h = let k = keyed_of law keyed s _ e h in record { key_is = eqb-true wt.key.0 _ k.key; tree = k.all.0; each = k.all.1 }
push_keys_of {w} law keyed s sides.Right t (pushes.Two x y) o off wt e h = let k = keyed_of law keyed s _ e h in record { key_is = eqb-true wt.key.0 _ k.key; tree = k.all.0; each = k.all.1 }

-- ---- the three kinds, from the two ways

-- a place that means the same and has the keys that were made for the key of the first has those of each kind
pub each_kind : {w : World} → IsLawful w → (s place : ℕ) (r q : Rec) (key : ℕ) → recs w s ≡ Some r → recs w place ≡ Some q → is_of_tree r ≡ true → is_of_tree q ≡ true → key_of r ≡ Some key → means (recs w) place ≡ means (recs w) s → (HasKeys (ltb 0 key) w s → HasKeys (ltb 0 key) w place) → keeps_each_kind (recs w) s place ≡ true
each_kind {w} law s place r q key e f is isq has same made =
    and_from _ _ (implied _ _ seq) (and_from _ _ (implied _ _ prio) (and_from _ true (implied _ _ ord) refl))
  where
    implied : (a b : Bool) → (a ≡ true → b ≡ true) → implies a b ≡ true
    implied true b h = h refl
    implied false b h = refl

    own : (k : Bool) → HasKeys k w s → key ≡ key_in k (means (recs w) s)
    own k h = eqb-true key _ (rw has at (keyed_of law k s r e h).key)

    none_to : (k : ℕ) → k ≡ key → k ≡ 0 → (HasKeys (ltb 0 k) w s → HasKeys (ltb 0 k) w place) → HasKeys false w s → HasKeys false w place
    none_to zero at z m h = m h
    none_to (suc k) at z m h = absurd (omega (arith, z))

    seq : has_keys kinds.Seq (recs w) s ≡ true → has_keys kinds.Seq (recs w) place ≡ true
    seq h = let z = own false h in none_to key refl z made h

    some_to : (k : ℕ) → k ≡ key → (HasKeys (ltb 0 k) w s → HasKeys (ltb 0 k) w place) → HasKeys true w s → HasKeys true w place
    some_to (suc k) at m h = let t : ltb 0 (suc k) ≡ true = lt-ltb 0 (suc k) (omega arith) in (rw t at m) h
    some_to zero at m h =
        let z : key_for kinds.Prio (means (recs w) s) ≡ 0 = sym (own true h) ∙ sym at in
        let zq : key_for kinds.Prio (means (recs w) place) ≡ 0 = ap (key_for kinds.Prio) same ∙ z in
        keys_none law place q f isq zq ∙ m (sym (keys_none law s r e is z) ∙ h)

    prio : has_keys kinds.Prio (recs w) s ≡ true → has_keys kinds.Prio (recs w) place ≡ true
    prio h = some_to key refl made h

    ord : (has_keys kinds.Ord (recs w) s && is_rising (means (recs w) s)) ≡ true → (has_keys kinds.Ord (recs w) place && is_rising (means (recs w) place)) ≡ true
    ord h =
        let k = and_parts (has_keys kinds.Ord (recs w) s) (is_rising (means (recs w) s)) h in
        let rises : is_rising (means (recs w) place) ≡ true = ap is_rising same ∙ k.1 in
        and_from _ _ (keys_rise law place q f isq rises ∙ prio (sym (keys_rise law s r e is k.1) ∙ k.0)) rises
