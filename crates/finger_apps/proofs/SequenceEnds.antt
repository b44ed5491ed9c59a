-- What stands at the ends of a sequence.
use Rattle.std.proofs.Common.{◌≡◌, ℕ, refl, sym, ap, ◌∙◌, arith, subst, true, false, ◌&&◌, Option, Some, None, List, [], ◌∷◌}
use Rattle.std.specs.List.{AllByRecursion}
use Rattle.std.proofs.lemmas.Bool.{true≢false, and_parts, and_from}
use Rattle.lazy_rec.specs.declared.places.Ref.{Ref}
use Rattle.lazy_rec.specs.declared.places.Item.{Item}
use Rattle.lazy_rec.specs.declared.records.Rec.{Rec}
use Rattle.lazy_rec.specs.declared.records.Rec.TheVariants.{TEmpty, Leaf, Node, Single, Deep}
use Rattle.lazy_rec.specs.declared.records.Sort.TheVariants as sorts
use Rattle.lazy_rec.specs.Named.{sort_of, same_sort}
use Rattle.lazy_rec.specs.Meaning.{means}
use Rattle.heap_store.specs.World.{World, recs, holds}
use Rattle.heap_store.specs.Completion.{elements}
use Rattle.lazy_rec.specs.declared.events.Kind.TheVariants as kinds
use Rattle.heap_store.specs.Lawful.{IsLawful, is_of_level, is_root, keeps_keys}
use Rattle.heap_store.proofs.FixedPlaces.{fixed_records}
use Rattle.finger_level.proofs.Keying.{empty_keyed}
use Rattle.heap_store.proofs.GrowthLaws.{at_true}
use Rattle.heap_store.proofs.LawfulLaws.{lawful_names}
use Rattle.heap_store.proofs.MeaningLaws.{means_is, means_kept}
use Rattle.heap_store.proofs.RecordLaws.{level_kept}
use Rattle.heap_store.specs.Growth.{Grows}
use Rattle.heap_store.proofs.NameLaws.{IsPublished}
use Rattle.heap_store.proofs.WellNamed.{named_sort}
use Rattle.finger_level.specs.declared.few.Few.{Few}
use Rattle.finger_level.specs.declared.level.Side.{Side}
use Rattle.finger_level.specs.declared.level.Side.TheVariants as sides
use Rattle.finger_level.specs.Few.{few_list}
use Rattle.finger_level.specs.Reads.{is_element, is_digit_rec, is_tree_value, IsDigitAt}
use Rattle.finger_level.specs.Puts.{IsElement}
use Rattle.finger_level.proofs.Values.{level_is}
use Rattle.finger_level.proofs.Found.{digit_elements}
use Rattle.finger_level.proofs.Tops.{DigitTop, digit_top}
use Rattle.finger_apps.specs.Sequence.{end_of, at_side, is_leaf}
use Rattle.finger_apps.proofs.ListEnds.{end_items}

-- an element of level 0 is a leaf
pub leaf_at : {w : World} → IsLawful w → (e : ℕ) → holds (recs w) e is_element ≡ true → is_of_level (recs w) e 0 ≡ true → holds (recs w) e is_leaf ≡ true
leaf_at {w} law e sort level = let t = at_true is_element (recs w e) sort in rw t.1 (by t.0 t.1 t.2)
  where
    by : (r : Rec) → recs w e ≡ Some r → is_element r ≡ true → is_leaf r ≡ true
    by (Leaf x) k h = refl
    by (Node c e1 e2 e3 z x) k h = absurd (true≢false (sym level ∙ level_is law e _ k 0))
    by _ k h = absurd (true≢false (sym h))

leaf_means : {w : World} → IsLawful w → (e : ℕ) (item : Item) → recs w e ≡ Some (Leaf item) → means (recs w) e ≡ item.0 ∷ []
leaf_means {w} law e item k = means_is (recs w) (lawful_names law) e _ k

-- ---- a tree of one element

pub single_leaf : {w : World} → IsLawful w → (q : ℕ) (elem : Ref) (z : ℕ) (k : Item) → recs w q ≡ Some (Single elem z k) → is_of_level (recs w) q 0 ≡ true → holds (recs w) elem.0 is_leaf ≡ true
single_leaf {w} law q elem z k e level =
    let n = (lawful_names law q _ e).0 in
    leaf_at law elem.0 (named_sort (recs w) q (elem.0, sorts.Element) n) (sym (level_is law q _ e 0) ∙ level)

one_end : (side : Side) (x : ℕ) → end_of side (x ∷ []) ≡ Some x
one_end sides.Left x = refl
one_end sides.Right x = refl

pub single_end : {w : World} → IsLawful w → (q : ℕ) (elem : Ref) (z : ℕ) (k item : Item) → recs w q ≡ Some (Single elem z k) → recs w elem.0 ≡ Some (Leaf item) → (side : Side) → end_of side (means (recs w) q) ≡ Some item.0
single_end {w} law q elem z k item e f side = ap (end_of side) (means_is (recs w) (lawful_names law) q _ e ∙ leaf_means law elem.0 item f) ∙ one_end side item.0

-- ---- a deep tree

pub record DeepEnds (w : World) (left right : ℕ) : Type 0 where
  pub first : holds (recs w) left is_digit_rec ≡ true
  pub last : holds (recs w) right is_digit_rec ≡ true
  pub lefts : DigitTop w 0 left left
  pub rights : DigitTop w 0 right right

pub deep_ends : {w : World} → IsLawful w → (q : ℕ) (left middle right : Ref) (z : ℕ) (k : Item) → recs w q ≡ Some (Deep left middle right z k) → is_of_level (recs w) q 0 ≡ true → DeepEnds w left.0 right.0
deep_ends {w} law q left middle right z k e level =
    let n = lawful_names law q _ e in
    let l : (is_of_level (recs w) left.0 0 && is_of_level (recs w) middle.0 1 && is_of_level (recs w) right.0 0) ≡ true = sym (level_is law q _ e 0) ∙ level in
    let l1 = and_parts (is_of_level (recs w) left.0 0 && is_of_level (recs w) middle.0 1) (is_of_level (recs w) right.0 0) l in
    let l2 = and_parts (is_of_level (recs w) left.0 0) (is_of_level (recs w) middle.0 1) l1.0 in
    record {
      first = named_sort (recs w) q (left.0, sorts.Digit) n.0;
      last = named_sort (recs w) q (right.0, sorts.Digit) n.1.1.0;
      lefts = digit_top law 0 left.0 left.0 n.0.1 n.0.2 n.0.3 (omega arith) l2.0;
      rights = digit_top law 0 right.0 right.0 n.1.1.0.1 n.1.1.0.2 n.1.1.0.3 (omega arith) l1.1;
    }

pub side_digit : {w : World} → (left right : Ref) → DeepEnds w left.0 right.0 → (side : Side) → holds (recs w) (at_side side left right).0 is_digit_rec ≡ true
side_digit left right k sides.Left = k.first
side_digit left right k sides.Right = k.last

pick : (Q : ℕ → Type 0) (side : Side) (es : List ℕ) (e : ℕ) → AllByRecursion Q es → end_of side es ≡ Some e → Q e
pick Q sides.Left [] e k h = cc
pick Q sides.Left (x ∷ xs) e k h = let same : x ≡ e = ap (elim [ None ↦ x | Some n ↦ n ]) h in rw (← same) k.0
pick Q sides.Right [] e k h = cc
pick Q sides.Right (x ∷ []) e k h = let same : x ≡ e = ap (elim [ None ↦ x | Some n ↦ n ]) h in rw (← same) k.0
pick Q sides.Right (x ∷ y ∷ ys) e k h = pick Q sides.Right (y ∷ ys) e k.1 h

-- the end element of a digit of the tree is a leaf
pub digit_leaf : {w : World} → IsLawful w → (left right : Ref) → DeepEnds w left.0 right.0 → (side : Side) (p : Ref) → p ≡ at_side side left right → (few : Few) → IsDigitAt w p.0 few → (e : ℕ) → end_of side (few_list few) ≡ Some e → holds (recs w) e is_leaf ≡ true
digit_leaf {w} law left right k side p same few at e end =
    let es = digit_elements w p.0 few at in
    let found : IsElement w 0 (at_side side left right).0 e = pick (IsElement w 0 (at_side side left right).0) side (few_list few) e (subst (AllByRecursion (IsElement w 0 (at_side side left right).0)) (ap (λ (q : Ref). elements w q.0) (sym same) ∙ es) (each side)) end in
    leaf_at law e found.sort found.of_level
  where
    each : (s : Side) → AllByRecursion (IsElement w 0 (at_side s left right).0) (elements w (at_side s left right).0)
    each sides.Left = k.lefts.each
    each sides.Right = k.rights.each

pub deep_end : {w : World} → IsLawful w → (q : ℕ) (left middle right : Ref) (z : ℕ) (k item : Item) → recs w q ≡ Some (Deep left middle right z k) → DeepEnds w left.0 right.0 → (side : Side) (p : Ref) → p ≡ at_side side left right → (few : Few) → IsDigitAt w p.0 few → (e : ℕ) → end_of side (few_list few) ≡ Some e → recs w e ≡ Some (Leaf item) → end_of side (means (recs w) q) ≡ Some item.0
deep_end {w} law q left middle right z k item here d side p same few at e end leaf =
    let m = means_is (recs w) (lawful_names law) q _ here in
    ap (end_of side) (m ∙ rw (d.lefts.items, d.rights.items) refl) ∙ end_items (means (recs w)) side (elements w left.0) (elements w right.0) (means (recs w) middle.0) e item.0 (ap (end_of side) (by side same) ∙ end) (leaf_means law e item leaf)
  where
    by : (s : Side) → p ≡ at_side s left right → at_side s (elements w left.0) (elements w right.0) ≡ few_list few
    by sides.Left h = rw (← h) (digit_elements w p.0 few at)
    by sides.Right h = rw (← h) (digit_elements w p.0 few at)

-- ---- the empty tree

pub empty_end : {w : World} → IsLawful w → (q : ℕ) (r : Rec) → recs w q ≡ Some r → is_tree_value r ≡ true → ((elem : Ref) (z : ℕ) (k : Item) → r ≡ Single elem z k → ⊥) → ((left middle right : Ref) (z : ℕ) (k : Item) → r ≡ Deep left middle right z k → ⊥) → (side : Side) → end_of side (means (recs w) q) ≡ None
empty_end {w} law q TEmpty e v one deep side = ap (end_of side) (means_is (recs w) (lawful_names law) q _ e) ∙ by side
  where
    by : (s : Side) → end_of s [] ≡ None
    by sides.Left = refl
    by sides.Right = refl
empty_end law q (Single x z k) e v one deep side = absurd (one x z k refl)
empty_end law q (Deep l m r z k) e v one deep side = absurd (deep l m r z k refl)
empty_end law q _ e v one deep side = absurd (true≢false (sym v))

-- the root of an empty sequence
pub empty_root : {w : World} → IsLawful w → holds (recs w) 4 (is_root (recs w) kinds.Seq 4) ≡ true
empty_root {w} law =
    let here = (fixed_records law).empty_tree in
    rw here (and_from (same_sort (sort_of TEmpty) sorts.Finger && is_of_level (recs w) 4 0) (keeps_keys kinds.Seq (recs w) 4) (level_is law 4 TEmpty here 0) (empty_keyed law false))

-- ---- a later world

pub level_later : {a b : World} → IsLawful a → Grows a b → (p : ℕ) → IsPublished (recs a) p → is_of_level (recs a) p 0 ≡ true → is_of_level (recs b) p 0 ≡ true
level_later {a} {b} law g p is h = rw (level_kept (recs a) (recs b) (lawful_names law) g.records p is) at h

pub end_back : {a b : World} → IsLawful a → Grows a b → (p : ℕ) → IsPublished (recs a) p → (side : Side) (x : Option ℕ) → end_of side (means (recs b) p) ≡ x → end_of side (means (recs a) p) ≡ x
end_back {a} {b} law g p is side x h = ap (end_of side) (means_kept (recs a) (recs b) (lawful_names law) g.records p is) ∙ h
