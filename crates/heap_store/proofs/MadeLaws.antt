-- Growth keeps what the completion of each kind of suspension made.
use Rattle.std.proofs.Common.{◌≡◌, ℕ, zero, suc, ◌-◌, refl, sym, ◌∙◌, eqb, Bool, true, false, cond, Option, Some, None, List, [], ◌∷◌, take, reverse, map}
use Rattle.std.specs.Prelude.{option_map, option_and_then}
use Rattle.std.specs.List.{AllByRecursion}
use Rattle.std.proofs.lemmas.Bool.{true≢false}
use Rattle.lazy_rec.specs.declared.records.Rec.{Rec}
use Rattle.lazy_rec.specs.declared.records.Rec.TheVariants.{Cons, HeapTop, TCons, Tree, TEmpty, Node, Digit, Single, Deep, Append, Reverse, BankRot, RtRot, HeapInsert, HeapMerge, LinkAll, PushL, PushR, DeepL, DeepR, Concat}
use Rattle.lazy_rec.specs.declared.records.Sort.{Sort}
use Rattle.lazy_rec.specs.declared.records.Sort.TheVariants as sorts
use Rattle.heap_store.specs.Forest.{forest_of, forest, same_forest, trees_only_of, is_trees_only}
use Rattle.heap_store.specs.World.{World, recs, done_at, value_of, value_at, Keeps}
use Rattle.heap_store.specs.Completion.{plain_of, is_plain, is_first_of, first_child, elements_of, elements, top_of_record, top_at, from_middle_left, from_middle_right, with_left_node, with_right_node, made_tree, joined_trees, Made, deep, is_next_middle, next_tree, is_tree_made, is_next, is_made}
use Rattle.heap_store.proofs.Alls.{All-reverse}
use Rattle.heap_store.proofs.MeaningLaws.{by_record_kept}
use Rattle.heap_store.proofs.GrowthLaws.{Up, and_up, same_up, at_up, holds_up, place_up, value_up}
use Rattle.heap_store.proofs.CompletionLaws.{on_list_cell_up, is_cell_up, on_queue_up, cond_up, first_cell_up, is_append_up, is_bank_up, next_rt_up, next_links_up, is_linked_up, is_middle_up, is_top_up}
use Rattle.heap_store.proofs.NameLaws.{NamesWell, IsNamedWell, IsPublished, LooksAtNamed}
use Rattle.heap_store.specs.Growth.{Grows}
use Rattle.lazy_rec.specs.Named.{Records, NamedPlace, named, is_pending}
use Rattle.lazy_rec.specs.Tests.{is_some_and}
use Rattle.lazy_rec.specs.Units.{family_of}

-- ---- the forests and the plain cells

pub forest_look : LooksAtNamed forest_of
forest_look (HeapTop list _ _) g h s = s.0
forest_look (TCons tree rest) g h s = rw (s.0, s.1.0) refl
forest_look (Tree _ _ kids) g h s = rw s.0 refl
forest_look (HeapInsert _ list _) g h s = rw s.0 refl
forest_look (HeapMerge list1 list2 _ _) g h s = rw (s.0, s.1.0) refl
forest_look _ g h s = refl

pub trees_only_look : LooksAtNamed trees_only_of
trees_only_look (TCons tree rest) g h s = s.1.0
trees_only_look _ g h s = refl

pub plain_look : LooksAtNamed plain_of
plain_look (Cons _ _ rest) g h s = s.0
plain_look _ g h s = refl

module _ (a b : Records) (names : NamesWell a) (keeps : Keeps a b) where
  pub forest_kept : (p : ℕ) → IsPublished a p → forest a p ≡ forest b p
  unfolding forest
  forest_kept = by_record_kept _ forest_of forest_look a b names keeps

  pub trees_only_kept : (p : ℕ) → IsPublished a p → is_trees_only a p ≡ is_trees_only b p
  unfolding is_trees_only
  trees_only_kept = by_record_kept false trees_only_of trees_only_look a b names keeps

  pub plain_kept : (p : ℕ) → IsPublished a p → is_plain a p ≡ is_plain b p
  unfolding is_plain
  plain_kept = by_record_kept false plain_of plain_look a b names keeps

-- ---- one level of a tree

pub some_up : {X : Type 0} (f g : X → Bool) (o o' : Option X) → ((t : X) → o ≡ Some t → o' ≡ Some t) → ((t : X) → Up (f t) (g t)) → Up (is_some_and f o) (is_some_and g o')
some_up f g None o' k up h = absurd (true≢false (sym h))
some_up f g (Some t) o' k up h = rw (k t refl) (up t h)

-- what a step gives, from a value that is there in both worlds
then_up : {X Y : Type 0} (f g : X → Option Y) (o o' : Option X) → ((t : X) → o ≡ Some t → (o' ≡ Some t) × ((y : Y) → f t ≡ Some y → g t ≡ Some y)) → (y : Y) → option_and_then f o ≡ Some y → option_and_then g o' ≡ Some y
then_up f g None o' k y h = cc
then_up f g (Some t) o' k y h = let there = k t refl in rw there.0 (there.1 y h)

map_up : {X Y : Type 0} (f : X → Y) (o o' : Option X) → ((t : X) → o ≡ Some t → o' ≡ Some t) → (y : Y) → option_map f o ≡ Some y → option_map f o' ≡ Some y
map_up f None o' k y h = cc
map_up f (Some t) o' k y h = rw (k t refl) h

module _ (a b : World) (names : NamesWell (recs a)) (x : Grows a b) where
  -- the record of a value is that of a published place
  pub value_place : (p : ℕ) (r : Rec) → value_at a p ≡ Some r → (q : ℕ) × (recs a q ≡ Some r)
  value_place p r h = go (recs a p) refl h
    where
      from : (s : Rec) (c : Bool) (o : Option (ℕ × ℕ)) → recs a p ≡ Some s → cond c (option_and_then (λ k. recs a k.0) o) (Some s) ≡ Some r → (q : ℕ) × (recs a q ≡ Some r)
      from s true None e k = cc
      from s true (Some d) e k = (d.0, k)
      from s false o e k = (p, e ∙ k)

      go : (o : Option Rec) → recs a p ≡ o → option_and_then (value_of a (done_at a p)) o ≡ Some r → (q : ℕ) × (recs a q ≡ Some r)
      go None e k = cc
      go (Some s) e k = from s (is_pending s) (done_at a p) e k

  pub elements_up : (p : ℕ) → IsPublished (recs a) p → elements a p ≡ elements b p
  elements_up p is = rw (is.1, x.records p is.0 is.1) refl

  there : (p : ℕ) (q : NamedPlace) → IsNamedWell (recs a) p q → IsPublished (recs a) q.0
  there p q w = (w.1, w.2)

  of_names : (s : Sort) (n p : ℕ) (es : List ℕ) → AllByRecursion (IsNamedWell (recs a) p) (take n (map (λ e. (e, s)) es)) → AllByRecursion (IsPublished (recs a)) (take n es)
  of_names s zero p es h = tt
  of_names s (suc n) p [] h = tt
  of_names s (suc n) p (e ∷ es) h = (there p (e, s) h.0, of_names s n p es h.1)

  -- the elements of a node or a digit are published
  elements_there : (p : ℕ) → IsPublished (recs a) p → AllByRecursion (IsPublished (recs a)) (elements a p)
  elements_there p is = rw is.1 (by is.0 (names p is.0 is.1))
    where
      by : (r : Rec) → AllByRecursion (IsNamedWell (recs a) p) (named r) → AllByRecursion (IsPublished (recs a)) (elements_of r)
      by (Node count e1 e2 e3 _ _) h = of_names sorts.Element count p (e1.0 ∷ e2.0 ∷ e3.0 ∷ []) h
      by (Digit count e1 e2 e3 e4 _ _) h = of_names sorts.Element count p (e1.0 ∷ e2.0 ∷ e3.0 ∷ e4.0 ∷ []) h
      by _ h = tt

  pub level_up : (q : ℕ) (r : Rec) → recs a q ≡ Some r → top_of_record a r ≡ top_of_record b r
  level_up q (Deep left middle right _ _) e = let n = names q (Deep left middle right _ _) e in
      rw (elements_up left.0 (there q _ n.0), elements_up right.0 (there q _ n.1.1.0)) refl
  level_up q TEmpty e = refl
  level_up q (Single _ _ _) e = refl
  level_up q _ e = refl

  pub top_at_up : (p : ℕ) (t : Made) → top_at a p ≡ Some t → top_at b p ≡ Some t
  top_at_up p = then_up (top_of_record a) (top_of_record b) (value_at a p) (value_at b p) (λ r e. (value_up a b x p r e, (λ t k. let q = value_place p r e in sym (level_up q.0 r q.1) ∙ k)))

  left_up : (q : ℕ) (r : Rec) (digit : List ℕ) → recs a q ≡ Some r → from_middle_left a r digit ≡ from_middle_left b r digit
  left_up q (Single elem _ _) digit e = let n = names q (Single elem _ _) e in rw (elements_up elem.0 (there q _ n.0)) refl
  left_up q (Deep left middle right z k) digit e = let n = names q (Deep left middle right z k) e in
      rw (← elements_up left.0 (there q _ n.0)) (by (elements_up right.0 (there q _ n.1.1.0)) (elements a left.0) (elements_there left.0 (there q _ n.0)))
    where
      by : elements a right.0 ≡ elements b right.0 → (es : List ℕ) → AllByRecursion (IsPublished (recs a)) es → with_left_node a middle.0 right.0 digit es ≡ with_left_node b middle.0 right.0 digit es
      by same [] h = refl
      by same (f ∷ fs) h = rw (elements_up f h.0, same) refl
  left_up q _ digit e = refl

  right_up : (q : ℕ) (r : Rec) (digit : List ℕ) → recs a q ≡ Some r → from_middle_right a r digit ≡ from_middle_right b r digit
  right_up q (Single elem _ _) digit e = let n = names q (Single elem _ _) e in rw (elements_up elem.0 (there q _ n.0)) refl
  right_up q (Deep left middle right z k) digit e = let n = names q (Deep left middle right z k) e in
      rw (← elements_up right.0 (there q _ n.1.1.0)) (by (elements_up left.0 (there q _ n.0)) (reverse (elements a right.0)) (All-reverse _ _ (elements_there right.0 (there q _ n.1.1.0))))
    where
      by : elements a left.0 ≡ elements b left.0 → (es : List ℕ) → AllByRecursion (IsPublished (recs a)) es → with_right_node a left.0 middle.0 digit es ≡ with_right_node b left.0 middle.0 digit es
      by same [] h = refl
      by same (f ∷ fs) h = rw (elements_up f h.0, same) refl
  right_up q _ digit e = refl

  pub made_tree_up : (p : ℕ) (r : Rec) → recs a p ≡ Some r → (t : Made) → made_tree a r ≡ Some t → made_tree b r ≡ Some t
  made_tree_up p (PushL count _ t' e1 e2 _ _ _) e t h = map_up _ (top_at a t'.0) (top_at b t'.0) (top_at_up t'.0) t h
  made_tree_up p (PushR count _ t' e1 e2 _ _ _) e t h = map_up _ (top_at a t'.0) (top_at b t'.0) (top_at_up t'.0) t h
  made_tree_up p (DeepL middle digit z o i k) e t h = let n = names p (DeepL middle digit z o i k) e in
      rw (← elements_up digit.0 (there p _ n.1.0)) (then_up (λ m. from_middle_left a m (elements a digit.0)) (λ m. from_middle_left b m (elements a digit.0)) (value_at a middle.0) (value_at b middle.0)
      (λ r f. (value_up a b x middle.0 r f, (λ y k. let q = value_place middle.0 r f in sym (left_up q.0 r _ q.1) ∙ k))) t h)
  made_tree_up p (DeepR middle digit z o i k) e t h = let n = names p (DeepR middle digit z o i k) e in
      rw (← elements_up digit.0 (there p _ n.1.0)) (then_up (λ m. from_middle_right a m (elements a digit.0)) (λ m. from_middle_right b m (elements a digit.0)) (value_at a middle.0) (value_at b middle.0)
      (λ r f. (value_up a b x middle.0 r f, (λ y k. let q = value_place middle.0 r f in sym (right_up q.0 r _ q.1) ∙ k))) t h)
  made_tree_up p (Concat i left right list o z k) e t h = let n = names p (Concat i left right list o z k) e in
      rw (← elements_up list.0 (there p _ n.1.1.0)) (then_up _ _ (top_at a left.0) (top_at b left.0)
      (λ l f. (top_at_up left.0 l f, map_up (joined_trees l (elements a list.0)) (top_at a right.0) (top_at b right.0) (top_at_up right.0))) t h)
  made_tree_up p _ e t h = cc

  next_tree_up : (p : ℕ) (r s : Rec) → recs a p ≡ Some r → Up (next_tree a r s) (next_tree b r s)
  next_tree_up p r s e = some_up _ _ (made_tree a r) (made_tree b r) (made_tree_up p r e) (λ t. by t)
    where
      by : (t : Made) → Up (is_next_middle a (family_of 0 r).0 (suc (family_of 0 r).1) t s) (is_next_middle b (family_of 0 r).0 (suc (family_of 0 r).1) t s)
      by (deep l m k) = is_middle_up a b x _ _ m s
      by _ = same_up

  tree_made_up : (p : ℕ) (r : Rec) (place : ℕ) → recs a p ≡ Some r → Up (is_tree_made a r place) (is_tree_made b r place)
  tree_made_up p r place e = some_up _ _ (made_tree a r) (made_tree b r) (made_tree_up p r e) (λ t. holds_up a b x place _ _ (is_top_up a b x _ _ t))

  -- what comes next in a family
  pub is_next_up : (p : ℕ) (r s : Rec) → recs a p ≡ Some r → Up (is_next a r s) (is_next b r s)
  is_next_up p (Append xs ys left origin off) s e = and_up same_up (first_cell_up a b x xs.0 _ _ (λ c v rest. is_append_up a b x rest ys.0 (left - 1) origin.0 (suc off) s))
  is_next_up p (BankRot xs rear left origin off) s e = and_up same_up (first_cell_up a b x xs.0 _ _ (λ c v rest. is_bank_up a b x rest rear.0 (left - 1) origin.0 (suc off) s))
  is_next_up p (RtRot xs rear acc left origin off) s e = and_up same_up (first_cell_up a b x xs.0 _ _ (λ c v rest. next_rt_up a b x rest rear.0 acc.0 left origin.0 off s))
  is_next_up p (LinkAll queue len z origin off) s e = and_up same_up (next_links_up a b x queue.0 len origin.0 off s)
  is_next_up p (PushL c i t e1 e2 o z k) s e = next_tree_up p (PushL c i t e1 e2 o z k) s e
  is_next_up p (PushR c i t e1 e2 o z k) s e = next_tree_up p (PushR c i t e1 e2 o z k) s e
  is_next_up p (DeepL m d z o i k) s e = next_tree_up p (DeepL m d z o i k) s e
  is_next_up p (DeepR m d z o i k) s e = next_tree_up p (DeepR m d z o i k) s e
  is_next_up p (Concat i l r d o z k) s e = next_tree_up p (Concat i l r d o z k) s e
  is_next_up p _ s e = same_up

  first_of_up : (xs place : ℕ) (f g : ℕ → ℕ → Bool) → ((r m : ℕ) → Up (f r m) (g r m)) → Up (is_first_of a xs place f) (is_first_of b xs place g)
  first_of_up xs place f g up = first_cell_up a b x xs _ _ (λ c v rest. holds_up a b x place _ _ (is_cell_up c v (f rest) (g rest) (up rest)))

  same_forest_up : (p place : ℕ) → IsPublished (recs a) p → IsPublished (recs a) place → Up (same_forest (forest (recs a) p) (forest (recs a) place)) (same_forest (forest (recs b) p) (forest (recs b) place))
  same_forest_up p place is there h = rw (← forest_kept (recs a) (recs b) names x.records p is, ← forest_kept (recs a) (recs b) names x.records place there) h

  first_child_up : (queue : ℕ) (f g : ℕ → Bool) → ((v : ℕ) → Up (f v) (g v)) → Up (first_child a queue f) (first_child b queue g)
  first_child_up queue f g up = holds_up a b x queue _ _ (on_queue_up _ _ (λ front _ _ _ _. first_cell_up a b x front _ _ (λ c v _. and_up same_up (up v))))

  -- what a completion made
  pub is_made_up : (p : ℕ) (r : Rec) (place : ℕ) → recs a p ≡ Some r → IsPublished (recs a) place → Up (is_made a p r place) (is_made b p r place)
  is_made_up p (Append xs ys left origin off) place e is = first_of_up xs.0 place _ _ (λ rest made. cond_up (eqb left 1) same_up (holds_up a b x made _ _ (is_append_up a b x rest ys.0 (left - 1) origin.0 (suc off))))
  is_made_up p (Reverse _ _) place e is = λ h. sym (plain_kept (recs a) (recs b) names x.records place is) ∙ h
  is_made_up p (BankRot xs rear left origin off) place e is = cond_up (eqb left 0)
      (λ h. sym (plain_kept (recs a) (recs b) names x.records place is) ∙ h)
      (first_of_up xs.0 place _ _ (λ rest made. holds_up a b x made _ _ (is_bank_up a b x rest rear.0 (left - 1) origin.0 (suc off))))
  is_made_up p (RtRot xs rear acc left origin off) place e is = cond_up (eqb left 0)
      (holds_up a b x rear.0 _ _ (on_list_cell_up _ _ (λ c v _. holds_up a b x place _ _ (is_cell_up c v _ _ (λ r. same_up)))))
      (first_of_up xs.0 place _ _ (λ rest made. holds_up a b x made _ _ (next_rt_up a b x rest rear.0 acc.0 left origin.0 off)))
  is_made_up p (HeapInsert i l z) place e is = same_forest_up p place (HeapInsert i l z, e) is
  is_made_up p (HeapMerge l m y z) place e is = same_forest_up p place (HeapMerge l m y z, e) is
  is_made_up p (LinkAll queue len z origin off) place e is = first_child_up queue.0 _ _ (λ child. cond_up (eqb len 1)
      (place_up a b x child place)
      (at_up _ _ (value_at a child) (value_at b child) (value_up a b x child) (λ r. holds_up a b x place _ _ (is_linked_up a b x r _ _ (λ made. holds_up a b x made _ _ (next_links_up a b x queue.0 len origin.0 off))))))
  is_made_up p (PushL c i t e1 e2 o z k) place e is = tree_made_up p (PushL c i t e1 e2 o z k) place e
  is_made_up p (PushR c i t e1 e2 o z k) place e is = tree_made_up p (PushR c i t e1 e2 o z k) place e
  is_made_up p (DeepL m d z o i k) place e is = tree_made_up p (DeepL m d z o i k) place e
  is_made_up p (DeepR m d z o i k) place e is = tree_made_up p (DeepR m d z o i k) place e
  is_made_up p (Concat i l r d o z k) place e is = tree_made_up p (Concat i l r d o z k) place e
  is_made_up p _ place e is = same_up
