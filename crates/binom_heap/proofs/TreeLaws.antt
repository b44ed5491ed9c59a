-- What a lawful world says of lists of trees.
use Rattle.std.proofs.Common.{◌≡◌, ℕ, ◌<◌, refl, sym, ap, ◌∙◌, arith, Bool, true, false, ◌&&◌, Some, List, [], ◌∷◌, ◌++◌}
use Rattle.std.proofs.lemmas.Bool.{true≢false, and_parts}
use Rattle.std.proofs.lemmas.List.{append-nil}
use Rattle.lazy_rec.specs.declared.places.Ref.{Ref}
use Rattle.lazy_rec.specs.declared.places.Item.{Item}
use Rattle.lazy_rec.specs.declared.records.Rec.{Rec}
use Rattle.lazy_rec.specs.declared.records.Rec.TheVariants.{HeapTop, TNil, TCons, Tree, HeapInsert, HeapMerge}
use Rattle.lazy_rec.specs.declared.records.Sort.TheVariants as sorts
use Rattle.lazy_rec.specs.Named.{Records, sort_of, same_sort}
use Rattle.lazy_rec.specs.ByPlace.{by_place}
use Rattle.lazy_rec.specs.Meaning.{means, means_of}
use Rattle.lazy_rec.specs.Plain.{insert_rising, rising}
use Rattle.heap_store.specs.World.{World, recs}
use Rattle.heap_store.specs.Forest.{no_trees, a_tree, forest_of, forest, trees_only_of, is_trees_only, ranks_fall}
use Rattle.heap_store.specs.Lawful.{IsLawful, height}
use Rattle.heap_store.proofs.NameLaws.{IsPublished, NamesWell}
use Rattle.lazy_rec.proofs.ByPlaceLaws.{from_lower}
use Rattle.heap_store.proofs.GrowthLaws.{at_true}
use Rattle.heap_store.proofs.LawfulLaws.{lawful_names}
use Rattle.heap_store.proofs.MeaningLaws.{by_record_is, means_is}
use Rattle.heap_store.proofs.MadeLaws.{forest_look, trees_only_look}
use Rattle.heap_store.proofs.HeightLaws.{height_is}
use Rattle.binom_heap.proofs.ForestItems.{items, rising_left, rising_right, items_add, items_merge}

-- ---- what the recursions on places are

pub forest_is : (a : Records) → NamesWell a → (p : ℕ) (r : Rec) → a p ≡ Some r → forest a p ≡ forest_of (forest a) r
unfolding forest
forest_is = by_record_is no_trees forest_of forest_look

pub trees_only_is : (a : Records) → NamesWell a → (p : ℕ) (r : Rec) → a p ≡ Some r → is_trees_only a p ≡ trees_only_of (is_trees_only a) r
unfolding is_trees_only
trees_only_is = by_record_is false trees_only_of trees_only_look

-- ---- records by their sorts

-- the fields of a tree
pub record TreeIs (r : Rec) : Type 0 where
  pub rank : ℕ
  pub item : Item
  pub kids : Ref
  pub is : r ≡ Tree rank item kids

pub tree_by_sort : (r : Rec) → sort_of r ≡ sorts.Tree → TreeIs r
tree_by_sort r e = by r (ap (λ s. same_sort s sorts.Tree) e)
  where
    by : (r : Rec) → same_sort (sort_of r) sorts.Tree ≡ true → TreeIs r
    by (Tree rank item kids) h = record { rank = rank; item = item; kids = kids; is = refl }
    by _ h = absurd (true≢false (sym h))

-- a record that stands for trees
abbrev pub stands_for_trees : Rec → Bool
stands_for_trees (HeapTop _ _ _) = true
stands_for_trees TNil = true
stands_for_trees (TCons _ _) = true
stands_for_trees (Tree _ _ _) = true
stands_for_trees (HeapInsert _ _ _) = true
stands_for_trees (HeapMerge _ _ _ _) = true
stands_for_trees _ = false

pub list_by_sort : (r : Rec) → sort_of r ≡ sorts.TreeList → stands_for_trees r ≡ true
list_by_sort r e = by r (ap (λ s. same_sort s sorts.TreeList) e)
  where
    by : (r : Rec) → same_sort (sort_of r) sorts.TreeList ≡ true → stands_for_trees r ≡ true
    by TNil h = refl
    by (TCons _ _) h = refl
    by (HeapInsert _ _ _) h = refl
    by (HeapMerge _ _ _ _) h = refl
    by _ h = absurd (true≢false (sym h))

-- ---- lists of trees alone

pub data TreesCase (a : Records) (p : ℕ) : Type 0 where
  nil : a p ≡ Some TNil → TreesCase a p
  cell : (tree rest : Ref) → a p ≡ Some (TCons tree rest) → is_trees_only a rest.0 ≡ true → TreesCase a p

pub trees_there : (a : Records) (p : ℕ) → is_trees_only a p ≡ true → IsPublished a p
unfolding is_trees_only by_place
trees_there a p h = let k = at_true _ (a p) h in (k.0, k.1)

pub trees_case : {w : World} → IsLawful w → (p : ℕ) → is_trees_only (recs w) p ≡ true → TreesCase (recs w) p
trees_case {w} law p h = let k = trees_there (recs w) p h in by k.0 k.1 (sym (trees_only_is (recs w) (lawful_names law) p k.0 k.1) ∙ h)
  where
    by : (r : Rec) → recs w p ≡ Some r → trees_only_of (is_trees_only (recs w)) r ≡ true → TreesCase (recs w) p
    by TNil e h = nil e
    by (TCons tree rest) e h = cell tree rest e h
    by _ e h = absurd (true≢false (sym h))

-- ---- what trees mean

-- a place that stands for trees means their items in rising order
module _ {w : World} (law : IsLawful w) where
  abbrev MeansForest : ℕ → Type 0
  MeansForest p = (r : Rec) → recs w p ≡ Some r → stands_for_trees r ≡ true → means (recs w) p ≡ rising (items (forest (recs w) p))

  order_twice : (xs : List ℕ) → rising (rising xs) ≡ rising (xs ++ [])
  order_twice xs = ap rising (sym (append-nil (rising xs))) ∙ rising_left xs []

  means_by : (p : ℕ) → ((q : ℕ) → q < p → MeansForest q) → (r : Rec) → recs w p ≡ Some r → stands_for_trees r ≡ true → means_of (recs w) (means (recs w)) p r ≡ rising (items (forest_of (forest (recs w)) r))
  means_by p ih (HeapTop list size owed) e h = let n = lawful_names law p _ e in ih list.0 n.0.0 n.0.1 n.0.2 (list_by_sort n.0.1 n.0.3)
  means_by p ih TNil e h = refl
  means_by p ih (TCons tree rest) e h =
      let n = lawful_names law p _ e in
      let t = tree_by_sort n.0.1 n.0.3 in
      let here : recs w tree.0 ≡ Some (Tree t.rank t.item t.kids) = n.0.2 ∙ ap Some t.is in
      let k = ih tree.0 n.0.0 _ here refl in
      let l = ih rest.0 n.1.0.0 n.1.0.1 n.1.0.2 (list_by_sort n.1.0.1 n.1.0.3) in
      let f : forest (recs w) tree.0 ≡ a_tree t.rank t.item.0 (forest (recs w) t.kids.0) no_trees = forest_is (recs w) (lawful_names law) tree.0 _ here in
      let flat : items (a_tree t.rank t.item.0 (forest (recs w) t.kids.0) no_trees) ≡ t.item.0 ∷ items (forest (recs w) t.kids.0) = ap (λ xs. t.item.0 ∷ xs) (append-nil (items (forest (recs w) t.kids.0))) in
      rw (k, l, f) (rising_left (items (a_tree t.rank t.item.0 (forest (recs w) t.kids.0) no_trees)) (rising (items (forest (recs w) rest.0))) ∙ rising_right (items (a_tree t.rank t.item.0 (forest (recs w) t.kids.0) no_trees)) (items (forest (recs w) rest.0)) ∙ ap (λ xs. rising (xs ++ items (forest (recs w) rest.0))) flat)
  means_by p ih (Tree rank item kids) e h =
      let n = lawful_names law p _ e in
      let k = ih kids.0 n.0.0 n.0.1 n.0.2 (list_by_sort n.0.1 n.0.3) in
      rw k (ap (insert_rising item.0) (order_twice (items (forest (recs w) kids.0))))
  means_by p ih (HeapInsert item list size) e h =
      let n = lawful_names law p _ e in
      let k = ih list.0 n.0.0 n.0.1 n.0.2 (list_by_sort n.0.1 n.0.3) in
      rw k (rising_right (item.0 ∷ []) (items (forest (recs w) list.0)) ∙ sym (items_add 0 item.0 no_trees (forest (recs w) list.0)))
  means_by p ih (HeapMerge list1 list2 n1 n2) e h =
      let n = lawful_names law p _ e in
      let k = ih list1.0 n.0.0 n.0.1 n.0.2 (list_by_sort n.0.1 n.0.3) in
      let l = ih list2.0 n.1.0.0 n.1.0.1 n.1.0.2 (list_by_sort n.1.0.1 n.1.0.3) in
      rw (k, l) (rising_left (items (forest (recs w) list1.0)) (rising (items (forest (recs w) list2.0))) ∙ rising_right (items (forest (recs w) list1.0)) (items (forest (recs w) list2.0)) ∙ sym (items_merge (forest (recs w) list1.0) (forest (recs w) list2.0)))
  means_by p ih _ e h = absurd (true≢false (sym h))

  pub means_forest : (p : ℕ) → MeansForest p
  means_forest = from_lower MeansForest (λ p ih r e h. means_is (recs w) (lawful_names law) p r e ∙ means_by p ih r e h ∙ ap (λ f. rising (items f)) (sym (forest_is (recs w) (lawful_names law) p r e)))

-- ---- heights

pub trees_height : {w : World} → IsLawful w → (p : ℕ) → is_trees_only (recs w) p ≡ true → height (recs w) p ≡ 0
trees_height {w} law = from_lower (λ p. is_trees_only (recs w) p ≡ true → height (recs w) p ≡ 0) step
  where
    step : (p : ℕ) → ((q : ℕ) → q < p → is_trees_only (recs w) q ≡ true → height (recs w) q ≡ 0) → is_trees_only (recs w) p ≡ true → height (recs w) p ≡ 0
    step p ih h = go (trees_case law p h)
      where
        go : TreesCase (recs w) p → height (recs w) p ≡ 0
        go (nil e) = height_is law p _ e
        go (cell tree rest e more) =
            let n = lawful_names law p _ e in
            let t = tree_by_sort n.0.1 n.0.3 in
            let here : recs w tree.0 ≡ Some (Tree t.rank t.item t.kids) = n.0.2 ∙ ap Some t.is in
            let m = lawful_names law tree.0 _ here in
            let only = (and_parts _ _ (and_parts (is_trees_only (recs w) t.kids.0 && ranks_fall t.rank (forest (recs w) t.kids.0)) _ (law.each tree.0 _ here).heap).0).0 in
            let k = ih t.kids.0 (omega (arith, m.0.0, n.0.0)) only in
            let th : height (recs w) tree.0 ≡ 0 = height_is law tree.0 _ here ∙ rw k refl in
            let rh = ih rest.0 n.1.0.0 more in
            height_is law p _ e ∙ rw (th, rh) refl
