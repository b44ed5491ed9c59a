-- What the puts of trees and of lists of them ask.
use Rattle.std.proofs.Common.{◌≡◌, ℕ, ◌+◌, ◌<◌, leb, refl, arith, true, ◌&&◌, Some, [], ◌∷◌}
use Rattle.std.specs.List.{list_all}
use Rattle.std.proofs.lemmas.Bool.{and_parts, and_from}
use Rattle.lazy_rec.specs.declared.places.Ref.{Ref}
use Rattle.lazy_rec.specs.declared.records.Rec.TheVariants.{TNil, TCons}
use Rattle.lazy_rec.specs.declared.records.Sort.TheVariants as sorts
use Rattle.lazy_rec.specs.Meaning.{means}
use Rattle.lazy_rec.specs.Named.{sort_of, same_sort}
use Rattle.heap_store.specs.World.{World, recs, holds}
use Rattle.heap_store.specs.Forest.{forest, is_trees_only, ranks_fall}
use Rattle.heap_store.specs.Lawful.{IsLawful}
use Rattle.heap_store.specs.Hand.{contains, brings}
use Rattle.heap_store.specs.View.{View, IsLawfulView, Fits}
use Rattle.heap_store.proofs.NameLaws.{IsNamedWell}
use Rattle.heap_store.proofs.GrowthLaws.{at_true, sorts_agree}
use Rattle.heap_store.proofs.UnitLaws.{free}
use Rattle.heap_store.proofs.RangeLaws.{range_fields, range_from}
use Rattle.heap_store.proofs.WellNamed.{names_well_all}
use Rattle.heap_store.proofs.ToldLaws.{laws_told}
use Rattle.heap_store.proofs.PutLaws.{published_fits, fits_value}
use Rattle.binom_heap.specs.declared.trees.BinomialTree.{BinomialTree}
use Rattle.binom_heap.specs.Trees.{tree_record}
use Rattle.binom_heap.proofs.TreeLaws.{TreesCase, nil, cell, trees_case, trees_there}

pub trees_named : {w : World} → IsLawful w → (p q : ℕ) → is_trees_only (recs w) q ≡ true → q < p → IsNamedWell (recs w) p (q, sorts.TreeList)
trees_named {w} law p q h low = go (trees_case law q h)
  where
    go : TreesCase (recs w) q → IsNamedWell (recs w) p (q, sorts.TreeList)
    go (nil e) = (low, TNil, e, refl)
    go (cell tree rest e more) = (low, TCons tree rest, e, refl)

-- a full tree in heap order
pub record IsFull (w : World) (t : BinomialTree) : Type 0 where
  pub rank : t.rank < 32
  pub item : t.item.0 < 18446744073709551616
  pub kids : is_trees_only (recs w) t.kids.0 ≡ true
  pub ranks : ranks_fall t.rank (forest (recs w) t.kids.0) ≡ true
  pub order : list_all (leb t.item.0) (means (recs w) t.kids.0) ≡ true

-- so is each published tree
pub tree_full : {w : World} → IsLawful w → (p : ℕ) (t : BinomialTree) → recs w p ≡ Some (tree_record t) → IsFull w t
tree_full {w} law p t e =
    let h = law.each p _ e in
    let range = range_fields (tree_record t) h.range in
    let all = and_parts (is_trees_only (recs w) t.kids.0 && ranks_fall t.rank (forest (recs w) t.kids.0)) (list_all (leb t.item.0) (means (recs w) t.kids.0)) h.heap in
    let two = and_parts (is_trees_only (recs w) t.kids.0) (ranks_fall t.rank (forest (recs w) t.kids.0)) all.0 in
    record { rank = range.1.0; item = range.1.1.0; kids = two.0; ranks = two.1; order = all.1 }

pub fits_tree : {v : View} → IsLawfulView v → (p : ℕ) → contains v.hand.reserved p ≡ true → (t : BinomialTree) → IsFull v.seen t → t.kids.0 < p → Fits v p (tree_record t)
fits_tree {v} law p held t k low =
    let rs = recs v.seen in
    fits_value p (tree_record t) refl (laws_told law p held (tree_record t) (record {
      range = range_from (tree_record t) (omega arith, (k.rank, (k.item, (published_fits law t.kids.0 (trees_there rs t.kids.0 k.kids), tt)))) refl;
      names = names_well_all rs rs (λ q r e. e) p ((t.kids.0, sorts.TreeList) ∷ []) (trees_named law.world p t.kids.0 k.kids low, tt);
      sizes = refl;
      unmixed = refl;
      bank_queue = refl;
      rt_queue = refl;
      heap = and_from (is_trees_only rs t.kids.0 && ranks_fall t.rank (forest rs t.kids.0)) (list_all (leb t.item.0) (means rs t.kids.0)) (and_from (is_trees_only rs t.kids.0) (ranks_fall t.rank (forest rs t.kids.0)) k.kids k.ranks) k.order;
      cat = refl;
      finger = refl;
      heights = refl;
    })) (free v.seen p (tree_record t) (v.hand.credits + brings rs v.hand.claims) refl)

pub fits_cell : {v : View} → IsLawfulView v → (p : ℕ) → contains v.hand.reserved p ≡ true → (tree rest : Ref) → holds (recs v.seen) tree.0 (λ r. same_sort (sort_of r) sorts.Tree) ≡ true → tree.0 < p → is_trees_only (recs v.seen) rest.0 ≡ true → rest.0 < p → Fits v p (TCons tree rest)
fits_cell {v} law p held tree rest there low only low' =
    let rs = recs v.seen in
    let t = at_true (λ r. same_sort (sort_of r) sorts.Tree) (rs tree.0) there in
    fits_value p (TCons tree rest) refl (laws_told law p held (TCons tree rest) (record {
      range = range_from (TCons tree rest) (omega arith, (published_fits law tree.0 (t.0, t.1), (published_fits law rest.0 (trees_there rs rest.0 only), tt))) refl;
      names = names_well_all rs rs (λ q r f. f) p ((tree.0, sorts.Tree) ∷ (rest.0, sorts.TreeList) ∷ []) ((low, t.0, t.1, sorts_agree (sort_of t.0) sorts.Tree t.2), (trees_named law.world p rest.0 only low', tt));
      sizes = refl;
      unmixed = refl;
      bank_queue = refl;
      rt_queue = refl;
      heap = refl;
      cat = refl;
      finger = refl;
      heights = refl;
    })) (free v.seen p (TCons tree rest) (v.hand.credits + brings rs v.hand.claims) refl)
