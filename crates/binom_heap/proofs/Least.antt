-- The least item of a list of trees.
use Rattle.std.proofs.Common.{◌≡◌, ℕ, refl, sym, ◌∙◌, true, Option, Some, None, [], option_map}
use Rattle.std.specs.Prelude.{slice_get}
use Rattle.lazy_rec.specs.Meaning.{means}
use Rattle.heap_store.specs.World.{World, recs}
use Rattle.heap_store.specs.Forest.{no_trees, a_tree, forest, is_trees_only}
use Rattle.heap_store.specs.Lawful.{IsLawful}
use Rattle.heap_store.proofs.LawfulLaws.{lawful_names}
use Rattle.heap_store.proofs.MeaningLaws.{means_is}
use Rattle.binom_heap.specs.declared.removal.LeastTree.{LeastTree}
use Rattle.binom_heap.specs.Removal.{Least, least_of, IsLeast}
use Rattle.binom_heap.proofs.FirstTrees.{cell_tree}
use Rattle.binom_heap.proofs.TreeLaws.{TreesCase, nil, cell, trees_case}
use Rattle.binom_heap.proofs.Removing.{taken, taken_drop, none_found, trees_means, list_in_order}

pub no_means : {w : World} → IsLawful w → (list : ℕ) → is_trees_only (recs w) list ≡ true → forest (recs w) list ≡ no_trees → means (recs w) list ≡ []
no_means {w} law list only none = go (trees_case law list only)
  where
    go : TreesCase (recs w) list → means (recs w) list ≡ []
    go (nil e) = means_is (recs w) (lawful_names law) list _ e
    go (cell tree rest e more) = absurd (let k = cell_tree law list tree rest e in let z : a_tree k.tree.rank k.tree.item.0 (forest (recs w) k.tree.kids.0) (forest (recs w) rest.0) ≡ no_trees = sym k.trees ∙ none in cc)

-- the least root is the least item
pub least_item : {w : World} → IsLawful w → (list : ℕ) → is_trees_only (recs w) list ≡ true → (o : Option LeastTree) → IsLeast w list (least_of (forest (recs w) list)) o → slice_get (means (recs w) list) 0 ≡ option_map (λ (t : LeastTree). t.item.0) o
least_item {w} law list only o h = go (least_of (forest (recs w) list)) refl o h
  where
    go : (l : Option Least) → least_of (forest (recs w) list) ≡ l → (o : Option LeastTree) → IsLeast w list l o → slice_get (means (recs w) list) 0 ≡ option_map (λ (t : LeastTree). t.item.0) o
    go None e None h = let z = no_means law list only (none_found _ e) in rw z refl
    go None e (Some t) h = absurd h
    go (Some l) e None h = absurd h
    go (Some l) e (Some t) h =
        let all = trees_means law list only ∙ taken_drop (forest (recs w) list) l (taken (forest (recs w) list) l e) (list_in_order law list only) in
        let item = h.item in
        rw (all, item) refl
