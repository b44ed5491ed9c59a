-- The five fixed places.
use Rattle.std.proofs.Common.{◌≡◌, ℕ, zero, suc, ◌≤◌, refl, sym, ap, ◌∙◌, arith, Bool, true, ◌&&◌, Some}
use Rattle.std.proofs.lemmas.Bool.{true≢false, and_parts}
use Rattle.lazy_rec.specs.declared.records.Rec.{Rec}
use Rattle.lazy_rec.specs.declared.records.Rec.TheVariants.{Nil, LNil, TNil, CatNil, TEmpty}
use Rattle.lazy_rec.specs.Named.{Records}
use Rattle.heap_store.specs.World.{World, recs, holds, is_published}
use Rattle.heap_store.specs.Completion.{is_plain, is_nil, is_list_nil, is_empty_tree}
use Rattle.heap_store.specs.Lawful.{IsLawful, is_tree_nil, is_cat_nil}
use Rattle.heap_store.specs.Hand.{contains}
use Rattle.heap_store.specs.View.{View, IsLawfulView}
use Rattle.heap_store.proofs.GrowthLaws.{at_true}
use Rattle.heap_store.proofs.CellLaws.{plain_is}

pub record FixedRecords (rs : Records) : Type 0 where
  pub nil : rs 0 ≡ Some Nil
  pub list_nil : rs 1 ≡ Some LNil
  pub tree_nil : rs 2 ≡ Some TNil
  pub cat_nil : rs 3 ≡ Some CatNil
  pub empty_tree : rs 4 ≡ Some TEmpty

by_test : (rs : Records) (p : ℕ) (test : Rec → Bool) (end : Rec) → ((r : Rec) → test r ≡ true → r ≡ end) → holds rs p test ≡ true → rs p ≡ Some end
by_test rs p test end only h = let k = at_true test (rs p) h in k.1 ∙ ap Some (only k.0 k.2)

pub fixed_records : {w : World} → IsLawful w → FixedRecords (recs w)
fixed_records {w} law =
    let rs = recs w in
    let a = and_parts (holds rs 0 is_nil && holds rs 1 is_list_nil && holds rs 2 is_tree_nil && holds rs 3 is_cat_nil) (holds rs 4 is_empty_tree) law.fixed in
    let b = and_parts (holds rs 0 is_nil && holds rs 1 is_list_nil && holds rs 2 is_tree_nil) (holds rs 3 is_cat_nil) a.0 in
    let c = and_parts (holds rs 0 is_nil && holds rs 1 is_list_nil) (holds rs 2 is_tree_nil) b.0 in
    let d = and_parts (holds rs 0 is_nil) (holds rs 1 is_list_nil) c.0 in
    record {
      nil = by_test rs 0 is_nil Nil nil_only d.0;
      list_nil = by_test rs 1 is_list_nil LNil list_nil_only d.1;
      tree_nil = by_test rs 2 is_tree_nil TNil tree_nil_only c.1;
      cat_nil = by_test rs 3 is_cat_nil CatNil cat_nil_only b.1;
      empty_tree = by_test rs 4 is_empty_tree TEmpty empty_tree_only a.1;
    }
  where
    nil_only : (r : Rec) → is_nil r ≡ true → r ≡ Nil
    nil_only Nil h = refl
    nil_only _ h = absurd (true≢false (sym h))

    list_nil_only : (r : Rec) → is_list_nil r ≡ true → r ≡ LNil
    list_nil_only LNil h = refl
    list_nil_only _ h = absurd (true≢false (sym h))

    tree_nil_only : (r : Rec) → is_tree_nil r ≡ true → r ≡ TNil
    tree_nil_only TNil h = refl
    tree_nil_only _ h = absurd (true≢false (sym h))

    cat_nil_only : (r : Rec) → is_cat_nil r ≡ true → r ≡ CatNil
    cat_nil_only CatNil h = refl
    cat_nil_only _ h = absurd (true≢false (sym h))

    empty_tree_only : (r : Rec) → is_empty_tree r ≡ true → r ≡ TEmpty
    empty_tree_only TEmpty h = refl
    empty_tree_only _ h = absurd (true≢false (sym h))

pub nil_plain : {w : World} → IsLawful w → is_plain (recs w) 0 ≡ true
nil_plain law = plain_is law 0 Nil (fixed_records law).nil

-- a place in hand is above the fixed ones
pub above_fixed : {v : View} → IsLawfulView v → (p : ℕ) → contains v.hand.reserved p ≡ true → 5 ≤ p
above_fixed {v} law = go
  where
    no : (p : ℕ) (r : Rec) → recs v.seen p ≡ Some r → contains v.hand.reserved p ≡ true → ⊥
    no p r e h = let k : is_published (recs v.seen) p ≡ true = rw e refl in true≢false (sym k ∙ law.hand.reserved p h)

    go : (p : ℕ) → contains v.hand.reserved p ≡ true → 5 ≤ p
    go zero h = absurd (no 0 Nil (fixed_records law.world).nil h)
    go (suc zero) h = absurd (no 1 LNil (fixed_records law.world).list_nil h)
    go (suc (suc zero)) h = absurd (no 2 TNil (fixed_records law.world).tree_nil h)
    go (suc (suc (suc zero))) h = absurd (no 3 CatNil (fixed_records law.world).cat_nil h)
    go (suc (suc (suc (suc zero)))) h = absurd (no 4 TEmpty (fixed_records law.world).empty_tree h)
    go (suc (suc (suc (suc (suc p))))) h = omega arith
