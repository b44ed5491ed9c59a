-- A list without its least tree, and that tree's children in the other order: their items, ranks and numbers.
use Rattle.std.proofs.Common.{◌≡◌, ℕ, zero, suc, ◌+◌, ◌-◌, ◌*◌, ◌^◌, ◌<◌, ◌≤◌, eqb, leb, ltb, refl, sym, ap, ◌∙◌, arith, Bool, true, false, cond, ◌&&◌, Option, Some, None, List, [], ◌∷◌, ◌++◌, length}
use Rattle.std.specs.List.{list_all}
use Rattle.std.proofs.Math.Pow.{pow_mono}
use Rattle.std.proofs.lemmas.Grind.{common_steps}
use Rattle.std.proofs.lemmas.List.{append_assoc}
use Rattle.std.proofs.lemmas.List.Folds.{list_all-append}
use Rattle.std.proofs.lemmas.Bool.{true≢false, and_parts, and_from, eqb-true, leb-true, le-leb, ltb-true}
use Rattle.lazy_rec.specs.Numbers.{bits, ones}
use Rattle.lazy_rec.specs.Meaning.{means}
use Rattle.lazy_rec.specs.Plain.{insert_rising, rising}
use Rattle.lazy_rec.proofs.ByPlaceLaws.{from_lower}
use Rattle.heap_store.specs.World.{World, recs}
use Rattle.heap_store.specs.Forest.{Forest, no_trees, a_tree, forest, is_trees_only, ranks_rise, ranks_fall}
use Rattle.heap_store.specs.Lawful.{IsLawful}
use Rattle.heap_store.proofs.ShowLaws.{one_value}
use Rattle.heap_store.proofs.LawfulLaws.{lawful_names}
use Rattle.binom_heap.specs.Trees.{weight}
use Rattle.binom_heap.specs.Removal.{Least, least_step, least_of, turned, tree_count}
use Rattle.binom_heap.proofs.BinaryLaws.{by_halves, binary_even, binary_odd, bits_none}
use Rattle.binom_heap.proofs.ForestItems.{items, rising_left, rising_right, rising_middle, same_right, exchange}
use Rattle.binom_heap.proofs.ForestLaws.{twice, rise_lower}
use Rattle.binom_heap.proofs.Linking.{all_insert, all_rising, all_weaker}
use Rattle.binom_heap.proofs.TreeLaws.{TreesCase, nil, cell, trees_case, means_forest, forest_is}
use Rattle.binom_heap.proofs.FirstTrees.{cell_tree}
use Rattle.binom_heap.proofs.TreePuts.{tree_full}
use Rattle.binom_heap.proofs.ShapeLaws.{fall_weight, list_ones}

-- ---- lists in rising order

-- an item that isn't greater than any comes first
first_in : (x : ℕ) (zs : List ℕ) → list_all (leb x) zs ≡ true → insert_rising x zs ≡ x ∷ zs
first_in x [] h = refl
first_in x (z ∷ zs) h = go (leb z x) refl (first_in x zs)
  where
    go : (b : Bool) → leb z x ≡ b → (list_all (leb x) zs ≡ true → insert_rising x zs ≡ x ∷ zs) → cond b (z ∷ insert_rising x zs) (x ∷ z ∷ zs) ≡ x ∷ z ∷ zs
    go false e ih = refl
    go true e ih =
        let p = and_parts (leb x z) (list_all (leb x) zs) h in
        let same : z ≡ x = omega (arith, leb-true z x e, leb-true x z p.0) in
        rw same (ap (λ t. x ∷ t) (ih p.1))

all_uninsert : (t : ℕ → Bool) (x : ℕ) (zs : List ℕ) → list_all t (insert_rising x zs) ≡ true → list_all t zs ≡ true
all_uninsert t x [] h = refl
all_uninsert t x (z ∷ zs) h = go (leb z x) (all_uninsert t x zs) h
  where
    go : (b : Bool) → (list_all t (insert_rising x zs) ≡ true → list_all t zs ≡ true) → list_all t (cond b (z ∷ insert_rising x zs) (x ∷ z ∷ zs)) ≡ true → (t z && list_all t zs) ≡ true
    go true ih h = let p = and_parts (t z) (list_all t (insert_rising x zs)) h in and_from (t z) (list_all t zs) p.0 (ih p.1)
    go false ih h = (and_parts (t x) (t z && list_all t zs) h).1

all_both : (t : ℕ → Bool) (xs ys : List ℕ) → list_all t (rising xs) ≡ true → list_all t (rising ys) ≡ true → list_all t (rising (xs ++ ys)) ≡ true
all_both t xs ys h k =
    let both : list_all t (rising xs ++ rising ys) ≡ true = list_all-append t (rising xs) (rising ys) ∙ and_from (list_all t (rising xs)) (list_all t (rising ys)) h k in
    let same : rising (rising xs ++ rising ys) ≡ rising (xs ++ ys) = rising_left xs (rising ys) ∙ rising_right xs ys in
    ap (list_all t) (sym same) ∙ all_rising t (rising xs ++ rising ys) both

-- ---- the least tree

-- no item of a tree is lower than its root
abbrev pub in_heap_order : Forest → Bool
in_heap_order no_trees = true
in_heap_order (a_tree rank item kids more) = list_all (leb item) (rising (items kids)) && in_heap_order more

-- a list without the tree that stands behind so many
abbrev pub without_tree : ℕ → Forest → Forest
without_tree n no_trees = no_trees
without_tree zero (a_tree _ _ _ more) = more
without_tree (suc n) (a_tree rank item kids more) = a_tree rank item kids (without_tree n more)

-- what a list has beside the tree that is taken out of it
pub record IsTaken (f : Forest) (l : Least) : Type 0 where
  pub items_are : rising (items f) ≡ insert_rising l.item (rising (items l.kids ++ items (without_tree l.before f)))
  pub weight_is : weight f ≡ 2 ^ l.rank + weight (without_tree l.before f)
  pub count : tree_count f ≡ suc (tree_count (without_tree l.before f))
  pub some : l.before < tree_count f
  pub least : in_heap_order f ≡ true → list_all (leb l.item) (rising (items f)) ≡ true

taken_first : (r x : ℕ) (k more : Forest) → (in_heap_order more ≡ true → list_all (leb x) (rising (items more)) ≡ true) → IsTaken (a_tree r x k more) (record { before = 0; rank = r; item = x; kids = k })
taken_first r x k more low = record {
  items_are = refl;
  weight_is = refl;
  count = refl;
  some = omega arith;
  least = λ h. (
      let p = and_parts (list_all (leb x) (rising (items k))) (in_heap_order more) h in
      all_both (leb x) (x ∷ items k) (items more) (all_insert (leb x) x (rising (items k)) (le-leb x x (omega arith)) p.0) (low p.1));
}

taken_later : (r x : ℕ) (k more : Forest) (m : Least) → IsTaken more m → m.item ≤ x → IsTaken (a_tree r x k more) (record m { before = suc m.before })
taken_later r x k more m t le =
    let wo = items (without_tree m.before more) in
    record {
      items_are = same_right (x ∷ items k) (items more) (m.item ∷ (items m.kids ++ wo)) t.items_are ∙ (rising_middle (x ∷ items k) m.item (items m.kids ++ wo) ∙ ap (insert_rising m.item) (exchange (x ∷ items k) (items m.kids) wo));
      weight_is = omega (arith, t.weight_is);
      count = ap suc t.count;
      some = omega (arith, t.some);
      least = λ h. (
          let p = and_parts (list_all (leb x) (rising (items k))) (in_heap_order more) h in
          all_both (leb m.item) (x ∷ items k) (items more) (all_insert (leb m.item) x (rising (items k)) (le-leb m.item x le) (all_weaker m.item x (rising (items k)) le p.0)) (t.least p.1));
    }

-- a list in which none is found is empty
pub none_found : (f : Forest) → least_of f ≡ None → f ≡ no_trees
none_found no_trees e = refl
none_found (a_tree r x k more) e = absurd (go (least_of more) e)
  where
    by : (b : Bool) (l m : Least) → cond b (Some l) (Some m) ≡ None → ⊥
    by true l m e = cc
    by false l m e = cc

    go : (o : Option Least) → least_step r x k o ≡ None → ⊥
    go None e = cc
    go (Some m) e = by (ltb m.item x) (record m { before = suc m.before }) (record { before = 0; rank = r; item = x; kids = k }) e

nothing : (x : ℕ) (f : Forest) → least_of f ≡ None → list_all (leb x) (rising (items f)) ≡ true
nothing x f e = let z = none_found f e in rw z refl

pub taken : (f : Forest) (l : Least) → least_of f ≡ Some l → IsTaken f l
taken no_trees l e = absurd (let z : None ≡ Some l = e in cc)
taken (a_tree r x k more) l e = go (least_of more) refl (taken more) e
  where
    by : (b : Bool) (m : Least) → ltb m.item x ≡ b → IsTaken more m → cond b (Some (record m { before = suc m.before })) (Some (record { before = 0; rank = r; item = x; kids = k })) ≡ Some l → IsTaken (a_tree r x k more) l
    by true m c t e = let z = one_value _ _ e in rw (← z) (taken_later r x k more m t (omega (arith, ltb-true m.item x c)))
    by false m c t e =
        let z = one_value _ _ e in
        let le : x ≤ m.item = grind (arith, common_steps, c) in
        rw (← z) (taken_first r x k more (λ h. all_weaker x m.item (rising (items more)) le (t.least h)))

    go : (o : Option Least) → least_of more ≡ o → ((m : Least) → least_of more ≡ Some m → IsTaken more m) → least_step r x k o ≡ Some l → IsTaken (a_tree r x k more) l
    go None f ih e = let z = one_value _ _ e in rw (← z) (taken_first r x k more (λ h. nothing x more f))
    go (Some m) f ih e = by (ltb m.item x) m refl (ih m f) e

-- the items without the least one
pub taken_drop : (f : Forest) (l : Least) → IsTaken f l → in_heap_order f ≡ true → rising (items f) ≡ l.item ∷ rising (items l.kids ++ items (without_tree l.before f))
taken_drop f l t order =
    let zs = rising (items l.kids ++ items (without_tree l.before f)) in
    let all : list_all (leb l.item) (insert_rising l.item zs) ≡ true = ap (list_all (leb l.item)) (sym t.items_are) ∙ t.least order in
    t.items_are ∙ first_in l.item zs (all_uninsert (leb l.item) l.item zs all)

pub without_rises : (low n : ℕ) (f : Forest) → ranks_rise low f ≡ true → ranks_rise low (without_tree n f) ≡ true
without_rises low zero no_trees h = refl
without_rises low (suc n) no_trees h = refl
without_rises low zero (a_tree r x k more) h =
    let p = and_parts (leb low r) (ranks_rise (suc r) more) h in
    rise_lower low (suc r) more (omega (arith, leb-true low r p.0)) p.1
without_rises low (suc n) (a_tree r x k more) h =
    let p = and_parts (leb low r) (ranks_rise (suc r) more) h in
    and_from (leb low r) (ranks_rise (suc r) (without_tree n more)) p.0 (without_rises (suc r) n more p.1)

-- ---- children in the other order

pub turned_items : (f onto : Forest) → rising (items (turned f onto)) ≡ rising (items f ++ items onto)
turned_items no_trees onto = refl
turned_items (a_tree r x k more) onto = turned_items more (a_tree r x k onto) ∙ (exchange (items more) (x ∷ items k) (items onto) ∙ ap rising (sym (append_assoc (x ∷ items k) (items more) (items onto))))

pub turned_weight : (f onto : Forest) → weight (turned f onto) ≡ weight f + weight onto
turned_weight no_trees onto = omega arith
turned_weight (a_tree r x k more) onto = omega (arith, turned_weight more (a_tree r x k onto))

pub turned_count : (f onto : Forest) → tree_count (turned f onto) ≡ tree_count f + tree_count onto
turned_count no_trees onto = omega arith
turned_count (a_tree r x k more) onto = omega (arith, turned_count more (a_tree r x k onto))

pub turned_rises : (r : ℕ) (f onto : Forest) → ranks_fall r f ≡ true → ranks_rise r onto ≡ true → ranks_rise 0 (turned f onto) ≡ true
turned_rises zero no_trees onto h j = j
turned_rises zero (a_tree _ _ _ _) onto h j = absurd (true≢false (sym h))
turned_rises (suc r) no_trees onto h j = absurd (true≢false (sym h))
turned_rises (suc r) (a_tree r' x k more) onto h j =
    let p = and_parts (eqb r' r) (ranks_fall r more) h in
    let same = eqb-true r' r p.0 in
    turned_rises r more (a_tree r' x k onto) p.1 (and_from (leb r r') (ranks_rise (suc r') onto) (le-leb r r' (omega (arith, same))) (rw same j))

pub fall_count : (r : ℕ) (f : Forest) → ranks_fall r f ≡ true → tree_count f ≡ r
fall_count zero no_trees h = refl
fall_count zero (a_tree _ _ _ _) h = absurd (true≢false (sym h))
fall_count (suc r) no_trees h = absurd (true≢false (sym h))
fall_count (suc r) (a_tree r' x k more) h = ap suc (fall_count r more (and_parts (eqb r' r) (ranks_fall r more) h).1)

-- ---- numbers

below_bits : (n : ℕ) → n < 2 ^ 64 → n < 2 ^ bits n
below_bits n h = by_halves (λ n. n < 2 ^ bits n)
    (rw bits_none (omega arith))
    (λ q pos low ih. (let b : bits (2 * q) ≡ suc (bits q) = ap length (binary_even q pos low) in rw b (omega (arith, ih, twice (bits q)))))
    (λ q low ih. (let b : bits (2 * q + 1) ≡ suc (bits q) = ap length (binary_odd q low) in rw b (omega (arith, ih, twice (bits q)))))
    n h

pub rank_bits : (r n : ℕ) → n < 2 ^ 64 → 2 ^ r ≤ n → r < bits n
rank_bits r n h le = go (ltb r (bits n)) refl
  where
    go : (b : Bool) → ltb r (bits n) ≡ b → r < bits n
    go true e = ltb-true r (bits n) e
    go false e =
        let high : bits n ≤ r = grind (arith, common_steps, e) in
        let p : 2 ^ bits n ≤ 2 ^ r = pow_mono high in
        absurd (omega (arith, p, le, below_bits n h))

-- the digits of the sizes of both parts
pub record PartOnes (n rank : ℕ) : Type 0 where
  pub most : 2 ^ rank ≤ n
  pub pos : 0 < 2 ^ rank
  pub rest : ones (n - 2 ^ rank) + 1 ≡ ones n
  pub kids : ones (2 ^ rank - 1) ≡ rank
  pub low : rank < bits n

pub part_ones : (n : ℕ) (f : Forest) (l : Least) → n < 2 ^ 32 → ranks_rise 0 f ≡ true → weight f ≡ n → IsTaken f l → ranks_fall l.rank l.kids ≡ true → PartOnes n l.rank
part_ones n f l h rise e t fall =
    let w = fall_weight l.rank l.kids fall in
    let rest = without_tree l.before f in
    let a = list_ones n f h rise e in
    let le : 2 ^ l.rank ≤ n = omega (arith, t.weight_is, e) in
    let b = list_ones (n - 2 ^ l.rank) rest (omega (arith, h)) (without_rises 0 l.before f rise) (omega (arith, t.weight_is, e)) in
    let kids_weight : weight (turned l.kids no_trees) ≡ 2 ^ l.rank - 1 = omega (arith, turned_weight l.kids no_trees, w) in
    let c = list_ones (2 ^ l.rank - 1) (turned l.kids no_trees) (omega (arith, h, le)) (turned_rises l.rank l.kids no_trees fall refl) kids_weight in
    record {
      most = le;
      pos = omega (arith, w);
      rest = omega (arith, a, b, t.count);
      kids = omega (arith, c, turned_count l.kids no_trees, fall_count l.rank l.kids fall);
      low = rank_bits l.rank n (omega (arith, h)) le;
    }

-- ---- what a lawful world says

pub trees_means : {w : World} → IsLawful w → (p : ℕ) → is_trees_only (recs w) p ≡ true → means (recs w) p ≡ rising (items (forest (recs w) p))
trees_means {w} law p h = go (trees_case law p h)
  where
    go : TreesCase (recs w) p → means (recs w) p ≡ rising (items (forest (recs w) p))
    go (nil e) = means_forest law p _ e refl
    go (cell tree rest e more) = means_forest law p _ e refl

-- trees are in heap order
pub list_in_order : {w : World} → IsLawful w → (p : ℕ) → is_trees_only (recs w) p ≡ true → in_heap_order (forest (recs w) p) ≡ true
list_in_order {w} law = from_lower (λ p. is_trees_only (recs w) p ≡ true → in_heap_order (forest (recs w) p) ≡ true) step
  where
    step : (p : ℕ) → ((q : ℕ) → q < p → is_trees_only (recs w) q ≡ true → in_heap_order (forest (recs w) q) ≡ true) → is_trees_only (recs w) p ≡ true → in_heap_order (forest (recs w) p) ≡ true
    step p ih h = go (trees_case law p h)
      where
        go : TreesCase (recs w) p → in_heap_order (forest (recs w) p) ≡ true
        go (nil e) = let f = forest_is (recs w) (lawful_names law) p _ e in rw f refl
        go (cell tree rest e more) =
            let t = cell_tree law p tree rest e in
            let full = tree_full law tree.0 t.tree t.there in
            let m = trees_means law t.tree.kids.0 full.kids in
            let f = t.trees in
            rw f (and_from (list_all (leb t.tree.item.0) (rising (items (forest (recs w) t.tree.kids.0)))) (in_heap_order (forest (recs w) rest.0)) (ap (list_all (leb t.tree.item.0)) (sym m) ∙ full.order) (ih rest.0 t.rest_low more))
