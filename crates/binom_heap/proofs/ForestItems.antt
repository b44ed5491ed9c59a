-- Lists put in rising order, and the items of trees: what links, inserts and merges do to them.
use Rattle.std.proofs.Common.{◌≡◌, ℕ, suc, refl, sym, ap, ◌∙◌, arith, Bool, true, false, cond, eqb, leb, ltb, min, List, [], ◌∷◌, ◌++◌}
use Rattle.std.proofs.lemmas.Grind.{common_steps}
use Rattle.std.proofs.lemmas.List.{append_assoc, append-nil}
use Rattle.lazy_rec.specs.Plain.{insert_rising, rising}
use Rattle.heap_store.specs.Forest.{Forest, no_trees, a_tree, add_tree, merge_first, merge}

-- the items of trees
abbrev pub items : Forest → List ℕ
items no_trees = []
items (a_tree rank item kids more) = item ∷ items kids ++ items more

-- ---- lists in rising order

pub insert_comm : (x y : ℕ) (zs : List ℕ) → insert_rising x (insert_rising y zs) ≡ insert_rising y (insert_rising x zs)
insert_comm x y [] = grind (arith, common_steps)
insert_comm x y (z ∷ zs) = let ih = insert_comm x y zs in grind (arith, common_steps, ih)

pub rising_insert : (x : ℕ) (zs ys : List ℕ) → rising (insert_rising x zs ++ ys) ≡ insert_rising x (rising (zs ++ ys))
rising_insert x [] ys = refl
rising_insert x (z ∷ zs) ys = go (leb z x) (rising_insert x zs ys)
  where
    go : (b : Bool) → rising (insert_rising x zs ++ ys) ≡ insert_rising x (rising (zs ++ ys)) → rising (cond b (z ∷ insert_rising x zs) (x ∷ z ∷ zs) ++ ys) ≡ insert_rising x (insert_rising z (rising (zs ++ ys)))
    go true ih = ap (insert_rising z) ih ∙ insert_comm z x (rising (zs ++ ys))
    go false ih = refl

-- a part may be put in order first
pub rising_left : (xs ys : List ℕ) → rising (rising xs ++ ys) ≡ rising (xs ++ ys)
rising_left [] ys = refl
rising_left (x ∷ xs) ys = rising_insert x (rising xs) ys ∙ ap (insert_rising x) (rising_left xs ys)

pub rising_middle : (xs : List ℕ) (x : ℕ) (ys : List ℕ) → rising (xs ++ x ∷ ys) ≡ insert_rising x (rising (xs ++ ys))
rising_middle [] x ys = refl
rising_middle (z ∷ xs) x ys = ap (insert_rising z) (rising_middle xs x ys) ∙ insert_comm z x (rising (xs ++ ys))

pub rising_swap : (xs ys : List ℕ) → rising (xs ++ ys) ≡ rising (ys ++ xs)
rising_swap [] ys = ap rising (sym (append-nil ys))
rising_swap (x ∷ xs) ys = ap (insert_rising x) (rising_swap xs ys) ∙ sym (rising_middle ys x xs)

pub rising_right : (xs ys : List ℕ) → rising (xs ++ rising ys) ≡ rising (xs ++ ys)
rising_right xs ys = rising_swap xs (rising ys) ∙ rising_left ys xs ∙ rising_swap ys xs

pub same_left : (xs ys zs : List ℕ) → rising xs ≡ rising ys → rising (xs ++ zs) ≡ rising (ys ++ zs)
same_left xs ys zs e = sym (rising_left xs zs) ∙ ap (λ t. rising (t ++ zs)) e ∙ rising_left ys zs

-- ---- items of trees

module _ (x x' : ℕ) (a b m : List ℕ) where
  both_ends : rising (x ∷ (a ++ (x' ∷ (b ++ m)))) ≡ insert_rising x (insert_rising x' (rising (a ++ (b ++ m))))
  both_ends = ap (insert_rising x) (rising_middle a x' (b ++ m))

  swapped : rising ((b ++ a) ++ m) ≡ rising (a ++ (b ++ m))
  swapped = same_left (b ++ a) (a ++ b) m (rising_swap b a) ∙ ap rising (append_assoc a b m)

  first_wins : rising (x ∷ ((x' ∷ (b ++ a)) ++ m)) ≡ rising (x ∷ (a ++ (x' ∷ (b ++ m))))
  first_wins = ap (λ t. insert_rising x (insert_rising x' t)) swapped ∙ sym both_ends

  second_wins : rising (x' ∷ ((x ∷ (a ++ b)) ++ m)) ≡ rising (x ∷ (a ++ (x' ∷ (b ++ m))))
  second_wins = ap (λ t. insert_rising x' (insert_rising x t)) (ap rising (append_assoc a b m)) ∙ insert_comm x' x (rising (a ++ (b ++ m))) ∙ sym both_ends

min_first : (x y : ℕ) → leb x y ≡ true → min x y ≡ x
min_first x y e = grind (arith, common_steps, e)

min_second : (x y : ℕ) → leb x y ≡ false → min x y ≡ y
min_second x y e = grind (arith, common_steps, e)

-- of two trees that are linked, and those after them
pub items_linked : (r q x : ℕ) (k : Forest) (x' : ℕ) (k' : Forest) (m : List ℕ) → rising (min x x' ∷ items (cond (leb x x') (a_tree q x' k' k) (a_tree r x k k')) ++ m) ≡ rising (x ∷ (items k ++ (x' ∷ (items k' ++ m))))
items_linked r q x k x' k' m = go (leb x x') refl
  where
    go : (c : Bool) → leb x x' ≡ c → rising (min x x' ∷ items (cond c (a_tree q x' k' k) (a_tree r x k k')) ++ m) ≡ rising (x ∷ (items k ++ (x' ∷ (items k' ++ m))))
    go true e = let z = min_first x x' e in rw z (first_wins x x' (items k) (items k') m)
    go false e = let z = min_second x x' e in rw z (second_wins x x' (items k) (items k') m)

pub items_add : (r x : ℕ) (k f : Forest) → rising (items (add_tree r x k f)) ≡ rising (x ∷ items k ++ items f)
items_add r x k no_trees = refl
items_add r x k (a_tree r' x' k' more) = go (eqb r r') (items_add (suc r) (min x x') (cond (leb x x') (a_tree r' x' k' k) (a_tree r x k k')) more)
  where
    go : (b : Bool) → rising (items (add_tree (suc r) (min x x') (cond (leb x x') (a_tree r' x' k' k) (a_tree r x k k')) more)) ≡ rising (min x x' ∷ items (cond (leb x x') (a_tree r' x' k' k) (a_tree r x k k')) ++ items more)
        → rising (items (cond b (add_tree (suc r) (min x x') (cond (leb x x') (a_tree r' x' k' k) (a_tree r x k k')) more) (a_tree r x k (a_tree r' x' k' more)))) ≡ rising (x ∷ (items k ++ (x' ∷ (items k' ++ items more))))
    go true ih = ih ∙ items_linked r r' x k x' k' (items more)
    go false ih = refl

-- ---- merges

pub same_right : (xs ys zs : List ℕ) → rising ys ≡ rising zs → rising (xs ++ ys) ≡ rising (xs ++ zs)
same_right xs ys zs e = rising_swap xs ys ∙ same_left ys zs xs e ∙ rising_swap zs xs

pub exchange : (b p m : List ℕ) → rising (b ++ (p ++ m)) ≡ rising (p ++ (b ++ m))
exchange b p m = ap rising (sym (append_assoc b p m)) ∙ same_left (b ++ p) (p ++ b) m (rising_swap b p) ∙ ap rising (append_assoc p b m)

merged_first : (x : ℕ) (a af g : List ℕ) (mg : List ℕ) → rising mg ≡ rising (af ++ g) → rising (x ∷ (a ++ mg)) ≡ rising ((x ∷ (a ++ af)) ++ g)
merged_first x a af g mg e = ap (insert_rising x) (same_right a mg (af ++ g) e ∙ ap rising (sym (append_assoc a af g)))

merged_second : (x' : ℕ) (p b m mg : List ℕ) → rising mg ≡ rising (p ++ m) → rising (x' ∷ (b ++ mg)) ≡ rising (p ++ (x' ∷ (b ++ m)))
merged_second x' p b m mg e = ap (insert_rising x') (same_right b mg (p ++ m) e ∙ exchange b p m) ∙ sym (rising_middle p x' (b ++ m))

merged_both : (x x' : ℕ) (a b af m : List ℕ) → rising (x ∷ (a ++ (x' ∷ (b ++ (af ++ m))))) ≡ rising ((x ∷ (a ++ af)) ++ (x' ∷ (b ++ m)))
merged_both x x' a b af m = ap (insert_rising x) (rising_middle a x' (b ++ (af ++ m)) ∙ ap (insert_rising x') (same_right a (b ++ (af ++ m)) (af ++ (b ++ m)) (exchange b af m) ∙ ap rising (sym (append_assoc a af (b ++ m)))) ∙ sym (rising_middle (a ++ af) x' (b ++ m)))

merge_items : (r x : ℕ) (k after : Forest) → ((g : Forest) → rising (items (merge after g)) ≡ rising (items after ++ items g)) → (g : Forest) → rising (items (merge_first r x k after (merge after) g)) ≡ rising ((x ∷ (items k ++ items after)) ++ items g)
merge_items r x k after ih no_trees = ap rising (sym (append-nil (x ∷ (items k ++ items after))))
merge_items r x k after ih (a_tree r' x' k' more) = go (ltb r r') (ltb r' r) (merge_items r x k after ih more)
  where
    mixed : Forest
    mixed = merge_first r x k after (merge after) more

    go : (b c : Bool) → rising (items (merge_first r x k after (merge after) more)) ≡ rising ((x ∷ (items k ++ items after)) ++ items more) → rising (items (elim b [
      | true ↦ a_tree r x k (merge after (a_tree r' x' k' more))
      | false ↦ elim c [
        | true ↦ a_tree r' x' k' (merge_first r x k after (merge after) more)
        | false ↦ add_tree (suc r) (min x x') (cond (leb x x') (a_tree r' x' k' k) (a_tree r x k k')) (merge after more)
      ]
    ])) ≡ rising ((x ∷ (items k ++ items after)) ++ (x' ∷ (items k' ++ items more)))
    go true c e = merged_first x (items k) (items after) (items (a_tree r' x' k' more)) (items (merge after (a_tree r' x' k' more))) (ih (a_tree r' x' k' more))
    go false true e = merged_second x' (x ∷ (items k ++ items after)) (items k') (items more) (items (merge_first r x k after (merge after) more)) e
    go false false e = items_add (suc r) (min x x') (cond (leb x x') (a_tree r' x' k' k) (a_tree r x k k')) (merge after more)
        ∙ same_right (min x x' ∷ items (cond (leb x x') (a_tree r' x' k' k) (a_tree r x k k'))) (items (merge after more)) (items after ++ items more) (ih more)
        ∙ items_linked r r' x k x' k' (items after ++ items more)
        ∙ merged_both x x' (items k) (items k') (items after) (items more)

-- of two lists that are merged
pub items_merge : (f g : Forest) → rising (items (merge f g)) ≡ rising (items f ++ items g)
items_merge no_trees g = refl
items_merge (a_tree r x k after) g = merge_items r x k after (items_merge after) g
