-- The ranks of forests, and how many items full trees of these ranks have.
use Rattle.std.proofs.Common.{◌≡◌, ℕ, suc, ◌+◌, ◌^◌, ◌<◌, ◌≤◌, eqb, leb, ltb, min, refl, ◌∙◌, arith, Bool, true, false, cond, ◌&&◌}
use Rattle.std.proofs.Math.Pow.{pow_mono}
use Rattle.std.proofs.lemmas.Grind.{common_steps}
use Rattle.std.proofs.lemmas.Bool.{and_parts, and_from, eqb-true, leb-true, le-leb, ltb-true}
use Rattle.heap_store.specs.Forest.{Forest, no_trees, a_tree, add_tree, merge_first, merge, ranks_rise}
use Rattle.binom_heap.specs.Trees.{weight, trees_met}

-- ---- ranks and weights

pub twice : (n : ℕ) → 2 ^ suc n ≡ 2 ^ n + 2 ^ n
twice n = grind (arith, common_steps)

pub met_weight : (rank : ℕ) (f : Forest) → 2 ^ (rank + trees_met rank f) ≤ 2 ^ rank + weight f
met_weight rank no_trees = let e : rank + 0 ≡ rank = omega arith in rw e (omega arith)
met_weight rank (a_tree rank' _ _ more) = go (eqb rank rank') refl (met_weight (suc rank) more)
  where
    go : (b : Bool) → eqb rank rank' ≡ b → 2 ^ (suc rank + trees_met (suc rank) more) ≤ 2 ^ suc rank + weight more → 2 ^ (rank + cond b (suc (trees_met (suc rank) more)) 0) ≤ 2 ^ rank + (2 ^ rank' + weight more)
    go true e ih =
        let same : rank ≡ rank' = eqb-true rank rank' e in
        let n : rank + suc (trees_met (suc rank) more) ≡ suc rank + trees_met (suc rank) more = omega arith in
        let t = twice rank in
        rw (n, ← same) (omega (arith, ih, t))
    go false e ih = let n : rank + 0 ≡ rank = omega arith in rw n (omega arith)

pub add_weight : (r x : ℕ) (k f : Forest) → weight (add_tree r x k f) ≡ 2 ^ r + weight f
add_weight r x k no_trees = refl
add_weight r x k (a_tree r' x' k' more) = go (eqb r r') refl (add_weight (suc r) (min x x') (cond (leb x x') (a_tree r' x' k' k) (a_tree r x k k')) more)
  where
    go : (b : Bool) → eqb r r' ≡ b → weight (add_tree (suc r) (min x x') (cond (leb x x') (a_tree r' x' k' k) (a_tree r x k k')) more) ≡ 2 ^ suc r + weight more
        → weight (cond b (add_tree (suc r) (min x x') (cond (leb x x') (a_tree r' x' k' k) (a_tree r x k k')) more) (a_tree r x k (a_tree r' x' k' more))) ≡ 2 ^ r + (2 ^ r' + weight more)
    go true e ih = let same : r ≡ r' = eqb-true r r' e in let t = twice r in let z : weight (add_tree (suc r) (min x x') (cond (leb x x') (a_tree r' x' k' k) (a_tree r x k k')) more) ≡ 2 ^ r + (2 ^ r + weight more) = omega (arith, ih, t) in z ∙ rw (← same) refl
    go false e ih = refl

pub rise_lower : (low low' : ℕ) (f : Forest) → low ≤ low' → ranks_rise low' f ≡ true → ranks_rise low f ≡ true
rise_lower low low' no_trees le h = refl
rise_lower low low' (a_tree r x k more) le h =
    let p = and_parts (leb low' r) (ranks_rise (suc r) more) h in
    and_from (leb low r) (ranks_rise (suc r) more) (le-leb low r (omega (arith, le, leb-true low' r p.0))) p.1

pub add_rises : (r x : ℕ) (k f : Forest) → ranks_rise r f ≡ true → ranks_rise r (add_tree r x k f) ≡ true
add_rises r x k no_trees h = and_from (leb r r) true (le-leb r r (omega arith)) refl
add_rises r x k (a_tree r' x' k' more) h = go (eqb r r') refl (add_rises (suc r) (min x x') (cond (leb x x') (a_tree r' x' k' k) (a_tree r x k k')) more)
  where
    go : (b : Bool) → eqb r r' ≡ b → (ranks_rise (suc r) more ≡ true → ranks_rise (suc r) (add_tree (suc r) (min x x') (cond (leb x x') (a_tree r' x' k' k) (a_tree r x k k')) more) ≡ true)
        → ranks_rise r (cond b (add_tree (suc r) (min x x') (cond (leb x x') (a_tree r' x' k' k) (a_tree r x k k')) more) (a_tree r x k (a_tree r' x' k' more))) ≡ true
    go true e ih =
        let same : r ≡ r' = eqb-true r r' e in
        let q = (and_parts (leb r r') (ranks_rise (suc r') more) h).1 in
        rise_lower r (suc r) _ (omega arith) (ih (rw same q))
    go false e ih =
        let q = and_parts (leb r r') (ranks_rise (suc r') more) h in
        let le = q.0 in
        and_from (leb r r) (leb (suc r) r' && ranks_rise (suc r') more) (le-leb r r (omega arith)) (and_from (leb (suc r) r') (ranks_rise (suc r') more) (grind (arith, common_steps, e, le)) q.1)

first_weight : (r x : ℕ) (k after : Forest) → ((g : Forest) → weight (merge after g) ≡ weight after + weight g) → (g : Forest) → weight (merge_first r x k after (merge after) g) ≡ (2 ^ r + weight after) + weight g
first_weight r x k after ih no_trees = omega arith
first_weight r x k after ih (a_tree r' x' k' more) = go (ltb r r') (ltb r' r) refl refl (first_weight r x k after ih more)
  where
    go : (b c : Bool) → ltb r r' ≡ b → ltb r' r ≡ c → weight (merge_first r x k after (merge after) more) ≡ (2 ^ r + weight after) + weight more → weight (elim b [
      | true ↦ a_tree r x k (merge after (a_tree r' x' k' more))
      | false ↦ elim c [
        | true ↦ a_tree r' x' k' (merge_first r x k after (merge after) more)
        | false ↦ add_tree (suc r) (min x x') (cond (leb x x') (a_tree r' x' k' k) (a_tree r x k k')) (merge after more)
      ]
    ]) ≡ (2 ^ r + weight after) + (2 ^ r' + weight more)
    go true c e f j = let i = ih (a_tree r' x' k' more) in omega (arith, i)
    go false true e f j = omega (arith, j)
    go false false e f j =
        let same : r' ≡ r = grind (arith, common_steps, e, f) in
        let i = ih more in
        let w = add_weight (suc r) (min x x') (cond (leb x x') (a_tree r' x' k' k) (a_tree r x k k')) (merge after more) in
        let t = twice r in
        w ∙ rw same (omega (arith, i, t))

pub merge_weight : (f g : Forest) → weight (merge f g) ≡ weight f + weight g
merge_weight no_trees g = omega arith
merge_weight (a_tree r x k after) g = first_weight r x k after (merge_weight after) g

first_rises : (r x : ℕ) (k after : Forest) → ((low : ℕ) (g : Forest) → ranks_rise low after ≡ true → ranks_rise low g ≡ true → ranks_rise low (merge after g) ≡ true) → (low : ℕ) (g : Forest) → ranks_rise low (a_tree r x k after) ≡ true → ranks_rise low g ≡ true → ranks_rise low (merge_first r x k after (merge after) g) ≡ true
first_rises r x k after ih low no_trees h j = h
first_rises r x k after ih low (a_tree r' x' k' more) h j = go (ltb r r') (ltb r' r) refl refl (λ low' h' j'. first_rises r x k after ih low' more h' j')
  where
    go : (b c : Bool) → ltb r r' ≡ b → ltb r' r ≡ c → ((low' : ℕ) → ranks_rise low' (a_tree r x k after) ≡ true → ranks_rise low' more ≡ true → ranks_rise low' (merge_first r x k after (merge after) more) ≡ true) → ranks_rise low (elim b [
      | true ↦ a_tree r x k (merge after (a_tree r' x' k' more))
      | false ↦ elim c [
        | true ↦ a_tree r' x' k' (merge_first r x k after (merge after) more)
        | false ↦ add_tree (suc r) (min x x') (cond (leb x x') (a_tree r' x' k' k) (a_tree r x k k')) (merge after more)
      ]
    ]) ≡ true
    go true c e f again =
        let p = and_parts (leb low r) (ranks_rise (suc r) after) h in
        let q = and_parts (leb low r') (ranks_rise (suc r') more) j in
        and_from (leb low r) (ranks_rise (suc r) (merge after (a_tree r' x' k' more))) p.0 (ih (suc r) (a_tree r' x' k' more) p.1 (and_from (leb (suc r) r') (ranks_rise (suc r') more) (le-leb (suc r) r' (omega (arith, ltb-true r r' e))) q.1))
    go false true e f again =
        let p = and_parts (leb low r) (ranks_rise (suc r) after) h in
        let q = and_parts (leb low r') (ranks_rise (suc r') more) j in
        and_from (leb low r') (ranks_rise (suc r') (merge_first r x k after (merge after) more)) q.0 (again (suc r') (and_from (leb (suc r') r) (ranks_rise (suc r) after) (le-leb (suc r') r (omega (arith, ltb-true r' r f))) p.1) q.1)
    go false false e f again =
        let same : r' ≡ r = grind (arith, common_steps, e, f) in
        let p = and_parts (leb low r) (ranks_rise (suc r) after) h in
        let q = and_parts (leb low r') (ranks_rise (suc r') more) j in
        let q' : ranks_rise (suc r) more ≡ true = rw same at q.1 in
        rise_lower low (suc r) _ (omega (arith, leb-true low r p.0)) (add_rises (suc r) (min x x') (cond (leb x x') (a_tree r' x' k' k) (a_tree r x k k')) (merge after more) (ih (suc r) more p.1 q'))

pub merge_rises : (f : Forest) (low : ℕ) (g : Forest) → ranks_rise low f ≡ true → ranks_rise low g ≡ true → ranks_rise low (merge f g) ≡ true
merge_rises no_trees low g h j = j
merge_rises (a_tree r x k after) low g h j = first_rises r x k after (merge_rises after) low g h j

-- ranks stay below 32, since so many items are no list's
pub rank_fits : (rank : ℕ) (f : Forest) → 2 ^ rank + weight f < 2 ^ 32 → rank + trees_met rank f < 32
rank_fits rank f small = go (ltb (rank + trees_met rank f) 32) refl
  where
    go : (b : Bool) → ltb (rank + trees_met rank f) 32 ≡ b → rank + trees_met rank f < 32
    go true e = ltb-true (rank + trees_met rank f) 32 e
    go false e =
        let w = met_weight rank f in
        let high : 32 ≤ rank + trees_met rank f = grind (arith, common_steps, e) in
        let p : 2 ^ 32 ≤ 2 ^ (rank + trees_met rank f) = pow_mono high in
        absurd (omega (arith, w, small, p))
