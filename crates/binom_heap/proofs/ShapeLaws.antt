-- Full trees of rising ranks are the binary digits 1 of their number of items.
use Rattle.std.proofs.Common.{◌≡◌, ℕ, zero, suc, ◌+◌, ◌-◌, ◌*◌, ◌/◌, ◌^◌, ◌<◌, ◌≤◌, eqb, leb, refl, sym, ap, ◌∙◌, arith, ⊎_elim, true, ◌∷◌, ◌++◌, length}
use Rattle.std.proofs.lemmas.List.{length-append}
use Rattle.std.proofs.lemmas.Nat.{pow_pos}
use Rattle.std.proofs.Math.Nat.{mul-div_cancel_left, two-pow-succ}
use Rattle.std.proofs.lemmas.Bool.{true≢false, and_parts, and_from, eqb-true, leb-true, le-leb, ne_eqb, cond-false, cond-true, eq-eqb, cases_eq}
use Rattle.lazy_rec.specs.Meaning.{means}
use Rattle.lazy_rec.specs.Numbers.{ones, trailing_ones}
use Rattle.lazy_rec.proofs.ByPlaceLaws.{from_lower}
use Rattle.lazy_rec.proofs.PlainLaws.{length-rising}
use Rattle.heap_store.specs.World.{World, recs}
use Rattle.heap_store.specs.Forest.{Forest, no_trees, a_tree, merge, forest, is_trees_only, ranks_rise, ranks_fall}
use Rattle.heap_store.specs.Lawful.{IsLawful}
use Rattle.heap_store.proofs.LawfulLaws.{lawful_names}
use Rattle.heap_store.proofs.MeaningLaws.{means_is}
use Rattle.binom_heap.specs.Trees.{weight, trees_met, merge_places}
use Rattle.binom_heap.specs.Work.{places_by_ranks, merge_places_of}
use Rattle.binom_heap.specs.Removal.{tree_count}
use Rattle.binom_heap.proofs.BinaryLaws.{trailing_none, trailing_even, trailing_odd, ones_none, ones_even, ones_odd}
use Rattle.binom_heap.proofs.PlacesLaws.{rank_step, step_none1, step_none2, step_even_even, step_even_odd, step_odd_even, step_odd_odd}
use Rattle.binom_heap.proofs.ForestLaws.{twice, merge_weight, merge_rises}
use Rattle.binom_heap.proofs.Merging.{places_lower, places_higher, places_equal, places_none}
use Rattle.binom_heap.proofs.TreeLaws.{TreesCase, nil, cell, trees_case, forest_is}
use Rattle.binom_heap.proofs.FirstTrees.{cell_tree}
use Rattle.binom_heap.proofs.TreePuts.{tree_full}

-- ---- how many items

-- of children whose ranks fall from below a rank on
pub fall_weight : (r : ℕ) (f : Forest) → ranks_fall r f ≡ true → suc (weight f) ≡ 2 ^ r
fall_weight zero no_trees h = refl
fall_weight zero (a_tree _ _ _ _) h = absurd (true≢false (sym h))
fall_weight (suc r) no_trees h = absurd (true≢false (sym h))
fall_weight (suc r) (a_tree r' x k more) h =
    let p = and_parts (eqb r' r) (ranks_fall r more) h in
    let same = eqb-true r' r p.0 in
    rw same (omega (arith, fall_weight r more p.1, twice r))

-- a list means as many items as its trees have by their ranks
pub list_weight : {w : World} → IsLawful w → (p : ℕ) → is_trees_only (recs w) p ≡ true → length (means (recs w) p) ≡ weight (forest (recs w) p)
list_weight {w} law = from_lower (λ p. is_trees_only (recs w) p ≡ true → length (means (recs w) p) ≡ weight (forest (recs w) p)) step
  where
    step : (p : ℕ) → ((q : ℕ) → q < p → is_trees_only (recs w) q ≡ true → length (means (recs w) q) ≡ weight (forest (recs w) q)) → is_trees_only (recs w) p ≡ true → length (means (recs w) p) ≡ weight (forest (recs w) p)
    step p ih h = go (trees_case law p h)
      where
        go : TreesCase (recs w) p → length (means (recs w) p) ≡ weight (forest (recs w) p)
        go (nil e) =
            let m = means_is (recs w) (lawful_names law) p _ e in
            let f = forest_is (recs w) (lawful_names law) p _ e in
            rw (m, f) refl
        go (cell tree rest e more) =
            let rs = recs w in
            let names = lawful_names law in
            let t = cell_tree law p tree rest e in
            let full = tree_full law tree.0 t.tree t.there in
            let kids = ih t.tree.kids.0 (omega (arith, t.kids_low, t.tree_low)) full.kids in
            let later = ih rest.0 t.rest_low more in
            let fall = fall_weight t.tree.rank (forest rs t.tree.kids.0) full.ranks in
            let m : length (means rs p) ≡ length (means rs tree.0) + length (means rs rest.0) = ap length (means_is rs names p _ e) ∙ (length-rising (means rs tree.0 ++ means rs rest.0) ∙ length-append (means rs tree.0) (means rs rest.0)) in
            let n : length (means rs tree.0) ≡ suc (length (means rs t.tree.kids.0)) = ap length (means_is rs names tree.0 _ t.there) ∙ length-rising (t.tree.item.0 ∷ means rs t.tree.kids.0) in
            let w' : weight (forest rs p) ≡ 2 ^ t.tree.rank + weight (forest rs rest.0) = ap weight t.trees in
            omega (arith, m, n, w', kids, later, fall)

-- ---- digits

cancel : (r a b : ℕ) → 2 ^ r * a ≡ 2 ^ r * b → a ≡ b
cancel r a b e = sym (mul-div_cancel_left a (pow_pos r)) ∙ (ap (λ n. n / 2 ^ r) e ∙ mul-div_cancel_left b (pow_pos r))

pow_sum : (s d : ℕ) → 2 ^ (s + d) ≡ 2 ^ s * 2 ^ d
pow_sum s zero = let e : s + 0 ≡ s = omega arith in rw e (omega arith)
pow_sum s (suc d) =
    let e : s + suc d ≡ suc (s + d) = omega arith in
    let ih = pow_sum s d in
    let t = twice d in
    rw (e, twice (s + d), ih, t) (omega arith)

-- trees of ranks from a number on have a multiple of so many items
scaled : (s : ℕ) (f : Forest) → ranks_rise s f ≡ true → (q : ℕ) × (weight f ≡ 2 ^ s * q)
scaled s no_trees h = (0, omega arith)
scaled s (a_tree r x k more) h =
    let p = and_parts (leb s r) (ranks_rise (suc r) more) h in
    let le = leb-true s r p.0 in
    let m = scaled (suc r) more p.1 in
    let e : s + (r - s) ≡ r = omega (arith, le) in
    let pow : 2 ^ r ≡ 2 ^ s * 2 ^ (r - s) = ap (λ n. 2 ^ n) (sym e) ∙ pow_sum s (r - s) in
    let rest : weight more ≡ (2 ^ r + 2 ^ r) * m.0 = m.1 ∙ ap (λ n. n * m.0) (twice r) in
    let both : 2 ^ r + (2 ^ r + 2 ^ r) * m.0 ≡ 2 ^ r * (1 + 2 * m.0) = omega arith in
    let all : 2 ^ r * (1 + 2 * m.0) ≡ 2 ^ s * (2 ^ (r - s) * (1 + 2 * m.0)) = ap (λ n. n * (1 + 2 * m.0)) pow ∙ omega arith in
    (2 ^ (r - s) * (1 + 2 * m.0), ap (λ n. 2 ^ r + n) rest ∙ (both ∙ all))

-- the lowest digit of the number of items, in trees of a rank: 0 without trees, even without a tree of that rank, and odd with one
data Digit (r m : ℕ) (f : Forest) : Type 0 where
  no_digit : m ≡ 0 → f ≡ no_trees → Digit r m f
  digit_zero : (q : ℕ) → m ≡ 2 * q → 0 < q → ranks_rise (suc r) f ≡ true → weight f ≡ 2 ^ suc r * q → Digit r m f
  digit_one : (q x : ℕ) (k more : Forest) → m ≡ 2 * q + 1 → f ≡ a_tree r x k more → ranks_rise (suc r) more ≡ true → weight more ≡ 2 ^ suc r * q → Digit r m f

digit : (r m : ℕ) (f : Forest) → ranks_rise r f ≡ true → weight f ≡ 2 ^ r * m → Digit r m f
digit r m no_trees h e = no_digit (cancel r m 0 (sym e ∙ omega arith)) refl
digit r m (a_tree r' x k more) h e =
    let p = and_parts (leb r r') (ranks_rise (suc r') more) h in
    ⊎_elim
    (λ (same : r' ≡ r). (
    let rise : ranks_rise (suc r) more ≡ true = rw same at p.1 in
    let s = scaled (suc r) more rise in
    let first : 2 ^ r + weight more ≡ 2 ^ r * m = rw same at e in
    let rest : weight more ≡ (2 ^ r + 2 ^ r) * s.0 = s.1 ∙ ap (λ n. n * s.0) (twice r) in
    let m_is : m ≡ 2 * s.0 + 1 = cancel r m (2 * s.0 + 1) (omega (arith, first, rest)) in
    digit_one s.0 x k more m_is (rw same refl) rise s.1))
    (λ (ne : r' ≡ r → ⊥). (
    let up = and_from (leb (suc r) r') (ranks_rise (suc r') more) (le-leb (suc r) r' (omega (arith, ne, leb-true r r' p.0))) p.1 in
    let s = scaled (suc r) (a_tree r' x k more) up in
    let all : weight (a_tree r' x k more) ≡ (2 ^ r + 2 ^ r) * s.0 = s.1 ∙ ap (λ n. n * s.0) (twice r) in
    let m_is : m ≡ 2 * s.0 = cancel r m (2 * s.0) (omega (arith, e, all)) in
    let some : s.0 ≡ 0 → ⊥ = λ z. (let none : 2 ^ r' + weight more ≡ 2 ^ suc r * 0 = rw z at s.1 in omega (arith, none, pow_pos r')) in
    digit_zero s.0 m_is (omega (arith, some)) up s.1))
    (cases_eq r' r)

-- ---- carries

first_above : (r : ℕ) (f : Forest) → ranks_rise (suc r) f ≡ true → trees_met r f ≡ 0
first_above r no_trees h = refl
first_above r (a_tree r' x k more) h =
    let le = leb-true (suc r) r' (and_parts (leb (suc r) r') (ranks_rise (suc r') more) h).0 in
    cond-false (eqb r r') _ 0 (ne_eqb r r' (λ e. omega (arith, e, le)))

-- what is to be shown of the trees of a rank and higher ones
abbrev MeetsTrailing : ℕ → ℕ → Forest → Type 0
MeetsTrailing r m f = ranks_rise r f ≡ true → weight f ≡ 2 ^ r * m → trees_met r f ≡ trailing_ones m

met_step : (r m : ℕ) (f : Forest) → m < 2 ^ 64 → ((q : ℕ) (more : Forest) → m ≡ 2 * q + 1 → MeetsTrailing (suc r) q more) → Digit r m f → trees_met r f ≡ trailing_ones m
met_step r m f low ih (no_digit z n) = rw (z, n) (sym trailing_none)
met_step r m f low ih (digit_zero q z pos up w) = first_above r f up ∙ rw z (sym (trailing_even q (omega (arith, z, low, two-pow-succ 63))))
met_step r m f low ih (digit_one q x kids more z n up w) =
    let k = ih q more z up w in
    rw (z, n) (cond-true (eqb r r) _ 0 (eq-eqb r r refl) ∙ (ap suc k ∙ sym (trailing_odd q (omega (arith, z, low, two-pow-succ 63)))))

-- a tree of the rank meets as many trees as the number has trailing digits 1
pub met_trailing : (k r m : ℕ) (f : Forest) → m < 2 ^ k → m < 2 ^ 64 → MeetsTrailing r m f
met_trailing zero r m f h low rise e = met_step r m f low (λ q more z. absurd (omega (arith, h, z))) (digit r m f rise e)
met_trailing (suc k) r m f h low rise e = met_step r m f low (λ q more z. met_trailing k (suc r) q more (omega (arith, z, h, two-pow-succ k)) (omega (arith, z, low))) (digit r m f rise e)

-- ---- trees

-- what is to be shown of the trees of a rank and higher ones
abbrev CountIsOnes : ℕ → ℕ → Forest → Type 0
CountIsOnes r m f = ranks_rise r f ≡ true → weight f ≡ 2 ^ r * m → tree_count f ≡ ones m

count_step : (r m : ℕ) (f : Forest) → m < 2 ^ 64 → ((q : ℕ) (more : Forest) → q + q ≤ m → 0 < m → CountIsOnes (suc r) q more) → Digit r m f → tree_count f ≡ ones m
count_step r m f low ih (no_digit z n) = rw (z, n) (sym ones_none)
count_step r m f low ih (digit_zero q z pos up w) =
    let k = ih q f (omega (arith, z)) (omega (arith, z, pos)) up w in
    k ∙ rw z (sym (ones_even q (omega (arith, z, low, two-pow-succ 63))))
count_step r m f low ih (digit_one q x kids more z n up w) =
    let k = ih q more (omega (arith, z)) (omega (arith, z)) up w in
    rw (z, n) (ap suc k ∙ sym (ones_odd q (omega (arith, z, low, two-pow-succ 63))))

count_ones : (k r m : ℕ) (f : Forest) → m < 2 ^ k → m < 2 ^ 64 → CountIsOnes r m f
count_ones zero r m f h low rise e = count_step r m f low (λ q more z pos. absurd (omega (arith, h, pos))) (digit r m f rise e)
count_ones (suc k) r m f h low rise e = count_step r m f low (λ q more z pos. count_ones k (suc r) q more (omega (arith, z, pos, h, two-pow-succ k)) (omega (arith, z, low))) (digit r m f rise e)

-- a list has a tree for each digit 1
pub list_ones : (n : ℕ) (f : Forest) → n < 2 ^ 32 → ranks_rise 0 f ≡ true → weight f ≡ n → tree_count f ≡ ones n
list_ones n f h rise e = count_ones 64 0 n f (omega (arith, h)) (omega (arith, h)) rise (e ∙ omega arith)

-- ---- merges

-- a list whose first tree is of a higher rank
record Above (r : ℕ) (f : Forest) : Type 0 where
  rank : ℕ
  item : ℕ
  kids : Forest
  more : Forest
  is : f ≡ a_tree rank item kids more
  high : r < rank

above : (r q : ℕ) (f : Forest) → ranks_rise (suc r) f ≡ true → 0 < q → weight f ≡ 2 ^ suc r * q → Above r f
above r q no_trees h pos e = absurd (let z : q ≡ 0 = cancel (suc r) q 0 (sym e ∙ omega arith) in omega (arith, z, pos))
above r q (a_tree r' x k more) h pos e = record { rank = r'; item = x; kids = k; more = more; is = refl; high = omega (arith, leb-true (suc r) r' (and_parts (leb (suc r) r') (ranks_rise (suc r') more) h).0) }

abbrev PlacesAre : ℕ → ℕ → ℕ → ℕ → Forest → Forest → Type 0
PlacesAre k r n m f g = ranks_rise r f ≡ true → weight f ≡ 2 ^ r * n → ranks_rise r g ≡ true → weight g ≡ 2 ^ r * m → merge_places f g ≡ places_by_ranks k n m

-- the places of two lists from those of the higher ranks
places_digits : (k r n m : ℕ) (f g : Forest) → n + m < 2 ^ 63 → ((f' g' : Forest) → PlacesAre k (suc r) (n / 2) (m / 2) f' g') → Digit r n f → Digit r m g → merge_places f g ≡ rank_step n m (places_by_ranks k (n / 2) (m / 2))
places_digits k r n m f g low ih (no_digit z e) y = rw e (sym (step_none1 n m (places_by_ranks k (n / 2) (m / 2)) z))
places_digits k r n m f g low ih x (no_digit z e) = rw e (places_none f ∙ sym (step_none2 n m (places_by_ranks k (n / 2) (m / 2)) z))
places_digits k r n m f g low ih (digit_zero p z a up w) (digit_zero q z' b up' w') =
    let hp : n / 2 ≡ p = omega (arith, z) in
    let hq : m / 2 ≡ q = omega (arith, z') in
    let i = ih f g up (rw hp w) up' (rw hq w') in
    i ∙ rw (z, z') (sym (step_even_even p q (places_by_ranks k (2 * p / 2) (2 * q / 2)) a b))
places_digits k r n m f g low ih (digit_zero p z a up w) (digit_one q x' k' more' z' e' up' w') =
    let hp : n / 2 ≡ p = omega (arith, z) in
    let hq : m / 2 ≡ q = omega (arith, z') in
    let t = above r p f up a w in
    let i = ih f more' up (rw hp w) up' (rw hq w') in
    let ti = t.is in
    let i' : merge_places (a_tree t.rank t.item t.kids t.more) more' ≡ places_by_ranks k (n / 2) (m / 2) = rw ti at i in
    rw (e', ti) (places_higher t.rank t.item t.kids t.more r x' k' more' t.high ∙ rw i' (rw (z, z') (sym (step_even_odd p q (places_by_ranks k (2 * p / 2) ((2 * q + 1) / 2)) a))))
places_digits k r n m f g low ih (digit_one p x kids more z e up w) (digit_zero q z' b up' w') =
    let hp : n / 2 ≡ p = omega (arith, z) in
    let hq : m / 2 ≡ q = omega (arith, z') in
    let t = above r q g up' b w' in
    let i = ih more g up (rw hp w) up' (rw hq w') in
    let ti = t.is in
    let i' : merge_places more (a_tree t.rank t.item t.kids t.more) ≡ places_by_ranks k (n / 2) (m / 2) = rw ti at i in
    rw (e, ti) (places_lower r x kids more t.rank t.item t.kids t.more t.high ∙ rw i' (rw (z, z') (sym (step_odd_even p q (places_by_ranks k ((2 * p + 1) / 2) (2 * q / 2)) b))))
places_digits k r n m f g low ih (digit_one p x kids more z e up w) (digit_one q x' kids' more' z' e' up' w') =
    let hp : n / 2 ≡ p = omega (arith, z) in
    let hq : m / 2 ≡ q = omega (arith, z') in
    let i = ih more more' up (rw hp w) up' (rw hq w') in
    let both : weight (merge more more') ≡ 2 ^ suc r * (p + q) = merge_weight more more' ∙ (rw (w, w') (omega arith)) in
    let met = met_trailing 63 (suc r) (p + q) (merge more more') (omega (arith, z, z', low)) (omega (arith, z, z', low, two-pow-succ 63)) (merge_rises more (suc r) more' up up') both in
    rw (e, e') (places_equal r x kids more x' kids' more' ∙ rw (i, met) (rw (z, z') (omega (arith, step_odd_odd p q (places_by_ranks k ((2 * p + 1) / 2) ((2 * q + 1) / 2))))))

places_are : (k r n m : ℕ) (f g : Forest) → n < 2 ^ k → n + m < 2 ^ 63 → PlacesAre k r n m f g
places_are zero r n m f g h low rise e rise' e' = by (digit r n f rise e)
  where
    by : Digit r n f → merge_places f g ≡ 0
    by (no_digit z n_is) = rw n_is refl
    by (digit_zero q z pos up w) = absurd (omega (arith, z, h, pos))
    by (digit_one q x kids more z n_is up w) = absurd (omega (arith, z, h))
places_are (suc k) r n m f g h low rise e rise' e' = places_digits k r n m f g low (λ f' g'. places_are k (suc r) (n / 2) (m / 2) f' g' (omega (arith, h, two-pow-succ k)) (omega (arith, low))) (digit r n f rise e) (digit r m g rise' e')

-- ---- of lists of heaps

pub insert_met : (n : ℕ) (f : Forest) → n < 2 ^ 32 → ranks_rise 0 f ≡ true → weight f ≡ n → trees_met 0 f ≡ trailing_ones n
insert_met n f h rise e = met_trailing 64 0 n f (omega (arith, h)) (omega (arith, h)) rise (e ∙ omega arith)

pub merge_takes : (n m : ℕ) (f g : Forest) → n < 2 ^ 32 → m < 2 ^ 32 → ranks_rise 0 f ≡ true → weight f ≡ n → ranks_rise 0 g ≡ true → weight g ≡ m → merge_places f g ≡ merge_places_of n m
unfolding merge_places_of
merge_takes n m f g h h' rise e rise' e' = places_are 32 0 n m f g h (omega (arith, h, h')) rise (e ∙ omega arith) rise' (e' ∙ omega arith)
