-- The tree with the least root of a list, by going through it.
use Rattle.std.proofs.Common.{◌≡◌, ℕ, zero, suc, ◌+◌, ◌<◌, ◌≤◌, ltb, leb, refl, sym, ap, ◌∙◌, arith, Bool, true, false, cond, ◌&&◌, Option, Some, None}
use Rattle.std.proofs.lemmas.Bool.{and_parts, leb-true, lt-ltb, ltb-true}
use Rattle.std.proofs.lemmas.Grind.{common_steps}
use Rattle.lazy_rec.specs.declared.places.Ref.{Ref}
use Rattle.heap_store.specs.World.{World, recs}
use Rattle.heap_store.specs.Forest.{Forest, no_trees, a_tree, forest, is_trees_only, ranks_rise}
use Rattle.heap_store.specs.Growth.{Grows}
use Rattle.heap_store.specs.Lawful.{IsLawful}
use Rattle.binom_heap.specs.declared.trees.FirstTree.{FirstTree}
use Rattle.binom_heap.specs.declared.removal.LeastTree.{LeastTree}
use Rattle.binom_heap.specs.Trees.{IsFirst}
use Rattle.binom_heap.specs.Removal.{Least, least_step, least_of, behind, StandsAt, IsFound, IsLeast}
use Rattle.binom_heap.proofs.FirstTrees.{FirstIs, first_is}
use Rattle.binom_heap.proofs.ForestLaws.{rise_lower}
use Rattle.binom_heap.proofs.Linking.{forest_up, only_up}

-- ---- roots that are compared in order

-- of a tree and of what is found in a list that stands behind so many, the lesser root, of equal ones the first
abbrev pub lesser : Least → ℕ → Option Least → Least
lesser l passed None = l
lesser l passed (Some later) = cond (ltb later.item l.item) (record later { before = later.before + passed }) l

abbrev tree_at : ℕ → ℕ → ℕ → Forest → Least
tree_at n r x k = record { before = n; rank = r; item = x; kids = k }

not_less : (a b c : ℕ) → ltb a b ≡ false → ltb c a ≡ false → ltb c b ≡ false
not_less a b c e f = grind (arith, common_steps, e, f)

-- a tree that comes first in the list is compared at once
lesser_step : (l : Least) (n r x : ℕ) (k : Forest) (o : Option Least) (b : Bool) → ltb x l.item ≡ b → lesser (cond b (tree_at n r x k) l) (n + 1) o ≡ lesser l n (least_step r x k o)
lesser_step l n r x k None true e = let z : 0 + n ≡ n = omega arith in rw (e, z) refl
lesser_step l n r x k None false e = rw e refl
lesser_step l n r x k (Some m) true e = go (ltb m.item x) refl
  where
    go : (c : Bool) → ltb m.item x ≡ c → cond c (record m { before = m.before + (n + 1) }) (tree_at n r x k) ≡ lesser l n (cond c (Some (record m { before = suc m.before })) (Some (tree_at 0 r x k)))
    go true f =
        let less : ltb m.item l.item ≡ true = lt-ltb m.item l.item (omega (arith, ltb-true m.item x f, ltb-true x l.item e)) in
        let z : suc m.before + n ≡ m.before + (n + 1) = omega arith in
        rw (less, z) refl
    go false f = let z : 0 + n ≡ n = omega arith in rw (e, z) refl
lesser_step l n r x k (Some m) false e = go (ltb m.item x) refl
  where
    go : (c : Bool) → ltb m.item x ≡ c → cond (ltb m.item l.item) (record m { before = m.before + (n + 1) }) l ≡ lesser l n (cond c (Some (record m { before = suc m.before })) (Some (tree_at 0 r x k)))
    go true f = let z : suc m.before + n ≡ m.before + (n + 1) = omega arith in rw z refl
    go false f = let more = not_less x l.item m.item e f in rw (more, e) refl

-- the first tree of all is compared with the others
lesser_first : (r x : ℕ) (k : Forest) (o : Option Least) → least_step r x k o ≡ Some (lesser (tree_at 0 r x k) 1 o)
lesser_first r x k None = refl
lesser_first r x k (Some m) = go (ltb m.item x)
  where
    go : (c : Bool) → cond c (Some (record m { before = suc m.before })) (Some (tree_at 0 r x k)) ≡ Some (cond c (record m { before = m.before + 1 }) (tree_at 0 r x k))
    go true = let z : m.before + 1 ≡ suc m.before = omega arith in rw z refl
    go false = refl

-- ---- where a tree stands

-- behind a tree that stands behind so many
pub behind_next : (n : ℕ) (f : Forest) (r x : ℕ) (k more : Forest) → behind n f ≡ a_tree r x k more → behind (suc n) f ≡ more
behind_next zero f r x k more e = ap (behind 1) e
behind_next (suc n) no_trees r x k more e = absurd (let z : no_trees ≡ a_tree r x k more = e in cc)
behind_next (suc n) (a_tree _ _ _ rest) r x k more e = behind_next n rest r x k more e

-- a tree stands where it stood in a larger world
pub stands_up : {a b : World} {f g : Forest} {l : Least} {place before : ℕ} → IsLawful a → Grows a b → f ≡ g → StandsAt a f l place before → StandsAt b g l place before
stands_up {l = l} {place = place} law x same s = record {
  before_is = s.before_is;
  trees = only_up law x place s.trees;
  forest_is = forest_up law x place s.trees ∙ (s.forest_is ∙ ap (λ z. a_tree l.rank l.item l.kids (behind (suc l.before) z)) same);
}

-- ---- the trees of a list

-- the first tree with the least root of all is this one and those that are left, behind so many
pub record IsLeastSoFar (w : World) (list : ℕ) (t : LeastTree) (passed left : ℕ) : Type 0 where
  pub l : Least
  pub found : IsFound w list l t
  pub left_low : left < list
  pub only : is_trees_only (recs w) left ≡ true
  pub rise : ranks_rise passed (forest (recs w) left) ≡ true
  pub left_is : forest (recs w) left ≡ behind passed (forest (recs w) list)
  pub is : least_of (forest (recs w) list) ≡ Some (lesser l passed (least_of (forest (recs w) left)))

-- the ranks behind a list's first tree rise on, and as many trees may stand before it as its rank allows
pub record RestRises (w : World) (passed : ℕ) (f : FirstTree) : Type 0 where
  pub rest : ranks_rise (passed + 1) (forest (recs w) f.rest.0) ≡ true
  pub early : passed ≤ f.tree.rank

pub rest_rises : {w : World} → IsLawful w → (passed list : ℕ) (f : FirstTree) → is_trees_only (recs w) list ≡ true → IsFirst w list f → ranks_rise passed (forest (recs w) list) ≡ true → RestRises w passed f
rest_rises {w} law passed list f only i rise =
    let k = first_is law list f only i in
    let e = k.trees in
    let up : (leb passed f.tree.rank && ranks_rise (suc f.tree.rank) (forest (recs w) f.rest.0)) ≡ true = rw e at rise in
    let p = and_parts (leb passed f.tree.rank) (ranks_rise (suc f.tree.rank) (forest (recs w) f.rest.0)) up in
    let early = leb-true passed f.tree.rank p.0 in
    record { rest = rise_lower (passed + 1) (suc f.tree.rank) _ (omega (arith, early)) p.1; early = early }

abbrev pub here_at : ℕ → Ref → FirstTree → LeastTree
here_at n list f = record { at = list; item = f.tree.item; before = n }

-- the first tree of all
pub so_far_first : {w : World} → IsLawful w → (list : Ref) (f : FirstTree) → is_trees_only (recs w) list.0 ≡ true → IsFirst w list.0 f → ranks_rise 0 (forest (recs w) list.0) ≡ true → IsLeastSoFar w list.0 (here_at 0 list f) 1 f.rest.0
so_far_first {w} law list f only i rise =
    let first = first_is law list.0 f only i in
    let kids = forest (recs w) f.tree.kids.0 in
    let after = sym (behind_next 0 (forest (recs w) list.0) f.tree.rank f.tree.item.0 kids (forest (recs w) f.rest.0) first.trees) in
    record {
      l = tree_at 0 f.tree.rank f.tree.item.0 kids;
      found = record {
        stands = record { before_is = refl; trees = only; forest_is = first.trees ∙ ap (a_tree f.tree.rank f.tree.item.0 kids) after };
        item = refl;
      };
      left_low = first.rest_low;
      only = first.rest_only;
      rise = (rest_rises law 0 list.0 f only i rise).rest;
      left_is = after;
      is = ap least_of first.trees ∙ lesser_first f.tree.rank f.tree.item.0 kids (least_of (forest (recs w) f.rest.0));
    }

-- one tree more is compared
pub so_far_next : {w : World} → IsLawful w → (list : ℕ) (t : LeastTree) (passed : ℕ) (left : Ref) → IsLeastSoFar w list t passed left.0 → (f : FirstTree) → IsFirst w left.0 f → (best : LeastTree) → best ≡ cond (ltb f.tree.item.0 t.item.0) (here_at passed left f) t → IsLeastSoFar w list best (passed + 1) f.rest.0
so_far_next {w} law list t passed left k f i best best_is = by (ltb f.tree.item.0 t.item.0) refl best_is
  where
    first : FirstIs w left.0 f
    first = first_is law left.0 f k.only i

    rises : RestRises w passed f
    rises = rest_rises law passed left.0 f k.only i k.rise

    after : forest (recs w) f.rest.0 ≡ behind (suc passed) (forest (recs w) list)
    after = sym (behind_next passed (forest (recs w) list) f.tree.rank f.tree.item.0 (forest (recs w) f.tree.kids.0) (forest (recs w) f.rest.0) (sym k.left_is ∙ first.trees))

    after_one : forest (recs w) f.rest.0 ≡ behind (passed + 1) (forest (recs w) list)
    after_one = let z : passed + 1 ≡ suc passed = omega arith in rw z after

    step : (b : Bool) → ltb f.tree.item.0 t.item.0 ≡ b → least_of (forest (recs w) list) ≡ Some (lesser (cond b (tree_at passed f.tree.rank f.tree.item.0 (forest (recs w) f.tree.kids.0)) k.l) (passed + 1) (least_of (forest (recs w) f.rest.0)))
    step b e =
        let item = k.found.item in
        let all = k.is ∙ ap (λ (z : Forest). Some (lesser k.l passed (least_of z))) first.trees in
        all ∙ ap Some (sym (lesser_step k.l passed f.tree.rank f.tree.item.0 (forest (recs w) f.tree.kids.0) (least_of (forest (recs w) f.rest.0)) b (ap (ltb f.tree.item.0) (sym item) ∙ e)))

    by : (b : Bool) → ltb f.tree.item.0 t.item.0 ≡ b → best ≡ cond b (here_at passed left f) t → IsLeastSoFar w list best (passed + 1) f.rest.0
    by true e z = rw z (record {
      l = tree_at passed f.tree.rank f.tree.item.0 (forest (recs w) f.tree.kids.0);
      found = record {
        stands = record { before_is = refl; trees = k.only; forest_is = first.trees ∙ ap (a_tree f.tree.rank f.tree.item.0 (forest (recs w) f.tree.kids.0)) after };
        item = refl;
      };
      left_low = omega (arith, first.rest_low, k.left_low);
      only = first.rest_only;
      rise = rises.rest;
      left_is = after_one;
      is = step true e;
    })
    by false e z = rw z (record {
      l = k.l;
      found = k.found;
      left_low = omega (arith, first.rest_low, k.left_low);
      only = first.rest_only;
      rise = rises.rest;
      left_is = after_one;
      is = step false e;
    })

-- no tree is left
pub so_far_all : {a b : World} → IsLawful a → Grows a b → (list : ℕ) → is_trees_only (recs a) list ≡ true → (t : LeastTree) (passed left : ℕ) → IsLeastSoFar a list t passed left → forest (recs a) left ≡ no_trees → IsLeast b list (least_of (forest (recs b) list)) (Some t)
so_far_all {a} {b} law x list only t passed left k none =
    let all = forest_up law x list only in
    let is = k.is ∙ ap (λ (z : Forest). Some (lesser k.l passed (least_of z))) none in
    let found : IsFound b list k.l t = record { stands = stands_up law x (sym all) k.found.stands; item = k.found.item } in
    rw (all, is) found
