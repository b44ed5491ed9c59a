-- The least tree that was found, and a heap without it.
use Rattle.std.proofs.Common.{◌≡◌, ℕ, ◌+◌, ◌-◌, ◌*◌, ◌^◌, ◌<◌, ◌≤◌, eqb, leb, refl, sym, ap, ◌∙◌, arith, subst, suc, Bool, true, false, cond, ◌||◌, Option, Some, None, List, [], ◌∷◌, ◌++◌, length}
use Rattle.std.proofs.Math.Pow.{pow_mono}
use Rattle.std.proofs.lemmas.List.{append-nil, nil_from_length}
use Rattle.std.proofs.lemmas.Bool.{true≢false}
use Rattle.lazy_rec.specs.Numbers.{bits, ones}
use Rattle.lazy_rec.specs.declared.places.Ref.{Ref}
use Rattle.lazy_rec.specs.declared.records.Rec.TheVariants.{TNil}
use Rattle.lazy_rec.specs.declared.events.Kind.TheVariants as kinds
use Rattle.lazy_rec.specs.declared.events.Op.{Op}
use Rattle.lazy_rec.specs.declared.events.Op.TheVariants as ops
use Rattle.lazy_rec.specs.declared.events.Reply.TheVariants as replies
use Rattle.lazy_rec.specs.Meaning.{means}
use Rattle.lazy_rec.specs.Plain.{rising}
use Rattle.heap_store.specs.declared.jobs.Cursor.{Cursor}
use Rattle.heap_store.specs.declared.jobs.EventJob.{EventJob}
use Rattle.heap_store.specs.declared.jobs.Stage.TheVariants.{HeapPaid}
use Rattle.heap_store.specs.Span.{Span}
use Rattle.heap_store.specs.Growth.{Grows}
use Rattle.heap_store.specs.World.{World, recs, holds, is_value}
use Rattle.heap_store.specs.Forest.{Forest, no_trees, a_tree, forest, is_trees_only, ranks_rise, ranks_fall}
use Rattle.heap_store.specs.Lawful.{IsLawful, is_root}
use Rattle.heap_store.specs.Hand.{IsInHand}
use Rattle.heap_store.specs.Stages.{due_now, places_now, stage_places, at_heap_paid}
use Rattle.heap_store.specs.View.{View, IsLawfulView}
use Rattle.heap_store.specs.Jobs.{IsEnd, Filled}
use Rattle.heap_store.proofs.FillLaws.{Filled_trans}
use Rattle.heap_store.proofs.LawfulLaws.{lawful_names}
use Rattle.heap_store.proofs.FixedPlaces.{fixed_records, above_fixed}
use Rattle.binom_heap.specs.declared.heap.Top.{Top}
use Rattle.binom_heap.specs.declared.trees.FirstTree.{FirstTree}
use Rattle.binom_heap.specs.declared.removal.LeastTree.{LeastTree}
use Rattle.binom_heap.specs.Trees.{weight, tree_record, IsFirst}
use Rattle.binom_heap.specs.Laying.{IsList, Laid}
use Rattle.binom_heap.specs.Heap.{meld_places, meld_price, removal_places, paid_places, looks_at_trees, IsShownTop, MayMeld, PointsAt}
use Rattle.binom_heap.specs.Removal.{Least, least_of, behind, first_onto, turned, tree_count, StandsAt, IsFound, IsLeast, MayPutAgain, MayTurn}
use Rattle.binom_heap.proofs.ForestItems.{items, rising_left, rising_right, rising_swap}
use Rattle.binom_heap.proofs.TreeLaws.{forest_is, trees_only_is}
use Rattle.binom_heap.proofs.FirstTrees.{first_is}
use Rattle.binom_heap.proofs.TreePuts.{IsFull, tree_full}
use Rattle.binom_heap.proofs.ListValues.{list_there, known_place, value_trees}
use Rattle.binom_heap.proofs.Linking.{forest_up, list_up}
use Rattle.binom_heap.proofs.RunLaws.{next_held, puts_trans}
use Rattle.binom_heap.proofs.ShapeLaws.{fall_weight}
use Rattle.binom_heap.proofs.Melds.{some_place}
use Rattle.binom_heap.proofs.Sides.{side_top}
use Rattle.binom_heap.proofs.Tops.{old_top}
use Rattle.binom_heap.proofs.EventTops.{heap_end}
use Rattle.binom_heap.proofs.EventPaid.{PaidTop, PaidBase}
use Rattle.binom_heap.proofs.PutAgain.{onto_rest, early_next}
use Rattle.binom_heap.proofs.Lesser.{stands_up}
use Rattle.binom_heap.proofs.Removing.{without_tree, none_found, IsTaken, PartOnes, taken, taken_drop, without_rises, turned_items, turned_weight, turned_rises, fall_count, rank_bits, part_ones, trees_means, list_in_order}

-- ---- the tree that was found

-- the parts of trees that are the same
record SameTree (r r' : ℕ) (k k' more more' : Forest) : Type 0 where
  rank : r ≡ r'
  kids : k ≡ k'
  rest : more ≡ more'

same_tree : (r x r' x' : ℕ) (k more k' more' : Forest) → a_tree r x k more ≡ a_tree r' x' k' more' → SameTree r r' k k' more more'
same_tree r x r' x' k more k' more' e = record { rank = ap rank_of e; kids = ap kids_of e; rest = ap rest_of e }
  where
    rank_of : Forest → ℕ
    rank_of no_trees = 0
    rank_of (a_tree n _ _ _) = n

    kids_of : Forest → Forest
    kids_of no_trees = no_trees
    kids_of (a_tree _ _ f _) = f

    rest_of : Forest → Forest
    rest_of no_trees = no_trees
    rest_of (a_tree _ _ _ f) = f

-- what is known of the least tree once it is read, behind so many
pub record LeastFacts (w : World) (list n before : ℕ) (t : FirstTree) : Type 0 where
  pub l : Least
  pub is : least_of (forest (recs w) list) ≡ Some l
  pub before_is : before ≡ l.before
  pub there : recs w t.tree.place.0 ≡ Some (tree_record t.tree)
  pub rank : t.tree.rank ≡ l.rank
  pub kids : forest (recs w) t.tree.kids.0 ≡ l.kids
  pub rest_only : is_trees_only (recs w) t.rest.0 ≡ true
  pub rest_is : forest (recs w) t.rest.0 ≡ behind (suc l.before) (forest (recs w) list)
  pub early : l.before ≤ l.rank
  pub without : IsTaken (forest (recs w) list) l
  pub fall : ranks_fall l.rank l.kids ≡ true
  pub parts : PartOnes n t.tree.rank
  pub full : IsFull w t.tree

pub least_facts : {w : World} → IsLawful w → (list n : ℕ) → ranks_rise 0 (forest (recs w) list) ≡ true → weight (forest (recs w) list) ≡ n → n ≤ 2147483647 → (l : Least) → least_of (forest (recs w) list) ≡ Some l → (place before : ℕ) → StandsAt w (forest (recs w) list) l place before → (t : FirstTree) → IsFirst w place t → LeastFacts w list n before t
least_facts {w} law list n rise weight_is few l e place before s t i =
    let first = first_is law place t s.trees i in
    let same = same_tree _ _ _ _ _ _ _ _ (sym first.trees ∙ s.forest_is) in
    let full = tree_full law t.tree.place.0 t.tree i.tree in
    let out = taken (forest (recs w) list) l e in
    let rank = same.rank in
    let kids = same.kids in
    let fall : ranks_fall l.rank l.kids ≡ true = rw (rank, kids) at full.ranks in
    record {
      l = l;
      is = e;
      before_is = s.before_is;
      there = i.tree;
      rank = rank;
      kids = kids;
      rest_only = first.rest_only;
      rest_is = same.rest;
      early = omega (arith, early_next 0 (forest (recs w) list) rise l e);
      without = out;
      fall = fall;
      parts = rw rank (part_ones n (forest (recs w) list) l (omega (arith, few)) rise weight_is out fall);
      full = full;
    }

pub none_is : (w : World) (list : ℕ) (o : Option Least) → IsLeast w list o None → o ≡ None
none_is w list None h = refl
none_is w list (Some l) h = absurd h

-- what was found is the least tree, and stands in the list
record FoundLeast (w : World) (list : ℕ) (t : LeastTree) : Type 0 where
  l : Least
  is : least_of (forest (recs w) list) ≡ Some l
  found : IsFound w list l t

found_least : (w : World) (list : ℕ) (t : LeastTree) → IsLeast w list (least_of (forest (recs w) list)) (Some t) → FoundLeast w list t
found_least w list t h = go (least_of (forest (recs w) list)) refl h
  where
    go : (o : Option Least) → least_of (forest (recs w) list) ≡ o → IsLeast w list o (Some t) → FoundLeast w list t
    go None e h = absurd h
    go (Some l) e h = record { l = l; is = e; found = h }

pub found_trees : (w : World) (list : ℕ) (t : LeastTree) → IsLeast w list (least_of (forest (recs w) list)) (Some t) → is_trees_only (recs w) t.at.0 ≡ true
found_trees w list t h = (found_least w list t h).found.stands.trees

-- where a tree stands the list isn't empty
pub stands_some : {w : World} {f : Forest} {l : Least} {place before : ℕ} → StandsAt w f l place before → forest (recs w) place ≡ no_trees → ⊥
stands_some {w} {f} {l} s none = let z : a_tree l.rank l.item l.kids (behind (suc l.before) f) ≡ no_trees = sym s.forest_is ∙ none in cc

pub found_some : (w : World) (list : ℕ) (t : LeastTree) → IsLeast w list (least_of (forest (recs w) list)) (Some t) → forest (recs w) t.at.0 ≡ no_trees → ⊥
found_some w list t h = stands_some (found_least w list t h).found.stands

pub found_facts : {a b : World} → IsLawful a → IsLawful b → Grows a b → (list n : ℕ) → is_trees_only (recs a) list ≡ true → ranks_rise 0 (forest (recs a) list) ≡ true → weight (forest (recs a) list) ≡ n → n ≤ 2147483647 → (m : LeastTree) → IsLeast b list (least_of (forest (recs b) list)) (Some m) → (t : FirstTree) → IsFirst b m.at.0 t → LeastFacts b list n m.before t
found_facts {a} {b} law law' x list n only rise weight_is few m h t i =
    let same = forest_up law x list only in
    let f = found_least b list m h in
    least_facts law' list n (rw same rise) (rw same weight_is) few f.l f.is m.at.0 m.before f.found.stands t i

-- the cursor points at the same tree in a larger world
pub points_up : {a b : World} {f g : Forest} → IsLawful a → Grows a b → f ≡ g → (cursor : Cursor) → PointsAt a f (least_of f) cursor → PointsAt b g (least_of g) cursor
points_up {a} {b} {f} {g} law x same cursor p = subst (λ h. PointsAt b h (least_of h) cursor) same (go (least_of f) p)
  where
    go : (o : Option Least) → PointsAt a f o cursor → PointsAt b f o cursor
    go None p = p
    go (Some l) p = stands_up law x refl p

-- at what was found
pub found_points : {a b : World} → IsLawful a → Grows a b → (list : ℕ) → is_trees_only (recs a) list ≡ true → (t : LeastTree) → IsLeast a list (least_of (forest (recs a) list)) (Some t) → PointsAt b (forest (recs b) list) (least_of (forest (recs b) list)) (record { place = t.at; passed = t.before })
found_points {a} {b} law x list only t h =
    let f = found_least a list t h in
    let is = f.is in
    points_up law x (sym (forest_up law x list only)) (record { place = t.at; passed = t.before }) (rw is f.found.stands)

pub none_points : (w : World) (f : Forest) (cursor : Cursor) → least_of f ≡ None → PointsAt w f (least_of f) cursor
none_points w f cursor e = rw e tt

-- ---- lists with trees and without

pub none_least : (f : Forest) → weight f ≡ 0 → least_of f ≡ None
none_least f none = go (least_of f) refl
  where
    go : (o : Option Least) → least_of f ≡ o → o ≡ None
    go None e = refl
    go (Some l) e =
        let low : 0 ≤ l.rank = omega arith in
        let pos : 2 ^ 0 ≤ 2 ^ l.rank = pow_mono low in
        absurd (omega (arith, (taken f l e).weight_is, none, pos))

pub some_least : (f : Forest) → (weight f ≡ 0 → ⊥) → (l : Least) × (least_of f ≡ Some l)
some_least f some = go (least_of f) refl
  where
    go : (o : Option Least) → least_of f ≡ o → (l : Least) × (least_of f ≡ Some l)
    go None e = absurd (some (let z = none_found f e in rw z refl))
    go (Some l) e = (l, e)

-- ---- the places of the second stage

pub removal_is : {w : World} {list n before : ℕ} {t : FirstTree} (f : LeastFacts w list n before t) (full : ℕ) → full ≡ 2 ^ t.tree.rank → (top : ℕ) → top ≡ meld_places (n - full) (full - 1) → before + t.tree.rank + top ≡ removal_places n (Some f.l)
removal_is f full full_is top top_is =
    let r = f.rank in
    let b = f.before_is in
    rw (top_is, full_is, r, b) refl

pub two_most : (n m : ℕ) → meld_places n m ≤ 2
two_most n m = go (leb (n + m) 2147483647) (eqb n 0 || eqb m 0)
  where
    go : (b c : Bool) → cond b (cond c 1 2) 0 ≤ 2
    go true true = omega arith
    go true false = omega arith
    go false c = omega arith

removal_most : (n : ℕ) (f : Forest) → n ≤ 2147483647 → ranks_rise 0 f ≡ true → weight f ≡ n → removal_places n (least_of f) ≤ 2 * bits n + 2
removal_most n f few rise weight_is = go (least_of f) refl
  where
    go : (o : Option Least) → least_of f ≡ o → removal_places n o ≤ 2 * bits n + 2
    go None e = omega arith
    go (Some l) e =
        let t = taken f l e in
        let early = early_next 0 f rise l e in
        let low = rank_bits l.rank n (omega (arith, few)) (omega (arith, t.weight_is, weight_is)) in
        omega (arith, early, low, two_most (n - 2 ^ l.rank) (2 ^ l.rank - 1))

pub paid_most : (job : EventJob) → job.base.kind ≡ kinds.Heap → (top : Ref) → job.stage ≡ HeapPaid top → looks_at_trees job.op ≡ true → (f : Forest) → job.base.size ≤ 2147483647 → ranks_rise 0 f ≡ true → weight f ≡ job.base.size → paid_places job.op job.base.size f ≤ places_now job
paid_most job kind top stage look f few rise weight_is = rw (kind, stage) (by job.op look)
  where
    by : (op : Op) → looks_at_trees op ≡ true → paid_places op job.base.size f ≤ stage_places kinds.Heap op job.base.size job.other.size at_heap_paid
    by ops.Min h = omega arith
    by ops.Delmin h = removal_most job.base.size f few rise weight_is
    by _ h = absurd (true≢false (sym h))

pub removal_due : (job : EventJob) → job.base.kind ≡ kinds.Heap → (top : Ref) → job.stage ≡ HeapPaid top → job.op ≡ ops.Delmin → due_now job ≡ ones job.base.size + bits job.base.size
removal_due job kind top stage op = rw (kind, stage, op) refl

-- ---- the second stage of a delmin

-- what a removal begins with
pub record Removal (v : View) (run : Span) (trees n before : ℕ) (t : FirstTree) : Type 0 where
  pub held : IsInHand v.hand run
  pub list : IsList v.seen trees run.next
  pub rise : ranks_rise 0 (forest (recs v.seen) trees) ≡ true
  pub weight_is : weight (forest (recs v.seen) trees) ≡ n
  pub few : n ≤ 2147483647
  pub facts : LeastFacts v.seen trees n before t
  pub tree_low : t.tree.place.0 < run.next
  pub rest_low : t.rest.0 < run.next
  pub room : run.next + removal_places n (Some facts.l) ≡ run.end
  pub credits : ones n + bits n ≤ v.hand.credits

module _ {v : View} (law : IsLawfulView v) (run : Span) (trees n before : ℕ) (t : FirstTree) (k : Removal v run trees n before t) (full : ℕ) (full_is : full ≡ 2 ^ t.tree.rank) where
  abbrev pub f : LeastFacts v.seen trees n before t
  f = k.facts

  whole : run.next + (before + t.tree.rank + meld_places (n - full) (full - 1)) ≡ run.end
  whole = omega (arith, k.room, removal_is f full full_is (meld_places (n - full) (full - 1)) refl)

  some_left : 1 ≤ meld_places (n - full) (full - 1)
  some_left = some_place (n - full) (full - 1) (omega (arith, k.few, full_is, f.parts.most))

  pub again_asks : MayPutAgain v run trees before t.rest.0
  again_asks = record { held = k.held; room = omega (arith, whole); list_is = k.list; some = omega (arith, f.before_is, f.without.some); onto_is = record { trees = f.rest_only; low = k.rest_low } }

  kids_only : is_trees_only (recs v.seen) t.tree.kids.0 ≡ true
  kids_only = f.full.kids

  kids_count : tree_count (forest (recs v.seen) t.tree.kids.0) ≡ t.tree.rank
  kids_count = fall_count t.tree.rank (forest (recs v.seen) t.tree.kids.0) f.full.ranks

  nil_list : {w : World} → IsLawful w → (p : ℕ) → 2 < p → IsList w 2 p
  nil_list {w} law p low = record { trees = trees_only_is (recs w) (lawful_names law) 2 TNil (fixed_records law).tree_nil; low = low }

  nil_forest : {w : World} → IsLawful w → forest (recs w) 2 ≡ no_trees
  nil_forest {w} law = forest_is (recs w) (lawful_names law) 2 TNil (fixed_records law).tree_nil

  module _ {v1 : View} (law1 : IsLawfulView v1) (run1 : Span) (rest : Ref) (d : Laid v v1 run run1 before rest.0 (first_onto before (forest (recs v.seen) trees) (forest (recs v.seen) t.rest.0))) where
    kids_same : forest (recs v1.seen) t.tree.kids.0 ≡ forest (recs v.seen) t.tree.kids.0
    kids_same = forest_up law.world d.puts.filled.grows t.tree.kids.0 kids_only

    kids_low : t.tree.kids.0 < run.next
    kids_low = omega (arith, (lawful_names law.world t.tree.place.0 _ f.there).0.0, k.tree_low)

    pub turn_asks : MayTurn v1 run1 t.tree.kids.0 2
    turn_asks =
        let s = kids_same in
        record {
          held = d.puts.held;
          room = rw s (omega (arith, whole, kids_count, d.puts.next, d.puts.same_end));
          list_is = list_up {a = v.seen} {p = run.next} law.world d.puts.filled.grows (omega (arith, d.puts.next)) (record { trees = kids_only; low = kids_low });
          onto_is = nil_list law1.world run1.next (omega (arith, d.puts.next, above_fixed law run.next (next_held k.held (omega (arith, whole, some_left)))));
        }

    module _ {v2 : View} (law2 : IsLawfulView v2) (run2 : Span) (kids : Ref) (e : Laid v1 v2 run1 run2 (tree_count (forest (recs v1.seen) t.tree.kids.0)) kids.0 (turned (forest (recs v1.seen) t.tree.kids.0) (forest (recs v1.seen) 2))) where
      abbrev rest_top : Top
      rest_top = record { list = rest; size = n - full; owed = 0 }

      abbrev kids_top : Top
      kids_top = record { list = kids; size = full - 1; owed = 0 }

      rest_forest : forest (recs v2.seen) rest.0 ≡ without_tree f.l.before (forest (recs v.seen) trees)
      rest_forest =
          forest_up law1.world e.puts.filled.grows rest.0 d.list.trees ∙ (d.forest_is ∙ onto_rest before f.l.before (forest (recs v.seen) trees) (forest (recs v.seen) t.rest.0) f.before_is f.rest_is f.without.some)

      kids_forest : forest (recs v2.seen) kids.0 ≡ turned f.l.kids no_trees
      kids_forest =
          let s = kids_same in
          let z = nil_forest law1.world in
          let g = f.kids in
          e.forest_is ∙ rw (s, z, g) refl

      kids_weight : weight (turned f.l.kids no_trees) ≡ full - 1
      kids_weight = omega (arith, turned_weight f.l.kids no_trees, fall_weight f.l.rank f.l.kids f.fall, full_is, pow_same)
        where
          pow_same : 2 ^ t.tree.rank ≡ 2 ^ f.l.rank
          pow_same = ap (λ i. 2 ^ i) f.rank

      rest_weight : weight (without_tree f.l.before (forest (recs v.seen) trees)) ≡ n - full
      rest_weight = omega (arith, f.without.weight_is, k.weight_is, full_is, pow_same)
        where
          pow_same : 2 ^ t.tree.rank ≡ 2 ^ f.l.rank
          pow_same = ap (λ i. 2 ^ i) f.rank

      rest_list : IsList v2.seen rest.0 run2.next
      rest_list = list_up {a = v1.seen} {p = run1.next} law1.world e.puts.filled.grows (omega (arith, e.puts.next)) d.list

      rest_side : IsShownTop v2.seen rest_top run2.next
      rest_side =
          let s = rest_forest in
          side_top law2.world rest_top run2.next rest_list (rw s (without_rises 0 f.l.before (forest (recs v.seen) trees) k.rise)) (rw s rest_weight) (omega (arith, k.few)) refl

      kids_side : IsShownTop v2.seen kids_top run2.next
      kids_side =
          let s = kids_forest in
          side_top law2.world kids_top run2.next e.list (rw s (turned_rises f.l.rank f.l.kids no_trees f.fall refl)) (rw s kids_weight) (omega (arith, k.few, full_is, f.parts.most)) refl

      e_next : run2.next ≡ run.next + (before + t.tree.rank)
      e_next = let s = kids_same in let z : tree_count (forest (recs v1.seen) t.tree.kids.0) ≡ t.tree.rank = rw s kids_count in omega (arith, e.puts.next, d.puts.next, z)

      parts_cost : meld_price rest_top kids_top ≤ ones n + bits n
      parts_cost = let p = f.parts in let s = full_is in rw s (omega (arith, p.rest, p.kids, p.low))

      pub meld_asks : MayMeld v2 run2 rest_top kids_top
      meld_asks = record {
        held = e.puts.held;
        first_is = rest_side;
        second_is = kids_side;
        size = omega (arith, e_next, whole, e.puts.same_end, d.puts.same_end);
        fits = omega (arith, k.few, full_is, f.parts.most);
        credits = omega (arith, parts_cost, k.credits, d.puts.credits, e.puts.credits);
      }

      pub base_items : means (recs v.seen) trees ≡ f.l.item ∷ rising (items f.l.kids ++ items (without_tree f.l.before (forest (recs v.seen) trees)))
      base_items = trees_means law.world trees k.list.trees ∙ taken_drop (forest (recs v.seen) trees) f.l f.without (list_in_order law.world trees k.list.trees)

      pub joined_items : rising (means (recs v2.seen) rest.0 ++ means (recs v2.seen) kids.0) ≡ rising (items f.l.kids ++ items (without_tree f.l.before (forest (recs v.seen) trees)))
      joined_items =
          let wo = items (without_tree f.l.before (forest (recs v.seen) trees)) in
          let ks = items f.l.kids in
          let a : means (recs v2.seen) rest.0 ≡ rising wo = trees_means law2.world rest.0 rest_list.trees ∙ ap (λ z. rising (items z)) rest_forest in
          let b : means (recs v2.seen) kids.0 ≡ rising ks = trees_means law2.world kids.0 e.list.trees ∙ (ap (λ z. rising (items z)) kids_forest ∙ (turned_items f.l.kids no_trees ∙ ap rising (append-nil ks))) in
          rw (a, b) (rising_left wo (rising ks) ∙ (rising_right wo ks ∙ rising_swap wo ks))

      pub removal_filled : {v3 : View} → Filled v2 v3 run2.next run2.end → Filled v v3 run.next run.end
      removal_filled {v3} filled =
          let puts = puts_trans d.puts e.puts in
          let all = Filled_trans (omega (arith, puts.next)) (omega (arith, e_next, whole, e.puts.same_end, d.puts.same_end)) puts.filled filled in
          let same : run2.end ≡ run.end = e.puts.same_end ∙ d.puts.same_end in
          rw same at all

      pub removal_credits : (left : ℕ) → v2.hand.credits ≤ left + meld_price rest_top kids_top → v.hand.credits ≤ left + (ones n + bits n)
      removal_credits left c = omega (arith, c, parts_cost, d.puts.credits, e.puts.credits)

-- ---- what a delmin ends with

pub delmin_end : {w : World} → IsLawful w → (job : EventJob) → job.base.kind ≡ kinds.Heap → job.other.kind ≡ kinds.Heap → job.op ≡ ops.Delmin → (top : ℕ) (k : PaidTop w job.base.root.0 top) → is_value w k.list.0 ≡ true → (made : Ref) → holds (recs w) made.0 (is_root (recs w) kinds.Heap made.0) ≡ true
    → (x : ℕ) (zs : List ℕ) → means (recs w) k.list.0 ≡ x ∷ zs → means (recs w) made.0 ≡ zs → (size : ℕ) → size ≡ length zs → IsEnd w job made.0 size replies.Ok
delmin_end {w} law job kind other op top k known made there x zs base_is made_is size size_is =
    let base = old_top law job.base.root.0 k.base k.base_here in
    let root : means (recs w) job.base.root.0 ≡ x ∷ zs = base.means_are ∙ (ap (means (recs w)) (sym k.same) ∙ base_is) in
    let b = k.base_here in
    let s = k.same in
    heap_end job kind other ops.Delmin op made there size replies.Ok zs made_is (rw root refl) size_is (rw b (rw (← s) known))

-- of an empty heap
pub delmin_none : {w : World} → IsLawful w → (job : EventJob) → job.base.kind ≡ kinds.Heap → job.other.kind ≡ kinds.Heap → job.op ≡ ops.Delmin → (top : Ref) (k : PaidTop w job.base.root.0 top.0) → job.base.size ≡ k.base.size → job.base.size ≡ 0 → IsEnd w job top.0 job.base.size replies.Empty
delmin_none {w} law job kind other op top k size empty =
    let base = old_top law job.base.root.0 k.base k.base_here in
    let mine = old_top law top.0 (record { list = k.list; size = k.base.size; owed = 0 }) k.here in
    let none : means (recs w) k.list.0 ≡ [] = nil_from_length (means (recs w) k.list.0) (omega (arith, mine.list.size_is, size, empty)) in
    let root : means (recs w) job.base.root.0 ≡ [] = base.means_are ∙ (ap (means (recs w)) (sym k.same) ∙ none) in
    let f = k.here in
    heap_end job kind other ops.Delmin op top (rw f refl) job.base.size replies.Empty [] (mine.means_are ∙ none) (rw root refl) (size ∙ (mine.list.size_is ∙ ap length none)) refl

-- which makes nothing
pub empty_room : {v : View} {job : EventJob} {run : Span} {top : Ref} → IsLawful v.seen → PaidBase v job run top → job.op ≡ ops.Delmin → job.base.size ≡ 0 → run.next ≡ run.end
empty_room {v} {job} {run} {top} law b op empty =
    let p = b.paid in
    let o = old_top law top.0 (record { list = p.list; size = p.base.size; owed = 0 }) p.here in
    let q = known_place law p.list.0 (list_there o.list) b.known in
    let done = value_trees law top.0 p.list.0 p.base.size q.0 o.list q.1 in
    let same : forest (recs v.seen) top.0 ≡ forest (recs v.seen) q.0 = forest_is (recs v.seen) (lawful_names law) top.0 _ p.here ∙ sym done.same in
    let none : least_of (forest (recs v.seen) top.0) ≡ None = rw same (none_least (forest (recs v.seen) q.0) (omega (arith, done.weight_is, b.size, empty))) in
    let room : run.next + 0 ≡ run.end = rw (op, none) at b.room in
    omega (arith, room)
