-- A tree that is inserted into a list.
use Rattle.std.proofs.Common.{◌≡◌, ℕ, suc, ◌+◌, ◌*◌, eqb, leb, min, refl, sym, ◌∙◌, arith, Bool, true, false, cond, ◌&&◌}
use Rattle.std.proofs.lemmas.Bool.{and_parts, eq-eqb, ne_eqb, cond-true, cond-false}
use Rattle.heap_store.specs.Span.{Span}
use Rattle.heap_store.specs.World.{World, recs}
use Rattle.heap_store.specs.Forest.{Forest, no_trees, a_tree, in_front, add_tree, forest, is_trees_only, ranks_rise}
use Rattle.heap_store.specs.Lawful.{IsLawful}
use Rattle.heap_store.specs.View.{View, Quiet}
use Rattle.binom_heap.specs.declared.trees.BinomialTree.{BinomialTree}
use Rattle.binom_heap.specs.declared.trees.FirstTree.{FirstTree}
use Rattle.binom_heap.specs.Trees.{IsFirst, linked_kids, trees_met}
use Rattle.binom_heap.specs.Laying.{MayPutCell, MayInsert, MayLink, Linked, Laid}
use Rattle.binom_heap.proofs.FirstTrees.{FirstIs, tree_forest, first_is, first_up}
use Rattle.binom_heap.proofs.RunLaws.{quiet_puts, puts_trans}
use Rattle.binom_heap.proofs.Linking.{forest_up, kids_up, tree_up, list_up, tree_shown}

-- ---- what was laid, told of an earlier view and of equal trees

pub laid_same : {v new : View} {run run' : Span} {count n place : ℕ} {f g : Forest} → count ≡ n → f ≡ g → Laid v new run run' count place f → Laid v new run run' n place g
laid_same count_is forest_same d = record { puts = rw (← count_is) d.puts; list = d.list; forest_is = d.forest_is ∙ forest_same }

pub quiet_laid : {v seen new : View} {run run' : Span} {count place : ℕ} {f : Forest} → Quiet v seen → Laid seen new run run' count place f → Laid v new run run' count place f
quiet_laid q d = record { puts = quiet_puts q d.puts; list = d.list; forest_is = d.forest_is }

pub ask_quiet : {a b : View} {run : Span} {t : BinomialTree} {list : ℕ} → IsLawful a.seen → Quiet a b → MayInsert a run t list → MayInsert b run t list
ask_quiet {a} {b} {run} {t} {list} law q k =
    let same = forest_up law q.grows list k.list_is.trees in
    record {
      held = (let z = q.hand in rw z k.held);
      room = rw same k.room;
      tree_is = tree_up q.grows (omega arith) k.tree_is;
      list_is = list_up law q.grows (omega arith) k.list_is;
      rise = rw same k.rise;
      rank = rw same k.rank;
    }

-- what an insert made after a read is what it makes of the lists before it
pub insert_same : {v seen new : View} {run run' : Span} {t : BinomialTree} {list place : ℕ} → IsLawful v.seen → Quiet v seen → MayInsert v run t list
    → Laid seen new run run' (2 * trees_met t.rank (forest (recs seen.seen) list) + 1) place (add_tree t.rank t.item.0 (forest (recs seen.seen) t.kids.0) (forest (recs seen.seen) list))
    → Laid v new run run' (2 * trees_met t.rank (forest (recs v.seen) list) + 1) place (add_tree t.rank t.item.0 (forest (recs v.seen) t.kids.0) (forest (recs v.seen) list))
insert_same {v} {seen} {new} {run} {run'} {t} {list} law q k d =
    let kids = kids_up law q.grows t.place.0 t k.tree_is.there in
    let more = forest_up law q.grows list k.list_is.trees in
    quiet_laid q (laid_same (rw more refl) (rw (kids, more) refl) d)

-- ---- a tree that meets none

pub met_none : (rank item : ℕ) (kids f : Forest) → trees_met rank f ≡ 0 → add_tree rank item kids f ≡ a_tree rank item kids f
met_none rank item kids no_trees h = refl
met_none rank item kids (a_tree rank' item' kids' more) h = go (eqb rank rank') h
  where
    go : (b : Bool) → cond b (suc (trees_met (suc rank) more)) 0 ≡ 0 → cond b (add_tree (suc rank) (min item item') (linked_kids rank item kids rank' item' kids') more) (a_tree rank item kids (a_tree rank' item' kids' more)) ≡ a_tree rank item kids (a_tree rank' item' kids' more)
    go true h = absurd (omega (arith, h))
    go false h = refl

pub insert_cell : {v : View} {run : Span} {t : BinomialTree} {list : ℕ} → MayInsert v run t list → MayPutCell v run t.place.0 list
insert_cell k = record { held = k.held; room = omega (arith, k.room); there = tree_shown k.tree_is; low = k.tree_is.low; list_is = k.list_is }

-- the end, where the list has no tree of the rank
pub insert_end : {v seen new : View} {run run' : Span} {t : BinomialTree} {list place : ℕ} → IsLawful v.seen → Quiet v seen → IsLawful seen.seen → MayInsert v run t list → trees_met t.rank (forest (recs v.seen) list) ≡ 0
    → Laid seen new run run' 1 place (in_front (forest (recs seen.seen) t.place.0) (forest (recs seen.seen) list)) → Laid v new run run' (2 * trees_met t.rank (forest (recs v.seen) list) + 1) place (add_tree t.rank t.item.0 (forest (recs v.seen) t.kids.0) (forest (recs v.seen) list))
insert_end {v} {seen} {new} {run} {run'} {t} {list} law q law' k none d =
    let kids = kids_up law q.grows t.place.0 t k.tree_is.there in
    let more = forest_up law q.grows list k.list_is.trees in
    let first = tree_forest law' t (q.grows.records _ _ k.tree_is.there) in
    let all : in_front (forest (recs seen.seen) t.place.0) (forest (recs seen.seen) list) ≡ add_tree t.rank t.item.0 (forest (recs v.seen) t.kids.0) (forest (recs v.seen) list) = rw (first, kids, more) (sym (met_none t.rank t.item.0 (forest (recs v.seen) t.kids.0) (forest (recs v.seen) list) none)) in
    quiet_laid q (laid_same (omega (arith, none)) all d)

pub none_of_no_trees : (w : World) (list rank : ℕ) → forest (recs w) list ≡ no_trees → trees_met rank (forest (recs w) list) ≡ 0
none_of_no_trees w list rank e = rw e refl

pub none_of_other : {w : World} → IsLawful w → (rank list : ℕ) (f : FirstTree) → is_trees_only (recs w) list ≡ true → IsFirst w list f → (f.tree.rank ≡ rank → ⊥) → trees_met rank (forest (recs w) list) ≡ 0
none_of_other law rank list f only i ne =
    let k = (first_is law list f only i).trees in
    rw k (cond-false (eqb rank f.tree.rank) _ 0 (ne_eqb rank f.tree.rank (λ e. ne (sym e))))

-- ---- a tree that meets one of its rank

-- what the list is then
pub record Meets (w : World) (t : BinomialTree) (list : ℕ) (f : FirstTree) : Type 0 where
  pub first : FirstIs w list f
  pub met : trees_met t.rank (forest (recs w) list) ≡ suc (trees_met (suc t.rank) (forest (recs w) f.rest.0))
  pub rise : ranks_rise (suc t.rank) (forest (recs w) f.rest.0) ≡ true
  pub added : add_tree t.rank t.item.0 (forest (recs w) t.kids.0) (forest (recs w) list)
      ≡ add_tree (suc t.rank) (min t.item.0 f.tree.item.0) (linked_kids t.rank t.item.0 (forest (recs w) t.kids.0) f.tree.rank f.tree.item.0 (forest (recs w) f.tree.kids.0)) (forest (recs w) f.rest.0)

pub meets_first : {w : World} → IsLawful w → (t : BinomialTree) (list : ℕ) (f : FirstTree) → is_trees_only (recs w) list ≡ true → ranks_rise t.rank (forest (recs w) list) ≡ true → IsFirst w list f → f.tree.rank ≡ t.rank → Meets w t list f
meets_first {w} law t list f only rise i same =
    let k = first_is law list f only i in
    let e = k.trees in
    let test = eq-eqb t.rank f.tree.rank (sym same) in
    let up : (leb t.rank f.tree.rank && ranks_rise (suc f.tree.rank) (forest (recs w) f.rest.0)) ≡ true = rw e at rise in
    let after = (and_parts (leb t.rank f.tree.rank) (ranks_rise (suc f.tree.rank) (forest (recs w) f.rest.0)) up).1 in
    record {
      first = k;
      met = rw e (cond-true (eqb t.rank f.tree.rank) _ 0 test);
      rise = rw same at after;
      added = rw e (cond-true (eqb t.rank f.tree.rank) _ _ test ∙ rw same refl);
    }

pub insert_link : {v : View} {run : Span} {t : BinomialTree} {list : ℕ} {f : FirstTree} → IsLawful v.seen → MayInsert v run t list → IsFirst v.seen list f → f.tree.rank ≡ t.rank → MayLink v run t f.tree
insert_link {v} {run} {t} {list} {f} law k i same =
    let m = meets_first law t list f k.list_is.trees k.rise i same in
    record {
      held = k.held;
      room = omega (arith, k.room, m.met);
      first_is = k.tree_is;
      second_is = record { there = i.tree; low = omega (arith, m.first.tree_low, k.list_is.low) };
      same = same;
      rank = omega (arith, k.rank, m.met);
    }

-- what the rest of the list then asks
pub insert_rest : {v new : View} {run run' : Span} {t linked : BinomialTree} {list : ℕ} {f : FirstTree} → IsLawful v.seen → MayInsert v run t list → IsFirst v.seen list f → f.tree.rank ≡ t.rank → Linked v new run run' t f.tree linked → MayInsert new run' linked f.rest.0
insert_rest {v} {new} {run} {run'} {t} {linked} {list} {f} law k i same l =
    let m = meets_first law t list f k.list_is.trees k.rise i same in
    let more = forest_up law l.puts.filled.grows f.rest.0 m.first.rest_only in
    let rank = l.rank in
    let met : trees_met linked.rank (forest (recs new.seen) f.rest.0) ≡ trees_met (suc t.rank) (forest (recs v.seen) f.rest.0) = rw (rank, more) refl in
    record {
      held = l.puts.held;
      room = omega (arith, k.room, m.met, met, l.puts.next, l.puts.same_end);
      tree_is = l.tree;
      list_is = list_up {p = run.next} law l.puts.filled.grows (omega (arith, l.puts.next)) (record { trees = m.first.rest_only; low = omega (arith, m.first.rest_low, k.list_is.low) });
      rise = rw (rank, more) m.rise;
      rank = omega (arith, k.rank, m.met, met, rank);
    }

pub insert_after : {v new last : View} {run run' run2 : Span} {t linked : BinomialTree} {list place : ℕ} {f : FirstTree} → IsLawful v.seen → MayInsert v run t list → IsFirst v.seen list f → f.tree.rank ≡ t.rank → Linked v new run run' t f.tree linked
    → Laid new last run' run2 (2 * trees_met linked.rank (forest (recs new.seen) f.rest.0) + 1) place (add_tree linked.rank linked.item.0 (forest (recs new.seen) linked.kids.0) (forest (recs new.seen) f.rest.0))
    → Laid v last run run2 (2 * trees_met t.rank (forest (recs v.seen) list) + 1) place (add_tree t.rank t.item.0 (forest (recs v.seen) t.kids.0) (forest (recs v.seen) list))
insert_after {v} {new} {last} {run} {run'} {run2} {t} {linked} {list} {place} {f} law k i same l d =
    let m = meets_first law t list f k.list_is.trees k.rise i same in
    let more = forest_up law l.puts.filled.grows f.rest.0 m.first.rest_only in
    let rank = l.rank in
    let item = l.item in
    let kids = l.kids in
    let met : trees_met linked.rank (forest (recs new.seen) f.rest.0) ≡ trees_met (suc t.rank) (forest (recs v.seen) f.rest.0) = rw (rank, more) refl in
    let added : add_tree linked.rank linked.item.0 (forest (recs new.seen) linked.kids.0) (forest (recs new.seen) f.rest.0) ≡ add_tree t.rank t.item.0 (forest (recs v.seen) t.kids.0) (forest (recs v.seen) list) = rw (rank, item, kids, more) (sym m.added) in
    let puts = puts_trans l.puts d.puts in
    let count : 2 + (2 * trees_met linked.rank (forest (recs new.seen) f.rest.0) + 1) ≡ 2 * trees_met t.rank (forest (recs v.seen) list) + 1 = omega (arith, m.met, met) in
    record { puts = rw count at puts; list = d.list; forest_is = d.forest_is ∙ added }

-- ---- a tree that goes on through a list

-- the list that the insert of a tree lays
abbrev pub Inserted : View → Span → BinomialTree → ℕ → View → Span → ℕ → Type 0
Inserted v run t list last after place = Laid v last run after (2 * trees_met t.rank (forest (recs v.seen) list) + 1) place (add_tree t.rank t.item.0 (forest (recs v.seen) t.kids.0) (forest (recs v.seen) list))

-- the tree that was linked so far goes on into what is left of the list, and what that lays is laid by the first tree and the
-- whole list
pub record IsInserting (v now : View) (run then : Span) (t sum : BinomialTree) (list rest : ℕ) : Type 0 where
  pub asks : MayInsert now then sum rest
  pub lays : (last : View) (after : Span) (place : ℕ) → Inserted now then sum rest last after place → Inserted v run t list last after place

pub inserting_first : {v : View} {run : Span} {t : BinomialTree} {list : ℕ} → MayInsert v run t list → IsInserting v v run run t t list list
inserting_first k = record { asks = k; lays = λ last after place d. d }

-- one link more
pub inserting_next : {v now seen new : View} {run then then' : Span} {t sum linked : BinomialTree} {list rest : ℕ} {f : FirstTree} → IsInserting v now run then t sum list rest → IsLawful now.seen → Quiet now seen → IsLawful seen.seen → IsFirst now.seen rest f → f.tree.rank ≡ sum.rank → Linked seen new then then' sum f.tree linked → IsInserting v new run then' t linked list f.rest.0
inserting_next {v} {now} {seen} {new} {run} {then} {then'} {t} {sum} {linked} {list} {rest} {f} k law q law' i same l =
    let asks = ask_quiet law q k.asks in
    let first = first_up q.grows i in
    record {
      asks = insert_rest law' asks first same l;
      lays = λ last after place d. k.lays last after place (insert_same law q k.asks (insert_after law' asks first same l d));
    }

-- the end
pub inserting_end : {v now seen new : View} {run then after : Span} {t sum : BinomialTree} {list rest place : ℕ} → IsInserting v now run then t sum list rest → IsLawful now.seen → Quiet now seen → IsLawful seen.seen → trees_met sum.rank (forest (recs now.seen) rest) ≡ 0
    → Laid seen new then after 1 place (in_front (forest (recs seen.seen) sum.place.0) (forest (recs seen.seen) rest)) → Inserted v run t list new after place
inserting_end {new = new} {after = after} {place = place} k law q law' none d = k.lays new after place (insert_end law q law' k.asks none d)
