-- Trees of a list that are put again, and children that are turned.
use Rattle.std.proofs.Common.{◌≡◌, ℕ, zero, suc, ◌+◌, ◌-◌, ◌<◌, ◌≤◌, ltb, leb, refl, ap, ◌∙◌, arith, Bool, true, false, cond, Option, Some, None}
use Rattle.std.proofs.lemmas.Bool.{and_parts, leb-true}
use Rattle.lazy_rec.specs.declared.places.Ref.{Ref}
use Rattle.lazy_rec.specs.declared.records.Rec.TheVariants.{TCons}
use Rattle.heap_store.specs.Span.{Span}
use Rattle.heap_store.specs.World.{World, recs}
use Rattle.heap_store.specs.Forest.{Forest, no_trees, a_tree, in_front, forest, ranks_rise}
use Rattle.heap_store.specs.Lawful.{IsLawful}
use Rattle.heap_store.specs.View.{View, Quiet}
use Rattle.heap_store.proofs.ShowLaws.{one_value}
use Rattle.binom_heap.specs.Laying.{MayPutCell, Laid}
use Rattle.binom_heap.specs.Removal.{Least, least_step, least_of, behind, first_onto, turned, tree_count, MayPutAgain, MayTurn}
use Rattle.binom_heap.proofs.Removing.{without_tree}
use Rattle.binom_heap.proofs.RunLaws.{puts_none, puts_trans}
use Rattle.binom_heap.proofs.Linking.{CellIs, forest_up, list_up, cell_is, tree_there_up, tree_kept}
use Rattle.binom_heap.proofs.Inserting.{laid_same, quiet_laid}

-- ---- trees that are put again

-- the trees before one in front of those behind it
onto_behind : (n : ℕ) (f : Forest) → n < tree_count f → first_onto n f (behind (suc n) f) ≡ without_tree n f
onto_behind n no_trees h = absurd (omega (arith, h))
onto_behind zero (a_tree r x k more) h = refl
onto_behind (suc n) (a_tree r x k more) h = ap (a_tree r x k) (onto_behind n more (omega (arith, h)))

pub onto_rest : (before n : ℕ) (f rest : Forest) → before ≡ n → rest ≡ behind (suc n) f → n < tree_count f → first_onto before f rest ≡ without_tree n f
onto_rest before n f rest same rest_is some = rw (same, rest_is) (onto_behind n f some)

-- one tree more in front
onto_step : (n : ℕ) → (n ≡ 0 → ⊥) → (r x : ℕ) (k f onto : Forest) → a_tree r x k (first_onto (n - 1) f onto) ≡ first_onto n (a_tree r x k f) onto
onto_step zero some r x k f onto = absurd (some refl)
onto_step (suc n) some r x k f onto = let less : suc n - 1 ≡ n = omega arith in rw less refl

pub again_quiet : {a b : View} {run : Span} {list count onto : ℕ} → IsLawful a.seen → Quiet a b → MayPutAgain a run list count onto → MayPutAgain b run list count onto
again_quiet {a} {b} {run} {list} {count} {onto} law q k =
    let f = forest_up law q.grows list k.list_is.trees in
    record {
      held = (let z = q.hand in rw z k.held);
      room = k.room;
      list_is = list_up {p = run.next} law q.grows (omega arith) k.list_is;
      some = rw f k.some;
      onto_is = list_up {p = run.next} law q.grows (omega arith) k.onto_is;
    }

pub again_none : {v : View} {run : Span} {list count onto : ℕ} → MayPutAgain v run list count onto → count ≡ 0 → Laid v v run run count onto (first_onto count (forest (recs v.seen) list) (forest (recs v.seen) onto))
again_none {v} {run} k z = rw z (record { puts = puts_none v run k.held; list = k.onto_is; forest_is = refl })

pub again_some : (w : World) (list count : ℕ) → count ≤ tree_count (forest (recs w) list) → (count ≡ 0 → ⊥) → forest (recs w) list ≡ no_trees → ⊥
again_some w list count most some none = let z = rw none at most in some (omega (arith, z))

module _ {v : View} (law : IsLawful v.seen) (run : Span) (list count onto : ℕ) (k : MayPutAgain v run list count onto) (some : count ≡ 0 → ⊥) (tree rest : Ref) (e : recs v.seen list ≡ Some (TCons tree rest)) where
  first : CellIs v.seen list tree rest
  first = cell_is law list tree rest k.list_is.trees e

  pub again_lower : rest.0 < list
  again_lower = first.rest_low

  pub again_rest : MayPutAgain v run rest.0 (count - 1) onto
  again_rest =
      let t = first.trees in
      let n = rw t at k.some in
      record { held = k.held; room = omega (arith, k.room); list_is = record { trees = first.rest_only; low = omega (arith, first.rest_low, k.list_is.low) }; some = omega (arith, n); onto_is = k.onto_is }

  module _ {v1 : View} (run1 : Span) (more : ℕ) (d : Laid v v1 run run1 (count - 1) more (first_onto (count - 1) (forest (recs v.seen) rest.0) (forest (recs v.seen) onto))) where
    pub again_cell : MayPutCell v1 run1 tree.0 more
    again_cell = record {
      held = d.puts.held;
      room = omega (arith, k.room, d.puts.next, d.puts.same_end, some);
      there = tree_there_up d.puts.filled.grows tree.0 first.there;
      low = omega (arith, first.tree_low, k.list_is.low, d.puts.next);
      list_is = d.list;
    }

    pub again_all : {v2 : View} (run2 : Span) (place : ℕ) → Laid v1 v2 run1 run2 1 place (in_front (forest (recs v1.seen) tree.0) (forest (recs v1.seen) more)) → Laid v v2 run run2 count place (first_onto count (forest (recs v.seen) list) (forest (recs v.seen) onto))
    again_all run2 place x =
        let up = tree_kept law d.puts.filled.grows tree.0 first.there in
        let t = first.tree_is in
        let m = d.forest_is in
        let l = first.trees in
        let puts = puts_trans d.puts x.puts in
        let count_is : count - 1 + 1 ≡ count = omega (arith, some) in
        record { puts = rw count_is at puts; list = x.list; forest_is = x.forest_is ∙ rw (up, t, m, l) (onto_step count some first.rank first.item first.kids (forest (recs v.seen) rest.0) (forest (recs v.seen) onto)) }

-- told of the view before a read
pub again_before : {v seen new : View} {run run' : Span} {list count onto place : ℕ} → IsLawful v.seen → Quiet v seen → MayPutAgain v run list count onto → Laid seen new run run' count place (first_onto count (forest (recs seen.seen) list) (forest (recs seen.seen) onto)) → Laid v new run run' count place (first_onto count (forest (recs v.seen) list) (forest (recs v.seen) onto))
again_before {v} {seen} {new} {run} {run'} {list} {count} {onto} law q k d =
    let f = forest_up law q.grows list k.list_is.trees in
    let g = forest_up law q.grows onto k.onto_is.trees in
    quiet_laid q (laid_same refl (rw (f, g) refl) d)

-- ---- turning

pub turn_quiet : {a b : View} {run : Span} {list onto : ℕ} → IsLawful a.seen → Quiet a b → MayTurn a run list onto → MayTurn b run list onto
turn_quiet {a} {b} {run} {list} {onto} law q k =
    let f = forest_up law q.grows list k.list_is.trees in
    record { held = (let z = q.hand in rw z k.held); room = rw f k.room; list_is = list_up {p = run.next} law q.grows (omega arith) k.list_is; onto_is = list_up {p = run.next} law q.grows (omega arith) k.onto_is }

-- the list that turning lays
abbrev pub Turned : View → Span → ℕ → ℕ → View → Span → ℕ → Type 0
Turned v run list onto last after place = Laid v last run after (tree_count (forest (recs v.seen) list)) place (turned (forest (recs v.seen) list) (forest (recs v.seen) onto))

turned_none : {v seen : View} {run : Span} {list onto : ℕ} → IsLawful v.seen → Quiet v seen → MayTurn v run list onto → forest (recs v.seen) list ≡ no_trees → Turned v run list onto seen run onto
turned_none {v} {seen} {run} {list} {onto} law q k none =
    let f = forest_up law q.grows onto k.onto_is.trees in
    rw none (quiet_laid q (record { puts = puts_none seen run (let z = q.hand in rw z k.held); list = list_up {p = run.next} law q.grows (omega arith) k.onto_is; forest_is = f }))

module _ {v : View} (law : IsLawful v.seen) (run : Span) (list onto : ℕ) (k : MayTurn v run list onto) (tree rest : Ref) (e : recs v.seen list ≡ Some (TCons tree rest)) where
  turn_first : CellIs v.seen list tree rest
  turn_first = cell_is law list tree rest k.list_is.trees e

  pub turn_lower : rest.0 < list
  turn_lower = turn_first.rest_low

  pub turn_cell : MayPutCell v run tree.0 onto
  turn_cell =
      let t = turn_first.trees in
      let n = rw t at k.room in
      record { held = k.held; room = omega (arith, n); there = turn_first.there; low = omega (arith, turn_first.tree_low, k.list_is.low); list_is = k.onto_is }

  module _ {v1 : View} (run1 : Span) (cell : ℕ) (d : Laid v v1 run run1 1 cell (in_front (forest (recs v.seen) tree.0) (forest (recs v.seen) onto))) where
    rest_same : forest (recs v1.seen) rest.0 ≡ forest (recs v.seen) rest.0
    rest_same = forest_up law d.puts.filled.grows rest.0 turn_first.rest_only

    turn_rest : MayTurn v1 run1 rest.0 cell
    turn_rest =
        let t = turn_first.trees in
        let n = rw t at k.room in
        let s = rest_same in
        record { held = d.puts.held; room = rw s (omega (arith, n, d.puts.next, d.puts.same_end)); list_is = list_up {a = v.seen} {p = run.next} law d.puts.filled.grows (omega (arith, d.puts.next)) (record { trees = turn_first.rest_only; low = omega (arith, turn_first.rest_low, k.list_is.low) }); onto_is = d.list }

    turned_all : {v2 : View} (run2 : Span) (place : ℕ) → Turned v1 run1 rest.0 cell v2 run2 place → Turned v run list onto v2 run2 place
    turned_all run2 place x =
        let t = turn_first.trees in
        let i = turn_first.tree_is in
        let s = rest_same in
        let c = d.forest_is in
        let puts = puts_trans d.puts x.puts in
        let all : turned (forest (recs v1.seen) rest.0) (forest (recs v1.seen) cell) ≡ turned (forest (recs v.seen) list) (forest (recs v.seen) onto) = rw (s, c, i, t) refl in
        let count : 1 + tree_count (forest (recs v1.seen) rest.0) ≡ tree_count (forest (recs v.seen) list) = rw (s, t) (omega arith) in
        record { puts = rw count at puts; list = x.list; forest_is = x.forest_is ∙ all }

-- told of the view before a read
turn_before : {v seen new : View} {run run' : Span} {list onto place : ℕ} → IsLawful v.seen → Quiet v seen → MayTurn v run list onto → Turned seen run list onto new run' place → Turned v run list onto new run' place
turn_before {v} {seen} {new} {run} {run'} {list} {onto} law q k d =
    let f = forest_up law q.grows list k.list_is.trees in
    let e = forest_up law q.grows onto k.onto_is.trees in
    quiet_laid q (laid_same (rw f refl) (rw (f, e) refl) d)

-- what is left of the list goes in front of what was turned, and what that lays is laid by the whole list
pub record IsTurning (v now : View) (run then : Span) (list onto rest done : ℕ) : Type 0 where
  pub asks : MayTurn now then rest done
  pub lays : (last : View) (after : Span) (place : ℕ) → Turned now then rest done last after place → Turned v run list onto last after place

pub turning_first : {v : View} {run : Span} {list onto : ℕ} → MayTurn v run list onto → IsTurning v v run run list onto list onto
turning_first k = record { asks = k; lays = λ last after place d. d }

-- one tree more
pub turning_next : {v now seen new : View} {run then then' : Span} {list onto left done cell : ℕ} → IsTurning v now run then list onto left done → IsLawful now.seen → (q : Quiet now seen) → IsLawful seen.seen → (tree rest : Ref) → recs now.seen left ≡ Some (TCons tree rest)
    → Laid seen new then then' 1 cell (in_front (forest (recs seen.seen) tree.0) (forest (recs seen.seen) done)) → IsTurning v new run then' list onto rest.0 cell
turning_next {v} {now} {seen} {new} {run} {then} {then'} {list} {onto} {left} {done} {cell} k law q law' tree rest e d =
    let asks = turn_quiet law q k.asks in
    let here = q.grows.records _ _ e in
    record {
      asks = turn_rest law' then left done asks tree rest here then' cell d;
      lays = λ last after place x. k.lays last after place (turn_before law q k.asks (turned_all law' then left done asks tree rest here then' cell d after place x));
    }

-- the end
pub turning_end : {v now seen : View} {run then : Span} {list onto left done : ℕ} → IsTurning v now run then list onto left done → IsLawful now.seen → Quiet now seen → forest (recs now.seen) left ≡ no_trees → Turned v run list onto seen then done
turning_end {seen = seen} {then = then} {done = done} k law q none = k.lays seen then done (turned_none law q k.asks none)

-- ---- the tree with the least root

-- in the trees of higher ranks as many stand before a tree as its rank allows
pub early_next : (low : ℕ) (f : Forest) → ranks_rise low f ≡ true → (l : Least) → least_of f ≡ Some l → low + l.before ≤ l.rank
early_next low no_trees h l e = absurd (let z : None ≡ Some l = e in cc)
early_next low (a_tree r x k more) h l e =
    let p = and_parts (leb low r) (ranks_rise (suc r) more) h in
    go (least_of more) refl (λ m. early_next (suc r) more p.1 m) e
  where
    by : (b : Bool) (m : Least) → suc r + m.before ≤ m.rank → low ≤ r → cond b (Some (record m { before = suc m.before })) (Some (record { before = 0; rank = r; item = x; kids = k })) ≡ Some l → low + l.before ≤ l.rank
    by true m h le e = let z = one_value _ _ e in rw (← z) (omega (arith, h, le))
    by false m h le e = let z = one_value _ _ e in rw (← z) (omega (arith, le))

    go : (o : Option Least) → least_of more ≡ o → ((m : Least) → least_of more ≡ Some m → suc r + m.before ≤ m.rank) → least_step r x k o ≡ Some l → low + l.before ≤ l.rank
    go None f ih e = let z = one_value _ _ e in rw (← z) (omega (arith, leb-true low r (and_parts (leb low r) (ranks_rise (suc r) more) h).0))
    go (Some m) f ih e = by (ltb m.item x) m (ih m f) (leb-true low r (and_parts (leb low r) (ranks_rise (suc r) more) h).0) e
