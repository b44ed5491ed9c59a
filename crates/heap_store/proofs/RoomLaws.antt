-- How many places a store needs: the published ones, and what a hand may still reserve, are bounded by the events alone.
use Rattle.std.proofs.Common.{◌≡◌, ℕ, zero, suc, ◌<◌, ◌&&◌, ◌≤◌, List, ◌+◌, ◌*◌, refl, sym, ap, ◌∙◌, arith, subst, leb, ⊎_elim, Bool, true, false, cond, Option, Some, None, [], ◌∷◌, length}
use Rattle.std.specs.Prelude.{sum_by, option_map, option_and_then}
use Rattle.std.proofs.lemmas.Bool.{cases_lt, true≢false, and_parts, le-leb}
use Rattle.lazy_rec.specs.declared.records.Rec.{Rec}
use Rattle.lazy_rec.specs.Tests.{is_some_and}
use Rattle.lazy_rec.specs.Named.{Records, at_record}
use Rattle.lazy_rec.specs.States.{kept}
use Rattle.lazy_rec.specs.Units.{steps}
use Rattle.heap_store.specs.declared.nodes.Node.{Node}
use Rattle.heap_store.specs.World.{World, recs, node_at, done_at, is_done, is_claimed_at, is_taken, holds}
use Rattle.heap_store.specs.Completion.{is_nil, is_list_nil, is_empty_tree}
use Rattle.heap_store.specs.Lawful.{IsLawful, is_tree_nil, is_cat_nil}
use Rattle.heap_store.specs.Hand.{contains, claim_places}
use Rattle.heap_store.specs.View.{View, IsLawfulView, is_there, published_count}
use Rattle.heap_store.specs.Budget.{sum_below, sum_records, dues, direct_places, room_of, taken_steps, places_given, done_of, node_count_of, total_steps, total_nodes, IsInBudget, alone_with}
use Rattle.heap_store.proofs.GrowthLaws.{at_true}
use Rattle.heap_store.proofs.LawfulLaws.{within}
use Rattle.heap_store.proofs.SumLaws.{term, sum-same, sum-both, nodes_le, nodes_ge}
use Rattle.heap_store.proofs.BudgetSteps.{given_term, published}
use Rattle.heap_store.proofs.BoundLaws.{steps_bound, total_le}

-- ---- the published places

abbrev low_term : ℕ → Rec → ℕ
low_term p r = cond (leb 5 p) 0 1

abbrev one_term : ℕ → Rec → ℕ
one_term p r = 1

there_sum : (rs : Records) (p : ℕ) (test : Rec → Bool) → holds rs p test ≡ true → (f : ℕ → Rec → ℕ) → ((r : Rec) → f p r ≡ 1) → term rs f p ≡ 1
there_sum rs p test h f one = let t = at_true test (rs p) h in ap (at_record 0 (f p)) t.1 ∙ one t.0

five_low : (w : World) → IsLawful w → sum_below 5 (recs w) low_term ≡ 5
five_low w law =
    let rs = recs w in
    let f4 = and_parts (holds rs 0 is_nil && holds rs 1 is_list_nil && holds rs 2 is_tree_nil && holds rs 3 is_cat_nil) (holds rs 4 is_empty_tree) law.fixed in
    let f3 = and_parts (holds rs 0 is_nil && holds rs 1 is_list_nil && holds rs 2 is_tree_nil) (holds rs 3 is_cat_nil) f4.0 in
    let f2 = and_parts (holds rs 0 is_nil && holds rs 1 is_list_nil) (holds rs 2 is_tree_nil) f3.0 in
    let f1 = and_parts (holds rs 0 is_nil) (holds rs 1 is_list_nil) f2.0 in
    omega (
      arith,
      there_sum rs 0 is_nil f1.0 low_term (λ r. refl),
      there_sum rs 1 is_list_nil f1.1 low_term (λ r. refl),
      there_sum rs 2 is_tree_nil f2.1 low_term (λ r. refl),
      there_sum rs 3 is_cat_nil f3.1 low_term (λ r. refl),
      there_sum rs 4 is_empty_tree f4.1 low_term (λ r. refl),
    )

low_sum : (w : World) → IsLawful w → (n : ℕ) → 5 ≤ n → sum_below n (recs w) low_term ≡ 5
low_sum w law zero h = absurd (omega arith)
low_sum w law (suc k) h = ⊎_elim
    (λ l. (let e : k ≡ 4 = omega (arith, l) in subst (λ z. sum_below (suc z) (recs w) low_term ≡ 5) (sym e) (five_low w law)))
    (λ high. omega (arith, low_sum w law k high, none (recs w k) high))
    (cases_lt k 5)
  where
    none : (o : Option Rec) → 5 ≤ k → at_record 0 (low_term k) o ≡ 0
    none None l = refl
    none (Some r) l = ap {B = ℕ} (λ b. cond b 0 1) (le-leb 5 k l)

-- the fixed places and the published ones beside them
all_sum : (w : World) → IsLawful w → sum_records w one_term ≡ published w + 5
unfolding published
all_sum w law =
    let t = at_true is_empty_tree (recs w 4) (and_parts _ (holds (recs w) 4 is_empty_tree) law.fixed).1 in
    let inside : 4 < length w.nodes = within w 4 t.0 t.1 in
    omega (
      arith,
      sum-same (recs w) (recs w) one_term (λ p r. given_term p r + low_term p r) (length w.nodes) (λ q l. split q (recs w q)),
      sum-both (recs w) given_term low_term (length w.nodes),
      low_sum w law (length w.nodes) (omega arith),
    )
  where
    split : (q : ℕ) (o : Option Rec) → at_record 0 (one_term q) o ≡ at_record 0 (λ r. given_term q r + low_term q r) o
    split q None = refl
    split q (Some r) = by (leb 5 q)
      where
        by : (b : Bool) → 1 ≡ cond b 1 0 + cond b 0 1
        by true = refl
        by false = refl

pub count_is : (w : World) → IsLawful w → published_count w ≡ published w + 5
count_is w law = omega (
  arith,
  all_sum w law,
  nodes_le w (λ o. cond (is_there o) 1 0) one_term (λ q. up (node_at w q)),
  nodes_ge w (λ o. cond (is_there o) 1 0) one_term (λ q. down (node_at w q)),
)
  where
    up : (o : Option Node) → cond {A = ℕ} (is_there o) 1 0 ≤ at_record 0 (λ r. 1) (option_map (λ (n : Node). n.rec) o)
    up None = omega arith
    up (Some n) = omega arith

    down : (o : Option Node) → at_record 0 (λ r. 1) (option_map (λ (n : Node). n.rec) o) ≤ cond {A = ℕ} (is_there o) 1 0
    down None = omega arith
    down (Some n) = omega arith

pub total_is : (w : World) → IsLawful w → total_nodes w ≡ published w
total_is w law = omega (
  arith,
  all_sum w law,
  nodes_le w node_count_of one_term (λ q. up (node_at w q)),
  nodes_ge w node_count_of one_term (λ q. down (node_at w q)),
)
  where
    up : (o : Option Node) → node_count_of o ≤ at_record 0 (λ r. 1) (option_map (λ (n : Node). n.rec) o)
    up None = omega arith
    up (Some n) = omega arith

    down : (o : Option Node) → at_record 0 (λ r. 1) (option_map (λ (n : Node). n.rec) o) ≤ node_count_of o
    down None = omega arith
    down (Some n) = omega arith

-- ---- a store of one hand

module _ (v : View) (law : IsLawfulView v) (alone : v.about.alone ≡ true) where
  in_budget : IsInBudget (alone_with v.seen v.hand)
  in_budget = let b = law.budget alone in record { paid = b.paid; places = b.places }

  pub alone_steps : taken_steps v.seen ≤ dues v.seen
  alone_steps = steps_bound (alone_with v.seen v.hand) law.world law.funded in_budget (law.hand, tt)

  -- what is drawn, and what may still be, is bounded by the events
  given_alone : places_given (alone_with v.seen v.hand) ≡ published v.seen + length v.hand.reserved
  unfolding published
  given_alone = omega arith

  pub alone_room : v.drawn + v.hand.allowance ≤ direct_places v.seen + 8 * dues v.seen
  alone_room = omega (arith, in_budget.places, given_alone, alone_steps, law.drawn alone, count_is v.seen law.world)

  -- the numbers of a refusal
  pub refused_within : (k : ℕ) → k ≤ v.hand.allowance → v.drawn + k ≤ room_of v.seen
  refused_within k fits = omega (arith, alone_room, fits)

  -- so a store with that much room refuses nothing
  pub never_full : (k : ℕ) → k ≤ v.hand.allowance → direct_places v.seen + 8 * dues v.seen ≤ v.about.capacity → v.drawn + k ≤ v.about.capacity
  never_full k fits room = omega (arith, alone_room, fits, room)

  -- with no place in hand all that was drawn is published
  pub all_published : v.hand.reserved ≡ [] → total_nodes v.seen ≡ v.drawn
  all_published none = omega (arith, law.drawn alone, ap length none, count_is v.seen law.world, total_is v.seen law.world)

-- ---- totals

module _ (w : World) (law : IsLawful w) (quiet : (p : ℕ) → is_claimed_at w p ≡ false) where
  -- where nothing is claimed the totals count all work
  pub total_steps_is : total_steps w ≡ taken_steps w
  total_steps_is = omega (arith, total_le w law, nodes_ge w (λ n. sum_by (λ (d : ℕ × ℕ). d.1) (done_of n)) (λ p r. cond (is_taken w p) (steps r) 0) each)
    where
      each : (q : ℕ) → term (recs w) (λ p r. cond (is_taken w p) (steps r) 0) q ≤ sum_by (λ (d : ℕ × ℕ). d.1) (done_of (node_at w q))
      each q = by (node_at w q) refl
        where
          by : (o : Option Node) → node_at w q ≡ o → at_record 0 (λ r. cond (is_taken w q) (steps r) 0) (option_map (λ (n : Node). n.rec) o) ≤ sum_by (λ (d : ℕ × ℕ). d.1) (done_of o)
          by None e = omega arith
          by (Some n) e = own (kept n.state) refl
            where
              own : (k : Option (ℕ × ℕ)) → kept n.state ≡ k → cond (is_taken w q) (steps n.rec) 0 ≤ sum_by (λ (d : ℕ × ℕ). d.1) (elim k [ None ↦ [] | Some d ↦ d ∷ [] ])
              own None f =
                  let undone : is_done w q ≡ false = ap (is_some_and (λ d. true)) (ap (option_and_then (λ (m : Node). kept m.state)) e ∙ f) in
                  rw (undone, quiet q) (omega arith)
              own (Some d) f =
                  let done : done_at w q ≡ Some d = ap (option_and_then (λ (m : Node). kept m.state)) e ∙ f in
                  let well = law.done q n.rec (ap (option_map (λ (m : Node). m.rec)) e) d done in
                  less (is_taken w q) (steps n.rec) d.1 (omega (arith, well.steps))
                where
                  less : (b : Bool) (k m : ℕ) → k ≤ m → cond b k 0 ≤ 0 + m
                  less true k m h = omega (arith, h)
                  less false k m h = omega arith

-- ---- a store of one hand that holds no claim, as when a book is closed

module _ (v : View) (law : IsLawfulView v) (alone : v.about.alone ≡ true) (idle : v.hand.claims ≡ []) where
  pub quiet_all : (p : ℕ) → is_claimed_at v.seen p ≡ false
  quiet_all p = by (is_claimed_at v.seen p) refl
    where
      by : (b : Bool) → is_claimed_at v.seen p ≡ b → is_claimed_at v.seen p ≡ false
      by true e = absurd (true≢false (sym (law.claimed alone p e) ∙ ap (λ cs. contains (claim_places cs) p) idle))
      by false e = e

  -- no more steps were taken than the events were charged
  pub closed_steps : total_steps v.seen ≤ dues v.seen
  closed_steps = omega (arith, total_steps_is v.seen law.world quiet_all, alone_steps v law alone)

  -- and no more places than those of the events and eight for each step
  pub closed_places : total_nodes v.seen ≤ direct_places v.seen + 8 * total_steps v.seen
  closed_places = omega (arith, total_steps_is v.seen law.world quiet_all, total_is v.seen law.world, given_alone v law alone, (in_budget v law alone).places)

-- the room hangs on the rows alone
pub same_room : (a b : World) → b.rows ≡ a.rows → room_of b ≡ room_of a
same_room a b e = ap (λ (rows : List (List ℕ)). room_of (record a { rows = rows })) e
