-- In a world that is funded and in budget the steps of the work that was begun are at most the dues, and the places at most
-- the events' own and eight for each step.
use Rattle.std.proofs.Common.{◌≡◌, ℕ, zero, suc, ◌<◌, ◌≤◌, ◌+◌, ◌*◌, refl, sym, ap, ◌∙◌, arith, eqb, ⊎_elim, Bool, true, false, cond, ◌&&◌, ◌||◌, Option, Some, None, List, [], ◌∷◌, ◌++◌, length, length-append}
use Rattle.std.specs.Prelude.{sum_by, option_map, option_and_then}
use Rattle.std.specs.List.{AllByRecursion, IsDistinct, list_all, list_any}
use Rattle.std.specs.Set.{is_member}
use Rattle.std.proofs.lemmas.List.Folds.{list_any-append}
use Rattle.std.proofs.lemmas.Bool.{true≢false, and_parts, or_cases, or_left, eqb-true}
use Rattle.lazy_rec.specs.declared.records.Rec.{Rec}
use Rattle.lazy_rec.specs.Tests.{implies, is_some_and}
use Rattle.lazy_rec.specs.Named.{at_record, is_pending}
use Rattle.lazy_rec.specs.States.{kept}
use Rattle.lazy_rec.specs.Units.{WorkUnit, same_unit, family_of, first_unit, units, steps, credits, cost}
use Rattle.heap_store.specs.declared.nodes.Node.{Node}
use Rattle.heap_store.specs.declared.claims.HeldClaim.{HeldClaim}
use Rattle.heap_store.specs.World.{World, recs, node_at, done_at, is_done, is_claimed_at, is_taken}
use Rattle.heap_store.specs.Lawful.{IsLawful}
use Rattle.heap_store.specs.Hand.{Hand, is_claim_well, IsLawfulHand}
use Rattle.heap_store.specs.Budget.{all_discharged, unit_count, is_funded, IsFunded, Running, is_being_built, sum_below, sum_records, dues, direct_places, credits_brought, places_given, taken_steps, IsInBudget, done_of, total_steps}
use Rattle.heap_store.proofs.Alls.{All-append}
use Rattle.heap_store.proofs.CountLaws.{absent_all, distinct-append, length_fits}
use Rattle.heap_store.proofs.GainLaws.{same_unit_laws}
use Rattle.lazy_rec.proofs.HistoryLaws.{all_true}
use Rattle.heap_store.proofs.FamilyUnits.{length-units, distinct-units, one_place, no_cost}
use Rattle.heap_store.proofs.SumLaws.{term, term-le, sum-le, nodes_le}

abbrev if_taken : {X : Type 0} → Bool → List X → List X
if_taken b us = cond b us []

-- the units of all suspensions of the places below a number that are claimed or done
taken_units : World → ℕ → List WorkUnit
taken_units w zero = []
taken_units w (suc n) = at_record [] (λ r. if_taken (is_taken w n) (units n r)) (recs w n) ++ taken_units w n

abbrev if_counted : Bool → ℕ → ℕ
if_counted b k = cond b k 0

abbrev taken_credits : World → ℕ → Rec → ℕ
taken_credits w p r = if_counted (is_taken w p) (credits r)

taken-length : (w : World) (n : ℕ) → length (taken_units w n) ≡ sum_below n (recs w) (λ p r. if_counted (is_taken w p) (steps r)) + sum_below n (recs w) (taken_credits w)
unfolding taken_units
taken-length w zero = refl
taken-length w (suc n) = omega (arith, length-append (at_record [] (λ r. if_taken (is_taken w n) (units n r)) (recs w n)) (taken_units w n), by (recs w n) (is_taken w n), taken-length w n)
  where
    by : (o : Option Rec) (b : Bool) → length (at_record [] (λ r. if_taken b (units n r)) o) ≡ at_record 0 (λ r. if_counted b (steps r)) o + at_record 0 (λ r. if_counted b (credits r)) o
    by None b = refl
    by (Some r) true = length-units (family_of n r).0 (first_unit r (family_of n r).1) (cost r)
    by (Some r) false = refl

module _ (w : World) (law : IsLawful w) where
  -- what a unit of the list is
  pub record Taken (n : ℕ) (u : WorkUnit) : Type 0 where
    pub place : ℕ
    pub low : place < n
    pub rec : Rec
    pub here : recs w place ≡ Some rec
    pub unit : is_member same_unit (units place rec) u ≡ true

  at_place : (n : ℕ) (u : WorkUnit) → is_member same_unit (at_record [] (λ r. if_taken (is_taken w n) (units n r)) (recs w n)) u ≡ true → (r : Rec) × (recs w n ≡ Some r) × (is_member same_unit (units n r) u ≡ true)
  at_place n u m = by (recs w n) refl (is_taken w n) m
    where
      by : (o : Option Rec) → recs w n ≡ o → (b : Bool) → is_member same_unit (at_record [] (λ r. if_taken b (units n r)) o) u ≡ true → (r : Rec) × (recs w n ≡ Some r) × (is_member same_unit (units n r) u ≡ true)
      by None e b k = absurd (true≢false (sym k))
      by (Some r) e true k = (r, e, k)
      by (Some r) e false k = absurd (true≢false (sym k))

  find : (n : ℕ) (u : WorkUnit) → is_member same_unit (taken_units w n) u ≡ true → Taken n u
  unfolding taken_units
  find zero u m = absurd (true≢false (sym m))
  find (suc n) u m = ⊎_elim
      (λ k. let t = at_place n u k in record { place = n; low = omega arith; rec = t.0; here = t.1; unit = t.2 })
      (λ k. let t = find n u k in record { place = t.place; low = omega (arith, t.low); rec = t.rec; here = t.here; unit = t.unit })
      (or_cases _ (is_member same_unit (taken_units w n) u) (sym (list_any-append (same_unit u) _ (taken_units w n)) ∙ m))

  is-false : (b : Bool) → (b ≡ true → ⊥) → b ≡ false
  is-false true h = absurd (h refl)
  is-false false h = refl

  taken-distinct : (n : ℕ) → IsDistinct same_unit (taken_units w n)
  unfolding IsDistinct taken_units
  taken-distinct zero = tt
  taken-distinct (suc n) = distinct-append same_unit_laws (at_record [] (λ r. if_taken (is_taken w n) (units n r)) (recs w n)) (taken_units w n) (by (recs w n) (is_taken w n)) (taken-distinct n)
      (absent_all same_unit_laws (at_record [] (λ r. if_taken (is_taken w n) (units n r)) (recs w n)) (taken_units w n)
      (λ u m. is-false _ (λ k. let a = at_place n u m in let t = find n u k in absurd (omega (arith, t.low, one_place w law n t.place a.0 t.rec u a.1 t.here a.2 t.unit)))))
    where
      by : (o : Option Rec) (b : Bool) → IsDistinct same_unit (at_record [] (λ r. if_taken b (units n r)) o)
      by None b = tt
      by (Some r) true = distinct-units (family_of n r).0 (first_unit r (family_of n r).1) (cost r)
      by (Some r) false = tt

  -- the units of the taken are discharged
  module _ (funded : IsFunded w) where
    taken_paid : (n : ℕ) → AllByRecursion (λ u. is_member same_unit (all_discharged w) u ≡ true) (taken_units w n)
    unfolding taken_units
    taken_paid zero = tt
    taken_paid (suc n) = All-append _ (at_record [] (λ r. if_taken (is_taken w n) (units n r)) (recs w n)) (taken_units w n) (by (recs w n) refl (is_taken w n) refl) (taken_paid n)
      where
        by : (o : Option Rec) → recs w n ≡ o → (b : Bool) → is_taken w n ≡ b → AllByRecursion (λ u. is_member same_unit (all_discharged w) u ≡ true) (at_record [] (λ r. if_taken b (units n r)) o)
        by None e b f = tt
        by (Some r) e false f = tt
        by (Some r) e true f = own (is_pending r) refl (funded.taken n r e)
          where
            own : (c : Bool) → is_pending r ≡ c → implies c (implies (is_taken w n) (is_funded w n r)) ≡ true → AllByRecursion (λ u. is_member same_unit (all_discharged w) u ≡ true) (units n r)
            own true g h = let k = rw f at h in all_true _ (units n r) k
            own false g h = rw (no_cost r g) tt

    -- the steps and the credits of what is claimed or done are at most the units discharged
    taken_fits : taken_steps w + sum_records w (taken_credits w) ≤ unit_count (all_discharged w)
    taken_fits = omega (arith, length_fits same_unit_laws (taken_units w (length w.nodes)) (all_discharged w) (taken-distinct (length w.nodes)) (taken_paid (length w.nodes)), taken-length w (length w.nodes))

-- what a hand builds is claimed
pub hand_built : (w : World) (p : ℕ) (cs : List HeldClaim) → list_all (is_claim_well w) cs ≡ true → list_any (λ (c : HeldClaim). eqb c.place.0 p && c.built) cs ≡ true → is_claimed_at w p ≡ true
hand_built w p [] well h = absurd (true≢false (sym h))
hand_built w p (c ∷ cs) well h =
    let k = and_parts (is_claim_well w c) _ well in
    ⊎_elim
    (λ e. let same = eqb-true c.place.0 p (and_parts (eqb c.place.0 p) c.built e).0 in rw (← same) (and_parts (is_claimed_at w c.place.0) _ k.0).0)
    (λ e. hand_built w p cs k.1 e)
    (or_cases (eqb c.place.0 p && c.built) _ h)

pub built_claimed : (w : World) (p : ℕ) (hands : List Hand) → AllByRecursion (IsLawfulHand w) hands → list_any (λ (h : Hand). list_any (λ (c : HeldClaim). eqb c.place.0 p && c.built) h.claims) hands ≡ true → is_claimed_at w p ≡ true
built_claimed w p [] well h = absurd (true≢false (sym h))
built_claimed w p (hand ∷ hands) well h = ⊎_elim
    (λ e. hand_built w p hand.claims well.0.claims e)
    (λ e. built_claimed w p hands well.1 e)
    (or_cases (list_any (λ (c : HeldClaim). eqb c.place.0 p && c.built) hand.claims) _ h)

module _ (g : Running) (law : IsLawful g.world) (funded : IsFunded g.world) (budget : IsInBudget g) (hands : AllByRecursion (IsLawfulHand g.world) g.hands) where
  brought_le : credits_brought g ≤ sum_records g.world (taken_credits g.world)
  brought_le = sum-le (recs g.world) (recs g.world) (λ p r. cond (is_done g.world p || is_being_built g p) (credits r) 0) (taken_credits g.world) (length g.world.nodes)
      (λ q l. term-le (recs g.world) (λ p r. cond (is_done g.world p || is_being_built g p) (credits r) 0) (taken_credits g.world) q (λ r e. by (is_done g.world q) (is_being_built g q) (is_claimed_at g.world q) (built_claimed g.world q g.hands hands) (credits r)))
    where
      by : (a b c : Bool) → (b ≡ true → c ≡ true) → (k : ℕ) → cond (a || b) k 0 ≤ cond (a || c) k 0
      by true b c h k = omega arith
      by false true c h k = rw (h refl) (omega arith)
      by false false c h k = omega arith

  -- what was claimed or done took no more steps than the events were charged
  pub steps_bound : taken_steps g.world ≤ dues g.world
  steps_bound = omega (arith, taken_fits g.world law funded, brought_le, budget.paid)

  -- so the places that were given, and those that may be, are bounded by the events alone
  pub places_bound : places_given g + sum_by (λ (h : Hand). h.allowance) g.hands ≤ direct_places g.world + 8 * dues g.world
  places_bound = omega (arith, budget.places, steps_bound)

-- ---- totals

module _ (w : World) (law : IsLawful w) where
  -- the steps that Done states keep are those of their suspensions
  pub total_le : total_steps w ≤ taken_steps w
  total_le = nodes_le w (λ n. sum_by (λ (d : ℕ × ℕ). d.1) (done_of n)) (λ p r. cond (is_taken w p) (steps r) 0) each
    where
      each : (q : ℕ) → sum_by (λ (d : ℕ × ℕ). d.1) (done_of (node_at w q)) ≤ term (recs w) (λ p r. cond (is_taken w p) (steps r) 0) q
      each q = by (node_at w q) refl
        where
          by : (o : Option Node) → node_at w q ≡ o → sum_by (λ (d : ℕ × ℕ). d.1) (done_of o) ≤ at_record 0 (λ r. cond (is_taken w q) (steps r) 0) (option_map (λ (n : Node). n.rec) o)
          by None e = omega arith
          by (Some n) e = own (kept n.state) refl
            where
              own : (k : Option (ℕ × ℕ)) → kept n.state ≡ k → sum_by (λ (d : ℕ × ℕ). d.1) (elim k [ None ↦ [] | Some d ↦ d ∷ [] ]) ≤ cond (is_taken w q) (steps n.rec) 0
              own None f = omega arith
              own (Some d) f =
                  let done : done_at w q ≡ Some d = ap (option_and_then (λ (m : Node). kept m.state)) e ∙ f in
                  let well = law.done q n.rec (ap (option_map (λ (m : Node). m.rec)) e) d done in
                  let taken : is_taken w q ≡ true = or_left _ _ (ap (is_some_and (λ d. true)) done) in
                  rw taken (omega (arith, well.steps))
