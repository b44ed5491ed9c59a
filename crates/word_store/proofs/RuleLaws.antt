-- Proofs of the laws.
use Rattle.std.proofs.Common.{◌≡◌, ℕ, suc, ◌≤◌, List, [], ◌∷◌, refl, sym, ap, ap₂, ◌∙◌, arith, true, Option, Some, None}
use Rattle.std.specs.Prelude.{option_and_then}
use Rattle.std.specs.List.{AllByRecursion}
use Rattle.std.proofs.lemmas.Bool.{true≢false}
use mathlib.Core.Option.{some}
use lib.ListN.{get_elem?}
use Rattle.lazy_rec.specs.declared.states.SuspState.{SuspState}
use Rattle.lazy_rec.specs.declared.states.SuspState.TheVariants.{Unforced, Claimed, Done}
use Rattle.lazy_rec.specs.States.{kept, is_claimed}
use Rattle.lazy_rec.specs.Tests.{is_some_and}
use Rattle.heap_store.specs.declared.nodes.Node.{Node}
use Rattle.heap_store.specs.World.{World, node_at, state_at, is_done, is_claimed_at}
use Rattle.heap_store.specs.Hand.{IsLawfulHand, holds_claim}
use Rattle.heap_store.specs.Shared.{one_if}
use Rattle.heap_store.specs.Budget.{IsInBudget, dues, taken_steps}
use Rattle.heap_store.proofs.BoundLaws.{steps_bound, places_bound}
use Rattle.word_world.specs.Words.{world_of}
use Rattle.word_store.specs.declared.sight.Sight.{Sight}
use Rattle.word_store.specs.declared.sight.Size.{Size}
use Rattle.word_store.specs.Rule.{IsKept, shows, running, hands_of}
use Rattle.word_store.specs.Laws.{DoneStays, ClaimsAreOnce, DoneIsUnclaimed, WorkIsDue, PlacesAreDue, VainIsShort}
use Rattle.word_store.proofs.Sums.{term_le, terms_le, one_true, one_most, false_by, pos_true}
use Rattle.word_store.proofs.Moves.{St}

pub done_stays : DoneStays
done_stays k s o j v at rights p state e is =
    let f = o.seats j v at in let z = f.size rights in
    f.seen.done p state (ap (λ w. state_at w p) (sym (ap₂ (λ a b. world_of a b v.words) z.0 z.1)) ∙ e) is

pub claims_are_once : ClaimsAreOnce
claims_are_once k s o i j u v ne at at' p had = false_by _ (λ also. (
    let t = terms_le (λ (x : Sight). one_if (holds_claim x.hand p)) s.views i j u v (λ z. ne (sym z)) at at' in let most = one_most (is_claimed_at (shows k s.words) p) in
    omega (arith, t, most, o.claims p, one_true _ had, one_true _ also)))

pub done_unclaimed : (w : World) (p : ℕ) → is_done w p ≡ true → is_claimed_at w p ≡ true → ⊥
done_unclaimed w p = by (node_at w p)
  where
    by : (n : Option Node) → is_some_and (λ d. true) (option_and_then (λ (m : Node). kept m.state) n) ≡ true → is_some_and (λ (m : Node). is_claimed m.state) n ≡ true → ⊥
    by None a b = true≢false (sym b)
    by (Some n) a b = state n.state a b
      where
        state : (t : SuspState) → is_some_and (λ d. true) (kept t) ≡ true → is_claimed t ≡ true → ⊥
        state (Unforced g) a b = true≢false (sym b)
        state (Claimed g) a b = true≢false (sym a)
        state (Done q m g) a b = true≢false (sym b)

pub done_is_unclaimed : DoneIsUnclaimed
done_is_unclaimed k s o j v at p done = false_by _ (λ had. done_unclaimed (shows k s.words) p done
    (pos_true _ (let t = term_le (λ (x : Sight). one_if (holds_claim x.hand p)) s.views j v at in omega (arith, t, o.claims p, one_true _ had))))

-- ---- the budget

all_hands : (w : World) (views : List Sight) → ((j : ℕ) (v : Sight) → get_elem? views j ≡ some v → IsLawfulHand w v.hand) → AllByRecursion (IsLawfulHand w) (hands_of views)
all_hands w [] each = tt
all_hands w (v ∷ views) each = (each 0 v refl, all_hands w views (λ j u at. each (suc j) u at))

module _ (k : Size) (s : St) (o : IsKept k s) where
  budget : IsInBudget (running k s.words s.views)
  budget = record { paid = (let b = o.balance.paid in omega (arith, b)); places = (let b = o.balance.places in omega (arith, b)) }

  pub work_due : taken_steps (shows k s.words) ≤ dues (shows k s.words)
  work_due = steps_bound (running k s.words s.views) o.well.world o.well.funded budget (all_hands (shows k s.words) s.views (λ j v at. (o.seats j v at).hand))

pub work_is_due : WorkIsDue
work_is_due k s o = work_due k s o

pub places_are_due : PlacesAreDue
places_are_due k s o = places_bound (running k s.words s.views) o.well.world o.well.funded (budget k s o) (all_hands (shows k s.words) s.views (λ j v at. (o.seats j v at).hand))

pub vain_is_short : VainIsShort
vain_is_short k s o j v at any = o.short (let t = term_le (λ (u : Sight). u.wasted) s.views j v at in omega (arith, any, t))
