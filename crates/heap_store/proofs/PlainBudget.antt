-- The numbers of a hand that the dues and the steps leave it.
use Rattle.std.proofs.Common.{◌≡◌, ℕ, ◌+◌, ◌-◌, ◌*◌, refl, sym, arith, subst, List, []}
use Rattle.heap_store.specs.declared.claims.HeldClaim.{HeldClaim}
use Rattle.heap_store.specs.declared.claims.OpenRow.{OpenRow}
use Rattle.heap_store.specs.World.{World}
use Rattle.heap_store.specs.Hand.{Hand}
use Rattle.heap_store.specs.Budget.{all_discharged, unit_count, dues, direct_places, taken_steps, credits_brought, places_given, alone_with, IsInBudget, IsBalanced}
use Rattle.heap_store.specs.Plain.{held_things, with_budget}

-- a hand with neither credits nor places
abbrev pub IsAffordable : World → Hand → Type 0
IsAffordable w h = IsInBudget (alone_with w (record h { credits = 0; allowance = 0 }))

module _ (w : World) (h : Hand) where
  pub affordable_balanced : IsAffordable w h → IsBalanced (alone_with w (with_budget w h)) 0
  affordable_balanced b = record { paid = omega (arith, b.paid); places = omega (arith, b.places) }

  pub balanced_affordable : IsBalanced (alone_with w h) 0 → IsAffordable w h
  balanced_affordable b = record { paid = omega (arith, b.paid); places = omega (arith, b.places) }

  pub balanced_budget : IsBalanced (alone_with w h) 0 → IsInBudget (alone_with w h)
  balanced_budget b = record { paid = omega (arith, b.paid); places = omega (arith, b.places) }

  -- nothing else balances
  pub balanced_is : IsBalanced (alone_with w h) 0 → with_budget w h ≡ h
  balanced_is b =
      let c : dues w + credits_brought (alone_with w h) - unit_count (all_discharged w) ≡ h.credits = omega (arith, b.paid) in
      let a : direct_places w + 8 * taken_steps w - places_given (alone_with w h) ≡ h.allowance = omega (arith, b.places) in
      rw (c, a) refl

-- the store's own form hangs neither on names nor on the row that is worked on
pub own_affordable : (w : World) (claims : List HeldClaim) (reserved names : List ℕ) (open_rows : List OpenRow) → IsInBudget (alone_with w (held_things claims reserved [] [])) → IsAffordable w (held_things claims reserved names open_rows)
own_affordable w claims reserved names open_rows b = record { paid = b.paid; places = b.places }

-- and of a hand that balances it follows, by its claims and its places
pub affordable_own : (w w' : World) (h : Hand) (reserved : List ℕ) → w' ≡ w → reserved ≡ h.reserved → IsBalanced (alone_with w h) 0 → IsInBudget (alone_with w' (held_things h.claims reserved [] []))
affordable_own w w' h reserved e f b =
    let a = balanced_affordable w h b in
    let own : IsInBudget (alone_with w (held_things h.claims h.reserved [] [])) = record { paid = a.paid; places = a.places } in
    subst (λ z. IsInBudget (alone_with z (held_things h.claims reserved [] []))) (sym e) (subst (λ f. IsInBudget (alone_with w (held_things h.claims f [] []))) (sym f) own)
