-- What is in a hand of a lawful world.
use Rattle.std.proofs.Common.{◌≡◌, ℕ, List, [], ◌∷◌, refl, sym, ap, ◌∙◌, true, eqb, Option, Some, None, ⊎_elim}
use Rattle.std.specs.Prelude.{option_map}
use Rattle.std.specs.List.{list_all}
use Rattle.std.proofs.lemmas.Bool.{true≢false, and_parts, or_cases, eqb-true}
use Rattle.lazy_rec.specs.Tests.{is_some_and}
use Rattle.lazy_rec.specs.States.{is_claimed}
use Rattle.heap_store.specs.declared.nodes.Node.{Node}
use Rattle.heap_store.specs.declared.claims.HeldClaim.{HeldClaim}
use Rattle.heap_store.specs.World.{World, recs, node_at, is_claimed_at}
use Rattle.heap_store.specs.Hand.{Hand, IsLawfulHand, contains, claim_places, holds_claim, is_claim_well}
use Rattle.heap_store.proofs.NameLaws.{IsPublished}

claim_in : (w : World) (cs : List HeldClaim) (p : ℕ) → list_all (is_claim_well w) cs ≡ true → contains (claim_places cs) p ≡ true → is_claimed_at w p ≡ true
claim_in w [] p all h = absurd (true≢false (sym h))
claim_in w (c ∷ cs) p all h = let k = and_parts (is_claim_well w c) _ all in ⊎_elim
    (λ eq. ap (is_claimed_at w) (sym (eqb-true c.place.0 p eq)) ∙ (and_parts (is_claimed_at w c.place.0) _ k.0).0)
    (λ more. claim_in w cs p k.1 more) (or_cases (eqb c.place.0 p) _ h)

claimed_node : (o : Option Node) → is_some_and (λ (n : Node). is_claimed n.state) o ≡ true → (n : Node) × (o ≡ Some n) × (is_claimed n.state ≡ true)
claimed_node None e = absurd (true≢false (sym e))
claimed_node (Some n) e = (n, refl, e)

module _ (w : World) (h : Hand) (lawful : IsLawfulHand w h) (p : ℕ) (held : holds_claim h p ≡ true) where
  -- a claim in hand is of a claimed place
  pub claim_there : is_claimed_at w p ≡ true
  claim_there = claim_in w h.claims p lawful.claims held

  pub claim_node : (n : Node) × (node_at w p ≡ Some n) × (is_claimed n.state ≡ true)
  claim_node = claimed_node (node_at w p) (claim_in w h.claims p lawful.claims held)

  pub claim_published : IsPublished (recs w) p
  claim_published = let t = claim_node in (t.0.rec, ap (option_map (λ (n : Node). n.rec)) t.1)
