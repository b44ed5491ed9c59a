-- The credits and the places that a force may count on.
use Rattle.std.proofs.Common.{◌≡◌, ℕ, ◌+◌, ◌≤◌, true, List, [], ◌∷◌, Option, Some, None, refl, sym, ap, ◌∙◌, arith}
use Rattle.std.specs.Prelude.{option_map, option_and_then}
use Rattle.std.specs.List.{list_all}
use Rattle.std.proofs.lemmas.Bool.{true≢false, and_parts}
use Rattle.std.proofs.lemmas.List.Sums.{sum_by-cons}
use Rattle.lazy_rec.specs.declared.records.Rec.{Rec}
use Rattle.lazy_rec.specs.Named.{Records}
use Rattle.lazy_rec.specs.States.{is_claimed, kept}
use Rattle.lazy_rec.specs.declared.states.SuspState.{SuspState}
use Rattle.lazy_rec.specs.declared.states.SuspState.TheVariants.{Unforced, Claimed, Done}
use Rattle.lazy_rec.specs.Tests.{is_some_and}
use Rattle.heap_store.specs.declared.nodes.Node.{Node}
use Rattle.heap_store.specs.World.{World, recs, node_at, state_at, done_at, is_claimed_at}
use Rattle.heap_store.specs.Growth.{Grows}
use Rattle.heap_store.specs.Hand.{fresh_claim, claim_places, places_of_steps, is_claim_well}
use Rattle.heap_store.specs.View.{View, IsLawfulView}
use Rattle.force_engine.specs.declared.stack.Frame.{Frame}
use Rattle.force_engine.specs.Stacked.{claims_of, places_of, places_for, claimed_places, KeepsMeans}

-- the node at a claimed place
record ClaimedNode (w : World) (p : ℕ) : Type 0 where
  node : Node
  here : node_at w p ≡ Some node
  attempts : ℕ
  state : node.state ≡ Claimed attempts

claimed_node : (w : World) (p : ℕ) → is_claimed_at w p ≡ true → ClaimedNode w p
claimed_node w p h = go (node_at w p) refl h
  where
    in_state : (s : SuspState) → is_claimed s ≡ true → (g : ℕ) × (s ≡ Claimed g)
    in_state (Unforced g) k = absurd (true≢false (sym k))
    in_state (Claimed g) k = (g, refl)
    in_state (Done place steps g) k = absurd (true≢false (sym k))

    go : (o : Option Node) → node_at w p ≡ o → is_some_and (λ (n : Node). is_claimed n.state) o ≡ true → ClaimedNode w p
    go None e k = absurd (true≢false (sym k))
    go (Some n) e k = let t = in_state n.state k in record { node = n; here = e; attempts = t.0; state = t.1 }

-- what is claimed is published, and not done
pub claimed_there : (w : World) (p : ℕ) → is_claimed_at w p ≡ true → (r : Rec) × (recs w p ≡ Some r)
claimed_there w p h = let c = claimed_node w p h in (c.node.rec, ap (option_map (λ (n : Node). n.rec)) c.here)

pub claimed_state : (w : World) (p : ℕ) → is_claimed_at w p ≡ true → (g : ℕ) × (state_at w p ≡ Some (Claimed g))
claimed_state w p h = let c = claimed_node w p h in (c.attempts, ap (option_map (λ (n : Node). n.state)) c.here ∙ ap (λ (s : SuspState). Some s) c.state)

pub claimed_not_done : (w : World) (p : ℕ) → is_claimed_at w p ≡ true → done_at w p ≡ None
claimed_not_done w p h = let c = claimed_node w p h in ap (option_and_then (λ (n : Node). kept n.state)) c.here ∙ ap kept c.state

pub steps_grow : {a b : World} → Grows a b → (p : ℕ) (r : Rec) → recs a p ≡ Some r → places_of_steps (recs b) p ≡ places_of_steps (recs a) p
steps_grow {a} {b} g p r e = let e' = g.records p r e in rw (e, e') refl

pub places_cons : (rs : Records) (p : ℕ) (ps : List ℕ) → places_for rs (p ∷ ps) ≡ places_of_steps rs p + places_for rs ps
places_cons rs p ps = sum_by-cons (places_of_steps rs) p ps

pub claim_places-frames : (fs : List Frame) → claim_places (claims_of fs) ≡ places_of fs
claim_places-frames [] = refl
claim_places-frames (f ∷ fs) = ap (λ xs. f.place.0 ∷ xs) (claim_places-frames fs)

-- growth keeps the places of claimed suspensions
pub places_grow : {a b : World} → Grows a b → (fs : List Frame) → list_all (is_claim_well a) (claims_of fs) ≡ true → places_for (recs b) (places_of fs) ≡ places_for (recs a) (places_of fs)
places_grow g [] h = refl
places_grow {a} {b} g (f ∷ fs) h =
    let p = and_parts (is_claim_well a (fresh_claim f.place)) (list_all (is_claim_well a) (claims_of fs)) h in
    let r = claimed_there a f.place.0 (and_parts (is_claimed_at a f.place.0) _ p.0).0 in
    let here : places_of_steps (recs b) f.place.0 ≡ places_of_steps (recs a) f.place.0 = steps_grow g f.place.0 r.0 r.1 in
    let rest : places_for (recs b) (places_of fs) ≡ places_for (recs a) (places_of fs) = places_grow g fs p.1 in
    omega (arith, here, rest, places_cons (recs b) f.place.0 (places_of fs), places_cons (recs a) f.place.0 (places_of fs))

pub claimed_frames : (v : View) (fs : List Frame) → v.hand.claims ≡ claims_of fs → claimed_places v ≡ places_for (recs v.seen) (places_of fs)
claimed_frames v fs e = ap (places_for (recs v.seen)) (ap claim_places e ∙ claim_places-frames fs)

pub well_frames : {v : View} (fs : List Frame) → IsLawfulView v → v.hand.claims ≡ claims_of fs → list_all (is_claim_well v.seen) (claims_of fs) ≡ true
well_frames fs law e = rw e at law.hand.claims

-- the claims of a view, seen in a later one
pub claimed_later : {a : View} (b : View) (fs : List Frame) → IsLawfulView a → a.hand.claims ≡ claims_of fs → Grows a.seen b.seen → places_for (recs b.seen) (places_of fs) ≡ claimed_places a
claimed_later {a} b fs law e g = places_grow g fs (well_frames fs law e) ∙ sym (claimed_frames a fs e)

-- with no claim at the start, no place was lost
pub idle_allowance : {a b : View} → a.hand.claims ≡ [] → KeepsMeans a b → a.hand.allowance ≤ b.hand.allowance
idle_allowance {a} {b} idle k = let none : claimed_places a ≡ 0 = claimed_frames a [] idle in omega (arith, k.allowance, none)

pub means_refl : (v : View) → KeepsMeans v v
means_refl v = record { credits = omega arith; allowance = omega arith }

pub means_trans : {a b c : View} → KeepsMeans a b → KeepsMeans b c → KeepsMeans a c
means_trans p q = record { credits = omega (arith, p.credits, q.credits); allowance = omega (arith, p.allowance, q.allowance) }
