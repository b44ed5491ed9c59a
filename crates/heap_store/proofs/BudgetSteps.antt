-- What each step on places and claims does to the units, the steps and the places of a world.
use Rattle.std.proofs.Common.{◌≡◌, ℕ, ◌<◌, ◌≤◌, ◌+◌, refl, sym, ap, ◌∙◌, arith, eqb, leb, ltb, Bool, true, false, cond, not, ◌&&◌, ◌||◌, Option, Some, None, List, [], ◌∷◌, length}
use Rattle.std.specs.Prelude.{option_map, option_and_then}
use Rattle.std.specs.List.{AllByRecursion, list_all, list_any}
use Rattle.std.proofs.lemmas.Grind.{common_steps}
use Rattle.std.proofs.lemmas.List.{length-set}
use Rattle.std.proofs.lemmas.Bool.{ltb-true, le-leb, true≢false, and_parts, or_left}
use Rattle.lazy_rec.specs.declared.records.Rec.{Rec}
use Rattle.lazy_rec.specs.declared.states.SuspState.{SuspState}
use Rattle.lazy_rec.specs.declared.states.SuspState.TheVariants.{Unforced, Claimed, Done}
use Rattle.lazy_rec.specs.Tests.{is_some_and}
use Rattle.lazy_rec.specs.Named.{Records, NamedPlace, named, at_record}
use Rattle.lazy_rec.specs.States.{kept, is_claimed}
use Rattle.lazy_rec.specs.Units.{steps}
use Rattle.heap_store.specs.declared.nodes.Node.{Node}
use Rattle.heap_store.specs.declared.claims.HeldClaim.{HeldClaim}
use Rattle.heap_store.specs.World.{World, Keeps, recs, node_at, show, is_done, is_claimed_at, is_taken}
use Rattle.heap_store.specs.Lawful.{IsLawful, is_named_well, names_well}
use Rattle.heap_store.specs.Hand.{contains, all_distinct, without, claim_places, without_claim, is_built}
use Rattle.heap_store.specs.Budget.{all_discharged, discharged, unit_count, gain, sum_below, sum_records, taken_steps}
use Rattle.heap_store.proofs.NameLaws.{IsPublished, Adds}
use Rattle.heap_store.proofs.GrowthLaws.{at_true}
use Rattle.heap_store.proofs.ShowLaws.{node-same, node-other, show_adds, done-same, done-other, put_grows, recs-show-all}
use Rattle.heap_store.proofs.LawfulLaws.{lawful_names}
use Rattle.heap_store.proofs.GainLaws.{NamesThere, gain_adds}
use Rattle.heap_store.proofs.PlainLists.{without-absent}
use Rattle.heap_store.proofs.SumLaws.{term, sum-changed}

abbrev pub taken_term : World → ℕ → Rec → ℕ
taken_term w p r = cond (is_taken w p) (steps r) 0

abbrev pub given_term : ℕ → Rec → ℕ
given_term p r = cond (leb 5 p) 1 0

-- how many places beside the fixed ones are published
unfoldable pub published : World → ℕ
published w = sum_records w given_term

-- ---- claims

pub claimed_node : (w : World) (s : ℕ) → is_claimed_at w s ≡ true → (n : Node) × (node_at w s ≡ Some n) × (is_claimed n.state ≡ true)
claimed_node w s h = by (node_at w s) refl h
  where
    by : (o : Option Node) → node_at w s ≡ o → is_some_and (λ (n : Node). is_claimed n.state) o ≡ true → (n : Node) × (node_at w s ≡ Some n) × (is_claimed n.state ≡ true)
    by None e k = absurd (true≢false (sym k))
    by (Some n) e k = (n, e, k)

pub claimed_open : (s : SuspState) → is_claimed s ≡ true → kept s ≡ None
claimed_open (Unforced g) h = absurd (true≢false (sym h))
claimed_open (Claimed g) h = refl
claimed_open (Done place steps g) h = absurd (true≢false (sym h))

-- a claim that isn't in hand is built by nobody
pub unheld_unbuilt : (s : ℕ) (cs : List HeldClaim) → contains (claim_places cs) s ≡ false → is_built cs s ≡ false
unheld_unbuilt s [] h = refl
unheld_unbuilt s (c ∷ cs) h = let ih = unheld_unbuilt s cs in grind (arith, common_steps, ih, h)

-- one that is in hand once is built or not
pub unbuilt_or : (s : ℕ) (cs : List HeldClaim) → contains (claim_places cs) s ≡ true → all_distinct (claim_places cs) ≡ true → list_any (λ (c : HeldClaim). eqb c.place.0 s && not c.built) cs ≡ not (is_built cs s)
unbuilt_or s [] h d = absurd (true≢false (sym h))
unbuilt_or s (c ∷ cs) h d =
    let ih = unbuilt_or s cs in
    let k = unheld_unbuilt s cs in
    let l = unheld_not s cs in
    grind (arith, common_steps, ih, h, d, k, l)
  where
    unheld_not : (s : ℕ) (cs : List HeldClaim) → contains (claim_places cs) s ≡ false → list_any (λ (c : HeldClaim). eqb c.place.0 s && not c.built) cs ≡ false
    unheld_not s [] h = refl
    unheld_not s (c ∷ cs) h = let ih = unheld_not s cs in grind (arith, common_steps, ih, h)

-- an unbuilt claim is in hand
pub unbuilt_held : (s : ℕ) (cs : List HeldClaim) → list_any (λ (c : HeldClaim). eqb c.place.0 s && not c.built) cs ≡ true → contains (claim_places cs) s ≡ true
unbuilt_held s [] h = absurd (true≢false (sym h))
unbuilt_held s (c ∷ cs) h = let ih = unbuilt_held s cs in grind (arith, common_steps, ih, h)

pub built-without_other : (s q : ℕ) (cs : List HeldClaim) → (q ≡ s → ⊥) → is_built (without_claim s cs) q ≡ is_built cs q
built-without_other s q [] ne = refl
built-without_other s q (c ∷ cs) ne = let ih = built-without_other s q cs ne in grind (arith, common_steps, ih, ne)

pub built-without_same : (s : ℕ) (cs : List HeldClaim) → is_built (without_claim s cs) s ≡ false
built-without_same s [] = refl
built-without_same s (c ∷ cs) = let ih = built-without_same s cs in grind (arith, common_steps, ih)

pub length-without : (p : ℕ) (xs : List ℕ) → contains xs p ≡ true → all_distinct xs ≡ true → length (without p (p + 1) xs) + 1 ≡ length xs
length-without p [] h d = absurd (true≢false (sym h))
length-without p (x ∷ xs) h d =
    let ih = length-without p xs in
    let k = without-absent p xs in
    grind (arith, common_steps, ih, h, d, k)

pub same_term : (x y : Bool) (o o' : Option Rec) (f : Rec → ℕ) → x ≡ y → o ≡ o' → ◌≡◌ {A = ℕ} (at_record 0 (λ r. cond x (f r) 0) o) (at_record 0 (λ r. cond y (f r) 0) o')
same_term x y o o' f e e' = rw (e, e') refl

pub not_true : (b : Bool) → (b ≡ true → ⊥) → b ≡ false
not_true true h = absurd (h refl)
not_true false h = refl

pub cond_no : (b : Bool) (k : ℕ) → b ≡ false → ◌≡◌ {A = ℕ} (cond b k 0) 0
cond_no b k e = rw e refl

pub cond_yes : (b : Bool) (k : ℕ) → b ≡ true → ◌≡◌ {A = ℕ} (cond b k 0) k
cond_yes b k e = rw e refl

pub not_false : (b : Bool) → not b ≡ true → b ≡ false
not_false true h = absurd (true≢false (sym h))
not_false false h = refl

-- ---- a record is put

module _ (w : World) (p : ℕ) (r : Rec) (inside : p < length w.nodes) (none : node_at w p ≡ None) (law : IsLawful w) where
  abbrev b : World
  b = show w p r (Unforced 0)

  adds : Adds (recs w) (recs b) p r
  adds = show_adds w p r (Unforced 0) inside none

  same_length : length b.nodes ≡ length w.nodes
  same_length = length-set w.nodes p (Some (record { rec = r; state = Unforced 0 }))

  keeps : Keeps (recs w) (recs b)
  keeps = (put_grows w p r (Unforced 0) inside none).records

  pub done_put : (q : ℕ) → (q ≡ p → ⊥) → is_done w q ≡ is_done b q
  done_put q ne = ap (is_some_and (λ d. true)) (sym (done-other w p r (Unforced 0) inside q ne))

  pub taken_put : (q : ℕ) → (q ≡ p → ⊥) → is_taken w q ≡ is_taken b q
  taken_put q ne = rw (done_put q ne, node-other w p r (Unforced 0) inside q ne) refl

  pub new_done : is_done b p ≡ false
  new_done = ap (is_some_and (λ d. true)) (done-same w p r (Unforced 0) inside)

  pub new_taken : is_taken b p ≡ false
  new_taken = rw (new_done, node-same w p r (Unforced 0) inside) refl

  -- what the record names stood before it
  pub put_names : names_well b p r ≡ true → NamesThere (recs w) r
  put_names h = by (named r) h
    where
      by : (qs : List NamedPlace) → list_all (is_named_well (recs b) p) qs ≡ true → AllByRecursion (λ (q : NamedPlace). IsPublished (recs w) q.0) qs
      by [] h = tt
      by (q ∷ qs) h =
          let k = and_parts (is_named_well (recs b) p q) _ h in
          let l = and_parts (ltb q.0 p) _ k.0 in
          let t = at_true _ (recs b q.0) l.1 in
          ((t.0, sym (adds.others q.0 (λ e. absurd (omega (arith, e, ltb-true q.0 p l.0)))) ∙ t.1), by qs k.1)

  pub put_units : NamesThere (recs w) r → unit_count (all_discharged b) ≡ unit_count (all_discharged w) + gain (length w.nodes) (recs w) p r
  put_units well = ap (λ n. unit_count (discharged (recs b) n)) same_length ∙ gain_adds (recs w) (recs b) (lawful_names law) keeps p r adds well (length w.nodes) inside

  pub sum_put : (f g : ℕ → Rec → ℕ) → ((q : ℕ) → (q ≡ p → ⊥) → term (recs w) f q ≡ term (recs b) g q) → sum_records b g ≡ sum_records w f + g p r
  sum_put f g h = omega (
    arith,
    sum-changed (recs w) (recs b) f g p (length w.nodes) inside h,
    ap (λ n. sum_below n (recs b) g) same_length,
    ap (at_record 0 (f p)) adds.fresh,
    ap (at_record 0 (g p)) adds.there,
  )

  pub put_published : 5 ≤ p → published b ≡ published w + 1
  unfolding published
  put_published high = sum_put given_term given_term (λ q ne. ap (at_record 0 (given_term q)) (sym (adds.others q ne))) ∙ ap (λ z. sum_records w given_term + z) (cond_yes (leb 5 p) 1 (le-leb 5 p high))

  pub put_steps : taken_steps b ≡ taken_steps w
  put_steps = omega (
    arith,
    sum_put (taken_term w) (taken_term b) (λ q ne. same_term (is_taken w q) (is_taken b q) (recs w q) (recs b q) steps (taken_put q ne) (sym (adds.others q ne))),
    cond_no (is_taken b p) (steps r) new_taken,
  )

  pub not_claimed : is_claimed_at w p ≡ true → ⊥
  not_claimed h = true≢false (sym h ∙ ap (is_some_and (λ (n : Node). is_claimed n.state)) none)

-- ---- a suspension shows another state

module _ (w : World) (s : ℕ) (r : Rec) (old new : SuspState) (inside : s < length w.nodes) (here : node_at w s ≡ Some (record { rec = r; state = old })) where
  abbrev c : World
  c = show w s r new

  own : recs w s ≡ Some r
  own = ap (option_map (λ (n : Node). n.rec)) here

  same_records : (f : ℕ → Rec → ℕ) → sum_records c f ≡ sum_below (length w.nodes) (recs w) f
  same_records f = ap (λ n. sum_below n (recs c) f) (length-set w.nodes s (Some (record { rec = r; state = new }))) ∙ ap (λ (rs : Records). sum_below (length w.nodes) rs f) (recs-show-all w s r new inside old here)

  pub state_units : all_discharged c ≡ all_discharged w
  state_units = ap (λ n. discharged (recs c) n) (length-set w.nodes s (Some (record { rec = r; state = new }))) ∙ ap (λ (rs : Records). discharged rs (length w.nodes)) (recs-show-all w s r new inside old here)

  pub state_published : published c ≡ published w
  unfolding published
  state_published = same_records given_term

  pub done_was : is_done w s ≡ is_some_and (λ d. true) (kept old)
  done_was = ap (λ o. is_some_and (λ d. true) (option_and_then (λ (m : Node). kept m.state) o)) here

  pub done_now : is_done c s ≡ is_some_and (λ d. true) (kept new)
  done_now = ap (is_some_and (λ d. true)) (done-same w s r new inside)

  taken_was : is_taken w s ≡ (is_some_and (λ d. true) (kept old) || is_claimed old)
  taken_was = rw (done_was, here) refl

  taken_now : is_taken c s ≡ (is_some_and (λ d. true) (kept new) || is_claimed new)
  taken_now = rw (done_now, node-same w s r new inside) refl

  pub done_other : (q : ℕ) → (q ≡ s → ⊥) → is_done w q ≡ is_done c q
  done_other q ne = ap (is_some_and (λ d. true)) (sym (done-other w s r new inside q ne))

  pub taken_other : (q : ℕ) → (q ≡ s → ⊥) → is_taken w q ≡ is_taken c q
  taken_other q ne = rw (done_other q ne, node-other w s r new inside q ne) refl

  -- a sum of which the term at the suspension changes
  pub sum_state : (f g : ℕ → Rec → ℕ) → ((q : ℕ) → (q ≡ s → ⊥) → term (recs w) f q ≡ term (recs w) g q) → sum_records c g + f s r ≡ sum_records w f + g s r
  sum_state f g h = omega (arith, same_records g, sum-changed (recs w) (recs w) f g s (length w.nodes) inside h, ap (at_record 0 (f s)) own, ap (at_record 0 (g s)) own)

  state_steps : taken_steps c + cond (is_taken w s) (steps r) 0 ≡ taken_steps w + cond (is_taken c s) (steps r) 0
  state_steps = sum_state (taken_term w) (taken_term c) (λ q ne. same_term (is_taken w q) (is_taken c q) (recs w q) (recs w q) steps (taken_other q ne) refl)

  -- a claim is won
  pub won_steps : (g g' : ℕ) → old ≡ Unforced g → new ≡ Claimed g' → taken_steps c ≡ taken_steps w + steps r
  won_steps g g' was now = omega (arith, state_steps, cond_no (is_taken w s) (steps r) (taken_was ∙ ap (λ z. is_some_and (λ d. true) (kept z) || is_claimed z) was), cond_yes (is_taken c s) (steps r) (taken_now ∙ ap (λ z. is_some_and (λ d. true) (kept z) || is_claimed z) now))

  -- a claim leaves the hand
  module _ (g : ℕ) (was : old ≡ Claimed g) where
    pub completed_steps : is_done c s ≡ true → taken_steps c ≡ taken_steps w
    completed_steps done = omega (arith, state_steps, cond_yes (is_taken w s) (steps r) (taken_was ∙ ap (λ z. is_some_and (λ d. true) (kept z) || is_claimed z) was), cond_yes (is_taken c s) (steps r) (or_left _ _ done))

    pub given_up_steps : (g' : ℕ) → new ≡ Unforced g' → taken_steps c + steps r ≡ taken_steps w
    given_up_steps g' now = omega (arith, state_steps, cond_yes (is_taken w s) (steps r) (taken_was ∙ ap (λ z. is_some_and (λ d. true) (kept z) || is_claimed z) was), cond_no (is_taken c s) (steps r) (taken_now ∙ ap (λ z. is_some_and (λ d. true) (kept z) || is_claimed z) now))
