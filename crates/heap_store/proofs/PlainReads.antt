-- What an index of a plain heap's places reads.
use Rattle.std.proofs.Common.{◌≡◌, ℕ, ◌<◌, true, List, [], ◌∷◌, Option, Some, None, refl, sym, ap, ◌∙◌, length, Bool, not, ◌&&◌, eqb, ⊎_elim}
use Rattle.std.specs.List.{list_any}
use Rattle.std.proofs.lemmas.Bool.{cases_lt, true≢false, and_parts, or_cases, or_left, or_right}
use Rattle.std.specs.Prelude.{slice_set, slice_index_or, option_map, is_some}
use Rattle.lazy_rec.specs.declared.records.Rec.{Rec}
use Rattle.lazy_rec.specs.declared.states.SuspState.{SuspState}
use Rattle.heap_store.specs.declared.nodes.Node.{Node}
use Rattle.heap_store.specs.World.{World, recs, node_at, state_at, holds}
use Rattle.lazy_rec.specs.declared.states.SuspState.TheVariants.{Unforced, Claimed, Done}
use Rattle.lazy_rec.specs.States.{is_claimed}
use Rattle.heap_store.specs.declared.claims.HeldClaim.{HeldClaim}
use Rattle.heap_store.specs.Hand.{contains, claim_places}
use Rattle.std.proofs.Common.{◌≤◌, ◌-◌, arith, get_or, zero, suc}
use Rattle.std.proofs.lemmas.Option.{slice_get-get_or}
use Rattle.std.proofs.lemmas.List.{get_or_past}
use Rattle.heap_store.specs.Rows.{words_at}
use Rattle.heap_store.specs.Plain.{IsPlain, plain_world, is_claimed_node, filled_up, no_words}
use Rattle.heap_store.proofs.ShowLaws.{one_value}
use Rattle.heap_store.proofs.PlainLists.{filled-within}
use Rattle.heap_store.specs.Slots.{PlacesView, at_place}
use Rattle.heap_store.proofs.PlainWorlds.{node-drawn, node-undrawn, drawn_there, rec_node, published_rec}

claimed_there : (o : Option Node) → is_claimed_node o ≡ true → (n : Node) × (o ≡ Some n) × (is_claimed n.state ≡ true)
claimed_there None e = absurd (true≢false (sym e))
claimed_there (Some n) e = (n, refl, e)

-- places with another state of one
abbrev pub with_state : PlacesView → ℕ → Rec → SuspState → PlacesView
with_state v p r s = record v { shown = slice_set v.shown p (Some (record { rec = r; state = s })) }

module _ (capacity row_capacity : ℕ) (nodes : List (Option Node)) (rows : List (List ℕ)) where
  -- what a place shows, drawn or not
  pub node_shown : (p : ℕ) → node_at (plain_world capacity row_capacity nodes rows) p ≡ at_place nodes p
  node_shown p = ⊎_elim (λ l. node-drawn capacity row_capacity nodes rows p l) (λ l. node-undrawn capacity row_capacity nodes rows p l ∙ sym (get_or_past nodes p None l)) (cases_lt p (length nodes))

  -- a published place is drawn
  pub within_read : (p : ℕ) (test : Rec → Bool) → holds (recs (plain_world capacity row_capacity nodes rows)) p test ≡ true → p < length nodes
  within_read p test h =
      let w = plain_world capacity row_capacity nodes rows in
      let t = published_rec (recs w) p test h in
      let n = rec_node w p t.0 t.1 in
      drawn_there capacity row_capacity nodes rows p n.0 n.1

  -- what a read of a published place shows
  pub there : (p : ℕ) (test : Rec → Bool) → holds (recs (plain_world capacity row_capacity nodes rows)) p test ≡ true → node_at (plain_world capacity row_capacity nodes rows) p ≡ at_place nodes p
  there p test h = node_shown p

  pub shown_read : (p : ℕ) (test : Rec → Bool) → holds (recs (plain_world capacity row_capacity nodes rows)) p test ≡ true → is_some (at_place nodes p) ≡ true
  shown_read p test h =
      let t = published_rec (recs (plain_world capacity row_capacity nodes rows)) p test h in
      let n = rec_node (plain_world capacity row_capacity nodes rows) p t.0 t.1 in
      ap {B = Bool} is_some (sym (there p test h) ∙ n.1)

  pub rec_read : (p : ℕ) (test : Rec → Bool) (r : Rec) → holds (recs (plain_world capacity row_capacity nodes rows)) p test ≡ true → option_map (λ (n : Node). n.rec) (at_place nodes p) ≡ Some r → recs (plain_world capacity row_capacity nodes rows) p ≡ Some r
  rec_read p test r h e = ap (option_map (λ (n : Node). n.rec)) (there p test h) ∙ e

  pub state_read : (p : ℕ) (test : Rec → Bool) (s : SuspState) → holds (recs (plain_world capacity row_capacity nodes rows)) p test ≡ true → option_map (λ (n : Node). n.state) (at_place nodes p) ≡ Some s → state_at (plain_world capacity row_capacity nodes rows) p ≡ Some s
  state_read p test s h e = ap (option_map (λ (n : Node). n.state)) (there p test h) ∙ e

-- the node of this state
pub state_node : (o : Option Node) (s : SuspState) → option_map (λ (n : Node). n.state) o ≡ Some s → (r : Rec) × (o ≡ Some (record { rec = r; state = s }))
state_node None s e = cc
state_node (Some n) s e = let same : n.state ≡ s = cc in (n.rec, ap {B = Option Node} (λ t. Some (record n { state = t })) same)

-- the record of a node passes the test
pub passed_at : (w : World) (p : ℕ) (test : Rec → Bool) (n : Node) → node_at w p ≡ Some n → holds (recs w) p test ≡ true → test n.rec ≡ true
passed_at w p test n is h =
    let t = published_rec (recs w) p test h in
    let z : Some t.0 ≡ Some n.rec = sym t.1 ∙ ap (option_map (λ (m : Node). m.rec)) is in
    let same : t.0 ≡ n.rec = cc in
    ap test (sym same) ∙ t.2

-- a claimed place
module _ (capacity row_capacity : ℕ) (nodes : List (Option Node)) (claims : List HeldClaim) (rows : List (List ℕ)) (h : IsPlain capacity row_capacity nodes claims rows) (s : ℕ) (held : contains (claim_places claims) s ≡ true) where
  claimed_node : (n : Node) × (node_at (plain_world capacity row_capacity nodes rows) s ≡ Some n) × (is_claimed n.state ≡ true)
  claimed_node = claimed_there (node_at (plain_world capacity row_capacity nodes rows) s) (sym (h.seen.held s) ∙ held)

  pub within_held : s < length nodes
  within_held = drawn_there capacity row_capacity nodes rows s claimed_node.0 claimed_node.1

  held_there : node_at (plain_world capacity row_capacity nodes rows) s ≡ at_place nodes s
  held_there = node-drawn capacity row_capacity nodes rows s within_held

  pub held_shown : is_some (at_place nodes s) ≡ true
  held_shown = ap {B = Bool} is_some (sym held_there ∙ claimed_node.1)

  pub held_claimed : (t : SuspState) → option_map (λ (n : Node). n.state) (at_place nodes s) ≡ Some t → is_claimed t ≡ true
  held_claimed t e =
      let z : Some claimed_node.0.state ≡ Some t = sym (ap (option_map (λ (n : Node). n.state)) claimed_node.1) ∙ (ap (option_map (λ (n : Node). n.state)) held_there ∙ e) in
      let same : claimed_node.0.state ≡ t = cc in
      ap is_claimed (sym same) ∙ claimed_node.2

  pub held_is : (t : SuspState) → option_map (λ (n : Node). n.state) (at_place nodes s) ≡ Some t → (r : Rec) × (at_place nodes s ≡ Some (record { rec = r; state = t })) × (node_at (plain_world capacity row_capacity nodes rows) s ≡ Some (record { rec = r; state = t }))
  held_is t e = let n = state_node (at_place nodes s) t e in (n.0, n.1, held_there ∙ n.1)

-- an unbuilt claim is a claim
pub unbuilt_held : (cs : List HeldClaim) (s : ℕ) → list_any (λ (c : HeldClaim). eqb c.place.0 s && not c.built) cs ≡ true → contains (claim_places cs) s ≡ true
unbuilt_held [] s h = absurd (true≢false (sym h))
unbuilt_held (c ∷ cs) s h = ⊎_elim
    (λ k. or_left _ _ (and_parts (eqb c.place.0 s) _ k).0)
    (λ k. or_right (eqb c.place.0 s) _ (unbuilt_held cs s k)) (or_cases (eqb c.place.0 s && not c.built) _ h)

-- a claimed state is that variant
pub claimed_is : (s : SuspState) → is_claimed s ≡ true → ((g : ℕ) → s ≡ Claimed g → ⊥) → ⊥
claimed_is (Unforced g) h other = true≢false (sym h)
claimed_is (Claimed g) h other = other g refl
claimed_is (Done place steps g) h other = true≢false (sym h)

-- the words of a drawn name, as a read of the rows gives them
pub words_read : (w : World) (row_capacity : ℕ) (rows : List (List ℕ)) (name : ℕ) (ws : List ℕ) → w.rows ≡ filled_up no_words row_capacity rows → 1 ≤ name → name ≤ length rows → ws ≡ get_or rows (name - 1) ws → ws ≡ words_at w name
words_read w n rows zero ws e low high read = absurd (omega arith)
words_read w n rows (suc k) ws e low high read =
    let l : k < length rows = omega arith in
    let i : suc k - 1 ≡ k = omega arith in
    let both : get_or rows k [] ≡ get_or rows k ws = one_value _ _ (sym (slice_get-get_or rows k [] l) ∙ slice_get-get_or rows k ws l) in
    (rw i at read) ∙ sym both ∙ sym (filled-within no_words [] n rows k l) ∙ ap (λ rs. slice_index_or rs k []) (sym e)
