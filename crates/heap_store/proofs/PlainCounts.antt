-- What the calls on places and claims do to the counts of a plain heap.
use Rattle.std.proofs.Common.{◌≡◌, ℕ, zero, suc, ◌+◌, ◌-◌, ◌*◌, ◌<◌, ◌≤◌, ◌^◌, true, List, [], ◌∷◌, ◌++◌, length, replicate, Option, Some, None, refl, sym, ap, ◌∙◌, arith}
use Rattle.std.specs.Prelude.{sum_by, slice_set, slice_index_or, option_map}
use Rattle.std.proofs.lemmas.Bool.{and_parts, ltb-true}
use Rattle.std.proofs.lemmas.List.Sums.{sum_by-cons}
use Rattle.lazy_rec.specs.declared.records.Rec.{Rec}
use Rattle.lazy_rec.specs.declared.records.Rec.TheVariants.{Nil, LNil, TNil, CatNil, TEmpty}
use Rattle.lazy_rec.specs.declared.places.Ref.{Ref}
use Rattle.lazy_rec.specs.declared.states.SuspState.{SuspState}
use Rattle.lazy_rec.specs.declared.states.SuspState.TheVariants.{Unforced, Claimed, Done}
use Rattle.lazy_rec.specs.States.{kept, state_in_range}
use Rattle.heap_store.specs.declared.nodes.Node.{Node}
use Rattle.heap_store.specs.declared.claims.HeldClaim.{HeldClaim}
use Rattle.heap_store.specs.declared.plain.Work.{Work}
use Rattle.heap_store.specs.World.{recs, fixed_places}
use Rattle.heap_store.specs.Plain.{IsPlain, plain_world, fresh_node, five_records}
use Rattle.heap_store.specs.Budget.{done_of, given_up_of, node_count_of}
use Rattle.heap_store.specs.Counts.{counts_of, AreCounted}
use Rattle.heap_store.specs.Slots.{published_in}
use Rattle.heap_store.proofs.PlainReads.{node_shown}
use Rattle.heap_store.proofs.PlainSteps.{state_small}
use Rattle.heap_store.proofs.FixedPlaces.{FixedRecords, fixed_records}
use Rattle.heap_store.proofs.SlotLaws.{published_more}
use Rattle.heap_store.proofs.SumLaws.{sum-drawn, sum-shown, sum_more}

-- ---- sums over places

sum_small : (f : Option Node → ℕ) (places : List (Option Node)) → ((k : ℕ) → f (slice_index_or places k None) ≤ 4194304) → sum_by f places ≤ 4194304 * length places
sum_small f [] h = omega arith
sum_small f (n ∷ places) h = omega (arith, sum_by-cons f n places, h 0, sum_small f places (λ k. h (suc k)))

-- ---- counts

-- places are drawn that show nothing yet
pub counted_more : (places : List (Option Node)) (c : Work) (k : ℕ) → AreCounted places c → AreCounted (places ++ replicate k None) c
counted_more places c k h = record {
  forced = h.forced ∙ sym (sum-drawn (λ n. length (done_of n)) refl places k);
  steps = h.steps ∙ sym (sum-drawn (λ n. sum_by (λ (d : ℕ × ℕ). d.1) (done_of n)) refl places k);
  given_up = h.given_up ∙ sym (sum-drawn given_up_of refl places k);
}

-- the counts of the world that the places make
pub counts_told : (capacity row_capacity : ℕ) (places : List (Option Node)) (rows : List (List ℕ)) (c : Work) (published : ℕ) → AreCounted places c → published ≡ published_in places → record { forced = c.forced; steps = c.steps; given_up = c.given_up; nodes = published - fixed_places } ≡ counts_of (plain_world capacity row_capacity places rows)
counts_told capacity row_capacity places rows c published h is =
    let k = fixed_places + capacity - length places in
    let all = counted_more places c k h in
    let shown = is ∙ sym (published_more places k) in
    rw (all.forced, all.steps, all.given_up, shown) refl

-- the fixed places are among the published ones
pub fixed_published : (capacity row_capacity : ℕ) (places : List (Option Node)) (claims : List HeldClaim) (rows : List (List ℕ)) → IsPlain capacity row_capacity places claims rows → fixed_places ≤ published_in places
fixed_published capacity row_capacity places claims rows plain = sum_more node_count_of None refl five_records places (λ k. go k)
  where
    fixed : FixedRecords (recs (plain_world capacity row_capacity places rows))
    fixed = fixed_records plain.seen.lawful

    one : (o : Option Node) (r : Rec) → option_map (λ (n : Node). n.rec) o ≡ Some r → 1 ≤ node_count_of o
    one None r h = cc
    one (Some n) r h = omega arith

    at : (k : ℕ) (r : Rec) → recs (plain_world capacity row_capacity places rows) k ≡ Some r → 1 ≤ node_count_of (slice_index_or places k None)
    at k r h = one (slice_index_or places k None) r (ap (option_map (λ (n : Node). n.rec)) (sym (node_shown capacity row_capacity places rows k)) ∙ h)

    go : (k : ℕ) → node_count_of (slice_index_or five_records k None) ≤ node_count_of (slice_index_or places k None)
    go zero = at 0 Nil fixed.nil
    go (suc zero) = at 1 LNil fixed.list_nil
    go (suc (suc zero)) = at 2 TNil fixed.tree_nil
    go (suc (suc (suc zero))) = at 3 CatNil fixed.cat_nil
    go (suc (suc (suc (suc zero)))) = at 4 TEmpty fixed.empty_tree
    go (suc (suc (suc (suc (suc k))))) = omega arith

-- how the counts change where a place shows another node
record IsRecounted (c c' : Work) (old new : Option Node) : Type 0 where
  forced : c'.forced + length (done_of old) ≡ c.forced + length (done_of new)
  steps : c'.steps + sum_by (λ (d : ℕ × ℕ). d.1) (done_of old) ≡ c.steps + sum_by (λ (d : ℕ × ℕ). d.1) (done_of new)
  given_up : c'.given_up + given_up_of old ≡ c.given_up + given_up_of new

recounted : (places : List (Option Node)) (c c' : Work) (p : ℕ) (old new : Option Node) → p < length places → slice_index_or places p None ≡ old → IsRecounted c c' old new → AreCounted places c → AreCounted (slice_set places p new) c'
recounted places c c' p old new l e by h = record {
  forced = omega (arith, h.forced, by.forced, sum-shown (λ n. length (done_of n)) places p old new l e);
  steps = omega (arith, h.steps, by.steps, sum-shown (λ n. sum_by (λ (d : ℕ × ℕ). d.1) (done_of n)) places p old new l e);
  given_up = omega (arith, h.given_up, by.given_up, sum-shown given_up_of places p old new l e);
}

module _ (places : List (Option Node)) (c : Work) (p : ℕ) (l : p < length places) (h : AreCounted places c) where
  pub put_counted : (r : Rec) → slice_index_or places p None ≡ None → AreCounted (slice_set places p (fresh_node r)) c
  put_counted r none = recounted places c _ p None (fresh_node r) l none (record {
    forced = refl;
    steps = refl;
    given_up = refl;
  }) h

  pub won_counted : (r : Rec) (g : ℕ) → slice_index_or places p None ≡ Some (record { rec = r; state = Unforced g }) → AreCounted (slice_set places p (Some (record { rec = r; state = Claimed g }))) c
  won_counted r g here = recounted places c c p (Some (record { rec = r; state = Unforced g })) (Some (record { rec = r; state = Claimed g })) l here (record {
    forced = refl;
    steps = refl;
    given_up = refl;
  }) h

  pub completed_counted : (r : Rec) (g : ℕ) (place : Ref) (steps : ℕ) → slice_index_or places p None ≡ Some (record { rec = r; state = Claimed g }) → AreCounted (slice_set places p (Some (record { rec = r; state = Done place steps g }))) (record c { forced = c.forced + 1; steps = c.steps + steps })
  completed_counted r g place steps here = recounted places c _ p (Some (record { rec = r; state = Claimed g })) (Some (record { rec = r; state = Done place steps g })) l here (record {
    forced = omega arith;
    steps = omega (arith, sum_by-cons (λ (d : ℕ × ℕ). d.1) (place.0, steps) []);
    given_up = refl;
  }) h

  pub released_counted : (r : Rec) (g g' k : ℕ) → k + g ≡ g' → slice_index_or places p None ≡ Some (record { rec = r; state = Claimed g }) → AreCounted (slice_set places p (Some (record { rec = r; state = Unforced g' }))) (record c { given_up = c.given_up + k })
  released_counted r g g' k raised here = recounted places c _ p (Some (record { rec = r; state = Claimed g })) (Some (record { rec = r; state = Unforced g' })) l here (record {
    forced = refl;
    steps = refl;
    given_up = omega (arith, raised);
  }) h

-- in a store in which nothing is drawn
pub opened_counted : AreCounted five_records (record { forced = 0; steps = 0; given_up = 0 })
opened_counted = record { forced = refl; steps = refl; given_up = refl }

-- ---- counts are far from their type's end

-- what a place adds, where its state is one that a word can show
record IsSmallNode (o : Option Node) : Type 0 where
  forced : length (done_of o) ≤ 4194304
  steps : sum_by (λ (d : ℕ × ℕ). d.1) (done_of o) ≤ 4194304
  given_up : given_up_of o ≤ 4194304

small_node : (o : Option Node) → ((s : SuspState) → option_map (λ (n : Node). n.state) o ≡ Some s → state_in_range s ≡ true) → IsSmallNode o
small_node None fits = record { forced = omega arith; steps = omega arith; given_up = omega arith }
small_node (Some n) fits = record { forced = forced_by (kept n.state); steps = steps_by n.state (fits n.state refl); given_up = omega (arith, state_small n.state (fits n.state refl)) }
  where
    forced_by : (k : Option (ℕ × ℕ)) → length (elim k as (λ _. List (ℕ × ℕ)) [ None ↦ [] | Some d ↦ d ∷ [] ]) ≤ 4194304
    forced_by None = omega arith
    forced_by (Some d) = omega arith

    steps_by : (s : SuspState) → state_in_range s ≡ true → sum_by (λ (d : ℕ × ℕ). d.1) (elim (kept s) as (λ _. List (ℕ × ℕ)) [ None ↦ [] | Some d ↦ d ∷ [] ]) ≤ 4194304
    steps_by (Unforced g) h = omega arith
    steps_by (Claimed g) h = omega arith
    steps_by (Done place steps g) h = omega (arith, sum_by-cons (λ (d : ℕ × ℕ). d.1) (place.0, steps) [], ltb-true steps 4194304 (and_parts _ _ (and_parts _ _ h).1).0)

pub record AreSmall (c : Work) : Type 0 where
  pub forced : c.forced < 2 ^ 63
  pub steps : c.steps < 2 ^ 63
  pub given_up : c.given_up < 2 ^ 63

pub counts_small : (capacity row_capacity : ℕ) (places : List (Option Node)) (claims : List HeldClaim) (rows : List (List ℕ)) (c : Work) → IsPlain capacity row_capacity places claims rows → AreCounted places c → AreSmall c
counts_small capacity row_capacity places claims rows c plain h =
    let small : (k : ℕ) → IsSmallNode (slice_index_or places k None) = λ k. small_node (slice_index_or places k None) (λ s e. plain.seen.lawful.states k s (ap (option_map (λ (n : Node). n.state)) (node_shown capacity row_capacity places rows k) ∙ e)) in
    let many : length places ≤ 4000005 = omega (arith, plain.fits, plain.small) in
    record {
      forced = omega (arith, h.forced, many, sum_small (λ n. length (done_of n)) places (λ k. (small k).forced));
      steps = omega (arith, h.steps, many, sum_small (λ n. sum_by (λ (d : ℕ × ℕ). d.1) (done_of n)) places (λ k. (small k).steps));
      given_up = omega (arith, h.given_up, many, sum_small given_up_of places (λ k. (small k).given_up));
    }
