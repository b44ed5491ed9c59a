-- What the calls on places and claims do to the fields of a plain heap and to its view.
use Rattle.std.proofs.Common.{◌≡◌, ℕ, zero, suc, ◌+◌, ◌-◌, ◌<◌, ◌≤◌, Bool, true, false, List, [], ◌∷◌, ◌++◌, length, replicate, Option, Some, None, refl, sym, ap, ◌∙◌, arith, subst, inl, inr, cond, not, ◌&&◌, ◌||◌, ltb, min}
use Rattle.std.specs.Prelude.{count_by, slice_set, slice_index_or, option_map}
use Rattle.std.specs.List.{list_all}
use Rattle.std.proofs.lemmas.Bool.{and_parts, and_from, or_right, lt-ltb, ltb-true}
use Rattle.std.proofs.lemmas.List.{length-set, length-append, length-replicate}
use Rattle.std.proofs.lemmas.List.Sums.{sum_by-set}
use Rattle.lazy_rec.specs.declared.records.Rec.{Rec}
use Rattle.lazy_rec.specs.declared.records.Rec.TheVariants as recs_of
use Rattle.lazy_rec.specs.declared.places.Ref.{Ref}
use Rattle.lazy_rec.specs.declared.states.SuspState.{SuspState}
use Rattle.lazy_rec.specs.declared.states.SuspState.TheVariants.{Unforced, Claimed, Done}
use Rattle.lazy_rec.specs.Named.{is_pending}
use Rattle.lazy_rec.specs.States.{given_up, is_claimed, is_unforced, state_in_range}
use Rattle.lazy_rec.specs.Tests.{implies, is_some_and}
use Rattle.heap_store.specs.declared.nodes.Node.{Node}
use Rattle.heap_store.specs.declared.claims.HeldClaim.{HeldClaim}
use Rattle.heap_store.specs.declared.claims.OpenRow.{OpenRow}
use Rattle.heap_store.specs.declared.claims.Full.{Full}
use Rattle.heap_store.specs.Span.{Span}
use Rattle.heap_store.specs.World.{World, recs, holds, node_at, show, is_taken, fixed_places}
use Rattle.heap_store.specs.Growth.{Grows}
use Rattle.heap_store.specs.Lawful.{IsLawful, IsDoneWell}
use Rattle.heap_store.specs.Hand.{is_marked_well, contains, all_distinct, claim_places, fresh_claim, mark_newest, is_later, without, without_claim, Hand, is_unbuilt, places_of_steps, hand_reserved, hand_put, hand_won, hand_completed, hand_given_up, places_from}
use Rattle.heap_store.specs.View.{View, Reserved, Fits, Put, IsWon, Completed, MayComplete, GivenUp, is_unforced_node, unforced}
use Rattle.heap_store.specs.Plain.{IsPlain, IsSeenWell, plain_world, held_things, with_budget, plain_hand, plain_view, fresh_node, free_places, open_names, is_claimed_node}
use Rattle.heap_store.specs.Budget.{gain_at, is_funded, IsFunded, IsInBudget, alone_with, IsBalanced}
use Rattle.heap_store.proofs.GrowthLaws.{at_true, grows_refl}
use Rattle.heap_store.proofs.BudgetSteps.{put_names}
use Rattle.lazy_rec.proofs.TestLaws.{implies_to}
use Rattle.heap_store.proofs.BudgetKept.{put_funded, state_funded, reserved_balanced, put_balanced, won_balanced, completed_balanced, given_up_balanced}
use Rattle.heap_store.proofs.PlainBudget.{balanced_is, affordable_own}
use Rattle.heap_store.proofs.ShowLaws.{one_value, put_grows, show_adds, state_grows, state-same, done-same}
use Rattle.heap_store.proofs.LawfulLaws.{lawful_state}
use Rattle.heap_store.proofs.Steps.{places-mark}
use Rattle.heap_store.proofs.PlainLists.{filled-more, free-append, free-replicate, free-filled, free-same, distinct-without_claim, all-without_claim}
use Rattle.heap_store.proofs.PlainWorlds.{node-drawn, drawn_there, show-drawn, inside_world, rec_node, published_rec, free_unpublished, fixed_drawn, lawful_hand, plain_balanced}
use Rattle.heap_store.proofs.PlainSeen.{put_seen, won_seen, released_seen, unforced_no_next, unbuilt_no_next, claimed_pending}

-- ---- views

abbrev pub view_with : ℕ → ℕ → ℕ → Full → List HeldClaim → List OpenRow → World → List ℕ → List ℕ → ℕ → ℕ → View
view_with capacity row_capacity refused last claims open_rows seen reserved names drawn named = record {
  seen = seen;
  hand = with_budget seen (held_things claims reserved names open_rows);
  refusals = record { count = refused; last = last };
  drawn = drawn;
  named = named;
  about = record { capacity = capacity; rows = row_capacity; alone = true; plan = None; caller = None };
}

pub view-same : (capacity row_capacity refused : ℕ) (last : Full) (claims : List HeldClaim) (open_rows : List OpenRow) (w w' : World) (reserved reserved' names names' : List ℕ) (drawn drawn' named named' : ℕ)
    → w ≡ w' → reserved ≡ reserved' → names ≡ names' → drawn ≡ drawn' → named ≡ named'
    → view_with capacity row_capacity refused last claims open_rows w reserved names drawn named ≡ view_with capacity row_capacity refused last claims open_rows w' reserved' names' drawn' named'
view-same capacity row_capacity refused last claims open_rows w w' reserved reserved' names names' drawn drawn' named named' a b c d e = rw (a, b, c, d, e) refl

-- ---- counts

one_if : Bool → ℕ
one_if b = cond b 1 0

count-set : (t : Option Node → Bool) (nodes : List (Option Node)) (p : ℕ) (o new : Option Node) → p < length nodes → slice_index_or nodes p None ≡ o → count_by t (slice_set nodes p new) + cond (t o) 1 0 ≡ count_by t nodes + cond (t new) 1 0
count-set t nodes p o new l e =
    let k = sum_by-set (λ x. cond (t x) 1 0) nodes p new None l in
    let z : cond (t (slice_index_or nodes p None)) 1 0 ≡ cond (t o) 1 0 = ap {B = ℕ} (λ x. cond (t x) 1 0) e in
    omega (arith, k, z)

count-shown : (w : World) (p : ℕ) (r : Rec) (s : SuspState) (o : Option Node) → p < length w.nodes → node_at w p ≡ o → unforced (show w p r s) + cond (is_unforced_node o) 1 0 ≡ unforced w + cond (is_pending r && is_unforced s) 1 0
unfolding unforced
count-shown w p r s o l e = count-set is_unforced_node w.nodes p o (Some (record { rec = r; state = s })) l e

pending_and : (p u : Bool) → p ≡ true → (p && u) ≡ u
pending_and true u e = refl
pending_and false u e = cc

-- ---- steps of views

-- a suspension is claimed
pub won : (v : View) (s : Ref) (r : Rec) (g : ℕ) → s.0 < length v.seen.nodes → node_at v.seen s.0 ≡ Some (record { rec = r; state = Unforced g }) → is_pending r ≡ true → IsWon v (record v { seen = show v.seen s.0 r (Claimed g); hand = hand_won (recs v.seen) v.hand s }) s
won v s r g l here pending =
    let k = count-shown v.seen s.0 r (Claimed g) (Some (record { rec = r; state = Unforced g })) l here in
    let a : cond {A = ℕ} (is_pending r && true) 1 0 ≡ 1 = ap {B = ℕ} (λ z. cond (z && true) 1 0) pending in
    let b : cond {A = ℕ} (is_pending r && false) 1 0 ≡ 0 = ap {B = ℕ} (λ z. cond (z && false) 1 0) pending in
    record {
      grows = state_grows v.seen s.0 r (Claimed g) l (Unforced g) here refl (omega arith);
      words = λ i m. refl;
      hand = refl;
      refusals = refl;
      about = refl;
      alone = λ _. (record { rows = refl; named = refl }, refl, omega (arith, k, a, b));
      shown = λ _. (r, g, ap (option_map (λ (n : Node). n.state)) here, refl);
    }

-- a claim is completed
pub completed : (v : View) (s : ℕ) (r : Rec) (g : ℕ) (place : Ref) (steps : ℕ) → s < length v.seen.nodes → node_at v.seen s ≡ Some (record { rec = r; state = Claimed g }) → Completed v (record v { seen = show v.seen s r (Done place steps g); hand = hand_completed (recs v.seen) v.hand s }) s place.0 steps
completed v s r g place steps l here =
    let k = count-shown v.seen s r (Done place steps g) (Some (record { rec = r; state = Claimed g })) l here in
    record {
      grows = state_grows v.seen s r (Done place steps g) l (Claimed g) here refl (omega arith);
      words = λ i m. refl;
      done = done-same v.seen s r (Done place steps g) l;
      hand = refl;
      refusals = refl;
      about = refl;
      alone = λ _. (record { rows = refl; named = refl }, refl, omega (arith, k));
      shown = λ _. (r, g, ap (option_map (λ (n : Node). n.state)) here, refl);
    }

claimed_one : (g g' : ℕ) → Claimed g ≡ Claimed g' → g ≡ g'
claimed_one g g' e = cc

-- a claim is given back
pub released : (v : View) (s : ℕ) (r : Rec) (g : ℕ) → s < length v.seen.nodes → g < 65536 → node_at v.seen s ≡ Some (record { rec = r; state = Claimed g }) → GivenUp v (record v { seen = show v.seen s r (Unforced (min (g + 1) 65535)); hand = hand_given_up (recs v.seen) v.hand s }) s
released v s r g l small here = record {
  grows = state_grows v.seen s r (Unforced (min (g + 1) 65535)) l (Claimed g) here refl (omega arith);
  words = λ i m. refl;
  state = λ g' e. (let same : Claimed g ≡ Claimed g' = one_value (Claimed g) (Claimed g') (sym (ap (option_map (λ (n : Node). n.state)) here) ∙ e) in rw (← claimed_one g g' same) (state-same v.seen s r (Unforced (min (g + 1) 65535)) l));
  hand = refl;
  refusals = refl;
  about = refl;
  alone = λ _. (record { rows = refl; named = refl }, refl);
  shown = λ _. (r, g, ap (option_map (λ (n : Node). n.state)) here, refl);
}

-- a record is put
pub put : (v : View) (p : ℕ) (r : Rec) → p < length v.seen.nodes → node_at v.seen p ≡ None → Put v (record v { seen = show v.seen p r (Unforced 0); hand = hand_put (recs v.seen) v.hand p r (gain_at v.seen p r) }) p r
put v p r l none = record {
  grows = put_grows v.seen p r (Unforced 0) l none;
  words = λ i m. refl;
  here = (show_adds v.seen p r (Unforced 0) l none).there;
  hand = refl;
  refusals = refl;
  about = refl;
  alone = λ _. (refl, refl, refl);
}

-- a place that shows nothing is none of the fixed ones
above_fixed : (w : World) → IsLawful w → (p : ℕ) → node_at w p ≡ None → 5 ≤ p
above_fixed w law p none = by p none
  where
    no_record : (q : ℕ) (test : Rec → Bool) → holds (recs w) q test ≡ true → node_at w q ≡ None → ⊥
    no_record q test h e = let t = at_true test (recs w q) h in let z : None ≡ Some t.0 = sym (ap (option_map (λ (n : Node). n.rec)) e) ∙ t.1 in cc

    by : (q : ℕ) → node_at w q ≡ None → 5 ≤ q
    by zero e = absurd (no_record 0 _ (and_parts _ _ (and_parts _ _ (and_parts _ _ (and_parts _ _ law.fixed).0).0).0).0 e)
    by (suc zero) e = absurd (no_record 1 _ (and_parts _ _ (and_parts _ _ (and_parts _ _ (and_parts _ _ law.fixed).0).0).0).1 e)
    by (suc (suc zero)) e = absurd (no_record 2 _ (and_parts _ _ (and_parts _ _ (and_parts _ _ law.fixed).0).0).1 e)
    by (suc (suc (suc zero))) e = absurd (no_record 3 _ (and_parts _ _ (and_parts _ _ law.fixed).0).1 e)
    by (suc (suc (suc (suc zero)))) e = absurd (no_record 4 _ (and_parts _ _ law.fixed).1 e)
    by (suc (suc (suc (suc (suc q))))) e = omega arith

-- whether a record is a later suspension doesn't hang on its place
pub is_later-any : (p : ℕ) (r : Rec) → is_later p r ≡ is_later 0 r
is_later-any p (recs_of.Append _ _ _ _ _) = refl
is_later-any p (recs_of.BankRot _ _ _ _ _) = refl
is_later-any p (recs_of.RtRot _ _ _ _ _ _) = refl
is_later-any p (recs_of.LinkAll _ _ _ _ _) = refl
is_later-any p (recs_of.PushL _ _ _ _ _ _ _ _) = refl
is_later-any p (recs_of.PushR _ _ _ _ _ _ _ _) = refl
is_later-any p (recs_of.DeepL _ _ _ _ _ _) = refl
is_later-any p (recs_of.DeepR _ _ _ _ _ _) = refl
is_later-any p (recs_of.Concat _ _ _ _ _ _ _) = refl
is_later-any p _ = refl

pub marked-newest : (b : Bool) (cs : List HeldClaim) → list_all is_marked_well cs ≡ true → list_all is_marked_well (mark_newest b cs) ≡ true
marked-newest b [] h = refl
marked-newest b (c ∷ cs) h = and_from _ _ (by (c.passed || b)) (and_parts (is_marked_well c) _ h).1
  where
    by : (x : Bool) → implies x true ≡ true
    by true = refl
    by false = refl

pub distinct-cons : (x : ℕ) (xs : List ℕ) → contains xs x ≡ false → all_distinct xs ≡ true → all_distinct (x ∷ xs) ≡ true
distinct-cons x xs m d = and_from _ _ (ap not m) d

-- states that a word can show

pub claimed_fits : (g : ℕ) → g < 65536 → state_in_range (Claimed g) ≡ true
claimed_fits g l = and_from _ _ (lt-ltb g 65536 l) refl

pub unforced_fits : (g : ℕ) → g < 65536 → state_in_range (Unforced g) ≡ true
unforced_fits g l = and_from _ _ (lt-ltb g 65536 l) refl

pub done_fits : (place : Ref) (steps g : ℕ) → place.0 < 4194304 → steps < 4194304 → g < 65536 → state_in_range (Done place steps g) ≡ true
done_fits place steps g l m n = and_from _ _ (lt-ltb g 65536 n) (and_from _ _ (lt-ltb steps 4194304 m) (and_from _ _ (lt-ltb place.0 4194304 l) refl))

pub state_small : (s : SuspState) → state_in_range s ≡ true → given_up s < 65536
state_small (Unforced g) h = ltb-true g 65536 (and_parts (ltb g 65536) _ h).0
state_small (Claimed g) h = ltb-true g 65536 (and_parts (ltb g 65536) _ h).0
state_small (Done place steps g) h = ltb-true g 65536 (and_parts (ltb g 65536) _ h).0

-- what giving a claim back asks
pub record MayGiveUp (v : View) (s : ℕ) : Type 0 where
  pub unbuilt : is_unbuilt v.hand s ≡ true
  pub places : places_of_steps (recs v.seen) s ≤ v.hand.allowance

-- ---- the fields

module _ (capacity row_capacity : ℕ) (nodes : List (Option Node)) (claims : List HeldClaim) (rows : List (List ℕ)) (h : IsPlain capacity row_capacity nodes claims rows) (open_rows : List OpenRow) (refused : ℕ) (last : Full) where
  abbrev now_world : World
  now_world = plain_world capacity row_capacity nodes rows

  abbrev now_hand : Hand
  now_hand = plain_hand (plain_world capacity row_capacity nodes rows) nodes claims rows open_rows

  abbrev now_view : View
  now_view = plain_view nodes claims rows open_rows capacity row_capacity refused last

  balance : IsBalanced (alone_with (plain_world capacity row_capacity nodes rows) (plain_hand (plain_world capacity row_capacity nodes rows) nodes claims rows open_rows)) 0
  balance = plain_balanced capacity row_capacity nodes claims rows h open_rows

  -- the numbers of the hand after a put
  put_balance : (p : ℕ) (r : Rec) → contains (free_places 0 nodes) p ≡ true → Fits (plain_view nodes claims rows open_rows capacity row_capacity refused last) p r
      → IsBalanced (alone_with (show (plain_world capacity row_capacity nodes rows) p r (Unforced 0)) (hand_put (recs (plain_world capacity row_capacity nodes rows)) (plain_hand (plain_world capacity row_capacity nodes rows) nodes claims rows open_rows) p r (gain_at (plain_view nodes claims rows open_rows capacity row_capacity refused last).seen p r))) 0
  put_balance p r m fits =
      let f = free_unpublished capacity row_capacity nodes claims rows h p m in
      let w = plain_world capacity row_capacity nodes rows in
      let inside = inside_world capacity row_capacity nodes rows p f.0 h.fits in
      put_balanced w h.seen.lawful now_hand (lawful_hand capacity row_capacity nodes claims rows h open_rows) h.seen.held balance p r inside f.1 (above_fixed w h.seen.lawful p f.1) m (put_names w p r inside f.1 h.seen.lawful fits.laws.names) fits.paid

  free-put : (p : ℕ) (r : Rec) → contains (free_places 0 nodes) p ≡ true → free_places 0 (slice_set nodes p (Some (record { rec = r; state = Unforced 0 }))) ≡ without p (p + 1) (free_places 0 nodes)
  free-put p r m =
      let f = free_unpublished capacity row_capacity nodes claims rows h p m in
      let none : slice_index_or nodes p None ≡ None = sym (node-drawn capacity row_capacity nodes rows p f.0) ∙ f.1 in
      let zero_plus : 0 + p ≡ p = omega arith in
      let n : Option Node = Some (record { rec = r; state = Unforced 0 }) in
      subst (λ z. free_places 0 (slice_set nodes p n) ≡ without z (z + 1) (free_places 0 nodes)) zero_plus (free-filled 0 p nodes (record { rec = r; state = Unforced 0 }) f.0 none)

  -- a place in the hand is filled
  pub put_plain : (p : ℕ) (r : Rec) → contains (free_places 0 nodes) p ≡ true → Fits (plain_view nodes claims rows open_rows capacity row_capacity refused last) p r → IsPlain capacity row_capacity (slice_set nodes p (Some (record { rec = r; state = Unforced 0 }))) (mark_newest (is_later p r) claims) rows
  put_plain p r m fits =
      let f = free_unpublished capacity row_capacity nodes claims rows h p m in
      let w = plain_world capacity row_capacity nodes rows in
      let inside = inside_world capacity row_capacity nodes rows p f.0 h.fits in
      let hand = lawful_hand capacity row_capacity nodes claims rows h open_rows in
      let new : IsSeenWell (show w p r (Unforced 0)) (mark_newest (is_later p r) claims) = put_seen w p r inside f.1 h.seen.lawful now_hand hand h.seen fits.laws fits.origin fits.follows in
      record {
        seen = subst (λ z. IsSeenWell z (mark_newest (is_later p r) claims)) (sym (show-drawn capacity row_capacity nodes rows p r (Unforced 0) f.0)) new;
        funded = subst IsFunded (sym (show-drawn capacity row_capacity nodes rows p r (Unforced 0) f.0)) (put_funded w p r inside f.1 h.seen.lawful h.funded (put_names w p r inside f.1 h.seen.lawful fits.laws.names) fits.settled);
        budget = affordable_own (show w p r (Unforced 0)) _ (hand_put (recs w) now_hand p r (gain_at now_view.seen p r)) (free_places 0 (slice_set nodes p (Some (record { rec = r; state = Unforced 0 })))) (show-drawn capacity row_capacity nodes rows p r (Unforced 0) f.0) (free-put p r m) (put_balance p r m fits);
        marked = marked-newest (is_later p r) claims h.marked;
        once = ap all_distinct (places-mark (is_later p r) claims) ∙ h.once;
        fits = rw length-set h.fits;
        small = h.small;
        rows_fit = h.rows_fit;
        rows_small = h.rows_small;
      }

  pub put_view : (p : ℕ) (r : Rec) → contains (free_places 0 nodes) p ≡ true → Fits (plain_view nodes claims rows open_rows capacity row_capacity refused last) p r → Put (plain_view nodes claims rows open_rows capacity row_capacity refused last) (plain_view (slice_set nodes p (Some (record { rec = r; state = Unforced 0 }))) (mark_newest (is_later p r) claims) rows open_rows capacity row_capacity refused last) p r
  put_view p r m fits =
      let f = free_unpublished capacity row_capacity nodes claims rows h p m in
      let v = plain_view nodes claims rows open_rows capacity row_capacity refused last in
      let w = plain_world capacity row_capacity nodes rows in
      let inside = inside_world capacity row_capacity nodes rows p f.0 h.fits in
      let n : Option Node = Some (record { rec = r; state = Unforced 0 }) in
      let hand = hand_put (recs w) v.hand p r (gain_at v.seen p r) in
      let same : plain_view (slice_set nodes p n) (mark_newest (is_later p r) claims) rows open_rows capacity row_capacity refused last ≡ record v { seen = show v.seen p r (Unforced 0); hand = hand } =
      view-same capacity row_capacity refused last (mark_newest (is_later p r) claims) open_rows _ (show w p r (Unforced 0)) _ (without p (p + 1) (free_places 0 nodes)) _ (open_names 1 rows) _ (length nodes - fixed_places) _ (length rows)
      (show-drawn capacity row_capacity nodes rows p r (Unforced 0) f.0) (free-put p r m) refl (ap (λ z. z - fixed_places) (length-set nodes p n)) refl
      ∙ ap (λ (x : Hand). record v { seen = show w p r (Unforced 0); hand = x }) (balanced_is (show w p r (Unforced 0)) hand (put_balance p r m fits)) in
      subst (λ t. Put v t p r) (sym same) (put v p r inside f.1)

  -- the same of what the code has at hand
  module _ (p place : ℕ) (r : Rec) (n : Option Node) (at : place ≡ p) (node : n ≡ fresh_node r) (m : contains (free_places 0 nodes) p ≡ true) where
    pub put_plain_at : Fits (plain_view nodes claims rows open_rows capacity row_capacity refused last) p r → IsPlain capacity row_capacity (slice_set nodes place n) (mark_newest (is_later 0 r) claims) rows
    put_plain_at fits = rw (at, node) (subst (λ b. IsPlain capacity row_capacity (slice_set nodes p (fresh_node r)) (mark_newest b claims) rows) (is_later-any p r) (put_plain p r m fits))

    pub put_view_at : Fits (plain_view nodes claims rows open_rows capacity row_capacity refused last) p r → Put (plain_view nodes claims rows open_rows capacity row_capacity refused last) (plain_view (slice_set nodes place n) (mark_newest (is_later 0 r) claims) rows open_rows capacity row_capacity refused last) p r
    put_view_at fits = rw (at, node) (subst (λ b. Put (plain_view nodes claims rows open_rows capacity row_capacity refused last) (plain_view (slice_set nodes p (fresh_node r)) (mark_newest b claims) rows open_rows capacity row_capacity refused last) p r) (is_later-any p r) (put_view p r m fits))

  -- a place shows another state
  module _ (p : ℕ) (r : Rec) (old s : SuspState) (here : node_at (plain_world capacity row_capacity nodes rows) p ≡ Some (record { rec = r; state = old })) where
    drawn : p < length nodes
    drawn = drawn_there capacity row_capacity nodes rows p (record { rec = r; state = old }) here

    pub inside : p < length (plain_world capacity row_capacity nodes rows).nodes
    inside = inside_world capacity row_capacity nodes rows p drawn h.fits

    in_list : slice_index_or nodes p None ≡ Some (record { rec = r; state = old })
    in_list = sym (node-drawn capacity row_capacity nodes rows p drawn) ∙ here

    pub state_plain : (claims' : List HeldClaim) → IsSeenWell (show (plain_world capacity row_capacity nodes rows) p r s) claims' → list_all is_marked_well claims' ≡ true → all_distinct (claim_places claims') ≡ true → IsFunded (show (plain_world capacity row_capacity nodes rows) p r s)
        → (hand : Hand) → claims' ≡ hand.claims → free_places 0 nodes ≡ hand.reserved → IsBalanced (alone_with (show (plain_world capacity row_capacity nodes rows) p r s) hand) 0 → IsPlain capacity row_capacity (slice_set nodes p (Some (record { rec = r; state = s }))) claims' rows
    state_plain claims' new marked once funded hand same free balanced = record {
      seen = subst (λ z. IsSeenWell z claims') (sym (show-drawn capacity row_capacity nodes rows p r s drawn)) new;
      funded = subst IsFunded (sym (show-drawn capacity row_capacity nodes rows p r s drawn)) funded;
      budget = subst (λ cs. IsInBudget (alone_with (plain_world capacity row_capacity (slice_set nodes p (Some (record { rec = r; state = s }))) rows) (held_things cs (free_places 0 (slice_set nodes p (Some (record { rec = r; state = s })))) [] []))) (sym same)
          (affordable_own (show (plain_world capacity row_capacity nodes rows) p r s) _ hand (free_places 0 (slice_set nodes p (Some (record { rec = r; state = s })))) (show-drawn capacity row_capacity nodes rows p r s drawn) (free-same 0 p nodes (record { rec = r; state = old }) (record { rec = r; state = s }) in_list ∙ free) balanced);
      marked = marked;
      once = once;
      fits = rw length-set h.fits;
      small = h.small;
      rows_fit = h.rows_fit;
      rows_small = h.rows_small;
    }

    pub state_view : (claims' : List HeldClaim) → plain_view (slice_set nodes p (Some (record { rec = r; state = s }))) claims' rows open_rows capacity row_capacity refused last ≡ (let v = plain_view nodes claims rows open_rows capacity row_capacity refused last in record v { seen = show v.seen p r s; hand = with_budget (show v.seen p r s) (record v.hand { claims = claims' }) })
    state_view claims' = view-same capacity row_capacity refused last claims' open_rows _ (show (plain_world capacity row_capacity nodes rows) p r s) _ (free_places 0 nodes) _ (open_names 1 rows) _ (length nodes - fixed_places) _ (length rows)
        (show-drawn capacity row_capacity nodes rows p r s drawn) (free-same 0 p nodes (record { rec = r; state = old }) (record { rec = r; state = s }) in_list) refl (ap (λ z. z - fixed_places) (length-set nodes p (Some (record { rec = r; state = s })))) refl

  count_small : (p : ℕ) (r : Rec) (s : SuspState) → node_at (plain_world capacity row_capacity nodes rows) p ≡ Some (record { rec = r; state = s }) → given_up s < 65536
  count_small p r s here = state_small s (h.seen.lawful.states p s (ap (option_map (λ (n : Node). n.state)) here))

  -- a claim is won
  module _ (s : Ref) (r : Rec) (g : ℕ) (here : node_at (plain_world capacity row_capacity nodes rows) s.0 ≡ Some (record { rec = r; state = Unforced g })) (pending : is_pending r ≡ true) (paid : is_funded (plain_world capacity row_capacity nodes rows) s.0 r ≡ true) where
    won_balance : IsBalanced (alone_with (show (plain_world capacity row_capacity nodes rows) s.0 r (Claimed g)) (hand_won (recs (plain_world capacity row_capacity nodes rows)) (plain_hand (plain_world capacity row_capacity nodes rows) nodes claims rows open_rows) s)) 0
    won_balance = won_balanced now_world h.seen.lawful now_hand (lawful_hand capacity row_capacity nodes claims rows h open_rows) h.seen.held balance s.0 r (Unforced g) (Claimed g) (inside s.0 r (Unforced g) (Claimed g) here) here g g refl refl s refl

    unclaimed : contains (claim_places claims) s.0 ≡ false
    unclaimed = h.seen.held s.0 ∙ ap is_claimed_node here

    pub won_plain : IsPlain capacity row_capacity (slice_set nodes s.0 (Some (record { rec = r; state = Claimed g }))) (fresh_claim s ∷ claims) rows
    won_plain =
        let w = plain_world capacity row_capacity nodes rows in
        let l = inside s.0 r (Unforced g) (Claimed g) here in
        let none = unforced_no_next w h.seen.lawful s.0 r g here pending in
        let law = lawful_state w s.0 r (Unforced g) (Claimed g) l here h.seen.lawful refl (omega arith) (inl refl) pending (claimed_fits g (count_small s.0 r (Unforced g) here)) (λ d e. cc) in
        let grows = state_grows w s.0 r (Claimed g) l (Unforced g) here refl (omega arith) in
        state_plain s.0 r (Unforced g) (Claimed g) here (fresh_claim s ∷ claims)
        (won_seen w s.0 r (Unforced g) (Claimed g) l here claims h.seen law grows s refl unclaimed refl none)
        h.marked (distinct-cons s.0 (claim_places claims) unclaimed h.once)
        (state_funded w s.0 r (Unforced g) (Claimed g) l here h.seen.lawful h.funded paid) (hand_won (recs w) now_hand s) refl refl won_balance

    pub won_view : IsWon (plain_view nodes claims rows open_rows capacity row_capacity refused last) (plain_view (slice_set nodes s.0 (Some (record { rec = r; state = Claimed g }))) (fresh_claim s ∷ claims) rows open_rows capacity row_capacity refused last) s
    won_view =
        let v = plain_view nodes claims rows open_rows capacity row_capacity refused last in
        subst (λ t. IsWon v t s) (sym (state_view s.0 r (Unforced g) (Claimed g) here (fresh_claim s ∷ claims) ∙ ap (λ (x : Hand). record v { seen = show v.seen s.0 r (Claimed g); hand = x }) (balanced_is (show v.seen s.0 r (Claimed g)) (hand_won (recs v.seen) v.hand s) won_balance))) (won v s r g (inside s.0 r (Unforced g) (Claimed g) here) here pending)

  -- a claim leaves the hand
  module _ (s : ℕ) (r : Rec) (g : ℕ) (here : node_at (plain_world capacity row_capacity nodes rows) s ≡ Some (record { rec = r; state = Claimed g })) where
    held_here : contains (claim_places claims) s ≡ true
    held_here = h.seen.held s ∙ ap is_claimed_node here

    own : recs (plain_world capacity row_capacity nodes rows) s ≡ Some r
    own = ap (option_map (λ (n : Node). n.rec)) here

    pending : is_pending r ≡ true
    pending = claimed_pending (plain_world capacity row_capacity nodes rows) h.seen.lawful s (ap is_claimed_node here) r own

    claimed_paid : is_funded (plain_world capacity row_capacity nodes rows) s r ≡ true
    claimed_paid = implies_to (is_taken now_world s) _ (implies_to (is_pending r) _ (h.funded.taken s r own) pending) (or_right _ _ (ap is_claimed_node here))

    released_plain : (st : SuspState) → is_claimed st ≡ false → (hand : Hand) → without_claim s claims ≡ hand.claims → free_places 0 nodes ≡ hand.reserved → IsBalanced (alone_with (show (plain_world capacity row_capacity nodes rows) s r st) hand) 0 → IsLawful (show (plain_world capacity row_capacity nodes rows) s r st) → Grows (plain_world capacity row_capacity nodes rows) (show (plain_world capacity row_capacity nodes rows) s r st) → IsPlain capacity row_capacity (slice_set nodes s (Some (record { rec = r; state = st }))) (without_claim s claims) rows
    released_plain st free hand same reserved balanced law grows =
        let w = plain_world capacity row_capacity nodes rows in
        let l = inside s r (Claimed g) st here in
        state_plain s r (Claimed g) st here (without_claim s claims)
        (released_seen w s r (Claimed g) st l here claims h.seen law grows free)
        (all-without_claim is_marked_well s claims h.marked) (distinct-without_claim s claims h.once)
        (state_funded w s r (Claimed g) st l here h.seen.lawful h.funded claimed_paid) hand same reserved balanced

    completed_balance : (place : Ref) (steps : ℕ) → IsBalanced (alone_with (show (plain_world capacity row_capacity nodes rows) s r (Done place steps g)) (hand_completed (recs (plain_world capacity row_capacity nodes rows)) (plain_hand (plain_world capacity row_capacity nodes rows) nodes claims rows open_rows) s)) 0
    completed_balance place steps =
        let l = inside s r (Claimed g) (Done place steps g) here in
        completed_balanced now_world h.seen.lawful now_hand (lawful_hand capacity row_capacity nodes claims rows h open_rows) h.seen.held balance s r (Claimed g) (Done place steps g) l here g refl held_here (ap (is_some_and (λ d. true)) (done-same now_world s r (Done place steps g) l))

    pub completed_plain : (place : Ref) (steps : ℕ) → MayComplete (plain_world capacity row_capacity nodes rows) s place.0 steps → steps < 4194304 → IsPlain capacity row_capacity (slice_set nodes s (Some (record { rec = r; state = Done place steps g }))) (without_claim s claims) rows
    completed_plain place steps value few =
        let w = plain_world capacity row_capacity nodes rows in
        let there = published_rec (recs w) place.0 _ (value r own).value in
        let n = rec_node w place.0 there.0 there.1 in
        let low : place.0 < 4194304 = omega (arith, drawn_there capacity row_capacity nodes rows place.0 n.0 n.1, h.fits, h.small) in
        let small = count_small s r (Claimed g) here in
        let st : SuspState = Done place steps g in
        let l = inside s r (Claimed g) st here in
        let law = lawful_state w s r (Claimed g) st l here h.seen.lawful refl (omega arith) (inl refl) pending (done_fits place steps g low few small) (λ d e. subst (λ d. IsDoneWell w s r d) (one_value (place.0, steps) d e) (value r own)) in
        released_plain st refl (hand_completed (recs w) now_hand s) refl refl (completed_balance place steps) law (state_grows w s r st l (Claimed g) here refl (omega arith))

    pub completed_view : (place : Ref) (steps : ℕ) → Completed (plain_view nodes claims rows open_rows capacity row_capacity refused last) (plain_view (slice_set nodes s (Some (record { rec = r; state = Done place steps g }))) (without_claim s claims) rows open_rows capacity row_capacity refused last) s place.0 steps
    completed_view place steps =
        let v = plain_view nodes claims rows open_rows capacity row_capacity refused last in
        subst (λ t. Completed v t s place.0 steps) (sym (state_view s r (Claimed g) (Done place steps g) here (without_claim s claims) ∙ ap (λ (x : Hand). record v { seen = show v.seen s r (Done place steps g); hand = x }) (balanced_is (show v.seen s r (Done place steps g)) (hand_completed (recs v.seen) v.hand s) (completed_balance place steps)))) (completed v s r g place steps (inside s r (Claimed g) (Done place steps g) here) here)

    given_up_balance : MayGiveUp (plain_view nodes claims rows open_rows capacity row_capacity refused last) s → IsBalanced (alone_with (show (plain_world capacity row_capacity nodes rows) s r (Unforced (min (g + 1) 65535))) (hand_given_up (recs (plain_world capacity row_capacity nodes rows)) (plain_hand (plain_world capacity row_capacity nodes rows) nodes claims rows open_rows) s)) 0
    given_up_balance may =
        let st : SuspState = Unforced (min (g + 1) 65535) in
        given_up_balanced now_world h.seen.lawful now_hand (lawful_hand capacity row_capacity nodes claims rows h open_rows) h.seen.held balance s r (Claimed g) st (inside s r (Claimed g) st here) here g refl held_here (min (g + 1) 65535) refl may.unbuilt may.places

    pub given_up_plain : MayGiveUp (plain_view nodes claims rows open_rows capacity row_capacity refused last) s → IsPlain capacity row_capacity (slice_set nodes s (Some (record { rec = r; state = Unforced (min (g + 1) 65535) }))) (without_claim s claims) rows
    given_up_plain may =
        let small : g < 65536 = count_small s r (Claimed g) here in
        let w = plain_world capacity row_capacity nodes rows in
        let st : SuspState = Unforced (min (g + 1) 65535) in
        let l = inside s r (Claimed g) st here in
        let none = unbuilt_no_next w claims s r h.seen.well h.marked may.unbuilt own in
        let law = lawful_state w s r (Claimed g) st l here h.seen.lawful refl (omega arith) (inr none) pending (unforced_fits (min (g + 1) 65535) (omega arith)) (λ d e. cc) in
        released_plain st refl (hand_given_up (recs w) now_hand s) refl refl (given_up_balance may) law (state_grows w s r st l (Claimed g) here refl (omega arith))

    pub given_up_view : MayGiveUp (plain_view nodes claims rows open_rows capacity row_capacity refused last) s → GivenUp (plain_view nodes claims rows open_rows capacity row_capacity refused last) (plain_view (slice_set nodes s (Some (record { rec = r; state = Unforced (min (g + 1) 65535) }))) (without_claim s claims) rows open_rows capacity row_capacity refused last) s
    given_up_view may =
        let v = plain_view nodes claims rows open_rows capacity row_capacity refused last in
        subst (λ t. GivenUp v t s) (sym (state_view s r (Claimed g) (Unforced (min (g + 1) 65535)) here (without_claim s claims) ∙ ap (λ (x : Hand). record v { seen = show v.seen s r (Unforced (min (g + 1) 65535)); hand = x }) (balanced_is (show v.seen s r (Unforced (min (g + 1) 65535))) (hand_given_up (recs v.seen) v.hand s) (given_up_balance may)))) (released v s r g (inside s r (Claimed g) (Unforced (min (g + 1) 65535)) here) (count_small s r (Claimed g) here) here)

  -- places are reserved
  module _ (k : ℕ) (room : length nodes + k ≤ fixed_places + capacity) (fits : k ≤ (plain_view nodes claims rows open_rows capacity row_capacity refused last).hand.allowance) where
    free-reserved : free_places 0 (nodes ++ replicate k None) ≡ free_places 0 nodes ++ places_from (length nodes) k
    free-reserved =
        let zero_plus : 0 + length nodes ≡ length nodes = omega arith in
        free-append 0 nodes (replicate k None) ∙ ap (λ z. free_places 0 nodes ++ z) (free-replicate (0 + length nodes) k ∙ ap (λ z. places_from z k) zero_plus)

    world_same : plain_world capacity row_capacity (nodes ++ replicate k None) rows ≡ plain_world capacity row_capacity nodes rows
    world_same = ap (λ (ns : List (Option Node)). record { nodes = ns; rows = (plain_world capacity row_capacity nodes rows).rows }) (filled-more None (fixed_places + capacity) k nodes room)

    length_after : length (nodes ++ replicate k None) ≡ length nodes + k
    length_after = length-append nodes (replicate k None) ∙ ap (λ z. length nodes + z) (length-replicate k None)

    pub reserved_plain : IsPlain capacity row_capacity (nodes ++ replicate k None) claims rows
    reserved_plain = record {
      seen = subst (λ z. IsSeenWell z claims) (sym world_same) h.seen;
      funded = subst IsFunded (sym world_same) h.funded;
      budget = affordable_own now_world _ (hand_reserved now_hand (length nodes) k) (free_places 0 (nodes ++ replicate k None)) world_same free-reserved (reserved_balanced now_world h.seen.lawful now_hand (lawful_hand capacity row_capacity nodes claims rows h open_rows) h.seen.held balance (length nodes) k fits);
      marked = h.marked;
      once = h.once;
      fits = omega (arith, length_after, room);
      small = h.small;
      rows_fit = h.rows_fit;
      rows_small = h.rows_small;
    }

    pub reserved_view : (run : Span) → run.next ≡ length nodes → run.end ≡ length nodes + k → Reserved (plain_view nodes claims rows open_rows capacity row_capacity refused last) (plain_view (nodes ++ replicate k None) claims rows open_rows capacity row_capacity refused last) k run
    reserved_view run next end =
        let v = plain_view nodes claims rows open_rows capacity row_capacity refused last in
        let five = fixed_drawn capacity row_capacity nodes claims rows h in
        let free : free_places 0 (nodes ++ replicate k None) ≡ free_places 0 nodes ++ places_from run.next k = free-reserved ∙ ap (λ z. free_places 0 nodes ++ places_from z k) (sym next) in
        let same : plain_view (nodes ++ replicate k None) claims rows open_rows capacity row_capacity refused last ≡ record v { hand = hand_reserved v.hand run.next k; drawn = v.drawn + k } =
        view-same capacity row_capacity refused last claims open_rows _ v.seen _ (free_places 0 nodes ++ places_from run.next k) _ (open_names 1 rows) _ (v.drawn + k) _ (length rows)
        world_same free refl (omega (arith, length_after, five)) refl
        ∙ ap (λ (x : Hand). record v { hand = x; drawn = v.drawn + k }) (balanced_is v.seen (hand_reserved v.hand run.next k) (reserved_balanced now_world h.seen.lawful now_hand (lawful_hand capacity row_capacity nodes claims rows h open_rows) h.seen.held balance run.next k fits)) in
        subst (λ t. Reserved v t k run) (sym same) (record {
          grows = grows_refl v.seen;
          words = λ i m. refl;
          size = omega (arith, next, end);
          hand = refl;
          refusals = refl;
          about = refl;
          unheld = λ p m. (let f = free_unpublished capacity row_capacity nodes claims rows h p m in omega (arith, f.0, next));
          fresh = λ p r e. (let n = rec_node v.seen p r e in omega (arith, drawn_there capacity row_capacity nodes rows p n.0 n.1, next));
          alone = λ _. (refl, refl, refl);
        })
