-- Each step on places and claims keeps a world funded and a hand balanced.
use Rattle.std.proofs.Common.{◌≡◌, ℕ, suc, ◌<◌, ◌≤◌, ◌+◌, refl, sym, ap, ◌∙◌, arith, ⊎_elim, true, Some, None, List, [], ◌∷◌, length}
use Rattle.std.specs.Prelude.{option_map}
use Rattle.std.specs.Set.{is_member}
use Rattle.std.proofs.lemmas.List.{length-set}
use Rattle.std.proofs.lemmas.Bool.{true≢false, cases_eq}
use Rattle.lazy_rec.specs.declared.places.Ref.{Ref}
use Rattle.lazy_rec.specs.declared.records.Rec.{Rec}
use Rattle.lazy_rec.specs.declared.records.Rec.TheVariants.{BankRot}
use Rattle.lazy_rec.specs.declared.states.SuspState.{SuspState}
use Rattle.lazy_rec.specs.declared.states.SuspState.TheVariants.{Unforced, Claimed}
use Rattle.lazy_rec.specs.Named.{is_pending}
use Rattle.lazy_rec.specs.Units.{WorkUnit, same_unit, units}
use Rattle.heap_store.specs.declared.nodes.Node.{Node}
use Rattle.heap_store.specs.World.{World, is_claimed_at, Keeps, recs, node_at, show, is_done, is_taken}
use Rattle.heap_store.specs.Lawful.{IsLawful}
use Rattle.heap_store.specs.Hand.{Hand, IsLawfulHand, holds_claim, contains, claim_places, is_unbuilt, places_of_steps, brings, hand_reserved, hand_put, hand_won, hand_completed, hand_given_up}
use Rattle.heap_store.specs.Budget.{alone_with, all_discharged, discharged, gain, are_discharged, is_funded, is_settled, IsFunded, IsBalanced}
use Rattle.heap_store.proofs.GrowthLaws.{Up, and_up, same_up}
use Rattle.lazy_rec.proofs.TestLaws.{implies_from, implies_to}
use Rattle.heap_store.proofs.ShowLaws.{one_value, show_adds, put_grows, recs-show}
use Rattle.heap_store.proofs.LawfulLaws.{lawful_names}
use Rattle.heap_store.proofs.GainLaws.{NamesThere, names_there, discharged_kept}
use Rattle.heap_store.specs.Rows.{words_at, word_at, store_word}
use Rattle.heap_store.specs.Legal.{IsLegal}
use Rattle.heap_store.specs.RowCalls.{hand_stored}
use Rattle.heap_store.proofs.RowBudget.{EndedStay}
use Rattle.heap_store.specs.Shared.{one_if, hand_count}
use Rattle.heap_store.proofs.NameLaws.{IsPublished}
use Rattle.heap_store.proofs.BudgetSteps.{claimed_node, new_taken, taken_put, state_units, taken_other}
use Rattle.heap_store.proofs.HandSteps.{word_keeps, reserve_keeps, put_keeps, won_keeps, complete_keeps, give_up_keeps}

-- ---- funded

-- what is discharged stays so
discharged_up : (a b : World) → ((u : WorkUnit) → Up (is_member same_unit (all_discharged a) u) (is_member same_unit (all_discharged b) u)) → (us : List WorkUnit) → Up (are_discharged a us) (are_discharged b us)
discharged_up a b up [] = same_up
discharged_up a b up (u ∷ us) = and_up (up u) (discharged_up a b up us)

pub settled_up : (a b : World) → Keeps (recs a) (recs b) → ((u : WorkUnit) → Up (is_member same_unit (all_discharged a) u) (is_member same_unit (all_discharged b) u)) → (q : ℕ) (t : Rec) → NamesThere (recs a) t → Up (is_settled a q t) (is_settled b q t)
settled_up a b keeps up q (BankRot xs _ _ origin _) n h = rw (keeps xs.0 n.0.0 n.0.1) (discharged_up a b up _ (rw n.0.1 at h))
settled_up a b keeps up q _ n h = refl

module _ (w : World) (p : ℕ) (r : Rec) (inside : p < length w.nodes) (none : node_at w p ≡ None) (law : IsLawful w) where
  put_up : (u : WorkUnit) → Up (is_member same_unit (all_discharged w) u) (is_member same_unit (all_discharged (show w p r (Unforced 0))) u)
  put_up u h = ap (λ n. is_member same_unit (discharged (recs (show w p r (Unforced 0))) n) u) (length-set w.nodes p (Some (record { rec = r; state = Unforced 0 })))
      ∙ discharged_kept (recs w) (recs (show w p r (Unforced 0))) (lawful_names law) (put_grows w p r (Unforced 0) inside none).records (length w.nodes) u h

  pub put_funded : IsFunded w → NamesThere (recs w) r → is_settled w p r ≡ true → IsFunded (show w p r (Unforced 0))
  put_funded funded names settled =
      let b = show w p r (Unforced 0) in
      let adds = show_adds w p r (Unforced 0) inside none in
      record {
        taken = λ q t e. ⊎_elim
            (λ same. implies_from (is_pending t) _ (λ pend. implies_from (is_taken b q) _ (λ taken. absurd (true≢false (sym taken ∙ (ap (is_taken b) same ∙ new_taken w p r inside none law))))))
            (λ ne. (let was : recs w q ≡ Some t = sym (adds.others q ne) ∙ e in
            implies_from (is_pending t) _ (λ pend. implies_from (is_taken b q) _ (λ taken. discharged_up w b put_up (units q t) (implies_to (is_taken w q) _ (implies_to (is_pending t) _ (funded.taken q t was) pend) (taken_put w p r inside none law q ne ∙ taken))))))
            (cases_eq q p);
        settled = λ q t e. ⊎_elim
            (λ same. (let own : r ≡ t = one_value r t (sym adds.there ∙ (ap (recs b) (sym same) ∙ e)) in rw (same, ← own) (settled_up w b (put_grows w p r (Unforced 0) inside none).records put_up p r names settled)))
            (λ ne. (let was : recs w q ≡ Some t = sym (adds.others q ne) ∙ e in settled_up w b (put_grows w p r (Unforced 0) inside none).records put_up q t (names_there (recs w) q t (lawful_names law q t was)) (funded.settled q t was)))
            (cases_eq q p);
      }

module _ (w : World) (s : ℕ) (r : Rec) (old new : SuspState) (inside : s < length w.nodes) (here : node_at w s ≡ Some (record { rec = r; state = old })) (law : IsLawful w) where
  state_up : (u : WorkUnit) → Up (is_member same_unit (all_discharged w) u) (is_member same_unit (all_discharged (show w s r new)) u)
  state_up u h = ap (λ us. is_member same_unit us u) (state_units w s r old new inside here) ∙ h

  -- the suspension is paid for
  pub state_funded : IsFunded w → is_funded w s r ≡ true → IsFunded (show w s r new)
  state_funded funded paid =
      let c = show w s r new in
      let was : (q : ℕ) (t : Rec) → recs c q ≡ Some t → recs w q ≡ Some t = λ q t e. sym (recs-show w s r new inside old here q) ∙ e in
      let own : recs w s ≡ Some r = ap (option_map (λ (n : Node). n.rec)) here in
      record {
        taken = λ q t e. ⊎_elim
            (λ same. (let same_rec : r ≡ t = one_value r t (sym own ∙ (ap (recs w) (sym same) ∙ was q t e)) in
            implies_from (is_pending t) _ (λ pend. implies_from (is_taken c q) _ (λ taken. discharged_up w c state_up (units q t) (rw (same, ← same_rec) paid)))))
            (λ ne. implies_from (is_pending t) _ (λ pend. implies_from (is_taken c q) _ (λ taken. discharged_up w c state_up (units q t) (implies_to (is_taken w q) _ (implies_to (is_pending t) _ (funded.taken q t (was q t e)) pend) (taken_other w s r old new inside here q ne ∙ taken)))))
            (cases_eq q s);
        settled = λ q t e. settled_up w c (λ k u f. recs-show w s r new inside old here k ∙ f) state_up q t (names_there (recs w) q t (lawful_names law q t (was q t e))) (funded.settled q t (was q t e));
      }

-- ---- balanced: the steps of a hand that works alone

module _ (w : World) (law : IsLawful w) (h : Hand) (hand : IsLawfulHand w h) (held_all : (s : ℕ) → contains (claim_places h.claims) s ≡ is_claimed_at w s) (balance : IsBalanced (alone_with w h) 0) where
  claims_alone : (s : ℕ) → hand_count (λ x. holds_claim x s) (alone_with w h) ≡ one_if (is_claimed_at w s)
  claims_alone s = omega (arith, ap one_if (held_all s))

  mine : 0 < 1
  mine = omega arith

  known : (s : ℕ) → contains (claim_places h.claims) s ≡ true → IsPublished (recs w) s
  known s m = let n = claimed_node w s (sym (held_all s) ∙ m) in (n.0.rec, ap (option_map (λ (x : Node). x.rec)) n.1)

  pub reserved_balanced : (first k : ℕ) → k ≤ h.allowance → IsBalanced (alone_with w (hand_reserved h first k)) 0
  reserved_balanced = reserve_keeps (alone_with w h) law 0 balance (hand, tt) claims_alone 0 h mine

  pub put_balanced : (p : ℕ) (r : Rec) → p < length w.nodes → node_at w p ≡ None → 5 ≤ p → contains h.reserved p ≡ true → NamesThere (recs w) r
      → gain (length w.nodes) (recs w) p r ≤ h.credits + brings (recs w) h.claims → IsBalanced (alone_with (show w p r (Unforced 0)) (hand_put (recs w) h p r (gain (length w.nodes) (recs w) p r))) 0
  put_balanced p r inside none high held names paid =
      let b = put_keeps (alone_with w h) law 0 balance (hand, tt) claims_alone 0 h mine w law (λ q t e. e) refl known p r inside none high held names paid in
      record { paid = omega (arith, b.paid); places = b.places }

  module _ (s : ℕ) (r : Rec) (old new : SuspState) (inside : s < length w.nodes) (here : node_at w s ≡ Some (record { rec = r; state = old })) where
    own : recs w s ≡ Some r
    own = ap (option_map (λ (x : Node). x.rec)) here

    pub won_balanced : (k k' : ℕ) → old ≡ Unforced k → new ≡ Claimed k' → (place : Ref) → place.0 ≡ s → IsBalanced (alone_with (show w s r new) (hand_won (recs w) h place)) 0
    won_balanced = won_keeps (alone_with w h) law 0 balance (hand, tt) claims_alone 0 h mine s r old new inside here w own

    module _ (k : ℕ) (was : old ≡ Claimed k) (held : holds_claim h s ≡ true) where
      pub completed_balanced : is_done (show w s r new) s ≡ true → IsBalanced (alone_with (show w s r new) (hand_completed (recs w) h s)) 0
      completed_balanced = complete_keeps (alone_with w h) law 0 balance (hand, tt) claims_alone 0 h mine s r old new inside here w own k was held

      pub given_up_balanced : (k' : ℕ) → new ≡ Unforced k' → is_unbuilt h s ≡ true → places_of_steps (recs w) s ≤ h.allowance → IsBalanced (alone_with (show w s r new) (hand_given_up (recs w) h s)) 0
      given_up_balanced = give_up_keeps (alone_with w h) law 0 balance (hand, tt) claims_alone 0 h mine s r old new inside here w own k was held

  module _ (k i v : ℕ) (there : k < length w.rows) (fits : i < length (words_at w (suc k))) (once : i < 3 → word_at w (suc k) 0 ≡ 0)
      (legal : IsLegal w) (legal_after : IsLegal (store_word w (suc k) i v)) (stay : EndedStay w (store_word w (suc k) i v)) where
    pub stored_balanced : IsBalanced (alone_with (store_word w (suc k) i v) (hand_stored (store_word w (suc k) i v) h (suc k) i v)) 0
    stored_balanced = word_keeps (alone_with w h) law 0 balance (hand, tt) claims_alone 0 h mine k i v there fits once legal legal_after stay (store_word w (suc k) i v) refl refl
