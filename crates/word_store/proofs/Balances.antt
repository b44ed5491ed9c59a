-- The budget stays balanced over all hands when one hand makes a step.
use Rattle.std.proofs.Common.{◌≡◌, ℕ, zero, suc, ◌+◌, ◌-◌, ◌<◌, ◌≤◌, List, [], ◌∷◌, length, refl, sym, ap, ◌∙◌, arith, subst, Bool, true, cond, ◌||◌, Some, None}
use Rattle.std.specs.Prelude.{slice_index_or, slice_set, sum_by}
use Rattle.std.specs.List.{AllByRecursion, list_any}
use mathlib.Core.Option.{some, some-injective, some-ne-none}
use mathlib.Core.Path.{fun_ext}
use lib.ListN.{get_elem?}
use Rattle.lazy_rec.specs.declared.places.Ref.{Ref}
use Rattle.lazy_rec.specs.declared.records.Rec.{Rec}
use Rattle.lazy_rec.specs.declared.states.SuspState.{SuspState}
use Rattle.lazy_rec.specs.declared.states.SuspState.TheVariants.{Unforced, Claimed}
use Rattle.lazy_rec.specs.Units.{credits}
use Rattle.heap_store.specs.World.{World, Keeps, recs, node_at, show, is_done, is_claimed_at}
use Rattle.heap_store.specs.Lawful.{IsLawful}
use Rattle.heap_store.specs.Legal.{IsLegal}
use Rattle.heap_store.specs.Rows.{words_at, word_at, store_word}
use Rattle.heap_store.specs.RowCalls.{hand_stored}
use Rattle.heap_store.specs.Hand.{Hand, IsLawfulHand, contains, holds_claim, is_built, is_unbuilt, claim_places, brings, places_of_steps, hand_put, hand_reserved, hand_won, hand_completed, hand_given_up}
use Rattle.heap_store.specs.Shared.{one_if, hand_count}
use Rattle.heap_store.specs.Budget.{Running, IsBalanced, credits_brought, sum_records, gain, due_at, direct_at}
use Rattle.heap_store.proofs.NameLaws.{IsPublished}
use Rattle.heap_store.proofs.GainLaws.{NamesThere}
use Rattle.heap_store.proofs.RowBudget.{EndedStay}
use Rattle.heap_store.proofs.HandSteps.{put_keeps, reserve_keeps, word_keeps, won_keeps, complete_keeps, give_up_keeps}
use Rattle.word_store.specs.declared.sight.Sight.{Sight}
use Rattle.word_store.specs.declared.sight.Size.{Size}
use Rattle.word_store.specs.Rule.{IsKept, shows, running, hands_of, plan_of}
use Rattle.word_store.proofs.Sums.{there, sum-changed}
use Rattle.word_store.proofs.Moves.{St}
use Rattle.word_store.proofs.Soundness.{sum-hands}

pub hands-set : (views : List Sight) (id : ℕ) (w : Sight) → hands_of (slice_set views id w) ≡ slice_set (hands_of views) id w.hand
hands-set [] id w = refl
hands-set (x ∷ views) zero w = refl
hands-set (x ∷ views) (suc id) w = ap (λ hs. x.hand ∷ hs) (hands-set views id w)

hands-length : (views : List Sight) → length (hands_of views) ≡ length views
hands-length [] = refl
hands-length (x ∷ views) = ap suc (hands-length views)

hand-at : (views : List Sight) (id : ℕ) (v : Sight) → get_elem? views id ≡ some v → slice_index_or (hands_of views) id v.hand ≡ v.hand
hand-at [] id v me = absurd (some-ne-none v (sym me))
hand-at (x ∷ views) zero v me = ap (λ (u : Sight). u.hand) (some-injective x v me)
hand-at (x ∷ views) (suc id) v me = hand-at views id v me

all_hands : (P : Hand → Type 0) (views : List Sight) → ((j : ℕ) (u : Sight) → get_elem? views j ≡ some u → P u.hand) → AllByRecursion P (hands_of views)
all_hands P [] each = tt
all_hands P (x ∷ views) each = (each 0 x refl, all_hands P views (λ j u at. each (suc j) u at))

any_set : (t : Hand → Bool) (views : List Sight) (id : ℕ) (u w : Sight) → t w.hand ≡ t u.hand → list_any t (hands_of (slice_set views id w)) ≡ list_any t (hands_of (slice_set views id u))
any_set t [] id u w e = refl
any_set t (x ∷ views) zero u w e = ap (λ b. b || list_any t (hands_of views)) e
any_set t (x ∷ views) (suc id) u w e = ap (λ b. t x.hand || b) (any_set t views id u w e)

set_own : (views : List Sight) (id : ℕ) (v : Sight) → get_elem? views id ≡ some v → slice_set views id v ≡ views
set_own [] id v me = refl
set_own (x ∷ views) zero v me = ap (λ u. u ∷ views) (sym (some-injective x v me))
set_own (x ∷ views) (suc id) v me = ap (λ us. x ∷ us) (set_own views id v me)

module _ (k : Size) (s : St) (o : IsKept k s) (id : ℕ) (v : Sight) (me : get_elem? s.views id ≡ some v) where
  abbrev g : Running
  g = running k s.words s.views

  -- a hand in place of one with the same claims, places, credits and allowance
  pub alike_balance : (x : World) (u w : Sight) (lost : ℕ) → w.hand.claims ≡ u.hand.claims → w.hand.reserved ≡ u.hand.reserved → w.hand.credits ≡ u.hand.credits → w.hand.allowance ≡ u.hand.allowance
      → IsBalanced (record { world = x; hands = hands_of (slice_set s.views id u); plan = (plan_of k) }) lost → IsBalanced (record { world = x; hands = hands_of (slice_set s.views id w); plan = (plan_of k) }) lost
  alike_balance x u w lost claims reserved credits_same allowance b = record {
    paid = omega (arith, b.paid, total (λ (h : Hand). h.credits) credits_same, brought);
    places = omega (arith, b.places, total (λ (h : Hand). h.allowance) allowance, total (λ (h : Hand). length h.reserved) (ap length reserved));
  }
    where
      total : (f : Hand → ℕ) → f w.hand ≡ f u.hand → sum_by f (hands_of (slice_set s.views id w)) ≡ sum_by f (hands_of (slice_set s.views id u))
      total f e = omega (arith, sum-hands f (slice_set s.views id w), sum-hands f (slice_set s.views id u), sum-changed (λ (y : Sight). f y.hand) s.views id v w me, sum-changed (λ (y : Sight). f y.hand) s.views id v u me, e)

      building : (p : ℕ) → list_any (λ (h : Hand). is_built h.claims p) (hands_of (slice_set s.views id w)) ≡ list_any (λ (h : Hand). is_built h.claims p) (hands_of (slice_set s.views id u))
      building p = any_set (λ (h : Hand). is_built h.claims p) s.views id u w (ap (λ cs. is_built cs p) claims)

      brought : credits_brought (record { world = x; hands = hands_of (slice_set s.views id w); plan = (plan_of k) }) ≡ credits_brought (record { world = x; hands = hands_of (slice_set s.views id u); plan = (plan_of k) })
      brought = ap (λ (f : ℕ → Bool). sum_records x (λ p r. cond (is_done x p || f p) (credits r) 0)) (fun_ext building)

  -- the same in the same world
  pub same_balance : (ws : List ℕ) (w : Sight) → shows k ws ≡ shows k s.words → w.hand.claims ≡ v.hand.claims → w.hand.reserved ≡ v.hand.reserved → w.hand.credits ≡ v.hand.credits → w.hand.allowance ≡ v.hand.allowance
      → IsBalanced (running k ws (slice_set s.views id w)) o.lost
  same_balance ws w now claims reserved credits_same allowance = subst (λ x. IsBalanced (record { world = x; hands = hands_of (slice_set s.views id w); plan = (plan_of k) }) o.lost) (sym now)
      (alike_balance (shows k s.words) v w o.lost claims reserved credits_same allowance (subst (λ views. IsBalanced (running k s.words views) o.lost) (sym (set_own s.views id v me)) o.balance))

  lawful : AllByRecursion (IsLawfulHand (shows k s.words)) (hands_of s.views)
  lawful = all_hands (IsLawfulHand (shows k s.words)) s.views (λ j u at. (o.seats j u at).hand)

  claims_of : (p : ℕ) → hand_count (λ h. holds_claim h p) (running k s.words s.views) ≡ one_if (is_claimed_at (shows k s.words) p)
  claims_of p = sum-hands (λ h. one_if (holds_claim h p)) s.views ∙ o.claims p

  inside : id < length (hands_of s.views)
  inside = omega (arith, hands-length s.views, there s.views id v me)

  own_is : slice_index_or (hands_of s.views) id v.hand ≡ v.hand
  own_is = hand-at s.views id v me

  -- what a step of one hand keeps, over all seats
  over_seats : (ws : List ℕ) (w : Sight) (x : World) (lost : ℕ) → shows k ws ≡ x → IsBalanced (record { world = x; hands = slice_set (hands_of s.views) id w.hand; plan = (plan_of k) }) lost → IsBalanced (running k ws (slice_set s.views id w)) lost
  over_seats ws w x lost now b = subst (λ hs. IsBalanced (record { world = shows k ws; hands = hs; plan = (plan_of k) }) lost) (sym (hands-set s.views id w)) (subst (λ y. IsBalanced (record { world = y; hands = slice_set (hands_of s.views) id w.hand; plan = (plan_of k) }) lost) (sym now) b)

  pub reserved_balance : (ws : List ℕ) (w : Sight) (first n : ℕ) → shows k ws ≡ shows k s.words → w.hand ≡ hand_reserved v.hand first n → n ≤ v.hand.allowance → IsBalanced (running k ws (slice_set s.views id w)) o.lost
  reserved_balance ws w first n now is fits = over_seats ws w (shows k s.words) o.lost now
      (subst (λ h. IsBalanced (record { world = shows k s.words; hands = slice_set (hands_of s.views) id h; plan = (plan_of k) }) o.lost) (ap (λ h. hand_reserved h first n) own_is ∙ sym is)
      (reserve_keeps (running k s.words s.views) o.well.world o.lost o.balance lawful claims_of id v.hand inside first n (subst (λ (h : Hand). n ≤ h.allowance) (sym own_is) fits)))

  pub put_balance : (ws : List ℕ) (w : Sight) (p : ℕ) (r : Rec) (a : World) → shows k ws ≡ show (shows k s.words) p r (Unforced 0) → p < length (shows k s.words).nodes → node_at (shows k s.words) p ≡ None → 5 ≤ p → contains v.hand.reserved p ≡ true
      → IsLawful a → Keeps (recs a) (recs (shows k s.words)) → length a.nodes ≡ length (shows k s.words).nodes → ((q : ℕ) → contains (claim_places v.hand.claims) q ≡ true → IsPublished (recs a) q) → NamesThere (recs a) r
      → gain (length a.nodes) (recs a) p r ≤ v.hand.credits + brings (recs a) v.hand.claims → w.hand ≡ hand_put (recs a) v.hand p r (gain (length a.nodes) (recs a) p r)
      → IsBalanced (running k ws (slice_set s.views id w)) (o.lost + (gain (length a.nodes) (recs a) p r - gain (length (shows k s.words).nodes) (recs (shows k s.words)) p r))
  put_balance ws w p r a now in_list none high mine law_a keeps size known names paid is = over_seats ws w (show (shows k s.words) p r (Unforced 0)) (o.lost + (gain (length a.nodes) (recs a) p r - gain (length (shows k s.words).nodes) (recs (shows k s.words)) p r)) now
      (subst (λ h. IsBalanced (record { world = show (shows k s.words) p r (Unforced 0); hands = slice_set (hands_of s.views) id h; plan = (plan_of k) }) (o.lost + (gain (length a.nodes) (recs a) p r - gain (length (shows k s.words).nodes) (recs (shows k s.words)) p r))) (ap (λ h. hand_put (recs a) h p r (gain (length a.nodes) (recs a) p r)) own_is ∙ sym is)
      (put_keeps (running k s.words s.views) o.well.world o.lost o.balance lawful claims_of id v.hand inside a law_a keeps size
      (subst (λ (h : Hand). (q : ℕ) → contains (claim_places h.claims) q ≡ true → IsPublished (recs a) q) (sym own_is) known) p r in_list none high
      (subst (λ (h : Hand). contains h.reserved p ≡ true) (sym own_is) mine) names
      (subst (λ (h : Hand). gain (length a.nodes) (recs a) p r ≤ h.credits + brings (recs a) h.claims) (sym own_is) paid)))

  module _ (ws : List ℕ) (w : Sight) (p : ℕ) (r : Rec) (old new : SuspState) (now : shows k ws ≡ show (shows k s.words) p r new) (in_list : p < length (shows k s.words).nodes)
      (here : node_at (shows k s.words) p ≡ Some (record { rec = r; state = old })) (a : World) (seen : recs a p ≡ Some r) where
    pub won_balance : (n n' : ℕ) → old ≡ Unforced n → new ≡ Claimed n' → (c : Ref) → c.0 ≡ p → w.hand ≡ hand_won (recs a) v.hand c → IsBalanced (running k ws (slice_set s.views id w)) o.lost
    won_balance n n' was is c at hand = over_seats ws w (show (shows k s.words) p r new) o.lost now
        (subst (λ h. IsBalanced (record { world = show (shows k s.words) p r new; hands = slice_set (hands_of s.views) id h; plan = (plan_of k) }) o.lost) (ap (λ h. hand_won (recs a) h c) own_is ∙ sym hand)
        (won_keeps (running k s.words s.views) o.well.world o.lost o.balance lawful claims_of id v.hand inside p r old new in_list here a seen n n' was is c at))

    module _ (n : ℕ) (was : old ≡ Claimed n) (held : holds_claim v.hand p ≡ true) where
      held_own : holds_claim (slice_index_or (hands_of s.views) id v.hand) p ≡ true
      held_own = subst (λ (h : Hand). holds_claim h p ≡ true) (sym own_is) held

      pub completed_balance : is_done (show (shows k s.words) p r new) p ≡ true → w.hand ≡ hand_completed (recs a) v.hand p → IsBalanced (running k ws (slice_set s.views id w)) o.lost
      completed_balance done hand = over_seats ws w (show (shows k s.words) p r new) o.lost now
          (subst (λ h. IsBalanced (record { world = show (shows k s.words) p r new; hands = slice_set (hands_of s.views) id h; plan = (plan_of k) }) o.lost) (ap (λ h. hand_completed (recs a) h p) own_is ∙ sym hand)
          (complete_keeps (running k s.words s.views) o.well.world o.lost o.balance lawful claims_of id v.hand inside p r old new in_list here a seen n was held_own done))

      pub given_up_balance : (n' : ℕ) → new ≡ Unforced n' → is_unbuilt v.hand p ≡ true → places_of_steps (recs a) p ≤ v.hand.allowance → w.hand ≡ hand_given_up (recs a) v.hand p → IsBalanced (running k ws (slice_set s.views id w)) o.lost
      given_up_balance n' is unbuilt fits hand = over_seats ws w (show (shows k s.words) p r new) o.lost now
          (subst (λ h. IsBalanced (record { world = show (shows k s.words) p r new; hands = slice_set (hands_of s.views) id h; plan = (plan_of k) }) o.lost) (ap (λ h. hand_given_up (recs a) h p) own_is ∙ sym hand)
          (give_up_keeps (running k s.words s.views) o.well.world o.lost o.balance lawful claims_of id v.hand inside p r old new in_list here a seen n was held_own n' is
          (subst (λ (h : Hand). is_unbuilt h p ≡ true) (sym own_is) unbuilt) (subst (λ (h : Hand). places_of_steps (recs a) p ≤ h.allowance) (sym own_is) fits)))

  -- a word of a row is stored. The rest of the hand may change too
  pub stored_balance : (ws : List ℕ) (w : Sight) (i j x : ℕ) (b : World) → shows k ws ≡ store_word (shows k s.words) (suc i) j x → i < length (shows k s.words).rows → j < length (words_at (shows k s.words) (suc i)) → (j < 3 → word_at (shows k s.words) (suc i) 0 ≡ 0)
      → IsLegal (store_word (shows k s.words) (suc i) j x) → EndedStay (shows k s.words) (store_word (shows k s.words) (suc i) j x)
      → due_at b (suc i) ≡ due_at (store_word (shows k s.words) (suc i) j x) (suc i) → direct_at b (suc i) ≡ direct_at (store_word (shows k s.words) (suc i) j x) (suc i)
      → w.hand ≡ hand_stored b v.hand (suc i) j x → IsBalanced (running k ws (slice_set s.views id w)) o.lost
  stored_balance ws w i j x b now row_in word_in once legal stay due direct hand = over_seats ws w (store_word (shows k s.words) (suc i) j x) o.lost now
      (subst (λ h. IsBalanced (record { world = store_word (shows k s.words) (suc i) j x; hands = slice_set (hands_of s.views) id h; plan = (plan_of k) }) o.lost) (ap (λ h. hand_stored b h (suc i) j x) own_is ∙ sym hand)
      (word_keeps (running k s.words s.views) o.well.world o.lost o.balance lawful claims_of id v.hand inside i j x row_in word_in once o.well.legal legal stay b due direct))
