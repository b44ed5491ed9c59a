-- A step of one hand on places, claims and rows, by what it has seen, keeps the actual world and all hands balanced.
use Rattle.std.proofs.Common.{◌≡◌, ℕ, zero, suc, ◌<◌, ◌≤◌, ◌+◌, ◌-◌, ◌*◌, refl, sym, ap, ◌∙◌, arith, subst, eqb, not, Bool, true, false, cond, ◌&&◌, ◌||◌, Some, None, List, [], ◌∷◌, length, length-append}
use Rattle.std.specs.Prelude.{sum_by, slice_set, slice_index_or, option_map, option_and_then}
use Rattle.std.specs.List.{AllByRecursion, list_any}
use mathlib.Core.Path.{fun_ext}
use Rattle.std.proofs.lemmas.Bool.{true≢false, and_parts, and_from, or_left, eq-eqb, ne_eqb}
use Rattle.std.proofs.lemmas.List.Sums.{sum_by-cons, sum_by-set}
use Rattle.lazy_rec.specs.declared.places.Ref.{Ref}
use Rattle.lazy_rec.specs.declared.records.Rec.{Rec}
use Rattle.lazy_rec.specs.declared.states.SuspState.{SuspState}
use Rattle.lazy_rec.specs.declared.states.SuspState.TheVariants.{Unforced, Claimed}
use Rattle.lazy_rec.specs.Tests.{is_some_and}
use Rattle.lazy_rec.specs.States.{kept}
use Rattle.lazy_rec.specs.Named.{named, at_record}
use Rattle.lazy_rec.specs.Units.{steps, credits}
use Rattle.heap_store.specs.declared.nodes.Node.{Node}
use Rattle.heap_store.specs.declared.claims.HeldClaim.{HeldClaim}
use Rattle.heap_store.specs.World.{World, Keeps, recs, node_at, show, is_done, is_claimed_at}
use Rattle.heap_store.specs.Lawful.{IsLawful}
use Rattle.heap_store.specs.Hand.{Hand, IsLawfulHand, contains, claim_places, holds_claim, is_claim_well, is_built, mark_newest, is_later, credits_at, brings, places_from, places_of_steps, is_unbuilt, without_claim, hand_put, hand_reserved, hand_won, hand_completed, hand_given_up, hand_begun, hand_ended}
use Rattle.heap_store.specs.Budget.{Running, unit_count, gain, dues, direct_places, is_being_built, sum_records, credits_brought, places_given, IsBalanced}
use Rattle.lazy_rec.specs.Due.{due, direct}
use Rattle.heap_store.specs.Rows.{words_at, word_at, store_word}
use Rattle.heap_store.specs.Legal.{IsLegal}
use Rattle.heap_store.specs.Budget.{due_at, direct_at}
use Rattle.heap_store.specs.RowCalls.{begins_row, ends_row, hand_stored}
use Rattle.heap_store.proofs.RowBudget.{EndedStay, stored_sum, begun_sum}
use Rattle.heap_store.specs.Shared.{one_if, hand_count}
use Rattle.heap_store.proofs.Alls.{All-map}
use Rattle.heap_store.proofs.NameLaws.{IsPublished}
use Rattle.heap_store.proofs.GainLaws.{NamesThere, gain_falls}
use Rattle.heap_store.proofs.SumLaws.{sum-changed}
use Rattle.heap_store.proofs.LawfulLaws.{within, lawful_names}
use Rattle.heap_store.proofs.ShowLaws.{show_adds}
use Rattle.heap_store.proofs.BoundLaws.{built_claimed}
use Rattle.heap_store.proofs.BudgetSteps.{published, put_units, put_published, put_steps, sum_put, sum_state, done_other, state_units, state_published, won_steps, completed_steps, given_up_steps, unbuilt_or, built-without_other, built-without_same, done_was, done_now, cond_yes, done_put, new_done, not_claimed, same_term, claimed_node, claimed_open, unheld_unbuilt, length-without, cond_no, not_true, not_false}

-- ---- one hand among several

one_in' : {X : Type 0} (t : X → Bool) (xs : List X) (i : ℕ) (d : X) → i < length xs → t (slice_index_or xs i d) ≡ true → 1 ≤ sum_by (λ x. one_if (t x)) xs
one_in' t [] i d l e = absurd (omega arith)
one_in' t (x ∷ xs) zero d l e = omega (arith, sum_by-cons (λ x. one_if (t x)) x xs, ap one_if e)
one_in' t (x ∷ xs) (suc i) d l e = omega (arith, sum_by-cons (λ x. one_if (t x)) x xs, one_in' t xs i d (omega arith) e)

module _ {X : Type 0} (t t' : X → Bool) (within_test : (x : X) → t' x ≡ true → t x ≡ true) where
  none_of : (xs : List X) → sum_by (λ x. one_if (t x)) xs ≤ 0 → list_any t' xs ≡ false
  none_of [] h = refl
  none_of (x ∷ xs) h =
      let k = sum_by-cons (λ x. one_if (t x)) x xs in
      let first : t' x ≡ false = by (t' x) refl in
      rw first (none_of xs (omega (arith, k, h)))
    where
      by : (b : Bool) → t' x ≡ b → t' x ≡ false
      by true e = absurd (omega (arith, sum_by-cons (λ x. one_if (t x)) x xs, h, ap one_if (within_test x e)))
      by false e = e

  -- where only one element can pass a test, a narrower test passes where that one does
  pub any_only : (xs : List X) (i : ℕ) (d : X) → i < length xs → sum_by (λ x. one_if (t x)) xs ≤ 1 → t (slice_index_or xs i d) ≡ true → list_any t' xs ≡ t' (slice_index_or xs i d)
  any_only [] i d l h e = absurd (omega arith)
  any_only (x ∷ xs) zero d l h e =
      let k = sum_by-cons (λ x. one_if (t x)) x xs in
      rw (none_of xs (omega (arith, k, h, ap one_if e))) (or_none (t' x))
    where
      or_none : (b : Bool) → (b || false) ≡ b
      or_none true = refl
      or_none false = refl
  any_only (x ∷ xs) (suc i) d l h e =
      let k = sum_by-cons (λ x. one_if (t x)) x xs in
      let rest = one_in' t xs i d (omega arith) e in
      rw (not_true (t' x) (λ f. absurd (omega (arith, k, h, rest, ap one_if (within_test x f))))) (any_only xs i d (omega arith) (omega (arith, k, h)) e)

  -- and the same where that one is replaced
  pub any_set : (xs : List X) (i : ℕ) (d new : X) → i < length xs → sum_by (λ x. one_if (t x)) xs ≤ 1 → t (slice_index_or xs i d) ≡ true → list_any t' (slice_set xs i new) ≡ t' new
  any_set [] i d new l h e = absurd (omega arith)
  any_set (x ∷ xs) zero d new l h e =
      let k = sum_by-cons (λ x. one_if (t x)) x xs in
      rw (none_of xs (omega (arith, k, h, ap one_if e))) (or_none (t' new))
    where
      or_none : (b : Bool) → (b || false) ≡ b
      or_none true = refl
      or_none false = refl
  any_set (x ∷ xs) (suc i) d new l h e =
      let k = sum_by-cons (λ x. one_if (t x)) x xs in
      let rest = one_in' t xs i d (omega arith) e in
      rw (not_true (t' x) (λ f. absurd (omega (arith, k, h, rest, ap one_if (within_test x f))))) (any_set xs i d new (omega arith) (omega (arith, k, h)) e)

any_same : {X : Type 0} (t : X → Bool) (xs : List X) (i : ℕ) (d new : X) → i < length xs → t new ≡ t (slice_index_or xs i d) → list_any t (slice_set xs i new) ≡ list_any t xs
any_same t [] i d new l e = absurd (omega arith)
any_same t (x ∷ xs) zero d new l e = rw e refl
any_same t (x ∷ xs) (suc i) d new l e = rw (any_same t xs i d new (omega arith) e) refl

all_at : {X : Type 0} (P : X → Type 0) (xs : List X) (i : ℕ) (d : X) → AllByRecursion P xs → i < length xs → P (slice_index_or xs i d)
all_at P [] i d h l = absurd (omega arith)
all_at P (x ∷ xs) zero d h l = h.0
all_at P (x ∷ xs) (suc i) d h l = all_at P xs i d h.1 (omega arith)

-- what a hand builds it holds
built_held : (s : ℕ) (h : Hand) → is_built h.claims s ≡ true → holds_claim h s ≡ true
built_held s h e = by (holds_claim h s) refl
  where
    by : (b : Bool) → holds_claim h s ≡ b → holds_claim h s ≡ true
    by true f = f
    by false f = absurd (true≢false (sym e ∙ unheld_unbuilt s h.claims f))

-- ---- credits brought, by what is being built

pub brought_by : World → (ℕ → Bool) → ℕ
brought_by w building = sum_records w (λ p r. cond (is_done w p || building p) (credits r) 0)

change_by : (w : World) (old new : ℕ → Bool) (s : ℕ) (t : Rec) → recs w s ≡ Some t → is_done w s ≡ false → ((q : ℕ) → (q ≡ s → ⊥) → old q ≡ new q) → brought_by w new + cond (old s) (credits t) 0 ≡ brought_by w old + cond (new s) (credits t) 0
unfolding brought_by
change_by w old new s t here undone same =
    let f : ℕ → Rec → ℕ = λ p r. cond (is_done w p || old p) (credits r) 0 in
    let g : ℕ → Rec → ℕ = λ p r. cond (is_done w p || new p) (credits r) 0 in
    omega (
      arith,
      sum-changed (recs w) (recs w) f g s (length w.nodes) (within w s t here) (λ q ne. same_term (is_done w q || old q) (is_done w q || new q) (recs w q) (recs w q) credits (ap (λ z. is_done w q || z) (same q ne)) refl),
      ap (at_record 0 (f s)) here,
      ap (at_record 0 (g s)) here,
      ap {B = ℕ} (λ z. cond (z || old s) (credits t) 0) undone,
      ap {B = ℕ} (λ z. cond (z || new s) (credits t) 0) undone,
    )

put_by : (w : World) (p : ℕ) (r : Rec) (inside : p < length w.nodes) (none : node_at w p ≡ None) (law : IsLawful w) (building : ℕ → Bool) → building p ≡ false → brought_by (show w p r (Unforced 0)) building ≡ brought_by w building
unfolding brought_by
put_by w p r inside none law building free =
    let b = show w p r (Unforced 0) in
    omega (
      arith,
      sum_put w p r inside none law (λ p r. cond (is_done w p || building p) (credits r) 0) (λ p r. cond (is_done b p || building p) (credits r) 0)
          (λ q ne. same_term (is_done w q || building q) (is_done b q || building q) (recs w q) (recs b q) credits (ap (λ z. z || building q) (done_put w p r inside none law q ne)) (sym ((show_adds w p r (Unforced 0) inside none).others q ne))),
      cond_no (is_done b p || building p) (credits r) (rw (new_done w p r inside none law, free) refl),
    )

-- a suspension shows another state
state_by : (w : World) (s : ℕ) (r : Rec) (old new : SuspState) (inside : s < length w.nodes) (here : node_at w s ≡ Some (record { rec = r; state = old })) (before after : ℕ → Bool) → ((q : ℕ) → (q ≡ s → ⊥) → before q ≡ after q)
    → brought_by (show w s r new) after + cond (is_done w s || before s) (credits r) 0 ≡ brought_by w before + cond (is_done (show w s r new) s || after s) (credits r) 0
unfolding brought_by
state_by w s r old new inside here before after same =
    let c = show w s r new in
    sum_state w s r old new inside here (λ p r. cond (is_done w p || before p) (credits r) 0) (λ p r. cond (is_done c p || after p) (credits r) 0)
    (λ q ne. same_term (is_done w q || before q) (is_done c q || after q) (recs w q) (recs w q) credits (rw (done_other w s r old new inside here q ne, same q ne) refl) refl)

given_of : (g : Running) (w : World) (hands : List Hand) → places_given (record g { world = w; hands = hands }) ≡ published w + sum_by (λ (h : Hand). length h.reserved) hands
unfolding published
given_of g w hands = refl

-- ---- a step of one hand

module _ (g : Running) (law : IsLawful g.world) (lost : ℕ) (balance : IsBalanced g lost) (lawful : AllByRecursion (IsLawfulHand g.world) g.hands)
    (claims_of : (s : ℕ) → hand_count (λ h. holds_claim h s) g ≡ one_if (is_claimed_at g.world s)) (id : ℕ) (d : Hand) (mine : id < length g.hands) where
  abbrev own : Hand
  own = slice_index_or g.hands id d

  abbrev after : World → Hand → Running
  after w h = record g { world = w; hands = slice_set g.hands id h }

  sums : (f : Hand → ℕ) (new : Hand) → sum_by f (slice_set g.hands id new) + f (slice_index_or g.hands id d) ≡ sum_by f g.hands + f new
  sums f new = sum_by-set f g.hands id new d mine

  own_lawful : IsLawfulHand g.world (slice_index_or g.hands id d)
  own_lawful = all_at (IsLawfulHand g.world) g.hands id d lawful mine

  one_holder : (s : ℕ) → hand_count (λ h. holds_claim h s) g ≤ 1
  one_holder s = by (is_claimed_at g.world s) (claims_of s)
    where
      by : (b : Bool) → hand_count (λ h. holds_claim h s) g ≡ one_if b → hand_count (λ h. holds_claim h s) g ≤ 1
      by true e = omega (arith, e)
      by false e = omega (arith, e)

  same_building : (new : Hand) (q : ℕ) → is_built new.claims q ≡ is_built own.claims q → (w : World) → is_being_built (after w new) q ≡ is_being_built g q
  same_building new q e w = any_same (λ (h : Hand). is_built h.claims q) g.hands id d new mine e

  -- what the hand has seen: part of the actual world
  module _ (a : World) (law_a : IsLawful a) (keeps : Keeps (recs a) (recs g.world)) (same_size : length a.nodes ≡ length g.world.nodes) where
    -- each claim in hand was seen
    module _ (known : (s : ℕ) → contains (claim_places own.claims) s ≡ true → IsPublished (recs a) s) where
      unbuilt_free : (p : ℕ) (r : Rec) (inside : p < length g.world.nodes) (none : node_at g.world p ≡ None) → is_being_built g p ≡ false
      unbuilt_free p r inside none = not_true (is_being_built g p) (λ e. not_claimed g.world p r inside none law (built_claimed g.world p g.hands lawful e))

      put_brought_by : (p : ℕ) (r : Rec) (inside : p < length g.world.nodes) (none : node_at g.world p ≡ None) (k : ℕ) (later : Bool) (new : Hand) (cs : List HeldClaim) → own.claims ≡ cs → new.claims ≡ mark_newest later cs
          → credits_brought (after (show g.world p r (Unforced 0)) new) ≡ credits_brought g + brings (recs a) cs
      unfolding brought_by
      put_brought_by p r inside none k later new [] e f =
          let w = g.world in
          let b = show w p r (Unforced 0) in
          let same : (q : ℕ) → is_being_built (after b new) q ≡ is_being_built g q = λ q. same_building new q (ap (λ cs. is_built cs q) (f ∙ sym e)) b in
          omega (
            arith,
            put_by w p r inside none law (is_being_built (after b new)) (same p ∙ unbuilt_free p r inside none),
            ap (brought_by w) (fun_ext same),
          )
      put_brought_by p r inside none k later new (c ∷ cs) e f =
          let w = g.world in
          let b = show w p r (Unforced 0) in
          let s = c.place.0 in
          let hand = own_lawful in
          let well = rw e at hand.claims in
          let once = rw e at hand.claims_once in
          let claimed = (and_parts (is_claimed_at w s) _ (and_parts (is_claim_well w c) _ well).0).0 in
          let n = claimed_node w s claimed in
          let t = n.0.rec in
          let here : recs w s ≡ Some t = ap (option_map (λ (m : Node). m.rec)) n.1 in
          let undone : is_done w s ≡ false = ap (λ o. is_some_and (λ d. true) (option_and_then (λ (m : Node). kept m.state) o)) n.1 ∙ ap (is_some_and (λ d. true)) (claimed_open n.0.state n.2) in
          let apart : s ≡ p → ⊥ = λ z. not_claimed w p r inside none law (subst (λ z. is_claimed_at w z ≡ true) z claimed) in
          let free : is_built cs s ≡ false = unheld_unbuilt s cs (not_false (contains (claim_places cs) s) (and_parts (not (contains (claim_places cs) s)) _ once).0) in
          let others : (q : ℕ) → (q ≡ s → ⊥) → is_being_built g q ≡ is_being_built (after b new) q = λ q ne. sym (same_building new q (ap (λ cs. is_built cs q) f ∙ (marked q (λ z. ne (sym z)) ∙ sym (ap (λ cs. is_built cs q) e))) b) in
          let held : holds_claim own s ≡ true = ap (λ cs. contains (claim_places cs) s) e ∙ or_left _ _ (eq-eqb s s refl) in
          let was : is_being_built g s ≡ c.built = any_only (λ h. holds_claim h s) (λ (h : Hand). is_built h.claims s) (built_held s) g.hands id d mine (one_holder s) held ∙ (ap (λ cs. is_built cs s) e ∙ rw (eq-eqb s s refl, free) (or_none c.built)) in
          let now : is_being_built (after b new) s ≡ true = any_set (λ h. holds_claim h s) (λ (h : Hand). is_built h.claims s) (built_held s) g.hands id d new mine (one_holder s) held ∙ (ap (λ cs. is_built cs s) f ∙ or_left _ _ (and_from _ _ (eq-eqb s s refl) refl)) in
          let seen = known s held in
          let bring : brings (recs a) (c ∷ cs) ≡ cond c.built 0 (credits t) = ap (λ o. cond c.built 0 (at_record 0 credits o)) (seen.1 ∙ (sym (keeps s seen.0 seen.1) ∙ here)) in
          omega (
            arith,
            put_by w p r inside none law (is_being_built (after b new)) (sym (others p (λ z. apart (sym z))) ∙ unbuilt_free p r inside none),
            change_by w (is_being_built g) (is_being_built (after b new)) s t here undone others,
            ap {B = ℕ} (λ z. cond z (credits t) 0) was,
            ap {B = ℕ} (λ z. cond z (credits t) 0) now,
            bring,
            either c.built (credits t),
          )
        where
          or_none : (b : Bool) → (b || false) ≡ b
          or_none true = refl
          or_none false = refl

          marked : (q : ℕ) → (c.place.0 ≡ q → ⊥) → is_built (mark_newest later (c ∷ cs)) q ≡ is_built (c ∷ cs) q
          marked q ne = rw (ne_eqb c.place.0 q ne) refl

          either : (b : Bool) (k : ℕ) → cond b k 0 + cond b 0 k ≡ k
          either true k = omega arith
          either false k = omega arith

      -- a record is put for its gain against the seen world
      pub put_keeps : (p : ℕ) (r : Rec) → p < length g.world.nodes → node_at g.world p ≡ None → 5 ≤ p → contains own.reserved p ≡ true → NamesThere (recs a) r
          → gain (length a.nodes) (recs a) p r ≤ own.credits + brings (recs a) own.claims
          → IsBalanced (after (show g.world p r (Unforced 0)) (hand_put (recs a) own p r (gain (length a.nodes) (recs a) p r))) (lost + (gain (length a.nodes) (recs a) p r - gain (length g.world.nodes) (recs g.world) p r))
      put_keeps p r inside none high held names paid =
          let w = g.world in
          let b = show w p r (Unforced 0) in
          let new = hand_put (recs a) own p r (gain (length a.nodes) (recs a) p r) in
          let in_world : NamesThere (recs w) r = All-map _ _ (λ q is. (is.0, keeps q.0 is.0 is.1)) (named r) names in
          let same_dues : dues b ≡ dues w = refl in
          let same_direct : direct_places b ≡ direct_places w = refl in
          let less = gain_falls (recs a) (recs w) (lawful_names law_a) keeps (length a.nodes) p r names in
          let size = ap (λ n. gain n (recs w) p r) same_size in
          record {
            paid = omega (arith, balance.paid, paid, same_dues, put_units w p r inside none law in_world, less, size, sums (λ h. h.credits) new, put_brought_by p r inside none 0 (is_later p r) new own.claims refl refl);
            places = omega (arith, balance.places, same_direct, put_steps w p r inside none law, sums (λ h. h.allowance) new, sums (λ h. length h.reserved) new, length-without p own.reserved held own_lawful.reserved_once, given_of g w g.hands, given_of g b (slice_set g.hands id new), put_published w p r inside none law high);
          }

  brought_same : (new : Hand) → ((q : ℕ) → is_being_built (after g.world new) q ≡ is_being_built g q) → credits_brought (after g.world new) ≡ credits_brought g
  unfolding brought_by
  brought_same new same = ap (brought_by g.world) (fun_ext same)

  -- places are reserved
  pub reserve_keeps : (first k : ℕ) → k ≤ own.allowance → IsBalanced (after g.world (hand_reserved own first k)) lost
  reserve_keeps first k fits =
      let new = hand_reserved own first k in
      let same : (q : ℕ) → is_being_built (after g.world new) q ≡ is_being_built g q = λ q. same_building new q refl g.world in
      record {
        paid = omega (arith, balance.paid, sums (λ h. h.credits) new, brought_same new same);
        places = omega (arith, balance.places, sums (λ h. h.allowance) new, sums (λ h. length h.reserved) new, given_of g g.world g.hands, given_of g g.world (slice_set g.hands id new), length-append own.reserved (places_from first k), count_from first k, fits);
      }
    where
      count_from : (first k : ℕ) → length (places_from first k) ≡ k
      count_from first zero = refl
      count_from first (suc k) = ap suc (count_from (suc first) k)

  -- a word of a row is stored; the hand counts the due and the places of the event by what it has seen
  module _ (k i v : ℕ) (there : k < length g.world.rows) (fits : i < length (words_at g.world (suc k))) (once : i < 3 → word_at g.world (suc k) 0 ≡ 0)
      (legal : IsLegal g.world) (legal_after : IsLegal (store_word g.world (suc k) i v)) (stay : EndedStay g.world (store_word g.world (suc k) i v))
      (x : World) (same_due : due_at x (suc k) ≡ due_at (store_word g.world (suc k) i v) (suc k)) (same_direct : direct_at x (suc k) ≡ direct_at (store_word g.world (suc k) i v) (suc k)) where
    pub word_keeps : IsBalanced (after (store_word g.world (suc k) i v) (hand_stored x own (suc k) i v)) lost
    word_keeps = by (begins_row i v) refl (ends_row i)
      where
        w : World
        w = g.world

        given : (hand : Hand) → hand.reserved ≡ own.reserved → places_given (after (store_word g.world (suc k) i v) hand) ≡ places_given g
        given hand same = omega (arith, sums (λ h. length h.reserved) hand, ap length same)

        brought : (hand : Hand) → hand.claims ≡ own.claims → credits_brought (after (store_word g.world (suc k) i v) hand) ≡ credits_brought g
        brought hand same = brought_same hand (λ q. same_building hand q (ap (λ cs. is_built cs q) same) g.world)

        by : (z : Bool) → begins_row i v ≡ z → (y : Bool) → IsBalanced (after (store_word g.world (suc k) i v) (elim z [ true ↦ hand_begun own (suc k) (due_at x (suc k)) (direct_at x (suc k)) | false ↦ elim y [ true ↦ hand_ended own (suc k) | false ↦ own ] ])) lost
        by true e y =
            let hand = hand_begun own (suc k) (due_at x (suc k)) (direct_at x (suc k)) in
            record {
              paid = omega (arith, balance.paid, begun_sum w k i v there fits once legal legal_after stay due e, same_due, sums (λ h. h.credits) hand, brought hand refl);
              places = omega (arith, balance.places, begun_sum w k i v there fits once legal legal_after stay direct e, same_direct, sums (λ h. h.allowance) hand, given hand refl);
            }
        by false e true =
            let hand = hand_ended own (suc k) in
            record {
              paid = omega (arith, balance.paid, stored_sum w k i v there fits once legal legal_after stay due e, sums (λ h. h.credits) hand, brought hand refl);
              places = omega (arith, balance.places, stored_sum w k i v there fits once legal legal_after stay direct e, sums (λ h. h.allowance) hand, given hand refl);
            }
        by false e false =
            record {
              paid = omega (arith, balance.paid, stored_sum w k i v there fits once legal legal_after stay due e, sums (λ h. h.credits) own, brought own refl);
              places = omega (arith, balance.places, stored_sum w k i v there fits once legal legal_after stay direct e, sums (λ h. h.allowance) own, given own refl);
            }

  -- a state of a suspension changes
  module _ (s : ℕ) (r : Rec) (old new : SuspState) (inside : s < length g.world.nodes) (here : node_at g.world s ≡ Some (record { rec = r; state = old })) (a : World) (seen : recs a s ≡ Some r) where
    abbrev c : World
    c = show g.world s r new

    seen_places : places_of_steps (recs a) s ≡ 8 * steps r
    seen_places = ap (λ o. 8 * at_record 0 steps o) seen

    seen_credits : credits_at (recs a) s ≡ credits r
    seen_credits = ap (at_record 0 credits) seen

    brought_state : (hand : Hand) → ((q : ℕ) → (q ≡ s → ⊥) → is_built hand.claims q ≡ is_built own.claims q)
        → credits_brought (after (show g.world s r new) hand) + cond (is_done g.world s || is_being_built g s) (credits r) 0 ≡ credits_brought g + cond (is_done (show g.world s r new) s || is_being_built (after (show g.world s r new) hand) s) (credits r) 0
    unfolding brought_by
    brought_state hand same = state_by g.world s r old new inside here (is_being_built g) (is_being_built (after c hand)) (λ q ne. sym (same_building hand q (same q ne) c))

    -- the places given
    given_state : (hand : Hand) → hand.reserved ≡ own.reserved → places_given (after (show g.world s r new) hand) ≡ places_given g
    given_state hand same = omega (arith, sums (λ h. length h.reserved) hand, ap length same, given_of g g.world g.hands, given_of g c (slice_set g.hands id hand), state_published g.world s r old new inside here)

    -- a claim is won
    pub won_keeps : (k k' : ℕ) → old ≡ Unforced k → new ≡ Claimed k' → (place : Ref) → place.0 ≡ s → IsBalanced (after (show g.world s r new) (hand_won (recs a) own place)) lost
    won_keeps k k' was now place at =
        let w = g.world in
        let hand = hand_won (recs a) own place in
        let same : (q : ℕ) → is_built hand.claims q ≡ is_built own.claims q = λ q. unmarked (eqb place.0 q) (is_built own.claims q) in
        let x : is_done w s ≡ false = done_was w s r old new inside here ∙ ap (λ z. is_some_and (λ d. true) (kept z)) was in
        let y : is_done c s ≡ false = done_now w s r old new inside here ∙ ap (λ z. is_some_and (λ d. true) (kept z)) now in
        let there : places_of_steps (recs a) place.0 ≡ 8 * steps r = ap (places_of_steps (recs a)) at ∙ seen_places in
        let same_dues : dues c ≡ dues w = refl in
        let same_direct : direct_places c ≡ direct_places w = refl in
        record {
          paid = omega (
            arith,
            balance.paid,
            same_dues,
            ap unit_count (state_units w s r old new inside here),
            sums (λ h. h.credits) hand,
            brought_state hand (λ q ne. same q),
            ap {B = ℕ} (λ z. cond (z || is_being_built g s) (credits r) 0) x,
            ap {B = ℕ} (λ z. cond (z || is_being_built (after c hand) s) (credits r) 0) y,
            ap {B = ℕ} (λ z. cond z (credits r) 0) (same_building hand s (same s) c),
          );
          places = omega (arith, balance.places, same_direct, won_steps w s r old new inside here k k' was now, sums (λ h. h.allowance) hand, given_state hand refl, there);
        }
      where
        unmarked : (x y : Bool) → ((x && false) || y) ≡ y
        unmarked true y = refl
        unmarked false y = refl

    module _ (k : ℕ) (was : old ≡ Claimed k) (held : holds_claim own s ≡ true) where
      undone : is_done g.world s ≡ false
      undone = done_was g.world s r old new inside here ∙ ap (λ z. is_some_and (λ d. true) (kept z)) was

      built_before : is_being_built g s ≡ is_built own.claims s
      built_before = any_only (λ h. holds_claim h s) (λ (h : Hand). is_built h.claims s) (built_held s) g.hands id d mine (one_holder s) held

      built_after : (hand : Hand) → hand.claims ≡ without_claim s own.claims → is_being_built (after (show g.world s r new) hand) s ≡ false
      built_after hand e = any_set (λ h. holds_claim h s) (λ (h : Hand). is_built h.claims s) (built_held s) g.hands id d hand mine (one_holder s) held ∙ (ap (λ cs. is_built cs s) e ∙ built-without_same s own.claims)

      left : (hand : Hand) → hand.claims ≡ without_claim s own.claims → credits_brought (after (show g.world s r new) hand) + cond (is_built own.claims s) (credits r) 0 ≡ credits_brought g + cond (is_done (show g.world s r new) s) (credits r) 0
      left hand e = omega (
        arith,
        brought_state hand (λ q ne. ap (λ cs. is_built cs q) e ∙ built-without_other s q own.claims ne),
        ap {B = ℕ} (λ z. cond (z || is_being_built g s) (credits r) 0) undone,
        ap {B = ℕ} (λ z. cond z (credits r) 0) built_before,
        ap {B = ℕ} (λ z. cond (is_done c s || z) (credits r) 0) (built_after hand e),
        or_none (is_done c s) (credits r),
      )
        where
          or_none : (b : Bool) (k : ℕ) → ◌≡◌ {A = ℕ} (cond (b || false) k 0) (cond b k 0)
          or_none true k = refl
          or_none false k = refl

      unbuilt_is : is_unbuilt own s ≡ not (is_built own.claims s)
      unbuilt_is = unbuilt_or s own.claims held own_lawful.claims_once

      pub complete_keeps : is_done (show g.world s r new) s ≡ true → IsBalanced (after (show g.world s r new) (hand_completed (recs a) own s)) lost
      complete_keeps done =
          let w = g.world in
          let hand = hand_completed (recs a) own s in
          let same_dues : dues c ≡ dues w = refl in
          let same_direct : direct_places c ≡ direct_places w = refl in
          record {
            paid = omega (
              arith,
              balance.paid,
              same_dues,
              ap unit_count (state_units w s r old new inside here),
              sums (λ h. h.credits) hand,
              left hand refl,
              cond_yes (is_done c s) (credits r) done,
              ap {B = ℕ} (λ z. cond z (credits_at (recs a) s) 0) unbuilt_is,
              ap (λ z. cond (not (is_built own.claims s)) z 0) seen_credits,
              either (is_built own.claims s) (credits r),
            );
            places = omega (arith, balance.places, same_direct, completed_steps w s r old new inside here k was done, sums (λ h. h.allowance) hand, given_state hand refl);
          }
        where
          either : (b : Bool) (k : ℕ) → cond b k 0 + cond (not b) k 0 ≡ k
          either true k = omega arith
          either false k = omega arith

      pub give_up_keeps : (k' : ℕ) → new ≡ Unforced k' → is_unbuilt own s ≡ true → places_of_steps (recs a) s ≤ own.allowance → IsBalanced (after (show g.world s r new) (hand_given_up (recs a) own s)) lost
      give_up_keeps k' now free fits =
          let w = g.world in
          let hand = hand_given_up (recs a) own s in
          let same_dues : dues c ≡ dues w = refl in
          let same_direct : direct_places c ≡ direct_places w = refl in
          let gone : is_done c s ≡ false = done_now w s r old new inside here ∙ ap (λ z. is_some_and (λ d. true) (kept z)) now in
          record {
            paid = omega (arith, balance.paid, same_dues, ap unit_count (state_units w s r old new inside here), sums (λ h. h.credits) hand, left hand refl, cond_no (is_done c s) (credits r) gone, cond_no (is_built own.claims s) (credits r) (not_false (is_built own.claims s) (sym unbuilt_is ∙ free)));
            places = omega (arith, balance.places, same_direct, given_up_steps w s r old new inside here k was k' now, sums (λ h. h.allowance) hand, given_state hand refl, seen_places, fits);
          }
