-- One seat takes another in, which has nothing in hand but names: the rule is kept.
use Rattle.std.proofs.Common.{◌≡◌, ◌≢◌, ℕ, zero, suc, ◌+◌, ◌≤◌, ◌⊎◌, inl, inr, List, [], ◌∷◌, ◌++◌, length, refl, sym, ap, ap₂, ◌∙◌, arith, subst, Bool, true, false, cond, ◌||◌, Option, Some, None, ltb, min}
use Rattle.std.specs.Prelude.{slice_index, slice_set, sum_by, is_some}
use Rattle.std.specs.List.{list_any, list_all}
use Rattle.std.proofs.lemmas.Bool.{true≢false, or_cases, or_left, or_right, eqb-true}
use Rattle.std.proofs.lemmas.List.{length-append}
use mathlib.Core.Logic.{⊎_elim}
use mathlib.Core.Option.{some, some-injective, some-ne-none}
use mathlib.Core.Path.{fun_ext}
use lib.ListN.{get_elem?}
use Rattle.lazy_rec.specs.Units.{credits}
use Rattle.heap_store.specs.declared.claims.Full.{Full}
use Rattle.heap_store.specs.declared.claims.HeldClaim.{HeldClaim}
use Rattle.heap_store.specs.declared.claims.OpenRow.{OpenRow}
use Rattle.heap_store.specs.World.{is_done}
use Rattle.heap_store.specs.Growth.{Grows}
use Rattle.heap_store.specs.Hand.{Hand, IsLawfulHand, contains, all_distinct, holds_claim, is_built, claim_places, is_claim_well, is_marked_well}
use Rattle.heap_store.specs.Shared.{one_if, added}
use Rattle.heap_store.specs.Budget.{IsBalanced, credits_brought, sum_records}
use Rattle.word_world.specs.Words.{world_of, word_count}
use Rattle.word_world.proofs.Worlds.{contains-append, append_distinct}
use Rattle.word_store.specs.declared.sight.Sight.{Sight}
use Rattle.word_store.specs.declared.sight.Size.{Size}
use Rattle.word_store.specs.Rule.{IsKept, IsSeat, shows, running, hands_of, empty_hand, may_draw, plan_of}
use Rattle.word_store.specs.Joined.{MayClose, joined, joined_hand, both_vain, no_sight}
use Rattle.word_store.proofs.Sums.{at_set, sum-changed, terms_le, one_true, one_most, false_by}
use Rattle.word_store.proofs.Moves.{St}
use Rattle.word_store.proofs.Soundness.{sum-hands}
use Rattle.word_store.proofs.Opening.{empty_lawful}
use Rattle.word_store.proofs.Nothing.{nothing_grows}

-- ---- tests of hands

any_set : (t : Hand → Bool) (views : List Sight) (id : ℕ) (v w : Sight) → get_elem? views id ≡ some v → t w.hand ≡ t v.hand → list_any t (hands_of (slice_set views id w)) ≡ list_any t (hands_of views)
any_set t [] id v w me e = refl
any_set t (x ∷ views) zero v w me e = ap (λ b. b || list_any t (hands_of views)) (e ∙ ap (λ (u : Sight). t u.hand) (sym (some-injective x v me)))
any_set t (x ∷ views) (suc id) v w me e = ap (λ b. t x.hand || b) (any_set t views id v w me e)

one_or : (a b : Bool) → (a ≡ true → b ≡ false) → one_if (a || b) ≡ one_if a + one_if b
one_or true b apart = ap (λ x. 1 + one_if x) (sym (apart refl))
one_or false b apart = omega arith

either_vain : (a b : Option Full) → is_some (both_vain a b) ≡ true → (is_some a ≡ true) ⊎ (is_some b ≡ true)
either_vain None b e = inr e
either_vain (Some a) b e = inl refl

pub both_added : (a b : Option Full) → added (both_vain a b) ≡ added a + added b
both_added None b = omega arith
both_added (Some a) None = omega arith
both_added (Some a) (Some b) = refl

both_none : {X : Type 0} (xs ys : List X) → xs ≡ [] → ys ≡ [] → xs ++ ys ≡ []
both_none xs ys e f = rw (e, f) refl

no_place : (cs : List HeldClaim) → cs ≡ [] → (p : ℕ) → one_if (contains (claim_places cs) p) ≡ 0
no_place cs e p = ap (λ (xs : List HeldClaim). one_if (contains (claim_places xs) p)) e

no_number : (xs : List ℕ) → xs ≡ [] → (p : ℕ) → one_if (contains xs p) ≡ 0
no_number xs e p = ap (λ (ys : List ℕ). one_if (contains ys p)) e

module _ (k : Size) (s : St) (o : IsKept k s) (id other c : ℕ) (v w : Sight) (me : get_elem? s.views id ≡ some v) (ne : other ≢ id) (them : get_elem? (slice_set s.views id (joined v w)) other ≡ some w)
    (sizes : (v.nodes ≡ k.nodes) × (v.rows ≡ k.rows) × (v.callers ≡ k.callers) × (v.plan ≡ plan_of k)) (long : length v.words ≡ word_count k.nodes k.rows) (one : w.numbers ≡ c ∷ []) (idle : MayClose v.hand) (idle' : MayClose w.hand) where
  abbrev b : Sight
  b = joined v w

  abbrev after : List Sight
  after = slice_set (slice_set s.views id (joined v w)) other no_sight

  there : get_elem? s.views other ≡ some w
  there = ⊎_elim (λ t. absurd (ne t.0)) (λ t. t.1) (at_set s.views id other (joined v w) w them)

  f : IsSeat k s.words v
  f = o.seats id v me

  g : IsSeat k s.words w
  g = o.seats other w there

  total : (h : Sight → ℕ) → sum_by h (slice_set (slice_set s.views id (joined v w)) other no_sight) + h v + h w ≡ sum_by h s.views + h (joined v w) + h no_sight
  total h = let a = sum-changed h s.views id v (joined v w) me in let z = sum-changed h (slice_set s.views id (joined v w)) other w no_sight them in omega (arith, a, z)

  below : (h : Sight → ℕ) → h v + h w ≤ sum_by h s.views
  below h = terms_le h s.views id other v w ne me there

  -- ---- what is in one hand isn't in the other

  new_number : contains v.numbers c ≡ false
  new_number = false_by _ (λ had. (let t = below (λ (u : Sight). one_if (contains u.numbers c)) in let most = o.callers_once c in
      omega (arith, t, most, one_true _ had, ap (λ (xs : List ℕ). one_if (contains xs c)) one, one_true (contains (c ∷ []) c) (self c))))
    where
      self : (n : ℕ) → contains (n ∷ []) n ≡ true
      self n = or_left _ false (Rattle.std.proofs.lemmas.Bool.eq-eqb n n refl)

  numbers_apart : (d : ℕ) → contains v.numbers d ≡ true → contains w.numbers d ≡ false
  numbers_apart d had = false_by _ (λ also. (let t = below (λ (u : Sight). one_if (contains u.numbers d)) in let most = o.callers_once d in omega (arith, t, most, one_true _ had, one_true _ also)))

  names_apart : (i : ℕ) → contains v.hand.names i ≡ true → contains w.hand.names i ≡ false
  names_apart zero had = absurd (omega (arith, (f.hand.names 0 had).0))
  names_apart (suc i) had = false_by _ (λ also. (let t = below (λ (u : Sight). one_if (contains u.hand.names (suc i))) in let all = o.names i in let most = one_most (ltb i (min (slice_index s.words 1) k.rows)) in
      omega (arith, t, all, most, one_true _ had, one_true _ also)))

  none_claimed : v.hand.claims ++ w.hand.claims ≡ []
  none_claimed = both_none v.hand.claims w.hand.claims idle.claims idle'.claims

  none_reserved : v.hand.reserved ++ w.hand.reserved ≡ []
  none_reserved = both_none v.hand.reserved w.hand.reserved idle.reserved idle'.reserved

  none_open : v.hand.open_rows ++ w.hand.open_rows ≡ []
  none_open = both_none v.hand.open_rows w.hand.open_rows idle.rows idle'.rows

  -- ---- the seats

  lawful : IsLawfulHand (shows k s.words) (joined_hand v.hand w.hand)
  lawful = record {
    claims = ap (list_all (is_claim_well (shows k s.words))) none_claimed;
    marked = ap (list_all is_marked_well) none_claimed;
    claims_once = ap (λ (cs : List HeldClaim). all_distinct (claim_places cs)) none_claimed;
    reserved = λ p had. absurd (true≢false (sym had ∙ ap (λ (xs : List ℕ). contains xs p) none_reserved));
    reserved_once = ap all_distinct none_reserved;
    names = λ i had. ⊎_elim (f.hand.names i) (g.hand.names i) (or_cases (contains v.hand.names i) (contains w.hand.names i) (sym (contains-append v.hand.names w.hand.names i) ∙ had));
    names_once = append_distinct v.hand.names w.hand.names f.hand.names_once g.hand.names_once names_apart;
  }

  seat_joined : IsSeat k s.words (joined v w)
  seat_joined = record {
    size = λ _. sizes;
    numbers_once = append_distinct v.numbers w.numbers f.numbers_once g.numbers_once numbers_apart;
    wide = λ _. long;
    seen = f.seen;
    told = told_all;
    places_up = f.places_up;
    names_up = f.names_up;
    exact = λ _ e. absurd (some_told e);
    idle = λ e. absurd (omega (arith, ap length e, length-append v.numbers w.numbers, ap length one));
    hand = lawful;
    works = ap (list_all (λ (r : OpenRow). contains (v.hand.names ++ w.hand.names) r.name)) none_open;
    mine = λ i r e had. contains-append v.hand.mine w.hand.mine i ∙ ⊎_elim
        (λ m. or_left _ _ (f.mine i r e m))
        (λ m. or_right (contains v.hand.mine i) _ (g.mine i r e m))
        (or_cases (contains v.numbers r.caller) (contains w.numbers r.caller) (sym (contains-append v.numbers w.numbers r.caller) ∙ had));
    records = λ e. absurd (some_told e);
    states = λ e. absurd (some_told e);
    row_words = λ e. absurd (some_told e);
    seen_full = λ e. absurd (some_told e);
    wasted_most = omega (arith, f.wasted_most, g.wasted_most, length-append v.numbers w.numbers);
    vain = λ any. ⊎_elim (λ a. (let t = f.vain a in omega (arith, t))) (λ a. (let t = g.vain a in omega (arith, t))) (either_vain v.hand.vain w.hand.vain any);
  }
    where
      some_told : (w.nodes, w.rows, w.words) ∷ v.told ≡ [] → ⊥
      some_told e = omega (arith, ap length e)

      world_is : world_of w.nodes w.rows w.words ≡ shows k w.words
      world_is = let z = g.size (omega (arith, ap length one)) in ap₂ (λ a d. world_of a d w.words) z.0 z.1

      told_all : (j : ℕ) (t : ℕ × ℕ × List ℕ) → get_elem? ((w.nodes, w.rows, w.words) ∷ v.told) j ≡ some t → Grows (world_of t.0 t.1 t.2) (shows k s.words)
      told_all zero t e = subst (λ (u : ℕ × ℕ × List ℕ). Grows (world_of u.0 u.1 u.2) (shows k s.words)) (some-injective (w.nodes, w.rows, w.words) t e) (subst (λ y. Grows y (shows k s.words)) (sym world_is) g.seen)
      told_all (suc j) t e = f.told j t e

  seat_left : IsSeat k s.words no_sight
  seat_left = record {
    size = λ any. absurd (omega (arith, any));
    numbers_once = refl;
    wide = λ any. absurd (omega (arith, any));
    seen = nothing_grows k.nodes k.rows (shows k s.words);
    told = λ j old e. absurd (some-ne-none old (sym e));
    places_up = omega arith;
    names_up = omega arith;
    exact = λ e _. absurd (omega (arith, e, o.small.2));
    idle = λ _. refl;
    hand = empty_lawful (shows k s.words);
    works = refl;
    mine = λ i r e had. absurd (true≢false (sym had));
    records = λ _ p j had. absurd (true≢false (sym had));
    states = λ _ p had. absurd (true≢false (sym had));
    row_words = λ _ i j had. absurd (true≢false (sym had));
    seen_full = λ _ any. absurd (omega (arith, any));
    wasted_most = omega arith;
    vain = λ any. absurd (true≢false (sym any));
  }

  -- ---- the budget

  sums : (h : Hand → ℕ) → h (joined_hand v.hand w.hand) ≡ h v.hand + h w.hand → h empty_hand ≡ 0 → sum_by (λ (u : Sight). h u.hand) (slice_set (slice_set s.views id (joined v w)) other no_sight) ≡ sum_by (λ (u : Sight). h u.hand) s.views
  sums h both none = (let t = total (λ (u : Sight). h u.hand) in omega (arith, t, both, none))

  hand_sums : (h : Hand → ℕ) → h (joined_hand v.hand w.hand) ≡ h v.hand + h w.hand → h empty_hand ≡ 0 → sum_by h (hands_of (slice_set (slice_set s.views id (joined v w)) other no_sight)) ≡ sum_by h (hands_of s.views)
  hand_sums h both none = sum-hands h (slice_set (slice_set s.views id (joined v w)) other no_sight) ∙ (sums h both none ∙ sym (sum-hands h s.views))

  building : (p : ℕ) → list_any (λ (h : Hand). is_built h.claims p) (hands_of (slice_set (slice_set s.views id (joined v w)) other no_sight)) ≡ list_any (λ (h : Hand). is_built h.claims p) (hands_of s.views)
  building p = any_set (λ (h : Hand). is_built h.claims p) (slice_set s.views id (joined v w)) other w no_sight them (ap (λ (cs : List HeldClaim). is_built cs p) (sym idle'.claims))
      ∙ any_set (λ (h : Hand). is_built h.claims p) s.views id v (joined v w) me (ap (λ (cs : List HeldClaim). is_built cs p) (none_claimed ∙ sym idle.claims))

  brought : credits_brought (running k s.words (slice_set (slice_set s.views id (joined v w)) other no_sight)) ≡ credits_brought (running k s.words s.views)
  brought = ap (λ (h : ℕ → Bool). sum_records (shows k s.words) (λ p r. cond (is_done (shows k s.words) p || h p) (credits r) 0)) (fun_ext building)

  balance : IsBalanced (running k s.words (slice_set (slice_set s.views id (joined v w)) other no_sight)) o.lost
  balance = record {
    paid = omega (arith, o.balance.paid, hand_sums (λ (h : Hand). h.credits) refl refl, brought);
    places = omega (arith, o.balance.places, hand_sums (λ (h : Hand). h.allowance) refl refl, hand_sums (λ (h : Hand). length h.reserved) (length-append v.hand.reserved w.hand.reserved) refl);
  }

  -- ---- the rule

  wasted_sum : sum_by (λ (u : Sight). u.wasted) (slice_set (slice_set s.views id (joined v w)) other no_sight) ≡ sum_by (λ (u : Sight). u.wasted) s.views
  wasted_sum = (let t = total (λ (u : Sight). u.wasted) in omega (arith, t))

  few_draw : sum_by (may_draw k.rows) (slice_set (slice_set s.views id (joined v w)) other no_sight) ≤ sum_by (may_draw k.rows) s.views
  few_draw = (let t = total (may_draw k.rows) in omega (arith, t, none (ltb 0 k.rows)))
    where
      none : (t : Bool) → ◌≡◌ {A = ℕ} (cond t 0 0) 0
      none true = refl
      none false = refl

  claimed : (p : ℕ) → sum_by (λ (u : Sight). one_if (holds_claim u.hand p)) (slice_set (slice_set s.views id (joined v w)) other no_sight) ≡ sum_by (λ (u : Sight). one_if (holds_claim u.hand p)) s.views
  claimed p = sums (λ (h : Hand). one_if (holds_claim h p)) (let x = no_place (v.hand.claims ++ w.hand.claims) none_claimed p in let y = no_place v.hand.claims idle.claims p in let z = no_place w.hand.claims idle'.claims p in omega (arith, x, y, z)) refl

  placed : (p : ℕ) → sum_by (λ (u : Sight). one_if (contains u.hand.reserved p)) (slice_set (slice_set s.views id (joined v w)) other no_sight) ≡ sum_by (λ (u : Sight). one_if (contains u.hand.reserved p)) s.views
  placed p = sums (λ (h : Hand). one_if (contains h.reserved p)) (let x = no_number (v.hand.reserved ++ w.hand.reserved) none_reserved p in let y = no_number v.hand.reserved idle.reserved p in let z = no_number w.hand.reserved idle'.reserved p in omega (arith, x, y, z)) refl

  named : (i : ℕ) → sum_by (λ (u : Sight). one_if (contains u.hand.names i)) (slice_set (slice_set s.views id (joined v w)) other no_sight) ≡ sum_by (λ (u : Sight). one_if (contains u.hand.names i)) s.views
  named i = sums (λ (h : Hand). one_if (contains h.names i)) (ap one_if (contains-append v.hand.names w.hand.names i) ∙ one_or (contains v.hand.names i) (contains w.hand.names i) (names_apart i)) refl

  pub joins_kept : IsKept k (record { words = s.words; homes = s.homes; views = slice_set (slice_set s.views id (joined v w)) other no_sight })
  joins_kept = record {
    small = o.small;
    wide = o.wide;
    well = o.well;
    seats = λ j u at. ⊎_elim
        (λ t. subst (IsSeat k s.words) t.1 seat_left)
        (λ t. ⊎_elim (λ z. subst (IsSeat k s.words) z.1 seat_joined) (λ z. o.seats j u z.1) (at_set s.views id j (joined v w) u t.1))
        (at_set (slice_set s.views id (joined v w)) other j no_sight u at);
    callers = (let t = total (λ (u : Sight). length u.numbers) in omega (arith, t, o.callers, length-append v.numbers w.numbers));
    callers_once = λ d. (let t = total (λ (u : Sight). one_if (contains u.numbers d)) in let once = o.callers_once d in
        omega (arith, t, once, ap one_if (contains-append v.numbers w.numbers d), one_or (contains v.numbers d) (contains w.numbers d) (numbers_apart d)));
    given = o.given;
    claims = λ p. claimed p ∙ o.claims p;
    places = λ p. omega (arith, placed p, o.places p);
    names = λ i. omega (arith, named (suc i), o.names i);
    room = o.room;
    drawn = omega (arith, o.drawn, wasted_sum);
    full = λ any. o.full (omega (arith, any, wasted_sum));
    short = λ any. o.short (omega (arith, any, wasted_sum));
    vain_rows = o.vain_rows;
    told = record {
      once = o.told.once;
      full = o.told.full;
      sum = omega (arith, o.told.sum, wasted_sum, sums (λ (h : Hand). added h.vain) (both_added v.hand.vain w.hand.vain) refl);
    };
    few = λ past. (let l = o.few past in omega (arith, l, few_draw));
    calm = λ alone. (let m = o.calm alone in (omega (arith, m.0, wasted_sum), m.1));
    lost = o.lost;
    balance = balance;
  }
