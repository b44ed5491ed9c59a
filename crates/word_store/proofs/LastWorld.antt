-- What is known of the last world, when the seats of all callers are one.
use Rattle.std.proofs.Common.{◌≡◌, ℕ, zero, suc, ◌-◌, ◌<◌, ◌≤◌, List, [], ◌∷◌, length, refl, sym, ap, ap₂, ◌∙◌, arith, subst, Bool, true, false, cond, ◌||◌, Some, None, min}
use Rattle.std.specs.Prelude.{slice_index, slice_get, map, sum_by}
use Rattle.std.proofs.lemmas.Bool.{true≢false, cases_lt}
use Rattle.std.proofs.lemmas.List.Sums.{sum_by-cons}
use mathlib.Core.Logic.{⊎_elim}
use mathlib.Core.Path.{fun_ext}
use Rattle.lazy_rec.specs.Units.{credits}
use Rattle.heap_store.specs.declared.claims.HeldClaim.{HeldClaim}
use Rattle.heap_store.specs.World.{World, is_claimed_at, is_done}
use Rattle.heap_store.specs.Rows.{row_at, words_at, is_ended_at}
use Rattle.heap_store.specs.Growth.{Grows}
use Rattle.heap_store.specs.Hand.{Hand, contains, holds_claim, is_built, claim_places, places_from}
use Rattle.heap_store.specs.Shared.{added}
use Rattle.heap_store.specs.Budget.{IsInBudget, credits_brought, sum_records, room_of}
use Rattle.heap_store.specs.View.{published_count}
use Rattle.heap_store.proofs.BoundLaws.{steps_bound, total_le}
use Rattle.heap_store.proofs.WordLaws.{zero_unended}
use Rattle.word_world.specs.Words.{world_of, node_of_words, row_words, places_of}
use Rattle.word_world.specs.LawfulWords.{IsLawfulWords}
use Rattle.word_world.proofs.Tables.{length-tabulate}
use Rattle.word_store.specs.declared.sight.Sight.{Sight}
use Rattle.word_store.specs.declared.pass.Pass.{Pass}
use Rattle.word_store.specs.Rule.{AreTold, seen_by}
use Rattle.word_store.specs.Sound.{IsWhole}
use Rattle.word_store.specs.Plays.{Sat, LookedLast}
use Rattle.word_store.specs.Passes.{sight_of, view_of}
use Rattle.word_store.specs.Opened.{opened_sight}
use Rattle.word_store.specs.Joined.{MayClose, IsLastSeat, gathered}
use Rattle.word_store.specs.Closing.{IsClosing, last_of}
use Rattle.word_store.proofs.Sums.{false_by}
use Rattle.word_store.proofs.Opening.{run_length}
use Rattle.word_store.proofs.PassSteps.{one_of}
use Rattle.word_store.proofs.Gathering.{gathered_idle, gathered_sizes, gathered_numbers, gathered_told, gathered_names, gathered_vain}

-- ---- lists of passes

map_got : {X Y : Type 0} (f : X → Y) (xs : List X) (j : ℕ) (x : X) → slice_get xs j ≡ Some x → slice_get (map f xs) j ≡ Some (f x)
map_got f [] j x e = absurd (let z : None ≡ Some x = e in cc)
map_got f (y ∷ xs) zero x e = ap Some (ap f (let z : Some y ≡ Some x = e in cc))
map_got f (y ∷ xs) (suc j) x e = map_got f xs j x e

pub map_length : {X Y : Type 0} (f : X → Y) (xs : List X) → length (map f xs) ≡ length xs
map_length f [] = refl
map_length f (x ∷ xs) = ap suc (map_length f xs)

got_map : {X Y : Type 0} (f : X → Y) (xs : List X) (j : ℕ) (y : Y) → slice_get (map f xs) j ≡ Some y → (x : X) × (slice_get xs j ≡ Some x) × (f x ≡ y)
got_map f [] j y e = absurd (let z : None ≡ Some y = e in cc)
got_map f (x ∷ xs) zero y e = (x, refl, let z : Some (f x) ≡ Some y = e in cc)
got_map f (x ∷ xs) (suc j) y e = got_map f xs j y e

sum-map : {X Y : Type 0} (g : Y → ℕ) (f : X → Y) (xs : List X) → sum_by g (map f xs) ≡ sum_by (λ x. g (f x)) xs
sum-map g f [] = refl
sum-map g f (x ∷ xs) = omega (arith, sum_by-cons g (f x) (map f xs), sum_by-cons (λ y. g (f y)) x xs, sum-map g f xs)

-- ---- the budget with nothing in hand

no_hand : (w : World) (h : Hand) → h.claims ≡ [] → h.reserved ≡ [] → IsInBudget (record { world = w; hands = h ∷ []; plan = None }) → IsInBudget (record { world = w; hands = []; plan = None })
no_hand w h claims reserved b = record {
  paid = omega (arith, b.paid, brought, sum_by-cons (λ (g : Hand). g.credits) h []);
  places = omega (arith, b.places, sum_by-cons (λ (g : Hand). g.allowance) h [], sum_by-cons (λ (g : Hand). length g.reserved) h [], ap length reserved);
}
  where
    building : (p : ℕ) → (is_built h.claims p || false) ≡ false
    building p = ap (λ (cs : List HeldClaim). is_built cs p || false) claims

    brought : credits_brought (record { world = w; hands = h ∷ []; plan = None }) ≡ credits_brought (record { world = w; hands = []; plan = None })
    brought = ap (λ (f : ℕ → Bool). sum_records w (λ p r. cond (is_done w p || f p) (credits r) 0)) (fun_ext building)

module _ (nodes rows callers next : ℕ) (some : 1 ≤ callers) (low : next ≤ callers) (ps : List Pass) (all : length ps ≡ next) (closable : (j : ℕ) (p : Pass) → slice_get ps j ≡ Some p → MayClose (sight_of p).hand) where
  abbrev first : Sight
  first = opened_sight nodes rows callers (places_from next (callers - next))

  each : (j : ℕ) (w : Sight) → slice_get (map sight_of ps) j ≡ Some w → length w.numbers ≡ 1
  each j w e = let t = got_map sight_of ps j w e in ap (λ (v : Sight). length v.numbers) (sym t.2) ∙ one_of t.0

  pub numbers : length (gathered (opened_sight nodes rows callers (places_from next (callers - next))) (map sight_of ps)).numbers ≡ callers
  numbers = (let t = gathered_numbers first (map sight_of ps) each in omega (arith, t, run_length next (callers - next), map_length sight_of ps, all, low))

  idle : MayClose (gathered (opened_sight nodes rows callers (places_from next (callers - next))) (map sight_of ps)).hand
  idle = gathered_idle first (map sight_of ps) (record { claims = refl; reserved = refl; rows = refl }) (λ j w e. (let t = got_map sight_of ps j w e in subst (λ (v : Sight). MayClose v.hand) t.2 (closable j t.0 t.1)))

  module _ (m n : Sat) (k : LookedLast m n) (is : m.0 ≡ gathered (opened_sight nodes rows callers (places_from next (callers - next))) (map sight_of ps)) where
    abbrev g : Sight
    g = gathered (opened_sight nodes rows callers (places_from next (callers - next))) (map sight_of ps)

    sizes : (n.0.nodes ≡ nodes) × (n.0.rows ≡ rows) × (n.0.callers ≡ callers) × (n.0.plan ≡ None) × (n.0.numbers ≡ m.0.numbers) × (n.0.hand ≡ m.0.hand) × (n.0.told ≡ [])
    sizes = let z = gathered_sizes first (map sight_of ps) in (
      ap (λ (v : Sight). v.nodes) k.is ∙ (ap (λ (v : Sight). v.nodes) is ∙ z.0),
      ap (λ (v : Sight). v.rows) k.is ∙ (ap (λ (v : Sight). v.rows) is ∙ z.1),
      ap (λ (v : Sight). v.callers) k.is ∙ (ap (λ (v : Sight). v.callers) is ∙ z.2),
      ap (λ (v : Sight). v.plan) k.is ∙ (ap (λ (v : Sight). v.plan) is ∙ z.3),
      ap (λ (v : Sight). v.numbers) k.is,
      ap (λ (v : Sight). v.hand) k.is,
      ap (λ (v : Sight). v.told) k.is,
    )

    hand_is : n.0.hand ≡ (gathered (opened_sight nodes rows callers (places_from next (callers - next))) (map sight_of ps)).hand
    hand_is = sizes.5 ∙ ap (λ (v : Sight). v.hand) is

    pub seat_is_last : IsLastSeat n.0
    seat_is_last = record {
      all = ap length sizes.4 ∙ (ap (λ (v : Sight). length v.numbers) is ∙ (numbers ∙ sym sizes.2));
      some = omega (arith, ap length sizes.4, ap (λ (v : Sight). length v.numbers) is, numbers, some);
      told = sizes.6;
    }

    whole : IsWhole n.0
    whole = k.whole (ap (λ (v : Sight). length v.numbers) is ∙ (numbers ∙ (sym sizes.2 ∙ ap (λ (v : Sight). v.callers) k.is)))

    module _ (ws : List ℕ) (words : ws ≡ n.0.words) where
      world_is : seen_by n.0 ≡ world_of nodes rows ws
      world_is = ap₂ (λ a b. world_of a b n.0.words) sizes.0 sizes.1 ∙ ap (world_of nodes rows) (sym words)

      well : IsLawfulWords nodes rows None ws
      well = rw (sym sizes.0, sym sizes.1, sym sizes.3, words) k.sound.well

      none_claimed : (s : ℕ) → is_claimed_at (world_of nodes rows ws) s ≡ false
      none_claimed s = false_by _ (λ c. true≢false (sym (whole.claims s (ap (λ w. is_claimed_at w s) world_is ∙ c)) ∙ (ap (λ (h : Hand). holds_claim h s) hand_is ∙ ap (λ (cs : List HeldClaim). contains (claim_places cs) s) idle.claims)))

      last_budget : IsInBudget (record { world = world_of nodes rows ws; hands = []; plan = None })
      last_budget = no_hand (world_of nodes rows ws) n.0.hand (ap (λ (h : Hand). h.claims) hand_is ∙ idle.claims) (ap (λ (h : Hand). h.reserved) hand_is ∙ idle.reserved) (subst IsInBudget (ap₂ (λ w p. record { world = w; hands = n.0.hand ∷ []; plan = p }) world_is sizes.3) whole.budget)

      pub closing : IsClosing nodes rows callers ps (last_of nodes rows ws)
      closing = record {
        last = record {
          lawful = well.world;
          legal = well.legal;
          roots = well.roots;
          funded = well.funded;
          unclaimed = none_claimed;
          budget = last_budget;
          steps = omega (arith, total_le (world_of nodes rows ws) well.world, steps_bound (record { world = world_of nodes rows ws; hands = []; plan = None }) well.world well.funded last_budget tt);
          places = omega (arith, whole.drawn, ap published_count world_is, ap (λ (l : List ℕ). slice_index l 0) words);
        };
        all_places = length-tabulate (node_of_words ws) 0 (places_of nodes);
        all_rows = length-tabulate (row_words nodes ws) 0 rows;
        seen = λ j p at. (let t = gathered_told first (map sight_of ps) j (sight_of p) (map_got sight_of ps j p at) in
            subst (Grows (view_of p).seen) world_is (k.told t.0 ((sight_of p).nodes, (sight_of p).rows, (sight_of p).words) (ap (λ (v : Sight). lib.ListN.get_elem? v.told t.0) is ∙ t.1)));
        enough = λ room. ⊎_elim
            (λ any. (let l = whole.short any in absurd (omega (arith, l, room, sizes.0, ap room_of world_is))))
            (λ none. omega (arith, none, whole.drawn, ap (λ (h : Hand). length h.reserved) hand_is, ap length idle.reserved, ap published_count world_is, ap (λ (l : List ℕ). slice_index l 0) words))
            (cases_lt 0 n.0.wasted);
        vain = n.0.wasted;
        vain_rows = whole.vain_rows;
        drawn = omega (arith, whole.drawn, ap (λ (h : Hand). length h.reserved) hand_is, ap length idle.reserved, ap published_count world_is, ap (λ (l : List ℕ). slice_index l 0) words);
        told = subst (λ w. AreTold w n.0.wasted (sum_by (λ p. added (view_of p).hand.vain) ps) whole.vain_rows) world_is (record {
          once = whole.told.once;
          full = whole.told.full;
          sum = omega (arith, whole.told.sum, ap (λ (h : Hand). added h.vain) hand_is, gathered_vain first (map sight_of ps), sum-map (λ (w : Sight). added w.hand.vain) sight_of ps);
        });
        ended_drawn = λ i e. ⊎_elim (λ l. l) (λ past. absurd (true≢false (sym e ∙ zero_unended (suc i) (words_at (world_of nodes rows ws) (suc i)) (well.undrawn i 5 past)))) (cases_lt i (slice_index ws 1));
        calm = λ one. (let a = k.sound.alone (sizes.2 ∙ one) in (omega (arith, whole.drawn, a.drawn), omega (arith, a.rows, sizes.1, ap (λ (l : List ℕ). slice_index l 1) words)));
        ended = λ i inside none. ended_here i inside (gathered_names first (map sight_of ps) (suc i) refl (λ j w e. (let t = got_map sight_of ps j w e in ap (λ (v : Sight). contains v.hand.names (suc i)) (sym t.2) ∙ none j t.0 t.1)));
      }
        where
          ended_here : (i : ℕ) → i < min (slice_index ws 1) rows → contains (gathered (opened_sight nodes rows callers (places_from next (callers - next))) (map sight_of ps)).hand.names (suc i) ≡ false → is_ended_at (row_at (world_of nodes rows ws)) (suc i) ≡ true
          ended_here i inside none = by (is_ended_at (row_at (world_of nodes rows ws)) (suc i)) refl
            where
              by : (b : Bool) → is_ended_at (row_at (world_of nodes rows ws)) (suc i) ≡ b → b ≡ true
              by true e = refl
              by false e = absurd (true≢false (sym (whole.names i (omega (arith, inside, sizes.1, ap (λ (l : List ℕ). slice_index l 1) words)) (ap (λ w. is_ended_at (row_at w) (suc i)) world_is ∙ e)) ∙ (ap (λ (h : Hand). contains h.names (suc i)) hand_is ∙ none)))
