-- What a seat has seen is sound, by the rule.
use Rattle.std.proofs.Common.{◌≡◌, ◌≢◌, ℕ, zero, suc, ◌+◌, ◌<◌, ◌≤◌, List, [], ◌∷◌, length, refl, sym, ap, ap₂, ◌∙◌, arith, subst, Bool, true, false, cond, ◌||◌, min, Option, Some, None}
use Rattle.std.specs.Prelude.{slice_index, sum_by, option_map}
use Rattle.std.specs.List.{list_any}
use Rattle.std.proofs.lemmas.Bool.{true≢false, lt-ltb}
use Rattle.std.proofs.lemmas.List.Sums.{sum_by-cons}
use mathlib.Core.Option.{some, some-injective, some-ne-none}
use mathlib.Core.Path.{fun_ext}
use lib.ListN.{get_elem?}
use Rattle.lazy_rec.specs.Named.{at_record}
use Rattle.lazy_rec.specs.Units.{credits}
use Rattle.heap_store.specs.declared.nodes.Node.{Node}
use Rattle.heap_store.specs.World.{World, recs, node_at, is_published, is_claimed_at, is_done, fixed_places}
use Rattle.heap_store.specs.Rows.{row_at, is_ended_at}
use Rattle.heap_store.specs.Lawful.{IsLawful}
use Rattle.heap_store.specs.Hand.{Hand, IsLawfulHand, contains, holds_claim, is_built}
use Rattle.heap_store.specs.Shared.{one_if, added}
use Rattle.heap_store.specs.Budget.{IsInBudget, is_being_built, credits_brought, sum_records, room_of}
use Rattle.heap_store.specs.View.{is_there, published_count}
use Rattle.heap_store.proofs.FixedPlaces.{fixed_records}
use Rattle.word_world.specs.Words.{places_of, world_of, node_of_words}
use Rattle.word_world.proofs.Tables.{length-tabulate}
use Rattle.word_store.specs.declared.sight.Sight.{Sight}
use Rattle.word_store.specs.declared.sight.Size.{Size}
use Rattle.word_store.specs.Rule.{AreTold, IsKept, IsSeat, shows, seen_by, running, hands_of, empty_hand, KnowsRows, plan_of}
use Rattle.word_store.specs.Sound.{IsSound, IsAlone, IsWhole}
use Rattle.word_store.proofs.Sums.{one_true, pos_true, false_by, only_one, term_le, terms_le}
use Rattle.word_store.proofs.Moves.{St, low_drawn}
use Rattle.word_store.proofs.Seats.{place_given, name_open}
use Rattle.word_store.proofs.Counts.{count_given}

-- a place in hand isn't a fixed one
pub above_fixed : (w : World) → IsLawful w → (h : Hand) → IsLawfulHand w h → (p : ℕ) → contains h.reserved p ≡ true → fixed_places ≤ p
above_fixed w law h hand p had = by p (hand.reserved p had)
  where
    by : (p : ℕ) → is_published (recs w) p ≡ false → fixed_places ≤ p
    by zero e = absurd (true≢false (sym (ap (at_record false (λ _. true)) (fixed_records law).nil) ∙ e))
    by (suc zero) e = absurd (true≢false (sym (ap (at_record false (λ _. true)) (fixed_records law).list_nil) ∙ e))
    by (suc (suc zero)) e = absurd (true≢false (sym (ap (at_record false (λ _. true)) (fixed_records law).tree_nil) ∙ e))
    by (suc (suc (suc zero))) e = absurd (true≢false (sym (ap (at_record false (λ _. true)) (fixed_records law).cat_nil) ∙ e))
    by (suc (suc (suc (suc zero)))) e = absurd (true≢false (sym (ap (at_record false (λ _. true)) (fixed_records law).empty_tree) ∙ e))
    by (suc (suc (suc (suc (suc q))))) e = omega arith

pub published_there : (o : Option Node) → at_record false (λ _. true) (option_map (λ (n : Node). n.rec) o) ≡ is_there o
published_there None = refl
published_there (Some n) = refl

pub sum-hands : (f : Hand → ℕ) (views : List Sight) → sum_by f (hands_of views) ≡ sum_by (λ (v : Sight). f v.hand) views
sum-hands f [] = refl
sum-hands f (v ∷ views) = omega (arith, sum_by-cons f v.hand (hands_of views), sum_by-cons (λ (u : Sight). f u.hand) v views, sum-hands f views)

any_none : (t : Hand → Bool) (views : List Sight) → ((j : ℕ) (u : Sight) → get_elem? views j ≡ some u → t u.hand ≡ false) → list_any t (hands_of views) ≡ false
any_none t [] none = refl
any_none t (v ∷ views) none = rw (none 0 v refl) (any_none t views (λ j u at. none (suc j) u at))

any_only : (t : Hand → Bool) (views : List Sight) (id : ℕ) (v : Sight) → get_elem? views id ≡ some v → ((j : ℕ) (u : Sight) → j ≢ id → get_elem? views j ≡ some u → t u.hand ≡ false) → list_any t (hands_of views) ≡ t v.hand
any_only t [] id v me none = absurd (some-ne-none v (sym me))
any_only t (x ∷ views) zero v me none = rw (any_none t views (λ j u at. none (suc j) u (λ z. omega (arith, z)) at)) (or_none (t x.hand) ∙ ap (λ (u : Sight). t u.hand) (some-injective x v me))
  where
    or_none : (b : Bool) → (b || false) ≡ b
    or_none true = refl
    or_none false = refl
any_only t (x ∷ views) (suc id) v me none = rw (none 0 x (λ z. omega (arith, z)) refl) (any_only t views id v me (λ j u ne at. none (suc j) u (λ z. ne (omega (arith, z))) at))

module _ (k : Size) (s : St) (o : IsKept k s) (id : ℕ) (v : Sight) (me : get_elem? s.views id ≡ some v) (rights : 0 < length v.numbers) (fresh : v.words ≡ s.words) where
  own : IsSeat k s.words v
  own = o.seats id v me

  sizes : (v.nodes ≡ k.nodes) × (v.rows ≡ k.rows) × (v.callers ≡ k.callers) × (v.plan ≡ (plan_of k))
  sizes = (o.seats id v me).size rights

  pub same_world : seen_by v ≡ shows k s.words
  same_world = ap₂ (λ a b. world_of a b v.words) sizes.0 sizes.1 ∙ ap (shows k) fresh

  -- ---- all callers

  module _ (all : length v.numbers ≡ k.callers) where
    others_none : (j : ℕ) (u : Sight) → j ≢ id → get_elem? s.views j ≡ some u → u.numbers ≡ []
    others_none j u ne at = none u.numbers (let two = terms_le (λ (x : Sight). length x.numbers) s.views id j v u ne me at in omega (arith, two, all, o.callers))
      where
        none : (xs : List ℕ) → length xs ≡ 0 → xs ≡ []
        none [] e = refl
        none (x ∷ xs) e = absurd (omega (arith, e))

    others_idle : (j : ℕ) (u : Sight) → j ≢ id → get_elem? s.views j ≡ some u → u.hand ≡ empty_hand
    others_idle j u ne at = (o.seats j u at).idle (others_none j u ne at)

    only : (f : Hand → ℕ) → f empty_hand ≡ 0 → sum_by (λ (x : Sight). f x.hand) s.views ≡ f v.hand
    only f zero' = only_one (λ (x : Sight). f x.hand) s.views id v me (λ j u ne at. ap f (others_idle j u ne at) ∙ zero')

    all_wasted : sum_by (λ (x : Sight). x.wasted) s.views ≡ v.wasted
    all_wasted = only_one (λ (x : Sight). x.wasted) s.views id v me (λ j u ne at. (let m = (o.seats j u at).wasted_most in omega (arith, m, ap length (others_none j u ne at))))

    places_drawn : published_count (shows k s.words) + length v.hand.reserved ≡ fixed_places + o.given
    places_drawn = count_given v.hand.reserved (shows k s.words).nodes (fixed_places + o.given) (omega (arith, o.room, length-tabulate (node_of_words s.words) 0 (places_of k.nodes))) own.hand.reserved_once
        (λ p. omega (arith, o.places p, only (λ h. one_if (contains h.reserved p)) refl, ap one_if (published_there (node_at (shows k s.words) p))))

    building : (p : ℕ) → is_being_built (running k s.words s.views) p ≡ is_being_built (record { world = shows k s.words; hands = v.hand ∷ []; plan = (plan_of k) }) p
    building p = any_only (λ (h : Hand). is_built h.claims p) s.views id v me (λ j u ne at. ap (λ (h : Hand). is_built h.claims p) (others_idle j u ne at)) ∙ sym (or_none (is_built v.hand.claims p))
      where
        or_none : (b : Bool) → (b || false) ≡ b
        or_none true = refl
        or_none false = refl

    brought : credits_brought (running k s.words s.views) ≡ credits_brought (record { world = shows k s.words; hands = v.hand ∷ []; plan = (plan_of k) })
    brought = ap (λ (f : ℕ → Bool). sum_records (shows k s.words) (λ p r. cond (is_done (shows k s.words) p || f p) (credits r) 0)) (fun_ext building)

    budget : IsInBudget (record { world = shows k s.words; hands = v.hand ∷ []; plan = (plan_of k) })
    budget = record {
      paid = omega (arith, o.balance.paid, sum-hands (λ (h : Hand). h.credits) s.views, only (λ h. h.credits) refl, brought, sum_by-cons (λ (h : Hand). h.credits) v.hand []);
      places = omega (arith, o.balance.places, sum-hands (λ (h : Hand). h.allowance) s.views, only (λ h. h.allowance) refl, sum-hands (λ (h : Hand). length h.reserved) s.views, only (λ h. length h.reserved) refl, sum_by-cons (λ (h : Hand). h.allowance) v.hand [], sum_by-cons (λ (h : Hand). length h.reserved) v.hand []);
    }

    pub whole_of : IsWhole v
    whole_of = record {
      drawn = omega (arith, ap published_count same_world, places_drawn, o.drawn, all_wasted, ap (λ ws. slice_index ws 0) fresh);
      claims = λ p c. pos_true _ (omega (arith, o.claims p, only (λ h. one_if (holds_claim h p)) refl, one_true _ (ap (λ w. is_claimed_at w p) (sym same_world) ∙ c)));
      names = λ i low open_yet. pos_true _ (omega (
        arith,
        o.names i,
        only (λ h. one_if (contains h.names (suc i))) refl,
        ap one_if (ap (λ w. is_ended_at (row_at w) (suc i)) (sym same_world) ∙ open_yet),
        one_true _ (lt-ltb i (min (slice_index s.words 1) k.rows) (omega (arith, low, sizes.1, ap (λ ws. slice_index ws 1) fresh))),
      ));
      budget = subst IsInBudget (ap₂ (λ w p. record { world = w; hands = v.hand ∷ []; plan = p }) (sym same_world) (sym sizes.3)) budget;
      short = λ any. (let l = o.short (omega (arith, any, all_wasted)) in omega (arith, l, sizes.0, ap room_of same_world));
      vain_rows = o.vain_rows;
      told = subst (λ w. AreTold w v.wasted (added v.hand.vain) o.vain_rows) (sym same_world) (record {
        once = o.told.once;
        full = o.told.full;
        sum = omega (arith, o.told.sum, all_wasted, only (λ h. added h.vain) refl);
      });
    }

  -- ---- a single caller

  module _ (one : k.callers ≡ 1) where
    whole : IsWhole v
    whole = whole_of (let t = term_le (λ (u : Sight). length u.numbers) s.views id v me in omega (arith, t, one, rights, o.callers))

    alone : IsAlone v
    alone = record {
      drawn = (let t = term_le (λ (u : Sight). u.wasted) s.views id v me in omega (arith, whole.drawn, t, (o.calm one).0));
      room = omega (arith, o.drawn, (o.calm one).0, o.room, sizes.0, ap (λ ws. slice_index ws 0) fresh);
      claims = whole.claims;
      rows = omega (arith, (o.calm one).1, sizes.1, ap (λ ws. slice_index ws 1) fresh);
      names = λ i low. whole.names i (omega (arith, low, (o.calm one).1, sizes.1, ap (λ ws. slice_index ws 1) fresh));
      vain = false_by _ (λ some. (let w = own.vain some in let all = term_le (λ (u : Sight). u.wasted) s.views id v me in let c = o.calm one in omega (arith, w, all, c.0)));
      budget = whole.budget;
    }

  -- ---- any seat

  pub sound_of : v.told ≡ [] → IsSound v
  sound_of told = record {
    small = (omega (arith, o.small.0, sizes.0), omega (arith, o.small.1, sizes.1));
    wide = rw (sizes.0, sizes.1) (own.wide rights);
    well = rw (sizes.0, sizes.1, sizes.3, fresh) o.well;
    hand = subst (λ w. IsLawfulHand w v.hand) (sym same_world) own.hand;
    works = own.works;
    mine = subst (λ w. KnowsRows w v.numbers v.hand) (sym same_world) own.mine;
    reserved_low = λ p had. (above_fixed (shows k s.words) o.well.world v.hand own.hand p had, (let g = place_given k s o id v me p had in omega (arith, g, o.room, sizes.0)));
    names_low = λ i had. (let g = name_open k s o id v me i had in (omega (arith, g.2, sizes.1), omega (arith, g.1, ap (λ ws. slice_index ws 1) fresh)));
    told = told;
    low = (let l = low_drawn k s o in omega (arith, l, ap (λ ws. slice_index ws 0) fresh));
    vain = λ some. (let l = own.seen_full told (own.vain some) in omega (arith, l, sizes.0));
    alone = λ one. alone (omega (arith, one, sizes.2));
  }
