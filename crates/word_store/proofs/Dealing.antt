-- Cutting the first seat in two, for one more caller, keeps the rule.
use Rattle.std.proofs.Common.{◌≡◌, ℕ, zero, suc, ◌+◌, ◌<◌, ◌≤◌, ◌-◌, ◌⊎◌, inl, inr, None, Some, List, [], ◌∷◌, ◌++◌, length, refl, sym, ap, ◌∙◌, arith, subst, Bool, true, false, cond, ◌||◌, not, eqb, ltb}
use Rattle.std.specs.Prelude.{slice_index, slice_set, sum_by}
use Rattle.std.specs.List.{list_any}
use Rattle.std.proofs.lemmas.Bool.{true≢false, or_cases, or_left, or_right, eqb-true, and_parts}
use Rattle.std.proofs.lemmas.List.Sums.{sum_by_push}
use mathlib.Core.Logic.{⊎_elim}
use mathlib.Core.Option.{some, some-injective, some-ne-none}
use mathlib.Core.Path.{fun_ext}
use lib.ListN.{get_elem?}
use Rattle.atomic_table.specs.Table.{Splits}
use Rattle.lazy_rec.specs.Units.{credits}
use Rattle.heap_store.specs.World.{World, is_done}
use Rattle.heap_store.specs.Hand.{Hand, contains, all_distinct, holds_claim, is_built, places_from}
use Rattle.heap_store.specs.Plain.{plain_world, five_records, no_refusal}
use Rattle.word_world.proofs.Opening.{opened_world}
use Rattle.word_store.specs.Views.{view_with}
use Rattle.heap_store.specs.Shared.{one_if, added}
use Rattle.heap_store.specs.Budget.{IsBalanced, credits_brought, sum_records}
use Rattle.word_store.specs.declared.sight.Sight.{Sight}
use Rattle.word_store.specs.declared.sight.Size.{Size}
use Rattle.word_store.specs.Rule.{IsKept, IsSeat, shows, running, hands_of, empty_hand, may_draw}
use Rattle.word_store.specs.Opened.{opened_sight, opened_view, with_first, without_first}
use Rattle.word_store.proofs.Sums.{at_set, sum-changed, term_le}
use Rattle.word_store.proofs.Moves.{St}
use Rattle.word_store.proofs.Soundness.{sum-hands}

at_snoc : (l : List Sight) (a b : Sight) (j : ℕ) → get_elem? (l ++ a ∷ []) j ≡ some b → (get_elem? l j ≡ some b) ⊎ (a ≡ b)
at_snoc [] a b zero e = inr (some-injective a b e)
at_snoc [] a b (suc j) e = absurd (some-ne-none b (sym e))
at_snoc (x ∷ xs) a b zero e = inl e
at_snoc (x ∷ xs) a b (suc j) e = at_snoc xs a b j e

hands_same : (views : List Sight) (id : ℕ) (v w : Sight) → get_elem? views id ≡ some v → w.hand ≡ v.hand → hands_of (slice_set views id w) ≡ hands_of views
hands_same [] id v w me e = refl
hands_same (x ∷ views) zero v w me e = ap (λ h. h ∷ hands_of views) (e ∙ ap (λ (u : Sight). u.hand) (sym (some-injective x v me)))
hands_same (x ∷ views) (suc id) v w me e = ap (λ hs. x.hand ∷ hs) (hands_same views id v w me e)

any_snoc : (t : Hand → Bool) (views : List Sight) (r : Sight) → t r.hand ≡ false → list_any t (hands_of (views ++ r ∷ [])) ≡ list_any t (hands_of views)
any_snoc t [] r e = ap (λ b. b || false) e
any_snoc t (x ∷ views) r e = ap (λ b. t x.hand || b) (any_snoc t views r e)

module _ (k : Size) (nodes rows callers c : ℕ) (cs : List ℕ) (id : ℕ) (s : St) (o : IsKept k s) (me : get_elem? s.views id ≡ some (opened_sight nodes rows callers (c ∷ cs))) where
  abbrev v : Sight
  v = opened_sight nodes rows callers (c ∷ cs)

  abbrev left : Sight
  left = opened_sight nodes rows callers cs

  abbrev right : Sight
  right = opened_sight nodes rows callers (c ∷ [])

  abbrev views : List Sight
  views = slice_set s.views id (opened_sight nodes rows callers cs) ++ opened_sight nodes rows callers (c ∷ []) ∷ []

  f : IsSeat k s.words (opened_sight nodes rows callers (c ∷ cs))
  f = o.seats id v me

  total : (g : Sight → ℕ) → sum_by g (slice_set s.views id (opened_sight nodes rows callers cs) ++ opened_sight nodes rows callers (c ∷ []) ∷ []) + g (opened_sight nodes rows callers (c ∷ cs)) ≡ sum_by g s.views + g (opened_sight nodes rows callers cs) + g (opened_sight nodes rows callers (c ∷ []))
  total g = omega (arith, sum_by_push g (slice_set s.views id left) right, sum-changed g s.views id v left me)

  -- what isn't in the empty hand is counted as before
  same_total : (g : Hand → ℕ) → g empty_hand ≡ 0 → sum_by (λ (u : Sight). g u.hand) (slice_set s.views id (opened_sight nodes rows callers cs) ++ opened_sight nodes rows callers (c ∷ []) ∷ []) ≡ sum_by (λ (u : Sight). g u.hand) s.views
  same_total g none = omega (arith, total (λ (u : Sight). g u.hand), none)

  few_numbers : suc (length cs) ≤ k.callers
  few_numbers = let t = term_le (λ (u : Sight). length u.numbers) s.views id v me in omega (arith, t, o.callers)

  parts : (not (contains cs c) ≡ true) × (all_distinct cs ≡ true)
  parts = and_parts (not (contains cs c)) (all_distinct cs) f.numbers_once

  absent : contains cs c ≡ false
  absent = by (contains cs c) parts.0
    where
      by : (b : Bool) → not b ≡ true → b ≡ false
      by true e = absurd (true≢false (sym e))
      by false e = refl

  seat : (numbers : List ℕ) → all_distinct numbers ≡ true → ((d : ℕ) → contains numbers d ≡ true → contains (c ∷ cs) d ≡ true) → (length numbers ≡ k.callers → length (c ∷ cs) ≡ k.callers) → IsSeat k s.words (opened_sight nodes rows callers numbers)
  seat numbers once within all = record {
    size = λ _. f.size (omega arith);
    numbers_once = once;
    wide = λ _. f.wide (omega arith);
    seen = f.seen;
    told = f.told;
    places_up = f.places_up;
    names_up = f.names_up;
    exact = λ a t. f.exact (all a) t;
    idle = λ _. refl;
    hand = f.hand;
    works = refl;
    mine = λ i r e m. f.mine i r e (within r.caller m);
    records = f.records;
    states = f.states;
    row_words = f.row_words;
    seen_full = f.seen_full;
    wasted_most = omega arith;
    vain = λ some. absurd (true≢false (sym some));
  }

  balance : IsBalanced (running k s.words (slice_set s.views id (opened_sight nodes rows callers cs) ++ opened_sight nodes rows callers (c ∷ []) ∷ [])) o.lost
  balance = record {
    paid = omega (arith, o.balance.paid, sums (λ (h : Hand). h.credits) refl, brought);
    places = omega (arith, o.balance.places, sums (λ (h : Hand). h.allowance) refl, sums (λ (h : Hand). length h.reserved) refl);
  }
    where
      sums : (g : Hand → ℕ) → g empty_hand ≡ 0 → sum_by g (hands_of (slice_set s.views id (opened_sight nodes rows callers cs) ++ opened_sight nodes rows callers (c ∷ []) ∷ [])) ≡ sum_by g (hands_of s.views)
      sums g e = sum-hands g views ∙ (same_total g e ∙ sym (sum-hands g s.views))

      building : (p : ℕ) → list_any (λ (h : Hand). is_built h.claims p) (hands_of (slice_set s.views id (opened_sight nodes rows callers cs) ++ opened_sight nodes rows callers (c ∷ []) ∷ [])) ≡ list_any (λ (h : Hand). is_built h.claims p) (hands_of s.views)
      building p = any_snoc (λ (h : Hand). is_built h.claims p) (slice_set s.views id left) right refl ∙ ap (list_any (λ (h : Hand). is_built h.claims p)) (hands_same s.views id v left me refl)

      brought : credits_brought (running k s.words (slice_set s.views id (opened_sight nodes rows callers cs) ++ opened_sight nodes rows callers (c ∷ []) ∷ [])) ≡ credits_brought (running k s.words s.views)
      brought = ap (λ (g : ℕ → Bool). sum_records (shows k s.words) (λ p r. cond (is_done (shows k s.words) p || g p) (credits r) 0)) (fun_ext building)

  pub dealt : IsKept k (record { words = s.words; homes = s.homes; views = slice_set s.views id (opened_sight nodes rows callers cs) ++ opened_sight nodes rows callers (c ∷ []) ∷ [] })
  dealt = record {
    small = o.small;
    wide = o.wide;
    well = o.well;
    seats = λ j u at. ⊎_elim
        (λ old. ⊎_elim (λ t. subst (IsSeat k s.words) t.1 (seat cs parts.1 (λ d m. or_right (eqb c d) _ m) (λ a. absurd (omega (arith, a, few_numbers))))) (λ t. o.seats j u t.1) (at_set s.views id j left u old))
        (λ new. subst (IsSeat k s.words) new (seat (c ∷ []) refl (λ d m. ⊎_elim (λ e. or_left (eqb c d) _ e) (λ none. absurd (true≢false (sym none))) (or_cases (eqb c d) false m)) (λ a. omega (arith, a, few_numbers))))
        (at_snoc (slice_set s.views id left) right u j at);
    callers = omega (arith, o.callers, total (λ (u : Sight). length u.numbers));
    callers_once = λ d. (let t = total (λ (u : Sight). one_if (contains u.numbers d)) in let once = o.callers_once d in omega (arith, t, once, split_count d));
    given = o.given;
    claims = λ p. same_total (λ h. one_if (holds_claim h p)) refl ∙ o.claims p;
    places = λ p. omega (arith, same_total (λ h. one_if (contains h.reserved p)) refl, o.places p);
    names = λ i. omega (arith, same_total (λ h. one_if (contains h.names (suc i))) refl, o.names i);
    room = o.room;
    drawn = omega (arith, o.drawn, total (λ (u : Sight). u.wasted));
    full = λ any. o.full (omega (arith, any, total (λ (u : Sight). u.wasted)));
    short = λ any. o.short (omega (arith, any, total (λ (u : Sight). u.wasted)));
    vain_rows = o.vain_rows;
    told = record {
      once = o.told.once;
      full = o.told.full;
      sum = omega (arith, o.told.sum, total (λ (u : Sight). u.wasted), same_total (λ (h : Hand). added h.vain) refl);
    };
    few = λ past. (let l = o.few past in omega (arith, l, total (may_draw k.rows), split_draw (ltb (slice_index v.words 1) k.rows)));
    calm = λ one. (let m = o.calm one in (omega (arith, m.0, total (λ (u : Sight). u.wasted)), m.1));
    lost = o.lost;
    balance = balance;
  }
    where
      split_count : (d : ℕ) → one_if (contains cs d) + one_if (contains (c ∷ []) d) ≡ one_if (contains (c ∷ cs) d)
      split_count d = by (eqb c d) refl
        where
          by : (b : Bool) → eqb c d ≡ b → one_if (contains cs d) + one_if (b || false) ≡ one_if (b || contains cs d)
          by true e = omega (arith, ap one_if (ap (contains cs) (sym (eqb-true c d e)) ∙ absent))
          by false e = omega arith

      split_draw : (b : Bool) → cond {A = ℕ} b (length cs) 0 + cond {A = ℕ} b 1 0 ≡ cond {A = ℕ} b (suc (length cs)) 0
      split_draw true = omega arith
      split_draw false = omega arith

pub deals : (k : Size) (nodes rows callers c : ℕ) (cs : List ℕ) (id : ℕ) (v : Sight) → v ≡ opened_sight nodes rows callers (c ∷ cs) → Splits (IsKept k) id v (without_first v) (with_first v)
deals k nodes rows callers c cs id v is s o me = subst (λ u. IsKept k (record { words = s.words; homes = s.homes; views = slice_set s.views id (without_first u) ++ with_first u ∷ [] })) (sym is)
    (dealt k nodes rows callers c cs id s o (me ∙ ap some is))

-- ---- a caller's pass

module _ (nodes rows callers next : ℕ) (left : next < callers) where
  abbrev rest : List ℕ
  rest = places_from (next + 1) (callers - (next + 1))

  pub numbers_left : places_from next (callers - next) ≡ next ∷ places_from (next + 1) (callers - (next + 1))
  numbers_left = ap (places_from next) {x = callers - next} {y = suc (callers - (next + 1))} (omega (arith, left)) ∙ ap (λ n. next ∷ places_from n (callers - (next + 1))) {x = suc next} {y = next + 1} (omega arith)

  pub sight_left : (v : Sight) → v ≡ opened_sight nodes rows callers (places_from next (callers - next)) → v ≡ opened_sight nodes rows callers (next ∷ places_from (next + 1) (callers - (next + 1)))
  sight_left v e = e ∙ ap (opened_sight nodes rows callers) numbers_left

  pub first_left : (v : Sight) → v ≡ opened_sight nodes rows callers (places_from next (callers - next)) → with_first v ≡ opened_sight nodes rows callers (next ∷ [])
  first_left v e = ap with_first (sight_left v e)

  pub others_left : (v : Sight) → v ≡ opened_sight nodes rows callers (places_from next (callers - next)) → without_first v ≡ opened_sight nodes rows callers (places_from (next + 1) (callers - (next + 1)))
  others_left v e = ap without_first (sight_left v e)

pub view_opened : (nodes rows callers caller : ℕ) → view_with (opened_sight nodes rows callers (caller ∷ [])) caller 0 no_refusal 0 0 ≡ opened_view nodes rows callers caller
view_opened nodes rows callers caller = both (opened_world nodes rows) (none (eqb callers 1))
  where
    none : (b : Bool) → ◌≡◌ {A = ℕ} (cond b 0 0) 0
    none true = refl
    none false = refl

    both : {w : World} {d : ℕ} → w ≡ plain_world nodes rows five_records [] → d ≡ 0
        → record { seen = w; hand = empty_hand; refusals = record { count = 0; last = no_refusal }; drawn = d; named = d; about = record { capacity = nodes; rows = rows; alone = eqb callers 1; plan = None; caller = Some caller } } ≡ opened_view nodes rows callers caller
    both e f = rw (e, f) refl
