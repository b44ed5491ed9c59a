-- The rule begins, and a seat for each caller keeps it.
use Rattle.std.proofs.Common.{◌≡◌, ℕ, zero, suc, ◌+◌, ◌-◌, ◌≤◌, List, [], ◌∷◌, length, refl, sym, ap, ◌∙◌, arith, subst, cond, Option, Some, None, ltb, min}
use Rattle.std.specs.Prelude.{sum_by, replicate}
use Rattle.std.proofs.lemmas.Bool.{true≢false, le-ltb}
use Rattle.std.proofs.lemmas.List.Sums.{sum_by-cons}
use mathlib.Core.Option.{some, some-injective, some-ne-none}
use lib.ListN.{get_elem?}
use Rattle.atomic_table.specs.Table.{opening}
use Rattle.lazy_rec.specs.declared.records.Rec.{Rec}
use Rattle.lazy_rec.specs.Named.{at_record}
use Rattle.lazy_rec.specs.Units.{steps}
use Rattle.lazy_rec.specs.Due as by_kind
use Rattle.heap_store.specs.World.{World, recs, is_taken, fixed_places}
use Rattle.heap_store.specs.Rows.{row_of}
use Rattle.heap_store.specs.Hand.{IsLawfulHand, contains, holds_claim, places_from}
use Rattle.heap_store.specs.Shared.{one_if, added}
use Rattle.heap_store.specs.Budget.{IsBalanced, credits_brought, unit_count, all_discharged, dues, direct_places, taken_steps, alone_with, sum_below, sum_rows, of_row}
use Rattle.heap_store.specs.Plain.{plain_world, five_records, no_words, IsPlain}
use Rattle.heap_store.proofs.GrowthLaws.{grows_refl}
use Rattle.heap_store.proofs.PlainOpen.{opened_plain, each_five}
use Rattle.word_world.specs.Words.{first_words}
use Rattle.word_world.proofs.Worlds.{run_distinct}
use Rattle.word_world.proofs.Opening.{opened_world, first_rowless, first_unended, first_unclaimed, first_published, first_lawful, first_length}
use Rattle.word_store.specs.declared.sight.Sight.{Sight}
use Rattle.word_store.specs.declared.sight.Size.{Size}
use Rattle.word_store.specs.Rule.{IsKept, IsSeat, IsSmall, shows, running, first_sight, empty_hand, plan_of}
use Rattle.word_store.specs.Sound.{IsSound}
use Rattle.word_store.specs.Opened.{opened_sight}
use Rattle.word_store.proofs.Sums.{one_most}
use Rattle.word_store.proofs.Soundness.{sound_of}

only_sight : (v u : Sight) (j : ℕ) → get_elem? (v ∷ []) j ≡ some u → v ≡ u
only_sight v u zero e = some-injective v u e
only_sight v u (suc j) e = absurd (some-ne-none u (sym e))

one_sum : (f : Sight → ℕ) (v : Sight) → sum_by f (v ∷ []) ≡ f v
one_sum f v = omega (arith, sum_by-cons f v [])

pub run_length : (n k : ℕ) → length (places_from n k) ≡ k
run_length n zero = refl
run_length n (suc k) = ap suc (run_length (suc n) k)

-- nothing in hand agrees with any world
pub empty_lawful : (w : World) → IsLawfulHand w empty_hand
empty_lawful w = record { claims = refl; marked = refl; claims_once = refl; reserved = λ p h. absurd (true≢false (sym h)); reserved_once = refl; names = λ i h. absurd (true≢false (sym h)); names_once = refl }

-- ---- the budget, where no event is begun and no suspension is there

module _ (nodes rows : ℕ) where
  abbrev opened : World
  opened = plain_world nodes rows five_records []

  no_records : (f : ℕ → Rec → ℕ) → ((p : ℕ) (r : Rec) → recs (plain_world nodes rows five_records []) p ≡ Some r → f p r ≡ 0) → (n : ℕ) → sum_below n (recs (plain_world nodes rows five_records [])) f ≡ 0
  no_records f zeros zero = refl
  no_records f zeros (suc n) = omega (arith, by (recs opened n) refl, no_records f zeros n)
    where
      by : (o : Option Rec) → recs (plain_world nodes rows five_records []) n ≡ o → ◌≡◌ {A = ℕ} (at_record 0 (f n) o) 0
      by None e = refl
      by (Some r) e = zeros n r e

  no_steps : taken_steps (plain_world nodes rows five_records []) ≡ 0
  no_steps = no_records _ (each_five nodes rows (λ p r. ◌≡◌ {A = ℕ} (cond (is_taken opened p) (steps r) 0) 0) refl refl refl refl refl) (length opened.nodes)

  no_events : (f : ℕ → List ℕ → ℕ) → ((i : ℕ) → f i no_words ≡ 0) → (i n : ℕ) → sum_rows f i (replicate n no_words) ≡ 0
  no_events f zeros i zero = refl
  no_events f zeros i (suc n) = omega (arith, zeros i, no_events f zeros (suc i) n)

  no_direct : direct_places (plain_world nodes rows five_records []) ≡ 0
  no_direct = no_events (λ i words. of_row by_kind.direct opened (row_of i words)) (λ i. refl) 1 (rows - 0)

module _ (k : Size) (small : IsSmall k) where
  plain : IsPlain k.nodes k.rows five_records [] []
  plain = opened_plain k.nodes k.rows small.0 small.1

  lost_first : ℕ
  lost_first = dues (plain_world k.nodes k.rows five_records []) + credits_brought (alone_with (plain_world k.nodes k.rows five_records []) empty_hand) - unit_count (all_discharged (plain_world k.nodes k.rows five_records []))

  first_balance : IsBalanced (running k (first_words k.nodes k.rows) (first_sight k ∷ [])) lost_first
  unfolding lost_first
  first_balance = subst (λ w. IsBalanced (record { world = w; hands = empty_hand ∷ []; plan = plan_of k }) lost_first) (sym (opened_world k.nodes k.rows)) (record {
    paid = (let b = plain.budget.paid in omega (arith, b));
    places = (let b = plain.budget.places in omega (arith, b, no_steps k.nodes k.rows, no_direct k.nodes k.rows));
  })

  pub opens : IsKept k (opening (first_words k.nodes k.rows) [] (first_sight k))
  opens =
      let v = first_sight k in let ws : List ℕ = first_words k.nodes k.rows in
      record {
        small = small;
        wide = first_length k.nodes k.rows small.0 small.1;
        well = first_lawful k.nodes k.rows small.0 small.1 (plan_of k);
        seats = λ j u at. subst (IsSeat k ws) (only_sight v u j at) (record {
          size = λ _. (refl, refl, refl, refl);
          numbers_once = run_distinct 0 k.callers;
          wide = λ _. first_length k.nodes k.rows small.0 small.1;
          seen = grows_refl (shows k ws);
          told = λ i x e. absurd (some-ne-none x (sym e));
          places_up = omega arith;
          names_up = omega arith;
          exact = λ _ _. refl;
          idle = λ _. refl;
          hand = empty_lawful (shows k ws);
          works = refl;
          mine = λ i r e c. absurd (first_rowless k.nodes k.rows small.0 small.1 i r e);
          records = λ _ p j had low. refl;
          states = λ _ p had. refl;
          row_words = λ _ i j had low. refl;
          seen_full = λ _ any. absurd (omega (arith, any));
          wasted_most = omega arith;
          vain = λ some. absurd (true≢false (sym some));
        });
        callers = one_sum (λ (u : Sight). length u.numbers) v ∙ run_length 0 k.callers;
        callers_once = λ c. omega (arith, one_sum (λ (u : Sight). one_if (contains u.numbers c)) v, one_most (contains (places_from 0 k.callers) c));
        given = 0;
        claims = λ p. one_sum (λ (u : Sight). one_if (holds_claim u.hand p)) v ∙ sym (ap one_if (first_unclaimed k.nodes k.rows small.0 small.1 p));
        places = λ p. omega (arith, one_sum (λ (u : Sight). one_if (contains u.hand.reserved p)) v, ap one_if (first_published k.nodes k.rows small.0 small.1 p), ap (λ n. one_if (ltb p n)) {x = fixed_places} {y = fixed_places + 0} (omega arith));
        names = λ i. omega (arith, one_sum (λ (u : Sight). one_if (contains u.hand.names (suc i))) v, ap one_if (first_unended k.nodes k.rows small.0 small.1 (suc i)), ap one_if (le-ltb i (min 0 k.rows) (omega arith)));
        room = omega arith;
        drawn = omega (arith, one_sum (λ (u : Sight). u.wasted) v);
        full = λ any. absurd (omega (arith, any, one_sum (λ (u : Sight). u.wasted) v));
        short = λ any. absurd (omega (arith, any, one_sum (λ (u : Sight). u.wasted) v));
        vain_rows = [];
        told = record {
          once = refl;
          full = λ i had. absurd (true≢false (sym had));
          sum = omega (arith, one_sum (λ (u : Sight). u.wasted) v, one_sum (λ (u : Sight). added u.hand.vain) v);
        };
        few = λ past. absurd (omega (arith, past));
        calm = λ one. (one_sum (λ (u : Sight). u.wasted) v, omega arith);
        lost = lost_first;
        balance = first_balance;
      }

-- ---- what was seen at the opening is sound, whichever callers' numbers a seat has

pub opened_sound : (nodes rows callers : ℕ) (numbers : List ℕ) → nodes ≤ 4000000 → rows ≤ 200000 → 1 ≤ callers → callers ≤ 64 → IsSound (opened_sight nodes rows callers numbers)
opened_sound nodes rows callers numbers few rows_few one crew =
    let k : Size = record { nodes = nodes; rows = rows; callers = callers } in
    let small : IsSmall k = (few, rows_few, one, crew) in
    let s = sound_of k (opening (first_words nodes rows) [] (first_sight k)) (opens k small) 0 (first_sight k) refl (omega (arith, one, run_length 0 callers)) refl refl in
    record {
      small = s.small;
      wide = s.wide;
      well = s.well;
      hand = s.hand;
      works = s.works;
      mine = λ i r e c. absurd (first_rowless nodes rows few rows_few i r e);
      reserved_low = s.reserved_low;
      names_low = s.names_low;
      told = refl;
      low = s.low;
      vain = s.vain;
      alone = λ e. (let a = s.alone e in record { drawn = a.drawn; room = a.room; claims = a.claims; rows = a.rows; names = a.names; vain = a.vain; budget = a.budget });
    }
