-- The places that were given are published or in a hand, so what a hand may yet reserve is left of what the begun events may take.
use Rattle.std.proofs.Common.{◌≡◌, ℕ, ◌+◌, ◌≤◌, List, [], ◌∷◌, ◌++◌, suc, ltb, length, refl, ap, ◌∙◌, arith, Bool, true, false, ◌||◌}
use Rattle.std.specs.Prelude.{sum_by}
use Rattle.std.proofs.lemmas.Bool.{cases_lt}
use Rattle.std.proofs.lemmas.List.{length-append}
use Rattle.std.proofs.lemmas.List.Sums.{sum_by-cons}
use mathlib.Core.Logic.{⊎_elim}
use mathlib.Core.Option.{some}
use lib.ListN.{get_elem?}
use Rattle.heap_store.specs.World.{node_at, fixed_places}
use Rattle.heap_store.specs.Hand.{Hand, contains, all_distinct}
use Rattle.heap_store.specs.Shared.{one_if, added}
use Rattle.heap_store.specs.Budget.{room_of, places_given}
use Rattle.heap_store.proofs.BudgetSteps.{published}
use Rattle.heap_store.proofs.RoomLaws.{count_is}
use Rattle.word_world.specs.Words.{places_of, node_of_words}
use Rattle.word_world.proofs.Tables.{length-tabulate}
use Rattle.word_world.proofs.Worlds.{contains-append, append_distinct}
use Rattle.word_store.specs.declared.sight.Sight.{Sight}
use Rattle.word_store.specs.declared.sight.Size.{Size}
use Rattle.word_store.specs.Rule.{IsKept, shows, running, seat_count}
use Rattle.word_store.specs.Laws.{RoomIsEnough, VainIsTold}
use Rattle.word_store.proofs.Sums.{one_true, one_most, zero_false, term_le}
use Rattle.word_store.proofs.Moves.{St}
use Rattle.word_store.proofs.Counts.{count_given}
use Rattle.word_store.proofs.Soundness.{sum-hands, published_there}
use Rattle.word_store.proofs.RuleLaws.{places_are_due}

abbrev all_reserved : List Sight → List ℕ
all_reserved [] = []
all_reserved (v ∷ views) = v.hand.reserved ++ all_reserved views

reserved_length : (views : List Sight) → length (all_reserved views) ≡ sum_by (λ (v : Sight). length v.hand.reserved) views
reserved_length [] = refl
reserved_length (v ∷ views) = omega (arith, length-append v.hand.reserved (all_reserved views), reserved_length views, sum_by-cons (λ (u : Sight). length u.hand.reserved) v views)

-- where no two hands have a place
one_hand : (views : List Sight) (p : ℕ) → seat_count (λ v. contains v.hand.reserved p) views ≤ 1 → one_if (contains (all_reserved views) p) ≡ seat_count (λ v. contains v.hand.reserved p) views
one_hand [] p few = refl
one_hand (v ∷ views) p few = ap one_if (contains-append v.hand.reserved (all_reserved views) p) ∙ by (contains v.hand.reserved p) refl (one_hand views p)
  where
    sum : seat_count (λ u. contains u.hand.reserved p) (v ∷ views) ≡ one_if (contains v.hand.reserved p) + seat_count (λ u. contains u.hand.reserved p) views
    sum = sum_by-cons (λ (u : Sight). one_if (contains u.hand.reserved p)) v views

    by : (b : Bool) → contains v.hand.reserved p ≡ b → (seat_count (λ u. contains u.hand.reserved p) views ≤ 1 → one_if (contains (all_reserved views) p) ≡ seat_count (λ u. contains u.hand.reserved p) views)
        → one_if (b || contains (all_reserved views) p) ≡ seat_count (λ u. contains u.hand.reserved p) (v ∷ views)
    by true e rest = omega (arith, few, sum, ap one_if e)
    by false e rest = omega (arith, few, sum, ap one_if e, rest (omega (arith, few, sum)))

all_apart : (views : List Sight) → ((p : ℕ) → seat_count (λ v. contains v.hand.reserved p) views ≤ 1) → ((j : ℕ) (v : Sight) → get_elem? views j ≡ some v → all_distinct v.hand.reserved ≡ true) → all_distinct (all_reserved views) ≡ true
all_apart [] few each = refl
all_apart (v ∷ views) few each = append_distinct v.hand.reserved (all_reserved views) (each 0 v refl) (all_apart views rest (λ j u at. each (suc j) u at))
    (λ p had. zero_false _ (omega (arith, few p, sum p, one_true _ had, one_hand views p (rest p))))
  where
    sum : (p : ℕ) → seat_count (λ u. contains u.hand.reserved p) (v ∷ views) ≡ one_if (contains v.hand.reserved p) + seat_count (λ u. contains u.hand.reserved p) views
    sum p = sum_by-cons (λ (u : Sight). one_if (contains u.hand.reserved p)) v views

    rest : (p : ℕ) → seat_count (λ u. contains u.hand.reserved p) views ≤ 1
    rest p = omega (arith, few p, sum p)

module _ (k : Size) (s : St) (o : IsKept k s) where
  one_has : (p : ℕ) → seat_count (λ v. contains v.hand.reserved p) s.views ≤ 1
  one_has p = omega (arith, o.places p, one_most (ltb p (fixed_places + o.given)))

  given_exact : o.given ≡ places_given (running k s.words s.views)
  unfolding published
  given_exact =
      let all = count_given (all_reserved s.views) (shows k s.words).nodes (fixed_places + o.given) (omega (arith, o.room, length-tabulate (node_of_words s.words) 0 (places_of k.nodes)))
      (all_apart s.views one_has (λ j v at. (o.seats j v at).hand.reserved_once))
      (λ p. omega (arith, o.places p, one_hand s.views p (one_has p), ap one_if (published_there (node_at (shows k s.words) p)))) in
      omega (arith, all, count_is (shows k s.words) o.well.world, reserved_length s.views, sum-hands (λ (h : Hand). length h.reserved) s.views)

  pub room_left : (id : ℕ) (v : Sight) → get_elem? s.views id ≡ some v → o.given + v.hand.allowance ≤ room_of (shows k s.words)
  room_left id v me = omega (arith, given_exact, places_are_due k s o, term_le (λ (u : Sight). u.hand.allowance) s.views id v me, sum-hands (λ (h : Hand). h.allowance) s.views)

pub vain_is_told : VainIsTold
vain_is_told k s o = (
  sum_by (λ (v : Sight). v.wasted) s.views,
  o.vain_rows,
  omega (arith, o.drawn, given_exact k s o),
  record { once = o.told.once; full = o.told.full; sum = omega (arith, o.told.sum, sum-hands (λ (h : Hand). added h.vain) s.views) },
)

pub room_is_enough : RoomIsEnough
room_is_enough k s o enough = ⊎_elim
    (λ any. (let l = o.short any in absurd (omega (arith, l, enough))))
    (λ none. omega (arith, none, o.drawn, given_exact k s o, places_are_due k s o, enough))
    (cases_lt 0 (sum_by (λ (u : Sight). u.wasted) s.views))
