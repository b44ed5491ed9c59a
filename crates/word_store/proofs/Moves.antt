-- One seat makes a step: what is to be shown of it alone so that the rule is kept.
use Rattle.std.proofs.Common.{◌≡◌, ◌≢◌, ℕ, suc, ◌+◌, ◌*◌, ◌<◌, ◌≤◌, List, length, refl, arith, Bool, true, false, cond, min, ltb, ◌&&◌, Option}
use Rattle.std.specs.Prelude.{slice_index, slice_set, sum_by, is_some}
use Rattle.std.proofs.lemmas.Bool.{true≢false, cases_lt, le-ltb}
use mathlib.Core.Logic.{⊎_elim}
use mathlib.Core.Option.{some}
use lib.ListN.{get_elem?}
use Rattle.atomic_table.specs.Table.{State}
use Rattle.heap_store.specs.declared.claims.Full.{Full}
use Rattle.heap_store.specs.World.{World, recs, is_published, is_claimed_at, fixed_places}
use Rattle.heap_store.specs.Rows.{row_at, is_ended_at}
use Rattle.heap_store.specs.Growth.{Grows}
use Rattle.heap_store.specs.Hand.{Hand, IsLawfulHand, contains, all_distinct, holds_claim}
use Rattle.heap_store.specs.Shared.{one_if, added, refusal_at}
use Rattle.heap_store.specs.Budget.{IsBalanced, room_of}
use Rattle.heap_store.proofs.GrowthLaws.{grows_refl}
use Rattle.word_world.specs.Words.{state_word_at, record_word_at, row_word_at, places_of}
use Rattle.word_world.specs.LawfulWords.{IsLawfulWords}
use Rattle.word_store.specs.declared.sight.Sight.{Sight}
use Rattle.word_store.specs.declared.sight.Size.{Size}
use Rattle.word_store.specs.Rule.{IsKept, shows, running, may_draw, works_on_names, KnowsRows, is_none_told, plan_of}
use Rattle.word_store.specs.Plays.{sight_after}
use Rattle.word_store.proofs.Sums.{sum_times}

abbrev pub St : Type 0
St = State ℕ Sight

-- the table when the seat has made its step
abbrev pub board : St → List ℕ → ℕ → Sight → St
board s ws id w = record { words = ws; homes = s.homes; views = slice_set s.views id w }

-- who has seen that no name is left draws none
pub no_draw : (rows : ℕ) (v : Sight) → rows ≤ slice_index v.words 1 → may_draw rows v ≡ 0
no_draw rows v l = by (is_none_told v.told) (ltb (slice_index v.words 1) rows) (le-ltb (slice_index v.words 1) rows l)
  where
    by : (a b : Bool) → b ≡ false → ◌≡◌ {A = ℕ} (cond (a && b) (length v.numbers) 0) 0
    by a true e = absurd (true≢false e)
    by true false e = refl
    by false false e = refl

-- the word of names stays low
pub low_names : (k : Size) (s : St) → IsKept k s → slice_index s.words 1 ≤ 200064
low_names k s o = ⊎_elim (λ past. omega (arith, o.few past, o.small.1, o.small.3)) (λ low. omega (arith, low, o.small.1)) (cases_lt k.rows (slice_index s.words 1))

-- so does that of places
pub low_drawn : (k : Size) (s : St) → IsKept k s → slice_index s.words 0 ≤ 260000000
low_drawn k s o = let all = sum_times (λ (u : Sight). u.wasted) (λ (u : Sight). length u.numbers) s.views (λ j u at. (let m = (o.seats j u at).wasted_most in omega (arith, m))) in omega (arith, all, o.callers, o.drawn, o.room, o.small.0, o.small.3)

-- what a seat then has seen, where the words are `ws` and its hand is `h`
pub record Sees (k : Size) (v : Sight) (ws vs : List ℕ) (h : Hand) (n : ℕ) : Type 0 where
  pub seen : Grows (shows k vs) (shows k ws)
  pub places_up : slice_index vs 0 ≤ slice_index ws 0
  pub names_up : slice_index vs 1 ≤ slice_index ws 1
  pub exact : length v.numbers ≡ k.callers → vs ≡ ws
  pub wide : length vs ≡ length ws
  pub records : (p j : ℕ) → contains h.reserved p ≡ true → j < 4 → slice_index vs (record_word_at p j) ≡ slice_index ws (record_word_at p j)
  pub states : (p : ℕ) → holds_claim h p ≡ true → slice_index vs (state_word_at p) ≡ slice_index ws (state_word_at p)
  pub row_words : (i j : ℕ) → contains h.names (suc i) ≡ true → j < 8 → slice_index vs (row_word_at k.nodes i j) ≡ slice_index ws (row_word_at k.nodes i j)
  pub seen_full : 0 < n → k.nodes < slice_index vs 0

-- it sees the words as they are
pub sees_now : (k : Size) (v : Sight) (ws : List ℕ) (h : Hand) (n : ℕ) → (0 < n → k.nodes < slice_index ws 0) → Sees k v ws ws h n
sees_now k v ws h n full = record {
  seen = grows_refl (shows k ws);
  places_up = omega arith;
  names_up = omega arith;
  exact = λ _. refl;
  wide = refl;
  records = λ p j had low. refl;
  states = λ p had. refl;
  row_words = λ i j had low. refl;
  seen_full = full;
}

-- of a seat that had added `m` in vain, with `a` in hand, and has now added `n`, with `b` in hand: the rows that tell of it
pub record Tells (w w' : World) (old new : List ℕ) (m n : ℕ) (a b : Option Full) : Type 0 where
  pub once : all_distinct new ≡ true
  pub full : (i : ℕ) → contains new i ≡ true → is_some (refusal_at w' i) ≡ true
  pub sum : n + added a + sum_by (λ i. added (refusal_at w i)) old ≡ m + added b + sum_by (λ i. added (refusal_at w' i)) new

module _ (k : Size) (s : St) (o : IsKept k s) (id : ℕ) (v : Sight) where
  -- the seat `id`, which had the view `v`, leaves the words `ws`, has seen `vs`, has the hand `h` and has added `n` in vain
  pub record Move (ws vs : List ℕ) (h : Hand) (n : ℕ) : Type 0 where
    -- the words
    pub long : length ws ≡ length s.words
    pub well : IsLawfulWords k.nodes k.rows (plan_of k) ws
    pub grows : Grows (shows k s.words) (shows k ws)
    pub sees : Sees k v ws vs h n
    pub places_up : slice_index s.words 0 ≤ slice_index ws 0
    pub names_up : slice_index s.words 1 ≤ slice_index ws 1
    -- the numbers of drawn places and names
    pub given : ℕ
    pub room : given ≤ k.nodes
    pub drawn : slice_index ws 0 + v.wasted + o.given ≡ slice_index s.words 0 + n + given
    pub full : 0 < n → k.nodes < slice_index ws 0
    pub short : v.wasted < n → k.nodes < room_of (shows k ws)
    pub most : n ≤ 4000000 * length v.numbers
    pub few : k.rows < slice_index ws 1 → slice_index ws 1 + sum_by (may_draw k.rows) s.views + may_draw k.rows (sight_after v vs h n) ≤ k.rows + k.callers + may_draw k.rows v
    pub calm : k.callers ≡ 1 → (n ≡ 0) × (slice_index ws 1 ≤ k.rows)
    -- the hand
    pub hand : IsLawfulHand (shows k ws) h
    pub works : works_on_names h ≡ true
    pub mine : KnowsRows (shows k ws) v.numbers h
    pub vain : is_some h.vain ≡ true → 0 < n
    pub vain_rows : List ℕ
    pub tells : Tells (shows k s.words) (shows k ws) o.vain_rows vain_rows v.wasted n v.hand.vain h.vain
    -- the other hands
    pub hands : (j : ℕ) (u : Sight) → j ≢ id → get_elem? s.views j ≡ some u → IsLawfulHand (shows k ws) u.hand
    pub others : (j : ℕ) (u : Sight) → j ≢ id → get_elem? s.views j ≡ some u → KnowsRows (shows k ws) u.numbers u.hand
    -- what is in one hand
    pub claims : (p : ℕ) → one_if (holds_claim h p) + one_if (is_claimed_at (shows k s.words) p) ≡ one_if (holds_claim v.hand p) + one_if (is_claimed_at (shows k ws) p)
    pub places : (p : ℕ) → one_if (contains h.reserved p) + one_if (is_published (recs (shows k ws)) p) + one_if (ltb p (fixed_places + o.given)) ≡ one_if (contains v.hand.reserved p) + one_if (is_published (recs (shows k s.words)) p) + one_if (ltb p (fixed_places + given))
    pub names : (i : ℕ) → one_if (contains h.names (suc i)) + one_if (is_ended_at (row_at (shows k ws)) (suc i)) + one_if (ltb i (min (slice_index s.words 1) k.rows)) ≡ one_if (contains v.hand.names (suc i)) + one_if (is_ended_at (row_at (shows k s.words)) (suc i)) + one_if (ltb i (min (slice_index ws 1) k.rows))
    pub lost : ℕ
    pub balance : IsBalanced (running k ws (slice_set s.views id (sight_after v vs h n))) lost
    -- what stands in other hands stays
    pub records : (p j : ℕ) → j < 4 → p < places_of k.nodes → contains v.hand.reserved p ≡ false → is_published (recs (shows k s.words)) p ≡ false → slice_index s.words (record_word_at p j) ≡ slice_index ws (record_word_at p j)
    pub states : (p : ℕ) → p < places_of k.nodes → holds_claim v.hand p ≡ false → is_claimed_at (shows k s.words) p ≡ true → slice_index s.words (state_word_at p) ≡ slice_index ws (state_word_at p)
    pub row_words : (i j : ℕ) → contains v.hand.names (suc i) ≡ false → is_ended_at (row_at (shows k s.words)) (suc i) ≡ false → i < slice_index s.words 1 → j < 8 → slice_index s.words (row_word_at k.nodes i j) ≡ slice_index ws (row_word_at k.nodes i j)
