-- What a seat knows of the others by the rule, and that a move keeps it.
use Rattle.std.proofs.Common.{◌≡◌, ◌≢◌, ℕ, suc, ◌+◌, ◌<◌, ◌≤◌, List, length, sym, ap, ◌∙◌, arith, subst, true, false, min, ltb, None}
use Rattle.std.specs.Prelude.{slice_index, slice_set, sum_by}
use Rattle.std.proofs.lemmas.Bool.{true≢false, cases_lt, ltb-true}
use mathlib.Core.Logic.{⊎_elim}
use mathlib.Core.Option.{some, some-ne-none}
use lib.ListN.{get_elem?}
use Rattle.lazy_rec.specs.States.{is_claimed}
use Rattle.lazy_rec.specs.Tests.{is_some_and}
use Rattle.heap_store.specs.declared.nodes.Node.{Node}
use Rattle.heap_store.specs.World.{recs, is_published, is_claimed_at, fixed_places}
use Rattle.heap_store.specs.Rows.{row_at, is_ended_at}
use Rattle.heap_store.specs.Hand.{Hand, contains, holds_claim}
use Rattle.heap_store.specs.Shared.{one_if, added}
use Rattle.heap_store.specs.Budget.{room_of}
use Rattle.heap_store.proofs.GrowthLaws.{grows_trans}
use Rattle.heap_store.proofs.RowBudget.{room_rises}
use Rattle.word_world.specs.Words.{places_of, node_of_words}
use Rattle.word_world.proofs.Tables.{tabulate-past}
use Rattle.word_store.specs.declared.sight.Sight.{Sight}
use Rattle.word_store.specs.declared.sight.Size.{Size}
use Rattle.word_store.specs.Rule.{IsKept, IsSeat, shows, may_draw}
use Rattle.word_store.specs.Plays.{sight_after}
use Rattle.word_store.proofs.Sums.{one_true, one_most, zero_false, pos_true, at_set, sum-changed, term_le, terms_le}
use Rattle.word_store.proofs.Moves.{St, board, Move}

module _ (k : Size) (s : St) (o : IsKept k s) where
  -- a place in a hand is one that was given
  pub place_given : (j : ℕ) (u : Sight) → get_elem? s.views j ≡ some u → (p : ℕ) → contains u.hand.reserved p ≡ true → p < fixed_places + o.given
  place_given j u at p had =
      let one = term_le (λ (x : Sight). one_if (contains x.hand.reserved p)) s.views j u at in let t = one_true (contains u.hand.reserved p) had in let all = o.places p in
      ltb-true _ _ (pos_true (ltb p (fixed_places + o.given)) (omega (arith, one, t, all)))

  pub published_given : (p : ℕ) → is_published (recs (shows k s.words)) p ≡ true → p < fixed_places + o.given
  published_given p had =
      let t = one_true (is_published (recs (shows k s.words)) p) had in let all = o.places p in
      ltb-true _ _ (pos_true (ltb p (fixed_places + o.given)) (omega (arith, t, all)))

  -- a claim in a hand is of a claimed place, which is one of the store's
  pub claim_inside : (j : ℕ) (u : Sight) → get_elem? s.views j ≡ some u → (p : ℕ) → holds_claim u.hand p ≡ true → p < places_of k.nodes
  claim_inside j u at p had =
      let one = term_le (λ (x : Sight). one_if (holds_claim x.hand p)) s.views j u at in let t = one_true (holds_claim u.hand p) had in
      claimed_inside (pos_true _ (omega (arith, one, t, o.claims p)))
    where
      claimed_inside : is_claimed_at (shows k s.words) p ≡ true → p < places_of k.nodes
      claimed_inside c = ⊎_elim (λ l. l) (λ past. absurd (true≢false (sym c ∙ ap (is_some_and (λ (n : Node). is_claimed n.state)) (tabulate-past (node_of_words s.words) 0 (places_of k.nodes) p None past)))) (cases_lt p (places_of k.nodes))

  -- a name in a hand has a row that isn't ended, and is drawn
  pub name_open : (j : ℕ) (u : Sight) → get_elem? s.views j ≡ some u → (i : ℕ) → contains u.hand.names (suc i) ≡ true → (is_ended_at (row_at (shows k s.words)) (suc i) ≡ false) × (i < slice_index s.words 1) × (i < k.rows)
  name_open j u at i had =
      let one = term_le (λ (x : Sight). one_if (contains x.hand.names (suc i))) s.views j u at in let t = one_true (contains u.hand.names (suc i)) had in let all = o.names i in
      let most = one_most (ltb i (min (slice_index s.words 1) k.rows)) in
      let low : i < min (slice_index s.words 1) k.rows = ltb-true _ _ (pos_true (ltb i (min (slice_index s.words 1) k.rows)) (omega (arith, one, t, all))) in
      (zero_false _ (omega (arith, one, t, all, most)), omega (arith, low), omega (arith, low))

  module _ (id : ℕ) (v : Sight) (me : get_elem? s.views id ≡ some v) where
    -- a place that another has reserved isn't in this hand, and isn't published
    pub others_reserve : (j : ℕ) (u : Sight) → j ≢ id → get_elem? s.views j ≡ some u → (p : ℕ) → contains u.hand.reserved p ≡ true → (contains v.hand.reserved p ≡ false) × (is_published (recs (shows k s.words)) p ≡ false)
    others_reserve j u ne at p had =
        let two = terms_le (λ (x : Sight). one_if (contains x.hand.reserved p)) s.views id j v u ne me at in
        let all = o.places p in let most = one_most (ltb p (fixed_places + o.given)) in let one = one_true (contains u.hand.reserved p) had in
        (zero_false _ (omega arith), zero_false _ (omega arith))

    -- a claim that another holds isn't in this hand, and is claimed
    pub others_claim : (j : ℕ) (u : Sight) → j ≢ id → get_elem? s.views j ≡ some u → (p : ℕ) → holds_claim u.hand p ≡ true → (holds_claim v.hand p ≡ false) × (is_claimed_at (shows k s.words) p ≡ true)
    others_claim j u ne at p had =
        let two = terms_le (λ (x : Sight). one_if (holds_claim x.hand p)) s.views id j v u ne me at in
        let all = o.claims p in let most = one_most (is_claimed_at (shows k s.words) p) in let one = one_true (holds_claim u.hand p) had in
        (zero_false _ (omega arith), pos_true _ (omega arith))

    -- a name that another has isn't in this hand, and its row isn't ended
    pub others_name : (j : ℕ) (u : Sight) → j ≢ id → get_elem? s.views j ≡ some u → (i : ℕ) → contains u.hand.names (suc i) ≡ true → (contains v.hand.names (suc i) ≡ false) × (is_ended_at (row_at (shows k s.words)) (suc i) ≡ false) × (i < slice_index s.words 1)
    others_name j u ne at i had =
        let two = terms_le (λ (x : Sight). one_if (contains x.hand.names (suc i))) s.views id j v u ne me at in
        let all = o.names i in let most = one_most (ltb i (min (slice_index s.words 1) k.rows)) in let one = one_true (contains u.hand.names (suc i)) had in
        let open_yet = name_open j u at i had in
        (zero_false _ (omega (arith, two, all, most, one)), open_yet.0, open_yet.1)

    -- no other seat has the rights of all callers
    pub others_few : 0 < length v.numbers → (j : ℕ) (u : Sight) → j ≢ id → get_elem? s.views j ≡ some u → length u.numbers ≡ k.callers → ⊥
    others_few rights j u ne at all = let two = terms_le (λ (x : Sight). length x.numbers) s.views id j v u ne me at in omega (arith, two, rights, all, o.callers)

    module _ (rights : 0 < length v.numbers) (ws vs : List ℕ) (h : Hand) (n : ℕ) (m : Move k s o id v ws vs h n) where
      abbrev w : Sight
      w = sight_after v vs h n

      wasted_sum : sum_by (λ (u : Sight). u.wasted) (slice_set s.views id w) + v.wasted ≡ sum_by (λ (u : Sight). u.wasted) s.views + n
      wasted_sum = sum-changed (λ (u : Sight). u.wasted) s.views id v w me

      own_seat : IsSeat k ws w
      own_seat = let f = o.seats id v me in record {
        size = f.size;
        numbers_once = f.numbers_once;
        wide = λ _. m.sees.wide ∙ (m.long ∙ o.wide);
        seen = m.sees.seen;
        told = λ i x e. absurd (some-ne-none x (sym e));
        places_up = m.sees.places_up;
        names_up = m.sees.names_up;
        exact = λ all _. m.sees.exact all;
        idle = λ e. absurd (omega (arith, rights, ap length e));
        hand = m.hand;
        works = m.works;
        mine = m.mine;
        records = λ _. m.sees.records;
        states = λ _. m.sees.states;
        row_words = λ _. m.sees.row_words;
        seen_full = λ _. m.sees.seen_full;
        wasted_most = omega (arith, m.most);
        vain = m.vain;
      }

      other_seat : (j : ℕ) (u : Sight) → j ≢ id → get_elem? s.views j ≡ some u → IsSeat k ws u
      other_seat j u ne at = let f = o.seats j u at in record {
        size = f.size;
        numbers_once = f.numbers_once;
        wide = f.wide;
        seen = grows_trans f.seen m.grows;
        told = λ i x e. grows_trans (f.told i x e) m.grows;
        places_up = (let p = f.places_up in omega (arith, p, m.places_up));
        names_up = (let p = f.names_up in omega (arith, p, m.names_up));
        exact = λ all _. absurd (others_few rights j u ne at all);
        idle = f.idle;
        hand = m.hands j u ne at;
        works = f.works;
        mine = m.others j u ne at;
        records = λ t p i had low. (let b = others_reserve j u ne at p had in let inside = place_given j u at p had in f.records t p i had low ∙ m.records p i low (omega (arith, inside, o.room)) b.0 b.1);
        states = λ t p had. (let b = others_claim j u ne at p had in f.states t p had ∙ m.states p (claim_inside j u at p had) b.0 b.1);
        row_words = λ t i q had low. (let b = others_name j u ne at i had in f.row_words t i q had low ∙ m.row_words i q b.0 b.1 b.2 low);
        seen_full = f.seen_full;
        wasted_most = f.wasted_most;
        vain = f.vain;
      }

      room_up : room_of (shows k s.words) ≤ room_of (shows k ws)
      room_up = room_rises (shows k s.words) (shows k ws) o.well.legal m.well.legal m.grows.ended m.grows.begun

      pub moves : IsKept k (board s ws id w)
      moves = record {
        small = o.small;
        wide = m.long ∙ o.wide;
        well = m.well;
        seats = λ j u at. ⊎_elim (λ t. subst (IsSeat k ws) t.1 own_seat) (λ t. other_seat j u t.0 t.1) (at_set s.views id j w u at);
        callers = omega (arith, o.callers, sum-changed (λ (u : Sight). length u.numbers) s.views id v w me);
        callers_once = λ c. omega (arith, o.callers_once c, sum-changed (λ (u : Sight). one_if (contains u.numbers c)) s.views id v w me);
        given = m.given;
        claims = λ p. omega (arith, o.claims p, m.claims p, sum-changed (λ (u : Sight). one_if (holds_claim u.hand p)) s.views id v w me);
        places = λ p. omega (arith, o.places p, m.places p, sum-changed (λ (u : Sight). one_if (contains u.hand.reserved p)) s.views id v w me);
        names = λ i. omega (arith, o.names i, m.names i, sum-changed (λ (u : Sight). one_if (contains u.hand.names (suc i))) s.views id v w me);
        room = m.room;
        drawn = omega (arith, o.drawn, wasted_sum, m.drawn);
        full = λ any. ⊎_elim (λ some. (let f = o.full some in omega (arith, f, m.places_up))) (λ none. m.full (omega (arith, none, any, wasted_sum))) (cases_lt 0 (sum_by (λ (u : Sight). u.wasted) s.views));
        short = λ any. ⊎_elim (λ some. (let f = o.short some in omega (arith, f, room_up))) (λ none. m.short (omega (arith, none, any, wasted_sum))) (cases_lt 0 (sum_by (λ (u : Sight). u.wasted) s.views));
        vain_rows = m.vain_rows;
        told = record {
          once = m.tells.once;
          full = m.tells.full;
          sum = omega (arith, o.told.sum, m.tells.sum, wasted_sum, sum-changed (λ (u : Sight). added u.hand.vain) s.views id v w me);
        };
        few = λ past. (let f = m.few past in omega (arith, f, sum-changed (may_draw k.rows) s.views id v w me));
        calm = λ one. (let c = m.calm one in let d = o.calm one in (omega (arith, c.0, d.0, wasted_sum), c.1));
        lost = m.lost;
        balance = m.balance;
      }
