-- What a pass tells as a heap is lawful.
use Rattle.std.proofs.Common.{◌≡◌, ℕ, zero, suc, ◌<◌, ◌≤◌, List, [], ◌∷◌, length, refl, sym, ap, ◌∙◌, arith, true, false, Option, Some, None, eqb, cond, ⊎_elim}
use Rattle.std.specs.Prelude.{slice_index, option_map}
use Rattle.std.proofs.lemmas.Bool.{true≢false, cases_lt, eq-eqb, eqb-true, or_left}
use Rattle.heap_store.specs.declared.nodes.Node.{Node}
use Rattle.heap_store.specs.declared.claims.Full.{Full}
use Rattle.lazy_rec.specs.Named.{at_record}
use Rattle.heap_store.specs.World.{recs, node_at, is_published}
use Rattle.heap_store.specs.Rows.{Row, row_of, row_at, word_at, words_at, is_ended_at}
use Rattle.heap_store.specs.Hand.{contains}
use Rattle.heap_store.specs.View.{IsLawfulView, IsRefusal}
use Rattle.heap_store.proofs.ShowLaws.{one_value}
use Rattle.heap_store.proofs.GrowthLaws.{at_true}
use Rattle.word_world.specs.Words.{node_of_words, row_words, places_of}
use Rattle.word_world.proofs.Tables.{length-tabulate, tabulate-at, tabulate-past}
use Rattle.word_world.proofs.RowWords.{world_inside}
use Rattle.word_store.specs.declared.sight.Sight.{Sight}
use Rattle.word_store.specs.Rule.{seen_by}
use Rattle.word_store.specs.Sound.{IsSound, IsAlone}
use Rattle.word_store.specs.Views.{view_with}
use Rattle.word_store.proofs.Counts.{count_free}

pub alone_is : (v : Sight) → eqb v.callers 1 ≡ true → v.callers ≡ 1
alone_is v e = eqb-true v.callers 1 e

module _ (v : Sight) (caller refused : ℕ) (last : Full) (drawn named : ℕ) (number : v.numbers ≡ caller ∷ []) (s : IsSound v) (refusal : 1 ≤ refused → IsRefusal v.nodes last) where
  len : length (seen_by v).nodes ≡ places_of v.nodes
  len = length-tabulate (node_of_words v.words) 0 (places_of v.nodes)

  pub published_inside : (p : ℕ) → is_published (recs (seen_by v)) p ≡ true → p < places_of v.nodes
  published_inside p h = let t = at_true (λ _. true) (recs (seen_by v) p) h in world_inside v.nodes v.rows v.words p t.0 t.1

  bare : (o : Option Node) → at_record false (λ _. true) (option_map (λ (n : Node). n.rec) o) ≡ false → o ≡ None
  bare None h = refl
  bare (Some n) h = absurd (true≢false h)

  row_past : (m : ℕ) → v.rows ≤ m → words_at (seen_by v) (suc m) ≡ []
  row_past m past = tabulate-past (row_words v.nodes v.words) 0 v.rows m [] past

  row_words_wide : (i : ℕ) → 1 ≤ i → i ≤ v.rows → length (words_at (seen_by v) i) ≡ 8
  row_words_wide zero low high = absurd (omega arith)
  row_words_wide (suc i) low high = ap length (tabulate-at (row_words v.nodes v.words) 0 v.rows i [] (omega arith))

  row_inside : (i : ℕ) (r : Row) → row_at (seen_by v) i ≡ Some r → i ≤ v.rows
  row_inside zero r e = omega arith
  row_inside (suc m) r e = ⊎_elim (λ l. omega (arith, l)) (λ past. (let z : None ≡ Some r = sym (ap (row_of (suc m)) (row_past m past)) ∙ e in cc)) (cases_lt m v.rows)

  ends_last : (i : ℕ) → is_ended_at (row_at (seen_by v)) i ≡ false → word_at (seen_by v) i 5 ≡ 0
  ends_last zero h = refl
  ends_last (suc m) h = s.well.unended m h

  name_inside : (i : ℕ) → contains v.hand.names i ≡ true → i ≤ v.rows
  name_inside zero had = omega arith
  name_inside (suc m) had = let l = s.names_low m had in omega (arith, l.0)

  undrawn_row : slice_index v.words 1 ≤ v.rows → (i : ℕ) → slice_index v.words 1 < i → row_at (seen_by v) i ≡ None
  undrawn_row rows zero l = absurd (omega arith)
  undrawn_row rows (suc m) l = none (row_of (suc m) (words_at (seen_by v) (suc m))) refl
    where
      none : (o : Option Row) → row_of (suc m) (words_at (seen_by v) (suc m)) ≡ o → row_of (suc m) (words_at (seen_by v) (suc m)) ≡ None
      none None e = e
      none (Some r) e = absurd (absent (words_at (seen_by v) (suc m)) r (s.well.undrawn m 0 (omega (arith, l))) e)
        where
          absent : (ws : List ℕ) (r : Row) → slice_index ws 0 ≡ 0 → row_of (suc m) ws ≡ Some r → ⊥
          absent ws r zero_first e = (let z : None ≡ Some r = sym (ap (λ x. option_map (Rattle.heap_store.specs.Rows.row_with (suc m) ws) (Rattle.heap_store.specs.Rows.op_of_word x)) zero_first) ∙ e in cc)

  yes : (a b : ℕ) → eqb v.callers 1 ≡ true → cond (eqb v.callers 1) a b ≡ a
  yes a b e = ap (λ z. cond {A = ℕ} z a b) e

  drawn_named : (i : ℕ) → IsAlone v → 1 ≤ i → i ≤ slice_index v.words 1 → is_ended_at (row_at (seen_by v)) i ≡ false → contains v.hand.names i ≡ true
  drawn_named zero a low high e = absurd (omega arith)
  drawn_named (suc m) a low high e = a.names m (omega (arith, high)) e

  pub view_lawful : IsLawfulView (view_with v caller refused last drawn named)
  view_lawful = record {
    world = s.well.world;
    legal = s.well.legal;
    roots = s.well.roots;
    plan = s.well.plan_kept;
    words = row_words_wide;
    rows_few = s.small.1;
    rows_low = row_inside;
    unended = ends_last;
    hand = s.hand;
    names_low = name_inside;
    open_in = s.works;
    mine = λ c e i r h same. s.mine i r h (ap (λ ns. contains ns r.caller) number ∙ or_left (eqb caller r.caller) false (eq-eqb caller r.caller (one_value caller c e ∙ sym same)));
    places = (let k = count_free v.hand.reserved (seen_by v).nodes s.hand.reserved_once (λ p h. (let l = (s.reserved_low p h).1 in omega (arith, l, len), bare (node_at (seen_by v) p) (s.hand.reserved p h))) in omega (arith, k, len));
    sized = omega (arith, len, s.small.0);
    published_low = λ p h. (let l = published_inside p h in omega (arith, l, s.small.0));
    reserved_low = λ p h. (let l = (s.reserved_low p h).1 in omega (arith, l, len));
    refused = refusal;
    funded = s.well.funded;
    drawn = λ e. (let a = s.alone (alone_is v e) in omega (arith, a.drawn, yes (slice_index v.words 0) drawn e));
    room = λ e. (let a = s.alone (alone_is v e) in omega (arith, a.room, yes (slice_index v.words 0) drawn e));
    claimed = λ e. (s.alone (alone_is v e)).claims;
    rows = λ e. (let a = s.alone (alone_is v e) in omega (arith, a.rows, yes (slice_index v.words 1) named e));
    unnamed = λ e i l. undrawn_row (s.alone (alone_is v e)).rows i (omega (arith, l, yes (slice_index v.words 1) named e));
    names = λ e i low high. drawn_named i (s.alone (alone_is v e)) low (omega (arith, high, yes (slice_index v.words 1) named e));
    vain = λ e. (s.alone (alone_is v e)).vain;
    budget = λ e. (s.alone (alone_is v e)).budget;
  }
