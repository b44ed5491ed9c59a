-- The words of a store in which nothing is drawn.
use Rattle.std.proofs.Common.{◌≡◌, ℕ, zero, suc, ◌+◌, ◌-◌, ◌*◌, ◌<◌, ◌≤◌, List, [], ◌∷◌, ◌++◌, length, refl, sym, ap, ap₂, ◌∙◌, arith, subst, true, false, Option, Some, None, ltb, replicate, ⊎_elim}
use Rattle.std.specs.Prelude.{slice_index, slice_set, option_map}
use Rattle.std.proofs.lemmas.Bool.{cases_lt, le-ltb}
use Rattle.std.proofs.lemmas.List.{length-replicate}
use Rattle.lazy_rec.specs.declared.events.Event.{Event}
use Rattle.lazy_rec.specs.Named.{at_record}
use Rattle.lazy_rec.specs.Packed.{words_of}
use Rattle.lazy_rec.specs.States.{state_word, state_in_range}
use Rattle.heap_store.specs.declared.nodes.Node.{Node}
use Rattle.heap_store.specs.World.{recs, is_published, is_claimed_at, fixed_places}
use Rattle.heap_store.specs.Rows.{Row, row_at, word_at, is_ended_at}
use Rattle.heap_store.specs.Legal.{IsLegal}
use Rattle.heap_store.specs.Lawful.{IsLawful}
use Rattle.heap_store.specs.LookedAt.{HasRoots}
use Rattle.heap_store.specs.Budget.{IsFunded}
use Rattle.heap_store.specs.Plain.{plain_world, five_records, no_words, is_ended_row, IsPlain}
use Rattle.heap_store.proofs.PlainOpen.{opened_plain, no_rows, rowless, unclaimed, each_five, word_none, none_beyond}
use Rattle.word_world.specs.Words.{first_words, node_of_words, state_of_word, row_words, tabulate, places_of, world_of, word_count, record_words, record_word_at, state_word_at, row_word_at}
use Rattle.word_world.specs.LawfulWords.{IsLawfulWords}
use Rattle.word_world.proofs.Worlds.{none_from, node_words, zero_state}

zeros : (m i : ℕ) → ◌≡◌ {A = ℕ} (slice_index (replicate {A = ℕ} m 0) i) 0
zeros zero i = refl
zeros (suc m) zero = refl
zeros (suc m) (suc i) = zeros m i

-- a word behind those of the fixed places
past_fixed : (nodes rows i : ℕ) → 27 ≤ i → slice_index (first_words nodes rows) i ≡ 0
past_fixed nodes rows i l = ap (λ j. slice_index (first_words nodes rows) j) {x = i} {y = suc (suc (suc (suc (suc (suc (suc (suc (suc (suc (suc (suc (suc (suc (suc (suc (suc (suc (suc (suc (suc (suc (suc (suc (suc (suc (suc (i - 27)))))))))))))))))))))))))))} (omega (arith, l)) ∙ zeros (5 * nodes + 8 * rows) (i - 27)

-- a place that isn't fixed shows nothing
bare : (nodes rows p : ℕ) → 5 ≤ p → node_of_words (first_words nodes rows) p ≡ None
bare nodes rows p l = node_words (first_words nodes rows) p ∙ none_from _ _ _ _ _ (past_fixed nodes rows (record_word_at p 0) (omega (arith, l)))

bare_run : (nodes rows p n : ℕ) → 5 ≤ p → tabulate (node_of_words (first_words nodes rows)) p n ≡ replicate n None
bare_run nodes rows p zero l = refl
bare_run nodes rows p (suc n) l = both (bare nodes rows p l) (bare_run nodes rows (suc p) n (omega (arith, l)))
  where
    both : {x y : Option Node} {xs ys : List (Option Node)} → x ≡ y → xs ≡ ys → x ∷ xs ≡ y ∷ ys
    both e k = rw (e, k) refl

fixed_run : (nodes rows n : ℕ) → n ≡ nodes → tabulate (node_of_words (first_words nodes rows)) 0 (suc (suc (suc (suc (suc n))))) ≡ five_records ++ tabulate (node_of_words (first_words nodes rows)) 5 n
unfolding node_of_words state_of_word
fixed_run nodes rows n e = refl

row_blank : (nodes rows i j n : ℕ) → tabulate (λ m. slice_index (first_words nodes rows) (row_word_at nodes i m)) j n ≡ replicate n 0
row_blank nodes rows i j zero = refl
row_blank nodes rows i j (suc n) = both (past_fixed nodes rows (row_word_at nodes i j) (omega arith)) (row_blank nodes rows i (suc j) n)
  where
    both : {x y : ℕ} {xs ys : List ℕ} → x ≡ y → xs ≡ ys → x ∷ xs ≡ y ∷ ys
    both e k = rw (e, k) refl

rows_run : (nodes rows p n : ℕ) → tabulate (row_words nodes (first_words nodes rows)) p n ≡ replicate n no_words
rows_run nodes rows p zero = refl
rows_run nodes rows p (suc n) = both (row_blank nodes rows p 0 8) (rows_run nodes rows (suc p) n)
  where
    both : {x y : List ℕ} {xs ys : List (List ℕ)} → x ≡ y → xs ≡ ys → x ∷ xs ≡ y ∷ ys
    both e k = rw (e, k) refl

pub opened_world : (nodes rows : ℕ) → world_of nodes rows (first_words nodes rows) ≡ plain_world nodes rows five_records []
opened_world nodes rows = ap₂ (λ (a : List (Option Node)) (b : List (List ℕ)). record { nodes = a; rows = b })
    (ap (λ n. tabulate (node_of_words (first_words nodes rows)) 0 n) {x = places_of nodes} {y = suc (suc (suc (suc (suc nodes))))} (omega arith)
    ∙ (fixed_run nodes rows nodes refl ∙ ap (λ xs. five_records ++ xs) (bare_run nodes rows 5 nodes (omega arith) ∙ ap (λ n. replicate n None) {x = nodes} {y = fixed_places + nodes - length five_records} (omega arith))))
    (rows_run nodes rows 0 rows ∙ ap (λ n. replicate n no_words) {x = rows} {y = rows - 0} (omega arith))

-- ---- the words are lawful

module _ (nodes rows : ℕ) (few : nodes ≤ 4000000) (rows_few : rows ≤ 200000) where
  plain : IsPlain nodes rows five_records [] []
  plain = opened_plain nodes rows few rows_few

  pub first_rowless : (i : ℕ) (r : Row) → row_at (world_of nodes rows (first_words nodes rows)) i ≡ Some r → ⊥
  first_rowless i r e = rowless nodes rows i r (ap (λ w. row_at w i) (sym (opened_world nodes rows)) ∙ e)

  pub first_unended : (i : ℕ) → is_ended_at (row_at (world_of nodes rows (first_words nodes rows))) i ≡ false
  first_unended i = ap (λ w. is_ended_at (row_at w) i) (opened_world nodes rows) ∙ ap is_ended_row (no_rows nodes rows i)

  pub first_unclaimed : (p : ℕ) → is_claimed_at (world_of nodes rows (first_words nodes rows)) p ≡ false
  first_unclaimed p = ap (λ w. is_claimed_at w p) (opened_world nodes rows) ∙ unclaimed nodes rows p

  -- the fixed places are published, and no others
  pub first_published : (p : ℕ) → is_published (recs (world_of nodes rows (first_words nodes rows))) p ≡ ltb p fixed_places
  first_published p = ap (λ w. is_published (recs w) p) (opened_world nodes rows) ∙ by p
    where
      by : (p : ℕ) → is_published (recs (plain_world nodes rows five_records [])) p ≡ ltb p fixed_places
      by zero = refl
      by (suc zero) = refl
      by (suc (suc zero)) = refl
      by (suc (suc (suc zero))) = refl
      by (suc (suc (suc (suc zero)))) = refl
      by (suc (suc (suc (suc (suc q))))) = ap (λ o. at_record false (λ _. true) (option_map (λ (n : Node). n.rec) o)) (none_beyond nodes rows q) ∙ sym (le-ltb (suc (suc (suc (suc (suc q))))) fixed_places (omega arith))

  state_untouched : (p : ℕ) → slice_index (first_words nodes rows) (state_word_at p) ≡ 0
  state_untouched p = ⊎_elim (fixed p) (λ high. past_fixed nodes rows (state_word_at p) (omega (arith, high))) (cases_lt p 5)
    where
      fixed : (p : ℕ) → p < 5 → slice_index (first_words nodes rows) (state_word_at p) ≡ 0
      fixed zero l = refl
      fixed (suc zero) l = refl
      fixed (suc (suc zero)) l = refl
      fixed (suc (suc (suc zero))) l = refl
      fixed (suc (suc (suc (suc zero)))) l = refl
      fixed (suc (suc (suc (suc (suc q))))) l = absurd (omega arith)

  pub first_lawful : (plan : Option (List Event)) → IsLawfulWords nodes rows plan (first_words nodes rows)
  first_lawful plan = let now = opened_world nodes rows in record {
    world = subst IsLawful (sym now) plain.seen.lawful;
    legal = subst IsLegal (sym now) plain.seen.legal;
    roots = subst HasRoots (sym now) plain.seen.roots;
    funded = subst IsFunded (sym now) plain.funded;
    plan_kept = λ events e i r h. absurd (first_rowless i r h);
    packed = λ p r e. each_five nodes rows (λ q t. record_words (first_words nodes rows) q ≡ words_of t) refl refl refl refl refl p r (ap (λ w. recs w p) (sym now) ∙ e);
    states = λ p l. subst (λ n. state_word (state_of_word n) ≡ n) (sym (state_untouched p)) (ap state_word zero_state);
    ranges = λ p l. subst (λ n. state_in_range (state_of_word n) ≡ true) (sym (state_untouched p)) (ap state_in_range zero_state);
    untouched = λ p l e. state_untouched p;
    undrawn = λ i j l. ap (λ w. word_at w (suc i) j) now ∙ word_none nodes rows (suc i) j;
    unended = λ i e. ap (λ w. word_at w (suc i) 5) now ∙ word_none nodes rows (suc i) 5;
  }

  pub first_length : length (first_words nodes rows) ≡ word_count nodes rows
  first_length = let z : ℕ = 0 in omega (arith, length-replicate {A = ℕ} (5 * nodes + 8 * rows) z)

-- zeros in which the first words of the five fixed records are set
pub fixed_set : (nodes rows : ℕ) (ws : List ℕ) (n : ℕ) → n ≡ word_count nodes rows → ws ≡ replicate n 0 → slice_set (slice_set (slice_set (slice_set (slice_set ws 3 1) 8 3) 13 9) 18 12) 23 14 ≡ first_words nodes rows
fixed_set nodes rows ws n is e = ap (λ xs. slice_set (slice_set (slice_set (slice_set (slice_set xs 3 1) 8 3) 13 9) 18 12) 23 14)
    (e ∙ ap (λ m. replicate {A = ℕ} m 0) {x = n} {y = suc (suc (suc (suc (suc (suc (suc (suc (suc (suc (suc (suc (suc (suc (suc (suc (suc (suc (suc (suc (suc (suc (suc (suc (suc (suc (suc (5 * nodes + 8 * rows)))))))))))))))))))))))))))} (omega (arith, is)))
