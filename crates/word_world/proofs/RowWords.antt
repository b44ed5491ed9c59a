-- A word of a row is stored: what it does to the world, and what it keeps.
use Rattle.std.proofs.Common.{◌≡◌, ℕ, zero, suc, ◌+◌, ◌<◌, List, [], length, refl, sym, ap, ap₂, ◌∙◌, arith, subst, true, false, Option, Some, None, ⊎_elim}
use Rattle.std.specs.Prelude.{slice_index, slice_index_or, slice_set, option_map, option_and_then}
use Rattle.std.proofs.lemmas.Bool.{true≢false, cases_eq, cases_lt}
use Rattle.std.proofs.lemmas.List.{get_or-set_same, get_or-set_other}
use Rattle.lazy_rec.specs.declared.records.Rec.{Rec}
use Rattle.lazy_rec.specs.declared.events.Event.{Event}
use Rattle.heap_store.specs.declared.nodes.Node.{Node}
use Rattle.heap_store.specs.World.{World, recs}
use Rattle.heap_store.specs.Rows.{Row, row_at, words_at, word_at, word, store_word, is_ended, is_ended_at}
use Rattle.heap_store.specs.RowCalls.{ends_row}
use Rattle.heap_store.specs.Growth.{Grows, begun_of}
use Rattle.heap_store.specs.Plain.{is_ended_row}
use Rattle.heap_store.proofs.GrowthLaws.{grows_refl}
use Rattle.heap_store.proofs.WordLaws.{begun-words, begun-same, begun_none, zero_unended, words-same, row-other}
use Rattle.word_world.specs.Words.{node_of_words, row_words, places_of, record_word_at, state_word_at, row_word_at, world_of, word_count, tabulate}
use Rattle.word_world.proofs.Tables.{tabulate-same, tabulate-at, tabulate-set, tabulate-past}
use Rattle.word_world.proofs.Worlds.{node_same, row_same}

pub row_world : (nodes rows : ℕ) (ws : List ℕ) (i j x : ℕ) → i < rows → j < 8 → length ws ≡ word_count nodes rows → world_of nodes rows (slice_set ws (row_word_at nodes i j) x) ≡ store_word (world_of nodes rows ws) (suc i) j x
row_world nodes rows ws i j x inside few wide = ap₂ (λ (a : List (Option Node)) (b : List (List ℕ)). record { nodes = a; rows = b })
    (tabulate-same _ _ 0 (places_of nodes) (λ q l h. node_same (slice_set ws (row_word_at nodes i j) x) ws q (λ m low. other (record_word_at q m) (λ z. omega arith)) (other (state_word_at q) (λ z. omega arith))))
    (sym (tabulate-set (row_words nodes ws) (row_words nodes (slice_set ws (row_word_at nodes i j) x)) 0 rows i (slice_set (slice_index_or (tabulate (row_words nodes ws) 0 rows) i []) j x) inside here (λ q ne. row_same nodes (slice_set ws (row_word_at nodes i j) x) ws q (λ m low. other (row_word_at nodes q m) (λ z. ne (omega (arith, z, few, low)))))))
  where
    other : (n : ℕ) → (n ≡ row_word_at nodes i j → ⊥) → slice_index (slice_set ws (row_word_at nodes i j) x) n ≡ slice_index ws n
    other n ne = get_or-set_other ws (row_word_at nodes i j) n x 0 ne

    own : slice_index (slice_set ws (row_word_at nodes i j) x) (row_word_at nodes i j) ≡ x
    own = get_or-set_same ws (row_word_at nodes i j) x 0 (omega (arith, wide, inside, few))

    row : slice_set (row_words nodes ws i) j x ≡ row_words nodes (slice_set ws (row_word_at nodes i j) x) i
    row = tabulate-set (λ m. slice_index ws (row_word_at nodes i m)) (λ m. slice_index (slice_set ws (row_word_at nodes i j) x) (row_word_at nodes i m)) 0 8 j x few (ap (λ m. slice_index (slice_set ws (row_word_at nodes i j) x) (row_word_at nodes i m)) {x = 0 + j} {y = j} (omega arith) ∙ own) (λ m ne. other (row_word_at nodes i m) (λ z. ne (omega (arith, z))))

    here : row_words nodes (slice_set ws (row_word_at nodes i j) x) (0 + i) ≡ slice_set (slice_index_or (tabulate (row_words nodes ws) 0 rows) i []) j x
    here = ap (row_words nodes (slice_set ws (row_word_at nodes i j) x)) {x = 0 + i} {y = i} (omega arith) ∙ (sym row
        ∙ ap (λ r. slice_set r j x) (sym (tabulate-at (row_words nodes ws) 0 rows i [] inside ∙ ap (row_words nodes ws) {x = 0 + i} {y = i} (omega arith))))

-- ---- the row, in a world

module _ (w : World) (k i v : ℕ) (there : k < length w.rows) (wide : length (words_at w (suc k)) ≡ 8) (small : i < 8) (open_yet : is_ended_at (row_at w) (suc k) ≡ false)
    (once : i < 3 → word_at w (suc k) 0 ≡ 0) (ends : ends_row i ≡ true → is_ended_at (row_at (store_word w (suc k) i v)) (suc k) ≡ true) (word5 : word_at w (suc k) 5 ≡ 0) where
  same_word : (j : ℕ) → (j ≡ i → ⊥) → word_at (store_word w (suc k) i v) (suc k) j ≡ word_at w (suc k) j
  same_word j ne = ap (λ ws. word ws j) (words-same w k i v there) ∙ get_or-set_other (words_at w (suc k)) i j v 0 ne

  pub own_word : word_at (store_word w (suc k) i v) (suc k) i ≡ v
  own_word = ap (λ ws. word ws i) (words-same w k i v there) ∙ get_or-set_same (words_at w (suc k)) i v 0 (omega (arith, wide, small))

  pub word5_after : (5 ≡ i → ⊥) → word_at (store_word w (suc k) i v) (suc k) 5 ≡ 0
  word5_after ne = same_word 5 ne ∙ word5

  pub open_after : (5 ≡ i → ⊥) → is_ended_at (row_at (store_word w (suc k) i v)) (suc k) ≡ false
  open_after ne = zero_unended (suc k) (words_at (store_word w (suc k) i v) (suc k)) (word5_after ne)

  begun_after : (e : ℕ × Event) → option_and_then begun_of (row_at w (suc k)) ≡ Some e → option_and_then begun_of (row_at (store_word w (suc k) i v) (suc k)) ≡ Some e
  begun_after e h = ⊎_elim
      (λ l. (let z = once l in
      let none : option_and_then begun_of (row_at w (suc k)) ≡ None = begun-words (suc k) (words_at w (suc k)) ∙ (begun-same _ _ _ _ _ _ z refl refl ∙ begun_none (word_at w (suc k) 1) (word_at w (suc k) 2)) in
      let bad : None ≡ Some e = sym none ∙ h in cc))
      (λ high. begun-words (suc k) (words_at (store_word w (suc k) i v) (suc k)) ∙
      (begun-same _ _ _ _ _ _ (same_word 0 (λ x. absurd (omega (arith, x)))) (same_word 1 (λ x. absurd (omega (arith, x)))) (same_word 2 (λ x. absurd (omega (arith, x)))) ∙
      (sym (begun-words (suc k) (words_at w (suc k))) ∙ h)))
      (cases_lt i 3)

  pub stored_grows : Grows w (store_word w (suc k) i v)
  stored_grows = record {
    records = λ p r e. e;
    done = λ p s e f. e;
    given_up = (grows_refl w).given_up;
    begun = begun;
    ended = ended;
  }
    where
      begun : (j : ℕ) (e : ℕ × Event) → option_and_then begun_of (row_at w j) ≡ Some e → option_and_then begun_of (row_at (store_word w (suc k) i v) j) ≡ Some e
      begun zero e h = h
      begun (suc m) e h = ⊎_elim
          (λ eq. subst (λ z. option_and_then begun_of (row_at (store_word w (suc k) i v) (suc z)) ≡ Some e) (sym eq) (begun_after e (subst (λ z. option_and_then begun_of (row_at w (suc z)) ≡ Some e) eq h)))
          (λ ne. ap (option_and_then begun_of) (row-other w k i v there m ne) ∙ h) (cases_eq m k)

      ended : (j : ℕ) (r : Row) → row_at w j ≡ Some r → is_ended r.ending ≡ true → row_at (store_word w (suc k) i v) j ≡ Some r
      ended zero r h f = h
      ended (suc m) r h f = ⊎_elim
          (λ eq. (let own : row_at w (suc k) ≡ Some r = subst (λ z. row_at w (suc z) ≡ Some r) eq h in absurd (true≢false (sym f ∙ (sym (ap is_ended_row own) ∙ open_yet)))))
          (λ ne. row-other w k i v there m ne ∙ h) (cases_eq m k)

-- a place that shows something is one of the store's
pub world_inside : (nodes rows : ℕ) (ws : List ℕ) (p : ℕ) (r : Rec) → recs (world_of nodes rows ws) p ≡ Some r → p < places_of nodes
world_inside nodes rows ws p r h = ⊎_elim (λ l. l) (λ past. absurd (none_some (sym (ap (option_map (λ (n : Node). n.rec)) (tabulate-past (node_of_words ws) 0 (places_of nodes) p None past)) ∙ h))) (cases_lt p (places_of nodes))
  where
    none_some : None ≡ Some r → ⊥
    none_some e = cc
