-- What a pass reads of the words that it has seen.
use Rattle.std.proofs.Common.{◌≡◌, ℕ, zero, suc, ◌+◌, ◌<◌, List, [], ◌∷◌, ◌++◌, length, refl, sym, ap, ◌∙◌, arith, Bool, true, Option, Some, None}
use Rattle.std.specs.Prelude.{slice_index, option_map, map, take}
use Rattle.lazy_rec.specs.declared.records.Rec.{Rec}
use Rattle.lazy_rec.specs.Packed.{words_of, number, grouped, fields}
use Rattle.heap_store.specs.declared.nodes.Node.{Node}
use Rattle.heap_store.specs.World.{recs, node_at, state_at, holds}
use Rattle.heap_store.specs.Rows.{word_at, word}
use Rattle.heap_store.specs.Hand.{holds_claim}
use Rattle.heap_store.proofs.GrowthLaws.{at_true}
use Rattle.word_world.specs.Words.{world_of, places_of, state_word_at, record_word_at, row_word_at, record_words, row_words, state_of_word}
use Rattle.word_world.proofs.Tables.{tabulate-at}
use Rattle.word_world.proofs.Worlds.{node_state}
use Rattle.word_world.proofs.RowWords.{world_inside}
use Rattle.word_store.specs.declared.sight.Sight.{Sight}
use Rattle.word_store.specs.Rule.{seen_by}
use Rattle.word_store.specs.Sound.{IsSound}
use Rattle.word_store.proofs.HandLaws.{claim_published}

pub published_within : (v : Sight) (p : ℕ) (r : Rec) → recs (seen_by v) p ≡ Some r → p < places_of v.nodes
published_within v p r h = world_inside v.nodes v.rows v.words p r h

pub test_within : (v : Sight) (p : ℕ) (test : Rec → Bool) → holds (recs (seen_by v)) p test ≡ true → p < places_of v.nodes
test_within v p test h = let t = at_true test (recs (seen_by v) p) h in world_inside v.nodes v.rows v.words p t.0 t.1

pub held_within : (v : Sight) → IsSound v → (p : ℕ) → holds_claim v.hand p ≡ true → p < places_of v.nodes
held_within v s p h = let t = claim_published (seen_by v) v.hand s.hand p h in world_inside v.nodes v.rows v.words p t.0 t.1

abbrev pub four : ℕ → ℕ → ℕ → ℕ → List ℕ
four a b c d = a ∷ b ∷ c ∷ d ∷ []

-- a word of a record that was seen
pub word_read : (v : Sight) (r j : ℕ) (x : Rec) → recs (seen_by v) r ≡ Some x → IsSound v → (k : ℕ) → k ≡ record_word_at r j → j < 4 → slice_index v.words k ≡ slice_index (words_of x) j
word_read v r j x e s k at few = ap (slice_index v.words) at ∙ by j few ∙ ap (λ (ws : List ℕ). slice_index ws j) (s.well.packed r x e)
  where
    by : (j : ℕ) → j < 4 → slice_index v.words (record_word_at r j) ≡ slice_index (record_words v.words r) j
    by zero l = refl
    by (suc zero) l = refl
    by (suc (suc zero)) l = refl
    by (suc (suc (suc zero))) l = refl
    by (suc (suc (suc (suc j)))) l = absurd (omega arith)

pub words_length : (x : Rec) → length (words_of x) ≡ 4
words_length x = four_of (map number (grouped 0 (fields x)))
  where
    four_of : (xs : List ℕ) → length (take 4 (xs ++ 0 ∷ 0 ∷ 0 ∷ 0 ∷ [])) ≡ 4
    four_of [] = refl
    four_of (a ∷ []) = refl
    four_of (a ∷ b ∷ []) = refl
    four_of (a ∷ b ∷ c ∷ []) = refl
    four_of (a ∷ b ∷ c ∷ d ∷ xs) = refl

-- four words are those of the record
pub all_words : (x : Rec) (a b c d : ℕ) → a ≡ slice_index (words_of x) 0 → b ≡ slice_index (words_of x) 1 → c ≡ slice_index (words_of x) 2 → d ≡ slice_index (words_of x) 3 → four a b c d ≡ words_of x
all_words x a b c d ea eb ec ed = go (words_of x) (words_length x) ea eb ec ed
  where
    go : (ws : List ℕ) → length ws ≡ 4 → a ≡ slice_index ws 0 → b ≡ slice_index ws 1 → c ≡ slice_index ws 2 → d ≡ slice_index ws 3 → four a b c d ≡ ws
    go [] l = absurd (omega arith)
    go (w0 ∷ []) l = absurd (omega arith)
    go (w0 ∷ w1 ∷ []) l = absurd (omega arith)
    go (w0 ∷ w1 ∷ w2 ∷ []) l = absurd (omega arith)
    go (w0 ∷ w1 ∷ w2 ∷ w3 ∷ []) l = λ e0 e1 e2 e3. rw (e0, e1, e2, e3) refl
    go (w0 ∷ w1 ∷ w2 ∷ w3 ∷ w4 ∷ ws) l = absurd (omega arith)

-- the word of a seen suspension's state
pub state_read : (v : Sight) (s : ℕ) (x : Rec) → recs (seen_by v) s ≡ Some x → (n : ℕ) → n ≡ slice_index v.words (state_word_at s) → state_at (seen_by v) s ≡ Some (state_of_word n)
state_read v s x e n is = go (node_at (seen_by v) s) refl e
  where
    go : (o : Option Node) → node_at (seen_by v) s ≡ o → option_map (λ (m : Node). m.rec) o ≡ Some x → state_at (seen_by v) s ≡ Some (state_of_word n)
    go None h k = cc
    go (Some m) h k = ap (option_map (λ (y : Node). y.state)) h ∙ ap Some (node_state v.nodes v.rows v.words s m (published_within v s x e) h ∙ ap state_of_word (sym is))

-- a word of a row
pub word_is : (nodes rows : ℕ) (ws : List ℕ) (i j : ℕ) → i < rows → j < 8 → word_at (world_of nodes rows ws) (suc i) j ≡ slice_index ws (row_word_at nodes i j)
word_is nodes rows ws i j low few = ap (λ xs. word xs j) (tabulate-at (row_words nodes ws) 0 rows i [] low ∙ ap (row_words nodes ws) {x = 0 + i} {y = i} (omega arith))
    ∙ (tabulate-at (λ m. slice_index ws (row_word_at nodes i m)) 0 8 j 0 few ∙ ap (λ m. slice_index ws (row_word_at nodes i m)) {x = 0 + j} {y = j} (omega arith))

pub row_word_is : (v : Sight) (i j : ℕ) → i < v.rows → j < 8 → word_at (seen_by v) (suc i) j ≡ slice_index v.words (row_word_at v.nodes i j)
row_word_is v = word_is v.nodes v.rows v.words
