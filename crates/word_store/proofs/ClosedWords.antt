-- What the words of a closed store show at a place and in a row.
use Rattle.std.proofs.Common.{◌≡◌, ◌≢◌, ℕ, suc, ◌+◌, ◌<◌, ◌≤◌, List, [], ◌∷◌, length, refl, sym, ap, ap₂, ◌∙◌, arith, Bool, true, false, cond, Some, None, eqb}
use Rattle.std.specs.Prelude.{slice_index, slice_index_or}
use Rattle.std.proofs.lemmas.Bool.{eqb-true}
use Rattle.std.proofs.lemmas.List.{get_or_default}
use Rattle.lazy_rec.specs.declared.records.Rec.{Rec}
use Rattle.lazy_rec.specs.declared.states.SuspState.{SuspState}
use Rattle.lazy_rec.specs.Shown.{shown}
use Rattle.heap_store.specs.World.{node_at}
use Rattle.heap_store.specs.Rows.{word_at}
use Rattle.word_world.specs.Words.{world_of, node_of_words, state_of_word, places_of, record_word_at, state_word_at, row_word_at}
use Rattle.word_world.proofs.Tables.{tabulate-at, tabulate-past}
use Rattle.word_world.proofs.Worlds.{node_from, node_words, none_from}
use Rattle.word_store.proofs.PassReads.{word_is}

-- a word that was read
pub read_at : (ws : List ℕ) (i x : ℕ) → i < length ws → x ≡ slice_index_or ws i x → x ≡ slice_index ws i
read_at ws i x inside e = e ∙ get_or_default ws i x 0 inside

module _ (nodes rows : ℕ) (ws : List ℕ) (p : ℕ) where
  pub node_past : places_of nodes ≤ p → node_at (world_of nodes rows ws) p ≡ None
  node_past past = tabulate-past (node_of_words ws) 0 (places_of nodes) p None past

  node_here : p < places_of nodes → node_at (world_of nodes rows ws) p ≡ node_from (slice_index ws (record_word_at p 0)) (slice_index ws (record_word_at p 1)) (slice_index ws (record_word_at p 2)) (slice_index ws (record_word_at p 3)) (slice_index ws (state_word_at p))
  node_here inside = tabulate-at (node_of_words ws) 0 (places_of nodes) p None inside ∙ (ap (node_of_words ws) {x = 0 + p} {y = p} (omega arith) ∙ node_words ws p)

  pub node_none : p < places_of nodes → slice_index ws (record_word_at p 0) ≡ 0 → node_at (world_of nodes rows ws) p ≡ None
  node_none inside e = node_here inside ∙ none_from _ _ _ _ _ e

  pub node_some : p < places_of nodes → (a b c d n : ℕ) (r : Rec) (s : SuspState) → a ≡ slice_index ws (record_word_at p 0) → b ≡ slice_index ws (record_word_at p 1) → c ≡ slice_index ws (record_word_at p 2) → d ≡ slice_index ws (record_word_at p 3) → n ≡ slice_index ws (state_word_at p)
      → a ≢ 0 → r ≡ shown (a ∷ b ∷ c ∷ d ∷ []) → s ≡ state_of_word n → node_at (world_of nodes rows ws) p ≡ Some (record { rec = r; state = s })
  node_some inside a b c d n r s ea eb ec ed en some er es = node_here inside ∙ (rw (sym ea, sym eb, sym ec, sym ed, sym en) (by (eqb a 0) refl))
    where
      by : (t : Bool) → eqb a 0 ≡ t → node_from a b c d n ≡ Some (record { rec = r; state = s })
      by true e = absurd (some (eqb-true a 0 e))
      by false e = ap (λ t. cond t None (Some (record { rec = shown (a ∷ b ∷ c ∷ d ∷ []); state = state_of_word n }))) e ∙ ap₂ (λ x y. Some (record { rec = x; state = y })) (sym er) (sym es)

pub row_word : (nodes rows : ℕ) (ws : List ℕ) (name i j : ℕ) → name ≡ suc i → name ≤ rows → j < 8 → word_at (world_of nodes rows ws) name j ≡ slice_index ws (row_word_at nodes i j)
row_word nodes rows ws name i j is high few = ap (λ n. word_at (world_of nodes rows ws) n j) is ∙ word_is nodes rows ws i j (omega (arith, is, high)) few
