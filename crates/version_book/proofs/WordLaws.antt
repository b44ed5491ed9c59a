-- What storing one word of a row changes.
use Rattle.std.proofs.Common.{◌≡◌, ℕ, zero, suc, ◌<◌, ◌≤◌, refl, sym, ap, ◌∙◌, arith, ⊎_elim, Some, None, List, [], length}
use Rattle.std.specs.Prelude.{slice_set, slice_index_or, option_map, option_and_then}
use Rattle.std.proofs.lemmas.List.{get_or-set_same, get_or-set_other, get_or_past, length-set}
use Rattle.std.proofs.lemmas.Bool.{cases_lt}
use Rattle.heap_store.specs.World.{World, recs}
use Rattle.std.proofs.Common.{◌≢◌, ◌-◌, ◌/◌, ◌%◌, ◌^◌, ◌∷◌, Bool, true, false, cond, Option, get_or}
use Rattle.std.proofs.lemmas.Option.{slice_get-get_or}
use Rattle.heap_store.proofs.ShowLaws.{one_value}
use Rattle.lazy_rec.specs.declared.events.Op.{Op}
use Rattle.lazy_rec.specs.History.{is_second, event_name}
use Rattle.heap_store.specs.Rows.{Row, NamedRows, not_ended, full, memory, no_base, first_of, second_of, version_of, version_at, answer_of, ending_of, op_of_word, caller_of_word, is_begun_word, event_with, row_with, row_of, row_at, word, words_at, word_at, store_word}
use Rattle.heap_store.specs.LookedAt.{RootsOf}

-- other rows keep their words
pub words-other : (w : World) (name i v m : ℕ) → (m ≡ name → ⊥) → words_at (store_word w name i v) m ≡ words_at w m
words-other w zero i v m ne = refl
words-other w (suc k) i v zero ne = refl
words-other w (suc k) i v (suc m) ne = get_or-set_other w.rows k m _ [] (λ e. ne (ap suc e))

pub row-other : (w : World) (name i v m : ℕ) → (m ≡ name → ⊥) → row_at (store_word w name i v) m ≡ row_at w m
row-other w name i v m ne = ap (row_of m) (words-other w name i v m ne)

-- so do the other words of the row
pub word-other : (w : World) (name i v j : ℕ) → (j ≡ i → ⊥) → word_at (store_word w name i v) name j ≡ word_at w name j
word-other w zero i v j ne = refl
word-other w (suc k) i v j ne = ⊎_elim
    (λ l. ap (λ ws. word ws j) (get_or-set_same w.rows k _ [] l) ∙ get_or-set_other (slice_index_or w.rows k []) i j v 0 ne)
    (λ l. ap (λ ws. word ws j) (get_or_past (slice_set w.rows k (slice_set (slice_index_or w.rows k []) i v)) k [] (past l) ∙ sym (get_or_past w.rows k [] l)))
    (cases_lt k (length w.rows))
  where
    past : length w.rows ≤ k → length (slice_set w.rows k (slice_set (slice_index_or w.rows k []) i v)) ≤ k
    past l = simp length-set l

pub recs-store : (w : World) (name i v : ℕ) → recs (store_word w name i v) ≡ recs w
recs-store w zero i v = refl
recs-store w (suc k) i v = refl

pub nodes-store : (w : World) (name i v : ℕ) → (store_word w name i v).nodes ≡ w.nodes
nodes-store w zero i v = refl
nodes-store w (suc k) i v = refl

-- the places' laws don't see the rows' words
pub roots-store : (w : World) (name i v : ℕ) (rows : NamedRows) → RootsOf w rows → RootsOf (store_word w name i v) rows
roots-store w zero i v rows h = h
roots-store w (suc k) i v rows h = record { roots = h.roots; looked = h.looked }

-- and the stored word is there
pub word-same : (w : World) (name i v : ℕ) → 1 ≤ name → length (words_at w name) ≡ 8 → i < 8 → word_at (store_word w name i v) name i ≡ v
word-same w zero i v low wide small = absurd (omega arith)
word-same w (suc k) i v low wide small = ⊎_elim
    (λ l. ap (λ ws. word ws i) (get_or-set_same w.rows k _ [] l) ∙ get_or-set_same (slice_index_or w.rows k []) i v 0 (omega (arith, wide)))
    (λ l. absurd (omega (arith, wide, ap length (get_or_past w.rows k [] l))))
    (cases_lt k (length w.rows))

-- ---- the row that eight words show

-- none where word 0 isn't stored
pub no-row : (w : World) (name : ℕ) → word_at w name 0 ≡ 0 → row_at w name ≡ None
no-row w name e = rw e refl

-- a row, by all its words
pub whole-row : (w : World) (name : ℕ) (op : Op) → op_of_word (word_at w name 0) ≡ Some op
    → row_at w name ≡ Some (row_with name (words_at w name) op)
whole-row w name op op_is = rw op_is refl

-- an unended row, by its first three words
pub open-row : (w : World) (name : ℕ) (op : Op) → op_of_word (word_at w name 0) ≡ Some op → word_at w name 5 ≡ 0
    → row_at w name ≡ Some (record { caller = caller_of_word (word_at w name 0); event = event_with (words_at w name) op; begun = is_begun_word (word_at w name 0); ending = not_ended })
open-row w name op op_is end = rw (op_is, end) refl

-- the words of a name, as a read of the rows gives them
pub words-read : (w : World) (name : ℕ) (ws : List ℕ) → 1 ≤ name → name ≤ length w.rows → ws ≡ get_or w.rows (name - 1) ws → words_at w name ≡ ws
words-read w zero ws low high e = absurd (omega arith)
words-read w (suc k) ws low high e =
    let l : k < length w.rows = omega arith in
    let i : suc k - 1 ≡ k = omega arith in
    one_value _ _ (sym (slice_get-get_or w.rows k [] l) ∙ slice_get-get_or w.rows k ws l) ∙ sym (rw i at e)

-- ---- how a row ended, by its words

-- the words of a row tell its ending
pub row_ending : (name : ℕ) (ws : List ℕ) (r : Row) → row_of name ws ≡ Some r → ending_of name ws ≡ r.ending
row_ending name ws r = by (op_of_word (word ws 0))
  where
    by : (o : Option Op) → option_map (row_with name ws) o ≡ Some r → ending_of name ws ≡ r.ending
    by None e = cc
    by (Some op) e = ap (λ (x : Row). x.ending) (one_value (row_with name ws op) r e)

-- a row whose end word isn't that of a reply has no version
pub not_replied : (w : World) (n : ℕ) → word_at w (event_name n) 5 ≢ 1 → None ≡ version_at (row_at w) n
not_replied w n ne = by (op_of_word (word_at w (event_name n) 0))
  where
    none : (k : ℕ) → k ≢ 1 → (b : Bool) → None ≡ cond b
        (second_of (slice_index_or (not_ended ∷ answer_of (event_name n) (words_at w (event_name n)) ∷ full (word_at w (event_name n) 4 % 2 ^ 32) (word_at w (event_name n) 4 / 2 ^ 32) ∷ memory ∷ no_base ∷ []) k not_ended))
        (first_of (slice_index_or (not_ended ∷ answer_of (event_name n) (words_at w (event_name n)) ∷ full (word_at w (event_name n) 4 % 2 ^ 32) (word_at w (event_name n) 4 / 2 ^ 32) ∷ memory ∷ no_base ∷ []) k not_ended))
    none zero h true = refl
    none zero h false = refl
    none (suc zero) h b = absurd (h refl)
    none (suc (suc zero)) h true = refl
    none (suc (suc zero)) h false = refl
    none (suc (suc (suc zero))) h true = refl
    none (suc (suc (suc zero))) h false = refl
    none (suc (suc (suc (suc zero)))) h true = refl
    none (suc (suc (suc (suc zero)))) h false = refl
    none (suc (suc (suc (suc (suc k))))) h true = refl
    none (suc (suc (suc (suc (suc k))))) h false = refl

    by : (o : Option Op) → None ≡ option_and_then (λ (r : Row). version_of n r.ending) (option_map (row_with (event_name n) (words_at w (event_name n))) o)
    by None = refl
    by (Some op) = none (word_at w (event_name n) 5) ne (is_second n)
