-- The reply that the words of a row tell, where the row can be read.
use Rattle.std.proofs.Common.{◌≡◌, ◌≢◌, ℕ, zero, suc, ◌/◌, ◌%◌, ◌^◌, refl, sym, ap, ◌∙◌, Bool, true, false, ◌&&◌, Option, Some, None, List, [], ◌∷◌, slice_index_or}
use Rattle.std.specs.Prelude.{option_map}
use Rattle.std.proofs.lemmas.Bool.{true≢false}
use Rattle.heap_store.specs.declared.versions.Version.{Version}
use Rattle.heap_store.specs.Rows.{Row, Ending, not_ended, answered, full, memory, no_base, is_ended, reply_of, word, is_reply_word, is_second_word, reply_of_words, version_of_word, second_of_word, answered_if, answer_of, row_of}
use Rattle.version_book.specs.Closed.{ended_told, told_with, told_of, IsReadable}
use Rattle.version_book.specs.Replies.{reply_of_told}
use Rattle.version_book.proofs.WordLaws.{row_ending}

told_reply : (name : ℕ) (r : Row) (e : Ending) → reply_of_told (option_map (told_with name r) (ended_told e)) ≡ reply_of e
told_reply name r not_ended = refl
told_reply name r (answered told v w) = refl
told_reply name r (full drawn wanted) = refl
told_reply name r memory = refl
told_reply name r no_base = refl

-- the ending that an end word tells
abbrev ends_by : ℕ → List ℕ → ℕ → Ending
ends_by name ws k = slice_index_or (not_ended ∷ answer_of name ws ∷ full (word ws 4 % 2 ^ 32) (word ws 4 / 2 ^ 32) ∷ memory ∷ no_base ∷ []) k not_ended

reply_shown : (name : ℕ) (ws : List ℕ) (r : Row) → row_of name ws ≡ Some r → reply_of_told (told_of name (row_of name ws)) ≡ reply_of (ends_by name ws (word ws 5))
reply_shown name ws r here = ap (λ o. reply_of_told (told_of name o)) here ∙ (told_reply name r r.ending ∙ ap reply_of (sym (row_ending name ws r here)))

-- a row whose end word is that of a reply
pub reply_there : (name : ℕ) (ws : List ℕ) → IsReadable name ws → word ws 5 ≡ 1 → Some (reply_of_words (word ws 4) (word ws 7)) ≡ reply_of_told (told_of name (row_of name ws))
reply_there name ws r one =
    let ended : is_ended (answer_of name ws) ≡ true = ap (λ k. is_ended (ends_by name ws k)) (sym one) ∙ (ap is_ended (row_ending name ws r.row r.here) ∙ r.ended) in
    sym (reply_shown name ws r.row r.here ∙ (ap (λ k. reply_of (ends_by name ws k)) one ∙ by (is_reply_word (word ws 4) && is_second_word (word ws 6)) (version_of_word name (word ws 3)) ended))
  where
    by : (b : Bool) (o : Option Version) → is_ended (answered_if b (reply_of_words (word ws 4) (word ws 7)) (second_of_word name (word ws 6)) o) ≡ true
        → reply_of (answered_if b (reply_of_words (word ws 4) (word ws 7)) (second_of_word name (word ws 6)) o) ≡ Some (reply_of_words (word ws 4) (word ws 7))
    by b None h = absurd (true≢false (sym h))
    by false (Some v) h = absurd (true≢false (sym h))
    by true (Some v) h = refl

-- and one whose end word is another
pub no_reply_there : (name : ℕ) (ws : List ℕ) → IsReadable name ws → word ws 5 ≢ 1 → None ≡ reply_of_told (told_of name (row_of name ws))
no_reply_there name ws r other = sym (reply_shown name ws r.row r.here ∙ by (word ws 5) other)
  where
    by : (k : ℕ) → k ≢ 1 → reply_of (ends_by name ws k) ≡ None
    by zero h = refl
    by (suc zero) h = absurd (h refl)
    by (suc (suc zero)) h = refl
    by (suc (suc (suc zero))) h = refl
    by (suc (suc (suc (suc zero)))) h = refl
    by (suc (suc (suc (suc (suc k))))) h = refl
