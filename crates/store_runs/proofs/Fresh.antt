-- Passes that have done nothing yet, and passes that may be closed.
use Rattle.std.proofs.Common.{◌≡◌, ℕ, ◌+◌, ◌<◌, List, [], ◌∷◌, ◌++◌, length, map, refl, sym, ap, ◌∙◌, Some, ⊎_elim}
use Rattle.std.proofs.lemmas.Bool.{true≢false}
use Rattle.heap_store.specs.View.{View}
use Rattle.word_store.specs.Opened.{opened_view}
use Rattle.word_store.specs.Joined.{MayClose}
use Rattle.version_book.specs.Pass.{Pass, pass_of}
use Rattle.version_book.specs.RowSteps.{IsCaller}
use Rattle.version_book.specs.Calls.{IsIdle}
use Rattle.version_book.proofs.InOrder.{same_parts}
use Rattle.store_runs.specs.Crews.{AreFresh}
use Rattle.store_runs.proofs.Handed.{got_push}

pub fresh_idle : (nodes rows callers c : ℕ) → IsIdle (opened_view nodes rows callers c)
fresh_idle nodes rows callers c = record { claims = refl; open_rows = refl; reserved = refl; vain = refl; unused = λ i j held. absurd (true≢false (sym held)) }

pub fresh_caller : (nodes rows callers c : ℕ) → c < 64 → IsCaller (opened_view nodes rows callers c) c
fresh_caller nodes rows callers c small = record { small = small; own = λ d e. cc }

pub idle_closes : (v : View) → IsIdle v → MayClose v.hand
idle_closes v i = record { claims = i.claims; reserved = i.reserved; rows = i.open_rows }

-- one pass more, of the next caller
pub fresh_more : {X : Type 0} (nodes rows callers first : ℕ) (f : X → Pass) (xs : List X) (x : X) (n : ℕ) → length xs ≡ n → AreFresh nodes rows callers first (map f xs) → f x ≡ pass_of (opened_view nodes rows callers (first + n)) (first + n) → AreFresh nodes rows callers first (map f (xs ++ x ∷ []))
fresh_more nodes rows callers first f xs x n len fresh own j p e =
    ⊎_elim (λ old. fresh j p old) (λ new. sym new.0 ∙ (own ∙ ap (λ (k : ℕ). pass_of (opened_view nodes rows callers (first + k)) (first + k)) (sym len ∙ sym new.1))) (got_push f xs x j p e)

sized : (n n' r r' k k' c c' : ℕ) → n ≡ n' → r ≡ r' → k ≡ k' → c ≡ c' → opened_view n r k c ≡ opened_view n' r' k' c'
sized n n' r r' k k' c c' a b d e = rw (a, b, d, e) refl

-- a pass over what the store gave to its next caller
pub fresh_pass : (p : Pass) (v : View) (caller n n' r r' k k' c c' : ℕ) → p ≡ pass_of v caller → v.about.caller ≡ Some caller → v ≡ opened_view n r k c → n ≡ n' → r ≡ r' → k ≡ k' → c ≡ c' → p ≡ pass_of (opened_view n' r' k' c') c'
fresh_pass p v caller n n' r r' k k' c c' is own opened a b d e =
    let number : Some caller ≡ Some c = sym own ∙ ap (λ (w : View). w.about.caller) opened in
    let same : caller ≡ c = cc in
    is ∙ same_parts v (opened_view n' r' k' c') caller c' (opened ∙ sized n n' r r' k k' c c' a b d e) (same ∙ e)
