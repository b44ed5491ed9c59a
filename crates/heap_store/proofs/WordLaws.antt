-- What storing a word of a row does to the rows of a world.
use Rattle.std.proofs.Common.{◌≡◌, ℕ, zero, suc, ◌/◌, ◌%◌, ◌^◌, ◌<◌, true, false, List, [], ◌∷◌, length, Option, Some, None, refl, sym, ap, ◌∙◌, arith, subst, ⊎_elim, cond}
use Rattle.std.specs.Prelude.{slice_set, slice_index_or, option_map, option_and_then}
use Rattle.std.proofs.lemmas.Bool.{cases_eq, cases_lt, true≢false, eq-eqb}
use Rattle.std.proofs.lemmas.List.{length-set, get_or-set_same, get_or-set_other}
use Rattle.lazy_rec.specs.declared.events.Op.{Op}
use Rattle.lazy_rec.specs.declared.events.Event.{Event}
use Rattle.heap_store.specs.declared.claims.HeldClaim.{HeldClaim}
use Rattle.heap_store.specs.World.{World}
use Rattle.heap_store.specs.Rows.{Row, Ending, not_ended, full, memory, no_base, is_ended, answer_of, row_with, row_of, row_at, words_at, word_at, word, store_word, is_ended_at, op_of_word, is_begun_word, caller_of_word}
use Rattle.heap_store.specs.Legal.{IsLegal}
use Rattle.heap_store.specs.LookedAt.{HasRoots}
use Rattle.heap_store.specs.Growth.{Grows, begun_of}
use Rattle.heap_store.specs.Lawful.{IsLawful}
use Rattle.heap_store.specs.RowCalls.{is_word_value, ends_row}
use Rattle.heap_store.specs.Plain.{IsSeenWell, is_ended_row}
use Rattle.heap_store.proofs.GrowthLaws.{grows_refl}

-- ---- words

pub word-set_same : (ws : List ℕ) (i v : ℕ) → i < length ws → word (slice_set ws i v) i ≡ v
word-set_same ws i v l = get_or-set_same ws i v 0 l

pub word-set_other : (ws : List ℕ) (i j v : ℕ) → (j ≡ i → ⊥) → word (slice_set ws i v) j ≡ word ws j
word-set_other ws i j v ne = get_or-set_other ws i j v 0 ne

-- how a row has ended, by word 5
ending_with : ℕ → List ℕ → ℕ → Ending
ending_with name ws n = slice_index_or
    (not_ended ∷ answer_of name ws ∷ full (word ws 4 % 2 ^ 32) (word ws 4 / 2 ^ 32) ∷ memory ∷ no_base ∷ []) n not_ended

pub zero_unended : (name : ℕ) (ws : List ℕ) → word ws 5 ≡ 0 → is_ended_row (row_of name ws) ≡ false
unfolding ending_with
zero_unended name ws e = by (op_of_word (word ws 0))
  where
    by : (o : Option Op) → is_ended_row (option_map (row_with name ws) o) ≡ false
    by None = refl
    by (Some op) = ap (λ n. is_ended (ending_with name ws n)) e

-- what a begun row has, by words 0 to 2
pub begun_with : ℕ → ℕ → ℕ → Option (ℕ × Event)
begun_with a b c = option_and_then (λ (op : Op). cond (is_begun_word a) (Some (caller_of_word a, record { op = op; base = b % 2 ^ 32; other = b / 2 ^ 32; arg = c })) None) (op_of_word a)

pub begun-words : (name : ℕ) (ws : List ℕ) → option_and_then begun_of (row_of name ws) ≡ begun_with (word ws 0) (word ws 1) (word ws 2)
unfolding begun_with
begun-words name ws = by (op_of_word (word ws 0))
  where
    by : (o : Option Op) → option_and_then begun_of (option_map (row_with name ws) o) ≡ option_and_then (λ (op : Op). cond (is_begun_word (word ws 0)) (Some (caller_of_word (word ws 0), record { op = op; base = word ws 1 % 2 ^ 32; other = word ws 1 / 2 ^ 32; arg = word ws 2 })) None) o
    by None = refl
    by (Some op) = refl

pub begun_none : (b c : ℕ) → begun_with 0 b c ≡ None
unfolding begun_with
begun_none b c = refl

-- a skipped row isn't begun
pub begun_skipped : (a b c : ℕ) → is_begun_word a ≡ false → begun_with a b c ≡ None
unfolding begun_with
begun_skipped a b c h = by (op_of_word a)
  where
    by : (o : Option Op) → option_and_then (λ (op : Op). cond {A = Option (ℕ × Event)} (is_begun_word a) (Some (caller_of_word a, record { op = op; base = b % 2 ^ 32; other = b / 2 ^ 32; arg = c })) None) o ≡ None
    by None = refl
    by (Some op) = rw h refl

pub begun-same : (a b c a' b' c' : ℕ) → a ≡ a' → b ≡ b' → c ≡ c' → begun_with a b c ≡ begun_with a' b' c'
begun-same a b c a' b' c' e f g = rw (e, f, g) refl

-- ---- places hang on no row

pub lawful_rows : (w : World) (rows : List (List ℕ)) → IsLawful w → IsLawful (record w { rows = rows })
lawful_rows w rows law = record {
  fixed = law.fixed;
  each = λ p r e. (let h = law.each p r e in record { range = h.range; names = h.names; sizes = h.sizes; unmixed = h.unmixed; bank_queue = h.bank_queue; rt_queue = h.rt_queue; heap = h.heap; cat = h.cat; finger = h.finger; heights = h.heights });
  origins = law.origins;
  one = law.one;
  makers = law.makers;
  done = λ p r e d f. (let h = law.done p r e d f in record { pending = h.pending; value = h.value; needs = h.needs; made = h.made; steps = h.steps; height = h.height; trees = h.trees; keys = h.keys; levels = h.levels; means = h.means; cells = h.cells });
  states = law.states;
  still = law.still;
}

-- ---- a word is stored

module _ (w : World) (k i v : ℕ) (there : k < length w.rows) where
  pub words-same : words_at (store_word w (suc k) i v) (suc k) ≡ slice_set (words_at w (suc k)) i v
  words-same = get_or-set_same w.rows k (slice_set (slice_index_or w.rows k []) i v) [] there

  pub words-other : (m : ℕ) → (m ≡ k → ⊥) → words_at (store_word w (suc k) i v) (suc m) ≡ words_at w (suc m)
  words-other m ne = get_or-set_other w.rows k m (slice_set (slice_index_or w.rows k []) i v) [] ne

  pub row-other : (m : ℕ) → (m ≡ k → ⊥) → row_at (store_word w (suc k) i v) (suc m) ≡ row_at w (suc m)
  row-other m ne = ap (row_of (suc m)) (words-other m ne)

  module _ (claims : List HeldClaim) (seen : IsSeenWell w claims) (small : i < 8) (fits : is_word_value i v ≡ true) (open_yet : is_ended_at (row_at w) (suc k) ≡ false)
      (once : i < 3 → word_at w (suc k) 0 ≡ 0) (end : ends_row i ≡ true → is_ended_at (row_at (store_word w (suc k) i v)) (suc k) ≡ true) where
    inside : i < length (words_at w (suc k))
    inside = omega (arith, seen.wide k there, small)

    pub same_word : (j : ℕ) → (j ≡ i → ⊥) → word_at (store_word w (suc k) i v) (suc k) j ≡ word_at w (suc k) j
    same_word j ne = ap (λ ws. word ws j) words-same ∙ word-set_other (words_at w (suc k)) i j v ne

    pub own_word : word_at (store_word w (suc k) i v) (suc k) i ≡ v
    own_word = ap (λ ws. word ws i) words-same ∙ word-set_same (words_at w (suc k)) i v inside

    pub ended_after : i ≡ 5 → is_ended_at (row_at (store_word w (suc k) i v)) (suc k) ≡ true
    ended_after e = end (eq-eqb i 5 e)

    pub open_after : (5 ≡ i → ⊥) → is_ended_at (row_at (store_word w (suc k) i v)) (suc k) ≡ false
    open_after ne = zero_unended (suc k) (words_at (store_word w (suc k) i v) (suc k)) (same_word 5 ne ∙ seen.unended (suc k) open_yet)

    unended_after : (name : ℕ) → is_ended_at (row_at (store_word w (suc k) i v)) name ≡ false → word_at (store_word w (suc k) i v) name 5 ≡ 0
    unended_after zero h = seen.unended 0 h
    unended_after (suc m) h = ⊎_elim
        (λ e. subst (λ z. word_at (store_word w (suc k) i v) (suc z) 5 ≡ 0) (sym e) (here (subst (λ z. is_ended_at (row_at (store_word w (suc k) i v)) (suc z) ≡ false) e h)))
        (λ ne. ap (λ ws. word ws 5) (words-other m ne) ∙ seen.unended (suc m) (ap (λ ws. is_ended_row (row_of (suc m) ws)) (sym (words-other m ne)) ∙ h)) (cases_eq m k)
      where
        here : is_ended_at (row_at (store_word w (suc k) i v)) (suc k) ≡ false → word_at (store_word w (suc k) i v) (suc k) 5 ≡ 0
        here f = ⊎_elim
            (λ e. absurd (true≢false (sym (ended_after (sym e)) ∙ f)))
            (λ ne. same_word 5 ne ∙ seen.unended (suc k) open_yet) (cases_eq 5 i)

    wide_after : (m : ℕ) → m < length (store_word w (suc k) i v).rows → length (words_at (store_word w (suc k) i v) (suc m)) ≡ 8
    wide_after m l =
        let l' : m < length w.rows = rw length-set at l in
        ⊎_elim
        (λ e. subst (λ z. length (words_at (store_word w (suc k) i v) (suc z)) ≡ 8) (sym e) (ap length words-same ∙ (length-set (words_at w (suc k)) i v ∙ seen.wide k there)))
        (λ ne. ap length (words-other m ne) ∙ seen.wide m l') (cases_eq m k)

    pub stored_seen : IsLegal (store_word w (suc k) i v) → HasRoots (store_word w (suc k) i v) → IsSeenWell (store_word w (suc k) i v) claims
    stored_seen legal roots = record {
      lawful = lawful_rows w _ seen.lawful;
      legal = legal;
      roots = roots;
      well = seen.well;
      held = seen.held;
      wide = wide_after;
      unended = unended_after;
    }

    begun_after : (e : ℕ × Event) → option_and_then begun_of (row_at w (suc k)) ≡ Some e → option_and_then begun_of (row_at (store_word w (suc k) i v) (suc k)) ≡ Some e
    begun_after e h = ⊎_elim
        (λ l. (let z = once l in
        let none : option_and_then begun_of (row_at w (suc k)) ≡ None = begun-words (suc k) (words_at w (suc k)) ∙ (begun-same _ _ _ _ _ _ z refl refl ∙ begun_none (word_at w (suc k) 1) (word_at w (suc k) 2)) in
        let bad : None ≡ Some e = sym none ∙ h in cc))
        (λ high. begun-words (suc k) (words_at (store_word w (suc k) i v) (suc k)) ∙
        (begun-same _ _ _ _ _ _ (same_word 0 (λ x. absurd (omega (arith, x)))) (same_word 1 (λ x. absurd (omega (arith, x)))) (same_word 2 (λ x. absurd (omega (arith, x)))) ∙
        (sym (begun-words (suc k) (words_at w (suc k))) ∙ h)))
        (cases_lt i 3)

    pub stored_grows : Grows w (store_word w (suc k) i v)
    stored_grows = record {
      records = λ p r e. e;
      done = λ p s e f. e;
      given_up = (grows_refl w).given_up;
      begun = begun;
      ended = ended;
    }
      where
        begun : (j : ℕ) (e : ℕ × Event) → option_and_then begun_of (row_at w j) ≡ Some e → option_and_then begun_of (row_at (store_word w (suc k) i v) j) ≡ Some e
        begun zero e h = h
        begun (suc m) e h = ⊎_elim
            (λ eq. subst (λ z. option_and_then begun_of (row_at (store_word w (suc k) i v) (suc z)) ≡ Some e) (sym eq) (begun_after e (subst (λ z. option_and_then begun_of (row_at w (suc z)) ≡ Some e) eq h)))
            (λ ne. ap (option_and_then begun_of) (row-other m ne) ∙ h) (cases_eq m k)

        ended : (j : ℕ) (r : Row) → row_at w j ≡ Some r → is_ended r.ending ≡ true → row_at (store_word w (suc k) i v) j ≡ Some r
        ended zero r h f = h
        ended (suc m) r h f = ⊎_elim
            (λ eq. (let own : row_at w (suc k) ≡ Some r = subst (λ z. row_at w (suc z) ≡ Some r) eq h in absurd (true≢false (sym f ∙ (sym (ap is_ended_row own) ∙ open_yet)))))
            (λ ne. row-other m ne ∙ h) (cases_eq m k)
