-- What the words of a row tell of its versions, read one after another while the world may grow.
use Rattle.std.proofs.Common.{◌≡◌, ◌≢◌, ℕ, zero, suc, ◌+◌, ◌-◌, ◌/◌, ◌%◌, ◌^◌, ◌≤◌, refl, sym, ap, ◌∙◌, subst, arith, Bool, true, false, cond, ◌&&◌, eqb, Option, Some, None, [], ◌∷◌, slice_index_or}
use Rattle.std.specs.Prelude.{option_map, option_and_then}
use Rattle.std.proofs.lemmas.Bool.{true≢false, leb-true}
use Rattle.lazy_rec.specs.declared.events.Kind.{Kind}
use Rattle.lazy_rec.specs.declared.events.Reply.{Reply}
use Rattle.lazy_rec.specs.Tests.{is_some_and}
use Rattle.lazy_rec.specs.Numbering.{kind_of_number}
use Rattle.lazy_rec.specs.History.{second_mark, is_second, event_name}
use Rattle.heap_store.specs.declared.versions.Version.{Version}
use Rattle.heap_store.specs.World.{World}
use Rattle.heap_store.specs.Rows.{Row, Ending, not_ended, answered, full, memory, no_base, is_ended, is_refused, word, is_reply_word, is_second_word, reply_of_words, version_with, version_of_word, second_of_word, answered_if, answer_of, ending_of, version_of, row_at, words_at, word_at, version_at, is_ended_at}
use Rattle.heap_store.specs.Growth.{Grows}
use Rattle.heap_store.specs.View.{IsLawfulView, View}
use Rattle.heap_store.proofs.HistoryLaws.{AnsweredRow}
use Rattle.heap_store.proofs.ShowLaws.{one_value}
use Rattle.version_book.specs.Calls.{IsFound, IsLost}
use Rattle.version_book.proofs.WordLaws.{row_ending, not_replied}

-- ---- the row

-- a row whose end word isn't 0 has ended
pub ended_by : (v : View) (i : ℕ) → IsLawfulView v → word_at v.seen i 5 ≢ 0 → is_ended_at (row_at v.seen) i ≡ true
ended_by v i law ne = by (is_ended_at (row_at v.seen) i) refl
  where
    by : (b : Bool) → is_ended_at (row_at v.seen) i ≡ b → is_ended_at (row_at v.seen) i ≡ true
    by true e = e
    by false e = absurd (ne (law.unended i e))

some_row : (o : Option Row) → is_some_and (λ (r : Row). is_ended r.ending) o ≡ true → (r : Row) × (o ≡ Some r) × (is_ended r.ending ≡ true)
some_row None h = absurd (true≢false (sym h))
some_row (Some r) h = (r, refl, h)

-- an answer's words tell its versions
told_by : (name : ℕ) (ws : _) (told : Reply) (v : Version) (w : Option Version) → ending_of name ws ≡ answered told v w → (version_of_word name (word ws 3) ≡ Some v) × (second_of_word name (word ws 6) v ≡ w)
told_by name ws told v w h = by (word ws 5) h
  where
    of : (b : Bool) (o : Option Version) → answered_if b (reply_of_words (word ws 4) (word ws 7)) (second_of_word name (word ws 6)) o ≡ answered told v w → (o ≡ Some v) × (second_of_word name (word ws 6) v ≡ w)
    of b None k = cc
    of false (Some u) k = cc
    of true (Some u) k = let e : u ≡ v = cc in (ap Some e, subst (λ x. second_of_word name (word ws 6) x ≡ w) e (let f : second_of_word name (word ws 6) u ≡ w = cc in f))

    by : (n : ℕ) → slice_index_or (not_ended ∷ answer_of name ws ∷ full (word ws 4 % 2 ^ 32) (word ws 4 / 2 ^ 32) ∷ memory ∷ no_base ∷ []) n not_ended ≡ answered told v w → (version_of_word name (word ws 3) ≡ Some v) × (second_of_word name (word ws 6) v ≡ w)
    by zero k = cc
    by (suc zero) k = of (is_reply_word (word ws 4) && is_second_word (word ws 6)) (version_of_word name (word ws 3)) k
    by (suc (suc zero)) k = cc
    by (suc (suc (suc zero))) k = cc
    by (suc (suc (suc (suc zero)))) k = cc
    by (suc (suc (suc (suc (suc n))))) k = cc

-- a row that ended with a reply, by its end word
pub replied : (w : World) (name : ℕ) → word_at w name 5 ≡ 1 → is_ended_at (row_at w) name ≡ true → AnsweredRow (row_at w) name
replied w name one h =
    let r = some_row (row_at w name) h in
    let end : answer_of name (words_at w name) ≡ r.0.ending = ap (λ n. slice_index_or (not_ended ∷ answer_of name (words_at w name) ∷ full (word_at w name 4 % 2 ^ 32) (word_at w name 4 / 2 ^ 32) ∷ memory ∷ no_base ∷ []) n not_ended) (sym one) ∙ row_ending name (words_at w name) r.0 r.1 in
    by r.0 r.1 (is_reply_word (word_at w name 4) && is_second_word (word_at w name 6)) (version_of_word name (word_at w name 3)) end r.2
  where
    by : (r : Row) → row_at w name ≡ Some r → (b : Bool) (o : Option Version) → answered_if b (reply_of_words (word_at w name 4) (word_at w name 7)) (second_of_word name (word_at w name 6)) o ≡ r.ending → is_ended r.ending ≡ true → AnsweredRow (row_at w) name
    by r here b None e k = absurd (true≢false (sym (ap is_ended e ∙ k)))
    by r here false (Some v) e k = absurd (true≢false (sym (ap is_ended e ∙ k)))
    by r here true (Some v) e k = record { row = r; told = reply_of_words (word_at w name 4) (word_at w name 7); first = v; second = second_of_word name (word_at w name 6) v; here = here; ending_is = sym e; ended = k }

-- and so it stays
pub later : {a b : World} {name : ℕ} → Grows a b → AnsweredRow (row_at a) name → AnsweredRow (row_at b) name
later {a} {b} {name} g k = record { row = k.row; told = k.told; first = k.first; second = k.second; here = g.ended name k.row k.here k.ended; ending_is = k.ending_is; ended = k.ended }

pub words_told : (w : World) (name : ℕ) (k : AnsweredRow (row_at w) name) → (version_of_word name (word_at w name 3) ≡ Some k.first) × (second_of_word name (word_at w name 6) k.first ≡ k.second)
words_told w name k = told_by name (words_at w name) k.told k.first k.second (row_ending name (words_at w name) k.row k.here ∙ k.ending_is)

-- ---- versions

version_there : (w : World) (n : ℕ) (k : AnsweredRow (row_at w) (event_name n)) → version_at (row_at w) n ≡ cond (is_second n) k.second (Some k.first)
version_there w n k = ap (option_and_then (λ (r : Row). version_of n r.ending)) k.here ∙ ap (version_of n) k.ending_is

first_name : (name word : ℕ) (v : Version) → version_of_word name word ≡ Some v → v.name ≡ name
first_name name word v h = by (kind_of_number (word / 2 ^ 22 % 2 ^ 10)) h
  where
    by : (o : Option Kind) → option_map (version_with name word) o ≡ Some v → v.name ≡ name
    by None e = cc
    by (Some kind) e = ap (λ (x : Version). x.name) (sym (one_value (version_with name word kind) v e))

pub found_first : (w : World) (n word : ℕ) (v : Version) (k : AnsweredRow (row_at w) (event_name n)) → word ≡ word_at w (event_name n) 3 → version_of_word (event_name n) word ≡ Some v → is_second n ≡ false → IsFound w n v
found_first w n word v k read told first =
    let same : k.first ≡ v = one_value k.first v (sym (words_told w (event_name n) k).0 ∙ (ap (version_of_word (event_name n)) (sym read) ∙ told)) in
    record {
      here = version_there w n k ∙ (ap (λ b. cond b k.second (Some k.first)) first ∙ ap Some same);
      number = first_name (event_name n) word v told ∙ ap (λ b. cond b (n - second_mark) n) first;
    }

second_name : (name word : ℕ) (first v : Version) → second_of_word name word first ≡ Some v → v.name ≡ name + second_mark
second_name name word first v h = by (eqb word 0) h
  where
    by : (b : Bool) → cond b None (Some (record { name = name + second_mark; kind = first.kind; size = word / 2 ^ 32; root = record { 0 = word % 2 ^ 32 } })) ≡ Some v → v.name ≡ name + second_mark
    by true e = cc
    by false e = ap (λ (x : Version). x.name) (sym (one_value _ v e))

-- the second version, by the first one that an earlier word told
module _ (a w : World) (n word3 word6 : ℕ) (first : Version) (k : AnsweredRow (row_at a) (event_name n)) (g : Grows a w) (read3 : word3 ≡ word_at a (event_name n) 3) (told : version_of_word (event_name n) word3 ≡ Some first) (read6 : word6 ≡ word_at w (event_name n) 6) (second : is_second n ≡ true) where
  same : k.first ≡ first
  same = one_value k.first first (sym (words_told a (event_name n) k).0 ∙ (ap (version_of_word (event_name n)) (sym read3) ∙ told))

  second_is : second_of_word (event_name n) word6 first ≡ k.second
  unfolding later
  second_is = ap (λ x. second_of_word (event_name n) x first) read6 ∙ (ap (second_of_word (event_name n) (word_at w (event_name n) 6)) (sym same) ∙ (words_told w (event_name n) (later g k)).1)

  version_is : version_at (row_at w) n ≡ k.second
  unfolding later
  version_is = version_there w n (later g k) ∙ ap (λ b. cond b k.second (Some k.first)) second

  pub found_second : (v : Version) → Some v ≡ second_of_word (event_name n) word6 first → IsFound w n v
  found_second v h = record {
    here = version_is ∙ (sym second_is ∙ sym h);
    number = second_name (event_name n) word6 first v (sym h) ∙ (let e : event_name n ≡ n - second_mark = ap (λ b. cond b (n - second_mark) n) second in let low : second_mark ≤ n = leb-true second_mark n second in omega (arith, e, low));
  }

  pub no_second : None ≡ second_of_word (event_name n) word6 first → IsLost w n
  unfolding later
  no_second h = record {
    ended = ap (is_some_and (λ (r : Row). is_ended r.ending)) (later g k).here ∙ k.ended;
    none = version_is ∙ (sym second_is ∙ sym h);
    given_up = λ other. absurd (true≢false (sym second ∙ other));
  }

-- a row that has ended without a first version is given up
pub lost : (v : View) (n : ℕ) → IsLawfulView v → word_at v.seen (event_name n) 5 ≢ 0 → word_at v.seen (event_name n) 5 ≢ 1 → IsLost v.seen n
lost v n law some other =
    let none = sym (not_replied v.seen n other) in
    let ended = ended_by v (event_name n) law some in
    let r = some_row (row_at v.seen (event_name n)) ended in
    record { ended = ended; none = none; given_up = λ first. ap (is_some_and (λ (x : Row). is_refused x.ending)) r.1 ∙ by r.0.ending r.2 first (ap (option_and_then (λ (x : Row). version_of n x.ending)) (sym r.1) ∙ none) }
  where
    by : (e : Ending) → is_ended e ≡ true → is_second n ≡ false → version_of n e ≡ None → is_refused e ≡ true
    by not_ended h f z = absurd (true≢false (sym h))
    by (answered told u w) h f z = absurd (let k : Some u ≡ None = ap (λ b. cond b w (Some u)) (sym f) ∙ z in cc)
    by (full _ _) h f z = refl
    by memory h f z = refl
    by no_base h f z = refl
