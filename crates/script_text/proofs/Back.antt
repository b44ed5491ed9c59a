-- The canonical text reads as its script.
use Rattle.std.proofs.Common.{◌≡◌, ℕ, zero, suc, ◌+◌, ◌-◌, ◌<◌, ◌≤◌, ◌^◌, Bool, true, false, cond, ◌&&◌, ◌||◌, not, eqb, leb, ltb, List, [], ◌∷◌, ◌++◌, length, take, drop, Some, Ok, Err, refl, sym, ap, subst, ◌∙◌, codes, decimal, inl, inr, append_assoc, length-append, lit<, arith}
use Rattle.std.specs.List.{slice_split, list_all, filter, All, AllByRecursion, join_with_byte, flat_map}
use Rattle.std.specs.Char.{is_ascii_digit, digit_value}
use Rattle.std.specs.Str.{bytes_eq}
use Rattle.std.specs.Str.Parse.{digits_value, AllDigits}
use Rattle.std.proofs.lemmas.Bool.{lt-ltb, le-leb, leb-true, eqb-true, ne_eqb, ltb-true, and_parts, and_left, and_right, not-true}
use Rattle.std.proofs.lemmas.List.{take_all, drop_all, take-append-le, drop-append-le, append-nil}
use Rattle.std.proofs.lemmas.List.Splits.{slice_split_at, slice_split_none, length-slice_split}
use Rattle.std.proofs.lemmas.List.Elements.{All-append, All-cons, All-nil}
use Rattle.std.proofs.lemmas.Fmt.{decimal_is_IsNumeral, length-decimal-le}
use Rattle.std.proofs.lemmas.Str.Parse.{digit_from_value}
use Rattle.lazy_rec.proofs.TestLaws.{implies_to}
use Rattle.lazy_rec.specs.declared.events.Kind.{Kind}
use Rattle.lazy_rec.specs.declared.events.Kind.TheVariants as kind
use Rattle.lazy_rec.specs.declared.events.Op.{Op}
use Rattle.lazy_rec.specs.declared.events.Op.TheVariants as ops
use Rattle.lazy_rec.specs.declared.events.Event.{Event}
use Rattle.lazy_rec.specs.Kinds.{same_kind, belongs, is_split}
use Rattle.lazy_rec.specs.Tests.{implies}
use Rattle.lazy_rec.specs.History.{event_of, event_name, is_second, second_mark, kind_of, is_named_well, is_event_at}
use Rattle.lazy_rec.proofs.HistoryLaws.{event_of-append, event_of-last}
use Rattle.script_text.specs.declared.model.Form.{Form}
use Rattle.script_text.specs.declared.model.Form.TheVariants as forms
use Rattle.script_text.specs.declared.model.Reason.TheVariants.{NoSecond}
use Rattle.script_text.specs.declared.words.Syntax.{Syntax}
use Rattle.script_text.specs.declared.words.Syntax.TheVariants as syntax
use Rattle.script_text.specs.declared.versions.Said.{Said}
use Rattle.script_text.specs.Lines.{lines_of, words_of, number_of, most_digits, most_number, is_filled, ended, is_comment, begins_label, cut_ending}
use Rattle.script_text.specs.Words.{look, kind_named, op_word, op_syntax, kind_word, has_labels, syntax_of}
use Rattle.script_text.specs.Events.{ScriptView, Names, event, ending_of, said_of, kind_before, is_split_at, version_of, event_with, after_label, event_at}
use Rattle.script_text.specs.Text.{Before, EventLine, Leads, IsText, IsWritable, Follows, events_with, nothing, after, event_lines, form_of, form_said, version_word, words_after, event_words, line_text, header_text, canonical_text}
use Rattle.script_text.proofs.Cuts.{kept, ended_more, digit_read}
use Rattle.script_text.proofs.Fits.{HasBase, base_low, base_pos, Shaped, shape, some_passes, unfit_new, unfit_one, unfit_two, fits_agree}
use Rattle.script_text.proofs.Follow.{number_small, writable_more, writable_none}

-- ---- words of a line

-- a word that can stand in a line
pub record IsWord (w : List ℕ) : Type 0 where
  pub some : 0 < length w
  pub no_space : All (λ b. eqb b 32 ≡ false) w
  pub no_end : All (λ b. eqb b 10 ≡ false) w

-- the bytes of a text are not this one
no_byte : (b : ℕ) (w : List ℕ) → list_all (λ c. not (eqb c b)) w ≡ true → All (λ c. eqb c b ≡ false) w
no_byte b [] h = All-nil (λ c. eqb c b ≡ false)
no_byte b (c ∷ cs) h =
    let parts = and_parts (not (eqb c b)) (list_all (λ c. not (eqb c b)) cs) h in
    All-cons (λ c. eqb c b ≡ false) c cs (not-true (eqb c b) parts.0) (no_byte b cs parts.1)

abbrev pub is_clean : List ℕ → Bool
is_clean w = ltb 0 (length w) && list_all (λ c. not (eqb c 32)) w && list_all (λ c. not (eqb c 10)) w

-- a word that is written out
pub literal : (w : List ℕ) → is_clean w ≡ true → IsWord w
literal w h =
    let parts = and_parts (ltb 0 (length w) && list_all (λ c. not (eqb c 32)) w) (list_all (λ c. not (eqb c 10)) w) h in
    let first = and_parts (ltb 0 (length w)) (list_all (λ c. not (eqb c 32)) w) parts.0 in
    record { some = ltb-true 0 (length w) first.0; no_space = no_byte 32 w first.1; no_end = no_byte 10 w parts.1 }

pub words_join : (w : List ℕ) (ws : List (List ℕ)) → IsWord w → AllByRecursion IsWord ws → words_of (join_with_byte 32 (w ∷ ws)) ≡ w ∷ ws
words_join w [] h hs = ap (filter is_filled) (slice_split_none (λ b. eqb b 32) w h.no_space) ∙ kept w [] h.some
words_join w (v ∷ vs) h hs =
    ap (filter is_filled) (slice_split_at (λ b. eqb b 32) w 32 (join_with_byte 32 (v ∷ vs)) h.no_space refl)
    ∙ (kept w (slice_split (λ b. eqb b 32) (join_with_byte 32 (v ∷ vs))) h.some ∙ ap (λ us. w ∷ us) (words_join v vs hs.0 hs.1))

pub join_no_end : (w : List ℕ) (ws : List (List ℕ)) → IsWord w → AllByRecursion IsWord ws → All (λ b. eqb b 10 ≡ false) (join_with_byte 32 (w ∷ ws))
join_no_end w [] h hs = h.no_end
join_no_end w (v ∷ vs) h hs = All-append (λ b. eqb b 10 ≡ false) w (32 ∷ join_with_byte 32 (v ∷ vs)) h.no_end (All-cons (λ b. eqb b 10 ≡ false) 32 (join_with_byte 32 (v ∷ vs)) refl (join_no_end v vs hs.0 hs.1))

pub line_ends : (line rest : List ℕ) → All (λ b. eqb b 10 ≡ false) line → lines_of (line ++ 10 ∷ rest) ≡ line ∷ lines_of rest
line_ends line rest h =
    ap ended (slice_split_at (λ b. eqb b 10) line 10 rest h refl)
    ∙ ended_more line (slice_split (λ b. eqb b 10) rest) (omega (arith, length-slice_split (λ b. eqb b 10) rest))

-- ---- numbers as words

digit_is : (c : ℕ) → digit_value c < 10 → (is_ascii_digit c ≡ true) × (48 ≤ c) × (c ≤ 57)
digit_is c h =
    let range = digit_from_value c h in
    (rw (le-leb 48 c range.0, le-leb c 57 range.1) refl, range.0, range.1)

all_ascii : (ds : List ℕ) → AllDigits 10 ds → list_all is_ascii_digit ds ≡ true
all_ascii [] h = refl
all_ascii (c ∷ cs) h = rw ((digit_is c h.0).0) (all_ascii cs h.1)

-- digits are not a byte below them
pub no_digit : (b : ℕ) (ds : List ℕ) → b < 48 → AllDigits 10 ds → All (λ c. eqb c b ≡ false) ds
no_digit b [] l h = All-nil (λ c. eqb c b ≡ false)
no_digit b (c ∷ cs) l h = let low = (digit_is c h.0).1 in All-cons (λ c. eqb c b ≡ false) c cs (ne_eqb c b (λ e. omega arith)) (no_digit b cs l h.1)

number_short : (form : Form) (n : ℕ) → n ≤ most_number form → length (decimal n) ≤ most_digits form
number_short forms.One n h = length-decimal-le 10 n (lit< tt) (omega arith) (omega arith)
number_short forms.Two n h = length-decimal-le 10 n (lit< tt) (omega arith) (omega arith)
number_short forms.Three n h = length-decimal-le 20 n (lit< tt) (omega arith) (omega arith)

number_back : (form : Form) (n : ℕ) → leb n (most_number form) ≡ true → number_of form (decimal n) ≡ Ok n
number_back form n h =
    let numeral = decimal_is_IsNumeral n (number_small form n h) in
    let short = number_short form n (leb-true n (most_number form) h) in
    let low : leb (digits_value 10 (decimal n)) (most_number form) ≡ true = subst (λ k. leb k (most_number form) ≡ true) (sym numeral.1) h in
    rw (lt-ltb 0 (length (decimal n)) numeral.0.0, le-leb (length (decimal n)) (most_digits form) short, all_ascii (decimal n) numeral.0.1, low) (ap (λ k. Ok k) numeral.1)

name_in_form : (form : Form) (n : ℕ) → n ≤ 200000 → leb n (most_number form) ≡ true
name_in_form forms.One n h = le-leb n 4294967295 (omega arith)
name_in_form forms.Two n h = le-leb n 4294967295 (omega arith)
name_in_form forms.Three n h = le-leb n 18446744073709551615 (omega arith)

number_word : (n : ℕ) → n < 2 ^ 64 → IsWord (decimal n)
number_word n h =
    let numeral = decimal_is_IsNumeral n h in
    record {
      some = numeral.0.0;
      no_space = no_digit 32 (decimal n) (lit< tt) numeral.0.1;
      no_end = no_digit 10 (decimal n) (lit< tt) numeral.0.1;
    }

-- ---- versions as words

ended_word : (w : List ℕ) → IsWord w → IsWord (w ++ codes ".2")
ended_word w h =
    let end = literal (codes ".2") refl in
    record {
      some = let some = h.some in omega (arith, length-append w (codes ".2"));
      no_space = All-append (λ b. eqb b 32 ≡ false) w (codes ".2") h.no_space end.no_space;
      no_end = All-append (λ b. eqb b 10 ≡ false) w (codes ".2") h.no_end end.no_end;
    }

version_is_word : (v : ℕ) → event_name v < 2 ^ 64 → IsWord (version_word v)
version_is_word v h = by (is_second v)
  where
    by : (b : Bool) → IsWord (cond b (decimal (event_name v) ++ codes ".2") (decimal (event_name v)))
    by true = ended_word (decimal (event_name v)) (number_word (event_name v) h)
    by false = number_word (event_name v) h

-- an ending that is there is cut off
cut_second : (w : List ℕ) → cut_ending (w ++ codes ".2") ≡ (w, true)
cut_second w =
    let many : length (w ++ codes ".2") - 2 ≡ length w = omega (arith, length-append w (codes ".2")) in
    let stem : take (length w) (w ++ codes ".2") ≡ w = take-append-le (length w) w (codes ".2") (omega arith) ∙ take_all (length w) w (omega arith) in
    let ending : drop (length w) (w ++ codes ".2") ≡ codes ".2" = drop-append-le (length w) w (codes ".2") (omega arith) ∙ ap (λ xs. xs ++ codes ".2") (drop_all (length w) w (omega arith)) in
    rw (many, stem, ending) refl

-- and digits have none
all_drop : (k : ℕ) (ds : List ℕ) → list_all is_ascii_digit ds ≡ true → list_all is_ascii_digit (drop k ds) ≡ true
all_drop zero ds h = h
all_drop (suc k) [] h = refl
all_drop (suc k) (c ∷ cs) h = all_drop k cs (and_parts (is_ascii_digit c) (list_all is_ascii_digit cs) h).1

no_dot : (ds : List ℕ) (d : ℕ) → list_all is_ascii_digit ds ≡ true → bytes_eq ds (46 ∷ d ∷ []) ≡ false
no_dot [] d h = refl
no_dot (c ∷ cs) d h =
    let low = (digit_read c (and_parts (is_ascii_digit c) (list_all is_ascii_digit cs) h).0).0 in
    and_left (eqb c 46) (bytes_eq cs (d ∷ [])) (ne_eqb c 46 (λ e. omega arith))

cut_none : (w : List ℕ) → list_all is_ascii_digit w ≡ true → cut_ending w ≡ (w, false)
cut_none w h =
    let digits = all_drop (length w - 2) w h in
    rw (no_dot (drop (length w - 2) w) 50 digits, no_dot (drop (length w - 2) w) 49 digits) refl

pub ending_back : (form : Form) (w : List ℕ) (second : Bool) → list_all is_ascii_digit w ≡ true → (second ≡ true → has_labels form ≡ true) → ending_of form (cond second (w ++ codes ".2") w) ≡ (w, second)
ending_back form w true digits h = rw (h refl) (cut_second w)
ending_back form w false digits h = by (has_labels form)
  where
    by : (b : Bool) → cond b (cut_ending w) (w, false) ≡ (w, false)
    by true = cut_none w digits
    by false = refl

pub no_label : (w : List ℕ) → list_all is_ascii_digit w ≡ true → begins_label w ≡ false
no_label [] h = refl
no_label (c ∷ cs) h =
    let high = (digit_read c (and_parts (is_ascii_digit c) (list_all is_ascii_digit cs) h).0).1 in ne_eqb c 64 (λ e. omega arith)

abbrev said : ℕ → Said
said v = record { name = event_name v; second = is_second v }

said_back : (form : Form) (names : Names) (v : ℕ) → event_name v ≤ 200000 → (is_second v ≡ true → has_labels form ≡ true) → said_of form names (version_word v) ≡ Ok (Some (said v))
said_back form names v low h = go (event_name v) (is_second v) low h
  where
    go : (n : ℕ) (second : Bool) → n ≤ 200000 → (second ≡ true → has_labels form ≡ true) → said_of form names (cond second (decimal n ++ codes ".2") (decimal n)) ≡ Ok (Some (record { name = n; second = second }))
    go n second low h =
        let numeral = decimal_is_IsNumeral n (omega arith) in
        let digits = all_ascii (decimal n) numeral.0.1 in
        let plain : (has_labels form && begins_label (decimal n)) ≡ false = and_right (has_labels form) (begins_label (decimal n)) (no_label (decimal n) digits) in
        rw (ending_back form (decimal n) second digits h) (rw (plain, number_back form n (name_in_form form n low)) refl)

version_back : (before : List Event) (v : ℕ) → is_named_well (event_of before) v ≡ true → version_of before (said v) ≡ Ok v
version_back before v h = go (is_second v) refl h
  where
    go : (b : Bool) → is_second v ≡ b → implies b (is_split_at before (cond b (v - second_mark) v)) ≡ true → cond b (cond (is_split_at before (cond b (v - second_mark) v)) (Ok (cond b (v - second_mark) v + second_mark)) (Err NoSecond)) (Ok (cond b (v - second_mark) v)) ≡ Ok v
    go true e h = let high = leb-true second_mark v e in let is : v - second_mark + second_mark ≡ v = omega arith in rw (h, is) refl
    go false e h = refl

-- ---- the events of words, by steps that succeed

plain_line : (form : Form) (names : Names) (w : List ℕ) (ws : List (List ℕ)) → begins_label w ≡ false → after_label form names w ws ≡ Ok (w, ws)
unfolding after_label
plain_line form names w ws h = let plain : (has_labels form && begins_label w) ≡ false = and_right (has_labels form) (begins_label w) h in rw plain refl

pub line_event : (before : ScriptView) (names : Names) (w : List ℕ) (ws : List (List ℕ)) (s : Syntax) → length before.events < 200000 → begins_label w ≡ false → syntax_of before.form w ≡ Some s → event_at before names w ws ≡ event_with before names s ws
unfolding event_at
line_event before names w ws s room plain found = rw (lt-ltb (length before.events) 200000 room, plain_line before.form names w ws plain, found) refl

pub new_back : (before : ScriptView) (names : Names) (w : List ℕ) (k : Kind) → kind_named w ≡ Some k → event_with before names syntax.New (w ∷ []) ≡ Ok (event (ops.New k) 0 0 0)
unfolding event_with
new_back before names w k h = rw h refl

base_back : (before : ScriptView) (names : Names) (o : Op) (w : List ℕ) (b : Said) (k : Kind) (v : ℕ) → said_of before.form names w ≡ Ok (Some b) → kind_before before.events b.name ≡ Ok k → version_of before.events b ≡ Ok v → belongs k o ≡ true → event_with before names (syntax.Base o) (w ∷ []) ≡ Ok (event o v 0 0)
unfolding event_with
base_back before names o w b k v is at version has = rw (is, at, version, has) refl

argument_back : (before : ScriptView) (names : Names) (o : Op) (w u : List ℕ) (b : Said) (k : Kind) (v x : ℕ) → said_of before.form names w ≡ Ok (Some b) → number_of before.form u ≡ Ok x → kind_before before.events b.name ≡ Ok k → version_of before.events b ≡ Ok v → belongs k o ≡ true → event_with before names (syntax.Argument o) (w ∷ u ∷ []) ≡ Ok (event o v 0 x)
unfolding event_with
argument_back before names o w u b k v x is number at version has = rw (is, number, at, version, has) refl

other_back : (before : ScriptView) (names : Names) (o : Op) (w u : List ℕ) (b c : Said) (k j : Kind) (v t : ℕ) → said_of before.form names w ≡ Ok (Some b) → said_of before.form names u ≡ Ok (Some c) → kind_before before.events b.name ≡ Ok k → kind_before before.events c.name ≡ Ok j → version_of before.events b ≡ Ok v → version_of before.events c ≡ Ok t → belongs k o ≡ true → same_kind k j ≡ true → event_with before names (syntax.Other o) (w ∷ u ∷ []) ≡ Ok (event o v t 0)
unfolding event_with
other_back before names o w u b c k j v t is is' at at' version version' has same = rw (is, is', at, at', version, version', has, same) refl

-- ---- the words of an event read as the event

finds_kind : (before : List Event) (o : Op) (v : ℕ) → (h : HasBase (event_of before) (suc (length before)) o v) → kind_before before (event_name v) ≡ Ok h.kind
finds_kind before o v h =
    let high = base_low (event_of before) (suc (length before)) o v h in
    go (event_name v) (base_pos (event_of before) (suc (length before)) o v h) (omega arith) h.is
  where
    go : (n : ℕ) → 0 < n → n ≤ length before → kind_of (event_of before) n ≡ Some h.kind → kind_before before n ≡ Ok h.kind
    go n low high is = rw (lt-ltb 0 n low, le-leb n (length before) high, is) refl

-- only forms with labels have second versions
or_not : (a b : Bool) → (a || not b) ≡ true → b ≡ true → a ≡ true
or_not true b h k = refl
or_not false true h k = cc
or_not false false h k = cc

second_in_form : (before : ScriptView) (v : ℕ) → IsWritable before → is_named_well (event_of before.events) v ≡ true → is_second v ≡ true → has_labels before.form ≡ true
second_in_form before v w h second =
    let split = some_passes (λ (e : Event). is_split e.op) (event_of before.events (event_name v)) (implies_to (is_second v) (is_split_at before.events (event_name v)) h second) in
    let e = split.0 in
    or_not (has_labels before.form) (is_split e.op) (and_parts (leb e.arg (most_number before.form)) (has_labels before.form || not (is_split e.op)) (w.in_form (event_name v) e split.1)).1 split.2

-- the words of an event are words of a line, and read as the event
record IsCanon (before : ScriptView) (names : Names) (e : Event) : Type 0 where
  pub reads : event_at before names (op_word e.op) (words_after (op_syntax e.op) e) ≡ Ok e
  pub words : AllByRecursion IsWord (words_after (op_syntax e.op) e)

op_word_test : (o : Op) → (is_clean (op_word o) && not (is_comment (op_word o)) && not (begins_label (op_word o))) ≡ true
op_word_test (ops.New k) = refl
op_word_test _ = refl

-- the word of an operation is a word of a line, and begins no comment and no label
pub record IsPlain (w : List ℕ) : Type 0 where
  pub word : IsWord w
  pub no_comment : is_comment w ≡ false
  pub no_label : begins_label w ≡ false

pub op_word_is : (o : Op) → IsPlain (op_word o)
op_word_is o = go (op_word o) (op_word_test o)
  where
    go : (w : List ℕ) → (is_clean w && not (is_comment w) && not (begins_label w)) ≡ true → IsPlain w
    go w h =
        let parts = and_parts (is_clean w && not (is_comment w)) (not (begins_label w)) h in
        let both = and_parts (is_clean w) (not (is_comment w)) parts.0 in
        record { word = literal w both.0; no_comment = not-true (is_comment w) both.1; no_label = not-true (begins_label w) parts.1 }

-- an operation is found in a form that has it
pub found_in : (form : Form) (o : Op) (as_syntax : Op → Syntax) (other argument : Bool) → Shaped as_syntax o other argument → (has_labels form || not (is_split o)) ≡ true → syntax_of form (op_word o) ≡ Some (as_syntax o)
found_in forms.One o as_syntax other argument s h = s.early (not-true (is_split o) h)
found_in forms.Two o as_syntax other argument s h = s.found
found_in forms.Three o as_syntax other argument s h = s.found

pub kind_reads : (k : Kind) → (kind_named (kind_word k) ≡ Some k) × IsWord (kind_word k)
kind_reads kind.Stream = (refl, literal (codes "stream") refl)
kind_reads kind.Bankq = (refl, literal (codes "bankq") refl)
kind_reads kind.Rtq = (refl, literal (codes "rtq") refl)
kind_reads kind.Heap = (refl, literal (codes "heap") refl)
kind_reads kind.Seq = (refl, literal (codes "seq") refl)
kind_reads kind.Prio = (refl, literal (codes "prio") refl)
kind_reads kind.Ord = (refl, literal (codes "ord") refl)
kind_reads kind.Cat = (refl, literal (codes "cat") refl)

pub new_found : (form : Form) (k : Kind) → syntax_of form (op_word (ops.New k)) ≡ Some syntax.New
new_found forms.One k = refl
new_found forms.Two k = refl
new_found forms.Three k = refl

module _ (before : ScriptView) (names : Names) (writable : IsWritable before) (room : length before.events < 200000) where
  name_low : (o : Op) (v : ℕ) → HasBase (event_of before.events) (suc (length before.events)) o v → event_name v ≤ 200000
  name_low o v h = let low = base_low (event_of before.events) (suc (length before.events)) o v h in omega arith

  said_base : (o : Op) (v : ℕ) → HasBase (event_of before.events) (suc (length before.events)) o v → said_of before.form names (version_word v) ≡ Ok (Some (said v))
  said_base o v h = said_back before.form names v (name_low o v h) (second_in_form before v writable h.second)

  base_word : (o : Op) (v : ℕ) → HasBase (event_of before.events) (suc (length before.events)) o v → IsWord (version_word v)
  base_word o v h = let low = name_low o v h in version_is_word v (omega arith)

  canon_new : (k : Kind) → IsCanon before names (event (ops.New k) 0 0 0)
  canon_new k =
      let back = kind_reads k in
      record {
        reads = line_event before names (op_word (ops.New k)) (kind_word k ∷ []) syntax.New room refl (new_found before.form k) ∙ new_back before names (kind_word k) k back.0;
        words = (back.1, tt);
      }

  canon_base : (o : Op) (v : ℕ) → Shaped syntax.Base o false false → (has_labels before.form || not (is_split o)) ≡ true → HasBase (event_of before.events) (suc (length before.events)) o v → IsCanon before names (event o v 0 0)
  canon_base o v s old h =
      record {
        reads = rw s.is (
            line_event before names (op_word o) (version_word v ∷ []) (syntax.Base o) room (op_word_is o).no_label (found_in before.form o syntax.Base false false s old)
            ∙ base_back before names o (version_word v) (said v) h.kind v (said_base o v h) (finds_kind before.events o v h) (version_back before.events v h.second) h.has
            );
        words = rw s.is (base_word o v h, tt);
      }

  canon_argument : (o : Op) (v x : ℕ) → Shaped syntax.Argument o false true → (has_labels before.form || not (is_split o)) ≡ true → HasBase (event_of before.events) (suc (length before.events)) o v → leb x (most_number before.form) ≡ true → IsCanon before names (event o v 0 x)
  canon_argument o v x s old h low =
      record {
        reads = rw s.is (
            line_event before names (op_word o) (version_word v ∷ decimal x ∷ []) (syntax.Argument o) room (op_word_is o).no_label (found_in before.form o syntax.Argument false true s old)
            ∙ argument_back before names o (version_word v) (decimal x) (said v) h.kind v x (said_base o v h) (number_back before.form x low) (finds_kind before.events o v h) (version_back before.events v h.second) h.has
            );
        words = rw s.is (base_word o v h, (number_word x (number_small before.form x low), tt));
      }

  canon_other : (o : Op) (v u : ℕ) → Shaped syntax.Other o true false → (has_labels before.form || not (is_split o)) ≡ true → (h : HasBase (event_of before.events) (suc (length before.events)) o v) → (g : HasBase (event_of before.events) (suc (length before.events)) o u) → same_kind h.kind g.kind ≡ true → IsCanon before names (event o v u 0)
  canon_other o v u s old h g same =
      record {
        reads = rw s.is (
            line_event before names (op_word o) (version_word v ∷ version_word u ∷ []) (syntax.Other o) room (op_word_is o).no_label (found_in before.form o syntax.Other true false s old)
            ∙ other_back before names o (version_word v) (version_word u) (said v) (said u) h.kind g.kind v u (said_base o v h) (said_base o u g) (finds_kind before.events o v h) (finds_kind before.events o u g) (version_back before.events v h.second) (version_back before.events u g.second) h.has same
            );
        words = rw s.is (base_word o v h, (base_word o u g, tt));
      }

  canon : (e : Event) → Follows before e → IsCanon before names e
  canon e f =
      let E = event_of before.events in
      let n = suc (length before.events) in
      let form = and_parts (leb e.arg (most_number before.form)) (has_labels before.form || not (is_split e.op)) f.in_form in
      elim (shape e.op) [
        | inl new ↦
            let none = unfit_new E n new.0 e.base e.other e.arg (subst (λ o. is_event_at E n (event o e.base e.other e.arg) ≡ true) new.1 f.fits) in
            let same : event (ops.New new.0) 0 0 0 ≡ e = rw (new.1, none.0, none.1, none.2) refl in
            subst (IsCanon before names) same (canon_new new.0)
        | inr (inl s) ↦
            let g = unfit_one E n e.op e.base e.other e.arg s.base s.others f.fits in
            let zero_arg : e.arg ≡ 0 = eqb-true e.arg 0 (let argument = g.argument in rw s.arguments at argument) in
            let same : event e.op e.base 0 0 ≡ e = rw (g.other, zero_arg) refl in
            subst (IsCanon before names) same (canon_base e.op e.base s form.1 g.base)
        | inr (inr (inl s)) ↦
            let g = unfit_one E n e.op e.base e.other e.arg s.base s.others f.fits in
            let same : event e.op e.base 0 e.arg ≡ e = rw g.other refl in
            subst (IsCanon before names) same (canon_argument e.op e.base e.arg s form.1 g.base form.0)
        | inr (inr (inr s)) ↦
            let g = unfit_two E n e.op e.base e.other e.arg s.base s.others f.fits in
            let zero_arg : e.arg ≡ 0 = eqb-true e.arg 0 (let argument = g.argument in rw s.arguments at argument) in
            let same : event e.op e.base e.other 0 ≡ e = rw zero_arg refl in
            subst (IsCanon before names) same (canon_other e.op e.base e.other s form.1 g.base g.other g.same)
      ]

-- ---- the lines of a script read as its events

-- the events follow one on the other
abbrev AllFollow : ScriptView → List Event → Type 0
AllFollow before [] = Unit {0}
AllFollow before (e ∷ es) = Follows before e × AllFollow (events_with before e) es

-- a script with more events
abbrev longer : ScriptView → List Event → ScriptView
longer s es = record { form = s.form; events = s.events ++ es }

all_follow : (before : ScriptView) (es : List Event) → IsWritable (longer before es) → AllFollow before es
all_follow before [] h = tt
all_follow before (e ∷ es) h =
    let bs = before.events in
    let at = event_of-last bs e es in (
      record {
        room = let few = h.script.few in omega (arith, length-append bs (e ∷ es));
        fits = fits_agree (event_of (bs ++ e ∷ es)) (event_of bs) (suc (length bs)) e (λ p l. event_of-append bs (e ∷ es) p (omega arith)) (h.script.each (suc (length bs)) e at);
        in_form = h.in_form (suc (length bs)) e at;
      },
      all_follow (events_with before e) es (subst (λ l. IsWritable (record { form = before.form; events = l })) (sym (append_assoc bs (e ∷ []) es)) h),
    )

abbrev texts : List Event → List ℕ
texts es = flat_map (λ e. line_text (event_words e)) es

-- the lines of events lead to the script with these events
abbrev LeadsTo : Before → ℕ → List Event → Type 0
LeadsTo b n es = (labels : List (List ℕ × ℕ)) × Leads b (event_lines n (lines_of (texts es))) (record { script = longer b.script es; labels = labels })

no_more : (s : ScriptView) → s ≡ longer s []
no_more s = ap (λ es. record { form = s.form; events = es }) (sym (append-nil s.events))

events_back : (b : Before) (n : ℕ) (es : List Event) → IsWritable b.script → AllFollow b.script es → LeadsTo b n es
events_back b n [] w h = (b.labels, ap (λ (s : ScriptView). record { script = s; labels = b.labels }) (no_more b.script))
events_back b n (e ∷ es) w h =
    let names : Names = λ v. look v b.labels in
    let c = canon b.script names w h.0.room e h.0 in
    let plain = op_word_is e.op in
    let others = words_after (op_syntax e.op) e in
    let line = join_with_byte 32 (op_word e.op ∷ others) in
    let l : EventLine = record { number = n; first = op_word e.op; others = others } in
    let cut : lines_of (texts (e ∷ es)) ≡ line ∷ lines_of (texts es) = ap lines_of (append_assoc line (10 ∷ []) (texts es)) ∙ line_ends line (texts es) (join_no_end (op_word e.op) others plain.word c.words) in
    let is : event_lines n (lines_of (texts (e ∷ es))) ≡ l ∷ event_lines (n + 1) (lines_of (texts es)) = rw (cut, words_join (op_word e.op) others plain.word c.words, plain.no_comment) refl in
    let next : Before = after b l e in
    let more = events_back next (n + 1) es (writable_more b.script e w h.0) h.1 in
    let all : longer next.script es ≡ longer b.script (e ∷ es) = ap (λ es. record { form = b.script.form; events = es }) (append_assoc b.script.events (e ∷ []) es) in
    (more.0, subst (λ ls. Leads b ls (record { script = longer b.script (e ∷ es); labels = more.0 })) (sym is) (e, c.reads, subst (λ s. Leads next (event_lines (n + 1) (lines_of (texts es))) (record { script = s; labels = more.0 })) all more.1))

-- ---- the canonical text

abbrev header_line : Form → List ℕ
header_line forms.One = codes "lazy 1"
header_line forms.Two = codes "lazy 2"
header_line forms.Three = codes "lazy 3"

header_ends : (form : Form) → header_text form ≡ header_line form ++ 10 ∷ []
header_ends forms.One = refl
header_ends forms.Two = refl
header_ends forms.Three = refl

header_clean : (form : Form) → list_all (λ c. not (eqb c 10)) (header_line form) ≡ true
header_clean forms.One = refl
header_clean forms.Two = refl
header_clean forms.Three = refl

header_says : (form : Form) → form_said (words_of (header_line form)) ≡ Some form
header_says forms.One = refl
header_says forms.Two = refl
header_says forms.Three = refl

-- the canonical text of a script is a text of it
pub back : (s : ScriptView) → IsWritable s → IsText (canonical_text s) s
back s h =
    let lines : lines_of (canonical_text s) ≡ header_line s.form ∷ lines_of (texts s.events) =
    ap (λ t. lines_of (t ++ texts s.events)) (header_ends s.form)
    ∙ (ap lines_of (append_assoc (header_line s.form) (10 ∷ []) (texts s.events))
    ∙ line_ends (header_line s.form) (texts s.events) (no_byte 10 (header_line s.form) (header_clean s.form))) in
    let it = events_back (nothing s.form) 2 s.events (writable_none s.form) (all_follow (nothing s.form).script s.events h) in
    record {
      header = ap form_of lines ∙ header_says s.form;
      labels = it.0;
      leads = subst (λ ls. Leads (nothing s.form) (event_lines 2 (drop 1 ls)) (record { script = s; labels = it.0 })) (sym lines) it.1;
    }
