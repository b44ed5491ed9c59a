-- Lines that are read in one pass are lines of their events.
use Rattle.std.proofs.Common.{◌≡◌, ℕ, suc, ◌+◌, ◌-◌, ◌<◌, ◌≤◌, Bool, true, false, cond, not, ◌&&◌, ◌||◌, List, [], ◌∷◌, ◌++◌, length, get_or, take, drop, Some, Ok, refl, sym, ap, subst, ◌∙◌, codes, append_assoc, length-append, inl, inr, lit<, lit≤, arith}
use Rattle.std.specs.List.{list_all, join_with_byte, AllByRecursion}
use Rattle.std.specs.Char.{is_ascii_digit}
use Rattle.std.specs.Str.Parse.{digits_value}
use Rattle.std.proofs.lemmas.Bool.{lt-ltb, le-leb}
use Rattle.std.proofs.lemmas.List.{take_all, take-append-drop, length-drop}
use Rattle.lazy_rec.specs.declared.events.Kind.{Kind}
use Rattle.lazy_rec.specs.declared.events.Op.{Op}
use Rattle.lazy_rec.specs.declared.events.Op.TheVariants as ops
use Rattle.lazy_rec.specs.declared.events.Event.{Event}
use Rattle.lazy_rec.specs.Kinds.{is_split}
use Rattle.script_text.specs.declared.model.Form.{Form}
use Rattle.script_text.specs.declared.model.Form.TheVariants as forms
use Rattle.script_text.specs.declared.words.Syntax.TheVariants as syntax
use Rattle.script_text.specs.declared.versions.Said.{Said}
use Rattle.script_text.specs.Lines.{lines_of, most_digits, most_number, number_of, begins_label}
use Rattle.script_text.specs.Words.{look, op_word, op_syntax, kind_word, has_labels, syntax_of}
use Rattle.script_text.specs.Events.{ScriptView, Names, event, said, said_of, on_base, on_two, event_with}
use Rattle.script_text.specs.Text.{EventLine, Before, Leads, after, event_lines, events_with, labels_with, nothing}
use Rattle.script_text.specs.FrontDigits.{IsFront}
use Rattle.script_text.specs.Common.{IsNumberBefore, IsCommonEvent, ReadOn}
use Rattle.script_text.proofs.Cuts.{all_digits}
use Rattle.script_text.proofs.Fits.{shape}
use Rattle.script_text.proofs.Back.{IsWord, words_join, join_no_end, line_ends, no_digit, no_label, ending_back, op_word_is, found_in, new_found, kind_reads, line_event, new_back}
use Rattle.script_text.proofs.SoFar.{Reads, line_at, at_event, leads_more}

-- ---- numbers

-- a list with a first element
headed : (r rest : List ℕ) (x : ℕ) → 0 < length r → get_or r 0 0 ≡ x → rest ≡ drop 1 r → r ≡ x ∷ rest
headed [] rest x some h is = absurd (omega arith)
headed (y ∷ ys) rest x some h is = ap (λ z. z ∷ ys) h ∙ ap (λ zs. x ∷ zs) (sym is)

ten : (form : Form) → 10 ≤ most_digits form
ten forms.One = lit≤ tt
ten forms.Two = lit≤ tt
ten forms.Three = lit≤ tt

-- the digits that bytes begin with, and a byte behind them
pub number_at : (form : Form) (bytes r rest : List ℕ) (end count value : ℕ) → 16 ≤ length bytes → IsFront bytes value count → value ≤ most_number form → r ≡ drop count bytes → rest ≡ drop 1 r → get_or r 0 0 ≡ end → IsNumberBefore form bytes end value rest
number_at form bytes r rest end count value long front low left after here =
    let some = front.some in
    let few = front.few in
    let digits = front.digits in
    let worth = front.value in
    let many : length (take count bytes) ≡ count = omega (arith, ap length (take-append-drop count bytes), length-append (take count bytes) (drop count bytes), length-drop count bytes) in
    let there : 0 < length r = omega (arith, ap length left, length-drop count bytes) in
    let cut : drop count bytes ≡ end ∷ rest = sym left ∙ headed r rest end there here after in
    let most = ten form in
    record {
      digits = take count bytes;
      split = sym (take-append-drop count bytes) ∙ ap (λ xs. take count bytes ++ xs) cut;
      some = omega (arith, many);
      all = digits;
      number = rw (lt-ltb 0 (length (take count bytes)) (omega (arith, many)), le-leb (length (take count bytes)) (most_digits form) (omega (arith, many, most)), digits, le-leb (digits_value 10 (take count bytes)) (most_number form) (omega (arith, worth))) (ap (λ k. Ok k) (sym worth));
    }

-- what follows a slice's first element, as the code says it
pub after_first_is : (n : ℕ) (bytes : List ℕ) → n ≤ length bytes → take (length bytes - n) (drop n bytes) ≡ drop n bytes
after_first_is n bytes h = take_all (length bytes - n) (drop n bytes) (omega (arith, length-drop n bytes))

-- digits are a word of a line, and say an event's first version
digits_word : (ds : List ℕ) → 0 < length ds → list_all is_ascii_digit ds ≡ true → IsWord ds
digits_word ds some all =
    record {
      some = some;
      no_space = no_digit 32 ds (lit< tt) (all_digits ds all);
      no_end = no_digit 10 ds (lit< tt) (all_digits ds all);
    }

digits_say : (form : Form) (names : Names) (ds : List ℕ) (n : ℕ) → list_all is_ascii_digit ds ≡ true → number_of form ds ≡ Ok n → said_of form names ds ≡ Ok (Some (said false n))
digits_say form names ds n all number = go (has_labels form) refl
  where
    go : (b : Bool) → has_labels form ≡ b → said_of form names ds ≡ Ok (Some (said false n))
    go true h = rw (ending_back form ds false all (λ k. cc)) (rw (no_label ds all, h, number) refl)
    go false h = rw (ending_back form ds false all (λ k. cc)) (rw (h, number) refl)

-- ---- lines

allowed : (b : Bool) (o : Op) → is_split o ≡ false → (b || not (is_split o)) ≡ true
allowed true o h = refl
allowed false o h = rw h refl

-- an operation of every form
found : (form : Form) (o : Op) → is_split o ≡ false → syntax_of form (op_word o) ≡ Some (op_syntax o)
found form o h =
    elim (shape o) [
      | inl new ↦ subst (λ p. syntax_of form (op_word p) ≡ Some (op_syntax p)) (sym new.1) (new_found form new.0)
      | inr (inl s) ↦ found_in form o syntax.Base false false s (allowed (has_labels form) o h) ∙ ap Some (sym s.is)
      | inr (inr (inl s)) ↦ found_in form o syntax.Argument false true s (allowed (has_labels form) o h) ∙ ap Some (sym s.is)
      | inr (inr (inr s)) ↦ found_in form o syntax.Other true false s (allowed (has_labels form) o h) ∙ ap Some (sym s.is)
    ]

-- a line of an operation's word and others
common_line : (s : ScriptView) (bytes : List ℕ) (o : Op) (others : List (List ℕ)) (e : Event) (after : List ℕ) → bytes ≡ join_with_byte 32 (op_word o ∷ others) ++ 10 ∷ after → AllByRecursion IsWord others → length s.events < 200000 → is_split o ≡ false → ((names : Names) → event_with s names (op_syntax o) others ≡ Ok e) → IsCommonEvent s bytes e after
common_line s bytes o others e after is words room old made =
    let line = join_with_byte 32 (op_word o ∷ others) in
    let plain = op_word_is o in
    record {
      line = line;
      first = op_word o;
      others = others;
      lines = ap lines_of is ∙ line_ends line after (join_no_end (op_word o) others plain.word words);
      words = words_join (op_word o) others plain.word words;
      plain = plain.no_comment;
      unlabelled = plain.no_label;
      event = λ names. line_event s names (op_word o) others (op_syntax o) room plain.no_label (found s.form o old) ∙ made names;
      shorter = omega (arith, ap length is, length-append line (10 ∷ after));
    }

base_made : (s : ScriptView) (names : Names) (o : Op) (d : List ℕ) (n : ℕ) (e : Event) → said_of s.form names d ≡ Ok (Some (said false n)) → on_base s.events o (said false n) 0 ≡ Ok e → event_with s names (syntax.Base o) (d ∷ []) ≡ Ok e
unfolding event_with
base_made s names o d n e is made = rw is made

argument_made : (s : ScriptView) (names : Names) (o : Op) (d u : List ℕ) (n x : ℕ) (e : Event) → said_of s.form names d ≡ Ok (Some (said false n)) → number_of s.form u ≡ Ok x → on_base s.events o (said false n) x ≡ Ok e → event_with s names (syntax.Argument o) (d ∷ u ∷ []) ≡ Ok e
unfolding event_with
argument_made s names o d u n x e is number made = rw (is, number) made

other_made : (s : ScriptView) (names : Names) (o : Op) (d u : List ℕ) (n m : ℕ) (e : Event) → said_of s.form names d ≡ Ok (Some (said false n)) → said_of s.form names u ≡ Ok (Some (said false m)) → on_two s.events o (said false n) (said false m) ≡ Ok e → event_with s names (syntax.Other o) (d ∷ u ∷ []) ≡ Ok e
unfolding event_with
other_made s names o d u n m e is is' made = rw (is, is') made

-- the code says the form, and the first version of each name, by calls
pub common_base : (s : ScriptView) (form : Form) (bytes rest after : List ℕ) (o : Op) (b : ℕ) (first : Said) (e : Event) → form ≡ s.form → first ≡ said false b → length s.events < 200000 → bytes ≡ op_word o ++ 32 ∷ rest → op_syntax o ≡ syntax.Base o → is_split o ≡ false → IsNumberBefore form rest 10 b after → Ok e ≡ on_base s.events o first 0 → IsCommonEvent s bytes e after
common_base s form bytes rest after o b first e same said_is room is syn old number made =
    let n = subst (λ f. IsNumberBefore f rest 10 b after) same number in
    common_line s bytes o (n.digits ∷ []) e after
    (is ∙ (ap (λ r. op_word o ++ 32 ∷ r) n.split ∙ sym (append_assoc (op_word o) (32 ∷ n.digits) (10 ∷ after))))
    (digits_word n.digits n.some n.all, tt) room old
    (λ names. rw syn (base_made s names o n.digits b e (digits_say s.form names n.digits b n.all n.number) (ap (λ f. on_base s.events o f 0) (sym said_is) ∙ sym made)))

-- two numbers behind a word
two_split : (w bytes rest more after d u : List ℕ) → bytes ≡ w ++ 32 ∷ rest → rest ≡ d ++ 32 ∷ more → more ≡ u ++ 10 ∷ after → bytes ≡ (w ++ 32 ∷ (d ++ 32 ∷ u)) ++ 10 ∷ after
two_split w bytes rest more after d u is one two =
    let both : rest ≡ (d ++ 32 ∷ u) ++ 10 ∷ after = one ∙ (ap (λ r. d ++ 32 ∷ r) two ∙ sym (append_assoc d (32 ∷ u) (10 ∷ after))) in
    is ∙ (ap (λ r. w ++ 32 ∷ r) both ∙ sym (append_assoc w (32 ∷ (d ++ 32 ∷ u)) (10 ∷ after)))

pub common_argument : (s : ScriptView) (form : Form) (bytes rest more after : List ℕ) (o : Op) (b x : ℕ) (first : Said) (e : Event) → form ≡ s.form → first ≡ said false b → length s.events < 200000 → bytes ≡ op_word o ++ 32 ∷ rest → op_syntax o ≡ syntax.Argument o → is_split o ≡ false → IsNumberBefore form rest 32 b more → IsNumberBefore form more 10 x after → Ok e ≡ on_base s.events o first x → IsCommonEvent s bytes e after
common_argument s form bytes rest more after o b x first e same said_is room is syn old number argument made =
    let n = subst (λ f. IsNumberBefore f rest 32 b more) same number in
    let m = subst (λ f. IsNumberBefore f more 10 x after) same argument in
    common_line s bytes o (n.digits ∷ m.digits ∷ []) e after (two_split (op_word o) bytes rest more after n.digits m.digits is n.split m.split)
    (digits_word n.digits n.some n.all, (digits_word m.digits m.some m.all, tt)) room old
    (λ names. rw syn (argument_made s names o n.digits m.digits b x e (digits_say s.form names n.digits b n.all n.number) m.number (ap (λ f. on_base s.events o f x) (sym said_is) ∙ sym made)))

pub common_other : (s : ScriptView) (form : Form) (bytes rest more after : List ℕ) (o : Op) (b c : ℕ) (first second : Said) (e : Event) → form ≡ s.form → first ≡ said false b → second ≡ said false c → length s.events < 200000 → bytes ≡ op_word o ++ 32 ∷ rest → op_syntax o ≡ syntax.Other o → is_split o ≡ false → IsNumberBefore form rest 32 b more → IsNumberBefore form more 10 c after → Ok e ≡ on_two s.events o first second → IsCommonEvent s bytes e after
common_other s form bytes rest more after o b c first second e same first_is second_is room is syn old number other made =
    let n = subst (λ f. IsNumberBefore f rest 32 b more) same number in
    let m = subst (λ f. IsNumberBefore f more 10 c after) same other in
    common_line s bytes o (n.digits ∷ m.digits ∷ []) e after (two_split (op_word o) bytes rest more after n.digits m.digits is n.split m.split)
    (digits_word n.digits n.some n.all, (digits_word m.digits m.some m.all, tt)) room old
    (λ names. rw syn (other_made s names o n.digits m.digits b c e (digits_say s.form names n.digits b n.all n.number) (digits_say s.form names m.digits c m.all m.number) (ap (λ f. on_two s.events o f (said false c)) (sym first_is) ∙ (ap (λ g. on_two s.events o first g) (sym second_is) ∙ sym made))))

pub common_new : (s : ScriptView) (bytes rest after : List ℕ) (k : Kind) → length s.events < 200000 → bytes ≡ codes "new" ++ 32 ∷ rest → rest ≡ kind_word k ++ 10 ∷ after → IsCommonEvent s bytes (event (ops.New k) 0 0 0) after
common_new s bytes rest after k room is end =
    let back = kind_reads k in
    common_line s bytes (ops.New k) (kind_word k ∷ []) (event (ops.New k) 0 0 0) after
    (is ∙ (ap (λ r. codes "new" ++ 32 ∷ r) end ∙ sym (append_assoc (codes "new") (32 ∷ kind_word k) (10 ∷ after))))
    (back.1, tt) room refl
    (λ names. new_back s names (kind_word k) k back.0)

-- ---- lines that were read

-- a line that isn't labelled leaves the labels
unlabelled_kept : (s : ScriptView) (first : List ℕ) (n : ℕ) (labels : List (List ℕ × ℕ)) → begins_label first ≡ false → labels_with s.form first n labels ≡ labels
unlabelled_kept s first n labels h = by (has_labels s.form)
  where
    by : (b : Bool) → cond (b && begins_label first) ((first, n) ∷ labels) labels ≡ labels
    by true = rw h refl
    by false = refl

-- before the first line
pub read_none : (s : ScriptView) (n : ℕ) (bytes : List ℕ) → ReadOn s n bytes s n bytes
read_none s n bytes =
    record {
      lines = [];
      split = refl;
      leads = λ labels. refl;
      number = omega arith;
      shorter = omega arith;
    }

-- one more line
pub read_more : (s t : ScriptView) (n m : ℕ) (bytes rest after : List ℕ) (e : Event) → ReadOn s n bytes t m rest → IsCommonEvent t rest e after → ReadOn s n bytes (events_with t e) (m + 1) after
read_more s t n m bytes rest after e r c =
    let l = line_at m c.first c.others in
    record {
      lines = r.lines ++ l ∷ [];
      split = r.split ∙ (ap (λ ls. r.lines ++ ls) (at_event m c.line c.first c.others (lines_of after) (lines_of rest) c.lines c.words c.plain) ∙ sym (append_assoc r.lines (l ∷ []) (event_lines (m + 1) (lines_of after))));
      leads = λ labels. subst (λ ls. Leads (record { script = s; labels = labels }) (r.lines ++ l ∷ []) (record { script = events_with t e; labels = ls })) (unlabelled_kept t c.first (suc (length t.events)) labels c.unlabelled) (leads_more (record { script = s; labels = labels }) r.lines (record { script = t; labels = labels }) l e (r.leads labels) (c.event (λ w. look w labels)));
      number = let shorter = c.shorter in let number = r.number in omega arith;
      shorter = let shorter = c.shorter in let before = r.shorter in omega arith;
    }

-- lines after lines
leads_on : (b : Before) (ls : List EventLine) (c : Before) (ks : List EventLine) (d : Before) → Leads b ls c → Leads c ks d → Leads b (ls ++ ks) d
leads_on b [] c ks d h k = subst (λ x. Leads x ks d) (sym h) k
leads_on b (l ∷ ls) c ks d h k = (h.0, h.1, leads_on (after b l h.0) ls c ks d h.2 k)

-- lines after lines
pub read_twice : (s t u : ScriptView) (n m k : ℕ) (bytes rest after : List ℕ) → ReadOn s n bytes t m rest → ReadOn t m rest u k after → ReadOn s n bytes u k after
read_twice s t u n m k bytes rest after r q =
    record {
      lines = r.lines ++ q.lines;
      split = r.split ∙ (ap (λ ls. r.lines ++ ls) q.split ∙ sym (append_assoc r.lines q.lines (event_lines k (lines_of after))));
      leads = λ labels. leads_on (record { script = s; labels = labels }) r.lines (record { script = t; labels = labels }) q.lines (record { script = u; labels = labels }) (r.leads labels) (q.leads labels);
      number = let one = r.number in let two = q.number in omega arith;
      shorter = let one = r.shorter in let two = q.shorter in omega arith;
    }

pub reads_on : (form : Form) (all : List EventLine) (s t : ScriptView) (names : Names) (n m : ℕ) (bytes rest : List ℕ) → ReadOn s n bytes t m rest → Reads form all (event_lines n (lines_of bytes)) s names → Reads form all (event_lines m (lines_of rest)) t names
reads_on form all s t names n m bytes rest r h =
    record {
      good = h.good ++ r.lines;
      labels = h.labels;
      split = h.split ∙ (ap (λ ls. h.good ++ ls) r.split ∙ sym (append_assoc h.good r.lines (event_lines m (lines_of rest))));
      leads = leads_on (nothing form) h.good (record { script = s; labels = h.labels }) r.lines (record { script = t; labels = h.labels }) h.leads (r.leads h.labels);
      same = h.same;
    }
