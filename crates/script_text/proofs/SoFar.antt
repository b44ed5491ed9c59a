-- The reader's loop: the lines so far lead to the script so far.
use Rattle.std.proofs.Common.{◌≡◌, ℕ, suc, ◌+◌, true, false, List, [], ◌∷◌, ◌++◌, length, drop, Ok, Err, Option, Some, None, refl, sym, ap, subst, ◌∙◌, inr, append_assoc}
use Rattle.std.proofs.lemmas.List.{append-nil}
use Rattle.lazy_rec.specs.declared.events.Event.{Event}
use Rattle.script_text.specs.declared.model.Form.{Form}
use Rattle.script_text.specs.declared.model.Reason.{Reason}
use Rattle.script_text.specs.Lines.{lines_of, words_of, is_comment}
use Rattle.script_text.specs.Words.{look}
use Rattle.script_text.specs.Events.{ScriptView, Names, event_at}
use Rattle.script_text.specs.Text.{EventLine, Before, Leads, IsEventOf, IsText, IsWritable, IsFirst, IsFirstFault, event_lines, event_line, nothing, after, labels_with, events_with, form_of, form_said, body}
use Rattle.script_text.proofs.Follow.{follows, writable_more, writable_none}

-- of all event lines these are left, and those before lead to the script; the names are those of its labels
pub record Reads (form : Form) (all left : List EventLine) (s : ScriptView) (names : Names) : Type 0 where
  pub good : List EventLine
  pub labels : List (List ℕ × ℕ)
  pub split : all ≡ good ++ left
  pub leads : Leads (nothing form) good (record { script = s; labels = labels })
  pub same : (w : List ℕ) → names w ≡ look w labels

pub reads_start : (bytes first : List ℕ) (ls : List (List ℕ)) (form : Form) (s : ScriptView) (names : Names) → lines_of bytes ≡ first ∷ ls → s ≡ record { form = form; events = [] } → ((w : List ℕ) → names w ≡ None) → Reads s.form (body bytes) (event_lines 2 ls) s names
reads_start bytes first ls form s names is e none =
    record {
      good = [];
      labels = [];
      split = ap (λ x. event_lines 2 (drop 1 x)) is;
      leads = subst (λ (x : ScriptView). nothing x.form ≡ record { script = x; labels = [] }) (sym e) refl;
      same = none;
    }

-- the header of the script at the start
pub header_read : (line : List ℕ) (r : Option Form) (form : Form) (s : ScriptView) → r ≡ form_said (words_of line) → r ≡ Some form → s ≡ record { form = form; events = [] } → form_said (words_of line) ≡ Some s.form
header_read line r form s said is e = sym said ∙ (is ∙ ap (λ (x : ScriptView). Some x.form) (sym e))

-- what names say is all that a line asks of them
same_names : (s : ScriptView) (f g : Names) (w : List ℕ) (ws : List (List ℕ)) → ((v : List ℕ) → f v ≡ g v) → event_at s f w ws ≡ event_at s g w ws
same_names s f g w ws h =
    let one : f ≡ g = λ i v. h v i in
    ap (λ names. event_at s names w ws) one

-- one more event at the end
pub leads_more : (b : Before) (ls : List EventLine) (c : Before) (l : EventLine) (e : Event) → Leads b ls c → IsEventOf c l e → Leads b (ls ++ l ∷ []) (after c l e)
leads_more b [] c l e h is = (e, subst (λ x. IsEventOf x l e) (sym h) is, ap (λ x. after x l e) h)
leads_more b (k ∷ ls) c l e h is = (h.0, h.1, leads_more (after b k h.0) ls c l e h.2 is)

-- a line with no words, or a comment
pub reads_blank : (form : Form) (all : List EventLine) (s : ScriptView) (names : Names) (n : ℕ) (l : List ℕ) (ls rest : List (List ℕ)) → rest ≡ l ∷ ls → words_of l ≡ [] → Reads form all (event_lines n rest) s names → Reads form all (event_lines (n + 1) ls) s names
reads_blank form all s names n l ls rest e w r =
    subst (λ left. Reads form all left s names) (ap (event_lines n) e ∙ ap (λ ws. event_line n ws (event_lines (n + 1) ls)) w) r

pub reads_comment : (form : Form) (all : List EventLine) (s : ScriptView) (names : Names) (n : ℕ) (l w : List ℕ) (ws ls rest : List (List ℕ)) → rest ≡ l ∷ ls → words_of l ≡ w ∷ ws → is_comment w ≡ true → Reads form all (event_lines n rest) s names → Reads form all (event_lines (n + 1) ls) s names
reads_comment form all s names n l w ws ls rest e h c r =
    subst (λ left. Reads form all left s names) (ap (event_lines n) e ∙ (ap (λ vs. event_line n vs (event_lines (n + 1) ls)) h ∙ rw c refl)) r

-- the line as an event line
abbrev pub line_at : ℕ → List ℕ → List (List ℕ) → EventLine
line_at n w ws = record { number = n; first = w; others = ws }

pub at_event : (n : ℕ) (l w : List ℕ) (ws ls rest : List (List ℕ)) → rest ≡ l ∷ ls → words_of l ≡ w ∷ ws → is_comment w ≡ false → event_lines n rest ≡ line_at n w ws ∷ event_lines (n + 1) ls
at_event n l w ws ls rest e h c = ap (event_lines n) e ∙ (ap (λ vs. event_line n vs (event_lines (n + 1) ls)) h ∙ rw c refl)

-- what names say after a line
abbrev pub Noted : ScriptView → List ℕ → Names → Names → Type 0
Noted s first names names' = (labels : List (List ℕ × ℕ)) → ((w : List ℕ) → names w ≡ look w labels) → (w : List ℕ) → names' w ≡ look w (labels_with s.form first (suc (length s.events)) labels)

pub reads_event : (form : Form) (all : List EventLine) (s : ScriptView) (names names' : Names) (e : Event) (n : ℕ) (l w : List ℕ) (ws ls rest : List (List ℕ)) → rest ≡ l ∷ ls → words_of l ≡ w ∷ ws → is_comment w ≡ false → event_at s names w ws ≡ Ok e → Noted s w names names' → Reads form all (event_lines n rest) s names → Reads form all (event_lines (n + 1) ls) (events_with s e) names'
reads_event form all s names names' e n l w ws ls rest is h c ok noted r =
    record {
      good = r.good ++ line_at n w ws ∷ [];
      labels = labels_with s.form w (suc (length s.events)) r.labels;
      split = r.split ∙ (ap (λ left. r.good ++ left) (at_event n l w ws ls rest is h c) ∙ sym (append_assoc r.good (line_at n w ws ∷ []) (event_lines (n + 1) ls)));
      leads = leads_more (nothing form) r.good (record { script = s; labels = r.labels }) (line_at n w ws) e r.leads (sym (same_names s names (λ v. look v r.labels) w ws r.same) ∙ ok);
      same = noted r.labels r.same;
    }

pub reads_fault : (form : Form) (all : List EventLine) (s : ScriptView) (names : Names) (reason : Reason) (n : ℕ) (l w : List ℕ) (ws ls rest : List (List ℕ)) → rest ≡ l ∷ ls → words_of l ≡ w ∷ ws → is_comment w ≡ false → event_at s names w ws ≡ Err reason → Reads form all (event_lines n rest) s names → IsFirst form all n reason
reads_fault form all s names reason n l w ws ls rest is h c bad r =
    record {
      good = r.good;
      bad = line_at n w ws;
      more = event_lines (n + 1) ls;
      before = record { script = s; labels = r.labels };
      split = r.split ∙ ap (λ left. r.good ++ left) (at_event n l w ws ls rest is h c);
      leads = r.leads;
      number = refl;
      no_event = sym (same_names s names (λ v. look v r.labels) w ws r.same) ∙ bad;
    }

-- the form stays
leads_form : (b : Before) (ls : List EventLine) (c : Before) → Leads b ls c → c.script.form ≡ b.script.form
leads_form b [] c h = ap (λ (x : Before). x.script.form) (sym h)
leads_form b (l ∷ ls) c h = leads_form (after b l h.0) ls c h.2

-- the events of a text are a script
leads_writable : (b : Before) (ls : List EventLine) (c : Before) → IsWritable b.script → Leads b ls c → IsWritable c.script
leads_writable b [] c w h = subst (λ (x : Before). IsWritable x.script) h w
leads_writable b (l ∷ ls) c w h =
    leads_writable (after b l h.0) ls c (writable_more b.script h.0 w (follows b.script (λ v. look v b.labels) l.first l.others h.0 h.1)) h.2

pub text_writable : (bytes : List ℕ) (s : ScriptView) → IsText bytes s → IsWritable s
text_writable bytes s h = leads_writable (nothing s.form) (body bytes) (record { script = s; labels = h.labels }) (writable_none s.form) h.leads

-- what the reader has found at its end, and at a faulty line
pub text_read : (bytes first : List ℕ) (ls rest : List (List ℕ)) (form : Form) (s : ScriptView) (names : Names) (n : ℕ) → lines_of bytes ≡ first ∷ ls → form_said (words_of first) ≡ Some form → rest ≡ [] → Reads form (body bytes) (event_lines n rest) s names → IsText bytes s
text_read bytes first ls rest form s names n is header none r =
    let end : Before = record { script = s; labels = r.labels } in
    let split : body bytes ≡ r.good = r.split ∙ (ap (λ ls. r.good ++ event_lines n ls) none ∙ append-nil r.good) in
    let leads = subst (λ ls. Leads (nothing form) ls end) (sym split) r.leads in
    let same : s.form ≡ form = leads_form (nothing form) (body bytes) end leads in
    record {
      header = ap form_of is ∙ (header ∙ ap Some (sym same));
      labels = r.labels;
      leads = subst (λ fm. Leads (nothing fm) (body bytes) end) (sym same) leads;
    }

pub fault_read : (bytes first : List ℕ) (ls : List (List ℕ)) (form : Form) (n : ℕ) (reason : Reason) → lines_of bytes ≡ first ∷ ls → form_said (words_of first) ≡ Some form → IsFirst form (body bytes) n reason → IsFirstFault bytes n reason
fault_read bytes first ls form n reason is header f = inr (form, ap form_of is ∙ header, f)
