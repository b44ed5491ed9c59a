-- Which bytes are the text of which script, which line is the first faulty one, and the canonical text of a script.
use Rattle.std.specs.Prelude.{◌≡◌, ℕ, suc, ◌+◌, ◌<◌, Bool, not, ◌&&◌, ◌||◌, true, List, [], ◌∷◌, ◌++◌, length, slice_get, drop, Ok, Err, Option, Some, None, nat_le, if◌then◌else◌, codes, decimal, flat_map, ◌⊎◌}
use Rattle.std.specs.List.{join_with_byte}
use Rattle.std.specs.Str.{bytes_eq}
use Rattle.lazy_rec.specs.declared.events.Kind.{Kind}
use Rattle.lazy_rec.specs.declared.events.Op.{Op}
use Rattle.lazy_rec.specs.declared.events.Op.TheVariants as ops
use Rattle.lazy_rec.specs.declared.events.Event.{Event}
use Rattle.lazy_rec.specs.declared.limits.TheConstants.{MOST_EVENTS}
use Rattle.lazy_rec.specs.Kinds.{is_split}
use Rattle.lazy_rec.specs.History.{event_of, event_name, is_second, kind_of, is_event_at, IsScript}
use Rattle.script_text.specs.declared.model.Form.{Form}
use Rattle.script_text.specs.declared.model.Form.TheVariants as forms
use Rattle.script_text.specs.declared.model.Reason.{Reason}
use Rattle.script_text.specs.declared.model.Reason.TheVariants.{NoHeader}
use Rattle.script_text.specs.declared.words.Syntax.{Syntax}
use Rattle.script_text.specs.declared.words.Syntax.TheVariants as syntax
use Rattle.script_text.specs.Lines.{lines_of, words_of, is_comment, most_number}
use Rattle.script_text.specs.Words.{look, op_word, op_syntax, kind_word, has_labels}
use Rattle.script_text.specs.Events.{ScriptView, labels_line, event_at}

-- ---- lines

abbrev pub form_number : Form → ℕ
form_number forms.One = 1
form_number forms.Two = 2
form_number forms.Three = 3

-- the words after `lazy`
abbrev pub form_words : List (List ℕ × Form)
form_words = (codes "1", forms.One) ∷ (codes "2", forms.Two) ∷ (codes "3", forms.Three) ∷ []

-- the form that the words of a header say: `lazy` and the form's number
abbrev pub form_said : List (List ℕ) → Option Form
form_said [] = None
form_said (w ∷ []) = None
form_said (w ∷ v ∷ []) = if bytes_eq w (codes "lazy") then look v form_words else None
form_said (w ∷ v ∷ u ∷ ws) = None

-- the form that the first line says
abbrev pub form_of : List (List ℕ) → Option Form
form_of [] = None
form_of (l ∷ ls) = form_said (words_of l)

-- a line of an event: its number, its first word and the others
pub record EventLine : Type 0 where
  pub number : ℕ
  pub first : List ℕ
  pub others : List (List ℕ)

-- the line with this number and these words, before others, where it is one of an event
abbrev pub event_line : ℕ → List (List ℕ) → List EventLine → List EventLine
event_line n [] more = more
event_line n (w ∷ ws) more = if is_comment w then more else record { number = n; first = w; others = ws } ∷ more

-- the lines of events among these, of which the first has number n
abbrev pub event_lines : ℕ → List (List ℕ) → List EventLine
event_lines n [] = []
event_lines n (l ∷ ls) = event_line n (words_of l) (event_lines (n + 1) ls)

-- the lines of events after the header
abbrev pub body : List ℕ → List EventLine
body bytes = event_lines 2 (drop 1 (lines_of bytes))

-- ---- scripts and faults

-- what stands before a line: a script, and the labels of its events with their names, newest first
pub record Before : Type 0 where
  pub script : ScriptView
  pub labels : List (List ℕ × ℕ)

abbrev pub nothing : Form → Before
nothing form = record { script = record { form = form; events = [] }; labels = [] }

-- the labels with that of a line, if it has one, for an event of this name
abbrev pub labels_with : Form → List ℕ → ℕ → List (List ℕ × ℕ) → List (List ℕ × ℕ)
labels_with form first n labels = if labels_line form first then (first, n) ∷ labels else labels

abbrev pub events_with : ScriptView → Event → ScriptView
events_with s e = record { form = s.form; events = s.events ++ e ∷ [] }

abbrev pub after : Before → EventLine → Event → Before
after b l e = record { script = events_with b.script e; labels = labels_with b.script.form l.first (suc (length b.script.events)) b.labels }

-- the event is the one of the line
abbrev pub IsEventOf : Before → EventLine → Event → Type 0
IsEventOf b l e = event_at b.script (λ w. look w b.labels) l.first l.others ≡ Ok e

-- the line is none of an event, for this reason
abbrev pub IsNoEvent : Before → EventLine → Reason → Type 0
IsNoEvent b l reason = event_at b.script (λ w. look w b.labels) l.first l.others ≡ Err reason

-- each line is one of an event, and so they lead from what stands before them to what stands after them
abbrev pub Leads : Before → List EventLine → Before → Type 0
Leads b [] c = b ≡ c
Leads b (l ∷ ls) c = (e : Event) × IsEventOf b l e × Leads (after b l e) ls c

-- the bytes are a text of this script
pub record IsText (bytes : List ℕ) (s : ScriptView) : Type 0 where
  pub header : form_of (lines_of bytes) ≡ Some s.form
  pub labels : List (List ℕ × ℕ)
  pub leads : Leads (nothing s.form) (body bytes) (record { script = s; labels = labels })

-- of these lines the one with this number is the first that is none of an event, for this reason
pub record IsFirst (form : Form) (lines : List EventLine) (n : ℕ) (reason : Reason) : Type 0 where
  pub good : List EventLine
  pub bad : EventLine
  pub more : List EventLine
  pub before : Before
  pub split : lines ≡ good ++ bad ∷ more
  pub leads : Leads (nothing form) good before
  pub number : bad.number ≡ n
  pub no_event : IsNoEvent before bad reason

-- the first faulty line, and its first reason
abbrev pub IsFirstFault : List ℕ → ℕ → Reason → Type 0
IsFirstFault bytes n reason =
    ((form_of (lines_of bytes) ≡ None) × (n ≡ 1) × (reason ≡ NoHeader))
    ⊎ ((form : Form) × (form_of (lines_of bytes) ≡ Some form) × IsFirst form (body bytes) n reason)

-- ---- scripts that have a text

-- the form has the event: its number, and `split` but for form 1
abbrev pub is_in_form : Form → Event → Bool
is_in_form form e = nat_le e.arg (most_number form) && (has_labels form || not (is_split e.op))

-- a script of events that its form has
pub record IsWritable (s : ScriptView) : Type 0 where
  pub script : IsScript s.events
  pub in_form : (i : ℕ) (e : Event) → event_of s.events i ≡ Some e → is_in_form s.form e ≡ true

-- an event may stand next after these
pub record Follows (before : ScriptView) (e : Event) : Type 0 where
  pub room : length before.events < MOST_EVENTS
  pub fits : is_event_at (event_of before.events) (suc (length before.events)) e ≡ true
  pub in_form : is_in_form before.form e ≡ true

-- the kinds of these events, in order
pub record AreKindsOf (events : List Event) (kinds : List Kind) : Type 0 where
  pub many : length kinds ≡ length events
  pub each : (i : ℕ) → i < length events → slice_get kinds i ≡ kind_of (event_of events) (suc i)

-- ---- the canonical text

-- the word of the kind that `new` makes
abbrev pub new_word : Op → List ℕ
new_word (ops.New k) = kind_word k
new_word o = []

-- a version as a word: its name, and .2 where it is a second one
abbrev pub version_word : ℕ → List ℕ
version_word v = if is_second v then decimal (event_name v) ++ codes ".2" else decimal (event_name v)

-- the words after that of the operation
abbrev pub words_after : Syntax → Event → List (List ℕ)
words_after syntax.New e = new_word e.op ∷ []
words_after (syntax.Base o) e = version_word e.base ∷ []
words_after (syntax.Argument o) e = version_word e.base ∷ decimal e.arg ∷ []
words_after (syntax.Other o) e = version_word e.base ∷ version_word e.other ∷ []

abbrev pub event_words : Event → List (List ℕ)
event_words e = op_word e.op ∷ words_after (op_syntax e.op) e

-- single spaces between the words, and the end of the line
abbrev pub line_text : List (List ℕ) → List ℕ
line_text words = join_with_byte 32 words ++ 10 ∷ []

abbrev pub header_text : Form → List ℕ
header_text forms.One = codes "lazy 1\n"
header_text forms.Two = codes "lazy 2\n"
header_text forms.Three = codes "lazy 3\n"

-- the header, then a line for each event
abbrev pub canonical_text : ScriptView → List ℕ
canonical_text s = header_text s.form ++ flat_map (λ e. line_text (event_words e)) s.events
