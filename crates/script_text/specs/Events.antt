-- The event of a line, from the script before it and the events that labels stand for. The steps stand in the order of the
-- reasons.
use Rattle.std.specs.Prelude.{ℕ, ◌+◌, Bool, false, not, ◌&&◌, List, [], ◌∷◌, length, Option, Some, None, Result, Ok, Err, nat_lt, nat_le, is_some, option_map, if◌then◌else◌}
use Rattle.lazy_rec.specs.declared.events.Kind.{Kind}
use Rattle.lazy_rec.specs.declared.events.Op.{Op}
use Rattle.lazy_rec.specs.declared.events.Op.TheVariants as ops
use Rattle.lazy_rec.specs.declared.events.Event.{Event}
use Rattle.lazy_rec.specs.declared.limits.TheConstants.{MOST_EVENTS}
use Rattle.lazy_rec.specs.Tests.{is_some_and}
use Rattle.lazy_rec.specs.Kinds.{belongs, is_split, same_kind}
use Rattle.lazy_rec.specs.History.{event_of, kind_of, second_mark}
use Rattle.script_text.specs.declared.model.Form.{Form}
use Rattle.script_text.specs.declared.model.Reason.{Reason}
use Rattle.script_text.specs.declared.model.Reason.TheVariants.{UnknownWord, WrongCount, BaseNotEarlier, NotOfThisKind, TwoKinds, TooMany, BadLabel, UnknownLabel, NoSecond}
use Rattle.script_text.specs.declared.words.Syntax.{Syntax}
use Rattle.script_text.specs.declared.words.Syntax.TheVariants as syntax
use Rattle.script_text.specs.declared.versions.Said.{Said}
use Rattle.script_text.specs.Lines.{number_of, begins_label, is_label, cut_ending}
use Rattle.script_text.specs.Words.{has_labels, syntax_of, kind_named}

-- a script as contracts see it: its form, and its events
pub record ScriptView : Type 0 where
  pub form : Form
  pub events : List Event

-- the name of the event that a label stands for
abbrev pub Names : Type 0
Names = List ℕ → Option ℕ

-- the steps of a line, of which the first that fails gives the reason
infixl 10 ◌>>=◌
abbrev pub ◌>>=◌ : {A B : Type 0} → Result A Reason → (A → Result B Reason) → Result B Reason
(Ok x) >>= f = f x
(Err e) >>= f = Err e

abbrev pub or_else : {A : Type 0} → Option A → Reason → Result A Reason
or_else None r = Err r
or_else (Some x) r = Ok x

abbrev pub check : Bool → Reason → Result Bool Reason
check b r = if b then Ok b else Err r

-- the one word, the two words, the first word and the others
abbrev pub only_one : List (List ℕ) → Option (List ℕ)
only_one [] = None
only_one (w ∷ []) = Some w
only_one (w ∷ v ∷ ws) = None

abbrev pub only_two : List (List ℕ) → Option (List ℕ × List ℕ)
only_two [] = None
only_two (w ∷ []) = None
only_two (w ∷ v ∷ []) = Some (w, v)
only_two (w ∷ v ∷ u ∷ ws) = None

abbrev pub first_word : List (List ℕ) → Option (List ℕ × List (List ℕ))
first_word [] = None
first_word (w ∷ ws) = Some (w, ws)

abbrev pub event : Op → ℕ → ℕ → ℕ → Event
event o b c x = record { op = o; base = b; other = c; arg = x }

-- ---- versions

-- a word without its ending, where the form has endings
abbrev pub ending_of : Form → List ℕ → List ℕ × Bool
ending_of form w = if has_labels form then cut_ending w else (w, false)

abbrev pub said : Bool → ℕ → Said
said second n = record { name = n; second = second }

-- a label says nothing where no earlier event has it
abbrev pub said_by : Form → Names → List ℕ → Bool → Result (Option Said) Reason
said_by form names stem second =
    if has_labels form && begins_label stem then Ok (option_map (said second) (names stem)) else (do
      n ← number_of form stem
      Ok (Some (said second n)))

-- what a word in a base's place says: a number or a label, and which version
abbrev pub said_of : Form → Names → List ℕ → Result (Option Said) Reason
said_of form names w = said_by form names (ending_of form w).0 (ending_of form w).1

-- the kind of the event with this name, which is one of those before
abbrev pub kind_before : List Event → ℕ → Result Kind Reason
kind_before before n = if nat_lt 0 n && nat_le n (length before) then or_else (kind_of (event_of before) n) BaseNotEarlier else Err BaseNotEarlier

abbrev pub is_split_at : List Event → ℕ → Bool
is_split_at before n = is_some_and (λ (e : Event). is_split e.op) (event_of before n)

-- the version of an earlier event; only a split has a second one
abbrev pub version_of : List Event → Said → Result ℕ Reason
version_of before b = if b.second then (if is_split_at before b.name then Ok (b.name + second_mark) else Err NoSecond) else Ok b.name

-- ---- events

-- the event with a base, and no other
abbrev pub on_base : List Event → Op → Said → ℕ → Result Event Reason
on_base before o b x = do
  k ← kind_before before b.name
  v ← version_of before b
  if belongs k o then Ok (event o v 0 x) else Err NotOfThisKind

-- the event with two bases
abbrev pub on_two : List Event → Op → Said → Said → Result Event Reason
on_two before o b c = do
  k ← kind_before before b.name
  j ← kind_before before c.name
  v ← version_of before b
  u ← version_of before c
  if belongs k o then (if same_kind k j then Ok (event o v u 0) else Err TwoKinds) else Err NotOfThisKind

abbrev pub new_event : List ℕ → Result Event Reason
new_event w = do
  k ← or_else (kind_named w) UnknownWord
  Ok (event (ops.New k) 0 0 0)

-- the event of an operation and the words after it
unfoldable pub event_with : ScriptView → Names → Syntax → List (List ℕ) → Result Event Reason
event_with before names syntax.New ws = do
  w ← or_else (only_one ws) WrongCount
  new_event w
event_with before names (syntax.Base o) ws = do
  w ← or_else (only_one ws) WrongCount
  s ← said_of before.form names w
  b ← or_else s UnknownLabel
  on_base before.events o b 0
event_with before names (syntax.Argument o) ws = do
  p ← or_else (only_two ws) WrongCount
  s ← said_of before.form names p.0
  x ← number_of before.form p.1
  b ← or_else s UnknownLabel
  on_base before.events o b x
event_with before names (syntax.Other o) ws = do
  p ← or_else (only_two ws) WrongCount
  s ← said_of before.form names p.0
  t ← said_of before.form names p.1
  b ← or_else s UnknownLabel
  c ← or_else t UnknownLabel
  on_two before.events o b c

-- ---- labels

-- whether a line's first word labels its event
abbrev pub labels_line : Form → List ℕ → Bool
labels_line form w = has_labels form && begins_label w

-- the first word of the event itself, and the others
unfoldable pub after_label : Form → Names → List ℕ → List (List ℕ) → Result (List ℕ × List (List ℕ)) Reason
after_label form names first ws =
    if labels_line form first then (do
      good ← check (is_label first && not (is_some (names first))) BadLabel
      or_else (first_word ws) WrongCount) else Ok (first, ws)

-- the event of a line with these words
unfoldable pub event_at : ScriptView → Names → List ℕ → List (List ℕ) → Result Event Reason
event_at before names first ws = do
  room ← check (nat_lt (length before.events) MOST_EVENTS) TooMany
  p ← after_label before.form names first ws
  s ← or_else (syntax_of before.form p.0) UnknownWord
  event_with before names s p.1
