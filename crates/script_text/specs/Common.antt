-- Lines that are read in one pass.
use Rattle.std.specs.Prelude.{◌≡◌, ℕ, ◌+◌, ◌<◌, ◌≤◌, true, false, List, ◌∷◌, ◌++◌, length, Ok}
use Rattle.std.specs.Char.{is_ascii_digit}
use Rattle.std.specs.List.{list_all}
use Rattle.lazy_rec.specs.declared.events.Event.{Event}
use Rattle.script_text.specs.declared.model.Form.{Form}
use Rattle.script_text.specs.Lines.{lines_of, words_of, is_comment, begins_label, number_of}
use Rattle.script_text.specs.Events.{ScriptView, Names, event_at}
use Rattle.script_text.specs.Text.{EventLine, Leads, event_lines}

-- the bytes begin with a number, and this byte stands behind it
pub record IsNumberBefore (form : Form) (bytes : List ℕ) (end n : ℕ) (after : List ℕ) : Type 0 where
  pub digits : List ℕ
  pub split : bytes ≡ digits ++ end ∷ after
  pub some : 0 < length digits
  pub all : list_all is_ascii_digit digits ≡ true
  pub number : number_of form digits ≡ Ok n

-- the first line is one of this event, and these bytes follow it
pub record IsCommonEvent (s : ScriptView) (bytes : List ℕ) (e : Event) (after : List ℕ) : Type 0 where
  pub line : List ℕ
  pub first : List ℕ
  pub others : List (List ℕ)
  pub lines : lines_of bytes ≡ line ∷ lines_of after
  pub words : words_of line ≡ first ∷ others
  pub plain : is_comment first ≡ false
  pub unlabelled : begins_label first ≡ false
  pub event : (names : Names) → event_at s names first others ≡ Ok e
  pub shorter : length after < length bytes

-- lines were read, which lead from one script to another and have no labels: of the bytes from line n on, those from line m on
-- are left
pub record ReadOn (s : ScriptView) (n : ℕ) (bytes : List ℕ) (t : ScriptView) (m : ℕ) (rest : List ℕ) : Type 0 where
  pub lines : List EventLine
  pub split : event_lines n (lines_of bytes) ≡ lines ++ event_lines m (lines_of rest)
  pub leads : (labels : List (List ℕ × ℕ)) → Leads (record { script = s; labels = labels }) lines (record { script = t; labels = labels })
  pub number : m + length rest ≤ n + length bytes
  pub shorter : length rest ≤ length bytes
