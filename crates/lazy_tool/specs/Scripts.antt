-- Texts of scripts, and the first of their events that isn't built.
use Rattle.std.specs.Prelude.{◌≡◌, ℕ, ◌<◌, ◌≤◌, true, false, List, Option, Some, length}
use Rattle.lazy_rec.specs.declared.events.Event.{Event}
use Rattle.lazy_rec.specs.declared.limits.TheConstants.{MOST_SCRIPT_BYTES}
use Rattle.lazy_rec.specs.History.{event_of}
use Rattle.kind_table.specs.Kinds.{is_built_at, AreBuilt}
use Rattle.script_text.specs.declared.model.Form.{Form}
use Rattle.script_text.specs.Text.{IsText}

-- the bytes are a text of these events, in one of the forms
pub record IsTextOf (bytes : List ℕ) (events : List Event) : Type 0 where
  pub form : Form
  pub text : IsText bytes (record { form = form; events = events })

-- the events with a smaller name are built
abbrev pub AreBuiltBefore : List Event → ℕ → Type 0
AreBuiltBefore events name = (i : ℕ) (e : Event) → i < name → event_of events i ≡ Some e → is_built_at events i e ≡ true

-- the event of this name is the first that isn't built
pub record IsFirstUnbuilt (events : List Event) (name : ℕ) : Type 0 where
  pub event : Event
  pub here : event_of events name ≡ Some event
  pub unbuilt : is_built_at events name event ≡ false
  pub before : AreBuiltBefore events name

-- the source tells a text of these events, of at most 16,777,216 bytes, and all of them are built
pub record Tells (left : Option (List ℕ)) (events : List Event) : Type 0 where
  pub bytes : List ℕ
  pub told : left ≡ Some bytes
  pub few : length bytes ≤ MOST_SCRIPT_BYTES
  pub text : IsTextOf bytes events
  pub built : AreBuilt events
