-- What `plain` does, in one place. Where it ends with status 0, the bytes that it took are a text of events, and it wrote one
-- line for each of them in order: the event's number, and the reply that its operation gives on the plain lists of the
-- versions that it names. A line of totals follows, by which all suspended work took no more steps than the events were
-- charged.
use Rattle.std.specs.Prelude.{◌≡◌, ◌≤◌, ℕ, zero, suc, List, [], ◌++◌, length, Option, Some, None, codes, decimal}
use Rattle.std.specs.Io.KnownBytes.{Appends}
use Rattle.lazy_rec.specs.declared.events.Event.{Event}
use Rattle.lazy_rec.specs.History.{event_of, reply_to}
use Rattle.heap_store.specs.World.{World}
use Rattle.version_book.specs.declared.totals.Totals.{Totals}
use Rattle.version_book.specs.Closed.{IsBounded}
use Rattle.report_text.specs.Report.{reply_text, totals_text}
use Rattle.lazy_tool.specs.Outcome.{Ends, IsRead, nodes_for}

-- the line of the event with this number: the number, a space, and its reply on plain lists
abbrev pub reply_line : List Event → ℕ → Option Event → List ℕ
reply_line events i None = []
reply_line events i (Some e) = decimal i ++ codes " " ++ reply_text (reply_to (event_of events) e) ++ codes "\n"

-- the lines of the first events, in order
abbrev pub reply_lines : List Event → ℕ → List ℕ
reply_lines events zero = []
reply_lines events (suc i) = reply_lines events i ++ reply_line events (suc i) (event_of events (suc i))

-- the text is the lines of all events, and a line of totals with no more steps than dues
pub record IsPlainReport (events : List Event) (text : List ℕ) : Type 0 where
  pub totals : Totals
  pub within : totals.steps ≤ totals.dues
  pub text_is : text ≡ reply_lines events (length events) ++ totals_text totals

-- the source was taken to its end, its bytes are a text of events, and the sink grew by the plain report of these events
pub record IsAnswered (old new : Ends) : Type 0 where
  pub events : List Event
  pub read : IsRead old.left new.left events
  pub report : List ℕ
  pub plain : IsPlainReport events report
  pub written : Appends old.holds new.holds report

-- the closed book keeps the bound of its script, also where some event has no reply: the steps are at most the dues, no more
-- places were taken than those of the events and eight for each step, and no row is full in a store with the script's room
pub record KeepsBound (nodes : Option ℕ) (old new : Ends) (book : World) : Type 0 where
  pub events : List Event
  pub read : IsRead old.left new.left events
  pub bounded : IsBounded book (nodes_for nodes events) events
