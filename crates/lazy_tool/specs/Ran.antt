-- What is made of a script.
use Rattle.std.specs.Prelude.{◌≡◌, ℕ, Option, List, length}
use Rattle.lazy_rec.specs.declared.events.Event.{Event}
use Rattle.version_book.specs.Closed.{IsBook}
use Rattle.report_text.specs.Report.{report_of, some_given_up}
use Rattle.lazy_tool.specs.declared.solo.Ran.{Ran}
use Rattle.lazy_tool.specs.Outcome.{nodes_for}

-- a book of the events in a store of so many nodes, and its report
pub record IsReported (nodes : Option ℕ) (events : List Event) (ran : Ran) : Type 0 where
  pub book : IsBook ran.closed (nodes_for nodes events) events
  pub text : ran.report.text.items ≡ report_of ran.closed
  pub given_up : ran.report.has_given_up ≡ some_given_up ran.closed (length ran.closed.rows)
