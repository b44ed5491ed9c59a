-- What the program says of a fault on standard error, and the status that it ends with.
use Rattle.std.specs.Prelude.{◌≡◌, ℕ, List, [], ◌++◌, codes, decimal, Option}
use Rattle.heap_store.specs.World.{World}
use Rattle.script_text.specs.Reasons.{reason_text}
use Rattle.lazy_tool.specs.declared.faults.Why.{Why}
use Rattle.lazy_tool.specs.declared.faults.Why.TheVariants as why
use Rattle.lazy_tool.specs.Outcome.{status_of}

-- the text of a fault, without a line's end
abbrev pub Says : Why → List ℕ → Type 0
Says why.Nothing text = text ≡ []
Says why.Usage text = text ≡ codes "usage: lazy_tool plain [--nodes N] | gen SEED EVENTS"
Says (why.Script line reason) text = text ≡ codes "line " ++ decimal line ++ codes ": " ++ reason_text reason
Says why.TooLarge text = text ≡ codes "script larger than 16777216 bytes"
Says (why.NotBuilt event) text = text ≡ codes "event " ++ decimal event ++ codes ": not built"
Says why.Read text = text ≡ codes "read fault"
Says why.Write text = text ≡ codes "write fault"
Says why.Memory text = text ≡ codes "out of memory"

-- the status and the text are those of one cause
pub record IsExit (status : ℕ) (text : List ℕ) : Type 0 where
  pub cause : Why
  pub closed : Option World
  pub status_is : status ≡ status_of cause closed
  pub says : Says cause text
