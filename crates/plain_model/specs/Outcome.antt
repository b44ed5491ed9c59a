-- What the program's outcome of an operation is compared with.
use Rattle.std.specs.Prelude.{◌≡◌, ℕ, List}
use Rattle.lazy_rec.specs.declared.events.Reply.{Reply}
use Rattle.plain_model.specs.declared.effects.Outcome.{Outcome}

-- the list and the reply are those of the pair
abbrev pub Gives : List ℕ × Reply → Outcome → Type 0
Gives pair outcome = (outcome.list.items ≡ pair.0) × (outcome.reply ≡ pair.1)
