-- The reply that a row of a closed book tells.
use Rattle.std.specs.Prelude.{ℕ, Option, Some, None, option_and_then}
use Rattle.lazy_rec.specs.declared.events.Reply.{Reply}
use Rattle.heap_store.specs.World.{World}
use Rattle.version_book.specs.declared.rows.Ended.{Ended}
use Rattle.version_book.specs.declared.rows.Ended.TheVariants as ends
use Rattle.version_book.specs.declared.rows.Row.{Row as ToldRow}
use Rattle.version_book.specs.Closed.{row_told}

abbrev pub reply_in : Ended → Option Reply
reply_in (ends.Reply reply _ _) = Some reply
reply_in _ = None

abbrev pub reply_of_told : Option ToldRow → Option Reply
reply_of_told = option_and_then (λ (r : ToldRow). reply_in r.ended)

-- the reply of a name, none where its row has none
abbrev pub reply_told : World → ℕ → Option Reply
reply_told w name = reply_of_told (row_told w name)
