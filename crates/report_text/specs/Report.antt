-- The bytes of the report of a closed book, and whether some row of it is given up.
use Rattle.std.specs.Prelude.{ℕ, zero, suc, Bool, true, false, ◌||◌, Option, Some, None, List, [], ◌++◌, length, codes, decimal}
use Rattle.lazy_rec.specs.declared.events.Reply.{Reply}
use Rattle.lazy_rec.specs.declared.events.Reply.TheVariants as replies
use Rattle.heap_store.specs.World.{World}
use Rattle.lazy_rec.specs.Tests.{is_some_and}
use Rattle.heap_store.specs.Rows.{Row, is_refused, row_at}
use Rattle.version_book.specs.declared.rows.Ended.{Ended}
use Rattle.version_book.specs.declared.rows.Ended.TheVariants as ends
use Rattle.version_book.specs.declared.rows.Row.{Row as ToldRow}
use Rattle.version_book.specs.declared.totals.Totals.{Totals}
use Rattle.version_book.specs.Closed.{row_told}
use Rattle.version_book.specs.Totals.{totals_of}

abbrev pub reply_text : Reply → List ℕ
reply_text replies.Ok = codes "ok"
reply_text (replies.Number n) = decimal n
reply_text replies.Empty = codes "empty"
reply_text replies.TooLong = codes "toolong"

abbrev pub ended_text : Ended → List ℕ
ended_text (ends.Reply reply _ _) = reply_text reply
ended_text (ends.Full drawn wanted) = codes "full " ++ decimal drawn ++ codes " " ++ decimal wanted
ended_text ends.Memory = codes "memory"
ended_text ends.NoBase = codes "nobase"

-- the line of an event
abbrev pub row_text : ToldRow → List ℕ
row_text row = decimal row.name ++ codes " " ++ ended_text row.ended ++ codes "\n"

abbrev pub told_text : Option ToldRow → List ℕ
told_text None = []
told_text (Some row) = row_text row

-- the lines of the first rows, in order of name
abbrev pub lines_to : World → ℕ → List ℕ
lines_to w zero = []
lines_to w (suc i) = lines_to w i ++ told_text (row_told w (suc i))

-- a word and its number
abbrev pub field_text : List ℕ → ℕ → List ℕ
field_text word n = word ++ decimal n

abbrev pub totals_text : Totals → List ℕ
totals_text t = field_text (codes "totals forced ") t.forced ++ field_text (codes " steps ") t.steps ++ field_text (codes " givenup ") t.given_up ++ field_text (codes " dues ") t.dues ++ codes "\n"

-- the lines of all rows, and the line of the totals
abbrev pub report_of : World → List ℕ
report_of w = lines_to w (length w.rows) ++ totals_text (totals_of w)

abbrev pub is_reply : Ended → Bool
is_reply (ends.Reply reply version second) = true
is_reply _ = false

-- the row of a name is given up
abbrev pub is_lost : World → ℕ → Bool
is_lost w name = is_some_and (λ (r : Row). is_refused r.ending) (row_at w name)

-- one of the first rows is given up
abbrev pub some_given_up : World → ℕ → Bool
some_given_up w zero = false
some_given_up w (suc i) = some_given_up w i || is_lost w (suc i)
