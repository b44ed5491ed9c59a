-- What a call answers, and what it leaves of the source and the sink.
use Rattle.std.specs.Prelude.{◌≡◌, ◌+◌, ◌<◌, ◌≤◌, ◌⊎◌, ℕ, min, Bool, true, false, cond, List, Option, Some, None, length, take}
use Rattle.std.specs.Io.KnownBytes.{Appends, Consumes}
use Rattle.lazy_rec.specs.declared.events.Event.{Event}
use Rattle.lazy_rec.specs.declared.limits.TheConstants.{MOST_NODES, MOST_SCRIPT_BYTES}
use Rattle.heap_store.specs.World.{World}
use Rattle.heap_store.specs.Rows.{Row, memory, is_full, row_at}
use Rattle.dues.specs.Rooms.{room}
use Rattle.version_book.specs.Closed.{IsBook}
use Rattle.report_text.specs.Report.{report_of, some_given_up}
use Rattle.script_text.specs.declared.model.Reason.{Reason}
use Rattle.script_text.specs.Text.{IsFirstFault, canonical_text}
use Rattle.script_text.specs.Generator.{generated}
use Rattle.lazy_outside.specs.Bytes.{TakesAll}
use Rattle.lazy_outside.specs.Faults.{Rises}
use Rattle.lazy_tool.specs.declared.faults.Why.{Why}
use Rattle.lazy_tool.specs.declared.faults.Why.TheVariants as why
use Rattle.lazy_tool.specs.declared.words.Command.{Command}
use Rattle.lazy_tool.specs.declared.words.Command.TheVariants.{Plain, Gen}
use Rattle.kind_table.specs.Kinds.{AreBuilt}
use Rattle.lazy_tool.specs.Scripts.{IsTextOf, IsFirstUnbuilt}

-- ---- the ends

-- the source and the sink: the bytes that are left and those that are held, where these are told, and how many takes and
-- gives have failed
pub record Ends : Type 0 where
  pub left : Option (List ℕ)
  pub read_faults : ℕ
  pub holds : Option (List ℕ)
  pub write_faults : ℕ

abbrev pub ends : Option (List ℕ) → ℕ → Option (List ℕ) → ℕ → Ends
ends left read_faults holds write_faults = record { left = left; read_faults = read_faults; holds = holds; write_faults = write_faults }

-- nothing was given to the sink, and there is no closed book
pub record IsSilent (old new : Ends) (closed : Option World) : Type 0 where
  pub holds : new.holds ≡ old.holds
  pub write_faults : new.write_faults ≡ old.write_faults
  pub no_book : closed ≡ None

-- ---- what is read

-- the source was taken to its end, and its bytes, at most 16,777,216, are a text of these events
pub record IsRead (old new : Option (List ℕ)) (events : List Event) : Type 0 where
  pub bytes : List ℕ
  pub few : length bytes ≤ MOST_SCRIPT_BYTES
  pub taken : TakesAll old new bytes
  pub text : IsTextOf bytes events

-- the source was taken to its end, and this is the first faulty line of its bytes, with its first reason
pub record IsFaulty (old new : Option (List ℕ)) (line : ℕ) (reason : Reason) : Type 0 where
  pub bytes : List ℕ
  pub few : length bytes ≤ MOST_SCRIPT_BYTES
  pub taken : TakesAll old new bytes
  pub fault : IsFirstFault bytes line reason

-- 16,777,217 bytes were taken
pub record IsTooLarge (old new : Option (List ℕ)) : Type 0 where
  pub bytes : List ℕ
  pub many : length bytes ≡ MOST_SCRIPT_BYTES + 1
  pub taken : Consumes old new bytes

-- a script was read, and the event of this name is the first of it that isn't built
pub record IsUnbuilt (old new : Option (List ℕ)) (name : ℕ) : Type 0 where
  pub events : List Event
  pub read : IsRead old new events
  pub first : IsFirstUnbuilt events name

-- why a source gives no script that can be run
abbrev pub Stops : Option (List ℕ) → Option (List ℕ) → ℕ → ℕ → Why → Type 0
Stops old new faults faults' (why.Script line reason) = IsFaulty old new line reason
Stops old new faults faults' why.TooLarge = IsTooLarge old new
Stops old new faults faults' (why.NotBuilt name) = IsUnbuilt old new name
Stops old new faults faults' why.Read = Rises faults faults'
Stops old new faults faults' why.Memory = Unit {0}
Stops old new faults faults' why.Nothing = ⊥
Stops old new faults faults' why.Usage = ⊥
Stops old new faults faults' why.Write = ⊥

-- ---- what is run and written

-- how many nodes the store of a script has: so many as the words say, else the script's room, and at most 4,000,000
abbrev pub nodes_for : Option ℕ → List Event → ℕ
nodes_for None events = min (room events) MOST_NODES
nodes_for (Some nodes) events = nodes

-- the source was read, all events are built, and the book is one in which they were run in order in such a store
pub record IsRun (nodes : Option ℕ) (old new : Ends) (book : World) : Type 0 where
  pub events : List Event
  pub read : IsRead old.left new.left events
  pub built : AreBuilt events
  pub run : IsBook book (nodes_for nodes events) events
  pub no_fault : new.read_faults ≡ old.read_faults

-- the script was run, and the sink grew by the whole report
pub record IsServed (nodes : Option ℕ) (old new : Ends) (closed : Option World) : Type 0 where
  pub book : World
  pub closed_is : closed ≡ Some book
  pub run : IsRun nodes old new book
  pub written : Appends old.holds new.holds (report_of book)

-- the script was run, a give failed, and the sink grew by a part of the report from its front, and not by the whole
pub record IsCutOff (nodes : Option ℕ) (old new : Ends) (closed : Option World) : Type 0 where
  pub book : World
  pub closed_is : closed ≡ Some book
  pub run : IsRun nodes old new book
  pub fault : Rises old.write_faults new.write_faults
  pub count : ℕ
  pub short : count < length (report_of book)
  pub written : Appends old.holds new.holds (take count (report_of book))

-- ---- what is made and written

-- the sink grew by the text of the script that a seed makes
pub record IsMade (seed events : ℕ) (old new : Ends) (closed : Option World) : Type 0 where
  pub written : Appends old.holds new.holds (canonical_text (generated seed events))
  pub no_book : closed ≡ None

-- a give failed, and the sink grew by a part of the text from its front, and not by the whole
pub record IsMadeInPart (seed events : ℕ) (old new : Ends) (closed : Option World) : Type 0 where
  pub fault : Rises old.write_faults new.write_faults
  pub count : ℕ
  pub short : count < length (canonical_text (generated seed events))
  pub written : Appends old.holds new.holds (take count (canonical_text (generated seed events)))
  pub no_book : closed ≡ None

-- ---- answers

-- what each answer to `plain` says, of a store with so many nodes where their number is given
abbrev pub AnswersPlain : Option ℕ → Ends → Ends → Why → Option World → Type 0
AnswersPlain nodes old new why.Nothing closed = IsServed nodes old new closed
AnswersPlain nodes old new why.Usage closed = ⊥
AnswersPlain nodes old new (why.Script line reason) closed = IsFaulty old.left new.left line reason × IsSilent old new closed
AnswersPlain nodes old new why.TooLarge closed = IsTooLarge old.left new.left × IsSilent old new closed
AnswersPlain nodes old new (why.NotBuilt name) closed = IsUnbuilt old.left new.left name × IsSilent old new closed
AnswersPlain nodes old new why.Read closed = Rises old.read_faults new.read_faults × IsSilent old new closed
AnswersPlain nodes old new why.Write closed = IsCutOff nodes old new closed
AnswersPlain nodes old new why.Memory closed = IsSilent old new closed

-- what each answer to `gen` says
abbrev pub AnswersGen : ℕ → ℕ → Ends → Ends → Why → Option World → Type 0
AnswersGen seed events old new why.Nothing closed = IsMade seed events old new closed
AnswersGen seed events old new why.Write closed = IsMadeInPart seed events old new closed
AnswersGen seed events old new why.Memory closed = IsSilent old new closed
AnswersGen seed events old new _ closed = ⊥

-- what each answer to a command says
abbrev pub Answers : Command → Ends → Ends → Why → Option World → Type 0
Answers (Plain nodes) = AnswersPlain nodes
Answers (Gen seed events) = AnswersGen seed events

-- some row is given up: it is full, had no memory or no base
abbrev pub has_given_up : Option World → Bool
has_given_up None = false
has_given_up (Some w) = some_given_up w (length w.rows)

-- the status of an answer
abbrev pub status_of : Why → Option World → ℕ
status_of why.Nothing closed = cond (has_given_up closed) 1 0
status_of why.Usage closed = 2
status_of (why.Script line reason) closed = 3
status_of why.TooLarge closed = 3
status_of (why.NotBuilt name) closed = 3
status_of why.Read closed = 4
status_of why.Write closed = 5
status_of why.Memory closed = 6

-- ---- completeness

-- the text is refused
abbrev pub is_refusal : Why → Bool
is_refusal (why.Script line reason) = true
is_refusal why.TooLarge = true
is_refusal (why.NotBuilt name) = true
is_refusal _ = false

-- some row says that memory couldn't be had, and none that the store was full
pub record IsShortOfMemory (book : World) : Type 0 where
  pub name : ℕ
  pub row : Row
  pub here : row_at book name ≡ Some row
  pub says : row.ending ≡ memory
  pub never_full : (i : ℕ) (r : Row) → row_at book i ≡ Some r → is_full r.ending ≡ false

-- every event was answered, unless memory couldn't be had: for the whole run, or for some event
abbrev pub IsComplete : ℕ → Option World → Type 0
IsComplete status None = status ≡ 6
IsComplete status (Some book) = (status ≡ 0) ⊎ ((status ≡ 1) × IsShortOfMemory book)

-- no take and no give failed
pub record NoFaults (old new : Ends) : Type 0 where
  pub reads : Rises old.read_faults new.read_faults → ⊥
  pub writes : Rises old.write_faults new.write_faults → ⊥
