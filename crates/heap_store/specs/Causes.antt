-- Why an event ends without an answer, and what shows it: attempts at suspensions that were given back.
use Rattle.std.specs.Prelude.{◌≡◌, ℕ, ◌≤◌, leb, ltb, Bool, true, false, ◌&&◌, ◌||◌, Option, Some, None, count_by}
use Rattle.lazy_rec.specs.declared.records.Rec.{Rec}
use Rattle.lazy_rec.specs.declared.limits.TheConstants.{ROOM_FOR_CLAIMS}
use Rattle.lazy_rec.specs.Named.{is_pending}
use Rattle.lazy_rec.specs.States.{given_up}
use Rattle.heap_store.specs.declared.nodes.Node.{Node}
use Rattle.heap_store.specs.World.{World, attempts_at, some_record}
use Rattle.heap_store.specs.Rows.{Ending, full, memory}
use Rattle.heap_store.specs.Jobs.{most_places}

-- a suspension at which an attempt was given back
abbrev pub was_given_back : Option Node → Bool
was_given_back None = false
was_given_back (Some n) = is_pending n.rec && ltb 0 (given_up n.state)

-- how many of them a world shows
unfoldable pub given_back_count : World → ℕ
given_back_count w = count_by was_given_back w.nodes

-- an attempt at the suspension was given back, and its completion takes up to so many places
abbrev pub may_have_wanted : World → ℕ → ℕ → Rec → Bool
may_have_wanted w wanted p r = is_pending r && ltb 0 (attempts_at w p) && leb wanted (most_places r)

-- a reserve of so many places was refused: one of the event's own, which may take `direct` places, or one of a suspension that
-- was then given back
pub record IsFullCause (w : World) (direct wanted : ℕ) : Type 0 where
  pub asked : 1 ≤ wanted
  pub wanted_by : leb wanted direct || some_record w (may_have_wanted w wanted) ≡ true

-- the cause of an ending, in a world that shows the row. Only a force that holds more claims than it has room for can want memory
abbrev pub HasCause : World → ℕ → Ending → Type 0
HasCause w direct (full _ wanted) = IsFullCause w direct wanted
HasCause w direct memory = ROOM_FOR_CLAIMS ≤ given_back_count w
HasCause w direct _ = Unit {0}
