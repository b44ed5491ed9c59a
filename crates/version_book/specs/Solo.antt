-- Events run in order by one caller, on a store that no other works on.
use Rattle.std.specs.Prelude.{◌≡◌, ◌≢◌, ℕ, ◌+◌, ◌^◌, ◌<◌, ◌≤◌, ltb, leb, ◌&&◌, false, true, Some, None, List, length, take}
use Rattle.std.specs.List.{list_all}
use Rattle.lazy_rec.specs.declared.events.Event.{Event}
use Rattle.lazy_rec.specs.Tests.{is_some_and}
use Rattle.lazy_rec.specs.Kinds.{bases, is_trim, uses_base, uses_other}
use Rattle.lazy_rec.specs.Due.{due}
use Rattle.lazy_rec.specs.History.{event_name, event_of, has_smaller_bases, is_of_its_kind, kind_made, kind_of, names_seconds_well}
use Rattle.heap_store.specs.declared.versions.Version.{Version}
use Rattle.heap_store.specs.World.{World}
use Rattle.heap_store.specs.Rows.{Row, full, row_of, row_at, is_ended, is_ended_at, events_of}
use Rattle.heap_store.specs.Growth.{Grows}
use Rattle.heap_store.specs.Budget.{direct_at, due_at, of_row, sum_rows}
use Rattle.heap_store.specs.Causes.{HasCause}
use Rattle.heap_store.specs.View.{IsLawfulView}
use Rattle.kind_table.specs.Kinds.{is_built}
use Rattle.version_book.specs.Pass.{Pass}
use Rattle.version_book.specs.Closed.{IsRefusal}
use Rattle.version_book.specs.Calls.{HasDrawn, IsFound}

-- no other works on the store, it has no plan, and the rows are those of caller 0
pub record IsSolo (p : Pass) : Type 0 where
  pub alone : p.view.about.alone ≡ true
  pub plan : p.view.about.plan ≡ None
  pub caller : p.caller ≡ 0

-- a name is drawn: the next one, and nothing else has changed
pub record HasTicket (p q : Pass) (name : ℕ) : Type 0 where
  pub next : name ≡ p.view.named + 1
  pub seen : q.view.seen ≡ p.view.seen
  pub about : q.view.about ≡ p.view.about
  pub caller : q.caller ≡ p.caller
  pub named : q.view.named ≡ name
  pub drawn : HasDrawn q name

-- the event starts from versions, whose rows have ended; a second version that it uses is one of a split
pub record UsesEnded (p : Pass) (e : Event) : Type 0 where
  pub based : uses_base e.op ≡ true
  pub low : list_all (λ n. ltb 0 (event_name n) && leb (event_name n) p.view.about.rows) (bases e) ≡ true
  pub ended : list_all (λ n. is_ended_at (row_at p.view.seen) (event_name n)) (bases e) ≡ true
  pub seconds : names_seconds_well (events_of (row_at p.view.seen)) e ≡ true

-- the versions that it uses, the base twice where it has no other
pub record AreBases (p : Pass) (e : Event) (base other : Version) : Type 0 where
  pub base_is : IsFound p.view.seen e.base base
  pub other_is : uses_other e.op ≡ true → IsFound p.view.seen e.other other
  pub alone : uses_other e.op ≡ false → other ≡ base

-- an event that may come next: the rows of its bases have ended, a second version that it uses is one of a split, and it is built
pub record ComesNext (p : Pass) (e : Event) : Type 0 where
  pub room : p.view.named < p.view.about.rows
  pub trim : is_trim e ≡ true
  pub smaller : has_smaller_bases (p.view.named + 1) e ≡ true
  pub argument : ltb e.arg (2 ^ 64) ≡ true
  pub ended : list_all (λ n. is_ended_at (row_at p.view.seen) (event_name n)) (bases e) ≡ true
  pub seconds : names_seconds_well (events_of (row_at p.view.seen)) e ≡ true
  pub kinds : is_of_its_kind (events_of (row_at p.view.seen)) e ≡ true
  pub built : is_some_and (λ k. is_built k e.op) (kind_made (kind_of (events_of (row_at p.view.seen))) (Some e)) ≡ true

-- the event was run under the next name, and its row has ended
pub record Ran (old new : Pass) (e : Event) : Type 0 where
  pub grows : Grows old.view.seen new.view.seen
  pub named : new.view.named ≡ old.view.named + 1
  pub about : new.view.about ≡ old.view.about
  pub caller : new.caller ≡ old.caller
  pub others : (i : ℕ) → i ≢ old.view.named + 1 → row_at new.view.seen i ≡ row_at old.view.seen i
  pub row : Row
  pub here : row_at new.view.seen (old.view.named + 1) ≡ Some row
  pub event : row.event ≡ e
  pub caller_is : row.caller ≡ old.caller
  pub ended : is_ended row.ending ≡ true
  pub numbers : (drawn wanted : ℕ) → row.ending ≡ full drawn wanted → IsRefusal new.view.seen old.view.about.capacity drawn wanted
  pub cause : HasCause new.view.seen (direct_at new.view.seen (old.view.named + 1)) row.ending

-- the event was run so, was charged so much, and the store is lawful yet
pub record RanFor (old new : Pass) (e : Event) (paid : ℕ) : Type 0 where
  pub ran : Ran old new e
  pub lawful : IsLawfulView new.view
  pub charged : paid ≡ due_at new.view.seen new.view.named
  pub small : paid < 2 ^ 34

-- ---- what holds after so many events

-- the row of a name after its event was run
pub record IsRun (nodes : ℕ) (w : World) (events : List Event) (j : ℕ) (r : Row) : Type 0 where
  pub event : event_of events j ≡ Some r.event
  pub caller : r.caller ≡ 0
  pub ended : is_ended r.ending ≡ true
  pub numbers : (drawn wanted : ℕ) → r.ending ≡ full drawn wanted → IsRefusal w nodes drawn wanted
  pub cause : HasCause w (direct_at w j) r.ending

-- the rows of the first names
abbrev pub RowsAreRun : ℕ → World → List Event → ℕ → Type 0
RowsAreRun nodes w events i = (j : ℕ) → 1 ≤ j → j ≤ i → (r : Row) × (row_at w j ≡ Some r) × IsRun nodes w events j r

-- so many events were run in order, on a store of so many places that no other works on
pub record AreRun (nodes : ℕ) (events : List Event) (i : ℕ) (p : Pass) : Type 0 where
  pub solo : IsSolo p
  pub lawful : IsLawfulView p.view
  pub named : p.view.named ≡ i
  pub capacity : p.view.about.capacity ≡ nodes
  pub rows : p.view.about.rows ≡ length events
  pub rows_are : RowsAreRun nodes p.view.seen events i

-- the dues of the first rows
abbrev pub dues_to : World → ℕ → ℕ
dues_to w k = sum_rows (λ i words. of_row due w (row_of i words)) 1 (take k w.rows)
