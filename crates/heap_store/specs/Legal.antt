-- When the rows of a world make a legal history: the answered rows, in order of name, are what the operations do on plain
-- lists, and every other row says why it has no reply.
use Rattle.std.specs.Prelude.{◌≡◌, ℕ, ◌^◌, eqb, ltb, leb, Bool, true, cond, not, ◌&&◌, ◌||◌, Option, Some, List, length, is_some}
use Rattle.std.specs.List.{list_any, list_all}
use Rattle.lazy_rec.specs.declared.events.Kind.{Kind}
use Rattle.lazy_rec.specs.declared.events.Kind.TheVariants as kinds
use Rattle.lazy_rec.specs.declared.events.Event.{Event}
use Rattle.lazy_rec.specs.declared.events.Reply.{Reply}
use Rattle.lazy_rec.specs.declared.events.Reply.TheVariants.{Number}
use Rattle.lazy_rec.specs.declared.limits.TheConstants.{MOST_CALLERS, MOST_DRAWN}
use Rattle.lazy_rec.specs.Tests.{is_some_and}
use Rattle.lazy_rec.specs.Kinds.{bases, same_kind, is_trim, is_split}
use Rattle.lazy_rec.specs.Plain.{rising}
use Rattle.lazy_rec.specs.History.{event_name, plain, reply_to, kind_of, has_smaller_bases, is_of_its_kind, event_of}
use Rattle.lazy_rec.specs.Meaning.{means}
use Rattle.heap_store.specs.declared.versions.Version.{Version}
use Rattle.lazy_rec.specs.Named.{Records, is_pending}
use Rattle.heap_store.specs.World.{World, recs, holds}
use Rattle.heap_store.specs.Rows.{Row, NamedRows, Ending, answered, full, first_of, second_of, reply_of, is_ended, is_without_base, row_at, version_at, is_answered, is_given_up, events_of}

-- a test of each row and its name
abbrev pub EachRow : NamedRows → (ℕ → Row → Bool) → Type 0
EachRow rows test = (i : ℕ) (r : Row) → rows i ≡ Some r → test i r ≡ true

-- a test of each version and its number
abbrev pub EachVersion : NamedRows → (ℕ → Version → Bool) → Type 0
EachVersion rows test = (n : ℕ) (v : Version) → version_at rows n ≡ Some v → test n v ≡ true

-- a row that ended without a base was never begun, and the row of one of its bases is given up. Any other row that is begun or
-- ended was begun, and the versions that it uses are there
abbrev pub is_begun_well : NamedRows → Row → Bool
is_begun_well rows r = cond (is_without_base r.ending)
    (not r.begun && list_any (is_given_up rows) (bases r.event))
    (cond (is_ended r.ending || r.begun) (r.begun && list_all (is_answered rows) (bases r.event)) true)

-- the list that the meanings of places make: a priority queue's is put in rising order
abbrev pub in_order : Kind → List ℕ → List ℕ
in_order kinds.Prio xs = rising xs
in_order _ xs = xs

-- a version has its row's kind, the length of its plain list, and a value as its root
abbrev pub is_version_well : Records → NamedRows → ℕ → Version → Bool
is_version_well rs rows n v = is_some_and (same_kind v.kind) (kind_of (events_of rows) (event_name n)) && eqb v.size (length (plain (events_of rows) n)) && ltb v.size 2147483648 && holds rs v.root.0 (λ r. not (is_pending r))

abbrev pub reply_in_range : Reply → Bool
reply_in_range (Number n) = ltb n (2 ^ 64)
reply_in_range _ = true

-- a full row has numbers that a store can show, and an answered one a reply of 64 bits
abbrev pub ending_in_range : Ending → Bool
ending_in_range (full drawn wanted) = leb drawn MOST_DRAWN && ltb 0 wanted
ending_in_range (answered told _ _) = reply_in_range told
ending_in_range _ = true

-- a caller's number is one of the few that word 0 has room for, and an argument has 64 bits
abbrev pub row_in_range : Row → Bool
row_in_range r = ltb r.caller MOST_CALLERS && ltb r.event.arg (2 ^ 64) && ending_in_range r.ending

-- the rows are a legal history over these records
pub record IsHistory (rs : Records) (rows : NamedRows) : Type 0 where
  pub ranges : EachRow rows (λ _ r. row_in_range r)
  pub trim : EachRow rows (λ _ r. is_trim r.event)
  pub bases : EachRow rows (λ i r. has_smaller_bases i r.event)
  pub begun : EachRow rows (λ _. is_begun_well rows)
  pub kinds : EachRow rows (λ _ r. not r.begun || is_of_its_kind (events_of rows) r.event)
  -- an answered row has a second version exactly where its operation is split
  pub seconds : (i : ℕ) (r : Row) → rows i ≡ Some r → is_some (second_of r.ending) ≡ is_some (first_of r.ending) && is_split r.event.op
  pub versions : EachVersion rows (is_version_well rs rows)
  pub replies : (i : ℕ) (r : Row) → rows i ≡ Some r → (told : Reply) → reply_of r.ending ≡ Some told → told ≡ reply_to (events_of rows) r.event
  pub meanings : (n : ℕ) (v : Version) → version_at rows n ≡ Some v → in_order v.kind (means rs v.root.0) ≡ plain (events_of rows) n

abbrev pub IsLegal : World → Type 0
IsLegal w = IsHistory (recs w) (row_at w)

-- where there is a plan, each row whose word 0 is stored has the plan's event
abbrev pub FollowsPlan : Option (List Event) → NamedRows → Type 0
FollowsPlan plan rows = (events : List Event) → plan ≡ Some events → (i : ℕ) (r : Row) → rows i ≡ Some r → event_of events i ≡ Some r.event
