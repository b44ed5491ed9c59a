-- How worlds grow: records, Done states, begun events and ended rows stay, and no count of attempts given back falls.
use Rattle.std.specs.Prelude.{◌≡◌, ℕ, ◌≤◌, true, cond, Option, Some, None, is_some, option_and_then}
use Rattle.lazy_rec.specs.declared.states.SuspState.{SuspState}
use Rattle.lazy_rec.specs.declared.events.Event.{Event}
use Rattle.lazy_rec.specs.States.{kept, given_up}
use Rattle.heap_store.specs.World.{World, Keeps, recs, state_at}
use Rattle.heap_store.specs.Rows.{Row, row_at, is_ended}

-- the caller and the event of a row that is begun
abbrev pub begun_of : Row → Option (ℕ × Event)
begun_of r = cond r.begun (Some (r.caller, r.event)) None

-- the second world has what the first one had
pub record Grows (a b : World) : Type 0 where
  pub records : Keeps (recs a) (recs b)
  pub done : (p : ℕ) (s : SuspState) → state_at a p ≡ Some s → is_some (kept s) ≡ true → state_at b p ≡ Some s
  pub given_up : (p : ℕ) (s t : SuspState) → state_at a p ≡ Some s → state_at b p ≡ Some t → given_up s ≤ given_up t
  pub begun : (i : ℕ) (e : ℕ × Event) → option_and_then begun_of (row_at a i) ≡ Some e → option_and_then begun_of (row_at b i) ≡ Some e
  pub ended : (i : ℕ) (r : Row) → row_at a i ≡ Some r → is_ended r.ending ≡ true → row_at b i ≡ Some r
