-- A list of events is a script where each event passes the test of a script's events; tests compute it.
use Rattle.std.proofs.Common.{◌≡◌, ℕ, zero, suc, ◌+◌, leb, Bool, true, ◌&&◌, List, [], ◌∷◌, length, Some, subst, arith}
use Rattle.std.specs.Prelude.{slice_get}
use Rattle.std.proofs.lemmas.Bool.{and_parts, leb-true}
use Rattle.lazy_rec.specs.declared.events.Event.{Event}
use Rattle.lazy_rec.specs.declared.limits.TheConstants.{MOST_EVENTS}
use Rattle.lazy_rec.specs.History.{Events, event_of, is_event_at, IsScript}

-- each event of the rest of a list, which begins at a name, may stand where it stands
abbrev pub may_stand : Events → ℕ → List Event → Bool
may_stand events i [] = true
may_stand events i (e ∷ rest) = is_event_at events i e && may_stand events (suc i) rest

abbrev pub is_script : List Event → Bool
is_script events = leb (length events) MOST_EVENTS && may_stand (event_of events) 1 events

each_stands : (events : Events) (i : ℕ) (rest : List Event) → may_stand events i rest ≡ true → (k n : ℕ) (e : Event) → n ≡ i + k → slice_get rest k ≡ Some e → is_event_at events n e ≡ true
each_stands events i [] h k n e m g = absurd (cc)
each_stands events i (x ∷ rest) h zero n e m g =
    let p = and_parts (is_event_at events i x) (may_stand events (suc i) rest) h in
    let same : x ≡ e = cc in
    let here : n ≡ i = omega arith in
    rw here (subst (λ (y : Event). is_event_at events i y ≡ true) same p.0)
each_stands events i (x ∷ rest) h (suc k) n e m g =
    each_stands events (suc i) rest (and_parts (is_event_at events i x) (may_stand events (suc i) rest) h).1 k n e (omega arith) g

stands_at : (events : List Event) → may_stand (event_of events) 1 events ≡ true → (i : ℕ) (e : Event) → event_of events i ≡ Some e → is_event_at (event_of events) i e ≡ true
stands_at events h zero e g = absurd (cc)
stands_at events h (suc i) e g = each_stands (event_of events) 1 events h i (suc i) e (omega arith) g

pub IsScript-from_test : (events : List Event) → is_script events ≡ true → IsScript events
IsScript-from_test events h =
    let p = and_parts (leb (length events) MOST_EVENTS) (may_stand (event_of events) 1 events) h in
    record { few = leb-true (length events) MOST_EVENTS p.0; each = stands_at events p.1 }
