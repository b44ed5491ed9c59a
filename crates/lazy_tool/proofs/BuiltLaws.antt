-- Scripts whose events are built.
use Rattle.std.proofs.Common.{◌≡◌, ℕ, zero, suc, ◌+◌, ◌<◌, ◌≤◌, Bool, true, false, not, ◌||◌, Option, Some, None, List, length, slice_get, get_or, refl, sym, ◌∙◌, ap, subst, arith, ⊎_elim}
use Rattle.std.proofs.lemmas.Bool.{cases_lt}
use Rattle.std.proofs.lemmas.Option.{slice_get_past, slice_get-get_or}
use Rattle.lazy_rec.specs.declared.events.Kind.{Kind}
use Rattle.lazy_rec.specs.declared.events.Kind.TheVariants as kinds
use Rattle.lazy_rec.specs.declared.events.Op.{Op}
use Rattle.lazy_rec.specs.declared.events.Op.TheVariants as ops
use Rattle.lazy_rec.specs.declared.events.Event.{Event}
use Rattle.lazy_rec.specs.Tests.{is_some_and}
use Rattle.lazy_rec.specs.Kinds.{belongs, uses_base}
use Rattle.lazy_rec.specs.History.{event_of, event_name, kind_of, IsScript}
use Rattle.lazy_rec.proofs.HistoryLaws.{StandsAt, stands, kind_is, kind-if_base, kind-has_op}
use Rattle.script_text.specs.Text.{AreKindsOf}
use Rattle.kind_table.specs.Kinds.{is_built, is_built_at, AreBuilt}
use Rattle.lazy_tool.specs.Scripts.{AreBuiltBefore}

-- no event has the name 0
pub none_before : (events : List Event) → AreBuiltBefore events 1
none_before events zero e l h = cc
none_before events (suc i) e l h = absurd (omega arith)

same_event : (events : List Event) (i : ℕ) (e f : Event) → event_of events i ≡ Some e → event_of events i ≡ Some f → e ≡ f
same_event events i e f h k = cc

-- the event of a name is built or not as its operation is for the kind of the name
pub built_is : (events : List Event) (name : ℕ) (kind : Kind) (e : Event) → Some kind ≡ kind_of (event_of events) name → is_built_at events name e ≡ is_built kind e.op
built_is events name kind e h = ap (λ o. is_some_and (λ k. is_built k e.op) o) (sym h)

or_true : (b : Bool) → (b || true) ≡ true
or_true true = refl
or_true false = refl

-- an event of a script is of the kind that its name stands for, so that the kind tells whether it is built
pub of_its_kind : (events : List Event) (i : ℕ) (e : Event) (k : Kind) → IsScript events → event_of events i ≡ Some e → Some k ≡ kind_of (event_of events) i → (belongs k e.op || not (uses_base e.op)) ≡ true
of_its_kind events i e k script here is = by (uses_base e.op) refl
  where
    at : StandsAt (event_of events) i e
    at = stands (event_of events) i e (script.each i e here)

    by : (b : Bool) → uses_base e.op ≡ b → (belongs k e.op || not b) ≡ true
    by false h = or_true (belongs k e.op)
    by true h =
        let base : kind_of (event_of events) (event_name e.base) ≡ Some k = sym (is ∙ kind_is (event_of events) i e here at.smaller ∙ kind-if_base e.op (kind_of (event_of events) (event_name e.base)) h) in
        rw (kind-has_op (event_of events) e k at.kinds h base) refl

pub one_more : (events : List Event) (i : ℕ) (e : Event) → AreBuiltBefore events (i + 1) → event_of events (i + 1) ≡ Some e → is_built_at events (i + 1) e ≡ true → AreBuiltBefore events (i + 1 + 1)
one_more events i e before here built j f l there =
    ⊎_elim (λ low. before j f low there)
    (λ high. let j_is : j ≡ i + 1 = omega (arith, l, high) in
    let there' : event_of events (i + 1) ≡ Some f = subst (λ k. event_of events k ≡ Some f) j_is there in
    let e_is : e ≡ f = same_event events (i + 1) e f here there' in
    subst (λ k. is_built_at events k f ≡ true) (sym j_is) (subst (λ x. is_built_at events (i + 1) x ≡ true) e_is built))
    (cases_lt j (i + 1))

past_none : (events : List Event) (i : ℕ) (e : Event) → length events < i → event_of events i ≡ Some e → ⊥
past_none events zero e l h = omega (arith, l)
past_none events (suc i) e l h = let none : slice_get events i ≡ None = slice_get_past events i (omega (arith, l)) in cc

pub all_built : (events : List Event) (n : ℕ) → length events ≤ n → AreBuiltBefore events (n + 1) → AreBuilt events
all_built events n l before i e here =
    ⊎_elim (λ low. before i e low here) (λ high. absurd (past_none events i e (omega (arith, high, l)) here)) (cases_lt i (n + 1))

-- the event at a place of the list has the next name
pub event_here : (events list : List Event) (i : ℕ) (d : Event) → list ≡ events → i < length list → event_of events (i + 1) ≡ Some (get_or list i d)
event_here events list i d same l =
    let e : i + 1 ≡ suc i = omega arith in
    rw (e, ← same) (slice_get-get_or list i d l)

-- what stands past the end of a list of events
abbrev pub no_event : Event
no_event = record { op = ops.New kinds.Stream; base = 0; other = 0; arg = 0 }

-- whether the event at a place is built, by its kind and its operation, which the kind has
pub built_here : (events list : List Event) (ks : List Kind) (i : ℕ) (b : Bool) → IsScript events → AreKindsOf events ks → list ≡ events → i < length ks → ((belongs (get_or ks i kinds.Stream) (get_or list i no_event).op || not (uses_base (get_or list i no_event).op)) ≡ true → is_built (get_or ks i kinds.Stream) (get_or list i no_event).op ≡ b) → (event_of events (i + 1) ≡ Some (get_or list i no_event)) × (is_built_at events (i + 1) (get_or list i no_event) ≡ b)
built_here events list ks i b script are same l told =
    let k : Kind = get_or ks i kinds.Stream in
    let e : Event = get_or list i no_event in
    let below : i < length events = omega (arith, are.many, l) in
    let here : event_of events (i + 1) ≡ Some e = event_here events list i no_event same (omega (arith, below, ap length same)) in
    let next : suc i ≡ i + 1 = omega arith in
    let of_kind : Some k ≡ kind_of (event_of events) (i + 1) = sym (slice_get-get_or ks i kinds.Stream l) ∙ (are.each i below ∙ ap (kind_of (event_of events)) next) in
    (here, built_is events (i + 1) k e of_kind ∙ told (of_its_kind events (i + 1) e k script here of_kind))
