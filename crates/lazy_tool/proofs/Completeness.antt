-- In a store with the script's room a row that is given up leads to one that says memory.
use Rattle.std.proofs.Common.{◌≡◌, ℕ, zero, suc, ◌<◌, ◌≤◌, ltb, Bool, true, false, not, ◌||◌, ◌&&◌, ◌⊎◌, cond, Option, Some, None, List, [], ◌∷◌, length, refl, sym, ap, ◌∙◌, subst, arith, ⊎_elim, inl, inr}
use Rattle.std.specs.List.{list_any, list_all}
use Rattle.std.proofs.lemmas.Bool.{true≢false, and_parts, ltb-true}
use Rattle.lazy_rec.specs.declared.events.Event.{Event}
use Rattle.lazy_rec.specs.Tests.{is_some_and}
use Rattle.lazy_rec.specs.Kinds.{bases}
use Rattle.lazy_rec.specs.History.{event_name, is_smaller, has_smaller_bases}
use Rattle.dues.specs.Rooms.{room}
use Rattle.heap_store.specs.World.{World}
use Rattle.heap_store.specs.Rows.{Row, Ending, not_ended, answered, full, memory, no_base, is_full, is_refused, is_given_up, is_ended, is_answered, is_without_base, NamedRows, row_at}
use Rattle.heap_store.specs.Legal.{IsLegal, is_begun_well}
use Rattle.report_text.specs.Report.{is_lost, some_given_up}
use Rattle.lazy_tool.specs.declared.faults.Why.{Why}
use Rattle.lazy_tool.specs.declared.faults.Why.TheVariants as why
use Rattle.lazy_tool.specs.Scripts.{Tells}
use Rattle.lazy_tool.specs.Outcome.{Ends, AnswersPlain, IsComplete, IsServed, IsShortOfMemory, NoFaults, is_refusal, nodes_for, has_given_up, status_of}
use Rattle.lazy_tool.proofs.Readings.{AreReadOnce, not_refused, read_events}

or_cases : (a b : Bool) → (a || b) ≡ true → (a ≡ true) ⊎ (b ≡ true)
or_cases true b h = inl refl
or_cases false b h = inr h

some_of : {X : Type 0} (f g : X → Bool) (xs : List X) → list_any f xs ≡ true → list_all g xs ≡ true → (x : X) × (f x ≡ true) × (g x ≡ true)
some_of f g [] h k = absurd (true≢false (sym h))
some_of f g (x ∷ xs) h k =
    let parts = and_parts (g x) (list_all g xs) k in
    ⊎_elim (λ e. (x, e, parts.0)) (λ e. some_of f g xs e parts.1) (or_cases (f x) (list_any f xs) h)

-- a row without a base has one of a smaller name that is given up
lost_base : (w : World) (i : ℕ) (r : Row) → r.ending ≡ no_base → is_begun_well (row_at w) r ≡ true → has_smaller_bases i r.event ≡ true → (b : ℕ) × (b < i) × (is_lost w b ≡ true)
lost_base w i r h begun smaller =
    let rows : NamedRows = row_at w in
    let well : (not r.begun && list_any (is_given_up rows) (bases r.event)) ≡ true =
    subst (λ t. cond (is_without_base t) (not r.begun && list_any (is_given_up rows) (bases r.event)) (cond (is_ended t || r.begun) (r.begun && list_all (is_answered rows) (bases r.event)) true) ≡ true) h begun in
    let base = some_of (is_given_up rows) (is_smaller i) (bases r.event) (and_parts (not r.begun) (list_any (is_given_up rows) (bases r.event)) well).1 smaller in
    (event_name base.0, ltb-true (event_name base.0) i (and_parts (ltb 0 (event_name base.0)) (ltb (event_name base.0) i) base.2).1, base.1)

lost_row : (w : World) (i : ℕ) → is_lost w i ≡ true → (r : Row) × (row_at w i ≡ Some r) × (is_refused r.ending ≡ true)
lost_row w i h = by (row_at w i) refl h
  where
    by : (o : Option Row) → row_at w i ≡ o → is_some_and (λ (r : Row). is_refused r.ending) o ≡ true → (r : Row) × (row_at w i ≡ Some r) × (is_refused r.ending ≡ true)
    by None e k = absurd (true≢false (sym k))
    by (Some r) e k = (r, e, k)

-- rows of a legal history of which none is full
record NoneFull (w : World) : Type 0 where
  pub legal : IsLegal w
  pub never_full : (i : ℕ) (r : Row) → row_at w i ≡ Some r → is_full r.ending ≡ false

-- what a row that is given up leads to: it says memory itself, or one of its bases is given up
refused_row : (w : World) → NoneFull w → (i : ℕ) (r : Row) → row_at w i ≡ Some r → (t : Ending) → r.ending ≡ t → is_refused t ≡ true → IsShortOfMemory w ⊎ ((b : ℕ) × (b < i) × (is_lost w b ≡ true))
refused_row w rows i r here not_ended e k = absurd (true≢false (sym k))
refused_row w rows i r here (answered reply v second) e k = absurd (true≢false (sym k))
refused_row w rows i r here (full drawn wanted) e k = absurd (true≢false (sym (ap is_full e) ∙ rows.never_full i r here))
refused_row w rows i r here memory e k = inl (record { name = i; row = r; here = here; says = e; never_full = rows.never_full })
refused_row w rows i r here no_base e k = inr (lost_base w i r e (rows.legal.begun i r here) (rows.legal.bases i r here))

short : (w : World) → NoneFull w → (n i : ℕ) → i < n → is_lost w i ≡ true → IsShortOfMemory w
short w rows zero i l h = absurd (omega (arith, l))
short w rows (suc n) i l h =
    let r = lost_row w i h in
    ⊎_elim (λ s. s) (λ base. short w rows n base.0 (omega (arith, base.1, l)) base.2) (refused_row w rows i r.0 r.1 r.0.ending refl r.2)

one_of : (w : World) (n : ℕ) → some_given_up w n ≡ true → (i : ℕ) × (is_lost w i ≡ true)
one_of w zero h = absurd (true≢false (sym h))
one_of w (suc n) h = ⊎_elim (λ e. one_of w n e) (λ e. (suc n, e)) (or_cases (some_given_up w n) (is_lost w (suc n)) h)

-- ---- answers

book_complete : (book : World) → NoneFull book → (status : ℕ) (b : Bool) → some_given_up book (length book.rows) ≡ b → status ≡ cond b 1 0 → IsComplete status (Some book)
book_complete book rows status false e s = inl s
book_complete book rows status true e s = let one = one_of book (length book.rows) e in inr (s, short book rows (suc one.0) one.0 (omega arith) one.1)

served_complete : AreReadOnce → (nodes : Option ℕ) (old new : Ends) (closed : Option World) (status : ℕ) (events : List Event) → Tells old.left events → room events ≤ nodes_for nodes events → IsServed nodes old new closed → status ≡ cond (has_given_up closed) 1 0 → IsComplete status closed
served_complete once nodes old new closed status events t enough s is =
    let same = read_events once old.left new.left events s.run.events t s.run.read in
    let enough' : room s.run.events ≤ nodes_for nodes s.run.events = subst (λ es. room es ≤ nodes_for nodes es) (sym same) enough in
    subst (IsComplete status) (sym s.closed_is)
    (book_complete s.book (record { legal = s.run.run.closed.legal; never_full = s.run.run.bounded.never_full enough' }) status _ refl
    (is ∙ ap (λ o. cond (has_given_up o) 1 0) s.closed_is))

refused : (w : Why) (status : ℕ) (closed : Option World) → is_refusal w ≡ false → is_refusal w ≡ true → IsComplete status closed
refused w status closed h k = absurd (true≢false (sym k ∙ h))

pub complete : AreReadOnce → (nodes : Option ℕ) (old new : Ends) (w : Why) (closed : Option World) (status : ℕ) (events : List Event) → AnswersPlain nodes old new w closed → status ≡ status_of w closed → Tells old.left events → room events ≤ nodes_for nodes events → NoFaults old new → IsComplete status closed
complete once nodes old new why.Nothing closed status events a is t enough calm = served_complete once nodes old new closed status events t enough a is
complete once nodes old new why.Usage closed status events a is t enough calm = absurd a
complete once nodes old new (why.Script line reason) closed status events a is t enough calm = refused (why.Script line reason) status closed (not_refused once nodes old new (why.Script line reason) closed events t a) refl
complete once nodes old new why.TooLarge closed status events a is t enough calm = refused why.TooLarge status closed (not_refused once nodes old new why.TooLarge closed events t a) refl
complete once nodes old new (why.NotBuilt name) closed status events a is t enough calm = refused (why.NotBuilt name) status closed (not_refused once nodes old new (why.NotBuilt name) closed events t a) refl
complete once nodes old new why.Read closed status events a is t enough calm = absurd (calm.reads a.0)
complete once nodes old new why.Write closed status events a is t enough calm = absurd (calm.writes a.fault)
complete once nodes old new why.Memory closed status events a is t enough calm = subst (IsComplete status) (sym a.no_book) is
