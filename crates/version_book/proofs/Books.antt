-- Events that are run in order: what holds after so many of them, and the book in the end.
use mathlib.Core.Path.{fun_ext}
use Rattle.std.proofs.Common.{◌≡◌, ℕ, zero, suc, ◌+◌, ◌^◌, ◌<◌, ◌≤◌, Bool, true, false, ◌&&◌, Option, Some, None, List, [], length, refl, sym, ap, ◌∙◌, arith, subst, ⊎_elim}
use Rattle.std.specs.Prelude.{option_map}
use Rattle.std.proofs.lemmas.List.{get_or_past}
use Rattle.std.proofs.lemmas.Option.{slice_get_past}
use Rattle.std.proofs.lemmas.Bool.{true≢false, cases_eq, cases_lt, lt-ltb}
use Rattle.lazy_rec.specs.declared.events.Kind.{Kind}
use Rattle.lazy_rec.specs.declared.events.Event.{Event}
use Rattle.lazy_rec.specs.Tests.{is_some_and, implies}
use Rattle.lazy_rec.specs.Kinds.{bases, belongs, same_kind, is_split}
use Rattle.lazy_rec.specs.History.{is_second, event_name, event_of, kind_of, new_kind, is_smaller, has_smaller_bases, IsScript}
use Rattle.dues.specs.Rooms.{room}
use Rattle.heap_store.specs.declared.plain.PlainHeap.{PlainHeap}
use Rattle.heap_store.specs.Rows.{Row, Ending, full, is_full, row_of, row_at, is_ended_at, events_of}
use Rattle.heap_store.specs.View.{View, About, IsLawfulView, published_count}
use Rattle.heap_store.specs.Plain.{no_words}
use Rattle.heap_store.specs.Opened.{view_of, opened_view}
use Rattle.std.specs.Prelude.{option_and_then}
use Rattle.heap_store.specs.World.{World, is_claimed_at, fixed_places}
use Rattle.heap_store.specs.Growth.{Grows, begun_of}
use Rattle.heap_store.specs.Lawful.{IsLawful}
use Rattle.heap_store.specs.LookedAt.{HasRoots}
use Rattle.heap_store.specs.Legal.{IsLegal}
use Rattle.heap_store.specs.Budget.{direct_at, dues, room_of}
use Rattle.heap_store.specs.Causes.{HasCause}
use Rattle.heap_store.proofs.CauseLaws.{cause_kept, total_nodes_grows}
use Rattle.heap_store.proofs.RowBudget.{room_rises}
use Rattle.heap_store.proofs.RoomLaws.{quiet_all, closed_steps, closed_places}
use Rattle.heap_store.proofs.PlainLists.{length-filled}
use Rattle.lazy_rec.proofs.HistoryLaws.{smaller-lt, smaller-pos, base-low, stands, kind_is, kind_of_agree}
use Rattle.heap_store.proofs.ShowLaws.{one_value}
use Rattle.kind_table.specs.Kinds.{is_built, AreBuilt}
use Rattle.version_book.specs.Closed.{IsBook, IsBounded, IsClosed, IsPaid, IsRefusal, IsWhole}
use Rattle.version_book.specs.Pass.{Pass}
use Rattle.version_book.proofs.Rooms.{room_fits}
use Rattle.version_book.proofs.InOrder.{all_up}
use Rattle.version_book.proofs.Charges.{all_dues}
use Rattle.version_book.specs.RowSteps.{IsCaller}
use Rattle.version_book.specs.Calls.{IsIdle}
use Rattle.version_book.specs.Solo.{IsSolo, ComesNext, Ran, IsRun, RowsAreRun, AreRun, dues_to}

-- ---- what holds after so many events

-- the numbers of a full row stay right as the world grows
numbers_grow : {a b : World} → IsLegal a → IsLegal b → Grows a b → {capacity drawn wanted : ℕ} → IsRefusal a capacity drawn wanted → IsRefusal b capacity drawn wanted
numbers_grow {a} {b} legal legal' g n = record {
  no_room = n.no_room;
  there = omega (arith, n.there, total_nodes_grows g);
  within = omega (arith, n.within, room_rises a b legal legal' g.ended g.begun);
}

-- it stays so as the world grows
pub run_grows : {a b : World} {nodes : ℕ} {events : List Event} {j : ℕ} {r : Row} → IsLegal a → IsLegal b → Grows a b → row_at a j ≡ Some r → row_at b j ≡ Some r → IsRun nodes a events j r → IsRun nodes b events j r
run_grows {a} {b} {nodes} {events} {j} {r} legal legal' g was now h = record {
  event = h.event;
  caller = h.caller;
  ended = h.ended;
  numbers = λ d k f. numbers_grow legal legal' g (h.numbers d k f);
  cause = cause_kept legal legal' g j (ap (option_and_then begun_of) (was ∙ sym now)) r.ending h.cause;
}

-- an ended row stays, so all rows do
pub rows_grow : {a b : World} {nodes i : ℕ} {events : List Event} → IsLegal a → IsLegal b → Grows a b → RowsAreRun nodes a events i → RowsAreRun nodes b events i
rows_grow legal legal' g rows j low high =
    let t = rows j low high in
    let now = g.ended j t.0 t.1 t.2.ended in
    (t.0, now, run_grows legal legal' g t.1 now t.2)

pub none-run : (events : List Event) (p : Pass) → IsSolo p → IsLawfulView p.view → p.view.named ≡ 0 → p.view.about.rows ≡ length events → AreRun p.view.about.capacity events 0 p
none-run events p solo law fresh rows = record {
  solo = solo;
  lawful = law;
  named = fresh;
  capacity = refl;
  rows = rows;
  rows_are = λ j low high. absurd (omega (arith, low, high));
}

-- ---- what an event says of smaller names, by the events or by the rows

abbrev kind_test : Event → Option Kind → Option Kind → Bool
kind_test e z o = is_some_and (λ k. belongs k e.op && is_some_and (same_kind k) z) o

abbrev named_test : ℕ → Option Event → Bool
named_test v o = implies (is_second v) (is_some_and (λ (e : Event). is_split e.op) o)

module _ (nodes : ℕ) (events : List Event) (script : IsScript events) (built : AreBuilt events) (i : ℕ) (p : Pass) (h : AreRun nodes events i p) where
  events_same : (k : ℕ) → k ≤ i → event_of events k ≡ events_of (row_at p.view.seen) k
  events_same zero l = refl
  events_same (suc k) l =
      let t = h.rows_are (suc k) (omega arith) l in
      t.2.event ∙ sym (ap (option_map (λ (r : Row). r.event)) t.1)

  kinds_same : (k : ℕ) → k ≤ i → kind_of (event_of events) k ≡ kind_of (events_of (row_at p.view.seen)) k
  kinds_same k l = kind_of_agree (event_of events) (events_of (row_at p.view.seen)) k (λ n m. events_same n (omega (arith, m, l)))

  low : (u : ℕ) → is_smaller (suc i) u ≡ true → event_name u ≤ i
  low u b = let l = smaller-lt (suc i) u b in omega (arith, l)

  ended_there : (u : ℕ) → is_smaller (suc i) u ≡ true → is_ended_at (row_at p.view.seen) (event_name u) ≡ true
  ended_there u b =
      let t = h.rows_are (event_name u) (let q = smaller-pos (suc i) u b in omega (arith, q)) (low u b) in
      rw t.1 t.2.ended

  pub comes-next : (e : Event) → event_of events (suc i) ≡ Some e → i < length events → ComesNext p e
  comes-next e here more =
      let t = stands (event_of events) (suc i) e (script.each (suc i) e here) in
      let base = base-low (suc i) e (omega arith) t.trim t.smaller in
      let name : suc i ≡ p.view.named + 1 = omega (arith, h.named) in
      let kind = kinds_same (event_name e.base) (omega (arith, base)) in
      record {
        room = omega (arith, h.named, h.rows, more);
        trim = t.trim;
        smaller = subst (λ z. has_smaller_bases z e ≡ true) name t.smaller;
        argument = lt-ltb e.arg (2 ^ 64) t.argument;
        ended = all_up (is_smaller (suc i)) (is_smaller (suc i)) (λ u. is_ended_at (row_at p.view.seen) (event_name u)) (bases e) (λ u b _. ended_there u b) t.smaller t.smaller;
        seconds = all_up (is_smaller (suc i)) (λ u. named_test u (event_of events (event_name u))) (λ u. named_test u (events_of (row_at p.view.seen) (event_name u))) (bases e)
            (λ u b k. subst (λ o. named_test u o ≡ true) (events_same (event_name u) (low u b)) k) t.smaller t.seconds;
        kinds = all_up (is_smaller (suc i)) (λ u. kind_test e (kind_of (event_of events) (event_name e.base)) (kind_of (event_of events) (event_name u))) (λ u. kind_test e (kind_of (events_of (row_at p.view.seen)) (event_name e.base)) (kind_of (events_of (row_at p.view.seen)) (event_name u))) (bases e)
            (λ u b k. subst (λ z. kind_test e z (kind_of (events_of (row_at p.view.seen)) (event_name u)) ≡ true) kind (subst (λ z. kind_test e (kind_of (event_of events) (event_name e.base)) z ≡ true) (kinds_same (event_name u) (low u b)) k))
            t.smaller t.kinds;
        built = subst (λ o. is_some_and (λ k. is_built k e.op) o ≡ true) (kind_is (event_of events) (suc i) e here t.smaller ∙ ap (new_kind e.op) kind) (built (suc i) e here);
      }

  pub one-more : (q : Pass) → IsLawfulView q.view → (e : Event) (n : ℕ) → n ≡ suc i → event_of events (suc i) ≡ Some e → Ran p q e → AreRun nodes events n q
  one-more q law' e n n_is here ran = record {
    solo = record { alone = rw ran.about h.solo.alone; plan = rw ran.about h.solo.plan; caller = ran.caller ∙ h.solo.caller };
    lawful = law';
    named = omega (arith, ran.named, h.named, n_is);
    capacity = ap (λ (a : About). a.capacity) ran.about ∙ h.capacity;
    rows = ap (λ (a : About). a.rows) ran.about ∙ h.rows;
    rows_are = λ j low high. ⊎_elim (new j) (old j low high) (cases_eq j (p.view.named + 1));
  }
    where
      within : (j n i : ℕ) → j ≤ n → n ≡ suc i → (j ≡ suc i → ⊥) → j ≤ i
      within j n i high a ne = grind arith

      before : (j n i m : ℕ) → (j ≡ m + 1 → ⊥) → j ≤ n → n ≡ suc i → m ≡ i → j ≤ i
      before j n i m ne high a b = ⊎_elim (λ (eq : j ≡ suc i). absurd (ne (omega (arith, eq, b)))) (λ ne2. within j n i high a ne2) (cases_eq j (suc i))

      new : (j : ℕ) → j ≡ p.view.named + 1 → (r : Row) × (row_at q.view.seen j ≡ Some r) × IsRun nodes q.view.seen events j r
      new j eq =
          let name : j ≡ suc i = omega (arith, eq, h.named) in (
            ran.row,
            ap (row_at q.view.seen) eq ∙ ran.here,
            record {
              event = ap (event_of events) name ∙ here ∙ ap (λ (x : Event). Some x) (sym ran.event);
              caller = ran.caller_is ∙ h.solo.caller;
              ended = ran.ended;
              numbers = λ d k f. subst (λ z. IsRefusal q.view.seen z d k) h.capacity (ran.numbers d k f);
              cause = subst (λ z. HasCause q.view.seen (direct_at q.view.seen z) ran.row.ending) (sym eq) ran.cause;
            },
          )

      old : (j : ℕ) → 1 ≤ j → j ≤ n → (j ≡ p.view.named + 1 → ⊥) → (r : Row) × (row_at q.view.seen j ≡ Some r) × IsRun nodes q.view.seen events j r
      old j low high ne =
          let t = h.rows_are j low (before j n i p.view.named ne high n_is h.named) in
          (t.0, ran.others j ne ∙ t.1, run_grows h.lawful.legal law'.legal ran.grows t.1 (ran.others j ne ∙ t.1) t.2)

-- ---- the book in the end

rows_length : (h : PlainHeap) → length (view_of h).seen.rows ≡ (view_of h).about.rows
rows_length h = length-filled no_words h.row_capacity h.rows.items h.plain.rows_fit

-- a world in which nobody works, whose rows are those of the events
module _ (nodes : ℕ) (events : List Event) (w : World) (rows : RowsAreRun nodes w events (length events)) (all : length w.rows ≡ length events) (few : length events ≤ 200000)
    (lawful : IsLawful w) (legal : IsLegal w) (roots : HasRoots w) (unclaimed : (s : ℕ) → is_claimed_at w s ≡ false) (paid : IsPaid w) where
  row_past : (k : ℕ) → length events ≤ k → row_at w (suc k) ≡ None
  row_past k l = ap (row_of (suc k)) (get_or_past w.rows k [] (omega (arith, all, l)))

  row_there : (j : ℕ) (r : Row) → row_at w j ≡ Some r → IsRun nodes w events j r
  row_there zero r e = cc
  row_there (suc k) r e = ⊎_elim
      (λ l. (let t = rows (suc k) (omega arith) (omega (arith, l)) in
      subst (IsRun nodes w events (suc k)) (one_value t.0 r (sym t.1 ∙ e)) t.2))
      (λ l. (let z : None ≡ Some r = sym (row_past k l) ∙ e in cc))
      (cases_lt k (length events))

  pub is_closed : IsClosed w
  is_closed = record {
    lawful = lawful;
    legal = legal;
    roots = roots;
    unclaimed = unclaimed;
    readable = λ j low high. (let t = rows j low (omega (arith, high, all)) in record {
      row = t.0;
      here = t.1;
      ended = t.2.ended;
      range = legal.ranges j t.0 t.1;
      low = omega (arith, high, all, few);
    });
  }

  -- the rows have the events of the list, and there is none beside
  events_there : (j : ℕ) → events_of (row_at w) j ≡ event_of events j
  events_there zero = refl
  events_there (suc k) = ⊎_elim
      (λ l. (let t = rows (suc k) (omega arith) (omega (arith, l)) in
      ap (option_map (λ (r : Row). r.event)) t.1 ∙ sym t.2.event))
      (λ l. (let past : event_of events (suc k) ≡ None = slice_get_past events k (omega (arith, l)) in
      ap (option_map (λ (r : Row). r.event)) (row_past k l) ∙ sym past))
      (cases_lt k (length events))

  within_room : room_of w ≤ room events
  within_room = room_fits w legal events (fun_ext events_there) all

  bounded : IsBounded w nodes events
  bounded = record {
    steps = paid.steps;
    places = paid.places;
    room = within_room;
    never_full = λ fits j r e. never r.ending (λ d k f. (let n = (row_there j r e).numbers d k f in absurd (omega (arith, fits, within_room, n.no_room, n.within))));
  }
    where
      never : (t : Ending) → ((d k : ℕ) → t ≡ full d k → ⊥) → is_full t ≡ false
      never (full d k) h = absurd (h d k refl)
      never _ h = refl

  pub is_book : published_count w ≤ fixed_places + nodes → IsBook w nodes events
  is_book within = record {
    closed = is_closed;
    count = all;
    events_are = λ j r e. (row_there j r e).event;
    callers = λ j r e. (row_there j r e).caller;
    full_where = λ j r d k e f. (row_there j r e).numbers d k f;
    causes = λ j r e. (row_there j r e).cause;
    within = within;
    bounded = bounded;
  }

-- the same of the store of one thread
module _ (nodes : ℕ) (events : List Event) (p : Pass) (idle : IsIdle p.view) (all : length p.view.seen.rows ≡ p.view.about.rows) (h : AreRun nodes events (length events) p) where
  abbrev v : View
  v = p.view

  abbrev law : IsLawfulView p.view
  law = h.lawful

  paid : IsPaid v.seen
  paid = record { steps = closed_steps v law h.solo.alone idle.claims; places = closed_places v law h.solo.alone idle.claims }

  pub run_whole : IsWhole v
  run_whole = record {
    closed = is_closed nodes events v.seen h.rows_are (all ∙ h.rows) (omega (arith, h.rows, law.rows_few)) law.world law.legal law.roots (quiet_all v law h.solo.alone idle.claims) paid;
    named = omega (arith, all, h.rows, h.named);
    paid = paid;
  }

  pub run_book : IsBook v.seen nodes events
  run_book = is_book nodes events v.seen h.rows_are (all ∙ h.rows) (omega (arith, h.rows, law.rows_few)) law.world law.legal law.roots (quiet_all v law h.solo.alone idle.claims) paid (omega (arith, law.places, h.capacity))

module _ (nodes : ℕ) (events : List Event) (h : PlainHeap) (p : Pass) (same : view_of h ≡ p.view) (idle : IsIdle (view_of h)) (a : AreRun nodes events (length events) p) where
  all_rows : length p.view.seen.rows ≡ p.view.about.rows
  all_rows = subst (λ (v : View). length v.seen.rows ≡ v.about.rows) same (rows_length h)

  idle_is : IsIdle p.view
  idle_is = subst IsIdle same idle

  pub book-of : IsBook (view_of h).seen nodes events
  book-of = subst (λ (v : View). IsBook v.seen nodes events) (sym same) (run_book nodes events p idle_is all_rows a)

  pub whole-of : IsWhole (view_of h)
  whole-of = subst IsWhole (sym same) (run_whole nodes events p idle_is all_rows a)

  pub charged-of : (charged : ℕ) → charged ≡ dues_to p.view.seen (length events) → charged ≡ dues (view_of h).seen
  charged-of charged t = subst (λ (v : View). charged ≡ dues v.seen) (sym same) (t ∙ all_dues p.view.seen (length events) (all_rows ∙ a.rows))

-- nothing is in hand of a store that was just opened
pub opened_idle : (nodes rows : ℕ) → IsIdle (opened_view nodes rows)
opened_idle nodes rows = record { claims = refl; open_rows = refl; reserved = refl; vain = refl; unused = λ i j held. absurd (true≢false (sym held)) }

pub opened_caller : (nodes rows : ℕ) → IsCaller (opened_view nodes rows) 0
opened_caller nodes rows = record { small = omega arith; own = λ c z. cc }
