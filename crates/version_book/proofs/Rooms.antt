-- What the events of a closed book may take is bounded by the room of their script.
use Rattle.std.proofs.Common.{◌≡◌, ℕ, zero, suc, ◌+◌, ◌*◌, ◌≤◌, Bool, true, false, cond, Option, Some, None, List, [], length, take, refl, sym, ap, ◌∙◌, arith, subst}
use Rattle.std.specs.Prelude.{option_map, slice_index_or}
use Rattle.std.proofs.lemmas.List.{take_all}
use Rattle.lazy_rec.specs.declared.events.Kind.{Kind}
use Rattle.lazy_rec.specs.declared.events.Op.{Op}
use Rattle.lazy_rec.specs.declared.events.Op.TheVariants as ops
use Rattle.lazy_rec.specs.declared.events.Event.{Event}
use Rattle.lazy_rec.specs.Due.{due, direct}
use Rattle.lazy_rec.specs.History.{Events, event_name, event_of, kind_of, new_kind, plain}
use Rattle.dues.specs.Rooms.{places_of, places_at_size, sum_to, room}
use Rattle.dues.proofs.GrowthLaws.{places_grow, covered, sums_grow}
use Rattle.heap_store.specs.declared.versions.Version.{Version}
use Rattle.heap_store.specs.World.{World, recs}
use Rattle.heap_store.specs.Rows.{Row, row_of, row_at, version_at, events_of}
use Rattle.heap_store.specs.LookedAt.{size_of}
use Rattle.heap_store.specs.Legal.{IsLegal}
use Rattle.heap_store.specs.Budget.{of_based, of_event, of_row, sum_rows, room_of}
use Rattle.lazy_rec.proofs.HistoryLaws.{kind_is}
use Rattle.heap_store.proofs.HistoryLaws.{version_well}
use Rattle.heap_store.proofs.RowBudget.{rows_more}

module _ (w : World) (legal : IsLegal w) (events : List Event) (same : events_of (row_at w) ≡ event_of events) where
  abbrev named : Events
  named = event_of events

  -- a version is no larger than its plain list
  size_fits : (n : ℕ) → size_of (version_at (row_at w) n) ≤ length (plain named n)
  size_fits n = subst (λ E. size_of (version_at (row_at w) n) ≤ length (plain E n)) same (by (version_at (row_at w) n) refl)
    where
      by : (o : Option Version) → version_at (row_at w) n ≡ o → size_of o ≤ length (plain (events_of (row_at w)) n)
      by None e = omega arith
      by (Some v) e = omega (arith, (version_well (recs w) (row_at w) legal n v e).size)

  based_fits : (e : Event) (k : Option Kind) → of_based direct w e k + 8 * of_based due w e k ≤ places_at_size named k (Some e)
  based_fits e None = omega arith
  based_fits e (Some k) = places_grow k e.op _ _ _ _ (size_fits e.base) (size_fits e.other)

  event_fits : (e : Event) (op : Op) → of_event direct w e op + 8 * of_event due w e op ≤ places_at_size named (new_kind op (kind_of named (event_name e.base))) (Some e)
  event_fits e (ops.New k) = places_grow k e.op 0 0 (length (plain named e.base)) (length (plain named e.other)) (omega arith) (omega arith)
  event_fits e op =
      subst (λ E. of_based direct w e (kind_of E (event_name e.base)) + 8 * of_based due w e (kind_of E (event_name e.base)) ≤ places_at_size named (kind_of named (event_name e.base)) (Some e)) (sym same)
      (based_fits e (kind_of named (event_name e.base)))

  -- a row takes no more than its event may
  row_fits : (i : ℕ) → of_row direct w (row_at w i) + 8 * of_row due w (row_at w i) ≤ places_at_size named (kind_of named i) (named i)
  row_fits i = by (row_at w i) refl
    where
      own : (r : Row) → row_at w i ≡ Some r → (b : Bool) → cond b (of_event direct w r.event r.event.op) 0 + 8 * cond b (of_event due w r.event r.event.op) 0 ≤ places_at_size named (kind_of named i) (named i)
      own r e false = omega arith
      own r e true =
          let here : named i ≡ Some r.event = ap (λ (E : Events). E i) (sym same) ∙ ap (option_map (λ (t : Row). t.event)) e in
          rw (kind_is named i r.event here (legal.bases i r e), here) (event_fits r.event r.event.op)

      by : (o : Option Row) → row_at w i ≡ o → of_row direct w o + 8 * of_row due w o ≤ places_at_size named (kind_of named i) (named i)
      by None e = omega arith
      by (Some r) e = own r e r.begun

  abbrev takes : (Kind → Op → ℕ → ℕ → ℕ) → ℕ → List ℕ → ℕ
  takes table i words = of_row table w (row_of i words)

  abbrev at_sizes : ℕ → ℕ
  at_sizes i = places_at_size named (kind_of named i) (named i)

  rows_fit : (k : ℕ) → k ≤ length w.rows → sum_rows (takes direct) 1 (take k w.rows) + 8 * sum_rows (takes due) 1 (take k w.rows) ≤ sum_to at_sizes k
  rows_fit zero l = omega arith
  rows_fit (suc k) l =
      let e : 1 + k ≡ suc k = omega arith in
      omega (
        arith,
        rows_fit k (omega arith),
        rows_more (takes direct) (λ j. refl) 1 k w.rows,
        rows_more (takes due) (λ j. refl) 1 k w.rows,
        ap (λ z. takes direct z (slice_index_or w.rows k [])) e,
        ap (λ z. takes due z (slice_index_or w.rows k [])) e,
        row_fits (suc k),
      )

  pub room_fits : length w.rows ≡ length events → room_of w ≤ room events
  room_fits count =
      omega (
        arith,
        rows_fit (length w.rows) (omega arith),
        ap (sum_rows (takes direct) 1) (take_all (length w.rows) w.rows (omega arith)),
        ap (sum_rows (takes due) 1) (take_all (length w.rows) w.rows (omega arith)),
        ap (sum_to at_sizes) count,
        sums_grow at_sizes (λ i. places_of named (kind_of named i) (named i)) (λ i. covered named (kind_of named i) (named i)) (length events),
      )
