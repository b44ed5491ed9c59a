-- A report with no row given up is the plain report of the events.
use mathlib.Core.Path.{fun_ext}
use Rattle.std.proofs.Common.{◌≡◌, ℕ, zero, suc, ◌<◌, ◌≤◌, Bool, true, false, ◌||◌, cond, Option, Some, None, List, [], ◌∷◌, ◌++◌, length, codes, decimal, refl, sym, ap, ◌∙◌, arith, ⊎_elim}
use Rattle.std.proofs.lemmas.Bool.{true≢false, cases_lt}
use Rattle.std.proofs.lemmas.Option.{slice_get_past}
use Rattle.std.specs.Prelude.{slice_index_or}
use Rattle.lazy_rec.specs.declared.events.Event.{Event}
use Rattle.lazy_rec.specs.declared.events.Reply.{Reply}
use Rattle.lazy_rec.specs.Tests.{is_some_and}
use Rattle.lazy_rec.specs.History.{event_of, reply_to}
use Rattle.heap_store.specs.World.{World}
use Rattle.heap_store.specs.Rows.{Row, Ending, not_ended, answered, full, memory, no_base, is_ended, is_refused, reply_of, row_at, words_at, events_of}
use Rattle.version_book.specs.Closed.{IsBook, told_of, row_told}
use Rattle.version_book.specs.Totals.{totals_of}
use Rattle.report_text.specs.Report.{reply_text, told_text, totals_text, lines_to, report_of, is_lost, some_given_up}
use Rattle.lazy_tool.specs.declared.faults.Why.{Why}
use Rattle.lazy_tool.specs.declared.faults.Why.TheVariants as why
use Rattle.lazy_tool.specs.Outcome.{Ends, AnswersPlain, IsServed, has_given_up, status_of}
use Rattle.lazy_tool.specs.Headline.{IsAnswered, IsPlainReport, reply_line, reply_lines}

replied : (ending : Ending) → is_ended ending ≡ true → is_refused ending ≡ false → (reply : Reply) × (reply_of ending ≡ Some reply)
replied not_ended h k = absurd (true≢false (sym h))
replied (answered reply v second) h k = (reply, refl)
replied (full drawn wanted) h k = absurd (true≢false k)
replied memory h k = absurd (true≢false k)
replied no_base h k = absurd (true≢false k)

line_of : (name : ℕ) (r : Row) (ending : Ending) → r.ending ≡ ending → (reply : Reply) → reply_of ending ≡ Some reply → told_text (told_of name (Some r)) ≡ decimal name ++ codes " " ++ reply_text reply ++ codes "\n"
line_of name r not_ended h reply k = absurd cc
line_of name r (answered told v second) h reply k = let same : told ≡ reply = cc in rw (h, same) refl
line_of name r (full drawn wanted) h reply k = absurd cc
line_of name r memory h reply k = absurd cc
line_of name r no_base h reply k = absurd cc

-- ---- the events of the rows are those of the script

index_past : {X : Type 0} (xs : List X) (i : ℕ) (d : X) → length xs ≤ i → slice_index_or xs i d ≡ d
index_past [] i d l = refl
index_past (x ∷ xs) zero d l = absurd (omega arith)
index_past (x ∷ xs) (suc i) d l = index_past xs i d (omega arith)

events_same : (w : World) (capacity : ℕ) (events : List Event) → IsBook w capacity events → (i : ℕ) → events_of (row_at w) i ≡ event_of events i
events_same w capacity events book zero = refl
events_same w capacity events book (suc i) = ⊎_elim there past (cases_lt i (length w.rows))
  where
    there : i < length w.rows → events_of (row_at w) (suc i) ≡ event_of events (suc i)
    there l =
        let d = book.closed.readable (suc i) (omega arith) (omega (arith, l)) in
        ap (λ (o : Option Row). elim o as (λ _. Option Event) [ None ↦ None | Some r ↦ Some r.event ]) d.here ∙ sym (book.events_are (suc i) d.row d.here)

    past : length w.rows ≤ i → events_of (row_at w) (suc i) ≡ event_of events (suc i)
    past l =
        let none : words_at w (suc i) ≡ _ = index_past w.rows i _ l in
        let no_event : event_of events (suc i) ≡ None = slice_get_past events i (omega (arith, l, book.count)) in
        rw (none, no_event) refl

-- ---- lines

same_line : (w : World) (capacity : ℕ) (events : List Event) → IsBook w capacity events → (i : ℕ) → i < length w.rows → is_lost w (suc i) ≡ false → told_text (row_told w (suc i)) ≡ reply_line events (suc i) (event_of events (suc i))
same_line w capacity events book i l kept =
    let d = book.closed.readable (suc i) (omega arith) (omega (arith, l)) in
    let not_refused : is_refused d.row.ending ≡ false = sym (ap (λ (o : Option Row). is_some_and (λ (r : Row). is_refused r.ending) o) d.here) ∙ kept in
    let a = replied d.row.ending d.ended not_refused in
    let reply_is : a.0 ≡ reply_to (event_of events) d.row.event =
    book.closed.legal.replies (suc i) d.row d.here a.0 a.1 ∙ ap (λ known. reply_to known d.row.event) (fun_ext (events_same w capacity events book)) in
    ap (λ (o : Option Row). told_text (told_of (suc i) o)) d.here
    ∙ line_of (suc i) d.row d.row.ending refl a.0 a.1
    ∙ ap (λ reply. decimal (suc i) ++ codes " " ++ reply_text reply ++ codes "\n") reply_is
    ∙ sym (ap (reply_line events (suc i)) (book.events_are (suc i) d.row d.here))

or_parts : (a b : Bool) → (a || b) ≡ false → (a ≡ false) × (b ≡ false)
or_parts true b h = absurd (true≢false h)
or_parts false b h = (refl, h)

same_lines : (w : World) (capacity : ℕ) (events : List Event) → IsBook w capacity events → (n : ℕ) → n ≤ length w.rows → some_given_up w n ≡ false → lines_to w n ≡ reply_lines events n
same_lines w capacity events book zero l kept = refl
same_lines w capacity events book (suc n) l kept =
    let parts = or_parts (some_given_up w n) (is_lost w (suc n)) kept in
    ap (λ lines. lines ++ told_text (row_told w (suc n))) (same_lines w capacity events book n (omega (arith, l)) parts.0)
    ∙ ap (λ line. reply_lines events n ++ line) (same_line w capacity events book n (omega (arith, l)) parts.1)

plain_report : (w : World) (capacity : ℕ) (events : List Event) → IsBook w capacity events → some_given_up w (length w.rows) ≡ false → IsPlainReport events (report_of w)
plain_report w capacity events book kept = record {
  totals = totals_of w;
  within = book.bounded.steps;
  text_is =
      ap (λ lines. lines ++ totals_text (totals_of w)) (same_lines w capacity events book (length w.rows) (omega arith) kept)
      ∙ ap (λ n. reply_lines events n ++ totals_text (totals_of w)) book.count;
}

-- ---- answers

abbrev status_if : Bool → ℕ
status_if b = cond b 1 0

zero_kept : (b : Bool) → status_if b ≡ 0 → b ≡ false
zero_kept true h = absurd (omega (arith, h))
zero_kept false h = refl

served : (nodes : Option ℕ) (old new : Ends) (closed : Option World) → IsServed nodes old new closed → status_of why.Nothing closed ≡ 0 → IsAnswered old new
served nodes old new closed s h =
    let kept : some_given_up s.book (length s.book.rows) ≡ false = sym (ap has_given_up s.closed_is) ∙ zero_kept (has_given_up closed) h in
    record {
      events = s.run.events;
      read = s.run.read;
      report = report_of s.book;
      plain = plain_report s.book _ s.run.events s.run.run kept;
      written = s.written;
    }

pub answered_whole : (nodes : Option ℕ) (old new : Ends) (w : Why) (closed : Option World) → AnswersPlain nodes old new w closed → status_of w closed ≡ 0 → IsAnswered old new
answered_whole nodes old new why.Nothing closed a h = served nodes old new closed a h
answered_whole nodes old new why.Usage closed a h = absurd a
answered_whole nodes old new (why.Script line reason) closed a h = absurd (omega (arith, h))
answered_whole nodes old new why.TooLarge closed a h = absurd (omega (arith, h))
answered_whole nodes old new (why.NotBuilt name) closed a h = absurd (omega (arith, h))
answered_whole nodes old new why.Read closed a h = absurd (omega (arith, h))
answered_whole nodes old new why.Write closed a h = absurd (omega (arith, h))
answered_whole nodes old new why.Memory closed a h = absurd (omega (arith, h))
