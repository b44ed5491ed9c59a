use Rattle.std.proofs.Common.{◌≡◌, ℕ, [], ◌∷◌, ◌++◌, length, map, ap, ◌∙◌, arith, subst, Some}
use Rattle.std.specs.Prelude.{slice_get}
use Rattle.heap_store.specs.Growth.{Grows}
use Rattle.heap_store.specs.View.{View}
use Rattle.version_book.specs.Pass.{Pass}
use Rattle.version_book.specs.Solo.{RowsAreRun}
use Rattle.version_book.proofs.Books.{rows_grow}
use Rattle.word_store.specs.declared.pass.Pass.{Pass as StorePass}
use Rattle.word_store.specs.Passes.{view_of}
use Rattle.word_store.specs.Stores.{place_count, row_count, caller_count}
use Rattle.store_runs.proofs.LastBook.{told_alone}
use Rattle.store_runs.proofs.alone.run_alone.Goals as goal
use Rattle.store_runs.proofs.alone.run_alone.Goals.{In-Ok-close}

-- the rows of the last world
rows_last : (g : _) (c : In-Ok-close g) → RowsAreRun (place_count c.args.store) c.in-Ok-close.closed.world c.args.events.now (length c.args.events.now)
rows_last g c =
    let closing = c.in-Ok-close.ensures.ok in
    let run = c.run_events-charged.ensures.run in
    let here : slice_get (map (λ q. q.pass) c.push.new.self.items) 0 ≡ Some c.into_heap.result.pass = ap (λ l. slice_get (map (λ q. q.pass) l) 0) (c.in-Ok-push.ensures.items ∙ ap (λ l. l ++ c.into_heap.result ∷ []) c.new-passes.ensures.items) in
    let grown : Grows c.run_events-charged.new.pass.view.seen c.in-Ok-close.closed.world = subst (λ (v : View). Grows v.seen c.in-Ok-close.closed.world) c.into_heap.ensures.heap (closing.seen 0 c.into_heap.result.pass here) in
    let capacity : c.new-pass.result.view.about.capacity ≡ place_count c.args.store = ap (λ (p : Pass). p.view.about.capacity) c.new-pass.ensures ∙ (ap (λ (q : StorePass). (view_of q).about.capacity) c.new.ensures ∙ ap (λ (v : View). v.about.capacity) c.in-Ok.ensures.ok) in
    subst (λ (n : ℕ). RowsAreRun n c.in-Ok-close.closed.world c.args.events.now (length c.args.events.now)) capacity (rows_grow run.lawful.legal closing.last.legal grown run.rows_are)

pub returns-in-Ok-close-clause-run : goal.returns-in-Ok-close-clause-run
returns-in-Ok-close-clause-run g c = rows_last g c

pub returns-in-Ok-close-clause-told : goal.returns-in-Ok-close-clause-told
returns-in-Ok-close-clause-told g c =
    let run = c.run_events-charged.ensures.run in
    let store = c.pass.new.self in
    let same = c.pass.ensures.store in
    told_alone (place_count c.args.store) (place_count store) (row_count store) (caller_count store) c.args.events.now (map (λ q. q.pass) c.push.new.self.items) c.in-Ok-close.closed c.in-Ok-close.ensures.ok
    same.nodes (same.callers ∙ c.requires.one) (same.rows ∙ c.requires.rows) (omega (arith, run.lawful.rows_few, run.rows)) (rows_last g c)
