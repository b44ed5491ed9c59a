-- The last world of a store whose only caller ran a script.
use Rattle.std.proofs.Common.{◌≡◌, ℕ, zero, suc, ◌≤◌, List, length, arith}
use Rattle.std.proofs.lemmas.List.Sums.{count_by-le-length}
use Rattle.lazy_rec.specs.declared.events.Event.{Event}
use Rattle.heap_store.specs.View.{is_there}
use Rattle.heap_store.proofs.BudgetSteps.{published}
use Rattle.heap_store.proofs.RoomLaws.{count_is, total_is, total_steps_is}
use Rattle.version_book.specs.Closed.{IsPaid}
use Rattle.version_book.specs.Solo.{RowsAreRun}
use Rattle.version_book.proofs.Books.{is_book}
use Rattle.word_store.specs.declared.pass.Pass.{Pass}
use Rattle.word_store.specs.Closing.{Last, IsLast, IsClosing}
use Rattle.store_runs.specs.Alone.{IsRunAlone}

last_paid : (l : Last) → IsLast l → IsPaid l.world
unfolding published
last_paid l i = record {
  steps = i.steps;
  places = omega (arith, total_steps_is l.world i.lawful i.unclaimed, total_is l.world i.lawful, i.budget.places);
}

module _ (nodes places rows callers : ℕ) (events : List Event) (ps : List Pass) (l : Last) (c : IsClosing places rows callers ps l) (same : places ≡ nodes) (one : callers ≡ 1) (all : rows ≡ length events) (few : length events ≤ 200000) (run : RowsAreRun nodes l.world events (length events)) where
  -- each event's name is drawn, since its row has ended
  named : (n : ℕ) → n ≤ length events → n ≤ l.names
  named zero low = omega arith
  named (suc k) low = let t = run (suc k) (omega arith) low in
      let drawn = c.ended_drawn k (rw t.1 t.2.ended) in omega (arith, drawn)

  pub told_alone : IsRunAlone nodes events l
  told_alone = let i = c.last in record {
    book = is_book nodes events l.world run (omega (arith, c.all_rows, all)) few i.lawful i.legal i.roots i.unclaimed (last_paid l i) (let most = count_by-le-length is_there l.world.nodes in omega (arith, most, c.all_places, same));
    names = (let least = named (length events) (omega arith) in omega (arith, least, (c.calm one).1, all));
    places = omega (arith, c.drawn, (c.calm one).0, count_is l.world i.lawful, total_is l.world i.lawful);
    all_places = omega (arith, c.all_places, same);
  }
