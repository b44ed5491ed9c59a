use Rattle.word_store.specs.Stores.{store_id}
use Rattle.store_runs.proofs.tests.four_callers.Given as goal

-- the store that was just opened
abbrev pub ghosts-begun_by_four : goal.ghosts-begun_by_four
ghosts-begun_by_four g a = record { store = store_id a.store }
