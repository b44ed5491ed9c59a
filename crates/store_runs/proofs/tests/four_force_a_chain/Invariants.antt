use Rattle.word_store.specs.Stores.{store_id}
use Rattle.store_runs.proofs.tests.four_force_a_chain.Given as goal

-- the store that was just opened
abbrev pub ghosts-forced_by_four : goal.ghosts-forced_by_four
ghosts-forced_by_four g a = record { store = store_id a.store }
