use Rattle.word_store.specs.Stores.{store_id}
use Rattle.lazy_tool.proofs.store_tests.on_both.Given as goal

-- the store that was just opened
abbrev pub ghosts-compared : goal.ghosts-compared
ghosts-compared g a = record { store = store_id a.store }
