use Rattle.lazy_tool.proofs.solo.run_script.Goals as goal

pub solo_book-requires-clause-built : goal.solo_book-requires-clause-built
solo_book-requires-clause-built c = rw c.events.ensures.same c.requires.built
