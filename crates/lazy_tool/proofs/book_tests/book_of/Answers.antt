use Rattle.lazy_tool.proofs.book_tests.book_of.Goals as goal

pub solo_book-requires-clause-built : goal.solo_book-requires-clause-built
solo_book-requires-clause-built c = rw c.events.ensures.same c.in_ok-script.ensures
