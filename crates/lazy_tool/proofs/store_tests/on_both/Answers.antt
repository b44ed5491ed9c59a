use Rattle.lazy_tool.proofs.store_tests.on_both.Goals as goal

pub compared-requires-clause-built : goal.compared-requires-clause-built
compared-requires-clause-built g c = rw c.events-events.ensures.same c.in_ok-script.ensures
