use Rattle.lazy_tool.proofs.measure_tests.store_of.Goals as goal

pub on_plain-requires-clause-built : goal.on_plain-requires-clause-built
on_plain-requires-clause-built c = rw c.events.ensures.same c.in_ok-script.ensures
