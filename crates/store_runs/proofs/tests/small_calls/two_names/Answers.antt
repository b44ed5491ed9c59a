use Rattle.std.proofs.Common.{ap, ◌∙◌}
use Rattle.heap_store.specs.Hand.{Hand, contains}
use Rattle.store_runs.proofs.Extending.{drawn_held}
use Rattle.store_runs.proofs.tests.small_calls.two_names.Goals as goal

pub begin_new-second-requires-clause-drawn : goal.begin_new-second-requires-clause-drawn
begin_new-second-requires-clause-drawn g c = ap (λ (h : Hand). contains h.names c.in_ok-ticket-2.ticket.name) c.lookup-look.ensures.quiet.hand ∙ drawn_held c.in_ok-ticket-2.ensures.ok

pub begin_new-third-requires-clause-drawn : goal.begin_new-third-requires-clause-drawn
begin_new-third-requires-clause-drawn g c = drawn_held c.in-Ok.ensures.ok
