use Rattle.std.proofs.Common.{◌≡◌}
use Rattle.version_book.specs.Calls.{HasSeen}
use Rattle.store_runs.proofs.tests.branches.Given as goal

abbrev pub invariant-loop : goal.invariant-loop
invariant-loop g l = record {
  about : l.pass.view.about ≡ l.fn.pass.view.about;
  caller : l.pass.caller ≡ l.fn.pass.caller;
  seen : HasSeen l.pass l.base;
}
