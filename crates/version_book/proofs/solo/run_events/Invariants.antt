use Rattle.std.proofs.Common.{◌≡◌, ◌≤◌, ◌*◌, ◌^◌}
use Rattle.version_book.specs.Solo.{AreRun, dues_to}
use Rattle.version_book.proofs.solo.run_events.Given as goal

abbrev pub invariant-loop-event : goal.invariant-loop-event
invariant-loop-event g l = record {
  run : AreRun l.fn.pass.view.about.capacity l.events l.event-index l.pass;
  charged : l.charged ≡ dues_to l.pass.view.seen l.event-index;
  few : l.charged ≤ l.event-index * 2 ^ 34;
}
