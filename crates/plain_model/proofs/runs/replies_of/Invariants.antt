use Rattle.std.proofs.Common.{◌≡◌, suc, map, take, length}
use Rattle.lazy_rec.specs.History.{event_of, reply_to}
use Rattle.plain_model.proofs.RunSteps.{AreLists}
use Rattle.plain_model.proofs.runs.replies_of.Given as goal

abbrev pub invariant-loop-event : goal.invariant-loop-event
invariant-loop-event l = record {
  lists : AreLists l.events l.versions.items l.event-index;
  count : length l.versions.items ≡ suc l.event-index;
  told : l.replies.items ≡ map (reply_to (event_of l.events)) (take l.event-index l.events);
}
