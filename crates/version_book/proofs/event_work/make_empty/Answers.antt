use Rattle.std.proofs.Common.{arith, refl}
use Rattle.heap_store.proofs.Steps.{reserved_held}
use Rattle.version_book.proofs.Works.{refused_balked, filled_worked}
use Rattle.version_book.proofs.event_work.make_empty.Goals as goal

pub returns-in-Err-clause-err : goal.returns-in-Err-clause-err
returns-in-Err-clause-err g c = refused_balked _ (g.met.R.Heap.lawful c.reserve.new.self) (omega (arith, c.requires.places, c.new_places.ensures)) (omega (arith, c.new_places.ensures)) c.in-Err.ensures.err

pub new_event-root-requires-clause-held : goal.new_event-root-requires-clause-held
new_event-root-requires-clause-held g c = reserved_held c.in-Ok.ensures.ok

pub returns-clause-ok : goal.returns-clause-ok
returns-clause-ok g c = record {
  worked = filled_worked c.requires.idle c.in-Ok.ensures.ok c.new_event-root.ensures.filled;
  root = c.new_event-root.ensures.root;
  value = c.new_event-root.ensures.value;
  empty = c.new_event-root.ensures.empty;
  size = refl;
  reply = refl;
}
