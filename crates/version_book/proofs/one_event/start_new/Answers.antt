use Rattle.lazy_rec.specs.Due.{new_places}
use Rattle.version_book.specs.Pass.{pass_of}
use Rattle.version_book.specs.RowSteps.{ended_row}
use Rattle.version_book.specs.Finish.{ending_made}
use Rattle.version_book.specs.Calls.{Called, new_event}
use Rattle.version_book.proofs.Begins.{begun_working}
use Rattle.version_book.proofs.EventJobs.{new_direct}
use Rattle.version_book.proofs.Called.{drawn_name, may_end, last_grows, called_idle, called_caller, called, ended_so}
use Rattle.version_book.proofs.Entries.{name_low, known_made, empty_came, empty_answer, new_made}
use Rattle.version_book.proofs.one_event.start_new.Goals as goal
use Rattle.version_book.proofs.one_event.start_new.Goals.{After-finish}

pub finish-requires : goal.finish-requires
finish-requires g c =
    let v1 = g.R.Heap.view c.begin.new.heap in
    let v2 = g.R.Heap.view c.make_empty-made.new.heap in
    let made = c.make_empty-made.result in
    record {
      may = may_end v1 v2 c.args.caller c.args.name (new_places c.args.kind) (new_event c.args.kind) c.args.kind made (g.met.R.Heap.lawful c.begin.new.heap) (g.met.R.Heap.lawful c.make_empty-made.new.heap)
          (begun_working c.begin.ensures (drawn_name c.requires.idle c.requires.drawn)) c.begin.ensures.here (new_direct _ v1 c.args.caller c.args.name c.args.kind c.begin.ensures)
          (empty_came v1 v2 c.args.kind made c.make_empty-made.ensures.ok c.make_empty-made.ensures.err) (empty_answer v1 v2 c.args.name c.args.kind made c.make_empty-made.ensures.ok);
    }

pub returns-clause-idle : goal.returns-clause-idle
returns-clause-idle g c =
    let v1 = g.R.Heap.view c.begin.new.heap in
    let v2 = g.R.Heap.view c.make_empty-made.new.heap in
    let made = c.make_empty-made.result in
    called_idle _ v1 v2 _ c.args.caller c.args.name (new_places c.args.kind) (new_event c.args.kind) c.args.kind made c.requires.idle c.requires.drawn c.begin.ensures
    (empty_came v1 v2 c.args.kind made c.make_empty-made.ensures.ok c.make_empty-made.ensures.err) c.finish.ensures.ended

pub returns-clause-caller : goal.returns-clause-caller
returns-clause-caller g c =
    let v1 = g.R.Heap.view c.begin.new.heap in
    let v2 = g.R.Heap.view c.make_empty-made.new.heap in
    let made = c.make_empty-made.result in
    called_caller _ v1 v2 _ c.args.caller c.args.name (new_places c.args.kind) (new_event c.args.kind) c.args.kind made c.requires.idle c.requires.drawn c.begin.ensures
    (empty_came v1 v2 c.args.kind made c.make_empty-made.ensures.ok c.make_empty-made.ensures.err) c.finish.ensures.ended c.requires.caller

so : (g : _) (c : After-finish g) → Called (pass_of (g.R.Heap.view c.args.heap.now) c.args.caller) (pass_of (g.R.Heap.view c.finish.new.heap) c.args.caller) c.args.name (ended_row c.args.caller (new_event c.args.kind) (ending_made c.args.name c.args.kind c.make_empty-made.result))
so g c =
    let v1 = g.R.Heap.view c.begin.new.heap in
    let v2 = g.R.Heap.view c.make_empty-made.new.heap in
    let made = c.make_empty-made.result in
    called _ v1 v2 _ c.args.caller c.args.name (new_places c.args.kind) (new_event c.args.kind) c.args.kind made c.requires.idle c.requires.drawn c.begin.ensures
    (empty_came v1 v2 c.args.kind made c.make_empty-made.ensures.ok c.make_empty-made.ensures.err) c.finish.ensures.ended
    (g.met.R.Heap.lawful c.begin.new.heap) (g.met.R.Heap.lawful c.make_empty-made.new.heap) (g.met.R.Heap.lawful c.finish.new.heap) (new_direct _ v1 c.args.caller c.args.name c.args.kind c.begin.ensures)

pub returns-clause-ended : goal.returns-clause-ended
returns-clause-ended g c = ended_so _ _ c.args.name (new_event c.args.kind) c.args.kind c.make_empty-made.result c.finish.result c.finish.ensures.answer (so g c)

pub returns-clause-known : goal.returns-clause-known
returns-clause-known g c = known_made (g.R.Heap.view c.finish.new.heap) c.args.caller c.args.name (new_event c.args.kind) c.args.kind c.make_empty-made.result c.finish.result c.finish.ensures.answer (name_low (g.R.Heap.view c.args.heap.now) c.args.name (g.met.R.Heap.lawful c.args.heap.now) c.requires.drawn) (so g c).here

pub returns-clause-empty : goal.returns-clause-empty
returns-clause-empty g c =
    let v1 = g.R.Heap.view c.begin.new.heap in
    let v2 = g.R.Heap.view c.make_empty-made.new.heap in
    let v3 = g.R.Heap.view c.finish.new.heap in
    let made = c.make_empty-made.result in
    new_made v1 v2 v3 c.args.caller c.args.name c.args.kind made c.finish.result (g.met.R.Heap.lawful c.make_empty-made.new.heap)
    (last_grows _ v1 v2 v3 c.args.caller c.args.name (new_places c.args.kind) (new_event c.args.kind) c.args.kind made c.requires.idle c.requires.drawn c.begin.ensures
    (empty_came v1 v2 c.args.kind made c.make_empty-made.ensures.ok c.make_empty-made.ensures.err) c.finish.ensures.ended)
    c.finish.ensures.answer c.make_empty-made.ensures.ok
