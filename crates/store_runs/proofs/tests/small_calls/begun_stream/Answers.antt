use Rattle.std.proofs.Common.{ap, ◌∙◌, arith}
use Rattle.heap_store.specs.View.{About}
use Rattle.heap_store.specs.Hand.{Hand}
use Rattle.version_book.proofs.IdlePasses.{caller_stays}
use Rattle.store_runs.proofs.Extending.{drawn_held}
use Rattle.store_runs.proofs.Streams.{may_begin_stream, one_place_more}
use Rattle.store_runs.proofs.tests.small_calls.begun_stream.Goals as goal

pub store_row-requires : goal.store_row-requires
store_row-requires g c =
    let n = c.in-Ok.ensures.ok in
    may_begin_stream (g.R.Heap.view c.draw_name.new.self) c.in-Ok.name (g.met.R.Heap.lawful c.draw_name.new.self) (drawn_held n) n.empty (ap (λ (a : About). a.plan) n.about ∙ c.requires.free) (caller_stays n.about c.requires.caller)

pub returns-clause-place : goal.returns-clause-place
returns-clause-place g c =
    let n = c.in-Ok.ensures.ok in
    let more = one_place_more (g.R.Heap.view c.draw_name.new.self) c.in-Ok.name (g.met.R.Heap.lawful c.draw_name.new.self) (drawn_held n) n.empty (ap (λ (a : About). a.plan) n.about ∙ c.requires.free) (caller_stays n.about c.requires.caller) (g.R.Heap.view c.store_row.new.self) c.store_row.ensures in
    let same = ap (λ (h : Hand). h.allowance) n.hand in
    omega (arith, more, same)
