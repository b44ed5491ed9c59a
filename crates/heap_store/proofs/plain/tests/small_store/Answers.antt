use Rattle.heap_store.specs.Opened.{view_of}
use Rattle.heap_store.proofs.PlainTests.{may_begin, one_place}
use Rattle.heap_store.proofs.plain.tests.small_store.Goals as goal

pub store_row-requires : goal.store_row-requires
store_row-requires g c = may_begin 1 (view_of c.in_ok-heap.heap) (view_of c.draw_name.new.self) c.in-Ok.name c.in_ok-heap.ensures c.in-Ok.ensures.ok

pub refusal-requires : goal.refusal-requires
refusal-requires g c = one_place 1 (view_of c.in_ok-heap.heap) (view_of c.draw_name.new.self) c.in-Ok.name c.in_ok-heap.ensures c.in-Ok.ensures.ok (view_of c.store_row.new.self) c.store_row.ensures
