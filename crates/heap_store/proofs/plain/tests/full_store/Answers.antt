use Rattle.std.proofs.Common.{◌≡◌, ap, ◌∙◌, arith}
use Rattle.heap_store.specs.View.{View}
use Rattle.heap_store.specs.Opened.{view_of}
use Rattle.heap_store.proofs.PlainTests.{may_begin, one_place}
use Rattle.heap_store.proofs.plain.tests.full_store.Goals as goal

pub load_row-requires : goal.load_row-requires
load_row-requires g c =
    let rows : c.in_ok-heap.heap.row_capacity ≡ 1 = ap (λ (v : View). v.about.rows) c.in_ok-heap.ensures in
    record { low = omega arith; high = omega (arith, rows); word = omega arith }

pub store_row-requires : goal.store_row-requires
store_row-requires g c =
    let opened = c.load_row.ensures.quiet.alone (ap (λ (v : View). v.about.alone) c.in_ok-heap.ensures) ∙ c.in_ok-heap.ensures in
    may_begin 0 (view_of c.load_row.new.self) (view_of c.draw_name.new.self) c.in-Ok.name opened c.in-Ok.ensures.ok

pub refusal-requires : goal.refusal-requires
refusal-requires g c =
    let opened = c.load_row.ensures.quiet.alone (ap (λ (v : View). v.about.alone) c.in_ok-heap.ensures) ∙ c.in_ok-heap.ensures in
    one_place 0 (view_of c.load_row.new.self) (view_of c.draw_name.new.self) c.in-Ok.name opened c.in-Ok.ensures.ok (view_of c.store_row.new.self) c.store_row.ensures
