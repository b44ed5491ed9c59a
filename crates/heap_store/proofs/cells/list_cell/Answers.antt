use Rattle.heap_store.specs.World.{recs}
use Rattle.heap_store.specs.Values.{is_list}
use Rattle.heap_store.proofs.ReadLaws.{holds_at}
use Rattle.heap_store.proofs.CellLaws.{some_list_cell}
use Rattle.heap_store.proofs.cells.list_cell.Goals as goal

pub unreachable-requires : goal.unreachable-requires
unreachable-requires g c =
    some_list_cell (g.met.H.Heap.lawful c.args.h.now).world c.args.p.0 c.read.result c.read.ensures.rec
    (holds_at (recs (g.H.Heap.view c.args.h.now).seen) c.args.p.0 is_list c.read.result c.requires.list c.read.ensures.rec) c.requires.some c.in_default.not-LCons
