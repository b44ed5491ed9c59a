use Rattle.std.proofs.Common.{arith}
use Rattle.binom_heap.proofs.Linking.{cell_fits, cell_laid}
use Rattle.binom_heap.proofs.trees.put_cell.Goals as goal

pub put-requires : goal.put-requires
put-requires g c = record { held = c.requires.held; left = omega (arith, c.requires.room); fits = cell_fits (g.met.H.Heap.lawful c.args.h.now) c.args.run.now c.args.tree c.args.list c.requires }

pub returns : goal.returns
returns g c =
    let p = c.put.ensures in
    cell_laid (g.met.H.Heap.lawful c.args.h.now) (g.met.H.Heap.lawful c.put.new.self) c.args.run.now c.put.new.run c.args.tree c.args.list c.put.result c.requires p.put p.run p.place
