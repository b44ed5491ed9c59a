use Rattle.std.proofs.Common.{◌≡◌, arith, refl, Some}
use Rattle.lazy_rec.specs.declared.records.Rec.TheVariants.{TCons}
use Rattle.heap_store.specs.World.{recs}
use Rattle.binom_heap.specs.Removal.{MayPutAgain}
use Rattle.binom_heap.proofs.PutAgain.{again_quiet, again_none, again_some, again_lower, again_rest, again_cell, again_all, again_before}
use Rattle.binom_heap.proofs.removal.+put_again.Goals as goal
use Rattle.binom_heap.proofs.removal.+put_again.Goals.{In-Some}

pub returns-then-count-eq0 : goal.returns-then-count-eq0
returns-then-count-eq0 g t c = again_none c.requires c.if-count-eq0.true

pub tree_cell-requires : goal.tree_cell-requires
tree_cell-requires g t c = c.requires.list_is.trees

pub unreachable-requires : goal.unreachable-requires
unreachable-requires g t c = again_some (g.H.Heap.view c.args.h.now).seen c.args.list.0 c.args.count c.requires.some c.if-count-eq0.false (c.in_default.ensures.none refl)

asked : (g : _) (t : _) (c : In-Some g t) → MayPutAgain (g.H.Heap.view c.tree_cell.new.h) c.args.run.now c.args.list.0 c.args.count c.args.onto.0
asked g t c = again_quiet (g.met.H.Heap.lawful c.args.h.now).world c.tree_cell.ensures.quiet c.requires

here : (g : _) (t : _) (c : In-Some g t) → recs (g.H.Heap.view c.tree_cell.new.h).seen c.args.list.0 ≡ Some (TCons c.in-Some.first.tree c.in-Some.first.rest)
here g t c = c.tree_cell.ensures.quiet.grows.records _ _ c.in-Some.ensures.some

pub put_again-more-requires : goal.put_again-more-requires
put_again-more-requires g t c κs within =
    let d = (goal.at.put_again-more-requires g t c).In-Some in
    let law1 = (g.met.H.Heap.lawful c.tree_cell.new.h).world in
    let low = again_lower law1 c.args.run.now c.args.list.0 c.args.count c.args.onto.0 (asked g t d) c.if-count-eq0.false c.in-Some.first.tree c.in-Some.first.rest (here g t d) in
    (omega (arith, low), (within, again_rest law1 c.args.run.now c.args.list.0 c.args.count c.args.onto.0 (asked g t d) c.if-count-eq0.false c.in-Some.first.tree c.in-Some.first.rest (here g t d)))

pub put_cell-requires : goal.put_cell-requires
put_cell-requires g t c =
    let d = (goal.at.put_cell-requires g t c).In-Some in
    let law1 = (g.met.H.Heap.lawful c.tree_cell.new.h).world in
    again_cell law1 c.args.run.now c.args.list.0 c.args.count c.args.onto.0 (asked g t d) c.if-count-eq0.false c.in-Some.first.tree c.in-Some.first.rest (here g t d) c.put_again-more.new.run c.put_again-more.result.0 c.put_again-more.ensures

pub returns : goal.returns
returns g t c =
    let d = (goal.at.returns g t c).In-Some in
    let law1 = (g.met.H.Heap.lawful c.tree_cell.new.h).world in
    again_before (g.met.H.Heap.lawful c.args.h.now).world c.tree_cell.ensures.quiet c.requires
    (again_all law1 c.args.run.now c.args.list.0 c.args.count c.args.onto.0 (asked g t d) c.if-count-eq0.false c.in-Some.first.tree c.in-Some.first.rest (here g t d) c.put_again-more.new.run c.put_again-more.result.0 c.put_again-more.ensures c.put_cell.new.run c.put_cell.result.0 c.put_cell.ensures)
