use Rattle.std.proofs.Common.{◌≡◌, arith, Some}
use Rattle.lazy_rec.specs.declared.records.Rec.TheVariants.{HeapInsert}
use Rattle.heap_store.specs.World.{recs}
use Rattle.heap_store.specs.View.{IsLawfulView}
use Rattle.heap_store.specs.Jobs.{IsBuildable}
use Rattle.heap_store.proofs.ReadLaws.{is_there}
use Rattle.heap_store.proofs.FillLaws.{buildable_quiet, quiet_built}
use Rattle.binom_heap.specs.Work.{heap_told}
use Rattle.binom_heap.proofs.PlacesLaws.{trailing_few}
use Rattle.binom_heap.proofs.WorkBuilds.{insert_known, insert_there, insert_left, alone_fits, insert_asks, insert_built}
use Rattle.binom_heap.proofs.work.build_insert.Goals as goal
use Rattle.binom_heap.proofs.work.build_insert.Goals.{After-trees_of-trees}

pub trees_of-trees-requires : goal.trees_of-trees-requires
trees_of-trees-requires g c =
    let law = g.met.H.Heap.lawful c.args.h.now in
    record {
      there = is_there (recs (g.H.Heap.view c.args.h.now).seen) c.args.list.0 (insert_there law c.args.s c.args.run.now c.requires.build c.args.item c.args.list c.args.size c.requires.rec);
      known = insert_known law c.args.s c.args.run.now c.requires.build c.args.item c.args.list c.args.size c.requires.rec;
    }

-- ---- after the trees were found

law1 : (g : _) (c : After-trees_of-trees g) → IsLawfulView (g.H.Heap.view c.trees_of-trees.new.h)
law1 g c = g.met.H.Heap.lawful c.trees_of-trees.new.h

ask : (g : _) (c : After-trees_of-trees g) → IsBuildable heap_told (g.H.Heap.view c.trees_of-trees.new.h) c.args.s c.args.run.now
ask g c = buildable_quiet c.requires.build c.trees_of-trees.ensures.quiet

here : (g : _) (c : After-trees_of-trees g) → recs (g.H.Heap.view c.trees_of-trees.new.h).seen c.args.s.0 ≡ Some (HeapInsert c.args.item c.args.list c.args.size)
here g c = c.trees_of-trees.ensures.quiet.grows.records _ _ c.requires.rec

pub put-place-requires : goal.put-place-requires
put-place-requires g c =
    let d = (goal.at.put-place-requires g c).After-trees_of-trees in
    record {
      held = (ask g d).held;
      left = insert_left (law1 g d) c.args.s c.args.run.now (ask g d) c.args.item c.args.list c.args.size (here g d);
      fits = alone_fits (law1 g d) c.args.s c.args.run.now (ask g d) c.args.item c.args.list c.args.size (here g d) c.args.list;
    }

pub insert_tree-place-requires : goal.insert_tree-place-requires
insert_tree-place-requires g c =
    let d = (goal.at.insert_tree-place-requires g c).After-trees_of-trees in
    let p = c.put-place.ensures in
    insert_asks (law1 g d) c.args.s c.args.run.now (ask g d) c.args.item c.args.list c.args.size (here g d) c.trees_of-trees.result c.trees_of-trees.ensures.place (g.met.H.Heap.lawful c.put-place.new.self) c.put-place.new.run c.put-place.result p.put p.run p.place

pub overflow_add-result : goal.overflow_add-result
overflow_add-result g c = omega (arith, c.trailing_ones.ensures, trailing_few c.from.result)

pub returns : goal.returns
returns g c =
    let d = (goal.at.returns g c).After-trees_of-trees in
    let p = c.put-place.ensures in
    let t = c.trailing_ones.ensures in
    let f = c.from.ensures in
    rw (t, f) (quiet_built c.trees_of-trees.ensures.quiet (insert_built (law1 g d) c.args.s c.args.run.now (ask g d) c.args.item c.args.list c.args.size (here g d) c.trees_of-trees.result c.trees_of-trees.ensures.place (g.met.H.Heap.lawful c.put-place.new.self) c.put-place.new.run c.put-place.result p.put p.run p.place
    (g.met.H.Heap.lawful c.insert_tree-place.new.h) c.insert_tree-place.new.run c.insert_tree-place.result.0 c.insert_tree-place.ensures))
