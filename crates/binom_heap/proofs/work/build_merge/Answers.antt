use Rattle.std.proofs.Common.{◌≡◌, arith, Some}
use Rattle.lazy_rec.specs.declared.records.Rec.TheVariants.{HeapMerge}
use Rattle.heap_store.specs.World.{recs}
use Rattle.heap_store.specs.Values.{value_place}
use Rattle.heap_store.specs.View.{IsLawfulView, Quiet}
use Rattle.heap_store.specs.Jobs.{IsBuildable}
use Rattle.heap_store.proofs.Steps.{Quiet_trans}
use Rattle.heap_store.proofs.ReadLaws.{is_there}
use Rattle.heap_store.proofs.FillLaws.{buildable_quiet, quiet_built}
use Rattle.binom_heap.specs.Work.{heap_told}
use Rattle.binom_heap.proofs.PlacesLaws.{few_ones}
use Rattle.binom_heap.proofs.ListValues.{value_place_up}
use Rattle.binom_heap.proofs.WorkBuilds.{merge_known1, merge_known2, merge_there1, merge_there2, merge_asks, merge_built}
use Rattle.binom_heap.proofs.work.build_merge.Goals as goal
use Rattle.binom_heap.proofs.work.build_merge.Goals.{After-trees_of-trees1, After-trees_of-trees2}

pub trees_of-trees1-requires : goal.trees_of-trees1-requires
trees_of-trees1-requires g c =
    let law = g.met.H.Heap.lawful c.args.h.now in
    let of = c.args.of in
    record {
      there = is_there (recs (g.H.Heap.view c.args.h.now).seen) of.list1.0 (merge_there1 law c.args.s c.args.run.now c.requires.build of.list1 of.list2 of.n1 of.n2 c.requires.rec);
      known = merge_known1 law c.args.s c.args.run.now c.requires.build of.list1 of.list2 of.n1 of.n2 c.requires.rec;
    }

pub trees_of-trees2-requires : goal.trees_of-trees2-requires
trees_of-trees2-requires g c =
    let law = g.met.H.Heap.lawful c.trees_of-trees1.new.h in
    let q = c.trees_of-trees1.ensures.quiet in
    let of = c.args.of in
    let ask = buildable_quiet c.requires.build q in
    let here = q.grows.records _ _ c.requires.rec in
    record {
      there = is_there (recs (g.H.Heap.view c.trees_of-trees1.new.h).seen) of.list2.0 (merge_there2 law c.args.s c.args.run.now ask of.list1 of.list2 of.n1 of.n2 here);
      known = merge_known2 law c.args.s c.args.run.now ask of.list1 of.list2 of.n1 of.n2 here;
    }

-- ---- after the trees of both lists were found

law2 : (g : _) (c : After-trees_of-trees2 g) → IsLawfulView (g.H.Heap.view c.trees_of-trees2.new.h)
law2 g c = g.met.H.Heap.lawful c.trees_of-trees2.new.h

quiet : (g : _) (c : After-trees_of-trees2 g) → Quiet (g.H.Heap.view c.args.h.now) (g.H.Heap.view c.trees_of-trees2.new.h)
quiet g c = Quiet_trans c.trees_of-trees1.ensures.quiet c.trees_of-trees2.ensures.quiet

ask2 : (g : _) (c : After-trees_of-trees2 g) → IsBuildable heap_told (g.H.Heap.view c.trees_of-trees2.new.h) c.args.s c.args.run.now
ask2 g c = buildable_quiet c.requires.build (quiet g c)

here2 : (g : _) (c : After-trees_of-trees2 g) → recs (g.H.Heap.view c.trees_of-trees2.new.h).seen c.args.s.0 ≡ Some (HeapMerge c.args.of.list1 c.args.of.list2 c.args.of.n1 c.args.of.n2)
here2 g c = (quiet g c).grows.records _ _ c.requires.rec

first2 : (g : _) (c : After-trees_of-trees2 g) → value_place (g.H.Heap.view c.trees_of-trees2.new.h).seen c.args.of.list1.0 ≡ Some c.trees_of-trees1.result.0
first2 g c =
    let q = c.trees_of-trees1.ensures.quiet in
    let of = c.args.of in
    value_place_up c.trees_of-trees2.ensures.quiet.grows of.list1.0 c.trees_of-trees1.result.0 (merge_there1 (g.met.H.Heap.lawful c.trees_of-trees1.new.h) c.args.s c.args.run.now (buildable_quiet c.requires.build q) of.list1 of.list2 of.n1 of.n2 (q.grows.records _ _ c.requires.rec)) c.trees_of-trees1.ensures.place

pub merge-place-requires : goal.merge-place-requires
merge-place-requires g c =
    let d = (goal.at.merge-place-requires g c).After-trees_of-trees2 in
    let of = c.args.of in
    merge_asks (law2 g d) c.args.s c.args.run.now (ask2 g d) of.list1 of.list2 of.n1 of.n2 (here2 g d) c.trees_of-trees1.result c.trees_of-trees2.result (first2 g d) c.trees_of-trees2.ensures.place

pub overflow_add-result : goal.overflow_add-result
overflow_add-result g c = omega (arith, c.ones.ensures, few_ones c.from.result)

pub overflow_add-result-2 : goal.overflow_add-result-2
overflow_add-result-2 g c = omega (arith, c.ones.ensures, few_ones c.from.result, c.ones-2.ensures, few_ones c.from-2.result)

pub returns : goal.returns
returns g c =
    let d = (goal.at.returns g c).After-trees_of-trees2 in
    let of = c.args.of in
    let t1 = c.ones.ensures in
    let f1 = c.from.ensures in
    let t2 = c.ones-2.ensures in
    let f2 = c.from-2.ensures in
    rw (t1, f1, t2, f2) (quiet_built (quiet g d) (merge_built (law2 g d) c.args.s c.args.run.now (ask2 g d) of.list1 of.list2 of.n1 of.n2 (here2 g d) c.trees_of-trees1.result c.trees_of-trees2.result (first2 g d) c.trees_of-trees2.ensures.place
    (g.met.H.Heap.lawful c.merge-place.new.h) c.merge-place.new.run c.merge-place.result.0 c.merge-place.ensures))
