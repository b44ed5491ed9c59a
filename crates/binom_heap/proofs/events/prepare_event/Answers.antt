use Rattle.std.proofs.Common.{◌≡◌, ◌∙◌, ap, sym, arith, subst, refl}
use Rattle.lazy_rec.specs.declared.events.Op.TheVariants as ops
use Rattle.heap_store.specs.World.{recs}
use Rattle.heap_store.proofs.Steps.{Quiet_trans}
use Rattle.heap_store.proofs.ReadLaws.{is_there}
use Rattle.heap_store.proofs.ValueLaws.{value_place_is, place_waits}
use Rattle.heap_store.specs.Forest.{forest}
use Rattle.heap_store.proofs.GrowthLaws.{is_value_up}
use Rattle.heap_store.proofs.LawfulLaws.{lawful_names}
use Rattle.heap_store.proofs.MadeLaws.{forest_kept}
use Rattle.binom_heap.specs.Heap.{top_record, paid_places, PointsAt}
use Rattle.binom_heap.specs.Removal.{least_of}
use Rattle.binom_heap.proofs.Linking.{forest_up}
use Rattle.binom_heap.proofs.TreeLaws.{forest_is}
use Rattle.binom_heap.proofs.Removed.{paid_most}
use Rattle.binom_heap.proofs.ListValues.{DoneList, list_there, value_trees}
use Rattle.binom_heap.proofs.Tops.{OldTop, old_top}
use Rattle.binom_heap.proofs.EventTops.{start_is, start_most, ready_start, ready_paid}
use Rattle.binom_heap.proofs.EventPaid.{PaidTop, paid_job, paid_looks, paid_need, paid_size, read_list, read_size}
use Rattle.binom_heap.proofs.events.prepare_event.Goals as goal
use Rattle.binom_heap.proofs.events.prepare_event.Goals.{In-HeapPaid, In-Some, After-read_top-paid}

pub start_places-requires : goal.start_places-requires
start_places-requires g c = record { base = omega (arith, c.requires.job.base.most); other = omega (arith, c.requires.job.other.most) }

pub returns-in_default-clause-answer : goal.returns-in_default-clause-answer
returns-in_default-clause-answer g c =
    let job = c.args.job.now in
    let kind = c.requires.kind in
    let stage = start_is job.op job.stage (rw kind at c.requires.job.has) c.in_default.not-HeapPaid in
    let n = c.start_places.ensures in
    (ready_start (g.H.Heap.view c.args.h.now).seen job c.start_places.result stage n c.args.cursor.now, rw n (start_most job kind stage))

paid : (g : _) (c : In-HeapPaid g) → PaidTop (g.H.Heap.view c.args.h.now).seen c.args.job.now.base.root.0 c.in-HeapPaid.top.0
paid g c = paid_job c.args.job.now c.requires.job c.in-HeapPaid.top c.in-HeapPaid.is

pub read_top-paid-requires : goal.read_top-paid-requires
read_top-paid-requires g c = let k = (paid g (goal.at.read_top-paid-requires g c).In-HeapPaid).here in rw k refl

later : (g : _) (c : After-read_top-paid g) → OldTop (g.H.Heap.view c.read_top-paid.new.h).seen c.in-HeapPaid.top.0 c.read_top-paid.result
later g c = old_top (g.met.H.Heap.lawful c.read_top-paid.new.h).world c.in-HeapPaid.top.0 c.read_top-paid.result (c.read_top-paid.ensures.quiet.grows.records _ _ c.read_top-paid.ensures.top)

pub value_place-requires : goal.value_place-requires
value_place-requires g c = is_there (recs (g.H.Heap.view c.read_top-paid.new.h).seen) c.read_top-paid.result.list.0 (list_there (later g (goal.at.value_place-requires g c).After-read_top-paid).list)

-- ---- the list is done

found : (g : _) (c : In-Some g) → DoneList (g.H.Heap.view c.value_place.new.h).seen c.read_top-paid.result.list.0 c.in-Some.trees.0 c.read_top-paid.result.size
found g c =
    let x = (Quiet_trans c.read_top-paid.ensures.quiet c.value_place.ensures.quiet).grows in
    let law = (g.met.H.Heap.lawful c.value_place.new.h).world in
    let o = old_top law c.in-HeapPaid.top.0 c.read_top-paid.result (x.records _ _ c.read_top-paid.ensures.top) in
    value_trees law c.in-HeapPaid.top.0 c.read_top-paid.result.list.0 c.read_top-paid.result.size c.in-Some.trees.0 o.list c.in-Some.ensures.place

size_is : (g : _) (c : In-Some g) → c.read_top-paid.result.size ≡ c.args.job.now.base.size
size_is g c =
    let k = paid_job c.args.job.now c.requires.job c.in-HeapPaid.top c.in-HeapPaid.is in
    read_size (g.H.Heap.view c.args.h.now).seen c.in-HeapPaid.top.0 c.read_top-paid.result k.list k.base.size c.read_top-paid.ensures.top k.here ∙ sym (paid_size (g.met.H.Heap.lawful c.args.h.now).world c.args.job.now c.requires.job c.in-HeapPaid.top.0 k)

pub paid_places-requires : goal.paid_places-requires
paid_places-requires g c =
    let d = (goal.at.paid_places-requires g c).In-Some in
    let k = found g d in
    record { trees = k.trees; rise = k.rise; size = k.weight_is ∙ size_is g d; most = omega (arith, c.requires.job.base.most) }

pub returns-in-Some-clause-quiet : goal.returns-in-Some-clause-quiet
returns-in-Some-clause-quiet g c = Quiet_trans (Quiet_trans c.read_top-paid.ensures.quiet c.value_place.ensures.quiet) c.paid_places.ensures.quiet

pub returns-in-Some-clause-cursor : goal.returns-in-Some-clause-cursor
returns-in-Some-clause-cursor g c = c.paid_places.ensures.cursor

pub returns-in-Some-clause-answer : goal.returns-in-Some-clause-answer
returns-in-Some-clause-answer g c =
    let d = (goal.at.returns-in-Some-clause-answer g c).In-Some in
    let job = c.args.job.now in
    let k = found g d in
    let x = c.paid_places.ensures.quiet.grows in
    let law = (g.met.H.Heap.lawful c.value_place.new.h).world in
    let e = (Quiet_trans c.read_top-paid.ensures.quiet c.value_place.ensures.quiet).grows.records _ _ c.read_top-paid.ensures.top in
    let e2 = x.records _ _ e in
    let known = (value_place_is law c.read_top-paid.result.list.0 c.in-Some.trees.0 c.in-Some.ensures.place).known in
    let known2 = is_value_up _ _ x c.read_top-paid.result.list.0 known in
    let tops = forest_is (recs (g.H.Heap.view c.value_place.new.h).seen) (lawful_names law) c.in-HeapPaid.top.0 _ e in
    let kept = forest_kept (recs (g.H.Heap.view c.value_place.new.h).seen) (recs (g.H.Heap.view c.paid_places.new.h).seen) (lawful_names law) x.records c.in-HeapPaid.top.0 (top_record c.read_top-paid.result, e) in
    let same : forest (recs (g.H.Heap.view c.value_place.new.h).seen) c.in-Some.trees.0 ≡ forest (recs (g.H.Heap.view c.paid_places.new.h).seen) c.in-HeapPaid.top.0 = k.same ∙ (sym tops ∙ kept) in
    let nodes : c.paid_places.result ≡ paid_places job.op job.base.size (forest (recs (g.H.Heap.view c.paid_places.new.h).seen) c.in-HeapPaid.top.0) = c.paid_places.ensures.places ∙ ap (paid_places job.op job.base.size) same in
    let now : forest (recs (g.H.Heap.view c.paid_places.new.h).seen) c.in-Some.trees.0 ≡ forest (recs (g.H.Heap.view c.paid_places.new.h).seen) c.in-HeapPaid.top.0 = forest_up law x c.in-Some.trees.0 k.trees ∙ same in
    let least : job.op ≡ ops.Delmin → PointsAt (g.H.Heap.view c.paid_places.new.h).seen (forest (recs (g.H.Heap.view c.paid_places.new.h).seen) c.in-HeapPaid.top.0) (least_of (forest (recs (g.H.Heap.view c.paid_places.new.h).seen) c.in-HeapPaid.top.0)) c.paid_places.new.cursor = λ op. subst (λ f. PointsAt (g.H.Heap.view c.paid_places.new.h).seen f (least_of f) c.paid_places.new.cursor) now (c.paid_places.ensures.least op) in
    let most = paid_most job c.requires.kind c.in-HeapPaid.top c.in-HeapPaid.is (paid_looks job c.requires.job c.requires.kind c.in-HeapPaid.top c.in-HeapPaid.is) (forest (recs (g.H.Heap.view c.value_place.new.h).seen) c.in-Some.trees.0) (omega (arith, c.requires.job.base.most)) k.rise (k.weight_is ∙ size_is g d) in
    (ready_paid (g.H.Heap.view c.paid_places.new.h).seen job c.in-HeapPaid.top c.paid_places.result c.in-HeapPaid.is (rw e2 known2) nodes c.paid_places.new.cursor least, omega (arith, c.paid_places.ensures.places, most))

pub returns-in-None-clause-quiet : goal.returns-in-None-clause-quiet
returns-in-None-clause-quiet g c = Quiet_trans c.read_top-paid.ensures.quiet c.value_place.ensures.quiet

pub returns-in-None-clause-answer : goal.returns-in-None-clause-answer
returns-in-None-clause-answer g c =
    let d = (goal.at.returns-in-None-clause-answer g c).In-HeapPaid in
    let x = (Quiet_trans c.read_top-paid.ensures.quiet c.value_place.ensures.quiet).grows in
    let k = paid g d in
    let now : PaidTop (g.H.Heap.view c.value_place.new.h).seen c.args.job.now.base.root.0 c.in-HeapPaid.top.0 = record { base = k.base; base_here = x.records _ _ k.base_here; list = k.list; same = k.same; here = x.records _ _ k.here } in
    let same = read_list (g.H.Heap.view c.args.h.now).seen c.in-HeapPaid.top.0 c.read_top-paid.result k.list k.base.size c.read_top-paid.ensures.top k.here in
    let law = (g.met.H.Heap.lawful c.value_place.new.h).world in
    let there = list_there (old_top law c.in-HeapPaid.top.0 c.read_top-paid.result (x.records _ _ c.read_top-paid.ensures.top)).list in
    let waits = place_waits (g.H.Heap.view c.value_place.new.h).seen c.read_top-paid.result.list.0 there c.in-None.ensures.place in
    rw same (paid_need law c.args.job.now c.requires.kind (paid_looks c.args.job.now c.requires.job c.requires.kind c.in-HeapPaid.top c.in-HeapPaid.is) c.in-HeapPaid.top now (rw same at waits))
