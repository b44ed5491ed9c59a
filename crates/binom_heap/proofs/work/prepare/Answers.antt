use Rattle.std.proofs.Common.{◌≡◌, refl, ap, ◌∙◌, inl, inr, Some}
use Rattle.lazy_rec.specs.declared.records.Rec.TheVariants.{HeapInsert, HeapMerge}
use Rattle.heap_store.specs.World.{recs}
use Rattle.heap_store.specs.View.{Quiet}
use Rattle.heap_store.proofs.GrowthLaws.{is_value_up}
use Rattle.heap_store.proofs.Steps.{Quiet_trans, cursor_up}
use Rattle.heap_store.proofs.ReadLaws.{is_there}
use Rattle.heap_store.proofs.ValueLaws.{value_place_is, place_waits}
use Rattle.binom_heap.proofs.ListValues.{insert_list, merge_list1, merge_list2, list_there}
use Rattle.binom_heap.proofs.WorkLaws.{need_of, insert_ready, merge_ready}
use Rattle.binom_heap.proofs.work.prepare.Goals as goal
use Rattle.binom_heap.proofs.work.prepare.Goals.{In-HeapInsert, In-HeapMerge, After-value_place-in-Some-value_place}

-- ---- an insert

insert_here : (g : _) (c : In-HeapInsert g) → recs (g.H.Heap.view c.args.h.now).seen c.args.s.0 ≡ Some (HeapInsert c.in-HeapInsert.item c.in-HeapInsert.list c.in-HeapInsert.size)
insert_here g c = c.requires.rec ∙ ap Some c.in-HeapInsert.is

pub value_place-requires : goal.value_place-requires
value_place-requires g c =
    let k = insert_list (g.met.H.Heap.lawful c.args.h.now).world c.args.s.0 _ _ _ (insert_here g (goal.at.value_place-requires g c).In-HeapInsert) in
    is_there (recs (g.H.Heap.view c.args.h.now).seen) c.in-HeapInsert.list.0 (list_there k)

pub returns-in-Some-clause-answer : goal.returns-in-Some-clause-answer
returns-in-Some-clause-answer g c =
    let law = (g.met.H.Heap.lawful c.value_place.new.h).world in
    let e = c.value_place.ensures.quiet.grows.records _ _ (insert_here g (goal.at.returns-in-Some-clause-answer g c).In-HeapInsert) in
    let n = c.insert_places.ensures in
    rw n (insert_ready law c.args.s.0 c.in-HeapInsert.item c.in-HeapInsert.list c.in-HeapInsert.size e (value_place_is law c.in-HeapInsert.list.0 c.in-Some.field-0.0 c.in-Some.ensures.place).known)

pub returns-in-None-clause-answer : goal.returns-in-None-clause-answer
returns-in-None-clause-answer g c =
    let law = (g.met.H.Heap.lawful c.value_place.new.h).world in
    let e = c.value_place.ensures.quiet.grows.records _ _ (insert_here g (goal.at.returns-in-None-clause-answer g c).In-HeapInsert) in
    let k = insert_list law c.args.s.0 c.in-HeapInsert.item c.in-HeapInsert.list c.in-HeapInsert.size e in
    need_of law c.args.s.0 (HeapInsert c.in-HeapInsert.item c.in-HeapInsert.list c.in-HeapInsert.size) e refl c.in-HeapInsert.list.0 c.in-HeapInsert.size refl k (place_waits (g.H.Heap.view c.value_place.new.h).seen c.in-HeapInsert.list.0 (list_there k) c.in-None.ensures.place)

-- ---- a merge

merge_here : (g : _) (c : In-HeapMerge g) → recs (g.H.Heap.view c.args.h.now).seen c.args.s.0 ≡ Some (HeapMerge c.in-HeapMerge.list1 c.in-HeapMerge.list2 c.in-HeapMerge.n1 c.in-HeapMerge.n2)
merge_here g c = c.requires.rec ∙ ap Some c.in-HeapMerge.is

pub value_place-requires-in-HeapMerge : goal.value_place-requires-in-HeapMerge
value_place-requires-in-HeapMerge g c =
    let k = merge_list1 (g.met.H.Heap.lawful c.args.h.now).world c.args.s.0 _ _ _ _ (merge_here g (goal.at.value_place-requires-in-HeapMerge g c).In-HeapMerge) in
    is_there (recs (g.H.Heap.view c.args.h.now).seen) c.in-HeapMerge.list1.0 (list_there k)

pub returns-in-None-value_place-clause-answer : goal.returns-in-None-value_place-clause-answer
returns-in-None-value_place-clause-answer g c =
    let m = c.in-HeapMerge in
    let law = (g.met.H.Heap.lawful c.value_place-in-HeapMerge.new.h).world in
    let e = c.value_place-in-HeapMerge.ensures.quiet.grows.records _ _ (merge_here g (goal.at.returns-in-None-value_place-clause-answer g c).In-HeapMerge) in
    let k = merge_list1 law c.args.s.0 m.list1 m.list2 m.n1 m.n2 e in
    need_of law c.args.s.0 (HeapMerge m.list1 m.list2 m.n1 m.n2) e refl m.list1.0 m.n1 (inl refl) k (place_waits (g.H.Heap.view c.value_place-in-HeapMerge.new.h).seen m.list1.0 (list_there k) c.in-None-value_place.ensures.place)

pub value_place-requires-in-Some-value_place : goal.value_place-requires-in-Some-value_place
value_place-requires-in-Some-value_place g c =
    let e = c.value_place-in-HeapMerge.ensures.quiet.grows.records _ _ (merge_here g (goal.at.value_place-requires-in-Some-value_place g c).In-HeapMerge) in
    let k = merge_list2 (g.met.H.Heap.lawful c.value_place-in-HeapMerge.new.h).world c.args.s.0 _ _ _ _ e in
    is_there (recs (g.H.Heap.view c.value_place-in-HeapMerge.new.h).seen) c.in-HeapMerge.list2.0 (list_there k)

-- after both lists were looked at
quiet2 : (g : _) (c : After-value_place-in-Some-value_place g) → Quiet (g.H.Heap.view c.args.h.now) (g.H.Heap.view c.value_place-in-Some-value_place.new.h)
quiet2 g c = Quiet_trans c.value_place-in-HeapMerge.ensures.quiet c.value_place-in-Some-value_place.ensures.quiet

pub returns-in-Some-value_place-2-clause-quiet : goal.returns-in-Some-value_place-2-clause-quiet
returns-in-Some-value_place-2-clause-quiet g c = quiet2 g (goal.at.returns-in-Some-value_place-2-clause-quiet g c).After-value_place-in-Some-value_place

pub returns-in-Some-value_place-2-clause-cursor : goal.returns-in-Some-value_place-2-clause-cursor
returns-in-Some-value_place-2-clause-cursor g c = cursor_up _ _ (quiet2 g (goal.at.returns-in-Some-value_place-2-clause-cursor g c).After-value_place-in-Some-value_place).grows c.args.s.0 c.args.cursor.now c.requires.cursor

pub returns-in-Some-value_place-2-clause-answer : goal.returns-in-Some-value_place-2-clause-answer
returns-in-Some-value_place-2-clause-answer g c =
    let m = c.in-HeapMerge in
    let d = (goal.at.returns-in-Some-value_place-2-clause-answer g c).After-value_place-in-Some-value_place in
    let law1 = (g.met.H.Heap.lawful c.value_place-in-HeapMerge.new.h).world in
    let law2 = (g.met.H.Heap.lawful c.value_place-in-Some-value_place.new.h).world in
    let e = (quiet2 g d).grows.records _ _ (merge_here g (goal.at.returns-in-Some-value_place-2-clause-answer g c).In-HeapMerge) in
    let known1 = is_value_up _ _ c.value_place-in-Some-value_place.ensures.quiet.grows m.list1.0 (value_place_is law1 m.list1.0 c.in-Some-value_place.field-0.0 c.in-Some-value_place.ensures.place).known in
    let n = c.merge_places.ensures in
    rw n (merge_ready law2 c.args.s.0 m.list1 m.list2 m.n1 m.n2 e known1 (value_place_is law2 m.list2.0 c.in-Some-value_place-2.field-0.0 c.in-Some-value_place-2.ensures.place).known)

pub returns-in-None-value_place-2-clause-quiet : goal.returns-in-None-value_place-2-clause-quiet
returns-in-None-value_place-2-clause-quiet g c = quiet2 g (goal.at.returns-in-None-value_place-2-clause-quiet g c).After-value_place-in-Some-value_place

pub returns-in-None-value_place-2-clause-cursor : goal.returns-in-None-value_place-2-clause-cursor
returns-in-None-value_place-2-clause-cursor g c = cursor_up _ _ (quiet2 g (goal.at.returns-in-None-value_place-2-clause-cursor g c).After-value_place-in-Some-value_place).grows c.args.s.0 c.args.cursor.now c.requires.cursor

pub returns-in-None-value_place-2-clause-answer : goal.returns-in-None-value_place-2-clause-answer
returns-in-None-value_place-2-clause-answer g c =
    let m = c.in-HeapMerge in
    let d = (goal.at.returns-in-None-value_place-2-clause-answer g c).After-value_place-in-Some-value_place in
    let law = (g.met.H.Heap.lawful c.value_place-in-Some-value_place.new.h).world in
    let e = (quiet2 g d).grows.records _ _ (merge_here g (goal.at.returns-in-None-value_place-2-clause-answer g c).In-HeapMerge) in
    let k = merge_list2 law c.args.s.0 m.list1 m.list2 m.n1 m.n2 e in
    need_of law c.args.s.0 (HeapMerge m.list1 m.list2 m.n1 m.n2) e refl m.list2.0 m.n2 (inr refl) k (place_waits (g.H.Heap.view c.value_place-in-Some-value_place.new.h).seen m.list2.0 (list_there k) c.in-None-value_place-2.ensures.place)
