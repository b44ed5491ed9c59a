use Rattle.std.proofs.Common.{◌≡◌, Some}
use Rattle.lazy_rec.specs.declared.records.Rec.TheVariants.{Deep}
use Rattle.heap_store.specs.World.{recs}
use Rattle.heap_store.proofs.WellNamed.{named_sort}
use Rattle.heap_store.proofs.Steps.{Quiet_trans}
use Rattle.heap_store.proofs.LawfulLaws.{lawful_names}
use Rattle.finger_level.proofs.Found.{digit_grows, deep_read, empty_read, single_read}
use Rattle.finger_level.proofs.reads.read_level.Goals as goal
use Rattle.finger_level.proofs.reads.read_level.Goals.{In-Deep}

here : (g : _) (c : In-Deep g) → recs (g.H.Heap.view c.read.new.self).seen c.args.q.0 ≡ Some (Deep c.in-Deep.left c.in-Deep.middle c.in-Deep.right c.in-Deep.size c.in-Deep.key)
here g c = c.read.ensures.quiet.grows.records _ _ c.in-Deep.ensures.rec

pub read_digit-first-requires : goal.read_digit-first-requires
read_digit-first-requires g c = named_sort (recs (g.H.Heap.view c.read.new.self).seen) c.args.q.0 _ (lawful_names (g.met.H.Heap.lawful c.read.new.self).world c.args.q.0 _ (here g (goal.at.read_digit-first-requires g c).In-Deep)).0

pub read_digit-last-requires : goal.read_digit-last-requires
read_digit-last-requires g c =
    let e = c.read_digit-first.ensures.quiet.grows.records _ _ (here g (goal.at.read_digit-last-requires g c).In-Deep) in
    named_sort (recs (g.H.Heap.view c.read_digit-first.new.h).seen) c.args.q.0 _ (lawful_names (g.met.H.Heap.lawful c.read_digit-first.new.h).world c.args.q.0 _ e).1.1.0

pub returns-in-TEmpty-clause-read : goal.returns-in-TEmpty-clause-read
returns-in-TEmpty-clause-read g c = empty_read (g.met.H.Heap.lawful c.read.new.self).world c.args.q.0 (c.read.ensures.quiet.grows.records _ _ c.in-TEmpty.ensures.rec)

pub returns-in-Single-clause-read : goal.returns-in-Single-clause-read
returns-in-Single-clause-read g c = single_read (g.met.H.Heap.lawful c.read.new.self).world c.args.q.0 c.in-Single.elem _ _ (c.read.ensures.quiet.grows.records _ _ c.in-Single.ensures.rec)

pub returns-in-Deep-clause-quiet : goal.returns-in-Deep-clause-quiet
returns-in-Deep-clause-quiet g c = Quiet_trans c.read.ensures.quiet (Quiet_trans c.read_digit-first.ensures.quiet c.read_digit-last.ensures.quiet)

pub returns-in-Deep-clause-read : goal.returns-in-Deep-clause-read
returns-in-Deep-clause-read g c =
    let first = c.read_digit-first.ensures.quiet.grows in
    let last = c.read_digit-last.ensures.quiet.grows in
    let r = c.in-Deep in
    let e = last.records _ _ (first.records _ _ (here g (goal.at.returns-in-Deep-clause-read g c).In-Deep)) in
    deep_read (g.met.H.Heap.lawful c.read_digit-last.new.h).world c.args.q.0 r.left r.middle r.right r.size r.key c.read_digit-first.result c.read_digit-last.result e
    (digit_grows last r.left.0 _ (digit_grows first r.left.0 _ c.read_digit-first.ensures.shown)) (digit_grows last r.right.0 _ c.read_digit-last.ensures.shown)
