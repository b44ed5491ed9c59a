use Rattle.std.proofs.Common.{◌≡◌, ◌+◌, ◌<◌, ◌∙◌, arith, suc, Some}
use Rattle.lazy_rec.specs.declared.records.Rec.TheVariants.{Reverse}
use Rattle.heap_store.specs.World.{recs}
use Rattle.heap_store.specs.Lawful.{walk}
use Rattle.heap_store.proofs.GrowthLaws.{value_up}
use Rattle.heap_store.proofs.RecordLaws.{walk_up}
use Rattle.heap_store.proofs.ReadLaws.{is_there}
use Rattle.heap_store.proofs.ValueLaws.{place_waits}
use Rattle.heap_store.proofs.CellLaws.{item_cell}
use Rattle.heap_store.proofs.Steps.{Quiet_refl, Quiet_trans}
use Rattle.lazy_stream.proofs.Streams.{stream_there}
use Rattle.lazy_stream.proofs.Walks.{walk_next}
use Rattle.lazy_stream.proofs.Reversals.{cursor_stands, cursor_at, cursor_goes_on, Standing, standing, StandingValue, standing_value, passed_most, reversal_need, reversal_ready}
use Rattle.lazy_stream.proofs.reversal.prepare_reversal.Goals as goal
use Rattle.lazy_stream.proofs.reversal.prepare_reversal.Goals.{In-Some, After-value_place, After-loop-i}

pub loop-i-init : goal.loop-i-init
loop-i-init g c = record {
  quiet = Quiet_refl (g.H.Heap.view c.args.h.now);
  at = cursor_stands (g.H.Heap.view c.args.h.now).seen c.args.s.0 c.args.of.xs c.args.of.left c.args.cursor.now c.requires.rec c.requires.cursor c.stands_at-place.result c.stands_at-place.ensures.first c.stands_at-place.ensures.later;
}

pub value_place-requires : goal.value_place-requires
value_place-requires g c =
    let rs = recs (g.H.Heap.view c.loop-i.h).seen in
    let t = standing (g.met.H.Heap.lawful c.loop-i.h).world c.args.s.0 c.args.of.xs c.args.of.left c.loop-i.place.0 c.loop-i.i (c.loop-i.invariant.quiet.grows.records _ _ c.requires.rec) c.loop-i.invariant.at (omega arith) in
    is_there rs c.loop-i.place.0 (stream_there rs c.loop-i.place.0 t.stream)

-- where the prepare stands, in the view after the state was loaded
at : (g : _) (c : After-value_place g) → walk (g.H.Heap.view c.value_place.new.h).seen c.loop-i.i c.args.of.xs.0 ≡ Some c.loop-i.place.0
at g c = walk_up (g.H.Heap.view c.loop-i.h).seen (g.H.Heap.view c.value_place.new.h).seen c.value_place.ensures.quiet.grows c.loop-i.i c.args.of.xs.0 c.loop-i.place.0 c.loop-i.invariant.at

here : (g : _) (c : After-value_place g) → recs (g.H.Heap.view c.value_place.new.h).seen c.args.s.0 ≡ Some (Reverse c.args.of.xs c.args.of.left)
here g c = c.value_place.ensures.quiet.grows.records _ _ (c.loop-i.invariant.quiet.grows.records _ _ c.requires.rec)

turn : (g : _) (c : After-value_place g) → c.loop-i.i < c.args.of.left → Standing (g.H.Heap.view c.value_place.new.h).seen c.loop-i.place.0
turn g c low = standing (g.met.H.Heap.lawful c.value_place.new.h).world c.args.s.0 c.args.of.xs c.args.of.left c.loop-i.place.0 c.loop-i.i (here g c) (at g c) low

pub returns-in-None-clause-quiet : goal.returns-in-None-clause-quiet
returns-in-None-clause-quiet g c = Quiet_trans c.loop-i.invariant.quiet c.value_place.ensures.quiet

pub returns-in-None-clause-cursor : goal.returns-in-None-clause-cursor
returns-in-None-clause-cursor g c = let d = (goal.at.returns-in-None-clause-cursor g c).After-value_place in cursor_at (g.H.Heap.view c.value_place.new.h).seen c.args.s.0 c.args.of.xs c.args.of.left c.loop-i.place c.loop-i.i (here g d) (at g d)

pub returns-in-None-clause-goes_on : goal.returns-in-None-clause-goes_on
returns-in-None-clause-goes_on g c = cursor_goes_on (g.H.Heap.view c.value_place.new.h).seen c.args.of.xs c.args.of.left c.loop-i.place c.loop-i.place c.loop-i.i (at g (goal.at.returns-in-None-clause-goes_on g c).After-value_place)

pub returns-in-None-clause-answer : goal.returns-in-None-clause-answer
returns-in-None-clause-answer g c =
    let d = (goal.at.returns-in-None-clause-answer g c).After-value_place in
    let there = stream_there (recs (g.H.Heap.view c.value_place.new.h).seen) c.loop-i.place.0 (turn g d (omega arith)).stream in
    reversal_need (g.met.H.Heap.lawful c.value_place.new.h).world c.args.s.0 c.args.of.xs c.args.of.left c.loop-i.place.0 c.loop-i.i (here g d) (at g d) (omega arith) (place_waits (g.H.Heap.view c.value_place.new.h).seen c.loop-i.place.0 there c.in-None.ensures.place)

-- the value that is read
value : (g : _) (c : In-Some g) → Standing (g.H.Heap.view c.value_place.new.h).seen c.loop-i.place.0 → StandingValue (g.H.Heap.view c.value_place.new.h).seen c.loop-i.place.0 c.in-Some.value.0
value g c t = standing_value (g.met.H.Heap.lawful c.value_place.new.h).world c.loop-i.place.0 c.in-Some.value.0 t c.in-Some.ensures.place

pub first_cell-cell-requires : goal.first_cell-cell-requires
first_cell-cell-requires g c = let d = goal.at.first_cell-cell-requires g c in let v = value g d.In-Some (turn g d.After-value_place (omega arith)) in record { stream = v.stream; known = v.known; some = v.some }

pub loop-i-preserved : goal.loop-i-preserved
loop-i-preserved g c =
    let n = goal.at.loop-i-preserved g c in
    let d = n.After-value_place in
    let q = c.first_cell-cell.ensures.quiet in
    let t = turn g d (omega arith) in
    let v = value g n.In-Some t in
    let cell = item_cell (g.met.H.Heap.lawful c.value_place.new.h).world c.loop-i.place.0 _ _ _ t.items (v.same ∙ c.first_cell-cell.ensures.cell) in
    let w = (g.H.Heap.view c.first_cell-cell.new.h).seen in
    let later = walk_up (g.H.Heap.view c.value_place.new.h).seen w q.grows c.loop-i.i c.args.of.xs.0 c.loop-i.place.0 (at g d) in
    let e : c.loop-i.i + 1 ≡ suc c.loop-i.i = omega arith in
    record {
      quiet = Quiet_trans c.loop-i.invariant.quiet (Quiet_trans c.value_place.ensures.quiet q);
      at = rw e (walk_next w c.args.of.xs.0 c.loop-i.i c.loop-i.place.0 c.first_cell-cell.result.value c.first_cell-cell.result.rest later (value_up _ _ q.grows c.loop-i.place.0 _ cell));
    }

-- where it stands at the end
at_end : (g : _) (c : After-loop-i g) → walk (g.H.Heap.view c.loop-i.h).seen c.args.of.left c.args.of.xs.0 ≡ Some c.loop-i.place.0
at_end g c =
    let most = passed_most (g.met.H.Heap.lawful c.loop-i.h).world c.args.s.0 c.args.of.xs c.args.of.left c.loop-i.place.0 c.loop-i.i (c.loop-i.invariant.quiet.grows.records _ _ c.requires.rec) c.loop-i.invariant.at in
    let same : c.loop-i.i ≡ c.args.of.left = omega (arith, most) in
    rw same at c.loop-i.invariant.at

pub returns-clause-cursor : goal.returns-clause-cursor
returns-clause-cursor g c = cursor_at (g.H.Heap.view c.loop-i.h).seen c.args.s.0 c.args.of.xs c.args.of.left c.loop-i.place c.args.of.left (c.loop-i.invariant.quiet.grows.records _ _ c.requires.rec) (at_end g (goal.at.returns-clause-cursor g c).After-loop-i)

pub returns-clause-answer : goal.returns-clause-answer
returns-clause-answer g c = reversal_ready (g.met.H.Heap.lawful c.loop-i.h).world c.args.s.0 c.args.of.xs c.args.of.left c.loop-i.place.0 (c.loop-i.invariant.quiet.grows.records _ _ c.requires.rec) (at_end g (goal.at.returns-clause-answer g c).After-loop-i)
