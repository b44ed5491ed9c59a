use Rattle.std.proofs.Common.{arith, ◌≤◌, ◌+◌, length}
use Rattle.heap_store.specs.World.{fixed_places}
use Rattle.heap_store.specs.Plain.{IsPlain, open_names}
use Rattle.heap_store.proofs.PlainWorlds.{fixed_drawn, plain_lawful}
use Rattle.heap_store.proofs.OpenLaws.{marked_open}
use Rattle.heap_store.proofs.PlainCounts.{counted_more}
use Rattle.heap_store.proofs.PlainSteps.{reserved_plain, reserved_view}
use Rattle.heap_store.proofs.plain.PlainHeapHeap.reserve.Goals as goal
use Rattle.heap_store.proofs.plain.PlainHeapHeap.reserve.Goals.{Else-k-room, After-draw}

room : (c : Else-k-room) → length c.args.self.now.nodes.shown + c.args.k ≤ fixed_places + c.args.self.now.capacity
room c =
    let h = c.args.self.now in
    omega (arith, h.node_room, c.if-k-room.false, c.room.ensures, c.drawn-drawn.ensures.drawn)

now_plain : (c : After-draw) → IsPlain c.args.self.now.capacity c.args.self.now.row_capacity c.draw.new.self.shown c.args.self.now.notes.claims c.args.self.now.rows.items
now_plain c =
    let h = c.args.self.now in
    rw c.draw.ensures (reserved_plain h.capacity h.row_capacity h.nodes.shown h.notes.claims h.rows.items h.plain h.notes.open_rows h.refused h.last c.args.k (room (goal.at.invariant_of-self-2-clause-plain c).Else-k-room) c.requires)

pub draw-requires : goal.draw-requires
draw-requires c = omega (arith, room (goal.at.draw-requires c).Else-k-room, c.args.self.now.node_room)

pub invariant_of-self-clause-node_room : goal.invariant_of-self-clause-node_room
invariant_of-self-clause-node_room c = c.args.self.now.node_room

pub invariant_of-self-clause-plain : goal.invariant_of-self-clause-plain
invariant_of-self-clause-plain c = rw c.with-self.ensures c.args.self.now.plain

pub invariant_of-self-clause-law : goal.invariant_of-self-clause-law
invariant_of-self-clause-law c =
    let h = c.args.self.now in
    rw c.with-self.ensures (plain_lawful h.capacity h.row_capacity h.nodes.shown h.notes.claims h.rows.items h.plain _ c.saturating_add-self.result _ (marked_open h.notes.open_rows (open_names 1 h.rows.items) h.law.open_in) (λ _. record {
      asked = omega (arith, c.if-k-room.true);
      no_room = omega (arith, fixed_drawn h.capacity h.row_capacity h.nodes.shown h.notes.claims h.rows.items h.plain, h.plain.fits, h.node_room, c.room.ensures, c.if-k-room.true, c.drawn-drawn.ensures.drawn);
      low = omega (arith, h.plain.fits, h.plain.small, h.node_room, c.room.ensures, c.if-k-room.true, c.drawn-drawn.ensures.drawn);
    }))

pub invariant_of-self-2-clause-node_room : goal.invariant_of-self-2-clause-node_room
invariant_of-self-2-clause-node_room c = rw c.draw.ensures c.args.self.now.node_room

pub invariant_of-self-2-clause-plain : goal.invariant_of-self-2-clause-plain
invariant_of-self-2-clause-plain c = now_plain c

pub invariant_of-self-2-clause-counted : goal.invariant_of-self-2-clause-counted
invariant_of-self-2-clause-counted c = let h = c.args.self.now in rw c.draw.ensures (counted_more h.nodes.shown h.work c.args.k h.counted)

pub invariant_of-self-2-clause-law : goal.invariant_of-self-2-clause-law
invariant_of-self-2-clause-law c = let h = c.args.self.now in plain_lawful h.capacity h.row_capacity _ h.notes.claims h.rows.items (now_plain c) h.notes.open_rows h.refused h.last h.law.open_in h.law.refused

pub returns-clause-ok : goal.returns-clause-ok
returns-clause-ok c =
    let h = c.args.self.now in
    let five = fixed_drawn h.capacity h.row_capacity h.nodes.shown h.notes.claims h.rows.items h.plain in
    rw c.draw.ensures (reserved_view h.capacity h.row_capacity h.nodes.shown h.notes.claims h.rows.items h.plain h.notes.open_rows h.refused h.last c.args.k (room (goal.at.returns-clause-ok c).Else-k-room) c.requires c.new.result
    (omega (arith, c.new.ensures.next, c.drawn-drawn.ensures.drawn, five)) (omega (arith, c.new.ensures.end, c.new.ensures.next, c.drawn-drawn.ensures.drawn, five)))
