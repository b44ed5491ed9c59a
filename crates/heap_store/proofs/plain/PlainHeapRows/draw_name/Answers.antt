use Rattle.std.proofs.Common.{arith, ◌<◌, length}
use Rattle.heap_store.specs.Plain.{IsPlain}
use Rattle.heap_store.proofs.OpenLaws.{named_open}
use Rattle.heap_store.proofs.PlainRows.{named_plain, named_view}
use Rattle.heap_store.proofs.PlainWorlds.{plain_lawful}
use Rattle.heap_store.proofs.plain.PlainHeapRows.draw_name.Goals as goal
use Rattle.heap_store.proofs.plain.PlainHeapRows.draw_name.Goals.{Else-drawn-self, After-push_reserved}

room : (c : Else-drawn-self) → length c.args.self.now.rows.items < c.args.self.now.row_capacity
room c = let h = c.args.self.now in omega (arith, h.plain.rows_fit, c.if-drawn-self.false, c.len-drawn.ensures, h.rows.ok.0)

now_plain : (c : After-push_reserved) → IsPlain c.args.self.now.capacity c.args.self.now.row_capacity c.args.self.now.nodes.shown c.args.self.now.notes.claims c.push_reserved.new.self.items
now_plain c =
    let h = c.args.self.now in
    rw c.push_reserved.ensures.items (named_plain h.capacity h.row_capacity h.nodes.shown h.notes.claims h.rows.items h.plain h.notes.open_rows h.refused h.last (room (goal.at.invariant_of-self-clause-plain c).Else-drawn-self))

pub invariant_of-self-clause-node_room : goal.invariant_of-self-clause-node_room
invariant_of-self-clause-node_room c = c.args.self.now.node_room

pub invariant_of-self-clause-row_room : goal.invariant_of-self-clause-row_room
invariant_of-self-clause-row_room c = omega (arith, c.push_reserved.ensures.capacity, c.args.self.now.row_room)

pub invariant_of-self-clause-plain : goal.invariant_of-self-clause-plain
invariant_of-self-clause-plain c = now_plain c

pub invariant_of-self-clause-law : goal.invariant_of-self-clause-law
invariant_of-self-clause-law c = let h = c.args.self.now in plain_lawful h.capacity h.row_capacity h.nodes.shown h.notes.claims _ (now_plain c) h.notes.open_rows h.refused h.last (named_open h.notes.open_rows h.rows.items c.push_reserved.new.self.items c.push_reserved.ensures.items h.law.open_in) h.law.refused

pub returns-clause-ok : goal.returns-clause-ok
returns-clause-ok c =
    let h = c.args.self.now in
    rw c.push_reserved.ensures.items (named_view h.capacity h.row_capacity h.nodes.shown h.notes.claims h.rows.items h.plain h.notes.open_rows h.refused h.last (room (goal.at.returns-clause-ok c).Else-drawn-self) _ (omega (arith, c.len-drawn.ensures, h.rows.ok.0)))
