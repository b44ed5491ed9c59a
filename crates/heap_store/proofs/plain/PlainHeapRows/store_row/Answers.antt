use Rattle.std.proofs.Common.{arith, ◌-◌, slice_set}
use Rattle.heap_store.specs.Plain.{IsPlain}
use Rattle.heap_store.proofs.OpenLaws.{stored_open}
use Rattle.heap_store.proofs.PlainRows.{name_low, row_drawn, stored_plain_at, stored_view_at}
use Rattle.heap_store.proofs.PlainWorlds.{plain_lawful}
use Rattle.heap_store.proofs.plain.PlainHeapRows.store_row.Goals as goal
use Rattle.heap_store.proofs.plain.PlainHeapRows.store_row.Goals.{After-with-self}

now_plain : (c : After-with-self) → IsPlain c.args.self.now.capacity c.args.self.now.row_capacity c.args.self.now.nodes.shown c.args.self.now.notes.claims (slice_set c.args.self.now.rows.items (c.args.name - 1) (slice_set c.index_mut.result.now c.args.word c.args.value))
now_plain c = let h = c.args.self.now in stored_plain_at h.capacity h.row_capacity h.nodes.shown h.notes.claims h.rows.items h.plain h.notes.open_rows h.refused h.last c.args.name c.args.word c.args.value c.requires c.index_mut.result.now c.index_mut.ensures.value

pub overflow_sub-name : goal.overflow_sub-name
overflow_sub-name c = let h = c.args.self.now in name_low h.capacity h.row_capacity h.nodes.shown h.notes.claims h.rows.items h.plain h.notes.open_rows h.refused h.last c.args.name c.args.word c.args.value c.requires

pub index_mut-requires : goal.index_mut-requires
index_mut-requires c = let h = c.args.self.now in omega (arith, row_drawn h.capacity h.row_capacity h.nodes.shown h.notes.claims h.rows.items h.plain h.notes.open_rows h.refused h.last c.args.name c.args.word c.args.value c.requires, h.rows.ok.0)

pub invariant_of-self-clause-node_room : goal.invariant_of-self-clause-node_room
invariant_of-self-clause-node_room c = c.args.self.now.node_room

pub invariant_of-self-clause-plain : goal.invariant_of-self-clause-plain
invariant_of-self-clause-plain c = rw c.with-self.ensures (now_plain c)

pub invariant_of-self-clause-law : goal.invariant_of-self-clause-law
invariant_of-self-clause-law c =
    let h = c.args.self.now in
    rw c.with-self.ensures (plain_lawful h.capacity h.row_capacity h.nodes.shown h.notes.claims _ (now_plain c) _ h.refused h.last
    (stored_open h.capacity h.row_capacity h.nodes.shown h.notes.claims h.rows.items h.plain h.notes.open_rows h.refused h.last c.args.name c.args.word c.args.value c.requires c.index_mut.result.now c.index_mut.ensures.value h.law.open_in) h.law.refused)

pub returns : goal.returns
returns c = let h = c.args.self.now in rw c.with-self.ensures (stored_view_at h.capacity h.row_capacity h.nodes.shown h.notes.claims h.rows.items h.plain h.notes.open_rows h.refused h.last c.args.name c.args.word c.args.value c.requires c.index_mut.result.now c.index_mut.ensures.value)
