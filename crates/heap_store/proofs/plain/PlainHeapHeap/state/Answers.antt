use Rattle.lazy_rec.specs.Named.{is_pending}
use Rattle.heap_store.proofs.PlainReads.{shown_read, state_read}
use Rattle.heap_store.proofs.plain.PlainHeapHeap.state.Goals as goal

pub state-requires : goal.state-requires
state-requires c = let h = c.args.self.now in shown_read h.capacity h.row_capacity h.nodes.shown h.rows.items c.args.s.0 is_pending c.requires

pub returns-clause-state : goal.returns-clause-state
returns-clause-state c = let h = c.args.self.now in state_read h.capacity h.row_capacity h.nodes.shown h.rows.items c.args.s.0 is_pending c.state.result c.requires c.state.ensures
