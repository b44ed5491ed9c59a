use Rattle.std.proofs.Common.{sym, arith, subst}
use Rattle.heap_store.specs.RowCalls.{MayStore, Stored}
use Rattle.word_store.specs.Passes.{view_of}
use Rattle.word_store.proofs.PassSteps.{name_row}
use Rattle.word_store.proofs.PassRows.{name_high, stored_view}
use Rattle.word_store.proofs.rows.PassRows.store_row.Goals as goal

pub store-requires-clause-low : goal.store-requires-clause-low
store-requires-clause-low c = (name_high c.args.self.now c.args.name c.args.word c.args.value c.requires).0

pub store-requires-clause-high : goal.store-requires-clause-high
store-requires-clause-high c = (name_high c.args.self.now c.args.name c.args.word c.args.value c.requires).1

pub returns-clause-stored : goal.returns-clause-stored
returns-clause-stored c = let p = c.args.self.now in let q = c.store.new.self in let low = (name_high p c.args.name c.args.word c.args.value c.requires).0 in let r = name_row c.args.name low in
    subst (λ n. Stored (view_of p) (view_of q) n c.args.word c.args.value) (sym r.1)
    (stored_view p q r.0 c.args.word c.args.value (c.store.ensures.play r.0 (omega (arith, r.1))) c.store.ensures.stays (subst (λ n. MayStore (view_of p) n c.args.word c.args.value) r.1 c.requires))
