use Rattle.std.proofs.Common.{◌≡◌, ◌-◌, ◌++◌, length, replicate, ap, ◌∙◌, arith, ⊎_elim}
use Rattle.std.proofs.lemmas.Bool.{cases_lt}
use Rattle.heap_store.specs.declared.slots.TheConstants.{FREE}
use Rattle.heap_store.proofs.slots.fill_to.Goals as goal

pub returns-clause-items : goal.returns-clause-items
returns-clause-items c =
    let many = length c.args.slots.now.items in
    let ended : c.loop.counter - many ≡ c.args.len - many = ⊎_elim
    (λ l. omega (arith, c.loop.auto.counter-end, c.loop-test.false, c.len-counter.ensures, c.args.slots.now.ok.0))
    (λ l. omega (arith, c.loop.invariant.still l)) (cases_lt many c.args.len) in
    c.loop.invariant.items ∙ ap (λ k. c.args.slots.now.items ++ replicate k FREE) ended
