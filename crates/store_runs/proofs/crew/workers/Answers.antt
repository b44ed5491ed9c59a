use Rattle.std.proofs.Common.{◌+◌, map, sym, ap, ◌∙◌, arith, subst}
use Rattle.word_store.specs.declared.pass.Pass.{Pass}
use Rattle.word_store.specs.Passes.{view_of}
use Rattle.word_store.specs.Stores.{next_caller, caller_count, place_count, row_count}
use Rattle.store_runs.specs.Crews.{AreFresh}
use Rattle.store_runs.proofs.Fresh.{fresh_more, fresh_pass}
use Rattle.store_runs.proofs.crew.workers.Goals as goal

pub loop-preserved : goal.loop-preserved
loop-preserved g c =
    let i = c.loop.invariant in
    let t = c.args.store.now in
    let number = next_caller t + c.loop.counter in
    let v = view_of c.new.result.pass in
    let own = fresh_pass c.new-pass.result v c.caller-caller.result (place_count c.loop.store) (place_count t) (row_count c.loop.store) (row_count t) (caller_count c.loop.store) (caller_count t) (next_caller c.loop.store) number
    c.new-pass.ensures (ap (λ (q : Pass). (view_of q).about.caller) c.new.ensures ∙ c.caller-caller.ensures) (ap view_of c.new.ensures ∙ c.in-Ok.ensures.ok) i.places i.rows i.callers i.next in
    record {
      many = omega (arith, i.many, c.in-Ok-push.ensures.len);
      next = omega (arith, i.next, c.in-Ok.ensures.next);
      callers = c.pass.ensures.store.callers ∙ i.callers;
      places = c.pass.ensures.store.nodes ∙ i.places;
      rows = c.pass.ensures.store.rows ∙ i.rows;
      name = c.pass.ensures.store.id ∙ i.name;
      fresh = subst (λ l. AreFresh (place_count t) (row_count t) (caller_count t) (next_caller t) (map (λ w. w.pass) l)) (sym c.in-Ok-push.ensures.items)
          (fresh_more (place_count t) (row_count t) (caller_count t) (next_caller t) (λ w. w.pass) c.loop.all.items _ c.loop.counter (omega (arith, c.loop.all.ok.0, i.many)) i.fresh own);
    }
