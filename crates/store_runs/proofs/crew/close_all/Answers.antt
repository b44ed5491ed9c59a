use Rattle.std.proofs.Common.{List, map, refl, sym, ap, ◌∙◌, arith, subst, ⊎_elim}
use Rattle.std.specs.Prelude.{slice_get}
use Rattle.std.specs.Vec.{vec_len}
use Rattle.heap_store.specs.Growth.{Grows}
use Rattle.heap_store.specs.View.{View}
use Rattle.word_store.specs.declared.pass.Pass.{Pass}
use Rattle.word_store.specs.Passes.{sight_of, view_of}
use Rattle.word_store.specs.Joined.{MayClose}
use Rattle.word_store.specs.Closing.{IsClosing}
use Rattle.word_store.specs.Stores.{place_count, row_count, caller_count}
use Rattle.store_runs.proofs.Handed.{got_push, one_handed, all_handed, none_left, got_after, still_ordered, all_ordered}
use Rattle.store_runs.proofs.crew.close_all.Goals as goal

pub loop-caller-preserved : goal.loop-caller-preserved
loop-caller-preserved g c = let i = c.loop-caller.invariant in let r = c.in-Some.caller in record {
  many = omega (arith, i.many, c.in-Some.ensures.len, c.in-Ok.ensures.len);
  idle = λ j p e. ⊎_elim (i.idle j p) (λ is. subst (λ (q : Pass). MayClose (sight_of q).hand) is.0 (record { claims = r.claims; reserved = r.reserved; rows = r.rows }))
      (got_push (λ q. q.pass) c.loop-caller.passes.items r.heap j p (ap (λ l. slice_get (map (λ q. q.pass) l) j) (sym c.in-Ok.ensures.items) ∙ e));
  order = still_ordered (λ t. t.heap.pass) (λ q. q.pass) (map (λ t. t.heap.pass) c.args.callers.items) c.loop-caller.callers.items c.pop.new.self.items r c.loop-caller.passes.items c.push.new.self.items r.heap
      c.in-Some.ensures.items c.in-Ok.ensures.items refl i.order;
  handed = one_handed (λ t. view_of t.heap.pass) (λ q. view_of q.pass) (map (λ t. view_of t.heap.pass) c.args.callers.items) c.loop-caller.callers.items c.pop.new.self.items r c.loop-caller.passes.items c.push.new.self.items r.heap
      c.in-Some.ensures.items c.in-Ok.ensures.items refl i.handed;
}

pub returns-in-Ok-close-clause-seen : goal.returns-in-Ok-close-clause-seen
returns-in-Ok-close-clause-seen g c j v e =
    let closing = c.in-Ok-close.ensures.ok in
    let left = none_left c.pop.result (vec_len c.pop.new.self) (vec_len c.loop-caller.callers) c.in_default.not-Some c.pop.ensures.cases in
    let t = all_handed (λ r. view_of r.heap.pass) (map (λ r. view_of r.heap.pass) c.args.callers.items) c.loop-caller.callers.items (map (λ q. view_of q.pass) c.loop-caller.passes.items) (omega (arith, left, c.loop-caller.callers.ok.0)) c.loop-caller.invariant.handed j v e in
    let u = got_after (λ q. q.pass) view_of c.loop-caller.passes.items t.0 v t.1 in
    subst (λ (w : View). Grows w.seen c.in-Ok-close.closed.world) u.2 (closing.seen t.0 u.0 u.1)

pub returns-in-Ok-close-clause-closing : goal.returns-in-Ok-close-clause-closing
returns-in-Ok-close-clause-closing g c =
    let store = c.args.store in
    let left = none_left c.pop.result (vec_len c.pop.new.self) (vec_len c.loop-caller.callers) c.in_default.not-Some c.pop.ensures.cases in
    subst (λ (ps : List Pass). IsClosing (place_count store) (row_count store) (caller_count store) ps c.in-Ok-close.closed)
    (all_ordered (λ r. r.heap.pass) (map (λ r. r.heap.pass) c.args.callers.items) c.loop-caller.callers.items (map (λ q. q.pass) c.loop-caller.passes.items) (omega (arith, left, c.loop-caller.callers.ok.0)) c.loop-caller.invariant.order)
    c.in-Ok-close.ensures.ok
