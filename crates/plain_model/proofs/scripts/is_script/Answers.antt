use Rattle.std.proofs.Common.{◌∷◌, ◌++◌, [], List, length, arith, ap, subst, ◌∙◌, sym}
use Rattle.std.proofs.lemmas.Option.{slice_get-get_or}
use Rattle.lazy_rec.specs.declared.events.Kind.{Kind}
use Rattle.plain_model.proofs.ScriptSteps.{SoFar, refused, so_far-more, whole}
use Rattle.plain_model.proofs.scripts.is_script.Goals as goal

pub returns-in_default-clause-each : goal.returns-in_default-clause-each
returns-in_default-clause-each c = λ script.
    let is = slice_get-get_or c.args.events.now c.loop-event.event-index _ c.loop-event-test.true in
    let count = ap length c.as_slice.ensures.value ∙ c.loop-event.invariant.count in
    absurd (refused c.args.events.now c.as_slice.result.now c.loop-event.event-index _ is count (sym c.in_default.is ∙ c.kind_next.ensures) script)

pub loop-event-preserved : goal.loop-event-preserved
loop-event-preserved c =
    let events = c.args.events.now in
    let i = c.loop-event.event-index in
    let kinds = c.as_slice.result.now in
    let kind = c.in-Some.kind in
    let is = slice_get-get_or events i _ c.loop-event-test.true in
    let count = ap length c.as_slice.ensures.value ∙ c.loop-event.invariant.count in
    let so_far = subst (λ (ks : List Kind). SoFar events ks i) (sym c.as_slice.ensures.value) c.loop-event.invariant in
    so_far-more events kinds i _ is count kind (sym c.in-Some.is ∙ c.kind_next.ensures) c.push.new.self.items c.loop-event-test.true so_far
    (c.in_ok-push.ensures.items ∙ ap (λ (ks : List Kind). ks ++ kind ∷ []) (sym c.as_slice.ensures.value))

pub returns-clause-script : goal.returns-clause-script
returns-clause-script c = λ _. whole c.args.events.now c.loop-event.kinds.items c.loop-event.event-index c.loop-event.invariant (omega arith) (omega arith)
