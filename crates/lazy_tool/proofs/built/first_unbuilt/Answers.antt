use Rattle.std.proofs.Common.{◌+◌, true, false, get_or, ◌∙◌, arith}
use Rattle.lazy_tool.proofs.BuiltLaws.{none_before, one_more, all_built, built_here, no_event}
use Rattle.lazy_tool.proofs.built.first_unbuilt.Goals as goal

pub loop-i-init : goal.loop-i-init
loop-i-init c = none_before c.args.script.now.events

pub loop-i-preserved : goal.loop-i-preserved
loop-i-preserved c =
    let are = c.kinds-kinds.ensures in
    let it = built_here c.args.script.now.events c.events-events.result.now c.kinds-kinds.result.now c.loop-i.i true are.rules.script are.kinds c.events-events.ensures.same c.loop-i-test.true (λ has. c.is_event_built.ensures has ∙ c.if-not-is_event_built.false) in
    one_more c.args.script.now.events c.loop-i.i (get_or c.events-events.result.now c.loop-i.i no_event) c.loop-i.invariant it.0 it.1

pub returns-then-not-is_event_built : goal.returns-then-not-is_event_built
returns-then-not-is_event_built c =
    let are = c.kinds-kinds.ensures in
    let it = built_here c.args.script.now.events c.events-events.result.now c.kinds-kinds.result.now c.loop-i.i false are.rules.script are.kinds c.events-events.ensures.same c.loop-i-test.true (λ has. c.is_event_built.ensures has ∙ c.if-not-is_event_built.true) in
    record { event = get_or c.events-events.result.now c.loop-i.i no_event; here = it.0; unbuilt = it.1; before = c.loop-i.invariant }

pub returns : goal.returns
returns c = all_built c.args.script.now.events c.loop-i.i (omega (arith, c.kinds-kinds.ensures.kinds.many)) c.loop-i.invariant
