use Rattle.std.proofs.Common.{◌∙◌, ap, arith}
use Rattle.script_text.specs.Generator.{next_event, bound_of_event}
use Rattle.script_text.proofs.GeneratorLaws.{so_far_none, so_far_follows, so_far_more}
use Rattle.script_text.proofs.generator.made_script.Goals as goal

pub loop-made-init : goal.loop-made-init
loop-made-init c = so_far_none c.args.seed c.new-script.result c.new-bounds.result.items c.new-script.ensures c.new-bounds.ensures.items

pub push-requires-in-loop-made : goal.push-requires-in-loop-made
push-requires-in-loop-made c =
    let event = c.next_event-after.ensures.event ∙ ap (next_event c.loop-made.made c.loop-made.state) c.as_slice.ensures.value in
    so_far_follows c.args.seed c.loop-made.made c.loop-made.script c.loop-made.state c.loop-made.bounds.items c.next_event-after.result.0 (omega arith) c.loop-made.invariant event

pub loop-made-preserved : goal.loop-made-preserved
loop-made-preserved c =
    let e = c.next_event-after.result.0 in
    let event = c.next_event-after.ensures.event ∙ ap (next_event c.loop-made.made c.loop-made.state) c.as_slice.ensures.value in
    let bound = c.bound_of_event-bound.ensures ∙ ap (λ bounds. bound_of_event bounds e) c.as_slice-in-loop-made.ensures.value in
    rw (c.in_ok-push-2.ensures, c.in_ok-push.ensures.items) (so_far_more c.args.seed c.loop-made.made c.loop-made.script c.loop-made.state c.loop-made.bounds.items e c.next_event-after.result.1 c.bound_of_event-bound.result c.loop-made.invariant event c.next_event-after.ensures.state bound)
