use Rattle.std.proofs.Common.{◌+◌, None}
use Rattle.script_text.proofs.Follow.{follows}
use Rattle.script_text.proofs.CommonLines.{read_none, read_more}
use Rattle.script_text.proofs.script.read_lines.Goals as goal

pub push-requires : goal.push-requires
push-requires c = let s = c.in-Some.ensures in follows c.loop-event.script (λ _. None) s.first s.others c.in-Some.event (s.event (λ _. None))

pub loop-event-init : goal.loop-event-init
loop-event-init c = read_none c.args.script.now (c.args.number.now + 1) c.args.bytes.now

pub loop-event-preserved : goal.loop-event-preserved
loop-event-preserved c =
    let more = c.in_ok-push.ensures in
    rw more (read_more c.args.script.now c.loop-event.script (c.args.number.now + 1) (c.loop-event.number + 1) c.args.bytes.now c.loop-event.rest.now c.in-Some.after.now c.in-Some.event c.loop-event.invariant c.in-Some.ensures)
