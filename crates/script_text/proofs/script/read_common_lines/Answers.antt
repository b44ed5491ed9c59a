use Rattle.std.proofs.Common.{◌+◌}
use Rattle.script_text.proofs.CommonLines.{read_twice}
use Rattle.script_text.proofs.script.read_common_lines.Goals as goal

pub loop-after-init : goal.loop-after-init
loop-after-init c =
    let queues = c.in_ok-rest.ensures in
    let others = c.in_ok-after.ensures in
    record {
      read = read_twice c.args.script.now c.read_queue_lines.new.script c.read_other_lines.new.script (c.args.number.now + 1) (c.read_queue_lines.new.number + 1) (c.read_other_lines.new.number + 1) c.args.bytes.now c.in_ok-rest.rest.now c.in_ok-after.after.now queues others;
      shorter = others.shorter;
    }

pub loop-after-preserved : goal.loop-after-preserved
loop-after-preserved c =
    let queues = c.in_ok-rest-2.ensures in
    let others = c.in_ok-after-2.ensures in
    let script = c.read_queue_lines-in-loop-after.new.script in
    let number = c.read_queue_lines-in-loop-after.new.number + 1 in
    let before = read_twice c.args.script.now c.loop-after.script script (c.args.number.now + 1) (c.loop-after.number + 1) number c.args.bytes.now c.loop-after.after.now c.in_ok-rest-2.rest.now c.loop-after.invariant.read queues in
    record {
      read = read_twice c.args.script.now script c.read_other_lines-in-loop-after.new.script (c.args.number.now + 1) number (c.read_other_lines-in-loop-after.new.number + 1) c.args.bytes.now c.in_ok-rest-2.rest.now c.in_ok-after-2.after.now before others;
      shorter = others.shorter;
    }
