use Rattle.std.proofs.lemmas.Option.{IfSome_then}
use Rattle.script_text.proofs.common_lines.queue_event.Goals as goal

pub returns-in-Some : goal.returns-in-Some
returns-in-Some c = IfSome_then c.argument_line.result c.argument_line.ensures (λ r all. all c.args.bytes.now c.in-Some.ensures)
