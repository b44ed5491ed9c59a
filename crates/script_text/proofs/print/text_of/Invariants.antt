use Rattle.std.proofs.Common.{◌≡◌, ◌++◌, take}
use Rattle.std.specs.List.{flat_map}
use Rattle.script_text.specs.Text.{header_text, line_text, event_words}
use Rattle.script_text.proofs.print.text_of.Given as goal

abbrev pub invariant-loop-event : goal.invariant-loop-event
invariant-loop-event l = l.out.items ≡ header_text l.fn.form ++ flat_map (λ e. line_text (event_words e)) (take l.event-index l.events)
