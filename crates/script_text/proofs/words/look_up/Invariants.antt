use Rattle.std.proofs.Common.{◌≡◌, drop, map}
use Rattle.script_text.specs.Words.{said_row, look}
use Rattle.script_text.proofs.words.look_up.Given as goal

abbrev pub invariant-loop-text : goal.invariant-loop-text
invariant-loop-text g l = look l.word (map said_row (drop l.text-index l.rows)) ≡ look l.word (map said_row l.rows)
