use Rattle.std.proofs.Common.{◌∙◌, sym, ap}
use Rattle.std.specs.Prelude.{option_map}
use Rattle.std.proofs.lemmas.Option.{slice_get-map}
use Rattle.script_text.specs.Words.{said_row}
use Rattle.script_text.proofs.words.row_at.Goals as goal

pub returns : goal.returns
returns g c = ap (option_map said_row) c.element.ensures ∙ sym (slice_get-map said_row c.args.rows.now c.args.index)
