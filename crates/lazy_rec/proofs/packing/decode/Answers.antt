use Rattle.std.proofs.Common.{ap, ◌∙◌}
use Rattle.lazy_rec.specs.Shown.{shown}
use Rattle.lazy_rec.proofs.Shown.{shown-words_of}
use Rattle.lazy_rec.proofs.packing.decode.Goals as goal

pub returns-clause-packed : goal.returns-clause-packed
returns-clause-packed c = λ r h w. c.shown.ensures ∙ ap shown w ∙ shown-words_of r h
