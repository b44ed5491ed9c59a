use Rattle.std.proofs.Common.{ap, sym, ◌∙◌}
use Rattle.lazy_rec.specs.Shown.{shown}
use Rattle.lazy_rec.proofs.Shown.{shown-words_of}
use Rattle.lazy_rec.proofs.packing.words_determine_record.Goals as goal

pub returns : goal.returns
returns c = sym (shown-words_of c.args.first.now c.requires.first_fits) ∙ ap shown c.requires.same_words ∙ shown-words_of c.args.second.now c.requires.second_fits
