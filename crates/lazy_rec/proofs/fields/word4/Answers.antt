use Rattle.std.proofs.Common.{arith, [], ◌∷◌}
use Rattle.lazy_rec.proofs.FieldWords.{or-shifted_number}
use Rattle.lazy_rec.proofs.fields.word4.Goals as goal

pub returns : goal.returns
returns c = or-shifted_number c.args.first (c.args.second ∷ c.args.third ∷ c.args.fourth ∷ []) c.word3.result c.requires.first_fits (c.requires.second_fits, (c.requires.third_fits, (c.requires.fourth_fits, tt))) (omega arith) c.word3.ensures
