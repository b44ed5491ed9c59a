use Rattle.std.proofs.Common.{arith, [], ◌∷◌}
use Rattle.lazy_rec.proofs.FieldWords.{or-shifted_number}
use Rattle.lazy_rec.proofs.fields.word2.Goals as goal

pub returns : goal.returns
returns c = or-shifted_number c.args.first (c.args.second ∷ []) c.args.second.1 c.requires.first_fits (c.requires.second_fits, tt) (omega arith) (omega arith)
