use Rattle.std.proofs.Common.{◌<◌, arith}
use Rattle.std.proofs.lemmas.Nat.{one_shl, and_mask}
use Rattle.lazy_rec.proofs.fields.field_at.Goals as goal

pub returns-clause-value : goal.returns-clause-value
returns-clause-value c =
    let below : c.args.width < 64 = omega arith in
    rw (one_shl c.args.width 64 below) (and_mask _ _)
