use Rattle.std.proofs.Common.{◌≡◌, ℕ, ◌-◌, ◌<◌, ◌∙◌, arith, eqb, leb, cond, Bool, true, false, refl, None}
use Rattle.std.specs.Prelude.{slice_get, option_map}
use Rattle.std.proofs.lemmas.Bool.{true≢false}
use Rattle.lazy_rec.specs.declared.events.Op.TheVariants as ops
use Rattle.lazy_rec.specs.Numbering.{kind_of_number, numbered_ops, op_of_number}
use Rattle.lazy_rec.proofs.events.Op.of_number.Goals as goal

-- a number from 1 to 31 is looked up in the table
low_op : (n : ℕ) → n < 32 → (n ≡ 0 → ⊥) → slice_get numbered_ops (n - 1) ≡ op_of_number n
low_op n l z = by (leb 32 n) (eqb n 0) (grind arith) (grind arith)
  where
    by : (b c : Bool) → b ≡ false → c ≡ false → slice_get numbered_ops (n - 1) ≡ cond b (option_map ops.New (kind_of_number (n - 32))) (cond c None (slice_get numbered_ops (n - 1)))
    by true c e f = absurd (true≢false e)
    by false true e f = absurd (true≢false f)
    by false false e f = refl

pub returns-else-number-eq0 : goal.returns-else-number-eq0
returns-else-number-eq0 c =
    let looked : c.element.result ≡ slice_get numbered_ops (c.args.number - 1) = c.element.ensures in
    looked ∙ low_op c.args.number c.if-number-ge32.false c.if-number-eq0.false
