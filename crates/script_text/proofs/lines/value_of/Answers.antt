use Rattle.std.proofs.Common.{arith}
use Rattle.script_text.proofs.Cuts.{one_more}
use Rattle.script_text.proofs.lines.value_of.Goals as goal

pub overflow_sub-digit : goal.overflow_sub-digit
overflow_sub-digit c =
    let step = one_more c.args.digits.now c.loop-digit.digit-index c.loop-digit.value c.requires.digits c.requires.short (omega arith) c.loop-digit.invariant in omega arith

pub overflow_mul-value : goal.overflow_mul-value
overflow_mul-value c =
    let step = one_more c.args.digits.now c.loop-digit.digit-index c.loop-digit.value c.requires.digits c.requires.short (omega arith) c.loop-digit.invariant in omega arith

pub overflow_add-value : goal.overflow_add-value
overflow_add-value c =
    let step = one_more c.args.digits.now c.loop-digit.digit-index c.loop-digit.value c.requires.digits c.requires.short (omega arith) c.loop-digit.invariant in omega (arith, c.from.ensures)

pub loop-digit-preserved : goal.loop-digit-preserved
loop-digit-preserved c =
    let step = one_more c.args.digits.now c.loop-digit.digit-index c.loop-digit.value c.requires.digits c.requires.short (omega arith) c.loop-digit.invariant in omega (arith, c.from.ensures)
