use Rattle.std.proofs.Common.{◌≡◌, ◌++◌, ◌∷◌, [], ◌+◌, decimal, take, arith}
use Rattle.report_text.specs.Report.{ended_text}
use Rattle.report_text.proofs.Digits.{name_digits, name_front, line_joined}
use Rattle.report_text.proofs.put_other.Goals as goal

pub overflow_add-digits : goal.overflow_add-digits
overflow_add-digits c = let d = name_digits c.args.name c.digits.result c.args.counter.now c.requires.counter c.ranges.name.fits c.digits.ensures in omega (arith, d.1)

pub put-requires-clause-within : goal.put-requires-clause-within
put-requires-clause-within c = let d = name_digits c.args.name c.digits.result c.args.counter.now c.requires.counter c.ranges.name.fits c.digits.ensures in omega (arith, d.1, c.front.ensures.long)

pub put_ended-requires : goal.put_ended-requires
put_ended-requires c =
    let d = name_digits c.args.name c.digits.result c.args.counter.now c.requires.counter c.ranges.name.fits c.digits.ensures in
    record { room = omega (arith, d.1, c.put.ensures.room, c.requires.room) }

pub put_text-requires : goal.put_text-requires
put_text-requires c =
    let d = name_digits c.args.name c.digits.result c.args.counter.now c.requires.counter c.ranges.name.fits c.digits.ensures in
    omega (arith, d.1, c.put.ensures.room, c.put_ended.ensures.room, c.requires.room)

pub returns : goal.returns
returns c =
    let d = name_digits c.args.name c.digits.result c.args.counter.now c.requires.counter c.ranges.name.fits c.digits.ensures in
    let name : take (c.digits.result + 1) c.front.result.now ≡ decimal c.args.name ++ 32 ∷ [] =
    name_front c.args.name c.digits.result 1 c.args.counter.now c.front.result.now c.requires.counter d.0 (omega (arith, d.1)) c.front.ensures.front in
    rw (c.put_text.ensures.text, c.put_ended.ensures.text, c.put.ensures.text, name) (line_joined c.args.text.now.text (decimal c.args.name) (ended_text c.args.ended))
