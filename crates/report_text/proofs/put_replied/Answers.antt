use Rattle.std.proofs.Common.{◌≡◌, ◌++◌, ◌∷◌, [], ◌+◌, decimal, codes, take, append_assoc, arith}
use Rattle.report_text.specs.Report.{reply_text}
use Rattle.report_text.proofs.Digits.{name_digits, name_front, line_joined}
use Rattle.report_text.proofs.put_replied.Goals as goal

pub overflow_add-digits : goal.overflow_add-digits
overflow_add-digits c = let d = name_digits c.args.name c.digits.result c.args.counter.now c.requires.counter c.ranges.name.fits c.digits.ensures in omega (arith, d.1)

pub put-requires-clause-within : goal.put-requires-clause-within
put-requires-clause-within c = let d = name_digits c.args.name c.digits.result c.args.counter.now c.requires.counter c.ranges.name.fits c.digits.ensures in omega (arith, d.1, c.front.ensures.long)

pub returns-in-Ok : goal.returns-in-Ok
returns-in-Ok c =
    let d = name_digits c.args.name c.digits.result c.args.counter.now c.requires.counter c.ranges.name.fits c.digits.ensures in
    let name : take (c.digits.result + 4) c.front.result.now ≡ decimal c.args.name ++ codes " ok\n" =
    name_front c.args.name c.digits.result 4 c.args.counter.now c.front.result.now c.requires.counter d.0 (omega (arith, d.1)) c.front.ensures.front in
    rw (c.put.ensures.text, name, c.in-Ok.is) (simp append_assoc)

pub overflow_add-digits-in_default : goal.overflow_add-digits-in_default
overflow_add-digits-in_default c = let d = name_digits c.args.name c.digits-in_default.result c.args.counter.now c.requires.counter c.ranges.name.fits c.digits-in_default.ensures in omega (arith, d.1)

pub put-requires-in_default : goal.put-requires-in_default
put-requires-in_default c =
    let d = name_digits c.args.name c.digits-in_default.result c.args.counter.now c.requires.counter c.ranges.name.fits c.digits-in_default.ensures in
    record { within = omega (arith, d.1, c.front-in_default.ensures.long); room = omega (arith, c.front-in_default.ensures.long, c.requires.room) }

pub put_reply-requires : goal.put_reply-requires
put_reply-requires c =
    let d = name_digits c.args.name c.digits-in_default.result c.args.counter.now c.requires.counter c.ranges.name.fits c.digits-in_default.ensures in
    record { room = omega (arith, d.1, c.put-in_default.ensures.room, c.requires.room) }

pub put_text-requires : goal.put_text-requires
put_text-requires c =
    let d = name_digits c.args.name c.digits-in_default.result c.args.counter.now c.requires.counter c.ranges.name.fits c.digits-in_default.ensures in
    omega (arith, d.1, c.put-in_default.ensures.room, c.put_reply.ensures.room, c.requires.room)

pub returns-in_default : goal.returns-in_default
returns-in_default c =
    let d = name_digits c.args.name c.digits-in_default.result c.args.counter.now c.requires.counter c.ranges.name.fits c.digits-in_default.ensures in
    let name : take (c.digits-in_default.result + 1) c.front-in_default.result.now ≡ decimal c.args.name ++ 32 ∷ [] =
    name_front c.args.name c.digits-in_default.result 1 c.args.counter.now c.front-in_default.result.now c.requires.counter d.0 (omega (arith, d.1)) c.front-in_default.ensures.front in
    rw (c.put_text.ensures.text, c.put_reply.ensures.text, c.put-in_default.ensures.text, name) (line_joined c.args.text.now.text (decimal c.args.name) (reply_text c.args.reply))
