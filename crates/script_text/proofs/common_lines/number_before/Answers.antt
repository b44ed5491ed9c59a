use Rattle.std.proofs.Common.{◌≡◌, ◌-◌, take, drop, length, arith}
use Rattle.script_text.proofs.CommonLines.{number_at, after_first_is}
use Rattle.script_text.proofs.common_lines.number_before.Goals as goal

pub returns-in-len1-up : goal.returns-in-len1-up
returns-in-len1-up c =
    let bytes = c.args.bytes.now in
    let count = c.in_ok-value.count in
    let front = c.in_ok-value.ensures in
    let few = front.few in
    let r = take (length bytes - count) (drop count bytes) in
    let here : r ≡ drop count bytes = after_first_is count bytes (omega arith) in
    number_at c.args.form bytes r (take (length r - 1) (drop 1 r)) c.args.end count c.in_ok-value.value (omega arith) front (omega (arith, c.if-value-most_number.false, c.most_number.ensures)) here (after_first_is 1 r c.in-len1-up.len_at_least) c.if-first-end.true
