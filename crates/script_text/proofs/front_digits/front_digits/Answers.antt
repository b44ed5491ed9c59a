use Rattle.std.proofs.Common.{◌≤◌, ◌∙◌, arith}
use Rattle.script_text.proofs.FrontDigits.{AreFront, are_front, front_value, front_next, front_is}
use Rattle.script_text.proofs.front_digits.front_digits.Goals as goal
use Rattle.script_text.proofs.front_digits.front_digits.Goals.{After-first_eight-eight}

front : (c : After-first_eight-eight) → AreFront c.args.bytes.now c.digits_among-count.result c.first_eight-eight.result
front c = are_front c.args.bytes.now c.worths_of-worths.result c.digits_among-count.result c.first_eight-eight.result (λ k. (c.type_inv.bytes k).fits) c.requires c.worths_of-worths.ensures c.digits_among-count.ensures.few c.digits_among-count.ensures.digits c.first_eight-eight.ensures

pub returns-then-count-le8 : goal.returns-then-count-le8
returns-then-count-le8 c =
    let f = front (goal.at.returns-then-count-le8 c).After-first_eight-eight in
    front_is f _ _ c.if-count-ge1.true (omega (arith, c.if-count-le8.true)) (omega arith) (front_value f _ _ c.if-count-le8.true (omega arith) c.first_digits.ensures)

pub with_digit-nine-requires : goal.with_digit-nine-requires
with_digit-nine-requires c =
    let f = front (goal.at.with_digit-nine-requires c).After-first_eight-eight in
    let ninth = front_next f 8 _ (omega arith) (omega (arith, c.if-count-lt9.false)) (front_value f 8 _ (omega arith) (omega (arith, c.if-count-lt9.false)) c.first_digits-2.ensures) in
    record { small = ninth.small; low = ninth.low; high = ninth.high }

pub returns-then-count-eq9 : goal.returns-then-count-eq9
returns-then-count-eq9 c =
    let f = front (goal.at.returns-then-count-eq9 c).After-first_eight-eight in
    let ninth = front_next f 8 _ (omega arith) (omega (arith, c.if-count-lt9.false)) (front_value f 8 _ (omega arith) (omega (arith, c.if-count-lt9.false)) c.first_digits-2.ensures) in
    front_is f 9 _ (omega arith) (omega arith) c.if-count-lt9.false (c.with_digit-nine.ensures ∙ ninth.value)

pub with_digit-requires : goal.with_digit-requires
with_digit-requires c =
    let f = front (goal.at.with_digit-requires c).After-first_eight-eight in
    let ten : 10 ≤ c.digits_among-count.result = omega (arith, c.if-count-lt9.false, c.if-count-eq9.false) in
    let ninth = front_next f 8 _ (omega arith) (omega (arith, c.if-count-lt9.false)) (front_value f 8 _ (omega arith) (omega (arith, c.if-count-lt9.false)) c.first_digits-2.ensures) in
    let tenth = front_next f 9 _ (omega arith) ten (c.with_digit-nine.ensures ∙ ninth.value) in
    record { small = tenth.small; low = tenth.low; high = tenth.high }

pub returns : goal.returns
returns c =
    let f = front (goal.at.returns c).After-first_eight-eight in
    let ten : 10 ≤ c.digits_among-count.result = omega (arith, c.if-count-lt9.false, c.if-count-eq9.false) in
    let ninth = front_next f 8 _ (omega arith) (omega (arith, c.if-count-lt9.false)) (front_value f 8 _ (omega arith) (omega (arith, c.if-count-lt9.false)) c.first_digits-2.ensures) in
    let tenth = front_next f 9 _ (omega arith) ten (c.with_digit-nine.ensures ∙ ninth.value) in
    front_is f 10 _ (omega arith) (omega arith) ten (c.with_digit.ensures ∙ tenth.value)
