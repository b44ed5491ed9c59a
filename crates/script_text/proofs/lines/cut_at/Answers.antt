use Rattle.std.proofs.Common.{◌≡◌, ◌+◌, length, sym, arith}
use Rattle.std.proofs.lemmas.List.{take_rest, take_all, drop_all}
use Rattle.script_text.proofs.Cuts.{first_place}
use Rattle.script_text.proofs.lines.cut_at.Goals as goal

pub returns-then-b-at-clause-front : goal.returns-then-b-at-clause-front
returns-then-b-at-clause-front c =
    let e = first_place c.args.bytes.now c.args.at c.loop-i.i (omega arith) c.loop-i.invariant (λ _. c.if-b-at.true) in rw e

pub returns-then-b-at-clause-rest : goal.returns-then-b-at-clause-rest
returns-then-b-at-clause-rest c =
    let e = first_place c.args.bytes.now c.args.at c.loop-i.i (omega arith) c.loop-i.invariant (λ _. c.if-b-at.true) in rw e (take_rest c.args.bytes.now (c.loop-i.i + 1))

pub returns-clause-front : goal.returns-clause-front
returns-clause-front c =
    let i : c.loop-i.i ≡ length c.args.bytes.now = omega arith in
    let e = first_place c.args.bytes.now c.args.at c.loop-i.i (omega arith) c.loop-i.invariant (λ h. absurd (omega arith)) in rw e (sym (take_all c.loop-i.i c.args.bytes.now (omega arith)))

pub returns-clause-rest : goal.returns-clause-rest
returns-clause-rest c =
    let i : c.loop-i.i ≡ length c.args.bytes.now = omega arith in
    let e = first_place c.args.bytes.now c.args.at c.loop-i.i (omega arith) c.loop-i.invariant (λ h. absurd (omega arith)) in rw e (sym (drop_all (c.loop-i.i + 1) c.args.bytes.now (omega arith)))
