use Rattle.std.proofs.Common.{◌∙◌, arith}
use Rattle.finger_level.proofs.Found.{digit_count}
use Rattle.finger_level.proofs.Records.{digit_counts}
use Rattle.finger_level.proofs.reads.digit_length.Goals as goal

pub returns-clause-exact : goal.returns-clause-exact
returns-clause-exact g c = c.from.ensures ∙ (let r = c.in-Digit in digit_count (g.met.H.Heap.lawful c.read.new.self).world c.args.p.0 r.count r.e1 r.e2 r.e3 r.e4 r.size r.key (c.read.ensures.quiet.grows.records _ _ r.ensures.rec))

pub returns-clause-most : goal.returns-clause-most
returns-clause-most g c =
    let r = c.in-Digit in
    let e = c.read.ensures.quiet.grows.records _ _ r.ensures.rec in
    let n = digit_counts r.count r.e1 r.e2 r.e3 r.e4 r.size r.key ((g.met.H.Heap.lawful c.read.new.self).world.each c.args.p.0 _ e).range in
    omega (arith, c.from.ensures, n.most)
