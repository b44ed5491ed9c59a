use Rattle.std.proofs.Common.{sym, subst}
use Rattle.finger_level.specs.Few.{few_at}
use Rattle.finger_level.specs.Reads.{IsWeighedAt}
use Rattle.finger_level.proofs.Found.{weighed_at}
use Rattle.finger_level.proofs.reads.read_weighed.Goals as goal

pub returns-clause-weighed : goal.returns-clause-weighed
returns-clause-weighed g c =
    let r = c.in-Digit in
    subst (λ f. IsWeighedAt (g.H.Heap.view c.args.h.now).seen c.args.p.0 (record { few = f; weight = record { size = r.size; key = r.key } })) {x = few_at r.count r.e1 r.e2 r.e3 r.e4} (sym c.few_elements.ensures) (weighed_at (g.met.H.Heap.lawful c.args.h.now).world c.args.p.0 r.count r.e1 r.e2 r.e3 r.e4 r.size r.key r.ensures.rec)
