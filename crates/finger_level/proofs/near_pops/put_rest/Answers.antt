use Rattle.finger_level.proofs.Keying.{keyed_up}
use Rattle.finger_level.proofs.near_pops.put_rest.Goals as goal

pub returns : goal.returns
returns g c =
    let law = (g.met.H.Heap.lawful c.args.h.now).world in
    let law1 = (g.met.H.Heap.lawful c.popped_level.new.h).world in
    let q = c.popped_level.ensures.quiet in
    let r = c.in-Rest.ensures.popped in
    record {
      then_view = g.H.Heap.view c.popped_level.new.h;
      quiet = q;
      law = law1;
      element = c.in-Rest.element.0;
      level = c.in-Rest.level;
      rest = r;
      put = c.put_level.ensures.put;
      keys = λ h e. c.put_level.ensures.keys (r.keyed c.args.keyed (keyed_up law q.grows c.args.keyed c.args.root.0 h)) e;
    }
