use Rattle.finger_level.proofs.near_draws.put_made.Goals as goal

pub returns : goal.returns
returns g c =
    let q = c.drawn_level-level.ensures.quiet in
    let d = c.drawn_level-level.ensures.drawn in
    record {
      then_view = g.H.Heap.view c.drawn_level-level.new.h;
      quiet = q;
      law = (g.met.H.Heap.lawful c.drawn_level-level.new.h).world;
      level = c.drawn_level-level.result;
      drawn = d;
      put = c.put_level.ensures.put;
      keys = c.put_level.ensures.keys;
    }
