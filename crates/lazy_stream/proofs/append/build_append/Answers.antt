use Rattle.std.proofs.Common.{arith}
use Rattle.lazy_stream.proofs.Appends.{append_well}
use Rattle.lazy_stream.proofs.append.build_append.Goals as goal

pub build_next-requires-clause-more : goal.build_next-requires-clause-more
build_next-requires-clause-more g c = omega (arith, (append_well (g.met.H.Heap.lawful c.args.h.now).world c.args.s.0 _ _ _ _ _ c.requires.rec).some)
