use Rattle.finger_level.proofs.Weighing.{Weighing}
use Rattle.finger_level.proofs.puts.weigh_all.Given as goal

abbrev pub invariant-loop-e : goal.invariant-loop-e
invariant-loop-e g l = Weighing (g.H.Heap.view l.initial.h) (g.H.Heap.view l.h) l.es l.e-index l.size l.key
