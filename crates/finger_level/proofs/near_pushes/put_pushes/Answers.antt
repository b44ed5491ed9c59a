use Rattle.std.proofs.Common.{◌≡◌, true}
use Rattle.heap_store.specs.World.{recs, holds}
use Rattle.heap_store.proofs.Steps.{Quiet_trans}
use Rattle.finger_level.specs.Reads.{is_tree_value, is_element}
use Rattle.finger_level.proofs.Betweens.{there_later}
use Rattle.finger_level.proofs.NearPushes.{pushed_back, weight_up}
use Rattle.finger_level.proofs.near_pushes.put_pushes.Goals as goal
use Rattle.finger_level.proofs.near_pushes.put_pushes.Goals.{In-One}

-- the one element
one : (g : _) (c : In-One g) → holds (recs (g.H.Heap.view c.args.h.now).seen) c.in-One.e.0 is_element ≡ true
one g c = (rw c.in-One.is at c.requires.elements).0

pub put_pushed-requires-clause-value : goal.put_pushed-requires-clause-value
put_pushed-requires-clause-value g c = there_later c.weigh-own.ensures.quiet.grows is_tree_value c.args.root.0 c.requires.value

pub put_pushed-requires-clause-element : goal.put_pushed-requires-clause-element
put_pushed-requires-clause-element g c = there_later c.weigh-own.ensures.quiet.grows is_element c.in-One.e.0 (one g (goal.at.put_pushed-requires-clause-element g c).In-One)

pub put_pushed-requires-clause-weight : goal.put_pushed-requires-clause-weight
put_pushed-requires-clause-weight g c = weight_up (g.met.H.Heap.lawful c.args.h.now).world c.weigh-own.ensures.quiet.grows c.in-One.e.0 c.weigh-own.result (one g (goal.at.put_pushed-requires-clause-weight g c).In-One) c.weigh-own.ensures.weight

pub put_pushed-requires-clause-ask : goal.put_pushed-requires-clause-ask
put_pushed-requires-clause-ask g c = λ v q law level m. c.requires.ask v (Quiet_trans c.weigh-own.ensures.quiet q) law level (rw c.in-One.is m)

pub returns-in-One : goal.returns-in-One
returns-in-One g c = rw c.in-One.is (pushed_back c.weigh-own.ensures.quiet c.put_pushed.ensures)
