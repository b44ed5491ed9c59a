use Rattle.heap_store.specs.Completion.{elements}
use Rattle.finger_level.proofs.PopNeeds.{one_element}
use Rattle.finger_level.proofs.pops.has_one.Goals as goal

pub returns-clause-one : goal.returns-clause-one
returns-clause-one g c = one_element (elements (g.H.Heap.view c.digit_length.new.h).seen c.args.p.0) c.digit_length.result c.digit_length.ensures.exact
