use Rattle.lazy_rec.specs.History.{event_of}
use Rattle.dues.proofs.SizeLaws.{bounds_fit}
use Rattle.dues.proofs.sizes.size_bounds_hold.Goals as goal

pub returns-clause-enough : goal.returns-clause-enough
returns-clause-enough c events i = (bounds_fit (event_of events) i).0

pub returns-clause-within : goal.returns-clause-within
returns-clause-within c events i = (bounds_fit (event_of events) i).1
