use Rattle.std.proofs.Common.{refl}
use Rattle.lazy_rec.specs.ByPlace.{by_place}
use Rattle.lazy_rec.specs.History.{kind_of}
use Rattle.lazy_rec.proofs.ScriptTests.{IsScript-from_test}
use Rattle.plain_model.proofs.tests.splits_and_wide_items.Goals as goal

pub compare-requires : goal.compare-requires
unfolding kind_of by_place
compare-requires g c = IsScript-from_test _ refl

pub compare-requires-2 : goal.compare-requires-2
unfolding kind_of by_place
compare-requires-2 g c = IsScript-from_test _ refl

pub compare-requires-3 : goal.compare-requires-3
unfolding kind_of by_place
compare-requires-3 g c = IsScript-from_test _ refl
