use Rattle.std.proofs.Common.{refl}
use Rattle.lazy_rec.specs.ByPlace.{by_place}
use Rattle.lazy_rec.specs.History.{kind_of}
use Rattle.lazy_rec.proofs.ScriptTests.{IsScript-from_test}
use Rattle.plain_model.proofs.tests.each_operation_of_each_kind.Goals as goal

pub compare-requires : goal.compare-requires
unfolding kind_of by_place
compare-requires g c = IsScript-from_test _ refl
