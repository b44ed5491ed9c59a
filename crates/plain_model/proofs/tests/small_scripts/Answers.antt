use Rattle.std.proofs.Common.{refl}
use Rattle.lazy_rec.specs.ByPlace.{by_place}
use Rattle.lazy_rec.specs.History.{kind_of}
use Rattle.lazy_rec.proofs.ScriptTests.{IsScript-from_test}
use Rattle.plain_model.proofs.tests.small_scripts.Goals as goal

pub compare-requires : goal.compare-requires
unfolding kind_of by_place
compare-requires g c = IsScript-from_test _ refl

pub compare-requires-2 : goal.compare-requires-2
unfolding kind_of by_place
compare-requires-2 g c = IsScript-from_test _ refl

pub compare-requires-3 : goal.compare-requires-3
unfolding kind_of by_place
compare-requires-3 g c = IsScript-from_test _ refl

pub compare-requires-4 : goal.compare-requires-4
unfolding kind_of by_place
compare-requires-4 g c = IsScript-from_test _ refl

pub compare-requires-5 : goal.compare-requires-5
unfolding kind_of by_place
compare-requires-5 g c = IsScript-from_test _ refl

pub compare-requires-6 : goal.compare-requires-6
unfolding kind_of by_place
compare-requires-6 g c = IsScript-from_test _ refl

pub compare-requires-7 : goal.compare-requires-7
unfolding kind_of by_place
compare-requires-7 g c = IsScript-from_test _ refl

pub compare-requires-8 : goal.compare-requires-8
unfolding kind_of by_place
compare-requires-8 g c = IsScript-from_test _ refl

pub compare-requires-9 : goal.compare-requires-9
unfolding kind_of by_place
compare-requires-9 g c = IsScript-from_test _ refl

pub compare-requires-10 : goal.compare-requires-10
unfolding kind_of by_place
compare-requires-10 g c = IsScript-from_test _ refl

pub compare-requires-11 : goal.compare-requires-11
unfolding kind_of by_place
compare-requires-11 g c = IsScript-from_test _ refl

pub compare-requires-12 : goal.compare-requires-12
unfolding kind_of by_place
compare-requires-12 g c = IsScript-from_test _ refl
