use Rattle.std.proofs.Common.{zero, suc, refl, arith}
use Rattle.lazy_rec.specs.ByPlace.{by_place}
use Rattle.lazy_rec.specs.History.{kind_of}
use Rattle.lazy_rec.proofs.ScriptTests.{IsScript-from_test}
use Rattle.dues.proofs.rooms.tests.smallest_rotation.Goals as goal

pub room-requires-clause-script : goal.room-requires-clause-script
unfolding kind_of by_place
room-requires-clause-script g c = IsScript-from_test _ refl

pub room-requires-clause-kinds : goal.room-requires-clause-kinds
unfolding kind_of by_place
room-requires-clause-kinds g c zero h = refl
room-requires-clause-kinds g c (suc zero) h = refl
room-requires-clause-kinds g c (suc (suc zero)) h = refl
room-requires-clause-kinds g c (suc (suc (suc zero))) h = refl
room-requires-clause-kinds g c (suc (suc (suc (suc zero)))) h = refl
room-requires-clause-kinds g c (suc (suc (suc (suc (suc i))))) h = absurd (omega arith)

pub model_size-requires : goal.model_size-requires
unfolding kind_of by_place
model_size-requires g c = IsScript-from_test _ refl
