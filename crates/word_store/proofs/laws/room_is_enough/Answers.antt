use Rattle.word_store.proofs.Given.{room_is_enough}
use Rattle.word_store.proofs.laws.room_is_enough.Goals as goal

pub returns : goal.returns
returns c = room_is_enough
