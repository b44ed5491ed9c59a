use Rattle.std.proofs.Common.{length}
use Rattle.dues.proofs.RoomLaws.{places_to_fit, bounds_to_fit}
use Rattle.dues.proofs.rooms.room_fits.Goals as goal

pub returns-clause-room : goal.returns-clause-room
returns-clause-room c events script = places_to_fit events (length events) script.few

pub returns-clause-model_size : goal.returns-clause-model_size
returns-clause-model_size c events script = bounds_to_fit events (length events) script.few
