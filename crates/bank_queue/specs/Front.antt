-- Fronts of banker's queues.
use Rattle.std.specs.Prelude.{ℕ, Bool, true, ◌||◌}
use Rattle.lazy_rec.specs.Named.{Records, at_record}
use Rattle.heap_store.specs.World.{World, recs, holds}
use Rattle.heap_store.specs.Budget.{bank_family, are_discharged}
use Rattle.heap_store.specs.Completion.{is_plain}
use Rattle.heap_store.specs.Lawful.{is_any_bank_rotation}

-- a rotation, or cells all the way
abbrev pub is_front : Records → ℕ → Bool
is_front rs p = holds rs p is_any_bank_rotation || is_plain rs p

-- all units of the rotation's family are discharged, where the front is a rotation
abbrev pub is_paid_front : World → ℕ → Bool
is_paid_front w p = at_record true (λ r. are_discharged w (bank_family r)) (recs w p)
