-- What structures share whose work is done in one build and whose operations have one stage.
use Rattle.std.specs.Prelude.{ℕ, eqb, Bool, true, false}
use Rattle.heap_store.specs.declared.jobs.After.{After}
use Rattle.heap_store.specs.declared.jobs.After.TheVariants.{End, Next}
use Rattle.heap_store.specs.World.{World}

-- pending work tells its build nothing but the number of its places
abbrev pub nothing_told : World → ℕ → ℕ → Type 0
nothing_told w s nodes = Unit {0}

-- the event has ended
abbrev pub is_end : After → Bool
is_end (End _ _ _) = true
is_end (Next _) = false

-- the event ended at this root
abbrev pub ends_at : After → ℕ → Bool
ends_at (End root _ _) p = eqb root.0 p
ends_at (Next _) p = false
