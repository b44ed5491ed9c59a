-- What a pass is seen as.
use Rattle.std.specs.Prelude.{ℕ}
use Rattle.heap_store.specs.View.{View}

-- the view of its heap, and the number of the caller whose rows it stores
pub record Pass : Type 0 where
  pub view : View
  pub caller : ℕ

abbrev pub pass_of : View → ℕ → Pass
pass_of v caller = record { view = v; caller = caller }
