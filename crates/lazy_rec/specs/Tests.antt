-- Tests of options.
use Rattle.std.specs.Prelude.{Bool, false, not, ◌||◌, Option, Some, None}

-- there is a value, and it passes the test
abbrev pub is_some_and : {X : Type 0} → (X → Bool) → Option X → Bool
is_some_and test None = false
is_some_and test (Some x) = test x

-- the second test passes where the first one does
abbrev pub implies : Bool → Bool → Bool
implies a b = not a || b
