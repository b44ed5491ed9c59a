-- What takes and gives do to the bytes that a source has left and a sink holds, where these are told.
use Rattle.std.specs.Prelude.{◌≡◌, ◌≤◌, ℕ, List, [], Option, None, Some, length, take}
use Rattle.std.specs.Io.KnownBytes.{Keeps, Appends, Consumes, IsAtEnd}
use Rattle.lazy_outside.specs.declared.Taken.{Taken}
use Rattle.lazy_outside.specs.declared.Given.{Given}
use Rattle.lazy_outside.specs.declared.Taken.TheVariants as taken
use Rattle.lazy_outside.specs.declared.Given.TheVariants as given

-- a take into a buffer, from what was left before to what is left now: bytes come off the front, the end comes only where
-- nothing is left, and a failure takes nothing
abbrev pub Takes : Option (List ℕ) → Option (List ℕ) → Taken → List ℕ → Type 0
Takes old new (taken.Bytes n) buf = (1 ≤ n) × (n ≤ length buf) × Consumes old new (take n buf)
Takes old new taken.End buf = IsAtEnd old × Keeps old new
Takes old new taken.Failed buf = Keeps old new

-- a give of a piece, from what was held before to what is held now: the front of the piece is appended, and a failure
-- appends nothing
abbrev pub Gives : Option (List ℕ) → Option (List ℕ) → Given → List ℕ → Type 0
Gives old new (given.Bytes n) piece = (1 ≤ n) × (n ≤ length piece) × Appends old new (take n piece)
Gives old new given.Failed piece = Keeps old new

-- these bytes were all that was left, and now nothing is left
abbrev pub TakesAll : Option (List ℕ) → Option (List ℕ) → List ℕ → Type 0
TakesAll None new bytes = Unit {0}
TakesAll (Some old) new bytes = (bytes ≡ old) × (new ≡ Some [])
