-- What the system's answers to a read and to a write mean.
use Rattle.std.specs.Prelude.{ℕ, zero, suc, Bool, true, false, cond, Option, None, Some, Result, Ok, Err}
use Rattle.std.specs.IoError.{error_kind}
use Rattle.std.specs.declared.io.Error.{Error}
use Rattle.std.specs.declared.io.ErrorKind.{ErrorKind}
use Rattle.std.specs.declared.io.ErrorKind.TheVariants.{Interrupted}
use Rattle.lazy_outside.specs.declared.Taken.{Taken}
use Rattle.lazy_outside.specs.declared.Given.{Given}
use Rattle.lazy_outside.specs.declared.Taken.TheVariants as taken
use Rattle.lazy_outside.specs.declared.Given.TheVariants as given

-- a signal came before the call did anything
abbrev pub is_interrupted : ErrorKind → Bool
is_interrupted Interrupted = true
is_interrupted _ = false

-- the answer to a read into a buffer that isn't empty: no byte is the end. After an interruption it is to be asked again
abbrev pub taken_of : Result ℕ Error → Option Taken
taken_of (Ok zero) = Some taken.End
taken_of (Ok (suc n)) = Some (taken.Bytes (suc n))
taken_of (Err e) = cond (is_interrupted (error_kind e)) None (Some taken.Failed)

-- the answer to a write of a piece that isn't empty: no byte is a failure. After an interruption it is to be asked again
abbrev pub given_of : Result ℕ Error → Option Given
given_of (Ok zero) = Some given.Failed
given_of (Ok (suc n)) = Some (given.Bytes (suc n))
given_of (Err e) = cond (is_interrupted (error_kind e)) None (Some given.Failed)
