-- The put of a deep tree of which only the digit of one side is new.
use Rattle.std.specs.Prelude.{ℕ}
use Rattle.lazy_rec.specs.declared.places.Ref.{Ref}
use Rattle.heap_store.specs.Span.{Span}
use Rattle.heap_store.specs.View.{View}
use Rattle.finger_level.specs.declared.few.Few.{Few}
use Rattle.finger_level.specs.declared.few.Weight.{Weight}
use Rattle.finger_level.specs.declared.level.Digit.{Digit}
use Rattle.finger_level.specs.declared.level.Digit.TheVariants as digits
use Rattle.finger_level.specs.declared.level.Side.{Side}
use Rattle.finger_level.specs.Reads.{IsDigitAt}
use Rattle.finger_level.specs.Puts.{EndsAsk, EndsPut}
use Rattle.finger_level.specs.Pops.{both_ends}

-- a new digit on the side, and a digit that stands on the other: from left to right
abbrev pub near_digits : Side → Few → Ref → Few → Digit × Digit
near_digits side near far other = both_ends side (digits.New near) (digits.Old far other)

-- what the put of a digit and of the deep tree that has it on the side asks: the middle and the other digit stand
pub record NearAsk (v : View) (run : Span) (side : Side) (near : Few) (middle far : Ref) (whole : Weight) : Type 0 where
  pub other : Few
  pub ends : EndsAsk v run (near_digits side near far other).0 middle.0 (near_digits side near far other).1 whole.size

-- they were put
pub record NearPut (old new : View) (before after : Span) (side : Side) (near : Few) (middle far : Ref) (whole : Weight) (place : ℕ) : Type 0 where
  pub other : Few
  pub there : IsDigitAt old.seen far.0 other
  pub ends : EndsPut old new before after (near_digits side near far other).0 middle (near_digits side near far other).1 whole place
