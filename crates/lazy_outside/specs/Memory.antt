-- What contracts see of a source and of a sink in memory, and how a call changes it.
use Rattle.std.specs.Prelude.{◌-◌, ◌++◌, ℕ, List, drop, take}
use Rattle.lazy_outside.specs.Faults.{one_more}
use Rattle.lazy_outside.specs.declared.Taken.{Taken}
use Rattle.lazy_outside.specs.declared.Given.{Given}
use Rattle.lazy_outside.specs.declared.Taken.TheVariants as taken
use Rattle.lazy_outside.specs.declared.Given.TheVariants as given

pub record SourceState : Type 0 where
  -- the bytes that are still to come
  pub left : List ℕ
  -- the most bytes that one call gives
  pub chunk : ℕ
  -- the numbers of the calls that fail, of which the first is 1
  pub failing : List ℕ
  -- how many calls there were, and how many of them failed
  pub calls : ℕ
  pub faults : ℕ

-- the source after a take with this answer
abbrev pub source_after : SourceState → Taken → SourceState
source_after s (taken.Bytes n) = record s { left = drop n s.left; calls = one_more s.calls }
source_after s taken.End = record s { calls = one_more s.calls }
source_after s taken.Failed = record s { calls = one_more s.calls; faults = one_more s.faults }

pub record SinkState : Type 0 where
  -- the bytes that were given
  pub held : List ℕ
  -- how many more it has room for
  pub room : ℕ
  -- the most bytes that one call takes
  pub chunk : ℕ
  -- the numbers of the calls that fail, of which the first is 1
  pub failing : List ℕ
  -- how many calls there were, and how many of them failed
  pub calls : ℕ
  pub faults : ℕ

-- the sink after a give of a piece with this answer
abbrev pub sink_after : SinkState → Given → List ℕ → SinkState
sink_after s (given.Bytes n) piece = record s { held = s.held ++ take n piece; room = s.room - n; calls = one_more s.calls }
sink_after s given.Failed piece = record s { calls = one_more s.calls; faults = one_more s.faults }
