-- The texts of the reasons.
use Rattle.std.specs.Prelude.{ℕ, List, codes}
use Rattle.script_text.specs.declared.model.Reason.{Reason}
use Rattle.script_text.specs.declared.model.Reason.TheVariants as reasons

-- what is said of a line with this reason
abbrev pub reason_text : Reason → List ℕ
reason_text reasons.NoHeader = codes "no header"
reason_text reasons.UnknownWord = codes "unknown word"
reason_text reasons.WrongCount = codes "wrong count of words"
reason_text reasons.BadNumber = codes "bad number"
reason_text reasons.BaseNotEarlier = codes "base not earlier"
reason_text reasons.NotOfThisKind = codes "operation not of this kind"
reason_text reasons.TwoKinds = codes "bases of two kinds"
reason_text reasons.TooMany = codes "too many events"
reason_text reasons.BadLabel = codes "bad label"
reason_text reasons.UnknownLabel = codes "unknown label"
reason_text reasons.NoSecond = codes "no second version"
