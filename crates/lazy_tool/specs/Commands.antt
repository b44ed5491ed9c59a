-- Which words of the command line read as which command.
use Rattle.std.specs.Prelude.{◌≡◌, ◌≤◌, ◌⊎◌, ℕ, List, [], ◌∷◌, ◌++◌, length, codes, Option, None, Some}
use Rattle.std.specs.Str.Parse.{IsNumeral, digits_value}
use Rattle.lazy_rec.specs.declared.limits.TheConstants.{MOST_EVENTS, MOST_NODES}
use Rattle.lazy_tool.specs.declared.words.Command.{Command}
use Rattle.lazy_tool.specs.declared.words.Command.TheVariants.{Plain, Gen}

-- a word of decimal digits, one to so many of them, that writes a number of at most so much
pub record IsNumber (digits most : ℕ) (word : List ℕ) (n : ℕ) : Type 0 where
  pub numeral : IsNumeral 10 word
  pub short : length word ≤ digits
  pub value : digits_value 10 word ≡ n
  pub fits : n ≤ most

-- `plain` with the option `--nodes`, whose number stands in a word of its own or behind `=`
pub record ArePlain (words : List (List ℕ)) (nodes : ℕ) : Type 0 where
  pub word : List ℕ
  pub number : IsNumber 10 MOST_NODES word nodes
  pub are : (words ≡ codes "plain" ∷ codes "--nodes" ∷ word ∷ []) ⊎ (words ≡ codes "plain" ∷ (codes "--nodes=" ++ word) ∷ [])

-- `gen` with a seed and a number of events
pub record AreGen (words : List (List ℕ)) (seed events : ℕ) : Type 0 where
  pub first : List ℕ
  pub second : List ℕ
  pub seed_is : IsNumber 20 18446744073709551615 first seed
  pub events_are : IsNumber 10 MOST_EVENTS second events
  pub are : words ≡ codes "gen" ∷ first ∷ second ∷ []

-- the words read as this command
abbrev pub ReadsAs : List (List ℕ) → Command → Type 0
ReadsAs words (Plain None) = words ≡ codes "plain" ∷ []
ReadsAs words (Plain (Some n)) = ArePlain words n
ReadsAs words (Gen seed events) = AreGen words seed events

-- the answer is a command that the words read as, or nothing, and then they have no reading
abbrev pub IsReading : List (List ℕ) → Option Command → Type 0
IsReading words None = (command : Command) → ReadsAs words command → ⊥
IsReading words (Some command) = ReadsAs words command
