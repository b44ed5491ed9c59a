-- A text that is written from its front, and numbers that are counted up in it.
use Rattle.std.specs.Prelude.{ℕ, List, ◌++◌, codes, decimal}

-- what was written, and how many bytes more there is room for
pub record Written : Type 0 where
  pub text : List ℕ
  pub room : ℕ

-- the digits of a number, what follows them in the line of an event that replies ok, and 16 bytes more
abbrev pub counted : ℕ → List ℕ
counted n = decimal n ++ codes " ok\n                "
