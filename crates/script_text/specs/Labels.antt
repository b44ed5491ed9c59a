-- The labels that the reader keeps.
use Rattle.std.specs.Prelude.{ℕ, List, Option}
use Rattle.std.specs.Str.{bytes_eq}
use Rattle.std.specs.HashMap.{HashMap, get_by}
use denote.Ref.{Bor}

-- the name that a map has for a label
abbrev pub names_in : {S : Type 0} → HashMap (Bor (List ℕ)) ℕ S → List ℕ → Option ℕ
names_in labels w = get_by (λ k. bytes_eq w k.now) labels
