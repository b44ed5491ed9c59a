-- The row that was found in a table.
use Rattle.std.proofs.Common.{◌≡◌, ℕ, List, Option, Bor, sym, ap, ◌∙◌}
use Rattle.std.specs.Prelude.{slice_get, option_map}
use Rattle.script_text.specs.Words.{said_row}

pub row_found : {X : Type 0} (table : List (List ℕ × X)) (r o : Option (Bor (List ℕ) × X)) (n m : ℕ) → n ≡ m → option_map said_row r ≡ slice_get table n → r ≡ o → slice_get table m ≡ option_map said_row o
row_found table r o n m same is found = ap (slice_get table) (sym same) ∙ (sym is ∙ ap (option_map said_row) found)
