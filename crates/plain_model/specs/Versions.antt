-- The lists of the versions so far.
use Rattle.std.specs.Prelude.{ℕ, List, [], map, slice_index_or}
use Rattle.lazy_rec.specs.History.{picked}
use Rattle.plain_model.specs.declared.runs.ListPair.{ListPair}

-- the two lists of a name, and empty lists where no event has the name
abbrev pub lists_at : List ListPair → ℕ → List ℕ × List ℕ
lists_at versions name = slice_index_or (map (λ v. (v.first.items, v.second.items)) versions) name ([], [])

-- the list of a version
abbrev pub list_at : List ListPair → ℕ → List ℕ
list_at versions = picked (lists_at versions)
