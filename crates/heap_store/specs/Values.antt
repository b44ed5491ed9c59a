-- Where the value of a place stands, the sorts of what has cells, and the items of cells.
use Rattle.std.specs.Prelude.{ℕ, Bool, cond, Option, Some, List, [], flat_map, option_map, option_and_then}
use Rattle.lazy_rec.specs.declared.records.Rec.{Rec}
use Rattle.lazy_rec.specs.declared.records.Sort.TheVariants as sorts
use Rattle.lazy_rec.specs.Named.{sort_of, same_sort, is_pending}
use Rattle.lazy_rec.specs.Meaning.{Entry, items_of}
use Rattle.heap_store.specs.World.{World, recs, done_at}

-- the place of a record's value: its own, or its Done place; none while it isn't done
abbrev pub value_place_of : World → ℕ → Rec → Option ℕ
value_place_of w p r = cond (is_pending r) (option_map (λ (d : ℕ × ℕ). d.0) (done_at w p)) (Some p)

abbrev pub value_place : World → ℕ → Option ℕ
value_place w p = option_and_then (value_place_of w p) (recs w p)

-- a cell of a stream, its end, or a suspension of one
abbrev pub is_stream_part : Rec → Bool
is_stream_part r = same_sort (sort_of r) sorts.Stream

-- a cell of a list, or its end
abbrev pub is_list : Rec → Bool
is_list r = same_sort (sort_of r) sorts.List

-- the items of entries that are no lists
abbrev pub items_in : List Entry → List ℕ
items_in es = flat_map (items_of (λ _. [])) es
