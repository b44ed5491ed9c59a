-- The pending work of heaps, and the places that it takes. They follow from the sizes: full trees of different ranks are the
-- binary digits 1 of their number of items.
use Rattle.std.specs.Prelude.{◌≡◌, ℕ, zero, suc, ◌+◌, ◌*◌, ◌/◌, ◌%◌, eqb, Bool, true, false, cond, ◌||◌, Some}
use Rattle.lazy_rec.specs.declared.records.Rec.{Rec}
use Rattle.lazy_rec.specs.declared.records.Rec.TheVariants.{HeapInsert, HeapMerge}
use Rattle.lazy_rec.specs.Numbers.{trailing_ones}
use Rattle.heap_store.specs.World.{World, recs}

abbrev pub is_heap_work : Rec → Bool
is_heap_work (HeapInsert _ _ _) = true
is_heap_work (HeapMerge _ _ _ _) = true
is_heap_work _ = false

-- the places of an insert into a list of so many items: two for each carry and two for the new tree
abbrev pub insert_places : ℕ → ℕ
insert_places size = 2 * (trailing_ones size + 1)

-- the places of a rank of a merge, from the number of its trees in both lists and from the items of higher rank, in trees of the
-- next rank: none or one, and for two trees two to link them, one, and two for each carry
abbrev pub rank_places : ℕ → ℕ → ℕ
rank_places trees higher = cond (eqb trees 2) (2 * trailing_ones higher + 3) trees

-- the places of a merge of lists of so many items, in trees of a rank and higher ones, with so many ranks at most: where a list has
-- no tree the other one stays
abbrev pub places_by_ranks : ℕ → ℕ → ℕ → ℕ
places_by_ranks zero n m = 0
places_by_ranks (suc ranks) n m = cond (eqb n 0 || eqb m 0) 0 (places_by_ranks ranks (n / 2) (m / 2) + rank_places (n % 2 + m % 2) (n / 2 + m / 2))

unfoldable pub merge_places_of : ℕ → ℕ → ℕ
merge_places_of n m = places_by_ranks 32 n m

abbrev pub work_places : Rec → ℕ
work_places (HeapInsert _ _ size) = insert_places size
work_places (HeapMerge _ _ n1 n2) = merge_places_of n1 n2
work_places _ = 0

-- an insert or a merge whose lists are done takes exactly these places
abbrev pub heap_told : World → ℕ → ℕ → Type 0
heap_told w s nodes = (r : Rec) → recs w s ≡ Some r → is_heap_work r ≡ true → nodes ≡ work_places r
